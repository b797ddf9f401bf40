use Rattle.std.proofs.Common.{◌≡◌, ◌≤◌, ◌+◌, ◌-◌, ◌⊎◌, inl, inr, ⊎_elim, true, false, length, sym, ◌∙◌, ap, subst, arith}
use Rattle.std.proofs.lemmas.Bool.{cases_lt}
use Rattle.pipe_model.specs.declared.step.Seen.{Seen}
use Rattle.core_machine.specs.declared.run.Which.{Which}
use Rattle.core_machine.specs.Answered.{is_of_record}
use Rattle.core_machine.specs.Machine.{Machine}
use Rattle.core_machine.specs.Runs.{is_made, may_end}
use Rattle.core_machine.proofs.Broken.{breaks_on_records, on_err}
use Rattle.core_machine.proofs.Runs.{run_longer, run_by_records, end_by_records, not_true}
use Rattle.core_machine.proofs.core_state.Core.run_on_records.Goals as goal
use Rattle.core_machine.proofs.core_state.Core.run_on_records.Goals.{then-sights, else-sights}

pub returns-clause-runs : goal.returns-clause-runs
returns-clause-runs g c =
    let longer = run_longer (is_made c.if-sights.which) c.args.self.now c.run.new.self c.in_ok-run.ensures.runs in
    let start = c.len-start.ensures.length in
    let now = c.len.ensures.length in
    let of_records : (seen : Seen) → is_made c.if-sights.which seen ≡ true → is_of_record c.args.sights seen ≡ true = elim c.if-sights.branch [
      | then-sights w ↦ λ seen made. subst (λ b. is_of_record b seen ≡ true) (sym w.if-sights.true) (subst (λ (which : Which). is_made which seen ≡ true) w.which-is made)
      | else-sights w ↦ λ seen made. subst (λ b. is_of_record b seen ≡ true) (sym w.if-sights.false) (subst (λ (which : Which). is_made which seen ≡ true) w.which-is made)
    ] in
    let counts : length c.args.self.now.journal + (c.len.result - c.len-start.result) ≡ length c.run.new.self.journal = omega (arith, longer, start, now) in
    let few : c.len.result - c.len-start.result ≤ c.args.most = omega (arith, longer, start, now, c.in_ok-run.ensures.within, c.saturating_add.ensures, c.min-limit.ensures) in
    (run_by_records (is_made c.if-sights.which) c.args.sights of_records c.args.self.now c.run.new.self (c.len.result - c.len-start.result) c.in_ok-run.ensures.runs counts, few)

pub returns-clause-ends : goal.returns-clause-ends
returns-clause-ends g c =
    let start = c.len-start.ensures.length in
    let now = c.len.ensures.length in
    let bounded = c.len.ensures.lawful.bounded in
    let budget : c.self.inside.budget ≡ c.run.new.self.budget = ap (λ (z : Machine). z.budget) c.self.view_is ∙ sym (ap (λ (z : Machine). z.budget) c.in_ok-run.ensures.runs.after) in
    let others : (seen : Seen) → may_end c.if-sights.which seen ≡ true → is_of_record false seen ≡ false = elim c.if-sights.branch [
      | then-sights w ↦ λ seen ends. not_true (is_of_record false seen) (subst (λ (which : Which). may_end which seen ≡ true) w.which-is ends)
      | else-sights w ↦ λ seen ends. not_true (is_of_record false seen) (subst (λ (which : Which). may_end which seen ≡ true) w.which-is ends)
    ] in
    let at : length c.run.new.self.journal ≡ c.min-limit.result → (c.len.result - c.len-start.result ≡ c.args.most) ⊎ (length c.run.new.self.journal ≡ c.run.new.self.budget) = λ full. ⊎_elim
    (λ spent. inr (omega (arith, spent, full, budget, bounded, c.saturating_add.ensures, c.min-limit.ensures)))
    (λ all. inl (omega (arith, all, full, budget, bounded, start, now, c.saturating_add.ensures, c.min-limit.ensures)))
    (cases_lt c.run.new.self.budget (c.len-start.result + c.args.most)) in
    end_by_records (may_end c.if-sights.which) c.min-limit.result c.args.most (c.len.result - c.len-start.result) c.run.new.self others at c.in_ok-run.ensures.ends

pub returns-in_err-run-clause-lacks : goal.returns-in_err-run-clause-lacks
returns-in_err-run-clause-lacks g c =
    let start = c.len-start.ensures.length in
    let of_records : (seen : Seen) → is_made c.if-sights.which seen ≡ true → is_of_record c.args.sights seen ≡ true = elim c.if-sights.branch [
      | then-sights w ↦ λ seen made. subst (λ b. is_of_record b seen ≡ true) (sym w.if-sights.true) (subst (λ (which : Which). is_made which seen ≡ true) w.which-is made)
      | else-sights w ↦ λ seen made. subst (λ b. is_of_record b seen ≡ true) (sym w.if-sights.false) (subst (λ (which : Which). is_made which seen ≡ true) w.which-is made)
    ] in
    let few : c.min-limit.result ≤ length c.args.self.now.journal + c.args.most = omega (arith, start, c.saturating_add.ensures, c.min-limit.ensures) in
    on_err _ _ (breaks_on_records (is_made c.if-sights.which) c.args.sights of_records c.min-limit.result c.args.most c.args.self.now c.run.new.self few c.in_err-run.ensures.lacks)
