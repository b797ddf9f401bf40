use Rattle.std.proofs.Common.{◌∙◌, [], sym, ap, subst, drop}
use Rattle.std.specs.Prelude.{Bool, true, false, if◌then◌else◌}
use Rattle.std.specs.declared.option.Option.TheVariants.{Some, None}
use Rattle.pipe_model.specs.Counts.{all_on}
use Rattle.pipe_model.specs.SpecsRows.{run, closed}
use Rattle.specs_stage.specs.Desks.{desk_of}
use Rattle.specs_stage.specs.Cycles.{IsAt, IsEnded}
use Rattle.specs_stage.proofs.CycleSteps.{ends_faulty, ends_between, ends_within, wrote_faulty, wrote_between, wrote_within, within_after, given_ended}
use Rattle.specs_stage.proofs.cycle.Cycle.end.Goals as goal

pub returns-then-self-clause-ended : goal.returns-then-self-clause-ended
returns-then-self-clause-ended c = λ recs wrote is. let x = c.args.self.now in
    subst (λ (b : Bool). IsEnded x.items.items x.desk b recs) (sym c.if-self.true)
    (ends_faulty x.items.items recs x.desk wrote x.at (subst (λ (b : Bool). IsAt x.items.items x.desk wrote x.at b recs) c.if-self.true is))

pub returns-then-self-clause-due : goal.returns-then-self-clause-due
returns-then-self-clause-due c = λ recs wrote is. let x = c.args.self.now in
    ap (all_on 0) c.clear.ensures.items
    ∙ wrote_faulty x.items.items recs x.desk wrote x.at (subst (λ (b : Bool). IsAt x.items.items x.desk wrote x.at b recs) c.if-self.true is)

pub returns-then-self-eq0-clause-ended : goal.returns-then-self-eq0-clause-ended
returns-then-self-eq0-clause-ended c = λ recs wrote is. let x = c.args.self.now in
    subst (λ (b : Bool). IsEnded x.items.items x.desk b recs) (sym c.if-self.false)
    (ends_between x.items.items recs x.desk wrote x.at c.if-self-eq0.true (subst (λ (b : Bool). IsAt x.items.items x.desk wrote x.at b recs) c.if-self.false is))

pub returns-then-self-eq0-clause-due : goal.returns-then-self-eq0-clause-due
returns-then-self-eq0-clause-due c = λ recs wrote is. let x = c.args.self.now in
    ap (all_on 0) c.clear.ensures.items
    ∙ wrote_between x.items.items recs x.desk wrote x.at c.if-self-eq0.true (subst (λ (b : Bool). IsAt x.items.items x.desk wrote x.at b recs) c.if-self.false is)

pub returns-in_ok-close-clause-ended : goal.returns-in_ok-close-clause-ended
returns-in_ok-close-clause-ended c = λ recs wrote is. let x = c.args.self.now in
    let from = c.items_from.ensures ∙ ap (drop x.at) c.deref.ensures.value in
    let y = c.run_to_end.new.self in
    let z = c.close.new.self in
    subst (λ (b : Bool). IsEnded x.items.items c.give.new.self b recs) (sym c.if-self.false)
    (given_ended x.items.items recs z c.give.new.self c.give.ensures.number c.give.ensures.left
    (ends_within x.items.items recs x.desk y z wrote x.at false c.if-self-eq0.false (subst (λ (b : Bool). IsAt x.items.items x.desk wrote x.at b recs) c.if-self.false is)
    (ap (λ xs. run xs (desk_of x.desk [] [])) (sym from) ∙ c.in_ok-run_to_end.ensures ∙ ap (λ good. if good then Some (desk_of y [] []) else None) c.if-branch.true)
    (λ _. c.in_ok-close.ensures [] [] ∙ ap (λ xs. closed xs (desk_of y [] [])) c.deref-then-branch.ensures.value)))

pub returns-in_ok-close-clause-due : goal.returns-in_ok-close-clause-due
returns-in_ok-close-clause-due c = λ recs wrote is. let x = c.args.self.now in
    let from = c.items_from.ensures ∙ ap (drop x.at) c.deref.ensures.value in
    let y = c.run_to_end.new.self in
    let z = c.close.new.self in
    let at = subst (λ (b : Bool). IsAt x.items.items x.desk wrote x.at b recs) c.if-self.false is in
    ap (all_on 0) c.give.ensures.due
    ∙ wrote_within x.items.items recs x.desk wrote x.at (Some (desk_of z [] [])) c.if-self-eq0.false at
    (within_after x.items.items recs x.desk y z wrote x.at false c.if-self-eq0.false at
    (ap (λ xs. run xs (desk_of x.desk [] [])) (sym from) ∙ c.in_ok-run_to_end.ensures ∙ ap (λ good. if good then Some (desk_of y [] []) else None) c.if-branch.true)
    (λ _. c.in_ok-close.ensures [] [] ∙ ap (λ xs. closed xs (desk_of y [] [])) c.deref-then-branch.ensures.value))

pub returns-else-branch-clause-ended : goal.returns-else-branch-clause-ended
returns-else-branch-clause-ended c = λ recs wrote is. let x = c.args.self.now in
    let from = c.items_from.ensures ∙ ap (drop x.at) c.deref.ensures.value in
    let y = c.run_to_end.new.self in
    ends_within x.items.items recs x.desk y y wrote x.at true c.if-self-eq0.false (subst (λ (b : Bool). IsAt x.items.items x.desk wrote x.at b recs) c.if-self.false is)
    (ap (λ xs. run xs (desk_of x.desk [] [])) (sym from) ∙ c.in_ok-run_to_end.ensures ∙ ap (λ good. if good then Some (desk_of y [] []) else None) c.if-branch.false)
    (λ no. absurd (cc))

pub returns-else-branch-clause-due : goal.returns-else-branch-clause-due
returns-else-branch-clause-due c = λ recs wrote is. let x = c.args.self.now in
    let from = c.items_from.ensures ∙ ap (drop x.at) c.deref.ensures.value in
    let y = c.run_to_end.new.self in
    let at = subst (λ (b : Bool). IsAt x.items.items x.desk wrote x.at b recs) c.if-self.false is in
    ap (all_on 0) c.clear.ensures.items
    ∙ wrote_within x.items.items recs x.desk wrote x.at None c.if-self-eq0.false at
    (within_after x.items.items recs x.desk y y wrote x.at true c.if-self-eq0.false at
    (ap (λ xs. run xs (desk_of x.desk [] [])) (sym from) ∙ c.in_ok-run_to_end.ensures ∙ ap (λ good. if good then Some (desk_of y [] []) else None) c.if-branch.false)
    (λ no. absurd (cc)))
