-- What GATHER's value stands for behind each call.
use Rattle.std.proofs.Common.{◌≡◌, ◌+◌, ℕ, suc, true, false, cond, ltb, not, ◌==◌, ◌&&◌, ◌||◌, List, [], ◌∷◌, ◌++◌, length, refl, sym, ◌∙◌, ap, subst, arith, Some}
use Rattle.std.specs.Prelude.{min}
use Rattle.std.specs.List.{remove}
use Rattle.std.proofs.lemmas.Bool.Decides.{nat_tests}
use Rattle.pipe_model.specs.Event.{Want, answers}
use Rattle.pipe_model.specs.Event.Event.{Saw, SawEnd}
use Rattle.pipe_model.specs.FanRows.{around, behind_last, gathering}
use Rattle.pipe_model.specs.Members.{has}
use Rattle.pipe_model.specs.Next.{hears, nothing_known}
use Rattle.pipe_model.specs.Row.{Pair, Plan, Known}
use Rattle.pipe_model.specs.Shape.{asks, can_read, all_inputs, turn_plan}
use Rattle.pipe_model.proofs.Numbers.{test_same}
use Rattle.fan_stages.specs.declared.gather.Gather.{Gather}
use Rattle.fan_stages.specs.declared.passing.Passing.TheVariants.{Writing, Passed}
use Rattle.fan_stages.specs.Gather.{turn_of, IsTurn, GatherStands}
use Rattle.fan_stages.specs.Passing.{passes_on, PassesOn}
use Rattle.fan_stages.proofs.Passes.{asked_saw, asked_end, passes_first, passes_saw, passes_end}
use Rattle.fan_stages.proofs.Turns.{all_open, turn_found, moved, removes}

last_came : (seen : List Pair) (i : ℕ) (rec : List ℕ) → behind_last (seen ++ (i, rec) ∷ []) ≡ suc i
last_came [] i rec = refl
last_came (p ∷ []) i rec = refl
last_came (p ∷ q ∷ ps) i rec = last_came (q ∷ ps) i rec

-- an input that ended can't be read any more
ended_now : (n i : ℕ) (ends : List ℕ) → can_read n (i ∷ ends) i ≡ false
ended_now n i ends = ap (λ b. ltb i n && not (b || has ends i)) (test_same i) ∙ grind (arith, nat_tests)

ended_other : (n i : ℕ) (ends : List ℕ) (j : ℕ) → (i == j) ≡ false → can_read n (i ∷ ends) j ≡ can_read n ends j
ended_other n i ends j apart = ap (λ b. ltb j n && not (b || has ends j)) apart

module _ (x : Gather) (plan : Known → Plan) (k : Known) (want : Want) (i : ℕ) (is : GatherStands x plan k (asks want)) where
  abbrev order : ℕ → List Pair → List ℕ
  order inputs seen = around (behind_last seen) (all_inputs inputs)

  pub gather_saw : (rec : List ℕ) (place' : ℕ) → place' ≡ cond (ltb x.place (length x.open.items)) (x.place + 1) 1 → answers (Some want) (Saw i rec) ≡ true →
      GatherStands (record x { place = place'; passing = Writing i }) plan (hears k (Saw i rec)) (plan (hears k (Saw i rec)))
  gather_saw rec place' place_is fits =
      let can = can_read is.inputs k.ends in
      let here : turn_of x.open.items x.place ≡ Some i = asked_saw (turn_of x.open.items x.place) want i rec is.reads.goal_is fits in
      let m = moved is.inputs can is.before is.behind x.open.items x.place i is.turn here in
      let turn : IsTurn can (all_inputs is.inputs) m.before m.behind x.open.items place' = subst (λ p. IsTurn can (all_inputs is.inputs) m.before m.behind x.open.items p) (sym place_is) m.turn in
      let last : behind_last (k.seen ++ (i, rec) ∷ []) ≡ length m.before = last_came k.seen i rec ∙ m.last_is in
      record {
        inputs = is.inputs;
        before = m.before;
        behind = m.behind;
        turn = turn;
        last_is = last;
        reads = passes_saw is.inputs order x.passing (turn_of x.open.items x.place) plan k want i rec (turn_of x.open.items place') is.reads fits
            (λ _. turn_found can (all_inputs is.inputs) m.before m.behind x.open.items place' (behind_last (k.seen ++ (i, rec) ∷ [])) turn last);
      }

  pub gather_end : (turn : ℕ) (y : Gather) → turn ≡ cond (ltb x.place (length x.open.items)) x.place 0 → y.open.items ≡ remove x.open.items turn → y.place ≡ min x.place (length y.open.items) → y.passing ≡ Passed →
      answers (Some want) (SawEnd i) ≡ true → GatherStands y plan (hears k (SawEnd i)) (plan (hears k (SawEnd i)))
  gather_end turn y turn_is open_is place_is passing_is fits =
      let can = can_read is.inputs k.ends in
      let can' = can_read is.inputs (i ∷ k.ends) in
      let here : turn_of x.open.items x.place ≡ Some i = asked_end (turn_of x.open.items x.place) want i is.reads.goal_is fits in
      let r = removes is.inputs can is.before is.behind x.open.items x.place i is.turn can' (ended_other is.inputs i k.ends) (ended_now is.inputs i k.ends) here in
      let opened : remove x.open.items (cond (ltb x.place (length x.open.items)) x.place 0) ≡ y.open.items = ap (remove x.open.items) (sym turn_is) ∙ sym open_is in
      let turned : IsTurn can' (all_inputs is.inputs) is.before is.behind y.open.items y.place =
      subst (λ p. IsTurn can' (all_inputs is.inputs) is.before is.behind y.open.items p) (sym place_is)
      (subst (λ l. IsTurn can' (all_inputs is.inputs) is.before is.behind l (min x.place (length l))) opened r) in
      record {
        inputs = is.inputs;
        before = is.before;
        behind = is.behind;
        turn = turned;
        last_is = is.last_is;
        reads = subst (λ p. PassesOn is.inputs order p (turn_of y.open.items y.place) plan (hears k (SawEnd i)) (plan (hears k (SawEnd i)))) (sym passing_is)
            (passes_end is.inputs order x.passing (turn_of x.open.items x.place) plan k want i (turn_of y.open.items y.place) is.reads fits
            (λ _. turn_found can' (all_inputs is.inputs) is.before is.behind y.open.items y.place (behind_last k.seen) turned is.last_is));
      }

pub gather_first : (n : ℕ) (x : Gather) → x.open.items ≡ all_inputs n → x.place ≡ 0 → x.passing ≡ Passed →
    GatherStands x (λ k. turn_plan n gathering k k.told) nothing_known (turn_plan n gathering nothing_known nothing_known.told)
gather_first n x open_is place_is passing_is =
    let can = can_read n [] in
    let turned : IsTurn can (all_inputs n) [] (all_inputs n) x.open.items x.place = record { all_are = refl; open_are = open_is ∙ sym (all_open n); place_is = place_is } in
    record {
      inputs = n;
      before = [];
      behind = all_inputs n;
      turn = turned;
      last_is = refl;
      reads = subst (λ p. PassesOn n gathering.order p (turn_of x.open.items x.place) (passes_on n gathering.order) nothing_known (passes_on n gathering.order nothing_known)) (sym passing_is)
          (passes_first n gathering.order (turn_of x.open.items x.place) (turn_found can (all_inputs n) [] (all_inputs n) x.open.items x.place 0 turned refl));
    }
