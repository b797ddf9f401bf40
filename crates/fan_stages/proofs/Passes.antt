-- What a stage that passes on each record of its inputs has left behind each call.
use Rattle.std.proofs.Common.{◌≡◌, ◌<◌, ℕ, true, false, cond, ◌==◌, List, [], ◌∷◌, ◌++◌, length, refl, sym, ◌∙◌, ap, subst, arith, Some, None, Option}
use Rattle.std.specs.Prelude.{find, filter}
use Rattle.std.proofs.lemmas.Bool.{eqb-true}
use Rattle.std.proofs.lemmas.List.{append-nil, map-append}
use Rattle.std.proofs.lemmas.List.Elements.{filter-append}
use Rattle.pipe_model.specs.Event.{Want, answers}
use Rattle.pipe_model.specs.Event.Event.{Saw, SawEnd}
use Rattle.pipe_model.specs.FanRows.{passed}
use Rattle.pipe_model.specs.Inputs.{records_from}
use Rattle.pipe_model.specs.Next.{hears, nothing_known}
use Rattle.pipe_model.specs.Row.{Pair, Act, Plan, Known}
use Rattle.pipe_model.specs.Row.Act.{Writes, Takes}
use Rattle.pipe_model.specs.Row.Goal.{Asks}
use Rattle.pipe_model.specs.Shape.{asks, at_hand_of, can_read, look, read_next, records_of, writes}
use Rattle.pipe_model.proofs.Numbers.{test_same}
use Rattle.stage_steps.specs.Plans.{last_from}
use Rattle.stage_steps.proofs.Walks.{at_hand}
use Rattle.fan_stages.specs.declared.passing.Passing.{Passing}
use Rattle.fan_stages.specs.declared.passing.Passing.TheVariants.{Writing, Passed}
use Rattle.fan_stages.specs.Passing.{passing_acts, passes_on, IsOfCame, PassesOn}

-- The record that came last

-- of an input, where one more came from it
from_more : (seen : List Pair) (i : ℕ) (rec : List ℕ) → records_from i (seen ++ (i, rec) ∷ []) ≡ records_from i seen ++ rec ∷ []
from_more seen i rec =
    ap records_of (filter-append (λ (p : Pair). p.0 == i) seen ((i, rec) ∷ []) ∙ ap (λ b. filter (λ (p : Pair). p.0 == i) seen ++ cond b ((i, rec) ∷ []) []) (test_same i))
    ∙ map-append (λ (p : Pair). p.1) (filter (λ (p : Pair). p.0 == i) seen) ((i, rec) ∷ [])

pub came_last : (seen : List Pair) (i : ℕ) (rec : List ℕ) → last_from (seen ++ (i, rec) ∷ []) i ≡ rec
came_last seen i rec = ap at_hand_of (from_more seen i rec) ∙ at_hand (records_from i seen) rec

some_more : {A : Type 0} (xs : List A) (x : A) → 0 < length (xs ++ x ∷ [])
some_more [] x = omega arith
some_more (y ∷ xs) x = omega arith

pub some_came : (seen : List Pair) (i : ℕ) (rec : List ℕ) → 0 < length (records_from i (seen ++ (i, rec) ∷ []))
some_came seen i rec = subst (λ (l : List (List ℕ)). 0 < length l) (sym (from_more seen i rec)) (some_more (records_from i seen) rec)

-- of the other inputs
from_others : (seen : List Pair) (i j : ℕ) (rec : List ℕ) → (i == j) ≡ false → records_from j (seen ++ (i, rec) ∷ []) ≡ records_from j seen
from_others seen i j rec other =
    ap records_of (filter-append (λ (p : Pair). p.0 == j) seen ((i, rec) ∷ []) ∙ ap (λ b. filter (λ (p : Pair). p.0 == j) seen ++ cond b ((i, rec) ∷ []) []) other ∙ append-nil (filter (λ (p : Pair). p.0 == j) seen))

pub other_last : (seen : List Pair) (i j : ℕ) (rec : List ℕ) → (i == j) ≡ false → last_from (seen ++ (i, rec) ∷ []) j ≡ last_from seen j
other_last seen i j rec other = ap at_hand_of (from_others seen i j rec other)

pub other_came : (seen : List Pair) (i j : ℕ) (rec : List ℕ) → (i == j) ≡ false → 0 < length (records_from j seen) → 0 < length (records_from j (seen ++ (i, rec) ∷ []))
other_came seen i j rec other some = subst (λ (l : List (List ℕ)). 0 < length l) (sym (from_others seen i j rec other)) some

-- what the record at hand causes
passed_last : (seen : List Pair) (i : ℕ) (rec : List ℕ) → passed (seen ++ (i, rec) ∷ []) ≡ (0, rec) ∷ []
passed_last [] i rec = refl
passed_last (p ∷ []) i rec = refl
passed_last (p ∷ q ∷ ps) i rec = passed_last (q ∷ ps) i rec

-- What it asked for

-- an answer tells of the input that was to be read
pub asked_saw : (next : Option ℕ) (want : Want) (i : ℕ) (rec : List ℕ) → Asks want ≡ look next → answers (Some want) (Saw i rec) ≡ true → next ≡ Some i
asked_saw None want i rec is fits = cc
asked_saw (Some j) want i rec is fits =
    let it : want ≡ Want.Read j = cc in
    ap Some (sym (eqb-true i j (subst (λ w. answers (Some w) (Saw i rec) ≡ true) it fits)))

pub asked_end : (next : Option ℕ) (want : Want) (i : ℕ) → Asks want ≡ look next → answers (Some want) (SawEnd i) ≡ true → next ≡ Some i
asked_end None want i is fits = cc
asked_end (Some j) want i is fits =
    let it : want ≡ Want.Read j = cc in
    ap Some (sym (eqb-true i j (subst (λ w. answers (Some w) (SawEnd i) ≡ true) it fits)))

-- The plans

acts_then : (acts : List Act) (next : Option ℕ) → (read_next acts [] next).acts ≡ acts
acts_then acts (Some i) = refl
acts_then acts None = append-nil acts

goal_then : (acts : List Act) (next : Option ℕ) → (read_next acts [] next).goal ≡ look next
goal_then acts (Some i) = refl
goal_then acts None = refl

module _ (inputs : ℕ) (order : ℕ → List Pair → List ℕ) where
  abbrev reading : Known → Option ℕ
  reading k = find (can_read inputs k.ends) (order inputs k.seen)

  -- a plan that is just made: by its acts, and what is read next
  made : (k : Known) (passing : Passing) (next : Option ℕ) (acts : List Act) → passes_on inputs order k ≡ read_next acts [] (reading k) → IsOfCame passing k.seen → acts ≡ passing_acts passing (last_from k.seen) → reading k ≡ next →
      PassesOn inputs order passing next (passes_on inputs order) k (passes_on inputs order k)
  made k passing next acts is came acts_are next_is = record {
    plan_is = refl;
    next_is = next_is;
    came = came;
    acts_are = ap (λ (p : Plan). p.acts) is ∙ acts_then acts (reading k) ∙ acts_are;
    goal_is = ap (λ (p : Plan). p.goal) is ∙ goal_then acts (reading k) ∙ ap look next_is;
  }

  pub passes_first : (next : Option ℕ) → reading nothing_known ≡ next → PassesOn inputs order Passed next (passes_on inputs order) nothing_known (passes_on inputs order nothing_known)
  passes_first next is = made nothing_known Passed next [] refl tt refl is

  module _ (passing : Passing) (next : Option ℕ) (plan : Known → Plan) (k : Known) where
    pub passes_saw : (want : Want) (i : ℕ) (rec : List ℕ) (next' : Option ℕ) → PassesOn inputs order passing next plan k (asks want) → answers (Some want) (Saw i rec) ≡ true →
        (next ≡ Some i → reading (hears k (Saw i rec)) ≡ next') → PassesOn inputs order (Writing i) next' plan (hears k (Saw i rec)) (plan (hears k (Saw i rec)))
    passes_saw want i rec next' is fits then =
        let k' = hears k (Saw i rec) in
        subst (λ (f : Known → Plan). PassesOn inputs order (Writing i) next' f k' (f k')) (sym is.plan_is)
        (made k' (Writing i) next' (writes (passed k'.seen) ++ Takes i ∷ []) refl (some_came k.seen i rec)
        (ap (λ ps. writes ps ++ Takes i ∷ []) (passed_last k.seen i rec) ∙ ap (λ r. Writes 0 r ∷ Takes i ∷ []) (sym (came_last k.seen i rec)))
        (then (asked_saw next want i rec is.goal_is fits)))

    pub passes_end : (want : Want) (i : ℕ) (next' : Option ℕ) → PassesOn inputs order passing next plan k (asks want) → answers (Some want) (SawEnd i) ≡ true →
        (next ≡ Some i → reading (hears k (SawEnd i)) ≡ next') → PassesOn inputs order Passed next' plan (hears k (SawEnd i)) (plan (hears k (SawEnd i)))
    passes_end want i next' is fits then =
        let k' = hears k (SawEnd i) in
        subst (λ (f : Known → Plan). PassesOn inputs order Passed next' f k' (f k')) (sym is.plan_is)
        (made k' Passed next' [] refl tt refl (then (asked_end next want i is.goal_is fits)))
