-- What a stage that passes records on has left behind each call.
use Rattle.std.proofs.Common.{◌≡◌, ◌<◌, ℕ, cond, List, [], ◌∷◌, ◌++◌, length, refl, sym, ◌∙◌, ap, subst, arith, Some, None, Option}
use Rattle.std.proofs.lemmas.List.{length_push}
use Rattle.pipe_model.specs.Event.{Event, Want}
use Rattle.pipe_model.specs.Event.Event.{Saw}
use Rattle.pipe_model.specs.Inputs.{records_from}
use Rattle.pipe_model.specs.Next.{hears}
use Rattle.pipe_model.specs.Row.{Pair, Goal, Plan, Known}
use Rattle.pipe_model.specs.Row.Act.{Writes, Takes}
use Rattle.pipe_model.specs.Row.Goal.{Asks}
use Rattle.pipe_model.specs.Shape.{asks, records_of}
use Rattle.pipe_model.proofs.Numbers.{test_same}
use Rattle.stage_steps.specs.declared.plans.Act.{Act as Doing}
use Rattle.stage_steps.specs.declared.plans.Act.TheVariants.{Write, Take}
use Rattle.stage_steps.specs.Plans.{act_of, known_done, last_from, with_acts, GivesAct}
use Rattle.stream_laws.proofs.Streams.{on_both, last_is}
use Rattle.gate_elastic.specs.declared.passing.Passing.{Passing}
use Rattle.gate_elastic.specs.declared.passing.Passing.TheVariants.{Writing, Taking, Passed}
use Rattle.gate_elastic.specs.Passing.{passing_acts, GivesPassing, IsOfCame, PassesOn}

-- where it looks, nothing is left of a plan
none_left : (seen : List Pair) (want : Want) (passing : Passing) (goal : Goal) → asks want ≡ record { acts = passing_acts passing seen; goal = goal } → passing ≡ Passed
none_left seen want (Writing i) goal is = (let none : [] ≡ Writes i (last_from seen i) ∷ Takes i ∷ [] = ap (λ (p : Plan). p.acts) is in cc)
none_left seen want (Taking i) goal is = (let none : [] ≡ Takes i ∷ [] = ap (λ (p : Plan). p.acts) is in cc)
none_left seen want Passed goal is = refl

-- a record that was just seen came
just_came : (seen : List Pair) (i : ℕ) (rec : List ℕ) → 0 < length (records_from i (seen ++ (i, rec) ∷ []))
just_came seen i rec =
    let own : records_from i (seen ++ (i, rec) ∷ []) ≡ records_from i seen ++ rec ∷ [] =
    on_both i seen ((i, rec) ∷ []) ∙ ap (λ b. records_from i seen ++ records_of (cond b ((i, rec) ∷ []) [])) (test_same i) in
    subst (λ recs. 0 < length recs) (sym own) (omega (arith, length_push (records_from i seen) rec))

module _ (plans : Known → Plan) (goal : Goal) where
  abbrev Stands : Passing → (Known → Plan) → Known → Plan → Type 0
  Stands x = PassesOn plans x goal

  module _ (x y : Passing) where
    done : (act : Doing) (plan : Known → Plan) (k : Known) (left : Plan) → Stands x plan k left → IsOfCame y k.seen →
        Stands y plan (known_done (act_of act k.seen) k) (with_acts (passing_acts y k.seen) left)
    done (Write o out) plan k left is came = record { plan_is = is.plan_is; left_is = ap (with_acts (passing_acts y k.seen)) is.left_is; came = came }
    done (Take i) plan k left is came = record { plan_is = is.plan_is; left_is = ap (with_acts (passing_acts y k.seen)) is.left_is; came = came }

    -- the act that is given is the plan's
    pub gives : (given : Option Doing) → GivesPassing x y given → GivesAct Stands x y given
    gives None same = λ plan k left is. (ap (λ (p : Plan). p.acts) is.left_is ∙ same.1 k.seen, subst (λ z. Stands z plan k left) (sym same.0) is)
    gives (Some act) next = λ plan k left is.
        let then = next k.seen is.came in
        (passing_acts y k.seen, ap (λ (p : Plan). p.acts) is.left_is ∙ then.0, done act plan k left is then.1, then.2)

  module _ (x : Passing) (plan : Known → Plan) (k : Known) (want : Want) (is : Stands x plan k (asks want)) where
    -- what it asked for is what follows
    pub asked : Asks want ≡ goal
    asked = ap (λ (p : Plan). p.goal) is.left_is

    -- it plans nothing but what follows
    pub goes_on : (e : Event) (goal' : Goal) → plans (hears k e) ≡ record { acts = []; goal = goal' } → PassesOn plans x goal' plan (hears k e) (plan (hears k e))
    goes_on e goal' plan_is =
        let k' = hears k e in
        subst (λ x. PassesOn plans x goal' plan k' (plan k')) (sym (none_left k.seen want x goal is.left_is))
        (record { plan_is = is.plan_is; left_is = ap (λ (f : Known → Plan). f k') is.plan_is ∙ plan_is; came = tt })

    -- it plans to pass on the record in sight
    pub passes : (i : ℕ) (rec : List ℕ) → plans (hears k (Saw i rec)) ≡ record { acts = Writes i rec ∷ Takes i ∷ []; goal = goal } →
        Stands (Writing i) plan (hears k (Saw i rec)) (plan (hears k (Saw i rec)))
    passes i rec plan_is =
        let k' = hears k (Saw i rec) in
        record {
          plan_is = is.plan_is;
          left_is = ap (λ (f : Known → Plan). f k') is.plan_is ∙ plan_is ∙ ap (λ r. record { acts = Writes i r ∷ Takes i ∷ []; goal = goal }) (sym (last_is i k.seen rec));
          came = just_came k.seen i rec;
        }
