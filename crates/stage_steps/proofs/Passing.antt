-- Acts that are passed over, as their output is closed.
use Rattle.std.proofs.Common.{◌≡◌, Bool, true, false, cond, List, [], ◌∷◌, refl, sym, ◌∙◌, ap, subst, Some, None}
use Rattle.pipe_model.specs.Row.{Pair, Act, Plan, Known}
use Rattle.stage_steps.specs.declared.plans.Act.{Act as Acting}
use Rattle.stage_steps.specs.declared.plans.Act.TheVariants.{Write, Take}
use Rattle.stage_steps.specs.Outputs.{can_do, live}
use Rattle.stage_steps.specs.Plans.{act_of, with_acts, GivesAct}
use Rattle.stage_steps.specs.Planning.{FetchesAct}

-- what is left to do is the same, though some acts were passed over
abbrev pub PassesOver : {P : Type 0} → (P → (Known → Plan) → Known → Plan → Type 0) → List Bool → P → P → Type 0
PassesOver stands flags x y = (plan : Known → Plan) (k : Known) (left : Plan) → stands x plan k left → (rest : List Act) × (live flags left.acts ≡ live flags rest) × stands y plan k (with_acts rest left)

abbrev Can : List Bool → Acting → Bool → Type 0
Can flags act b = (seen : List Pair) → b ≡ can_do flags (act_of act seen)

-- an act that comes first
first_is : (flags : List Bool) (act : Act) (rest : List Act) (b : Bool) → b ≡ can_do flags act → live flags (act ∷ rest) ≡ cond b (act ∷ live flags rest) (live flags rest)
first_is flags act rest b is = ap (λ c. cond c (act ∷ live flags rest) (live flags rest)) (sym is)

module _ {P : Type 0} (stands : P → (Known → Plan) → Known → Plan → Type 0) (flags : List Bool) where
  -- at first none
  pub over_none : (x : P) → PassesOver stands flags x x
  over_none x plan k left is = (left.acts, refl, is)

  -- one more
  pub over_one : (x y z : P) (act : Acting) (b : Bool) → PassesOver stands flags x y → GivesAct stands y z (Some act) → Can flags act b → b ≡ false → PassesOver stands flags x z
  over_one x y z (Write o out) b passes gives can closed plan k left is =
      let p = passes plan k left is in
      let n = gives plan k (with_acts p.0 left) p.2 in
      (n.0, p.1 ∙ ap (live flags) n.1 ∙ first_is flags (act_of (Write o out) k.seen) n.0 false (sym closed ∙ can k.seen), n.2)
  over_one x y z (Take i) b passes gives can closed plan k left is = let same : false ≡ true = sym closed ∙ can [] in cc

  -- then comes one that can be done
  pub fetches_act : (x y z : P) (act : Acting) (b : Bool) → PassesOver stands flags x y → GivesAct stands y z (Some act) → Can flags act b → b ≡ true → FetchesAct stands flags x z (Some act)
  fetches_act x y z act b passes gives can opened plan k left is =
      let p = passes plan k left is in
      let n = gives plan k (with_acts p.0 left) p.2 in
      (n.0, p.1 ∙ ap (live flags) n.1 ∙ first_is flags (act_of act k.seen) n.0 true (sym opened ∙ can k.seen), n.2, n.3)

  -- or none
  pub fetches_no_act : (x y z : P) → PassesOver stands flags x y → GivesAct stands y z None → FetchesAct stands flags x z None
  fetches_no_act x y z passes gives plan k left is =
      let p = passes plan k left is in
      let n = gives plan k (with_acts p.0 left) p.2 in
      (p.1 ∙ ap (live flags) n.0, subst (λ acts. stands z plan k (with_acts acts left)) n.0 n.1)
