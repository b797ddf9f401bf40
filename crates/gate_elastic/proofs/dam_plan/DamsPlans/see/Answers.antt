use Rattle.std.proofs.Common.{◌≡◌, ℕ, true, List, [], ◌∷◌, refl, sym, ◌∙◌, ap, subst, Some}
use Rattle.std.proofs.lemmas.Bool.{eqb-true}
use Rattle.pipe_model.specs.Event.{Want, answers}
use Rattle.pipe_model.specs.Event.Event.{Saw}
use Rattle.pipe_model.specs.Event.Want.{Read, Prime}
use Rattle.pipe_model.specs.Row.{Plan}
use Rattle.pipe_model.specs.Row.Act.{Writes, Takes}
use Rattle.pipe_model.specs.Row.Goal.{Asks}
use Rattle.gate_elastic.specs.declared.dam_plan.Flow.{Flow}
use Rattle.gate_elastic.specs.declared.dam_plan.Flow.TheVariants.{Held, Running, Over}
use Rattle.gate_elastic.specs.Dams.{dams, goal_of}
use Rattle.gate_elastic.proofs.Passes.{asked, passes}
use Rattle.gate_elastic.proofs.dam_plan.DamsPlans.see.Goals as goal

-- a record comes only from its own input, and while its records go on
comes : (want : Want) (flow : Flow) (i : ℕ) (rec : List ℕ) → Asks want ≡ goal_of flow → answers (Some want) (Saw i rec) ≡ true → (i ≡ 0) × (flow ≡ Running)
comes want Held i rec is fits =
    let it : want ≡ Prime = cc in
    let no : answers (Some Prime) (Saw i rec) ≡ true = subst (λ w. answers (Some w) (Saw i rec) ≡ true) it fits in cc
comes want Running i rec is fits =
    let it : want ≡ Read 0 = cc in
    (eqb-true i 0 (subst (λ w. answers (Some w) (Saw i rec) ≡ true) it fits), refl)
comes want Over i rec is fits = cc

pub returns-clause-plans : goal.returns-clause-plans
returns-clause-plans c = λ rec came plan k want is fits room.
    let x = c.args.self.now in
    let i = c.args.input in
    let own = comes want x.flow i rec (asked dams (goal_of x.flow) x.passing plan k want is) fits in
    passes dams (goal_of x.flow) x.passing plan k want is i rec
    (ap (λ o. let p : Plan = record { acts = Writes o rec ∷ Takes i ∷ []; goal = Asks (Read 0) } in p) (sym own.0)
    ∙ ap (λ flow. let p : Plan = record { acts = Writes i rec ∷ Takes i ∷ []; goal = goal_of flow } in p) (sym own.1))
