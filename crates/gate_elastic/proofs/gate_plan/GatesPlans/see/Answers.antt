use Rattle.std.proofs.Common.{◌≡◌, Bool, true, false, cond, [], ◌∷◌, refl, sym, ◌∙◌, ap, pos}
use Rattle.std.proofs.lemmas.Bool.{ne_eqb}
use Rattle.pipe_model.specs.Event.{Want}
use Rattle.pipe_model.specs.Event.Event.{Saw}
use Rattle.pipe_model.specs.Event.Want.{Gate}
use Rattle.pipe_model.specs.Row.{Plan}
use Rattle.pipe_model.specs.Row.Act.{Writes, Takes}
use Rattle.pipe_model.specs.Row.Goal.{Asks, Ends}
use Rattle.pipe_model.specs.Shape.{ends, gate_pass}
use Rattle.gate_elastic.specs.Gates.{gates, goal_by}
use Rattle.gate_elastic.proofs.Passes.{asked, goes_on, passes}
use Rattle.gate_elastic.proofs.gate_plan.GatesPlans.see.Goals as goal

-- who looks isn't shut
open_yet : (want : Want) (shut : Bool) → Asks want ≡ goal_by shut → shut ≡ false
open_yet want true is = cc
open_yet want false is = refl

pub returns-then-input-eq0-clause-plans : goal.returns-then-input-eq0-clause-plans
returns-then-input-eq0-clause-plans c = λ rec came plan k want is fits room.
    let x = c.args.self.now in
    goes_on gates (goal_by x.is_shut) x.passing plan k want is (Saw c.args.input rec) (Ends (pos 0)) (ap (λ i. gate_pass i rec) c.if-input-eq0.true)

pub returns-else-input-eq0-clause-plans : goal.returns-else-input-eq0-clause-plans
returns-else-input-eq0-clause-plans c = λ rec came plan k want is fits room.
    let x = c.args.self.now in
    let i = c.args.input in
    let shut_is : x.is_shut ≡ false = open_yet want x.is_shut (asked gates (goal_by x.is_shut) x.passing plan k want is) in
    passes gates (goal_by x.is_shut) x.passing plan k want is i rec
    (ap (λ b. cond b (ends (pos 0)) (let p : Plan = record { acts = Writes i rec ∷ Takes i ∷ []; goal = Asks Gate } in p)) (ne_eqb i 0 c.if-input-eq0.false)
    ∙ ap (λ shut. let p : Plan = record { acts = Writes i rec ∷ Takes i ∷ []; goal = goal_by shut } in p) (sym shut_is))
