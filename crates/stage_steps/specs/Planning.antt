-- Serves the inside of the driver of plans: where it stands behind an event, which act it does next, and what it asks for then.
use Rattle.std.specs.Prelude.{◌≡◌, Bool, if◌then◌else◌, List, [], ◌∷◌, ℕ, pos}
use Rattle.std.specs.Ordering.{int_eq}
use Rattle.std.specs.declared.option.Option.{Option}
use Rattle.std.specs.declared.option.Option.TheVariants.{Some, None}
use Rattle.pipe_model.specs.declared.step.Seen.{Seen}
use Rattle.pipe_model.specs.declared.step.Seen.TheVariants as Told
use Rattle.pipe_model.specs.declared.step.Want.{Want as Asked}
use Rattle.pipe_model.specs.declared.step.Want.TheVariants as Ask
use Rattle.pipe_model.specs.Event.Event.{SawEnd, SawAllEnd, Primed}
use Rattle.pipe_model.specs.Row.{Act, Plan, Known}
use Rattle.stage_steps.specs.declared.plans.Act.{Act as Acting}
use Rattle.stage_steps.specs.declared.plans.Act.TheVariants.{Write, Take}
use Rattle.stage_steps.specs.declared.plans.Goal.{Goal as Following}
use Rattle.stage_steps.specs.declared.plans.Goal.TheVariants.{Read, Any, Gate, Prime, End}
use Rattle.stage_steps.specs.declared.planned.At.{At}
use Rattle.stage_steps.specs.declared.planned.At.TheVariants.{Starting, Committing, Doing, Asking, Ending}
use Rattle.stage_steps.specs.Outputs.{live}
use Rattle.stage_steps.specs.Plans.{act_of, known_done, with_acts, IsOfSeen, Plans, PlansBySight, TellsGoal}

-- what becomes of the plans and of the place by an event that answers what was asked for
abbrev pub HearsPlan : {P : Type 0} → (P → (Known → Plan) → Known → Plan → Type 0) → Bool → Bool → P → At → Seen → List ℕ → P → At → Type 0
HearsPlan stands looks gives_up x Starting (Told.Up level code) bytes y place = (y ≡ x) × (place ≡ (if int_eq code (pos 0) then Committing else Ending (pos 0)))
HearsPlan stands looks gives_up x Committing (Told.Up level code) bytes y place = (y ≡ x) × (place ≡ (if int_eq code (pos 0) then Doing else Ending (pos 0)))
HearsPlan stands looks gives_up x Doing (Told.Put o) bytes y place = (y ≡ x) × (place ≡ Doing)
HearsPlan stands looks gives_up x Doing (Told.Took i) bytes y place = (y ≡ x) × (place ≡ Doing)
HearsPlan stands looks gives_up x Doing (Told.Refused o) bytes y place = (y ≡ x) × (place ≡ (if gives_up then Ending (pos 0) else Doing))
HearsPlan stands looks gives_up x Asking (Told.Saw i) bytes y place = PlansBySight stands looks x y i bytes × (place ≡ Doing)
HearsPlan stands looks gives_up x Asking (Told.SawEnd i) bytes y place = Plans stands x y (SawEnd i) × (place ≡ Doing)
HearsPlan stands looks gives_up x Asking Told.SawAllEnd bytes y place = Plans stands x y SawAllEnd × (place ≡ Doing)
HearsPlan stands looks gives_up x Asking (Told.Primed primed) bytes y place = Plans stands x y (Primed primed) × (place ≡ Doing)
HearsPlan stands looks gives_up x (Ending code) (Told.Ended code') bytes y place = (y ≡ x) × (place ≡ Ending code)
HearsPlan stands looks gives_up x _ _ bytes y place = Unit {0}

-- the next act that can be done, or none where nothing is left to do
abbrev pub FetchesAct : {P : Type 0} → (P → (Known → Plan) → Known → Plan → Type 0) → List Bool → P → P → Option Acting → Type 0
FetchesAct stands flags x y None = (plan : Known → Plan) (k : Known) (left : Plan) → stands x plan k left → (live flags left.acts ≡ []) × stands y plan k (with_acts [] left)
FetchesAct stands flags x y (Some act) = (plan : Known → Plan) (k : Known) (left : Plan) → stands x plan k left →
    (rest : List Act) × (live flags left.acts ≡ act_of act k.seen ∷ live flags rest) × stands y plan (known_done (act_of act k.seen) k) (with_acts rest left) × IsOfSeen act k.seen

-- what is asked for to do an act
abbrev pub asked_for : Acting → Asked
asked_for (Write o out) = Ask.Write o out
asked_for (Take i) = Ask.Take i

-- the place behind a plan, and what is asked for there
abbrev pub place_behind : Following → At
place_behind (End code) = Ending code
place_behind _ = Asking

abbrev pub asked_behind : Following → Asked
asked_behind (Read i) = Ask.Read i
asked_behind Any = Ask.Any
asked_behind Gate = Ask.Gate
asked_behind Prime = Ask.Primed
asked_behind (End code) = Ask.Done code

-- an act is asked for, or where there is none what follows the plan
abbrev pub GoesOn : {P : Type 0} → (P → (Known → Plan) → Known → Plan → Type 0) → P → Option Acting → At → Asked → Type 0
GoesOn stands y (Some act) place asked = (place ≡ Doing) × (asked ≡ asked_for act)
GoesOn stands y None place asked = (goal : Following) × TellsGoal stands y goal × (place ≡ place_behind goal) × (asked ≡ asked_behind goal)

-- what is asked for in a place, and the place then
abbrev pub AsksPlan : {P : Type 0} → (P → (Known → Plan) → Known → Plan → Type 0) → List Bool → P → At → P → At → Asked → Type 0
AsksPlan stands flags x Doing y place asked = (given : Option Acting) × FetchesAct stands flags x y given × GoesOn stands y given place asked
AsksPlan stands flags x Committing y place asked = (y ≡ x) × (place ≡ Committing) × (asked ≡ Ask.Commit (pos 0))
AsksPlan stands flags x (Ending code) y place asked = (y ≡ x) × (place ≡ Ending code) × (asked ≡ Ask.Done code)
AsksPlan stands flags x _ y place asked = Unit {0}
