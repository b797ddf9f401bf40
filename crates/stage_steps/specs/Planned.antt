-- What the driver of a stage that plans stands for, and what a fresh one needs.
use Rattle.std.specs.Prelude.{◌≡◌, ◌<◌, ◌≤◌, ℕ, Bool, false, List, [], ◌∷◌, length, IsSome, pos, negsuc}
use Rattle.std.specs.List.{list_any}
use Rattle.pipe_model.specs.declared.net.Strand.{Strand}
use Rattle.pipe_model.specs.Event.{Event, Want, has_ended, last_seen_on}
use Rattle.pipe_model.specs.Inputs.{records_from}
use Rattle.pipe_model.specs.Next.{Past, past_by, nothing_known}
use Rattle.pipe_model.specs.Next.Phase.{Doing}
use Rattle.pipe_model.specs.Next.Phase.{Starting as Reaching}
use Rattle.pipe_model.specs.Row.{Act, Goal, Plan, Known}
use Rattle.pipe_model.specs.Row.Goal.{Asks, Ends}
use Rattle.pipe_model.specs.Shape.{asks, row}
use Rattle.pipe_model.specs.Shape.Keeping.{Nothing}
use Rattle.pipe_model.specs.Table.{form}
use Rattle.stage_steps.specs.declared.outputs.Outputs.{Outputs}
use Rattle.stage_steps.specs.declared.plans.Act.{Act as Acting}
use Rattle.stage_steps.specs.declared.planned.At.{At}
use Rattle.stage_steps.specs.declared.planned.Planned.{Planned}
use Rattle.stage_steps.specs.Coroutine.{record_seen_on}
use Rattle.stage_steps.specs.Outputs.{open_from, live}
use Rattle.stage_steps.specs.Plans.{act_of, known_done, last_from}

-- it looks at a record, or waits for the first of its stage
abbrev pub IsLook : Want → Type 0
IsLook (Want.Read i) = Unit {0}
IsLook Want.Any = Unit {0}
IsLook Want.Gate = Unit {0}
IsLook Want.Prime = Unit {0}
IsLook _ = ⊥

-- where it stands: what it asked for there, and what is left
abbrev pub AtIs : {P : Type 0} → (P → (Known → Plan) → Known → Plan → Type 0) → (Known → Plan) → P → At → List Bool → Past → Type 0
AtIs stands plan x At.Starting flags p = stands x plan nothing_known (plan nothing_known) × (p.known ≡ nothing_known) × (p.phase ≡ Reaching (negsuc 0))
AtIs stands plan x At.Committing flags p = stands x plan nothing_known (plan nothing_known) × (p.known ≡ nothing_known) × (p.phase ≡ Reaching (pos 0))
AtIs stands plan x At.Doing flags p = (act : Acting) × (rest : List Act) × (goal : Goal) × (p.phase ≡ Doing (act_of act p.known.seen ∷ live flags rest) goal)
    × stands x plan (known_done (act_of act p.known.seen) p.known) (record { acts = rest; goal = goal })
AtIs stands plan x At.Asking flags p = (want : Want) × IsLook want × (p.phase ≡ Doing [] (Asks want)) × stands x plan p.known (asks want)
AtIs stands plan x (At.Ending code) flags p = p.phase ≡ Doing [] (Ends code)

-- the driver's parts stand for a strand's history
pub record PlannedIs {P : Type 0} (stands : P → (Known → Plan) → Known → Plan → Type 0) (looks : Bool) (x : P) (place : At) (outputs : Outputs) (s : Strand) (h : List Event) : Type 0 where
  pub plan : Known → Plan
  pub row_is : (form s).row ≡ row plan
  pub keeps_nothing : (form s).keeping ≡ Nothing
  pub looks_are : looks ≡ (form s).looks
  pub connected_is : outputs.connected ≡ list_any (λ flag. flag) s.ports.has_output
  pub flags_are : outputs.flags.items ≡ open_from 0 s.ports.has_output (past_by (row plan) s.ports.has_output h).refused
  pub sight_is : (i : ℕ) → last_seen_on i h ≡ last_from (past_by (row plan) s.ports.has_output h).known.seen i
  pub seen_is : (i : ℕ) → 0 < length (records_from i (past_by (row plan) s.ports.has_output h).known.seen) → IsSome (record_seen_on i h)
  pub few : length (past_by (row plan) s.ports.has_output h).known.seen ≤ length h
  pub place_is : has_ended h ≡ false → AtIs stands plan x place outputs.flags.items (past_by (row plan) s.ports.has_output h)

-- the driver stands for a strand's history
abbrev pub PlannedStands : {P : Type 0} → (P → (Known → Plan) → Known → Plan → Type 0) → (P → Bool) → Planned P → Strand → List Event → Type 0
PlannedStands stands is_looking x s h = PlannedIs stands (is_looking x.plans) x.plans x.place x.outputs s h

-- these plans and outputs are those of the strand, and the first plan was made
pub record FitsPlan {P : Type 0} (stands : P → (Known → Plan) → Known → Plan → Type 0) (looks : Bool) (plans : P) (outputs : List Bool) (s : Strand) (plan : Known → Plan) : Type 0 where
  pub row_is : (form s).row ≡ row plan
  pub keeps_nothing : (form s).keeping ≡ Nothing
  pub outputs_are : outputs ≡ s.ports.has_output
  pub looks_are : looks ≡ (form s).looks
  pub begins : stands plans plan nothing_known (plan nothing_known)

-- a driver of these stands for each strand that they fit, before its first event
abbrev pub IsFreshPlan : {P : Type 0} → (P → (Known → Plan) → Known → Plan → Type 0) → (P → Bool) → P → List Bool → Planned P → Type 0
IsFreshPlan stands is_looking plans outputs x = (s : Strand) (plan : Known → Plan) → FitsPlan stands (is_looking plans) plans outputs s plan → PlannedStands stands is_looking x s []
