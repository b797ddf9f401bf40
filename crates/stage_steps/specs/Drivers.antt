-- What a driver of lists stands for, and what a fresh one needs.
use Rattle.std.specs.Prelude.{◌≡◌, Bool, true, false, List, [], Some}
use Rattle.pipe_model.specs.declared.kind.Kind.{Kind}
use Rattle.pipe_model.specs.declared.net.Strand.{Strand}
use Rattle.pipe_model.specs.Event.{Event}
use Rattle.pipe_model.specs.Row.{Act}
use Rattle.pipe_model.specs.Shape.{Records, Stream}
use Rattle.pipe_model.specs.Table.{line_of, form}
use Rattle.stage_steps.specs.declared.listed.Listed.{Listed}
use Rattle.stage_steps.specs.declared.order.Order.{Order}
use Rattle.stage_steps.specs.Places.{order_of}
use Rattle.stage_steps.specs.Listed.{lists_of, ListedIs}

-- the driver stands for a strand's history
abbrev pub ListedStands : {L : Type 0} → (L → Bool → Stream → Records → List Act → Type 0) → (L → Bool) → Listed L → Strand → List Event → Type 0
ListedStands stands is_looking x s h = ListedIs stands (is_looking x.lists) x.lists x.walk s h

-- these lists, their order and outputs, and whether records are kept, are those that the stage table says of the strand
pub record Fits {L : Type 0} (stands : L → Bool → Stream → Records → List Act → Type 0) (looks : Bool) (lists : L) (order : Order) (outputs : List Bool) (keeps : Bool) (s : Strand) (t : Stream) : Type 0 where
  pub lists_are : lists_of s (line_of s.kind).shape ≡ Some (record { order = order_of order; keeps = keeps; stream = t })
  pub outputs_are : outputs ≡ s.ports.has_output
  pub looks_are : looks ≡ (form s).looks
  pub looking : keeps ≡ true → looks ≡ true
  -- no record was seen, and nothing is left to write
  pub begins : stands lists false t [] []

-- a driver of these stands for each strand that they fit, before its first event
abbrev pub IsFresh : {L : Type 0} → (L → Bool → Stream → Records → List Act → Type 0) → (L → Bool) → L → Order → List Bool → Bool → Listed L → Type 0
IsFresh stands is_looking lists order outputs keeps x = (s : Strand) (t : Stream) → Fits stands (is_looking lists) lists order outputs keeps s t → ListedStands stands is_looking x s []

-- the driver stands for each strand of this kind with these connected outputs, before its first event
abbrev pub IsStageOf : {L : Type 0} → (L → Bool → Stream → Records → List Act → Type 0) → (L → Bool) → Kind → List Bool → Listed L → Type 0
IsStageOf stands is_looking kind outputs x = (s : Strand) → s.kind ≡ kind → s.ports.has_output ≡ outputs → ListedStands stands is_looking x s []
