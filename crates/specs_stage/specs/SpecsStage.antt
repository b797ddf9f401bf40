-- What the stage of SPECS stands for.
use Rattle.std.specs.Prelude.{◌≡◌, Bool, true, false, List, []}
use Rattle.pipe_model.specs.declared.net.Strand.{Strand}
use Rattle.pipe_model.specs.declared.kind.Kind.{Kind}
use Rattle.pipe_model.specs.declared.kind.Kind.TheVariants as Kinds
use Rattle.pipe_model.specs.Event.{Event}
use Rattle.pipe_model.specs.Shape.{Stream}
use Rattle.pipe_model.specs.Shape.Shape.{Lists}
use Rattle.pipe_model.specs.Table.{line_of}
use Rattle.stage_steps.specs.Drivers.{ListedStands}
use Rattle.stage_steps.specs.Places.{order_of}
use Rattle.specs_stage.specs.declared.specs_lists.SpecsLists.{SpecsLists}
use Rattle.specs_stage.specs.declared.stage.SpecsStage.{SpecsStage}
use Rattle.specs_stage.specs.SpecsLists.{SpecsStand, specs_look, order_by}

-- the kind is SPECS
abbrev pub is_specs : Kind → Bool
is_specs (Kinds.Specs items eof) = true
is_specs _ = false

-- the lists are those that the stage table says of the kind, before the first record
abbrev pub AreListsOf : Kind → SpecsLists → Type 0
AreListsOf kind x = (t : Stream) × ((line_of kind).shape ≡ Lists (order_of (order_by x.has_read)) (λ outputs. t)) × ((line_of kind).looks ≡ true) × SpecsStand x false t [] []

-- the stage stands for this history of this strand
abbrev pub SpecsStageStands : SpecsStage → Strand → List Event → Type 0
SpecsStageStands x s h = ListedStands SpecsStand specs_look x.stage s h
