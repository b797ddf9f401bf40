-- What the stages of Blocks stand for.
use Rattle.std.specs.Prelude.{◌≡◌, Bool, true, false, List, []}
use Rattle.pipe_model.specs.declared.net.Strand.{Strand}
use Rattle.pipe_model.specs.declared.kind.Kind.{Kind}
use Rattle.pipe_model.specs.declared.kind.Kind.TheVariants as Kinds
use Rattle.pipe_model.specs.Event.{Event}
use Rattle.pipe_model.specs.Shape.{Stream}
use Rattle.pipe_model.specs.Table.{line_of, hold}
use Rattle.stage_steps.specs.Drivers.{ListedStands}
use Rattle.block_stages.specs.declared.block.BlockStage.{BlockStage}
use Rattle.block_stages.specs.declared.blocks.Blocks.{Blocks}
use Rattle.block_stages.specs.Blocks.{BlocksStand, blocks_look}

-- the kind is one of Blocks
abbrev pub is_block : Kind → Bool
is_block (Kinds.Fblock size fill) = true
is_block (Kinds.Block size image) = true
is_block (Kinds.Deblock cutting) = true
is_block _ = false

-- the lists are those that the stage table says of the kind, before the first record
abbrev pub AreListsOf : Kind → Blocks → Type 0
AreListsOf kind x = (t : Stream) × ((line_of kind).shape ≡ hold t) × ((line_of kind).looks ≡ true) × BlocksStand x false t [] []

-- the stage stands for this history of this strand
abbrev pub BlockStands : BlockStage → Strand → List Event → Type 0
BlockStands x s h = ListedStands BlocksStand blocks_look x.stage s h
