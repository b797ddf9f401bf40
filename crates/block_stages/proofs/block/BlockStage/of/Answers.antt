use Rattle.std.proofs.Common.{Bool, false, List, sym, ap}
use Rattle.pipe_model.specs.declared.kind.Kind.{Kind}
use Rattle.stage_steps.specs.declared.listed.Listed.{Listed}
use Rattle.stage_steps.specs.declared.order.Order.TheVariants.{TakesFirst}
use Rattle.stage_steps.specs.Drivers.{IsFresh, IsStageOf}
use Rattle.stage_steps.specs.Listed.{lists_of}
use Rattle.stage_steps.proofs.Fitting.{stage_of}
use Rattle.block_stages.specs.declared.blocks.Blocks.{Blocks}
use Rattle.block_stages.specs.Block.{AreListsOf}
use Rattle.block_stages.specs.Blocks.{BlocksStand, blocks_look}
use Rattle.block_stages.proofs.block.BlockStage.of.Goals as goal

-- a fresh driver of a kind's lists is the stage of that kind
of_lists : (kind : Kind) (lists : Blocks) (outputs : List Bool) (x : Listed Blocks) → AreListsOf kind lists → IsFresh BlocksStand blocks_look lists TakesFirst outputs false x → IsStageOf BlocksStand blocks_look kind outputs x
of_lists kind lists outputs x are fresh =
    stage_of BlocksStand blocks_look kind (λ o. are.0) lists TakesFirst outputs false x fresh (λ s. ap (lists_of s) are.1) (sym are.2) (λ keeps. cc) are.3

pub returns : goal.returns
returns c = of_lists c.args.kind.now c.in_ok-lists.lists c.args.outputs.now c.in_ok-new.field-0 c.in_ok-lists.ensures c.in_ok-new.ensures
