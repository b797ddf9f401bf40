use Rattle.std.proofs.Common.{refl}
use Rattle.stage_steps.proofs.HandingOn.{handed_on}
use Rattle.block_stages.specs.declared.block.BlockStage.{BlockStage}
use Rattle.stage_steps.specs.Drivers.{ListedStands}
use Rattle.block_stages.specs.Blocks.{BlocksStand, blocks_look}
use Rattle.block_stages.specs.Block.{BlockStands}
use Rattle.block_stages.proofs.block.BlockStageStage.see.Goals as goal

pub returns : goal.returns
returns c =
    handed_on {T = BlockStage} (ListedStands BlocksStand blocks_look) (λ x. record { stage = x }) BlockStands (λ x s h is. is) (λ x s h is. is) c.args.self.now c.args.self.now.stage c.see.new.self c.args.bytes.now c.see.new.asked c.see.result refl c.see.ensures
