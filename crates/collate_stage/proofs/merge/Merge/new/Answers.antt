use Rattle.std.proofs.Common.{refl}
use Rattle.collate_stage.specs.declared.merge.Merge.{Merge}
use Rattle.collate_stage.proofs.MergeSteps.{merge_begins}
use Rattle.collate_stage.proofs.merge.Merge.new.Goals as goal

pub returns : goal.returns
returns c =
    let x : Merge = record { range = c.args.range; lanes = c.in_ok-lanes.lanes; queue = c.in_ok-queue.queue; count = c.args.count; opened = 0; input = 0; due = c.first_due.result } in
    merge_begins x c.in_ok-lanes.ensures c.in_ok-queue.ensures.items refl refl c.first_due.ensures
