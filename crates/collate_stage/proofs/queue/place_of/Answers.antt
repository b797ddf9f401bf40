use Rattle.std.proofs.Common.{rules}
use Rattle.std.proofs.lemmas.List.Sorted.{IsPartitionPoint-from_clause}
use Rattle.collate_stage.specs.Queues.{goes_before}
use Rattle.collate_stage.proofs.Queues.{parted}
use Rattle.collate_stage.proofs.queue.place_of.Goals as goal

pub returns-clause-parts : goal.returns-clause-parts
returns-clause-parts c = λ order.
    IsPartitionPoint-from_clause (goes_before c.args.lanes.now c.args.input) _ _ c.partition_point.ensures.partitioned (parted c.args.lanes.now c.args.input c.args.queue.now order) (λ a r q k. search rules)
