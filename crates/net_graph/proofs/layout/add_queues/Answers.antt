use Rattle.std.proofs.Common.{◌∙◌, [], ◌∷◌, ap, sym, append-nil}
use Rattle.net_graph.proofs.Laid.{none_queued, one_queued, queues_on}
use Rattle.net_graph.proofs.layout.add_queues.Goals as goal
use Rattle.net_graph.proofs.layout.add_queues.Goals.{in-Queued+in_ok-push, in_default}

pub loop-part-preserved : goal.loop-part-preserved
loop-part-preserved c = λ sizes are. elim c.match-part.branch [
  | in-Queued+in_ok-push w ↦ queues_on c.args.parts.now sizes c.loop-part.part-index _ are c.loop-part-test.true c.loop-part.links.items c.match-part.links.items (w.queue_from.result ∷ [])
      (one_queued _ _ _ w.queue_from.ensures w.in-Queued.is) (ap (λ v. v.items) w.links-is ∙ w.in_ok-push.ensures.items)
      ∙ c.loop-part.invariant sizes are
  | in_default w ↦ queues_on c.args.parts.now sizes c.loop-part.part-index _ are c.loop-part-test.true c.loop-part.links.items c.match-part.links.items []
      (sym (none_queued _ _ w.in_default.not-Queued)) (ap (λ v. v.items) w.links-is ∙ sym (append-nil c.loop-part.links.items))
      ∙ c.loop-part.invariant sizes are
]
