-- The wires so far and those to come are the wires of all links, the sights so far hold nothing, and there is room for the others.
use Rattle.std.proofs.Common.{◌≡◌, ◌≤◌, ◌++◌, map, drop, length, replicate, None}
use Rattle.std.specs.Prelude.{vec_capacity}
use Rattle.pipe_model.specs.declared.net.Link.{Link}
use Rattle.connectors.specs.WireState.{new_wire}
use Rattle.run_desk.proofs.blank.new_holders.Given as goal

abbrev pub invariant-loop-link : goal.invariant-loop-link
invariant-loop-link l =
    (length l.wires.items ≡ l.link-index) × (l.wires.items ++ map (λ (link : Link). new_wire link.queue) (drop l.link-index l.links) ≡ map (λ (link : Link). new_wire link.queue) l.links)
    × (length l.links ≤ vec_capacity l.wires)

abbrev pub invariant-loop : goal.invariant-loop
invariant-loop l = (l.sights.items ≡ replicate l.counter None) × (l.fn.inputs ≤ vec_capacity l.sights)
