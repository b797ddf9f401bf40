-- The doors lead to the links, and each of these has its wire.
use Rattle.std.proofs.Common.{◌≡◌, length, sym, ◌∙◌, ap, subst}
use Rattle.std.proofs.lemmas.List.{length-map, length-replicate}
use Rattle.pipe_model.specs.declared.net.Link.{Link}
use Rattle.connectors.specs.WireState.{new_wire}
use Rattle.run_desk.specs.Telling.{IsJoined}
use Rattle.run_desk.specs.Blank.{new_seat, doors_from, with_links}
use Rattle.run_desk.proofs.Laying.{joins}
use Rattle.run_desk.proofs.blank.lay_out.Goals as goal

pub new-requires-2 : goal.new-requires-2
new-requires-2 c =
    let net = c.args.net.now in
    let seats : length c.in_ok-seats.seats.items ≡ length net.strands = ap length c.in_ok-seats.ensures ∙ length-replicate (length c.as_slice-strands.result.now) new_seat ∙ ap length c.as_slice-strands.ensures in
    let wires : length c.in_ok-wires.wires.items ≡ length net.links = ap length c.in_ok-wires.ensures.wires ∙ length-map c.as_slice-links.result.now (λ (link : Link). new_wire link.queue) ∙ ap length c.as_slice-links.ensures in
    let doors : c.lead_all.new.doors.items ≡ with_links (doors_from 0 0 net.strands) 0 net.links =
    c.lead_all.ensures ∙ ap (λ z. with_links z 0 c.as_slice-links.result.now) (c.in_ok-doors.ensures.doors ∙ ap (doors_from 0 0) c.as_slice-strands.ensures)
    ∙ ap (with_links (doors_from 0 0 net.strands) 0) c.as_slice-links.ensures in
    subst (λ n. IsJoined n (length c.in_ok-wires.wires.items) c.lead_all.new.doors.items) (sym seats)
    (subst (λ n. IsJoined (length net.strands) n c.lead_all.new.doors.items) (sym wires) (subst (IsJoined (length net.strands) (length net.links)) (sym doors) (joins net.strands net.links)))
