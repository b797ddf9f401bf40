use Rattle.std.proofs.Common.{length, refl, sym, ◌∙◌, ap, Some, slice_set}
use Rattle.std.proofs.lemmas.Option.{slice_get_read}
use Rattle.run_desk.specs.declared.seat.Seat.{Seat}
use Rattle.run_desk.specs.Turns.{list_changed_at, seat_after, asking}
use Rattle.run_desk.proofs.Reserves.{changed_twice}
use Rattle.run_desk.proofs.seat.change_and_ask.Goals as goal

pub returns : goal.returns
returns c =
    let seats = c.args.seats.now.items in
    let s = c.args.strand in
    let there = slice_get_read seats (length seats) s c.index_mut-seat.result.now refl c.requires c.index_mut-seat.ensures.value in
    ap (λ (seat : Seat). slice_set seats s (asking c.args.ask seat)) c.note.ensures
    ∙ sym (changed_twice (seat_after c.args.seen) (asking c.args.ask) seats (Some s) ∙ ap (list_changed_at seats s (λ seat. asking c.args.ask (seat_after c.args.seen seat))) there)
