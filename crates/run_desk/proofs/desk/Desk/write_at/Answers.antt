-- What was written at a reserved place is written on the output; a place that is given back leaves all as it was.
use Rattle.std.proofs.Common.{◌≡◌, false, List, sym, ◌∙◌, ap, subst}
use Rattle.std.specs.Prelude.{IfOk, OnErr}
use Rattle.std.proofs.lemmas.Result.{IfOk-weaker}
use Rattle.record_pool.specs.PoolState.{PoolState}
use Rattle.connectors.specs.WireState.{WireState}
use Rattle.run_desk.specs.Desk.{DeskState}
use Rattle.run_desk.specs.Telling.{out_door, through}
use Rattle.run_desk.specs.Turns.{list_changed_behind, pool_with_room, pool_without_room, without_room, Behind, HasOffered, HasWritten}
use Rattle.run_desk.proofs.Reserves.{has_written, wires_back, pool_back, with_room_at}
use Rattle.run_desk.proofs.desk.Desk.write_at.Goals as goal

pub returns-in-Ok-clause-ok : goal.returns-in-Ok-clause-ok
returns-in-Ok-clause-ok c =
    let i = c.self.inside in
    let D : List WireState → DeskState = λ w. record { seats = i.seats.items; wires = w; sights = i.sights.items; doors = i.doors.items; unit = i.unit } in
    let door : c.args.door ≡ out_door (D i.wires.items) c.args.strand c.args.o = c.requires.door ∙ ap (λ z. out_door z c.args.strand c.args.o) (sym c.self.view_is) in
    let new = c.write_reserved.new.self in
    let after = c.write_reserved.new.pool in
    let P : DeskState → PoolState → Type 0 = λ d p. HasOffered d p c.args.strand c.args.o c.args.door c.args.out.now new after in
    let come = IfOk-weaker c.write_reserved.result (λ done. P (D c.reserve_at.new.wires.items) c.reserve_at.new.pool) (λ done. HasWritten (D i.wires.items) c.args.pool.now c.args.strand c.args.o c.args.out.now new after)
    (λ done has. has_written (D i.wires.items) c.args.pool.now c.args.strand c.args.o c.args.door c.args.out.now new after door
    (subst (P (with_room_at (D i.wires.items) c.args.door)) c.in-Ok.ensures.pool (subst (λ w. P (D w) c.reserve_at.new.pool) c.in-Ok.ensures.wires has))) c.write_reserved.ensures.ok in
    subst (λ (z : DeskState). IfOk c.write_reserved.result (λ done. HasWritten z c.args.pool.now c.args.strand c.args.o c.args.out.now new after)) c.self.view_is come

pub returns-in-Ok-clause-err : goal.returns-in-Ok-clause-err
returns-in-Ok-clause-err c =
    let i = c.self.inside in
    let D : List WireState → DeskState = λ w. record { seats = i.seats.items; wires = w; sights = i.sights.items; doors = i.doors.items; unit = i.unit } in
    let at : c.args.door ≡ out_door c.args.self.now c.args.strand c.args.o = c.requires.door in
    let free : Behind (λ wire. wire.reserved ≡ false) i.wires.items c.args.door =
    subst (λ (z : DeskState). Behind (λ wire. wire.reserved ≡ false) z.wires c.args.door) (sym c.self.view_is) (subst (Behind (λ wire. wire.reserved ≡ false) c.args.self.now.wires) (sym at) c.requires.ask.3) in
    let back : D (list_changed_behind c.reserve_at.new.wires.items without_room c.args.door) ≡ c.args.self.now =
    ap (λ w. D (list_changed_behind w without_room c.args.door)) c.in-Ok.ensures.wires ∙ ap D (wires_back i.wires.items c.args.door free) ∙ c.self.view_is in
    subst (λ (z : DeskState). OnErr c.write_reserved.result (c.write_reserved.new.self ≡ z)) back c.write_reserved.ensures.err

pub returns-in-Ok-clause-err_pool : goal.returns-in-Ok-clause-err_pool
returns-in-Ok-clause-err_pool c =
    let i = c.self.inside in
    let back = ap (λ p. pool_without_room p (through c.reserve_at.new.wires.items c.args.door)) c.in-Ok.ensures.pool
    ∙ ap (λ w. pool_without_room (pool_with_room c.args.pool.now (through i.wires.items c.args.door)) (through w c.args.door)) c.in-Ok.ensures.wires ∙ pool_back c.args.pool.now i.wires.items c.args.door in
    subst (λ (z : PoolState). OnErr c.write_reserved.result (c.write_reserved.new.pool ≡ z)) back c.write_reserved.ensures.err_pool
