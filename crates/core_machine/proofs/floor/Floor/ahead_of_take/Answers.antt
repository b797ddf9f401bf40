-- What is known is what the link at the input tells.
use Rattle.std.proofs.Common.{◌≡◌, ◌<◌, Some, sym, subst, slice_get, slice_index_or}
use Rattle.run_desk.specs.Telling as Telling
use Rattle.core_machine.specs.Floor.{FloorState, IsInUse}
use Rattle.core_machine.proofs.Relays.{none, link_of}
use Rattle.core_machine.proofs.floor.Floor.ahead_of_take.Goals as goal

pub returns-in-Some : goal.returns-in-Some
returns-in-Some c = λ d pool k asked gone plain silent.
    let i = c.self.inside in
    let v : ◌≡◌ {A = FloorState} (record { net = i.net; desk = i.desk; pool = i.pool; ready = i.ready }) c.args.self.now = c.self.view_is in
    let j = c.in-Some.link in
    let used = subst (λ (f : FloorState). IsInUse f.net f.desk) (sym v) c.requires.used in
    let at = link_of i.net.links c.as_slice.result.now j c.as_slice.ensures (subst (λ m. j < m) used.kept.laid.wire_count c.in-Some.ensures.there) in
    let door = subst (λ (f : FloorState). Telling.in_door f.desk c.args.strand c.args.i ≡ Some j) v (sym c.in-Some.ensures.door) in
    c.ahead_of_take_on.ensures d pool k c.args.i j asked gone door (subst (λ (f : FloorState). slice_get f.net.links j ≡ Some (slice_index_or c.as_slice.result.now j none)) v at) plain silent
