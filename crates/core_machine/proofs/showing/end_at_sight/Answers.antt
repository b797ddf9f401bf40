-- What may be shown on the floor may be so once the record is in its pool.
use Rattle.std.proofs.Common.{◌≡◌, ◌<◌, ◌≤◌, ℕ, true, List, Some, length, sym, ◌∙◌, ap, subst}
use Rattle.pipe_model.specs.declared.net.Net.{Net}
use Rattle.connectors.specs.WireState.{is_due}
use Rattle.run_desk.specs.Desk.{DeskState}
use Rattle.run_desk.specs.Relaying.{desk_showing, pool_refilled}
use Rattle.run_desk.specs.Turns.{Behind}
use Rattle.core_machine.specs.Floor.{IsCovered}
use Rattle.core_machine.specs.Members.{Members}
use Rattle.core_machine.specs.Woken.{IsCovering}
use Rattle.core_machine.proofs.showing.end_at_sight.Goals as goal

pub refill-requires-clause-link : goal.refill-requires-clause-link
refill-requires-clause-link g c = c.requires.shows.link

pub refill-requires-clause-held : goal.refill-requires-clause-held
refill-requires-clause-held g c = c.requires.shows.held

pub refill-requires-clause-short : goal.refill-requires-clause-short
refill-requires-clause-short g c = subst (λ (l : List ℕ). length l ≤ 256) (sym (c.copied.ensures ∙ c.shown.ensures)) c.requires.short

pub show-requires-clause-to : goal.show-requires-clause-to
show-requires-clause-to g c = subst (λ (d : DeskState). c.args.pair.to < length d.seats) (sym c.refill.ensures.desk) c.requires.shows.to

pub show-requires-clause-link : goal.show-requires-clause-link
show-requires-clause-link g c = subst (λ (d : DeskState). c.args.pair.link < length d.wires) (sym c.refill.ensures.desk) c.requires.shows.link

pub show-requires-clause-due : goal.show-requires-clause-due
show-requires-clause-due g c = subst (λ (d : DeskState). Behind (λ wire. is_due wire ≡ true) d.wires (Some c.args.pair.link)) (sym c.refill.ensures.desk) c.requires.shows.due

pub show-requires-clause-covers : goal.show-requires-clause-covers
show-requires-clause-covers g c = λ covered.
    let old = c.args.floor.now in
    let is = c.refill.ensures in
    let before : IsCovered old.net old.desk old.ready =
    subst (λ (n : Net). IsCovered n old.desk old.ready) is.net (subst (λ (d : DeskState). IsCovered c.refill.new.self.net d old.ready) is.desk
    (subst (λ (r : Members). IsCovered c.refill.new.self.net c.refill.new.self.desk r) is.ready covered)) in
    subst (λ (d : DeskState). IsCovering (desk_showing d c.args.pair.to c.args.pair.link) c.refill.new.self.ready) (sym is.desk)
    (subst (λ (r : Members). IsCovering (desk_showing old.desk c.args.pair.to c.args.pair.link) r) (sym is.ready) (c.requires.shows.covers before))

pub put_back-requires : goal.put_back-requires
put_back-requires g c = c.requires.writer

pub returns-clause-net : goal.returns-clause-net
returns-clause-net g c = c.show.ensures.net ∙ c.refill.ensures.net

pub returns-clause-desk : goal.returns-clause-desk
returns-clause-desk g c = c.show.ensures.desk ∙ ap (λ (d : DeskState). desk_showing d c.args.pair.to c.args.pair.link) c.refill.ensures.desk

pub returns-clause-ready : goal.returns-clause-ready
returns-clause-ready g c = c.show.ensures.ready ∙ c.refill.ensures.ready

pub returns-clause-pool : goal.returns-clause-pool
returns-clause-pool g c = λ grip offers.
    c.show.ensures.pool ∙ c.refill.ensures.pool grip offers ∙ ap (λ z. pool_refilled c.args.floor.now.pool grip z) (c.copied.ensures ∙ c.shown.ensures)

pub returns-clause-back : goal.returns-clause-back
returns-clause-back g c = c.put_back.ensures
