use Rattle.std.proofs.Common.{arith, ◌≡◌, ◌<◌, Some, length, subst, sym, ◌∙◌, slice_get}
use Rattle.std.specs.Prelude.{slice_index_or, List}
use Rattle.core_machine.specs.declared.actor.Actor.{Actor}
use Rattle.pipe_model.specs.Event.{Want as Wanted}
use Rattle.pipe_model.specs.State.{past}
use Rattle.core_machine.specs.Answered.{Shows}
use Rattle.core_machine.specs.Machine.{Machine, state_of}
use Rattle.core_machine.specs.Machine.{want_of as wanted}
use Rattle.core_machine.proofs.Tales.{read_there, wanted_shown}
use Rattle.core_machine.proofs.core_state.Core.want_of.Goals as goal

pub returns : goal.returns
returns g c =
    let i = c.self.inside in
    let v : ◌≡◌ {A = Machine} (record { net = i.floor.net; budget = i.budget; journal = i.journal.items; out = i.out.items; is_broken = i.is_broken }) c.args.self.now = c.self.view_is in
    let below : c.args.strand < length i.floor.net.strands = subst (λ (z : Machine). c.args.strand < length z.net.strands) (sym v) c.requires in
    let count : length i.actors.items ≡ length i.floor.net.strands = c.self.invariant.0.strands.count in
    let read : c.in_ok-actor.actor.now ≡ slice_index_or i.actors.items c.args.strand c.in_ok-actor.actor.now = subst (λ (ys : List (Actor g.row.S.Denot)). c.in_ok-actor.actor.now ≡ slice_index_or ys c.args.strand c.in_ok-actor.actor.now) c.deref.ensures.value c.in_ok-actor.ensures.lookup.1 in
    let at : slice_get i.actors.items c.args.strand ≡ Some c.in_ok-actor.actor.now = read_there i.actors.items c.args.strand c.in_ok-actor.actor.now (omega (arith, below, count)) read in
    subst (λ (z : Machine). (w : Wanted) × (wanted z c.args.strand ≡ Some w) × Shows (past (state_of z) c.args.strand) c.in_ok-actor.actor.now.asked w) v
    (wanted_shown g.S.Stage.stands i.floor.net i.budget i.journal.items i.out.items i.actors.items i.floor.desk i.floor.pool c.self.invariant.0 i.is_broken c.args.strand c.in_ok-actor.actor.now
    at (sym c.asks_nothing.ensures ∙ c.if-asks_nothing.false))
