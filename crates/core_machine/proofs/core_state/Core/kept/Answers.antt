use Rattle.std.proofs.Common.{◌≡◌, ◌<◌, Some, false, length, subst, sym, arith, slice_get}
use Rattle.pipe_model.specs.declared.net.Strand.{Strand as StrandIs}
use Rattle.pipe_model.specs.State.{past, strand_at, nothing_yet}
use Rattle.pipe_model.specs.Table.{form}
use Rattle.stage_steps.specs.Coroutine.{kept_by}
use Rattle.core_machine.specs.Machine.{Machine, state_of, left_by}
use Rattle.core_machine.proofs.Tales.{read_there, stage_there, stage_stands}
use Rattle.core_machine.proofs.core_state.Core.kept.Goals as goal

pub returns-in-None : goal.returns-in-None
returns-in-None g c =
    let i = c.self.inside in
    let v : ◌≡◌ {A = Machine} (record { net = i.floor.net; budget = i.budget; journal = i.journal.items; out = i.out.items; is_broken = i.is_broken }) c.args.self.now = c.self.view_is in
    let inside : c.args.strand < length i.floor.net.strands = subst (λ (z : Machine). c.args.strand < length z.net.strands) (sym v) c.requires.strand in
    let home : left_by i.journal.items i.out.items c.args.strand ≡ false = subst (λ (z : Machine). left_by z.journal z.out c.args.strand ≡ false) (sym v) c.requires.home in
    let count : length i.actors.items ≡ length i.floor.net.strands = c.self.invariant.0.strands.count in
    let at : slice_get i.actors.items c.args.strand ≡ Some c.index.result.now = read_there i.actors.items c.args.strand c.index.result.now (omega (arith, inside, count)) c.index.ensures in
    absurd (stage_there g.S.Stage.stands i.floor.net i.budget i.journal.items i.out.items i.actors.items i.floor.desk i.floor.pool c.self.invariant.0 i.is_broken c.args.strand c.index.result.now at home c.in-None.is)

pub returns-in-Some : goal.returns-in-Some
returns-in-Some g c =
    let i = c.self.inside in
    let v : ◌≡◌ {A = Machine} (record { net = i.floor.net; budget = i.budget; journal = i.journal.items; out = i.out.items; is_broken = i.is_broken }) c.args.self.now = c.self.view_is in
    let inside : c.args.strand < length i.floor.net.strands = subst (λ (z : Machine). c.args.strand < length z.net.strands) (sym v) c.requires.strand in
    let count : length i.actors.items ≡ length i.floor.net.strands = c.self.invariant.0.strands.count in
    let at : slice_get i.actors.items c.args.strand ≡ Some c.index.result.now = read_there i.actors.items c.args.strand c.index.result.now (omega (arith, inside, count)) c.index.ensures in
    subst (λ (z : Machine). (p : StrandIs) → strand_at z.net nothing_yet c.args.strand ≡ Some p → c.kept.result.now ≡ kept_by (form p).keeping (past (state_of z) c.args.strand)) v
    (λ p here. c.kept.ensures p (past (state_of (record { net = i.floor.net; budget = i.budget; journal = i.journal.items; out = i.out.items; is_broken = i.is_broken })) c.args.strand)
    (stage_stands g.S.Stage.stands i.floor.net i.budget i.journal.items i.out.items i.actors.items i.floor.desk i.floor.pool c.self.invariant.0 i.is_broken c.args.strand p c.index.result.now c.in-Some.stage here at c.in-Some.is))
