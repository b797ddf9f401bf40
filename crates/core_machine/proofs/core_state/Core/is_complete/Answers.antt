use Rattle.std.proofs.Common.{rules, ◌≡◌, ◌≤◌, length, [], subst, sym, arith, vec_len, ◌∙◌}
use Rattle.std.proofs.lemmas.Bool.{eqb-true}
use Rattle.core_machine.specs.Machine.{Machine, HasStopped}
use Rattle.core_machine.proofs.Tales.{goes_on, stopped, none_of}
use Rattle.core_machine.proofs.core_state.Core.is_complete.Goals as goal

pub returns-then-is_some-clause-no : goal.returns-then-is_some-clause-no
returns-then-is_some-clause-no g c =
    let i = c.self.inside in
    let v : ◌≡◌ {A = Machine} (record { net = i.floor.net; budget = i.budget; journal = i.journal.items; out = i.out.items; is_broken = i.is_broken }) c.args.self.now = c.self.view_is in
    λ same all. goes_on g.S.Stage.stands i.floor.net i.budget i.journal.items i.out.items i.actors.items i.floor.desk i.floor.pool c.self.invariant.0 i.is_broken c.loop-strand.strand c.ready_stream.result c.ready_stream.ensures
    (sym c.is_some.ensures ∙ c.if-is_some.true) (subst HasStopped (sym v) all)

pub returns-clause-yes : goal.returns-clause-yes
returns-clause-yes g c =
    let i = c.self.inside in
    let v : ◌≡◌ {A = Machine} (record { net = i.floor.net; budget = i.budget; journal = i.journal.items; out = i.out.items; is_broken = i.is_broken }) c.args.self.now = c.self.view_is in
    let zero : vec_len i.out ≡ 0 = eqb-true (vec_len i.out) 0 (sym c.is_empty.ensures ∙ c.if-not-is_empty.false) in
    let none : i.out.items ≡ [] = none_of i.out.items (sym i.out.ok.0 ∙ zero) in
    let all : length i.actors.items ≤ c.loop-strand.strand = search rules in
    λ same. subst HasStopped v (stopped g.S.Stage.stands i.floor.net i.budget i.journal.items i.out.items i.actors.items i.floor.desk i.floor.pool c.self.invariant.0 i.is_broken none
    (λ s k below. c.loop-strand.invariant s k (omega (arith, below, all))))
