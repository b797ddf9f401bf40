use Rattle.std.proofs.Common.{◌≡◌, Some, length, sym, ◌∙◌, ap, subst}
use Rattle.stage_steps.specs.Coroutine.{bytes_with}
use Rattle.core_machine.specs.Machine.{Machine, licence_of}
use Rattle.core_machine.proofs.Sounds.{hand_held, looks_long}
use Rattle.core_machine.proofs.core_state.Core.size_of_look.Goals as goal

pub size_at_hand-requires : goal.size_at_hand-requires
size_at_hand-requires g c =
    let i = c.self.inside in
    let v : ◌≡◌ {A = Machine} (record { net = i.floor.net; budget = i.budget; journal = i.journal.items; out = i.out.items; is_broken = i.is_broken }) c.args.self.now = c.self.view_is in
    hand_held g.S.Stage.stands i.floor.net i.budget i.journal.items i.out.items i.actors.items i.floor.desk i.floor.pool c.self.invariant.0 c.args.strand c.in-Saw.i

pub returns-in-Saw : goal.returns-in-Saw
returns-in-Saw g c =
    let i = c.self.inside in
    let v : ◌≡◌ {A = Machine} (record { net = i.floor.net; budget = i.budget; journal = i.journal.items; out = i.out.items; is_broken = i.is_broken }) c.args.self.now = c.self.view_is in
    λ k e may is. c.size_at_hand.ensures
    ∙ looks_long g.S.Stage.stands i.floor.net i.budget i.journal.items i.out.items i.actors.items i.floor.desk i.floor.pool c.self.invariant.0 c.args.strand k e c.in-Saw.i (subst (λ (z : Machine). licence_of z c.args.strand k ≡ Some e) (sym v) may) (is ∙ c.in-Saw.is)
    ∙ ap (λ b. length (bytes_with b e)) (sym c.if-looks.true ∙ c.requires)
