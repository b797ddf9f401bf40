use Rattle.std.proofs.Common.{◌≡◌, sym, ◌∙◌, ap, ◌-◌, arith}
use Rattle.std.proofs.lemmas.Grind.{common_steps}
use Rattle.std.specs.Prelude.{Some}
use Rattle.record_pool.specs.PoolState.{Held}
use Rattle.record_pool.specs.Places.{given, one_less}
use Rattle.record_pool.proofs.Records.{written_held, changed_here, others_stay}
use Rattle.record_pool.proofs.Keeps.{keeps_given, one_stays}
use Rattle.record_pool.proofs.pool.Pool.give.Goals as goal

pub invariant_of-self : goal.invariant_of-self
invariant_of-self c =
    keeps_given _ _ _ _ _ _ _ _ _ _ _ c.self.invariant c.self.view_is c.grip.view_is c.requires c.index_mut.ensures.value c.in-Some.is (ap (λ (held : Held). Some (record held { holders = held.holders - 1 })) c.held.view_is)

pub returns-in-Some-clause-given : goal.returns-in-Some-clause-given
returns-in-Some-clause-given c =
    let less = sym (ap one_less (c.in-Some.is ∙ ap Some (sym c.held.view_is)) ∙ one_stays _ c.if-held-gt1.true) in
    written_held one_less _ _ _ _ _ _ _ c.self.view_is c.grip.view_is c.requires c.index_mut.ensures.value less

pub returns-in_default-clause-less : goal.returns-in_default-clause-less
returns-in_default-clause-less c =
    let is : c.empty.new.self ≡ given c.args.self.now c.args.grip = grind (arith, common_steps) in
    changed_here c.args.self.now c.empty.new.self c.args.grip _ is

pub returns-in_default-clause-others : goal.returns-in_default-clause-others
returns-in_default-clause-others c =
    let is : c.empty.new.self ≡ given c.args.self.now c.args.grip = grind (arith, common_steps) in
    others_stay c.args.self.now c.empty.new.self c.args.grip _ is
