use Rattle.record_pool.specs.Places.{one_more}
use Rattle.record_pool.proofs.Records.{written_held}
use Rattle.record_pool.proofs.Keeps.{keeps_shared}
use Rattle.record_pool.proofs.pool.Pool.share.Goals as goal

pub invariant_of-self : goal.invariant_of-self
invariant_of-self c = keeps_shared _ _ _ _ _ _ _ _ _ _ c.self.invariant c.self.view_is c.grip.view_is c.requires.held c.index_mut.ensures.value c.add_holder.ensures

pub returns-clause-shared : goal.returns-clause-shared
returns-clause-shared c = written_held one_more _ _ _ _ _ _ _ c.self.view_is c.grip.view_is c.requires.held c.index_mut.ensures.value c.add_holder.ensures
