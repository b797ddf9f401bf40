use Rattle.std.proofs.Common.{ℕ, List, length, ◌∙◌, ap}
use Rattle.record_pool.specs.PoolState.{Held}
use Rattle.record_pool.specs.Blocks.{blocks_of, blocks_at}
use Rattle.record_pool.proofs.Keeps.{keeps_emptied, emptied_held}
use Rattle.record_pool.proofs.pool.Pool.empty.Goals as goal

pub invariant_of-self-2 : goal.invariant_of-self-2
invariant_of-self-2 c =
    let counts = c.count_blocks.ensures ∙ ap (λ (bytes : List ℕ). blocks_of (length bytes)) (c.bytes.ensures ∙ ap (λ (held : Held). held.bytes) c.held.view_is) ∙ ap blocks_at c.in-Some.ensures.value in
    keeps_emptied _ _ _ _ _ _ _ _ _ _ _ _ c.self.invariant c.self.view_is c.requires.held c.index_mut.ensures.value c.in-Some.ensures.after counts c.push_reserved.ensures.items c.push_reserved.ensures.capacity

pub returns : goal.returns
returns c = emptied_held _ _ _ _ _ _ c.self.view_is c.requires.held c.requires.last c.index_mut.ensures.value c.in-Some.ensures.after
