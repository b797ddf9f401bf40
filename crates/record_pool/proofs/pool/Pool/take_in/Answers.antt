use Rattle.std.proofs.Common.{ℕ, List, length, arith, ap, ◌∙◌}
use Rattle.std.specs.Prelude.{Option, Some}
use Rattle.record_pool.specs.PoolState.{Held, PoolState}
use Rattle.record_pool.specs.Blocks.{blocks_of}
use Rattle.record_pool.specs.Places.{record_at, fresh}
use Rattle.record_pool.proofs.Records.{pool_of, changed_here, others_stay}
use Rattle.record_pool.proofs.Keeps.{blocks_put}
use Rattle.record_pool.proofs.pool.Pool.take_in.Goals as goal

pub invariant_of-self-2 : goal.invariant_of-self-2
invariant_of-self-2 c =
    let put = blocks_put _ _ _ _ c.in_ok-place.ensures.vacant c.in_ok-place.ensures.put in (
      c.in_ok-place.ensures.kept,
      omega (arith, put, c.in-Some.ensures, c.count_blocks.ensures, c.self.invariant.1, ap (λ (bytes : List ℕ). blocks_of (length bytes)) c.bytes-2.ensures),
    )

pub returns-clause-held : goal.returns-clause-held
returns-clause-held c =
    changed_here (pool_of c.self.inside.places.items c.self.inside.nodes) _ _ _ (ap (λ (places : List (Option Held)). pool_of places c.self.inside.nodes) c.in_ok-place.ensures.put) ∙ ap (λ (bytes : List ℕ). Some (fresh bytes)) c.replace-bytes.ensures.value

pub returns-clause-others : goal.returns-clause-others
returns-clause-others c =
    λ other apart. others_stay (pool_of c.self.inside.places.items c.self.inside.nodes) _ _ _ (ap (λ (places : List (Option Held)). pool_of places c.self.inside.nodes) c.in_ok-place.ensures.put) other apart ∙ ap (λ (pool : PoolState). record_at pool other) c.self.view_is
