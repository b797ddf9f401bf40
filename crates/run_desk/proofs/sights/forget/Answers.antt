-- The first of what is left is given back, and the rest is left.
use Rattle.std.proofs.Common.{ℕ, ◌+◌, List, Option, Some, sym, ◌∙◌, ap, subst, arith, drop}
use Rattle.record_pool.specs.PoolState.{PoolState}
use Rattle.connectors.specs.WireState.{given_in}
use Rattle.run_desk.specs.Telling.{numbered, sight_through}
use Rattle.run_desk.specs.Turns.{sights_without, pool_without, CanForget}
use Rattle.run_desk.proofs.SightDoors.{numbered_drop}
use Rattle.run_desk.proofs.sights.forget.Goals as goal

pub forget_at-requires : goal.forget_at-requires
forget_at-requires c =
    let step = numbered_drop c.loop.n c.args.inputs.now c.loop.index c.loop-test.true in
    (subst (λ (l : List (Option ℕ)). CanForget l c.loop.sights.items c.loop.pool) step c.loop.invariant.3).0

pub loop-preserved : goal.loop-preserved
loop-preserved c =
    let step = numbered_drop c.loop.n c.args.inputs.now c.loop.index c.loop-test.true in
    let rest : List (Option ℕ) = numbered (c.loop.n + 1) (drop (c.loop.index + 1) c.args.inputs.now) in
    let sights = c.forget_at.ensures.sights in
    let pool = c.forget_at.ensures.pool in
    let given = given_in c.loop.pool (sight_through c.loop.sights.items (Some c.loop.n)) in
    let can = (subst (λ (l : List (Option ℕ)). CanForget l c.loop.sights.items c.loop.pool) step c.loop.invariant.3).1 in (
      omega (arith, c.loop.invariant.0),
      ap (sights_without rest) sights ∙ sym (ap (λ (l : List (Option ℕ)). sights_without l c.loop.sights.items) step) ∙ c.loop.invariant.1,
      ap (λ (s : List (Option ℕ)). pool_without rest s c.forget_at.new.pool) sights ∙ ap (pool_without rest _) pool
          ∙ sym (ap (λ (l : List (Option ℕ)). pool_without l c.loop.sights.items c.loop.pool) step) ∙ c.loop.invariant.2,
      subst (λ (p : PoolState). CanForget rest c.forget_at.new.sights.items p) (sym pool) (subst (λ (s : List (Option ℕ)). CanForget rest s given) (sym sights) can),
    )
