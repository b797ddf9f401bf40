-- What is left to give back makes of the sights and the pool so far what is to be given back makes of the first ones.
use Rattle.std.proofs.Common.{◌≡◌, ◌+◌, drop}
use Rattle.run_desk.specs.Telling.{numbered}
use Rattle.run_desk.specs.Turns.{CanForget, sights_without, pool_without}
use Rattle.run_desk.proofs.sights.forget.Given as goal

abbrev pub invariant-loop : goal.invariant-loop
invariant-loop l =
    (l.n ≡ l.first + l.index) × (sights_without (numbered l.n (drop l.index l.inputs)) l.sights.items ≡ sights_without (numbered l.first l.inputs) l.initial.sights.items)
    × (pool_without (numbered l.n (drop l.index l.inputs)) l.sights.items l.pool ≡ pool_without (numbered l.first l.inputs) l.initial.sights.items l.initial.pool)
    × CanForget (numbered l.n (drop l.index l.inputs)) l.sights.items l.pool
