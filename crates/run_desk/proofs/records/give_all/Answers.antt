-- Each hold that is given back leaves the pool with the rest, and at the end with none.
use Rattle.std.proofs.Common.{rules, ◌≡◌, ℕ, List, [], ◌∷◌, ◌++◌, Option, subst, Some}
use Rattle.connectors.specs.WireState.{WireState}
use Rattle.run_desk.specs.Holding.{IsPooled}
use Rattle.run_desk.proofs.Pooled.{pooled_last_wire, pooled_last_sight, none_held}
use Rattle.run_desk.proofs.records.give_all.Goals as goal

pub drain-requires : goal.drain-requires
drain-requires c =
    let all : c.loop-wire.wires.items ≡ c.pop.new.self.items ++ c.in-Some.wire ∷ [] = c.in-Some.ensures.items in
    let before : IsPooled (c.pop.new.self.items ++ c.in-Some.wire ∷ []) c.args.sights.items c.loop-wire.pool = subst (λ (z : List WireState). IsPooled z c.args.sights.items c.loop-wire.pool) all c.loop-wire.invariant in
    (pooled_last_wire c.pop.new.self.items c.in-Some.wire c.args.sights.items c.loop-wire.pool before).0

pub loop-wire-preserved : goal.loop-wire-preserved
loop-wire-preserved c =
    let all : c.loop-wire.wires.items ≡ c.pop.new.self.items ++ c.in-Some.wire ∷ [] = c.in-Some.ensures.items in
    let before : IsPooled (c.pop.new.self.items ++ c.in-Some.wire ∷ []) c.args.sights.items c.loop-wire.pool = subst (λ (z : List WireState). IsPooled z c.args.sights.items c.loop-wire.pool) all c.loop-wire.invariant in
    rw c.drain.ensures (pooled_last_wire c.pop.new.self.items c.in-Some.wire c.args.sights.items c.loop-wire.pool before).1

pub loop-sight-preserved-in-Some-sight : goal.loop-sight-preserved-in-Some-sight
loop-sight-preserved-in-Some-sight c =
    let all : c.loop-sight.sights.items ≡ c.pop-in-loop-sight.new.self.items ++ Some c.in-Some-sight.grip ∷ [] = rw c.in-Some-sight.is at c.in-Some-pop.ensures.items in
    let before : IsPooled [] (c.pop-in-loop-sight.new.self.items ++ Some c.in-Some-sight.grip ∷ []) c.loop-sight.pool = subst (λ (z : List (Option ℕ)). IsPooled [] z c.loop-sight.pool) all c.loop-sight.invariant in
    rw c.give.ensures.given (pooled_last_sight [] c.pop-in-loop-sight.new.self.items (Some c.in-Some-sight.grip) c.loop-sight.pool before)

pub returns : goal.returns
returns c =
    let none : c.loop-sight.sights.items ≡ [] = search rules in
    none_held c.loop-sight.pool (subst (λ (z : List (Option ℕ)). IsPooled [] z c.loop-sight.pool) none c.loop-sight.invariant)
