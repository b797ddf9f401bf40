-- What the pool counts and holds after a hold was given back, shared or made new.
use Rattle.std.proofs.Common.{◌≡◌, ◌≢◌, inl, inr, ℕ, ◌+◌, ◌-◌, ◌<◌, true, false, cond, List, ◌==◌, nat_lt, refl, sym, ◌∙◌, ap, subst, arith, Option, Some, None}
use Rattle.std.specs.Prelude.{IsSome}
use Rattle.std.proofs.lemmas.Bool.Decides.{nat_tests}
use Rattle.std.proofs.lemmas.Bool.{ne_eqb}
use Rattle.pipe_model.proofs.Numbers.{equal_or_not, test_same}
use Rattle.record_pool.specs.PoolState.{Held, PoolState}
use Rattle.record_pool.specs.Places.{record_at, IsHeld, holders_of, holders_at, bytes_of, bytes_at, with_record, fresh, one_more, one_less, shared, given}
use Rattle.record_pool.proofs.Records.{record_at-same, record_at-other}
use Rattle.connectors.specs.WireState.{given_in}
use Rattle.run_desk.proofs.Counts.{one, hold}

-- each record has a holder
abbrev pub AreAlive : PoolState → Type 0
AreAlive pool = (grip : ℕ) (held : Held) → record_at pool grip ≡ Some held → 0 < held.holders

-- One place

less_holders : (place : Option Held) → holders_of (one_less place) ≡ holders_of place - 1
less_holders None = omega arith
less_holders (Some held) = (elim (nat_lt 1 held.holders) as (λ b. nat_lt 1 held.holders ≡ b → holders_of (cond b (Some (record held { holders = held.holders - 1 })) None) ≡ held.holders - 1) [
  | true ↦ λ is. refl
  | false ↦ λ is. grind (arith, nat_tests, is)
]) refl

less_alive : (place : Option Held) (held : Held) → one_less place ≡ Some held → 0 < held.holders
less_alive None held is = cc
less_alive (Some was) held is = (elim (nat_lt 1 was.holders) as (λ b. nat_lt 1 was.holders ≡ b → cond b (Some (record was { holders = was.holders - 1 })) None ≡ Some held → 0 < held.holders) [
  | true ↦ λ more got. (let it : record was { holders = was.holders - 1 } ≡ held = cc in subst (λ (z : Held). 0 < z.holders) it (grind (arith, nat_tests, more)))
  | false ↦ λ more got. cc
]) refl is

less_bytes : (place : Option Held) → IsSome (one_less place) → IsSome place × (bytes_of (one_less place) ≡ bytes_of place)
less_bytes None is = cc
less_bytes (Some was) is = (elim (nat_lt 1 was.holders) as (λ b. IsSome (cond b (Some (record was { holders = was.holders - 1 })) None) → IsSome (Some was) × (bytes_of (cond b (Some (record was { holders = was.holders - 1 })) None) ≡ was.bytes)) [
  | true ↦ λ got. (refl, refl)
  | false ↦ λ got. cc
]) is

more_holders : (place : Option Held) → IsSome place → holders_of (one_more place) ≡ holders_of place + 1
more_holders None is = cc
more_holders (Some held) is = refl

more_alive : (place : Option Held) (held : Held) → one_more place ≡ Some held → 0 < held.holders
more_alive None held is = cc
more_alive (Some was) held is = let it : record was { holders = was.holders + 1 } ≡ held = cc in subst (λ (z : Held). 0 < z.holders) it (omega arith)

more_bytes : (place : Option Held) → IsSome (one_more place) → IsSome place × (bytes_of (one_more place) ≡ bytes_of place)
more_bytes None is = cc
more_bytes (Some held) is = (refl, refl)

-- A pool

-- what has holders is held
pub holders_held : (pool : PoolState) (grip : ℕ) → 0 < holders_at pool grip → IsHeld pool grip
holders_held pool grip some = go (record_at pool grip) some
  where
    go : (place : Option Held) → 0 < holders_of place → IsSome place
    go None some = absurd (omega (arith, some))
    go (Some held) some = refl

pub held_same : (grip other : ℕ) → grip ≢ other → hold grip (Some other) ≡ 0
held_same grip other apart = ap one (ne_eqb other grip (λ e. apart (sym e)))

pub held_here : (grip other : ℕ) → grip ≡ other → hold grip (Some other) ≡ 1
held_here grip other is = ap (λ z. one (other == z)) is ∙ ap one (test_same other)

-- a hold that is given back is one less
pub holders_given : (pool : PoolState) (x : Option ℕ) (grip : ℕ) → holders_at (given_in pool x) grip ≡ holders_at pool grip - hold grip x
holders_given pool None grip = omega arith
holders_given pool (Some g) grip = elim (equal_or_not grip g) [
  | inl is ↦
      let here : holders_at (given pool g) g ≡ holders_at pool g - 1 = ap holders_of (record_at-same pool g (one_less (record_at pool g))) ∙ less_holders (record_at pool g) in
      subst (λ z. holders_at (given pool g) z ≡ holders_at pool z - hold z (Some g)) (sym is) (here ∙ ap (λ n. holders_at pool g - n) (sym (held_here g g refl)))
  | inr apart ↦
      let there : holders_at (given pool g) grip ≡ holders_at pool grip = ap holders_of (record_at-other pool g grip (one_less (record_at pool g)) apart) in
      omega (arith, there, held_same grip g apart)
]

-- no place in a queue is
pub nodes_given : (pool : PoolState) (x : Option ℕ) → (given_in pool x).nodes ≡ pool.nodes
nodes_given pool None = refl
nodes_given pool (Some g) = refl

-- and leaves no record without a holder
pub alive_given : (pool : PoolState) (x : Option ℕ) → AreAlive pool → AreAlive (given_in pool x)
alive_given pool None alive grip held at = alive grip held at
alive_given pool (Some g) alive grip held at = elim (equal_or_not grip g) [
  | inl is ↦ less_alive (record_at pool g) held (sym (record_at-same pool g (one_less (record_at pool g))) ∙ ap (record_at (given pool g)) (sym is) ∙ at)
  | inr apart ↦ alive grip held (sym (record_at-other pool g grip (one_less (record_at pool g)) apart) ∙ at)
]

-- and what is still held was held, with the same bytes
pub bytes_given : (pool : PoolState) (x : Option ℕ) (grip : ℕ) → IsHeld (given_in pool x) grip → IsHeld pool grip × (bytes_at (given_in pool x) grip ≡ bytes_at pool grip)
bytes_given pool None grip held = (held, refl)
bytes_given pool (Some g) grip held = elim (equal_or_not grip g) [
  | inl is ↦
      let at : record_at (given pool g) grip ≡ one_less (record_at pool grip) = ap (record_at (given pool g)) is ∙ record_at-same pool g (one_less (record_at pool g)) ∙ ap (λ z. one_less (record_at pool z)) (sym is) in
      let same = less_bytes (record_at pool grip) (subst (λ z. IsSome z) at held) in
      (same.0, ap bytes_of at ∙ same.1)
  | inr apart ↦
      let at : record_at (given pool g) grip ≡ record_at pool grip = record_at-other pool g grip (one_less (record_at pool g)) apart in
      (subst (λ z. IsSome z) at held, ap bytes_of at)
]

-- a share is one hold more
pub holders_shared : (pool : PoolState) (g grip : ℕ) → IsHeld pool g → holders_at (shared pool g) grip ≡ hold grip (Some g) + holders_at pool grip
holders_shared pool g grip held = elim (equal_or_not grip g) [
  | inl is ↦
      let here : holders_at (shared pool g) g ≡ holders_at pool g + 1 = ap holders_of (record_at-same pool g (one_more (record_at pool g))) ∙ more_holders (record_at pool g) held in
      subst (λ z. holders_at (shared pool g) z ≡ hold z (Some g) + holders_at pool z) (sym is) (omega (arith, here, held_here g g refl))
  | inr apart ↦
      let there : holders_at (shared pool g) grip ≡ holders_at pool grip = ap holders_of (record_at-other pool g grip (one_more (record_at pool g)) apart) in
      omega (arith, there, held_same grip g apart)
]

-- and leaves no record without a holder
pub alive_shared : (pool : PoolState) (g : ℕ) → AreAlive pool → AreAlive (shared pool g)
alive_shared pool g alive grip held at = elim (equal_or_not grip g) [
  | inl is ↦ more_alive (record_at pool g) held (sym (record_at-same pool g (one_more (record_at pool g))) ∙ ap (record_at (shared pool g)) (sym is) ∙ at)
  | inr apart ↦ alive grip held (sym (record_at-other pool g grip (one_more (record_at pool g)) apart) ∙ at)
]

-- and what is held then was held, with the same bytes
pub bytes_shared : (pool : PoolState) (g grip : ℕ) → IsHeld (shared pool g) grip → IsHeld pool grip × (bytes_at (shared pool g) grip ≡ bytes_at pool grip)
bytes_shared pool g grip held = elim (equal_or_not grip g) [
  | inl is ↦
      let at : record_at (shared pool g) grip ≡ one_more (record_at pool grip) = ap (record_at (shared pool g)) is ∙ record_at-same pool g (one_more (record_at pool g)) ∙ ap (λ z. one_more (record_at pool z)) (sym is) in
      let same = more_bytes (record_at pool grip) (subst (λ z. IsSome z) at held) in
      (same.0, ap bytes_of at ∙ same.1)
  | inr apart ↦
      let at : record_at (shared pool g) grip ≡ record_at pool grip = record_at-other pool g grip (one_more (record_at pool g)) apart in
      (subst (λ z. IsSome z) at held, ap bytes_of at)
]

-- a new record has one holder
pub holders_fresh : (pool : PoolState) (bytes : List ℕ) (g grip : ℕ) → record_at pool g ≡ None → holders_at (with_record pool g (Some (fresh bytes))) grip ≡ hold grip (Some g) + holders_at pool grip
holders_fresh pool bytes g grip free = elim (equal_or_not grip g) [
  | inl is ↦
      let here : holders_at (with_record pool g (Some (fresh bytes))) g ≡ 1 = ap holders_of (record_at-same pool g (Some (fresh bytes))) in
      let none : holders_at pool g ≡ 0 = ap holders_of free in
      subst (λ z. holders_at (with_record pool g (Some (fresh bytes))) z ≡ hold z (Some g) + holders_at pool z) (sym is) (omega (arith, here, none, held_here g g refl))
  | inr apart ↦
      let there : holders_at (with_record pool g (Some (fresh bytes))) grip ≡ holders_at pool grip = ap holders_of (record_at-other pool g grip (Some (fresh bytes)) apart) in
      omega (arith, there, held_same grip g apart)
]

-- so no record is without one
pub alive_fresh : (pool : PoolState) (bytes : List ℕ) (g : ℕ) → AreAlive pool → AreAlive (with_record pool g (Some (fresh bytes)))
alive_fresh pool bytes g alive grip held at = elim (equal_or_not grip g) [
  | inl is ↦
      let got : Some (fresh bytes) ≡ Some held = sym (record_at-same pool g (Some (fresh bytes))) ∙ ap (record_at (with_record pool g (Some (fresh bytes)))) (sym is) ∙ at in
      let it : fresh bytes ≡ held = cc in
      subst (λ (z : Held). 0 < z.holders) it (omega arith)
  | inr apart ↦ alive grip held (sym (record_at-other pool g grip (Some (fresh bytes)) apart) ∙ at)
]

-- what was held before a new record came has its bytes
pub bytes_fresh : (pool : PoolState) (bytes : List ℕ) (g grip : ℕ) → record_at pool g ≡ None → IsHeld pool grip → bytes_at (with_record pool g (Some (fresh bytes))) grip ≡ bytes_at pool grip
bytes_fresh pool bytes g grip free held = elim (equal_or_not grip g) [
  | inl is ↦ (let none : IsSome {T = Held} None = subst (λ (z : Option Held). IsSome z) (ap (record_at pool) is ∙ free) held in cc)
  | inr apart ↦ ap bytes_of (record_at-other pool g grip (Some (fresh bytes)) apart)
]
