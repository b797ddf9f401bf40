-- What a change of one record does to the pool.
use Rattle.std.proofs.Common.{◌≡◌, ◌≢◌, ℕ, zero, suc, List, [], ◌∷◌, get_or, refl, ap, sym, ◌∙◌, subst, arith}
use Rattle.std.proofs.Math.ListN.{set}
use Rattle.std.specs.Prelude.{Option, None, IsSome}
use Rattle.std.proofs.lemmas.List.Sums.{sum_by-cons}
use Rattle.record_pool.specs.PoolState.{Held, PoolState}
use Rattle.record_pool.specs.Places.{place_at, record_at, with_record, IsHeld, OthersStay}
use Rattle.record_pool.specs.Blocks.{blocks_at, blocks_of_all, blocks_in}
use Rattle.record_pool.proofs.Places.{place_at-same, place_at-other, place_at-within, with_place-set, read_held}

-- the pool of these places, with so many nodes
abbrev pub pool_of : List (Option Held) → ℕ → PoolState
pool_of places nodes = record { records = places; nodes = nodes }

-- the record that was changed
pub record_at-same : (pool : PoolState) (p : ℕ) (now : Option Held) → record_at (with_record pool p now) p ≡ now
record_at-same pool p now = place_at-same pool.records p now

-- the others
pub record_at-other : (pool : PoolState) (p q : ℕ) (now : Option Held) → q ≢ p → record_at (with_record pool p now) q ≡ record_at pool q
record_at-other pool p q now apart = place_at-other pool.records p q now apart

-- a held place that was read, changed and written
pub written_held : (f : Option Held → Option Held) (places : List (Option Held)) (nodes : ℕ) (value : PoolState) (p q : ℕ) (was now : Option Held) → pool_of places nodes ≡ value → p ≡ q → IsHeld value q → was ≡ get_or places p was → now ≡ f was
    → pool_of (set places p now) nodes ≡ with_record value q (f (record_at value q))
written_held f places nodes value p q was now same_places same_place held read changed =
    let P : PoolState → ℕ → Type 0 = λ pool k. pool_of (set places p now) nodes ≡ with_record pool k (f (record_at pool k)) in
    let here : IsSome (place_at places p) = subst (λ (pool : PoolState). IsHeld pool p) (sym same_places) (subst (IsHeld value) (sym same_place) held) in
    let e : now ≡ f (place_at places p) = changed ∙ ap f (read_held places p was here read) in
    let first : P (pool_of places nodes) p = ap (λ (xs : List (Option Held)). pool_of xs nodes) (ap (set places p) e ∙ sym (with_place-set places p (f (place_at places p)) (place_at-within places p here))) in
    subst (λ (k : ℕ). P value k) same_place (subst (λ (pool : PoolState). P pool p) same_places first)

-- the same two facts, for a pool that is said to be the changed one
pub changed_here : (before after : PoolState) (p : ℕ) (now : Option Held) → after ≡ with_record before p now → record_at after p ≡ now
changed_here before after p now e = ap (λ (pool : PoolState). record_at pool p) e ∙ record_at-same before p now

pub others_stay : (before after : PoolState) (p : ℕ) (now : Option Held) → after ≡ with_record before p now → OthersStay before after p
others_stay before after p now e q apart = ap (λ (pool : PoolState). record_at pool q) e ∙ record_at-other before p q now apart

-- a pool that holds no record and no node uses no block
pub no_blocks : (pool : PoolState) → ((grip : ℕ) → record_at pool grip ≡ None) → pool.nodes ≡ 0 → blocks_in pool ≡ 0
no_blocks pool none no_node = omega (arith, by_places pool.records none)
  where
    by_places : (places : List (Option Held)) → ((p : ℕ) → place_at places p ≡ None) → blocks_of_all places ≡ 0
    by_places [] none = refl
    by_places (place ∷ rest) none = omega (arith, sum_by-cons blocks_at place rest, by_places rest (λ p. none (suc p)), ap blocks_at (none zero))
