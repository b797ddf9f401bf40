-- How the list of the empty places follows the places.
use Rattle.std.proofs.Common.{◌≡◌, ◌≢◌, ℕ, ◌+◌, ◌<◌, ◌≤◌, ◌==◌, zero, suc, List, [], ◌∷◌, ◌++◌, length, get_or, refl, ap, sym, ◌∙◌, subst, arith, cond, length-append, ◌⊎◌, inl, inr, ◌-◌}
use Rattle.std.specs.Prelude.{Option, Some, None, is_some, IsSome}
use Rattle.std.specs.List.{sum_by}
use Rattle.std.proofs.Math.ListN.{set, length-set}
use Rattle.std.proofs.lemmas.List.Sums.{sum_by_push}
use Rattle.std.proofs.lemmas.Grind.{common_steps}
use Rattle.record_pool.specs.PoolState.{Held, PoolState}
use Rattle.record_pool.specs.Places.{place_at, record_at, with_place, IsHeld, holders_of, holders_at, given, one_more, one_less, refilled}
use Rattle.record_pool.specs.Blocks.{blocks_of, blocks_at, blocks_of_all}
use Rattle.record_pool.specs.Kept.{IsKept, vacancy, vacancy_at, times}
use Rattle.record_pool.proofs.Places.{place_at-within, place_at-end, read_held, with_place-set, with_place-end, sum_by-with_place}
use Rattle.record_pool.proofs.Records.{pool_of, written_held}

-- 1 for a record
abbrev pub held_one : Option Held → ℕ
held_one place = cond (is_some place) 1 0

-- 1 for the same number
abbrev pub only : ℕ → ℕ → ℕ
only p q = cond (q == p) 1 0

only-same : (p : ℕ) → only p p ≡ 1
only-same p = grind (arith, common_steps)

only-other : (p q : ℕ) → p ≢ q → only p q ≡ 0
only-other p q apart = grind (arith, common_steps)

vacancy_at-same : (places : List (Option Held)) (p : ℕ) (now : Option Held) → vacancy_at (with_place places p now) p ≡ vacancy now
vacancy_at-same [] zero now = refl
vacancy_at-same [] (suc p) now = vacancy_at-same [] p now
vacancy_at-same (place ∷ rest) zero now = refl
vacancy_at-same (place ∷ rest) (suc p) now = vacancy_at-same rest p now

vacancy_at-other : (places : List (Option Held)) (p q : ℕ) (now : Option Held) → p ≤ length places → q ≢ p → vacancy_at (with_place places p now) q ≡ vacancy_at places q
vacancy_at-other [] zero zero now within apart = absurd (apart refl)
vacancy_at-other [] zero (suc q) now within apart = refl
vacancy_at-other [] (suc p) q now within apart = absurd (omega arith)
vacancy_at-other (place ∷ rest) zero zero now within apart = absurd (apart refl)
vacancy_at-other (place ∷ rest) zero (suc q) now within apart = refl
vacancy_at-other (place ∷ rest) (suc p) zero now within apart = refl
vacancy_at-other (place ∷ rest) (suc p) (suc q) now within apart = vacancy_at-other rest p q now (omega arith) (λ e. apart (ap suc e))

-- an empty place is one of the places
pub vacancy_at-within : (places : List (Option Held)) (p : ℕ) → 0 < vacancy_at places p → p < length places
vacancy_at-within [] p empty = absurd (omega arith)
vacancy_at-within (place ∷ rest) zero empty = omega arith
vacancy_at-within (place ∷ rest) (suc p) empty = omega (arith, vacancy_at-within rest p empty)

pub vacancy_at-none : (places : List (Option Held)) (p : ℕ) → 0 < vacancy_at places p → place_at places p ≡ None
vacancy_at-none [] p empty = absurd (omega arith)
vacancy_at-none (None ∷ rest) zero empty = refl
vacancy_at-none (Some held ∷ rest) zero empty = absurd (omega arith)
vacancy_at-none (place ∷ rest) (suc p) empty = vacancy_at-none rest p empty

-- past the last place none is empty
vacancy_at-end : (places : List (Option Held)) → vacancy_at places (length places) ≡ 0
vacancy_at-end [] = refl
vacancy_at-end (place ∷ rest) = vacancy_at-end rest

vacancy_at-le : (places : List (Option Held)) (p : ℕ) → vacancy_at places p ≤ 1
vacancy_at-le [] p = omega arith
vacancy_at-le (None ∷ rest) zero = omega arith
vacancy_at-le (Some held ∷ rest) zero = omega arith
vacancy_at-le (place ∷ rest) (suc p) = vacancy_at-le rest p

vacancy_at-held : (places : List (Option Held)) (p : ℕ) → IsSome (place_at places p) → vacancy_at places p ≡ 0
vacancy_at-held [] p held = refl
vacancy_at-held (None ∷ rest) zero held = cc
vacancy_at-held (Some now ∷ rest) zero held = refl
vacancy_at-held (place ∷ rest) (suc p) held = vacancy_at-held rest p held

same_or_apart : (p q : ℕ) → (q ≡ p) ⊎ (q ≢ p)
same_or_apart zero zero = inl refl
same_or_apart zero (suc q) = inr (λ e. omega arith)
same_or_apart (suc p) zero = inr (λ e. omega arith)
same_or_apart (suc p) (suc q) = elim (same_or_apart p q) [ inl e ↦ inl (ap suc e) | inr apart ↦ inr (λ e. apart (omega arith)) ]

times-push : (p q : ℕ) (list : List ℕ) → times q (list ++ p ∷ []) ≡ times q list + only q p
times-push p q list = sum_by_push (only q) list p

vacancy-held : (place : Option Held) → IsSome place → vacancy place ≡ 0
vacancy-held None held = cc
vacancy-held (Some now) held = refl

held_one-held : (place : Option Held) → IsSome place → held_one place ≡ 1
held_one-held None held = cc
held_one-held (Some now) held = refl

-- one place is changed, and the list of the empty ones with it
kept_changed : (places : List (Option Held)) (free next : List ℕ) (room more p : ℕ) (now : Option Held) → IsKept places free room → p ≤ length places → times p next ≡ vacancy now
    → ((q : ℕ) → q ≢ p → times q next ≡ times q free)
    → length next + held_one now + length places ≡ length free + held_one (place_at places p) + length (with_place places p now)
    → length (with_place places p now) ≤ more → IsKept (with_place places p now) next more
kept_changed places free next room more p now kept within here others counts fits = record {
  vacant = λ q. elim (same_or_apart p q) [
    | inl e ↦ subst (λ (k : ℕ). times k next ≡ vacancy_at (with_place places p now) k) (sym e) (here ∙ sym (vacancy_at-same places p now))
    | inr apart ↦ others q apart ∙ kept.vacant q ∙ sym (vacancy_at-other places p q now within apart)
  ];
  apart = let sums : sum_by held_one (with_place places p now) + held_one (place_at places p) ≡ sum_by held_one places + held_one now = sum_by-with_place held_one refl places p now in
      let was : length free + sum_by held_one places ≡ length places = kept.apart in omega arith;
  room = fits;
}

length-within : (places : List (Option Held)) (p : ℕ) (now : Option Held) → p < length places → length (with_place places p now) ≡ length places
length-within places p now within = ap length (with_place-set places p now within) ∙ length-set places p now

-- the last of the list is an empty place
pub last_is_vacant : (places : List (Option Held)) (free next : List ℕ) (room p : ℕ) → IsKept places free room → free ≡ next ++ p ∷ [] → 0 < vacancy_at places p
last_is_vacant places free next room p kept e = omega (arith, kept.vacant p, ap (times p) e, times-push p p next, only-same p)

-- an empty place of the list is filled
pub kept_filled : (places : List (Option Held)) (free next : List ℕ) (room p : ℕ) (held : Held) → IsKept places free room → free ≡ next ++ p ∷ [] → IsKept (set places p (Some held)) next room
kept_filled places free next room p held kept e =
    let empty : 0 < vacancy_at places p = last_is_vacant places free next room p kept e in
    let within : p < length places = vacancy_at-within places p empty in
    let long : length (with_place places p (Some held)) ≡ length places = length-within places p (Some held) within in
    let none : held_one (place_at places p) ≡ 0 = ap held_one (vacancy_at-none places p empty) in
    let shorter : length free ≡ length next + 1 = ap length e ∙ length-append next (p ∷ []) in
    let listed : times p next ≡ 0 = omega (arith, kept.vacant p, ap (times p) e, times-push p p next, only-same p, vacancy_at-le places p) in
    subst (λ (xs : List (Option Held)). IsKept xs next room) (with_place-set places p (Some held) within)
    (kept_changed places free next room room p (Some held) kept (omega arith) listed
    (λ q apart. omega (arith, ap (times q) e, times-push p q next, only-other q p apart))
    (omega arith) (omega (arith, kept.room)))

-- a place is added
pub kept_added : (places : List (Option Held)) (free next : List ℕ) (room more : ℕ) (held : Held) → IsKept places free room → next ≡ free → length places + 1 ≤ more → IsKept (places ++ Some held ∷ []) next more
kept_added places free next room more held kept same fits =
    let long : length (with_place places (length places) (Some held)) ≡ length places + 1 = ap length (with_place-end places (Some held)) ∙ length-append places (Some held ∷ []) in
    let none : held_one (place_at places (length places)) ≡ 0 = ap held_one (place_at-end places) in
    subst (λ (xs : List ℕ). IsKept (places ++ Some held ∷ []) xs more) (sym same)
    (subst (λ (xs : List (Option Held)). IsKept xs free more) (with_place-end places (Some held))
    (kept_changed places free free room more (length places) (Some held) kept (omega arith) (kept.vacant (length places) ∙ vacancy_at-end places) (λ q apart. refl) (omega arith) (omega arith)))

-- a record is changed, and stays
pub kept_held : (places : List (Option Held)) (free : List ℕ) (room p : ℕ) (now : Option Held) → IsKept places free room → IsSome (place_at places p) → IsSome now → IsKept (set places p now) free room
kept_held places free room p now kept held stays =
    let within : p < length places = place_at-within places p held in
    let long : length (with_place places p now) ≡ length places = length-within places p now within in
    let was : held_one (place_at places p) ≡ 1 = held_one-held (place_at places p) held in
    let is : held_one now ≡ 1 = held_one-held now stays in
    subst (λ (xs : List (Option Held)). IsKept xs free room) (with_place-set places p now within)
    (kept_changed places free free room room p now kept (omega arith) (kept.vacant p ∙ vacancy_at-held places p held ∙ sym (vacancy-held now stays)) (λ q apart. refl) (omega arith) (omega (arith, kept.room)))

-- a record goes, and its place is listed
pub kept_emptied : (places : List (Option Held)) (free : List ℕ) (room p : ℕ) → IsKept places free room → IsSome (place_at places p) → IsKept (set places p None) (free ++ p ∷ []) room
kept_emptied places free room p kept held =
    let within : p < length places = place_at-within places p held in
    let long : length (with_place places p None) ≡ length places = length-within places p None within in
    let was : held_one (place_at places p) ≡ 1 = held_one-held (place_at places p) held in
    let longer : length (free ++ p ∷ []) ≡ length free + 1 = length-append free (p ∷ []) in
    let listed : times p (free ++ p ∷ []) ≡ 1 = omega (arith, times-push p p free, only-same p, kept.vacant p, vacancy_at-held places p held) in
    subst (λ (xs : List (Option Held)). IsKept xs (free ++ p ∷ []) room) (with_place-set places p None within)
    (kept_changed places free (free ++ p ∷ []) room room p None kept (omega arith) listed
    (λ q apart. omega (arith, times-push p q free, only-other q p apart))
    (omega arith) (omega (arith, kept.room)))

-- of more than one holder one less stays
pub one_stays : (held : Held) → 1 < held.holders → one_less (Some held) ≡ Some (record held { holders = held.holders - 1 })
one_stays held more = grind (arith, common_steps, more)

-- one holder less of one at most leaves nothing
pub last_goes : (place : Option Held) → holders_of place < 2 → one_less place ≡ None
last_goes None few = refl
last_goes (Some held) few = grind (arith, common_steps, few)

-- the blocks after a record was changed
pub blocks_changed : (places : List (Option Held)) (p : ℕ) (now : Option Held) → IsSome (place_at places p) → blocks_of_all (set places p now) + blocks_at (place_at places p) ≡ blocks_of_all places + blocks_at now
blocks_changed places p now held =
    let sums : blocks_of_all (with_place places p now) + blocks_at (place_at places p) ≡ blocks_of_all places + blocks_at now = sum_by-with_place blocks_at refl places p now in
    subst (λ (xs : List (Option Held)). blocks_of_all xs + blocks_at (place_at places p) ≡ blocks_of_all places + blocks_at now) (with_place-set places p now (place_at-within places p held)) sums

held_here : (places : List (Option Held)) (nodes : ℕ) (value : PoolState) (p q : ℕ) → pool_of places nodes ≡ value → p ≡ q → IsHeld value q → IsSome (place_at places p)
held_here places nodes value p q same_places same_place held =
    subst (λ (pool : PoolState). IsHeld pool p) (sym same_places) (subst (IsHeld value) (sym same_place) held)

pub one_more-blocks : (place : Option Held) → blocks_at (one_more place) ≡ blocks_at place
one_more-blocks None = refl
one_more-blocks (Some held) = refl

pub one_more-held : (place : Option Held) → IsSome place → IsSome (one_more place)
one_more-held None held = held
one_more-held (Some now) held = refl

-- a held place was read, one holder more counted, and the place written
pub keeps_shared : (places : List (Option Held)) (nodes : ℕ) (value : PoolState) (free : List ℕ) (room blocks p q : ℕ) (was now : Option Held) → IsKept places free room × (blocks ≡ blocks_of_all places + nodes) → pool_of places nodes ≡ value → p ≡ q → IsHeld value q
    → was ≡ get_or places p was → now ≡ one_more was → IsKept (set places p now) free room × (blocks ≡ blocks_of_all (set places p now) + nodes)
keeps_shared places nodes value free room blocks p q was now kept same_places same_place held read more =
    let here : IsSome (place_at places p) = held_here places nodes value p q same_places same_place held in
    let is : was ≡ place_at places p = read_held places p was here read in
    let stays : IsSome now = subst IsSome (sym more) (one_more-held was (subst IsSome (sym is) here)) in
    (kept_held places free room p now kept.0 here stays, omega (arith, kept.1, blocks_changed places p now here, ap blocks_at is, ap blocks_at more, one_more-blocks was))

-- a held place was read, one holder less of more than one counted, and the place written
pub keeps_given : (places : List (Option Held)) (nodes : ℕ) (value : PoolState) (free : List ℕ) (room blocks p q : ℕ) (was now : Option Held) (held : Held) → IsKept places free room × (blocks ≡ blocks_of_all places + nodes) → pool_of places nodes ≡ value → p ≡ q → IsHeld value q
    → was ≡ get_or places p was → was ≡ Some held → now ≡ Some (record held { holders = held.holders - 1 }) → IsKept (set places p now) free room × (blocks ≡ blocks_of_all (set places p now) + nodes)
keeps_given places nodes value free room blocks p q was now held kept same_places same_place there read found less =
    let here : IsSome (place_at places p) = held_here places nodes value p q same_places same_place there in
    let is : was ≡ place_at places p = read_held places p was here read in
    let stays : IsSome now = subst IsSome (sym less) refl in
    (kept_held places free room p now kept.0 here stays, omega (arith, kept.1, blocks_changed places p now here, ap blocks_at is, ap blocks_at found, ap blocks_at less))

-- a held place was read and emptied, its blocks were freed, and the place was listed
pub keeps_emptied : (places : List (Option Held)) (nodes : ℕ) (value : PoolState) (free next : List ℕ) (room more blocks p freed : ℕ) (was now : Option Held) → IsKept places free room × (blocks ≡ blocks_of_all places + nodes) → pool_of places nodes ≡ value → IsHeld value p
    → was ≡ get_or places p was → now ≡ None → freed ≡ blocks_at was → next ≡ free ++ p ∷ [] → more ≡ room
    → IsKept (set places p now) next more × (blocks - freed ≡ blocks_of_all (set places p now) + nodes)
keeps_emptied places nodes value free next room more blocks p freed was now kept same_places held read empty counts listed same_room =
    let here : IsSome (place_at places p) = held_here places nodes value p p same_places refl held in
    let is : was ≡ place_at places p = read_held places p was here read in
    let kept_so : IsKept (set places p now) next room = subst (λ (xs : List ℕ). IsKept (set places p now) xs room) (sym listed)
    (subst (λ (x : Option Held). IsKept (set places p x) (free ++ p ∷ []) room) (sym empty) (kept_emptied places free room p kept.0 here)) in (
      subst (λ (n : ℕ). IsKept (set places p now) next n) (sym same_room) kept_so,
      omega (arith, kept.1, blocks_changed places p now here, ap blocks_at is, ap blocks_at empty),
    )

-- and of a record with one holder at most one holder is less then
pub emptied_held : (places : List (Option Held)) (nodes : ℕ) (value : PoolState) (p : ℕ) (was now : Option Held) → pool_of places nodes ≡ value → IsHeld value p → holders_at value p < 2 → was ≡ get_or places p was → now ≡ None
    → pool_of (set places p now) nodes ≡ given value p
emptied_held places nodes value p was now same_places held few read empty =
    let here : IsSome (place_at places p) = held_here places nodes value p p same_places refl held in
    let is : was ≡ place_at places p = read_held places p was here read in
    let same : place_at places p ≡ record_at value p = ap (λ (pool : PoolState). record_at pool p) same_places in
    let less : now ≡ one_less was = empty ∙ sym (ap one_less (is ∙ same) ∙ last_goes (record_at value p) few) in
    written_held one_less places nodes value p p was now same_places refl held read less

-- the blocks after a record was put at an empty place
pub blocks_put : (places after : List (Option Held)) (p : ℕ) (held : Held) → place_at places p ≡ None → after ≡ with_place places p (Some held) → blocks_of_all after ≡ blocks_of_all places + blocks_at (Some held)
blocks_put places after p held empty e =
    omega (arith, ap blocks_of_all e, ap blocks_at empty, sum_by-with_place blocks_at refl places p (Some held))

-- a record of at most 256 bytes has one block
pub one_block : (n : ℕ) → n ≤ 256 → blocks_of n ≡ 1
one_block n short = grind (arith, common_steps, short)

-- a held place was read, other bytes of one block put in, and the place written
pub keeps_refilled : (places : List (Option Held)) (nodes : ℕ) (value : PoolState) (free : List ℕ) (room blocks p q freed : ℕ) (was now : Option Held) (held : Held) (bytes : List ℕ) → IsKept places free room × (blocks ≡ blocks_of_all places + nodes)
    → pool_of places nodes ≡ value → p ≡ q → IsHeld value q → was ≡ get_or places p was → was ≡ Some held → freed ≡ blocks_of (length held.bytes) → length bytes ≤ 256 → now ≡ Some (refilled bytes held.holders)
    → IsKept (set places p now) free room × (blocks - freed + 1 ≡ blocks_of_all (set places p now) + nodes)
keeps_refilled places nodes value free room blocks p q freed was now held bytes kept same_places same_place there read found counts short filled =
    let here : IsSome (place_at places p) = held_here places nodes value p q same_places same_place there in
    let is : was ≡ place_at places p = read_held places p was here read in
    let stays : IsSome now = subst IsSome (sym filled) refl in (
      kept_held places free room p now kept.0 here stays,
      omega (arith, kept.1, counts, blocks_changed places p now here, blocks_changed places p None here, ap blocks_at is, ap blocks_at found, ap blocks_at filled, one_block (length bytes) short),
    )
