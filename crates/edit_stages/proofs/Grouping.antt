-- How groups of records grow and end.
use Rattle.std.proofs.Common.{◌≡◌, ℕ, suc, ◌+◌, ◌-◌, ◌*◌, ◌/◌, ◌%◌, ◌<◌, ◌≤◌, true, false, cond, List, [], ◌∷◌, ◌++◌, length, drop, refl, sym, ◌∙◌, ap, arith}
use Rattle.std.proofs.Math.Nat.{add-mul, mod-eq_of_lt, mod-le}
use Rattle.std.proofs.lemmas.Nat.{div-add-mod', mod-mul-add}
use Rattle.std.proofs.lemmas.Bool.{ltb-true, ltb-false, eq-eqb, ne_eqb}
use Rattle.std.proofs.lemmas.List.{drop-append-le, length-append, length-drop, drop_all}
use Rattle.pipe_model.specs.declared.kind.Times.{Times}
use Rattle.pipe_model.specs.declared.kind.Times.TheVariants.{Only, All}
use Rattle.pipe_model.specs.Counts.{last_of}
use Rattle.pipe_model.specs.EditingRows.{joined, group_of, finished, join}
use Rattle.pipe_model.specs.Row.Act.{Writes}
use Rattle.pipe_model.specs.Shape.{Records, Stream, acts_of, writes}
use Rattle.edit_stages.specs.Groups.{left_over, is_full, in_one}

-- The next remainder

-- is one more
mod_next : (n m : ℕ) → n % m + 1 < m → (n + 1) % m ≡ n % m + 1
mod_next n m below =
    let same : (n / m) * m + (n % m + 1) ≡ n + 1 = omega (arith, div-add-mod' n m) in
    ap (λ k. k % m) (sym same) ∙ mod-mul-add (n / m) m (n % m + 1) below

-- or none
mod_around : (n m : ℕ) → n % m + 1 ≡ m → (n + 1) % m ≡ 0
mod_around n m whole =
    let one : 1 * m ≡ m = omega arith in
    let same : (n / m + 1) * m + 0 ≡ n + 1 = omega (arith, div-add-mod' n m, add-mul (n / m) 1 m, one) in
    ap (λ k. k % m) (sym same) ∙ mod-mul-add (n / m + 1) m 0 (omega arith)

-- The last records

last_push : (m : ℕ) (recs : Records) (rec : List ℕ) → m ≤ length recs → last_of (m + 1) (recs ++ rec ∷ []) ≡ last_of m recs ++ rec ∷ []
last_push m recs rec within =
    let size : length (recs ++ rec ∷ []) - (m + 1) ≡ length recs - m = omega (arith, length-append recs (rec ∷ [])) in
    ap (λ n. drop n (recs ++ rec ∷ [])) size ∙ drop-append-le (length recs - m) recs (rec ∷ []) (omega arith)

length_last : (m : ℕ) (recs : Records) → m ≤ length recs → length (last_of m recs) ≡ m
length_last m recs within = omega (arith, length-drop (length recs - m) recs)

last_none : (recs : Records) → last_of 0 recs ≡ []
last_none recs = drop_all (length recs - 0) recs (omega arith)

-- The group that hasn't ended

pub length_left : (more : Times) (recs : Records) → length (left_over more recs) ≡ length recs % group_of more (length recs)
length_left more recs = length_last (length recs % group_of more (length recs)) recs (mod-le (length recs) (group_of more (length recs)))

-- has no more records than there are
pub few_left : (more : Times) (recs : Records) → length (left_over more recs) ≤ length recs
few_left more recs = omega (arith, length_left more recs, mod-le (length recs) (group_of more (length recs)))

module _ (recs : Records) (rec : List ℕ) where
  abbrev grown : Records
  grown = recs ++ rec ∷ []

  size_grown : length grown ≡ length recs + 1
  size_grown = length-append recs (rec ∷ [])

  -- with `*` all records are in it
  all_left : (rs : Records) → left_over All rs ≡ rs
  all_left rs =
      let whole : length rs % suc (length rs) ≡ length rs = mod-eq_of_lt (omega arith) in
      let none : length rs - length rs ≡ 0 = omega arith in
      ap (λ m. last_of m rs) whole ∙ ap (λ n. drop n rs) none

  -- the next record ends it
  pub group_ends : (more : Times) → is_full more (length (left_over more recs) + 1) ≡ true → (finished (group_of more (length grown)) grown ≡ left_over more recs ++ rec ∷ []) × (left_over more grown ≡ [])
  group_ends All full = cc
  group_ends (Only n) full =
      let k = length recs % suc n in
      let size = length_left (Only n) recs in
      let above = ltb-true n (length (left_over (Only n) recs) + 1) full in
      let below = mod_below_suc (length recs) n in
      let here : k + 1 ≡ suc n = omega (arith, size, above, below) in
      let around : length grown % suc n ≡ 0 = ap (λ m. m % suc n) size_grown ∙ mod_around (length recs) (suc n) here in
      let test = eq-eqb (length grown % suc n) 0 around in (
        ap (λ b. cond b (last_of (suc n) grown) []) test ∙ (ap (λ m. last_of m grown) (sym here) ∙ last_push k recs rec (mod-le (length recs) (suc n))),
        ap (λ m. last_of m grown) around ∙ last_none grown,
      )
    where
      mod_below_suc : (a n : ℕ) → a % suc n < suc n
      mod_below_suc a n = omega arith

  -- or is in it
  pub group_grows : (more : Times) → is_full more (length (left_over more recs) + 1) ≡ false → (finished (group_of more (length grown)) grown ≡ []) × (left_over more grown ≡ left_over more recs ++ rec ∷ [])
  group_grows All full =
      let whole : length grown % suc (length grown) ≡ length grown = mod-eq_of_lt (omega arith) in
      let test = ne_eqb (length grown % suc (length grown)) 0 (λ none. omega (arith, none, whole, size_grown)) in (
        ap (λ b. cond b (last_of (suc (length grown)) grown) []) test,
        all_left grown ∙ ap (λ rs. rs ++ rec ∷ []) (sym (all_left recs)),
      )
  group_grows (Only n) full =
      let k = length recs % suc n in
      let size = length_left (Only n) recs in
      let below = ltb-false n (length (left_over (Only n) recs) + 1) full in
      let next : length grown % suc n ≡ k + 1 = ap (λ m. m % suc n) size_grown ∙ mod_next (length recs) (suc n) (omega (arith, size, below)) in
      let test = ne_eqb (length grown % suc n) 0 (λ none. omega (arith, none, next)) in (
        ap (λ b. cond b (last_of (suc n) grown) []) test,
        ap (λ m. last_of m grown) next ∙ last_push k recs rec (mod-le (length recs) (suc n)),
      )

-- Groups in one record

-- some records are one pair
joined_some : (string : List ℕ) (recs : Records) (rec : List ℕ) → joined string (recs ++ rec ∷ []) ≡ (0, in_one string (recs ++ rec ∷ [])) ∷ []
joined_some string [] rec = refl
joined_some string (r ∷ recs) rec = refl

module _ (more : Times) (string : List ℕ) (recs : Records) (rec : List ℕ) (t : Stream) (t_is : t ≡ join more string) where
  abbrev all : Records
  all = recs ++ rec ∷ []

  by_finished : acts_of t.outs all ≡ writes (joined string (finished (group_of more (length all)) all))
  by_finished = ap (λ (t : Stream). acts_of t.outs all) t_is

  -- the record with which a group ends causes it
  pub full_acts : is_full more (length (left_over more recs) + 1) ≡ true → (new : List ℕ) → new ≡ in_one string (left_over more recs ++ rec ∷ []) → acts_of t.outs all ≡ Writes 0 new ∷ []
  full_acts full new new_is =
      by_finished ∙ ap (λ rs. writes (joined string rs)) (group_ends recs rec more full).0 ∙ ap writes (joined_some string (left_over more recs) rec) ∙ ap (λ l. Writes 0 l ∷ []) (sym new_is)

  -- another causes nothing
  pub no_acts : is_full more (length (left_over more recs) + 1) ≡ false → acts_of t.outs all ≡ []
  no_acts full = by_finished ∙ ap (λ rs. writes (joined string rs)) (group_grows recs rec more full).0
