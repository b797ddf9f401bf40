-- As many words begin in a record as it has.
use Rattle.std.proofs.Common.{◌≡◌, ℕ, suc, ◌+◌, ◌≤◌, Bool, true, false, List, [], ◌∷◌, length, refl, ◌∙◌, ap, arith}
use Rattle.std.specs.Prelude.{◌==◌, if◌then◌else◌, not, ◌&&◌}
use Rattle.std.proofs.lemmas.Bool.{ne_eqb, eq-eqb}
use Rattle.pipe_model.specs.Ranges.{Place, onto_word, words_from}
use Rattle.unique_sort.specs.Words.{words_begun}

-- the first place, if there is one, isn't before this
abbrev HeadFrom : ℕ → List Place → Type 0
HeadFrom from [] = Unit {0}
HeadFrom from (w ∷ ws) = from ≤ w.0

-- a word stands at this place
abbrev heads : ℕ → List Place → Bool
heads at [] = false
heads at (w ∷ ws) = w.0 == at

abbrev starts : List ℕ → Bool
starts [] = false
starts (b ∷ text) = not (b == 32)

head_onto : (at : ℕ) (ws : List Place) → HeadFrom at (onto_word at ws)
head_onto at [] = omega arith
head_onto at (w ∷ ws) = (elim (w.0 == suc at) as (λ c. HeadFrom at (if c then (at, w.1) ∷ ws else (at, suc at) ∷ w ∷ ws)) [ true ↦ omega arith | false ↦ omega arith ])

later : (at : ℕ) (ws : List Place) → HeadFrom (suc at) ws → HeadFrom at ws
later at [] from = tt
later at (w ∷ ws) from = omega arith

from_front : (at : ℕ) (text : List ℕ) → HeadFrom at (words_from at text)
from_front at [] = tt
from_front at (b ∷ text) =
    (elim (b == 32) as (λ c. HeadFrom at (if c then words_from (suc at) text else onto_word at (words_from (suc at) text))) [
      | true ↦ later at (words_from (suc at) text) (from_front (suc at) text)
      | false ↦ head_onto at (words_from (suc at) text)
    ])

heads_none : (at : ℕ) (ws : List Place) → HeadFrom (suc at) ws → heads at ws ≡ false
heads_none at [] from = refl
heads_none at (w ∷ ws) from = ne_eqb w.0 at (λ same. omega (arith, same, from))

heads_onto : (at : ℕ) (ws : List Place) → heads at (onto_word at ws) ≡ true
heads_onto at [] = eq-eqb at at refl
heads_onto at (w ∷ ws) = (elim (w.0 == suc at) as (λ c. heads at (if c then (at, w.1) ∷ ws else (at, suc at) ∷ w ∷ ws) ≡ true) [ true ↦ eq-eqb at at refl | false ↦ eq-eqb at at refl ])

-- a word stands at the front where a text starts with one
heads_start : (at : ℕ) (text : List ℕ) → heads at (words_from at text) ≡ starts text
heads_start at [] = refl
heads_start at (b ∷ text) =
    (elim (b == 32) as (λ c. heads at (if c then words_from (suc at) text else onto_word at (words_from (suc at) text)) ≡ not c) [
      | true ↦ heads_none at (words_from (suc at) text) (from_front (suc at) text)
      | false ↦ heads_onto at (words_from (suc at) text)
    ])

-- a byte before some words makes one more, unless it touches the first of them
length_onto : (at : ℕ) (ws : List Place) → length (onto_word at ws) ≡ (if heads (suc at) ws then length ws else suc (length ws))
length_onto at [] = refl
length_onto at (w ∷ ws) = (elim (w.0 == suc at) as (λ c. length (if c then (at, w.1) ∷ ws else (at, suc at) ∷ w ∷ ws) ≡ (if c then suc (length ws) else suc (suc (length ws)))) [ true ↦ refl | false ↦ refl ])

-- where a word may begin, one more does if the text starts with one
begun_between : (text : List ℕ) → words_begun true text ≡ (if starts text then 1 else 0) + words_begun false text
begun_between [] = omega arith
begun_between (b ∷ text) = (elim (b == 32) as (λ c. (if not c then 1 else 0) + words_begun c text ≡ (if not c then 1 else 0) + (0 + words_begun c text)) [ true ↦ omega arith | false ↦ omega arith ])

pub words_are_begun : (at : ℕ) (text : List ℕ) → length (words_from at text) ≡ words_begun true text
words_are_begun at [] = refl
words_are_begun at (b ∷ text) =
    let rest = words_from (suc at) text in
    let ih = words_are_begun (suc at) text in
    (elim (b == 32) as (λ c. length (if c then rest else onto_word at rest) ≡ (if not c then 1 else 0) + words_begun c text) [
      | true ↦ omega (arith, ih)
      | false ↦ length_onto at rest ∙ ap (λ s. if s then length rest else suc (length rest)) (heads_start (suc at) text)
          ∙ by (starts text) (words_begun false text) (length rest) (ih ∙ begun_between text)
    ])
  where
    by : (s : Bool) (n size : ℕ) → size ≡ (if s then 1 else 0) + n → (if s then size else suc size) ≡ 1 + n
    by true n size is = omega (arith, is)
    by false n size is = omega (arith, is)

-- no more words begin than there are bytes
pub few_begun : (is_between : Bool) (text : List ℕ) → words_begun is_between text ≤ length text
few_begun is_between [] = omega arith
few_begun is_between (b ∷ text) = by (is_between && not (b == 32)) (few_begun (b == 32) text)
  where
    by : (one : Bool) → words_begun (b == 32) text ≤ length text → (if one then 1 else 0) + words_begun (b == 32) text ≤ length (b ∷ text)
    by true few = omega (arith, few)
    by false few = omega (arith, few)
