-- The items of a body stand side by side.
use Rattle.std.proofs.Common.{◌≡◌, ℕ, zero, suc, ◌+◌, ◌<◌, ◌≤◌, List, [], ◌∷◌, get_or, length, arith, subst}
use Rattle.std.specs.List.{All}
use Rattle.spec_scanner.specs.declared.item.Item.{Item}
use Rattle.spec_scanner.specs.declared.signs.Signs.{Signs}
use Rattle.spec_scanner.specs.Body.{IsBody}
use Rattle.spec_scanner.proofs.Bodies.{after_more, after_within}

-- the items stand side by side from a place on, each before the next, and none ends after the end
abbrev pub Follow : ℕ → List Item → ℕ → Type 0
Follow at [] end = at ≤ end
Follow at (item ∷ items) end = (item.place ≡ at) × (at < item.after) × Follow item.after items end

pub follow : (signs : Signs) (at : ℕ) (text : List ℕ) (items : List Item) (tail : List ℕ) → IsBody signs at text items tail → Follow at items (at + length text)
follow signs at text [] tail body = omega arith
follow signs at text (item ∷ items) tail body =
    let rest = body.0 in
    let is = body.1 in
    let ends : item.after + length rest ≡ at + length text = after_within signs at text rest item is in
    (is.place_is, after_more signs at text rest item is, subst (Follow item.after items) ends (follow signs item.after rest items tail body.2))

-- the items end after the place where they begin
pub follow_within : (at : ℕ) (items : List Item) (end : ℕ) → Follow at items end → at ≤ end
follow_within at [] end is = is
follow_within at (item ∷ items) end is = let later = follow_within item.after items end is.2 in omega (arith, is.1, later)

-- each ends within the text
pub ends_follow : (at : ℕ) (items : List Item) (end : ℕ) → Follow at items end → All (λ (item : Item). item.after ≤ end) items
ends_follow at [] end is = λ k d below. absurd (omega arith)
ends_follow at (item ∷ items) end is = λ k d below. by k d below (follow_within item.after items end is.2) (ends_follow item.after items end is.2) where
  by : (k : ℕ) (d : Item) → k < length (item ∷ items) → item.after ≤ end → All (λ (item : Item). item.after ≤ end) items → (get_or (item ∷ items) k d).after ≤ end
  by zero d below here later = here
  by (suc k) d below here later = later k d (omega arith)

pub ends_within : (signs : Signs) (at : ℕ) (text : List ℕ) (items : List Item) (tail : List ℕ) → IsBody signs at text items tail → All (λ (item : Item). item.after ≤ at + length text) items
ends_within signs at text items tail body = ends_follow at items (at + length text) (follow signs at text items tail body)
