use Rattle.std.proofs.Common.{◌≡◌, ◌≢◌, ◌+◌, ◌<◌, ◌∙◌, ℕ, suc, List, [], ◌∷◌, length, get_or, drop, refl, ap, sym}
use Rattle.std.specs.Prelude.{false, fold, option_and_then}
use Rattle.std.specs.declared.option.Option.TheVariants.{Some, None}
use Rattle.std.proofs.lemmas.List.{drop_more}
use Rattle.pipe_model.specs.declared.items.Item.{Item}
use Rattle.pipe_model.specs.declared.items.Item.TheVariants.{Field, Read, Write, Pad, Set}
use Rattle.pipe_model.specs.SpecsRows.{Desk, effect, run}
use Rattle.specs_stage.specs.Desks.{is_read, before_read}

pub not_read : (item : Item) → item ≢ Read → is_read item ≡ false
not_read (Field origin strip convert spot align) other = refl
not_read Read other = absurd (other refl)
not_read Write other = refl
not_read (Pad byte) other = refl
not_read (Set k op amount) other = refl

pub before_more : (item : Item) (items : List Item) → is_read item ≡ false → before_read (item ∷ items) ≡ item ∷ before_read items
before_more (Field origin strip convert spot align) items other = refl
before_more Read items other = absurd (cc)
before_more Write items other = refl
before_more (Pad byte) items other = refl
before_more (Set k op amount) items other = refl

-- after a fault nothing is done
pub stays_none : (items : List Item) → fold (λ desk item. option_and_then (effect item) desk) None items ≡ None
stays_none [] = refl
stays_none (item ∷ items) = stays_none items

-- the items from a place on
from_place : (items : List Item) (at : ℕ) (item : Item) → at < length items → item ≡ get_or items at item → drop at items ≡ item ∷ drop (at + 1) items
from_place items at item low is = drop_more items at item low ∙ ap (λ x. x ∷ drop (at + 1) items) (sym is)

pub item_done : (items : List Item) (at : ℕ) (item : Item) (d e : Desk) → at < length items → item ≡ get_or items at item → is_read item ≡ false → effect item d ≡ Some e
    → run (before_read (drop (at + 1) items)) e ≡ run (before_read (drop at items)) d
item_done items at item d e low is other done = sym (ap (λ xs. run (before_read xs) d) (from_place items at item low is) ∙ ap (λ xs. run xs d) (before_more item (drop (at + 1) items) other)
    ∙ ap (λ x. fold (λ desk item. option_and_then (effect item) desk) x (before_read (drop (at + 1) items))) done)

pub item_fails : (items : List Item) (at : ℕ) (item : Item) (d : Desk) → at < length items → item ≡ get_or items at item → is_read item ≡ false → effect item d ≡ None
    → run (before_read (drop at items)) d ≡ None
item_fails items at item d low is other fails = ap (λ xs. run (before_read xs) d) (from_place items at item low is) ∙ ap (λ xs. run xs d) (before_more item (drop (at + 1) items) other)
    ∙ ap (λ x. fold (λ desk item. option_and_then (effect item) desk) x (before_read (drop (at + 1) items))) fails ∙ stays_none (before_read (drop (at + 1) items))

pub one_less : (items : List Item) (at : ℕ) (item : Item) → at < length items → item ≡ get_or items at item → is_read item ≡ false
    → length (before_read (drop at items)) ≡ suc (length (before_read (drop (at + 1) items)))
one_less items at item low is other = ap (λ xs. length (before_read xs)) (from_place items at item low is) ∙ ap length (before_more item (drop (at + 1) items) other)

pub fails_here : (items : List Item) (at : ℕ) (item : Item) (d : Desk) → at < length items → item ≡ get_or items at item → effect item d ≡ None → run (drop at items) d ≡ None
fails_here items at item d low is fails = ap (λ xs. run xs d) (from_place items at item low is) ∙ ap (λ x. fold (λ desk item. option_and_then (effect item) desk) x (drop (at + 1) items)) fails ∙ stays_none (drop (at + 1) items)
