-- The items before the READ that finds no record.
use Rattle.std.proofs.Common.{◌≡◌, ◌≤◌, ◌<◌, ◌-◌, ◌∙◌, ℕ, zero, suc, List, [], ◌∷◌, ◌++◌, length, drop, refl, ap, sym, length-append, arith, cond}
use Rattle.std.specs.Prelude.{fold, option_and_then}
use Rattle.std.specs.declared.option.Option.{Option}
use Rattle.std.specs.declared.option.Option.TheVariants.{Some}
use Rattle.std.proofs.lemmas.Bool.{ne_eqb}
use Rattle.pipe_model.specs.declared.items.Item.{Item}
use Rattle.pipe_model.specs.declared.items.Item.TheVariants.{Field, Read, Write, Pad, Set}
use Rattle.pipe_model.specs.SpecsRows.{Desk, effect, run, reads, reached}
use Rattle.specs_stage.specs.Desks.{before_read}

abbrev pub step : Option Desk → Item → Option Desk
step desk item = option_and_then (effect item) desk

fold_append : (desk : Option Desk) (xs ys : List Item) → fold step desk (xs ++ ys) ≡ fold step (fold step desk xs) ys
fold_append desk [] ys = refl
fold_append desk (x ∷ xs) ys = fold_append (step desk x) xs ys

-- one list behind the other
pub run_append : (xs ys : List Item) (d : Desk) → run (xs ++ ys) d ≡ fold step (run xs d) ys
run_append xs ys d = fold_append (Some d) xs ys

pub reached_one : (items : List Item) → reached 1 items ≡ before_read items
reached_one [] = refl
reached_one (Read ∷ items) = refl
reached_one (Field origin strip convert spot align ∷ items) = ap (λ l. Field origin strip convert spot align ∷ l) (reached_one items)
reached_one (Write ∷ items) = ap (λ l. Write ∷ l) (reached_one items)
reached_one (Pad byte ∷ items) = ap (λ l. Pad byte ∷ l) (reached_one items)
reached_one (Set k op amount ∷ items) = ap (λ l. Set k op amount ∷ l) (reached_one items)

-- a READ that isn't the one
past_read : (n : ℕ) (items : List Item) → reached (suc (suc n)) (Read ∷ items) ≡ Read ∷ reached (suc n) items
past_read n items =
    let other = ne_eqb (suc (suc n)) 1 (λ is. omega (arith, is)) in
    let less : suc (suc n) - 1 ≡ suc n = omega arith in
    ap (λ is. cond is [] (Read ∷ reached (suc (suc n) - 1) items)) other ∙ ap (λ m. Read ∷ reached m items) less

-- the n-th READ stands behind them
pub read_behind : (n : ℕ) (items : List Item) → suc n ≤ reads items → items ≡ reached (suc n) items ++ Read ∷ drop (suc (length (reached (suc n) items))) items
read_behind n [] some = absurd (omega (arith, some))
read_behind zero (Read ∷ items) some = refl
read_behind (suc n) (Read ∷ items) some =
    ap (λ l. Read ∷ l) (read_behind n items (omega (arith, some)))
    ∙ ap (λ l. l ++ Read ∷ drop (length l) items) (sym (past_read n items))
read_behind n (Field origin strip convert spot align ∷ items) some = ap (λ l. Field origin strip convert spot align ∷ l) (read_behind n items some)
read_behind n (Write ∷ items) some = ap (λ l. Write ∷ l) (read_behind n items some)
read_behind n (Pad byte ∷ items) some = ap (λ l. Pad byte ∷ l) (read_behind n items some)
read_behind n (Set k op amount ∷ items) some = ap (λ l. Set k op amount ∷ l) (read_behind n items some)

pub none_behind : (items : List Item) → reached (suc (reads items)) items ≡ items
none_behind [] = refl
none_behind (Read ∷ items) = past_read (reads items) items ∙ ap (λ l. Read ∷ l) (none_behind items)
none_behind (Field origin strip convert spot align ∷ items) = ap (λ l. Field origin strip convert spot align ∷ l) (none_behind items)
none_behind (Write ∷ items) = ap (λ l. Write ∷ l) (none_behind items)
none_behind (Pad byte ∷ items) = ap (λ l. Pad byte ∷ l) (none_behind items)
none_behind (Set k op amount ∷ items) = ap (λ l. Set k op amount ∷ l) (none_behind items)

-- with one more record
pub reached_more : (n : ℕ) (items : List Item) → suc n ≤ reads items → reached (suc (suc n)) items ≡ reached (suc n) items ++ Read ∷ before_read (drop (suc (length (reached (suc n) items))) items)
reached_more n [] some = absurd (omega (arith, some))
reached_more zero (Read ∷ items) some = past_read zero items ∙ ap (λ l. Read ∷ l) (reached_one items)
reached_more (suc n) (Read ∷ items) some =
    past_read (suc n) items ∙ ap (λ l. Read ∷ l) (reached_more n items (omega (arith, some)))
    ∙ ap (λ l. l ++ Read ∷ before_read (drop (length l) items)) (sym (past_read n items))
reached_more n (Field origin strip convert spot align ∷ items) some = ap (λ l. Field origin strip convert spot align ∷ l) (reached_more n items some)
reached_more n (Write ∷ items) some = ap (λ l. Write ∷ l) (reached_more n items some)
reached_more n (Pad byte ∷ items) some = ap (λ l. Pad byte ∷ l) (reached_more n items some)
reached_more n (Set k op amount ∷ items) some = ap (λ l. Set k op amount ∷ l) (reached_more n items some)

pub within_items : (n : ℕ) (items : List Item) → suc n ≤ reads items → length (reached (suc n) items) < length items
within_items n items some = omega (arith, ap length (read_behind n items some), length-append (reached (suc n) items) (Read ∷ drop (suc (length (reached (suc n) items))) items))
