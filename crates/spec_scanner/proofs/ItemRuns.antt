-- The items of a body run to the right, and so do the stretches that they are cut into.
use Rattle.std.proofs.Common.{ℕ, zero, suc, ◌<◌, ◌≤◌, Bool, true, false, if◌then◌else◌, List, [], ◌∷◌, take, drop, arith}
use Rattle.spec_scanner.specs.declared.item.Item.{Item}
use Rattle.spec_scanner.specs.Stretches.{Stretch, cut, put_first, trimmed, without_front}
use Rattle.spec_scanner.proofs.Rising.{Follow}

-- the items of a body, under a name that other crates may cite
abbrev pub BodyItem : Type 0
BodyItem = Item

-- the items stand one after another between two places
abbrev pub Run : ℕ → List Item → ℕ → Type 0
Run at [] end = at ≤ end
Run at (item ∷ items) end = (at ≤ item.place) × (item.place < item.after) × Run item.after items end

pub run_within : (at : ℕ) (items : List Item) (end : ℕ) → Run at items end → at ≤ end
run_within at [] end run = run
run_within at (item ∷ items) end run = let later = run_within item.after items end run.2 in omega (arith, run.0, run.1, later)

pub run_follow : (at : ℕ) (items : List Item) (end : ℕ) → Follow at items end → Run at items end
run_follow at [] end follow = follow
run_follow at (item ∷ items) end follow = (omega (arith, follow.0), omega (arith, follow.0, follow.1), run_follow item.after items end follow.2)

-- the stretches run between two places, each closed before the next begins
abbrev pub Parted : ℕ → List Stretch → ℕ → Type 0
Parted at [] end = at ≤ end
Parted at (stretch ∷ stretches) end = (closed : ℕ) × Run at stretch.inside closed × Parted (suc closed) stretches end

-- an item before the first stretch
put_parted : (at : ℕ) (item : Item) (stretches : List Stretch) (end : ℕ) → at ≤ item.place → item.place < item.after → Parted item.after stretches end → Parted at (put_first item stretches) end
put_parted at item [] end from before parted = omega (arith, parted)
put_parted at item (stretch ∷ stretches) end from before parted = (parted.0, (from, before, parted.1), parted.2)

-- a stretch of no items from a place to that of the item that parts
closed_parted : (at : ℕ) (item : Item) (stretches : List Stretch) (end : ℕ) → at ≤ item.place → Parted (suc item.place) stretches end
    → Parted at (record { inside = []; closed = item.place } ∷ stretches) end
closed_parted at item stretches end from parted = (item.place, from, parted)

-- stretches run from any earlier place too
run_lower : (lower at : ℕ) (items : List Item) (end : ℕ) → lower ≤ at → Run at items end → Run lower items end
run_lower lower at [] end below run = omega (arith, run)
run_lower lower at (item ∷ items) end below run = (omega (arith, run.0), run.1, run.2)

parted_lower : (lower at : ℕ) (stretches : List Stretch) (end : ℕ) → lower ≤ at → Parted at stretches end → Parted lower stretches end
parted_lower lower at [] end below parted = omega (arith, parted)
parted_lower lower at (stretch ∷ stretches) end below parted = (parted.0, run_lower lower at stretch.inside parted.0 below parted.1, parted.2)

module _ (parts : Item → Bool) where
  -- what runs is cut into stretches that run
  pub cut_parted : (at : ℕ) (items : List Item) (end closed : ℕ) → Run at items end → Parted at (cut parts items closed) (suc end)
  cut_parted at [] end closed run = (end, run, omega arith)
  cut_parted at (item ∷ items) end closed run = by (parts item) (cut_parted item.after items end closed run.2) where
    by : (here : Bool) → Parted item.after (cut parts items closed) (suc end)
        → Parted at (if here then record { inside = []; closed = item.place } ∷ cut parts items closed else put_first item (cut parts items closed)) (suc end)
    by true later = closed_parted at item (cut parts items closed) (suc end) run.0 (parted_lower (suc item.place) item.after (cut parts items closed) (suc end) (omega (arith, run.1)) later)
    by false later = put_parted at item (cut parts items closed) (suc end) run.0 run.1 later

-- each of the items stands between two places
abbrev pub AreIn : ℕ → ℕ → List Item → Type 0
AreIn low high [] = Unit {0}
AreIn low high (item ∷ items) = (low ≤ item.place) × (item.place < item.after) × (item.after ≤ high) × AreIn low high items

pub run_in : (low at : ℕ) (items : List Item) (end : ℕ) → low ≤ at → Run at items end → AreIn low end items
run_in low at [] end below run = tt
run_in low at (item ∷ items) end below run =
    let later = run_within item.after items end run.2 in
    (omega (arith, run.0), run.1, later, run_in low item.after items end (omega (arith, run.0, run.1)) run.2)

module _ (low high : ℕ) where
  pub in_drop : (count : ℕ) (items : List Item) → AreIn low high items → AreIn low high (drop count items)
  in_drop zero items are = are
  in_drop (suc count) [] are = tt
  in_drop (suc count) (item ∷ items) are = in_drop count items are.3

  pub in_take : (count : ℕ) (items : List Item) → AreIn low high items → AreIn low high (take count items)
  in_take zero items are = tt
  in_take (suc count) [] are = tt
  in_take (suc count) (item ∷ items) are = (are.0, are.1, are.2, in_take count items are.3)

  pub in_trimmed : (items : List Item) → AreIn low high items → AreIn low high (trimmed items)
  in_trimmed items are = in_take _ (without_front items) (in_drop _ items are)
