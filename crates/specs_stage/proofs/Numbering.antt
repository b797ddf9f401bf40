-- The cycle's number stays while its items run.
use Rattle.std.proofs.Common.{◌≡◌, ℕ, List, [], ◌∷◌, refl, subst}
use Rattle.std.specs.Prelude.{fold, option_map, option_and_then}
use Rattle.std.specs.declared.option.Option.{Option}
use Rattle.std.specs.declared.option.Option.TheVariants.{Some, None}
use Rattle.pipe_model.specs.declared.items.Item.{Item}
use Rattle.pipe_model.specs.declared.items.Item.TheVariants.{Field, Read, Write, Pad, Set}
use Rattle.pipe_model.specs.SpecsRows.{Desk, effect, run, origin_of, counter, counter_after, amount_of}
use Rattle.pipe_model.specs.Fields.{converted, field_stripped}
use Rattle.pipe_model.specs.Numbers.{within_i64}

-- a desk with this number, or none
abbrev pub HasNumber : ℕ → Option Desk → Type 0
HasNumber n None = Unit {0}
HasNumber n (Some d) = d.number ≡ n

mapped : {X : Type 0} (f : X → Desk) (n : ℕ) (x : Option X) → ((y : X) → (f y).number ≡ n) → HasNumber n (option_map f x)
mapped f n None same = tt
mapped f n (Some y) same = same y

effect_number : (item : Item) (d : Desk) → HasNumber d.number (effect item d)
effect_number (Field origin strip convert spot align) d = mapped _ d.number (converted convert (field_stripped strip (origin_of origin d))) (λ field. refl)
effect_number Read d = refl
effect_number Write d = refl
effect_number (Pad byte) d = refl
effect_number (Set k op amount) d = mapped _ d.number (option_and_then (λ z. within_i64 (counter_after op (counter k d) z)) (amount_of amount d)) (λ z. refl)

runs_on : (items : List Item) (n : ℕ) (desk : Option Desk) → HasNumber n desk → HasNumber n (fold (λ desk item. option_and_then (effect item) desk) desk items)
runs_on [] n desk has = has
runs_on (item ∷ items) n None has = runs_on items n None tt
runs_on (item ∷ items) n (Some d) has = runs_on items n (effect item d) (subst (λ (m : ℕ). HasNumber m (effect item d)) has (effect_number item d))

pub run_number : (items : List Item) (d e : Desk) → run items d ≡ Some e → e.number ≡ d.number
run_number items d e is = subst (λ (o : Option Desk). HasNumber d.number o) is (runs_on items d.number (Some d) refl)
