-- The arguments of SORT and COUNT, one after another.
use Rattle.std.proofs.Common.{◌≡◌, ℕ, zero, suc, ◌+◌, ◌-◌, ◌<◌, ◌≤◌, List, [], ◌∷◌, ◌++◌, length, take, drop, get_or, refl, sym, ap, ◌∙◌, arith, option_map, Option, Some, None, add-one, append_assoc}
use Rattle.std.proofs.lemmas.List.{take_rest}
use Rattle.pipe_model.specs.declared.keys.SortKey.{SortKey}
use Rattle.pipe_model.specs.declared.keys.Total.{Total}
use Rattle.stage_syntax.specs.OrderForms.{ends_with_range, is_range_value, onto, total_of, totals_of}
use Rattle.argument_parts.specs.declared.part.Value.{Value}

-- the last argument says whether there is a range at the end
pub last_ends : (values : List Value) (value : Value) → 0 < length values → ((other : Value) → value ≡ get_or values (length values - 1) other) → is_range_value value ≡ ends_with_range values
last_ends [] value some stands = absurd (omega arith)
last_ends (only ∷ []) value some stands = ap is_range_value (stands only)
last_ends (first ∷ (next ∷ values)) value some stands = last_ends (next ∷ values) value (omega arith) (λ other.
    let later : length (first ∷ (next ∷ values)) - 1 ≡ suc (length (next ∷ values) - 1) = omega arith in
    stands other ∙ ap (λ at. get_or (first ∷ (next ∷ values)) at other) later)

nothing_onto : (total : Option Total) (totals : Option (List Total)) → None ≡ totals → None ≡ onto total totals
nothing_onto None totals none = refl
nothing_onto (Some total) None none = refl
nothing_onto (Some total) (Some totals) none = cc

-- an argument that isn't one of COUNT's
pub no_totals : (values : List Value) (i : ℕ) (other : Value) → i < length values → total_of (get_or values i other) ≡ None → None ≡ totals_of values
no_totals [] i other within none = absurd (omega (arith, within))
no_totals (value ∷ values) zero other within none = sym (ap (λ total. onto total (totals_of values)) none)
no_totals (value ∷ values) (suc i) other within none = nothing_onto (total_of value) (totals_of values) (no_totals values i other (omega (arith, within)) none)

-- one argument of COUNT more
totals_after : (values : List Value) (i : ℕ) (other : Value) (totals : List Total) (total : Total) → i < length values → totals_of (take i values) ≡ Some totals → total_of (get_or values i other) ≡ Some total
    → totals_of (take (suc i) values) ≡ Some (totals ++ total ∷ [])
totals_after [] i other totals total within before is = absurd (omega (arith, within))
totals_after (value ∷ values) zero other totals total within before is =
    let none : [] ≡ totals = cc in
    ap (λ t. onto t (Some [])) is ∙ ap (λ before. Some (before ++ total ∷ [])) none
totals_after (value ∷ values) (suc i) other totals total within before is =
    by (total_of value) (totals_of (take i values)) before (λ others before. totals_after values i other others total (omega (arith, within)) before is)
  where
    by : (first : Option Total) (rest : Option (List Total)) → onto first rest ≡ Some totals
        → ((others : List Total) → rest ≡ Some others → totals_of (take (suc i) values) ≡ Some (others ++ total ∷ [])) → onto first (totals_of (take (suc i) values)) ≡ Some (totals ++ total ∷ [])
    by None rest both more = cc
    by (Some first) None both more = cc
    by (Some first) (Some others) both more =
        let whole : first ∷ others ≡ totals = cc in
        ap (onto (Some first)) (more others refl) ∙ ap (λ totals. Some (totals ++ total ∷ [])) whole

pub totals_more : (values : List Value) (i : ℕ) (other : Value) (totals : List Total) (total : Total) → i < length values → totals_of (take i values) ≡ Some totals → total_of (get_or values i other) ≡ Some total
    → totals_of (take (i + 1) values) ≡ Some (totals ++ total ∷ [])
totals_more values i other totals total within before is = rw add-one (totals_after values i other totals total within before is)

-- keys of some arguments before those of the others
pub keys_joined : (keys : List SortKey) (key : SortKey) (more : Option (List SortKey)) → option_map (λ more. keys ++ more) (option_map (λ keys. key ∷ keys) more) ≡ option_map (λ more. (keys ++ key ∷ []) ++ more) more
keys_joined keys key None = refl
keys_joined keys key (Some more) = ap Some (sym (append_assoc keys (key ∷ []) more))

-- what a list begins with, and the rest
pub front_value : (values : List Value) (value other : Value) → 1 ≤ length values → get_or values 0 other ≡ value → values ≡ value ∷ take (length values - 1) (drop 1 values)
front_value [] value other some is = absurd (omega (arith, some))
front_value (first ∷ values) value other some is = ap (λ first. first ∷ values) is ∙ ap (λ rest. value ∷ rest) (sym (take_rest (first ∷ values) 1))
