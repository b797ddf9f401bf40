use Rattle.std.proofs.Common.{◌≡◌, ◌≤◌, ◌∙◌, ℕ, List, [], ◌∷◌, ◌++◌, length, get_or, drop, refl, ap, sym, append_assoc, arith}
use Rattle.std.specs.Prelude.{Bool, if◌then◌else◌, option_map}
use Rattle.std.specs.declared.option.Option.{Option}
use Rattle.std.specs.declared.option.Option.TheVariants.{Some, None}
use Rattle.pipe_model.specs.Numbers.{hex_value, onto_bytes, from_hex}

-- the byte of the first two digits is before those of the rest
two_more : (digits : List ℕ) → 2 ≤ length digits → from_hex digits ≡ onto_bytes (hex_value (get_or digits 0 0)) (hex_value (get_or digits 1 0)) (from_hex (drop 2 digits))
two_more [] many = absurd (omega (arith, many))
two_more (high ∷ []) many = absurd (omega (arith, many))
two_more (high ∷ low ∷ rest) many = refl

onto_none : (high low : Option ℕ) → onto_bytes high low None ≡ None
onto_none None low = refl
onto_none (Some high) None = refl
onto_none (Some high) (Some low) = refl

-- where two digits stand for no byte
pub no_byte : (high low : Option ℕ) (bytes : Option (List ℕ)) → ((rest : List ℕ) → onto_bytes high low (Some rest) ≡ None) → onto_bytes high low bytes ≡ None
no_byte high low None none = onto_none high low
no_byte high low (Some rest) none = none rest

pub no_bytes : (front digits : List ℕ) → 2 ≤ length digits → ((rest : List ℕ) → onto_bytes (hex_value (get_or digits 0 0)) (hex_value (get_or digits 1 0)) (Some rest) ≡ None)
    → option_map (λ more. front ++ more) (from_hex digits) ≡ None
no_bytes front digits many none = ap (option_map (λ more. front ++ more)) (two_more digits many ∙ no_byte (hex_value (get_or digits 0 0)) (hex_value (get_or digits 1 0)) (from_hex (drop 2 digits)) none)

-- where they stand for one
one_byte : (high low : Option ℕ) (byte : ℕ) (front : List ℕ) (bytes : Option (List ℕ)) → ((rest : List ℕ) → onto_bytes high low (Some rest) ≡ Some (byte ∷ rest))
    → option_map (λ more. (front ++ byte ∷ []) ++ more) bytes ≡ option_map (λ more. front ++ more) (onto_bytes high low bytes)
one_byte high low byte front None some = ap (option_map (λ more. front ++ more)) (sym (onto_none high low))
one_byte high low byte front (Some rest) some = ap Some (append_assoc front (byte ∷ []) rest) ∙ ap (option_map (λ more. front ++ more)) (sym (some rest))

pub byte_more : (front digits behind new : List ℕ) (byte : ℕ) → 2 ≤ length digits → behind ≡ drop 2 digits → new ≡ front ++ byte ∷ []
    → ((rest : List ℕ) → onto_bytes (hex_value (get_or digits 0 0)) (hex_value (get_or digits 1 0)) (Some rest) ≡ Some (byte ∷ rest))
    → option_map (λ more. new ++ more) (from_hex behind) ≡ option_map (λ more. front ++ more) (from_hex digits)
byte_more front digits behind new byte many behind_is new_is some =
    ap (λ bs. option_map (λ more. bs ++ more) (from_hex behind)) new_is ∙ ap (λ ds. option_map (λ more. (front ++ byte ∷ []) ++ more) (from_hex ds)) behind_is
    ∙ one_byte (hex_value (get_or digits 0 0)) (hex_value (get_or digits 1 0)) byte front (from_hex (drop 2 digits)) some
    ∙ ap (option_map (λ more. front ++ more)) (sym (two_more digits many))

same : (bytes : Option (List ℕ)) → option_map (λ more. [] ++ more) bytes ≡ bytes
same None = refl
same (Some bytes) = refl

-- added to nothing
pub from_clear : (old new digits : List ℕ) (whole : Bool) → old ≡ [] → option_map (λ more. old ++ more) (from_hex digits) ≡ (if whole then Some new else None) → from_hex digits ≡ (if whole then Some new else None)
from_clear old new digits whole clear is = sym (same (from_hex digits)) ∙ ap (λ l. option_map (λ more. l ++ more) (from_hex digits)) (sym clear) ∙ is
