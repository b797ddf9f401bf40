-- Numbers and hexadecimal digits in records.
use Rattle.std.specs.Prelude.{ℕ, ◌+◌, ◌-◌, ◌*◌, ◌/◌, ◌%◌, ◌^◌, ◌==◌, ◌&&◌, Bool, nat_lt, nat_le, if◌then◌else◌, List, [], ◌∷◌, ◌++◌, length, reverse, replicate, ℤ, pos, negsuc, neg_ℤ, int_le, decimal, flat_map, option_map, option_and_then}
use Rattle.std.specs.declared.option.Option.{Option}
use Rattle.std.specs.declared.option.Option.TheVariants.{Some, None}

-- the decimal number, with blanks before it up to ten places
abbrev pub in_ten_places : ℕ → List ℕ
in_ten_places n = replicate (10 - length (decimal n)) 32 ++ decimal n

-- the number, where it is one of 64 bits with a sign
abbrev pub within_i64 : ℤ → Option ℤ
within_i64 z = if int_le (negsuc (2 ^ 63 - 1)) z && int_le z (pos (2 ^ 63 - 1)) then Some z else None

abbrev pub without_blanks_before : List ℕ → List ℕ
without_blanks_before [] = []
without_blanks_before (b ∷ bytes) = if b == 32 then without_blanks_before bytes else b ∷ bytes

-- without the blanks at both ends
abbrev pub without_blanks : List ℕ → List ℕ
without_blanks bytes = reverse (without_blanks_before (reverse (without_blanks_before bytes)))

abbrev pub is_digit : ℕ → Bool
is_digit b = nat_le 48 b && nat_le b 57

-- the number that digits spell behind those of n
abbrev pub spelled_behind : ℕ → List ℕ → Option ℕ
spelled_behind n [] = Some n
spelled_behind n (b ∷ bytes) = if is_digit b then spelled_behind (10 * n + (b - 48)) bytes else None

-- the number that 1 to 19 digits spell
abbrev pub spelled : List ℕ → Option ℕ
spelled bytes = if nat_le 1 (length bytes) && nat_le (length bytes) 19 then spelled_behind 0 bytes else None

-- the same, with a minus sign or without one
abbrev pub spelled_signed : List ℕ → Option ℤ
spelled_signed [] = None
spelled_signed (b ∷ bytes) = if b == 45 then option_map (λ n. neg_ℤ (pos n)) (spelled bytes) else option_map pos (spelled (b ∷ bytes))

-- the number that a text spells, blanks at its ends left out
abbrev pub number_in : List ℕ → Option ℤ
number_in text = option_and_then within_i64 (spelled_signed (without_blanks text))

-- the upper-case hexadecimal digit
abbrev pub hex_digit : ℕ → ℕ
hex_digit n = if nat_lt n 10 then 48 + n else 55 + n

-- two digits for each byte
abbrev pub to_hex : List ℕ → List ℕ
to_hex bytes = flat_map (λ b. hex_digit (b / 16) ∷ hex_digit (b % 16) ∷ []) bytes

-- what a hexadecimal digit of either case stands for
abbrev pub hex_value : ℕ → Option ℕ
hex_value b =
    if is_digit b then Some (b - 48)
    else if nat_le 65 b && nat_le b 70 then Some (b - 55)
    else if nat_le 97 b && nat_le b 102 then Some (b - 87)
    else None

abbrev pub onto_bytes : Option ℕ → Option ℕ → Option (List ℕ) → Option (List ℕ)
onto_bytes (Some high) (Some low) (Some bytes) = Some ((16 * high + low) ∷ bytes)
onto_bytes _ _ _ = None

-- a byte for each two digits, where the bytes are an even number of digits
abbrev pub from_hex : List ℕ → Option (List ℕ)
from_hex [] = Some []
from_hex (high ∷ []) = None
from_hex (high ∷ low ∷ rest) = onto_bytes (hex_value high) (hex_value low) (from_hex rest)
