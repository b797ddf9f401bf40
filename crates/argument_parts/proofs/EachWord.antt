-- Each text has blanks at its front, a first word and a first delimiter, or none; each word is a number or none.
use Rattle.std.proofs.Common.{◌≡◌, ℕ, zero, suc, ◌<◌, ◌≤◌, ◌⊎◌, ◌∙◌, true, false, List, [], ◌∷◌, ◌++◌, length, get_or, refl, ap, arith, inl, inr}
use Rattle.std.specs.Char.{is_ascii_digit}
use Rattle.std.specs.List.{Contains}
use Rattle.std.specs.Str.{all_ascii_digits}
use Rattle.std.proofs.lemmas.Bool.{cases_Bool, cases_eq, cases_lt}
use Rattle.std.proofs.lemmas.List.Elements.{All-cons, All-nil}
use Rattle.pipe_model.specs.Words.{IsFirstWord, IsUnblanked}
use Rattle.argument_parts.specs.Numbers.{AreFirstDigits, AreFirstOthers, IsNumber, decimal}

-- two texts are one or not
pub same_or_other : (a b : List ℕ) → (a ≡ b) ⊎ (a ≡ b → ⊥)
same_or_other [] [] = inl refl
same_or_other [] (y ∷ b) = inr (λ same. cc)
same_or_other (x ∷ a) [] = inr (λ same. cc)
same_or_other (x ∷ a) (y ∷ b) = by (cases_eq x y) (same_or_other a b)
  where
    by : (x ≡ y) ⊎ (x ≡ y → ⊥) → (a ≡ b) ⊎ (a ≡ b → ⊥) → ((x ∷ a) ≡ (y ∷ b)) ⊎ ((x ∷ a) ≡ (y ∷ b) → ⊥)
    by (inl first) (inl rest) = inl cc
    by (inl first) (inr other) = inr (λ same. let tails : a ≡ b = cc in other tails)
    by (inr other) rest = inr (λ same. let heads : x ≡ y = cc in other heads)

-- a byte that isn't the first and isn't among the others isn't among them all
pub not_among : (first : ℕ) (rest : List ℕ) (byte : ℕ) → ¬ (first ≡ byte) → ¬ Contains rest byte → ¬ Contains (first ∷ rest) byte
not_among first rest byte other none (zero, below, is) = other is
not_among first rest byte other none (suc i, below, is) = none (i, omega (arith, below), is)

none_among : (byte : ℕ) → ¬ Contains [] byte
none_among byte found = omega (arith, found.1)

-- the byte stands in the text, or it doesn't
pub each_until : (byte : ℕ) (text : List ℕ) → ((front : List ℕ) × (rest : List ℕ) × (¬ Contains front byte) × (text ≡ front ++ (byte ∷ rest))) ⊎ (¬ Contains text byte)
each_until byte [] = inr (none_among byte)
each_until byte (first ∷ text) = by (cases_eq first byte) (each_until byte text)
  where
    by : (first ≡ byte) ⊎ (first ≡ byte → ⊥) → ((front : List ℕ) × (rest : List ℕ) × (¬ Contains front byte) × (text ≡ front ++ (byte ∷ rest))) ⊎ (¬ Contains text byte)
        → ((front : List ℕ) × (rest : List ℕ) × (¬ Contains front byte) × ((first ∷ text) ≡ front ++ (byte ∷ rest))) ⊎ (¬ Contains (first ∷ text) byte)
    by (inl is) later = inl ([], text, none_among byte, ap (λ (b : ℕ). b ∷ text) is)
    by (inr other) (inl (front, rest, none, spells)) = inl (first ∷ front, rest, not_among first front byte other none, ap (λ (bytes : List ℕ). first ∷ bytes) spells)
    by (inr other) (inr none) = inr (not_among first text byte other none)

-- blanks
pub each_front : (text : List ℕ) → (front : List ℕ) × IsUnblanked text front
each_front [] = ([], record { blanks = 0; spells = refl; other = λ same. cc })
each_front (byte ∷ text) = by (cases_eq byte 32) (each_front text)
  where
    by : (byte ≡ 32) ⊎ (byte ≡ 32 → ⊥) → (front : List ℕ) × IsUnblanked text front → (front : List ℕ) × IsUnblanked (byte ∷ text) front
    by (inl is) (front, later) = (front, record { blanks = suc later.blanks; spells = ap (λ (b : ℕ). b ∷ text) is ∙ ap (λ (bytes : List ℕ). 32 ∷ bytes) later.spells; other = later.other })
    by (inr other) later = (byte ∷ text, record { blanks = 0; spells = refl; other = other })

-- a first word
pub each_word : (text : List ℕ) → (word : List ℕ) × (rest : List ℕ) × IsFirstWord text word rest
each_word [] = ([], [], record { spells = refl; whole = none_among 32; stops = refl })
each_word (byte ∷ text) = by (cases_eq byte 32) (each_word text)
  where
    by : (byte ≡ 32) ⊎ (byte ≡ 32 → ⊥) → (word : List ℕ) × (rest : List ℕ) × IsFirstWord text word rest → (word : List ℕ) × (rest : List ℕ) × IsFirstWord (byte ∷ text) word rest
    by (inl is) later = ([], byte ∷ text, record { spells = refl; whole = none_among 32; stops = is })
    by (inr other) (word, rest, later) = (byte ∷ word, rest, record { spells = ap (λ (bytes : List ℕ). byte ∷ bytes) later.spells; whole = not_among byte word 32 other later.whole; stops = later.stops })

-- digits at the front of a word
pub each_first_digits : (word : List ℕ) → (digits : List ℕ) × (rest : List ℕ) × AreFirstDigits word digits rest
each_first_digits [] = ([], [], record { spells = refl; digits_all = refl; stops = refl })
each_first_digits (byte ∷ word) = by (cases_Bool (is_ascii_digit byte)) (each_first_digits word)
  where
    by : (is_ascii_digit byte ≡ true) ⊎ (is_ascii_digit byte ≡ false) → (digits : List ℕ) × (rest : List ℕ) × AreFirstDigits word digits rest → (digits : List ℕ) × (rest : List ℕ) × AreFirstDigits (byte ∷ word) digits rest
    by (inl is) (digits, rest, later) = (byte ∷ digits, rest, record { spells = ap (λ (bytes : List ℕ). byte ∷ bytes) later.spells; digits_all = rw is later.digits_all; stops = later.stops })
    by (inr is) later = ([], byte ∷ word, record { spells = refl; digits_all = refl; stops = is })

-- and what stands before the first of them
pub each_first_others : (word : List ℕ) → (others : List ℕ) × (rest : List ℕ) × AreFirstOthers word others rest
each_first_others [] = ([], [], record { spells = refl; no_digit = All-nil (λ byte. is_ascii_digit byte ≡ false); stops = refl })
each_first_others (byte ∷ word) = by (cases_Bool (is_ascii_digit byte)) (each_first_others word)
  where
    by : (is_ascii_digit byte ≡ true) ⊎ (is_ascii_digit byte ≡ false) → (others : List ℕ) × (rest : List ℕ) × AreFirstOthers word others rest → (others : List ℕ) × (rest : List ℕ) × AreFirstOthers (byte ∷ word) others rest
    by (inl is) later = ([], byte ∷ word, record { spells = refl; no_digit = All-nil (λ byte. is_ascii_digit byte ≡ false); stops = is })
    by (inr is) (others, rest, later) =
        (byte ∷ others, rest, record { spells = ap (λ (bytes : List ℕ). byte ∷ bytes) later.spells; no_digit = All-cons (λ byte. is_ascii_digit byte ≡ false) byte others is later.no_digit; stops = later.stops })

-- a number, or none
pub each_number : (word : List ℕ) → ((value : ℕ) × IsNumber word value) ⊎ ((value : ℕ) → ¬ IsNumber word value)
each_number word = by (cases_lt 0 (length word)) (cases_lt 10 (length word)) (cases_Bool (all_ascii_digits word))
  where
    by : (0 < length word) ⊎ (length word ≤ 0) → (10 < length word) ⊎ (length word ≤ 10) → (all_ascii_digits word ≡ true) ⊎ (all_ascii_digits word ≡ false) → ((value : ℕ) × IsNumber word value) ⊎ ((value : ℕ) → ¬ IsNumber word value)
    by (inl some) (inr few) (inl digits) = inl (decimal word, record { some = some; few = few; digits = digits; worth = refl })
    by (inl some) (inr few) (inr other) = inr (λ value is. let digits = is.digits in cc)
    by (inl some) (inl many) digits = inr (λ value is. omega (arith, is.few, many))
    by (inr none) few digits = inr (λ value is. omega (arith, is.some, none))

-- nothing is left, or something
pub each_length : (bytes : List ℕ) → (length bytes ≡ 0) ⊎ (0 < length bytes)
each_length [] = inl refl
each_length (byte ∷ bytes) = inr (omega arith)

-- what isn't empty and doesn't begin with a blank
pub filled_begins : (front : List ℕ) → 0 < length front → ¬ (get_or front 0 0 ≡ 32) → ¬ (get_or front 0 32 ≡ 32)
filled_begins [] some other = absurd (omega (arith, some))
filled_begins (byte ∷ front) some other = other
