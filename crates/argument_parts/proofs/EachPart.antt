-- Each text is a part and a rest, has a fault of the part, or begins otherwise; what comes next among arguments is one, a fault, or nothing.
use Rattle.std.proofs.Common.{◌≡◌, ℕ, ℤ, ◌+◌, ◌-◌, ◌<◌, ◌≤◌, ◌⊎◌, ◌∙◌, Bool, true, false, List, [], ◌∷◌, ◌++◌, length, get_or, Option, Some, None, refl, ap, arith, subst, inl, inr}
use Rattle.std.specs.Str.{str_to_ascii_lowercase}
use Rattle.std.proofs.lemmas.Bool.{cases_eq, cases_lt}
use Rattle.pipe_model.specs.declared.kind.Times.{Times}
use Rattle.pipe_model.specs.declared.kind.Times.TheVariants.{Only, All}
use Rattle.pipe_model.specs.declared.range.Span.TheVariants.{Columns}
use Rattle.pipe_model.specs.Numbers.{within_i64}
use Rattle.pipe_model.specs.Words.{IsFirstWord, IsUnblanked}
use Rattle.pipe_model.proofs.FirstWords.{same_word}
use Rattle.argument_parts.proofs.ByteParts.{no_byte_misfit_of_word}
use Rattle.argument_parts.proofs.EachRange.{each_plain_range, each_range}
use Rattle.argument_parts.proofs.EachSpot.{each_spot}
use Rattle.argument_parts.proofs.EachString.{SomeAnyString, SomeString, SomeStrings, each_any_string, each_begins, each_string, each_strings, no_misfits_of_word, no_strings_of_word}
use Rattle.argument_parts.proofs.EachWord.{each_first_digits, each_front, each_length, each_number, each_word, filled_begins, same_or_other}
use Rattle.argument_parts.proofs.KeywordParts.{other_word}
use Rattle.argument_parts.proofs.OneParts.{misfit_is_not}
use Rattle.argument_parts.proofs.RangeFronts.{emptied}
use Rattle.argument_parts.proofs.StringParts.{no_any_misfit_of_word, no_any_string_of_word, no_misfit_of_word, no_string_of_word}
use Rattle.argument_parts.proofs.TakenParts.{no_columns_part, no_counter_part, no_range_part, no_spot_part, no_whole_part, no_word_part}
use Rattle.argument_parts.proofs.WholeParts.{no_digits, other_digits, whole_in, whole_read}
use Rattle.argument_parts.specs.Keywords.{spelling_of}
use Rattle.argument_parts.specs.NumberWords.{IsNoNumber, IsNumberMisfit}
use Rattle.argument_parts.specs.Numbers.{AreFirstDigits, IsNumber, decimal}
use Rattle.argument_parts.specs.Parts.{AreTimes, BeginsNone, IsAtEnd, IsFirstMisfit, IsFirstPart, IsNext, IsNoNext, IsNone, IsNoPart, IsPart, IsPartMisfit, fault_of_last, most_times}
use Rattle.argument_parts.specs.RangeWords.{fault_in}
use Rattle.argument_parts.specs.Ranges.{IsSpelling}
use Rattle.argument_parts.specs.WholeNumbers.{sign_of, signed}
use Rattle.argument_parts.specs.declared.fault.FaultKind.TheVariants.{OutOfRange}
use Rattle.argument_parts.specs.declared.part.Part.{Part}
use Rattle.argument_parts.specs.declared.part.Part.TheVariants as Asked
use Rattle.argument_parts.specs.declared.part.TextFault.{TextFault}
use Rattle.argument_parts.specs.declared.part.Value.{Value}
use Rattle.argument_parts.specs.declared.part.Value.TheVariants as Read
use Rattle.argument_parts.specs.declared.part.Word.{Word}

-- a text is the part, has a fault of it, or begins otherwise
abbrev pub SomePart : Part → List ℕ → Type 0
SomePart part text = ((value : Value) × (rest : List ℕ) × IsPart part text value rest) ⊎ (((fault : TextFault) × IsPartMisfit part text fault) ⊎ IsNoPart part text)

module _ (text : List ℕ) where
  range_part : SomePart Asked.Range text
  range_part = elim (each_range text) [
    | inl is ↦ inl (Read.Range is.0, is.1, (is.0, refl, is.2))
    | inr (inl misfit) ↦ inr (inl misfit)
    | inr (inr none) ↦ inr (inr (no_range_part text none))
  ]

  string_part : SomeString text → SomePart Asked.String text
  string_part (inl (string, rest, is)) = inl (Read.String string, rest, (string, refl, is))
  string_part (inr (inl (kind, of_strings, misfit))) = inr (inl (record { left = length text; kind = kind }, (refl, of_strings, misfit)))
  string_part (inr (inr other)) = inr (inr (λ value rest is. no_string_of_word text other is.0 rest is.2, no_misfit_of_word text other))

  any_string_part : SomeAnyString text → SomePart Asked.AnyString text
  any_string_part (inl (string, rest, is)) = inl (Read.String string, rest, (string, refl, is))
  any_string_part (inr (inl misfit)) = inr (inl misfit)
  any_string_part (inr (inr other)) = inr (inr (λ value rest is. no_any_string_of_word text other is.0 rest is.2, no_any_misfit_of_word text other))

  strings_part : SomeStrings text → SomePart Asked.Strings text
  strings_part (inl (first, second, rest, are)) = inl (Read.Strings first second, rest, (first, second, refl, are))
  strings_part (inr (inl misfit)) = inr (inl misfit)
  strings_part (inr (inr other)) = inr (inr (λ value rest is. no_strings_of_word text other is.0 is.1 rest is.3, no_misfits_of_word text other))

  byte_part : SomeString text → SomePart Asked.Byte text
  byte_part (inl ([], rest, is)) = inr (inl (record { left = length text; kind = OutOfRange }, inr (record { string = []; rest = rest; read = is; other = λ same. omega (arith, same); fault_is = refl })))
  byte_part (inl (byte ∷ [], rest, is)) = inl (Read.Byte byte, rest, (byte, refl, is))
  byte_part (inl (byte ∷ (next ∷ string), rest, is)) =
      inr (inl (record { left = length text; kind = OutOfRange }, inr (record { string = byte ∷ (next ∷ string); rest = rest; read = is; other = λ same. omega (arith, same); fault_is = refl })))
  byte_part (inr (inl (kind, of_strings, misfit))) = inr (inl (record { left = length text; kind = kind }, inl (refl, of_strings, misfit)))
  byte_part (inr (inr other)) = inr (inr (λ value rest is. no_string_of_word text other (is.0 ∷ []) rest is.2, no_byte_misfit_of_word text other))

  module _ (word rest : List ℕ) (first : IsFirstWord text word rest) where
    columns_part : SomePart Asked.Columns text
    columns_part = elim (each_plain_range Columns word) [
      | inl is ↦ inl (Read.Range is.0, rest, (is.0, refl, record { word = word; first = first; range_is = is.1 }))
      | inr (inl misfit) ↦ inr (inl (fault_in (length text) misfit.0, record { word = word; rest = rest; first = first; inside = misfit.0; misfit = misfit.1; fault_is = refl }))
      | inr (inr none) ↦ inr (inr (no_columns_part text (λ other after spelling also spelled. none spelling (subst (λ (bytes : List ℕ). IsSpelling bytes spelling) (same_word text other after word rest also first) spelled))))
    ]

    -- a number within limits or outside them
    no_number : ((value : ℕ) → ¬ IsNumber word value) → IsNoNumber text
    no_number none other after value also counts = none value (subst (λ (bytes : List ℕ). IsNumber bytes value) (same_word text other after word rest also first) counts)

    outside : (least most value : ℕ) → IsNumber word value → ¬ ((least ≤ value) × (value ≤ most)) → IsNumberMisfit text least most (record { left = length text; kind = OutOfRange })
    outside least most value counts out = record { word = word; rest = rest; value = value; first = first; counts = counts; outside = out; fault_is = refl }

    number_part : (least most : ℕ) → ((value : ℕ) × IsNumber word value) ⊎ ((value : ℕ) → ¬ IsNumber word value) → SomePart (Asked.Number least most) text
    number_part least most (inl (value, counts)) = by (cases_lt value least) (cases_lt most value)
      where
        by : (value < least) ⊎ (least ≤ value) → (most < value) ⊎ (value ≤ most) → SomePart (Asked.Number least most) text
        by (inr enough) (inr few) = inl (Read.Number value, rest, (value, refl, record { word = word; first = first; counts = counts; enough = enough; few = few }))
        by (inr enough) (inl many) = inr (inl (_, outside least most value counts (λ both. omega (arith, both.1, many))))
        by (inl less) few = inr (inl (_, outside least most value counts (λ both. omega (arith, both.0, less))))
    number_part least most (inr none) = inr (inr (λ value after is. no_number none is.2.word after is.0 is.2.first is.2.counts, λ fault misfit. no_number none misfit.word misfit.rest misfit.value misfit.first misfit.counts))

    -- a count
    no_times : ((value : ℕ) → ¬ IsNumber word value) → (word ≡ 42 ∷ [] → ⊥) → (times : Times) (after : List ℕ) → ¬ AreTimes text times after
    no_times none other (Only n) after is = no_number none is.word after n is.first is.counts
    no_times none other All after is = other (same_word text word rest (42 ∷ []) after first is)

    times_part : (word ≡ 42 ∷ []) ⊎ (word ≡ 42 ∷ [] → ⊥) → ((value : ℕ) × IsNumber word value) ⊎ ((value : ℕ) → ¬ IsNumber word value) → SomePart Asked.Times text
    times_part (inl star) number = inl (Read.Times All, rest, (All, refl, subst (λ (bytes : List ℕ). IsFirstWord text bytes rest) star first))
    times_part (inr other) (inl (value, counts)) = by (cases_lt most_times value)
      where
        by : (most_times < value) ⊎ (value ≤ most_times) → SomePart Asked.Times text
        by (inr few) = inl (Read.Times (Only value), rest, (Only value, refl, record { word = word; first = first; counts = counts; enough = omega arith; few = few }))
        by (inl many) = inr (inl (_, outside 0 most_times value counts (λ both. omega (arith, both.1, many))))
    times_part (inr other) (inr none) = inr (inr (λ value after is. no_times none other is.0 after is.2, λ fault misfit. no_number none misfit.word misfit.rest misfit.value misfit.first misfit.counts))

    -- a keyword
    word_part : (key : Word) → (str_to_ascii_lowercase word ≡ spelling_of key) ⊎ (str_to_ascii_lowercase word ≡ spelling_of key → ⊥) → SomePart (Asked.Word key) text
    word_part key (inl spells) = inl (Read.Word key, rest, (refl, record { word = word; first = first; spells = spells }))
    word_part key (inr other) = inr (inr (no_word_part text key (λ more. other_word text word rest more key first other)))

    -- a name
    name_part : (255 < length word) ⊎ (length word ≤ 255) → SomePart Asked.Name text
    name_part (inr few) = inl (Read.String word, rest, (word, refl, record { first = first; few = few }))
    name_part (inl many) = inr (inl (record { left = length text; kind = OutOfRange }, record { name = word; rest = rest; first = first; many = many; fault_is = refl }))

    -- a counter
    counter_word : (k : ℕ) → k < 10 → word ≡ 35 ∷ ((48 + k) ∷ []) → SomePart Asked.Counter text
    counter_word k few is = inl (Read.Counter k, rest, (k, refl, record { first = subst (λ (bytes : List ℕ). IsFirstWord text bytes rest) is first; few = few }))

    no_counter : ((k : ℕ) → k < 10 → word ≡ 35 ∷ ((48 + k) ∷ []) → ⊥) → SomePart Asked.Counter text
    no_counter none = inr (inr (no_counter_part text (λ k after is. none k is.few (same_word text word rest (35 ∷ ((48 + k) ∷ [])) after first is.first))))

    counter_part : ((k : ℕ) × (k < 10) × (word ≡ 35 ∷ ((48 + k) ∷ []))) ⊎ ((k : ℕ) → k < 10 → word ≡ 35 ∷ ((48 + k) ∷ []) → ⊥) → SomePart Asked.Counter text
    counter_part (inl (k, few, is)) = counter_word k few is
    counter_part (inr none) = no_counter none

    -- a whole number
    module _ (minus : Bool) (unsigned digits others : List ℕ) (spells : word ≡ sign_of minus ++ unsigned) (minus_is : get_or word 0 0 ≡ 45 → minus ≡ true) (split : AreFirstDigits unsigned digits others) where
      whole_value : 0 < length digits → length others ≡ 0 → (within : Option ℤ) → within_i64 (signed minus (decimal digits)) ≡ within → SomePart Asked.Whole text
      whole_value some none (Some value) is = inl (Read.Whole value, _, (value, refl, whole_in text word rest unsigned digits others minus first spells minus_is split value some none is))
      whole_value some none None is = inr (inl (
        record { left = length text; kind = OutOfRange },
        record {
          word = word;
          rest = rest;
          value = signed minus (decimal digits);
          first = first;
          counts = whole_read text word rest unsigned digits others minus first spells minus_is split some none;
          outside = is;
          fault_is = refl;
        },
      ))

      whole_part : (length digits ≡ 0) ⊎ (0 < length digits) → (length others ≡ 0) ⊎ (0 < length others) → SomePart Asked.Whole text
      whole_part (inl none) more = inr (inr (no_whole_part text (no_digits text word rest unsigned digits others minus first spells minus_is split none)))
      whole_part (inr some) (inr more) = inr (inr (no_whole_part text (other_digits text word rest unsigned digits others minus first spells minus_is split more)))
      whole_part (inr some) (inl none) = whole_value some none (within_i64 (signed minus (decimal digits))) refl

-- a word is the name of a counter or not
each_counter : (word : List ℕ) → ((k : ℕ) × (k < 10) × (word ≡ 35 ∷ ((48 + k) ∷ []))) ⊎ ((k : ℕ) → k < 10 → word ≡ 35 ∷ ((48 + k) ∷ []) → ⊥)
each_counter [] = inr (λ k few same. cc)
each_counter (mark ∷ []) = inr (λ k few same. cc)
each_counter (mark ∷ (digit ∷ (next ∷ word))) = inr (λ k few same. cc)
each_counter (mark ∷ (digit ∷ [])) = by (cases_eq mark 35) (cases_lt digit 48) (cases_lt 57 digit)
  where
    by : (mark ≡ 35) ⊎ (mark ≡ 35 → ⊥) → (digit < 48) ⊎ (48 ≤ digit) → (57 < digit) ⊎ (digit ≤ 57) → ((k : ℕ) × (k < 10) × (mark ∷ (digit ∷ []) ≡ 35 ∷ ((48 + k) ∷ []))) ⊎ ((k : ℕ) → k < 10 → mark ∷ (digit ∷ []) ≡ 35 ∷ ((48 + k) ∷ []) → ⊥)
    by (inl is) (inr low) (inr high) =
        let worth : digit ≡ 48 + (digit - 48) = omega arith in
        inl (digit - 48, omega arith, ap (λ (b : ℕ). b ∷ (digit ∷ [])) is ∙ ap (λ (b : ℕ). 35 ∷ (b ∷ [])) worth)
    by (inl is) (inr low) (inl high) = inr (λ k few same. omega (arith, ap (λ (bytes : List ℕ). get_or bytes 1 0) same))
    by (inl is) (inl low) high = inr (λ k few same. omega (arith, ap (λ (bytes : List ℕ). get_or bytes 1 0) same))
    by (inr other) low high = inr (λ k few same. other (ap (λ (bytes : List ℕ). get_or bytes 0 0) same))

-- the sign of a word, and what follows it
each_sign : (word : List ℕ) → (minus : Bool) × (unsigned : List ℕ) × (word ≡ sign_of minus ++ unsigned) × (get_or word 0 0 ≡ 45 → minus ≡ true)
each_sign [] = (false, [], refl, λ same. cc)
each_sign (first ∷ word) = by (cases_eq first 45)
  where
    by : (first ≡ 45) ⊎ (first ≡ 45 → ⊥) → (minus : Bool) × (unsigned : List ℕ) × (first ∷ word ≡ sign_of minus ++ unsigned) × (first ≡ 45 → minus ≡ true)
    by (inl is) = (true, word, ap (λ (b : ℕ). b ∷ word) is, λ same. refl)
    by (inr other) = (false, first ∷ word, refl, λ same. absurd (other same))

pub each_part : (part : Part) (text : List ℕ) → ¬ (get_or text 0 32 ≡ 32) → SomePart part text
each_part Asked.Range text begins = range_part text
each_part Asked.Columns text begins = let first = each_word text in columns_part text first.0 first.1 first.2
each_part Asked.String text begins = string_part text (each_string text (each_begins text begins))
each_part Asked.AnyString text begins = any_string_part text (each_any_string text (each_begins text begins))
each_part Asked.Strings text begins = strings_part text (each_strings text (each_begins text begins))
each_part Asked.Byte text begins = byte_part text (each_string text (each_begins text begins))
each_part (Asked.Number least most) text begins = let first = each_word text in number_part text first.0 first.1 first.2 least most (each_number first.0)
each_part Asked.Times text begins = let first = each_word text in times_part text first.0 first.1 first.2 (same_or_other first.0 (42 ∷ [])) (each_number first.0)
each_part (Asked.Word key) text begins = let first = each_word text in word_part text first.0 first.1 first.2 key (same_or_other (str_to_ascii_lowercase first.0) (spelling_of key))
each_part Asked.Name text begins = let first = each_word text in name_part text first.0 first.1 first.2 (cases_lt 255 (length first.0))
each_part Asked.Counter text begins = let first = each_word text in counter_part text first.0 first.1 first.2 (each_counter first.0)
each_part Asked.Whole text begins =
    let first = each_word text in
    let sign = each_sign first.0 in
    let split = each_first_digits sign.1 in
    whole_part text first.0 first.1 first.2 sign.0 sign.1 split.0 split.1 sign.2 sign.3 split.2 (each_length split.0) (each_length split.1)
each_part Asked.Spot text begins = elim (each_spot text) [
  | inl is ↦ inl (Read.Spot is.0, is.1, (is.0, refl, is.2))
  | inr (inl misfit) ↦ inr (inl misfit)
  | inr (inr none) ↦ inr (inr (no_spot_part text none))
]

-- Several parts, of which one may come

module _ (text : List ℕ) (begins : ¬ (get_or text 0 32 ≡ 32)) where
  -- the text is the first of some that it is, or none
  each_first : (parts : List Part) → ((value : Value) × (rest : List ℕ) × IsFirstPart parts text value rest) ⊎ IsNone parts text
  each_first [] = inr tt
  each_first (part ∷ parts) = by (each_part part text begins) (each_first parts)
    where
      by : SomePart part text → ((value : Value) × (rest : List ℕ) × IsFirstPart parts text value rest) ⊎ IsNone parts text → ((value : Value) × (rest : List ℕ) × IsFirstPart (part ∷ parts) text value rest) ⊎ IsNone (part ∷ parts) text
      by (inl (value, rest, is)) later = inl (value, rest, inl is)
      by (inr (inl (fault, misfit))) (inl (value, rest, is)) = inl (value, rest, inr (misfit_is_not text part fault misfit, is))
      by (inr (inl (fault, misfit))) (inr none) = inr (misfit_is_not text part fault misfit, none)
      by (inr (inr no_part)) (inl (value, rest, is)) = inl (value, rest, inr (no_part.0, is))
      by (inr (inr no_part)) (inr none) = inr (no_part.0, none)

  -- where it is none, it begins as one or as none
  each_misfit : (parts : List Part) → IsNone parts text → ((fault : TextFault) × IsFirstMisfit parts text fault) ⊎ BeginsNone parts text
  each_misfit [] none = inr tt
  each_misfit (part ∷ parts) none = by (each_part part text begins) (each_misfit parts none.1)
    where
      by : SomePart part text → ((fault : TextFault) × IsFirstMisfit parts text fault) ⊎ BeginsNone parts text → ((fault : TextFault) × IsFirstMisfit (part ∷ parts) text fault) ⊎ BeginsNone (part ∷ parts) text
      by (inl (value, rest, is)) later = absurd (none.0 value rest is)
      by (inr (inl (fault, misfit))) later = inl (fault, inl misfit)
      by (inr (inr no_part)) (inl (fault, misfit)) = inl (fault, inr (no_part.1, misfit))
      by (inr (inr no_part)) (inr begins_none) = inr (no_part.1, begins_none)

-- what comes next among arguments
abbrev pub SomeNext : List Part → List ℕ → Type 0
SomeNext parts text = ((value : Value) × (rest : List ℕ) × IsNext parts text value rest) ⊎ (((fault : TextFault) × IsNoNext parts text fault) ⊎ IsAtEnd text)

module _ (parts : List Part) (text front : List ℕ) (unblanked : IsUnblanked text front) where
  next_misfit : 0 < length front → IsNone parts front → ((fault : TextFault) × IsFirstMisfit parts front fault) ⊎ BeginsNone parts front → SomeNext parts text
  next_misfit some none (inl (fault, misfit)) = inr (inl (fault, record { front = front; unblanked = unblanked; some = some; misfit = (none, inl misfit) }))
  next_misfit some none (inr begins) =
      inr (inl (record { left = length front; kind = fault_of_last parts }, record { front = front; unblanked = unblanked; some = some; misfit = (none, inr (begins, refl)) }))

  next_part : (some : 0 < length front) → ((value : Value) × (rest : List ℕ) × IsFirstPart parts front value rest) ⊎ IsNone parts front → SomeNext parts text
  next_part some (inl (value, rest, is)) = inl (value, rest, record { front = front; unblanked = unblanked; some = some; part = is })
  next_part some (inr none) = next_misfit some none (each_misfit front (filled_begins front some unblanked.other) parts none)

  next_at : (length front ≡ 0) ⊎ (0 < length front) → SomeNext parts text
  next_at (inl none) = inr (inr (subst (IsUnblanked text) (emptied front none) unblanked))
  next_at (inr some) = next_part some (each_first front (filled_begins front some unblanked.other) parts)

pub each_next : (parts : List Part) (text : List ℕ) → SomeNext parts text
each_next parts text = let front = each_front text in next_at parts text front.0 front.1 (each_length front.0)
