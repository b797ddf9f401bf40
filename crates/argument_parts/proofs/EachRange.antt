-- Each word spells a range, has a fault of its numbers, or spells none; each text begins as a range, has a fault of one, or begins otherwise.
use Rattle.std.proofs.Common.{◌≡◌, ℕ, ◌+◌, ◌-◌, ◌<◌, ◌≤◌, ◌⊎◌, ◌∙◌, List, [], ◌∷◌, length, Option, Some, None, refl, sym, ap, arith, subst, inl, inr, codes}
use Rattle.std.specs.Str.{str_to_ascii_lowercase}
use Rattle.std.proofs.lemmas.Bool.{cases_eq, cases_lt}
use Rattle.pipe_model.specs.declared.range.Range.{Range}
use Rattle.pipe_model.specs.declared.range.Span.{Span}
use Rattle.pipe_model.specs.declared.range.Span.TheVariants.{Columns, Words, Fields}
use Rattle.pipe_model.specs.Words.{IsFirstWord, IsUnblanked}
use Rattle.argument_parts.proofs.EachWord.{each_first_digits, each_first_others, each_front, each_length, each_number, each_word, same_or_other}
use Rattle.argument_parts.proofs.RangeFronts.{named_by, no_range_joined, no_range_unnamed, rangeless}
use Rattle.argument_parts.proofs.Spellings.{no_ending, no_number}
use Rattle.argument_parts.specs.Bounds.{Fits, IsLast, IsMisfit, IsRangeOf, IsReversed, IsSecondMisfit}
use Rattle.argument_parts.specs.Numbers.{AreFirstDigits, AreFirstOthers, IsNumber}
use Rattle.argument_parts.specs.PlainRanges.{IsPlainRange, IsRangeFault, fault_of}
use Rattle.argument_parts.specs.Ranges.{Ends, IsSpelling}
use Rattle.argument_parts.specs.RangeWords.{IsNamed, IsNoRange, IsRange, IsRangeMisfit, fault_in}
use Rattle.argument_parts.specs.SpanNames.{IsOneOf, IsSpanName}
use Rattle.argument_parts.specs.declared.bounds.Misfit.{Misfit}
use Rattle.argument_parts.specs.declared.bounds.Misfit.TheVariants.{First, Second, Reversed}
use Rattle.argument_parts.specs.declared.fault.FaultKind.TheVariants.{NotANumber, Missing}
use Rattle.argument_parts.specs.declared.part.TextFault.{TextFault}
use Rattle.argument_parts.specs.declared.ranges.Ending.{Ending}
use Rattle.argument_parts.specs.declared.ranges.Ending.TheVariants.{Alone, To, Open, Long}
use Rattle.argument_parts.specs.declared.ranges.Spelling.{Spelling}
use Rattle.argument_parts.specs.declared.spelled.WordFault.{WordFault}

-- what is spelled after the first number
abbrev SomeEnding : List ℕ → Type 0
SomeEnding after = ((ending : Ending) × Ends after ending) ⊎ ((ending : Ending) → ¬ Ends after ending)

-- the first byte of what is spelled
begins_with : (first byte : ℕ) (rest bytes : List ℕ) → (first ∷ rest) ≡ (byte ∷ bytes) → (first ≡ byte) × (rest ≡ bytes)
begins_with first byte rest bytes same = (cc, cc)

module _ (first : ℕ) (rest : List ℕ) where
  after_minus : first ≡ 45 → (rest ≡ 42 ∷ []) ⊎ (rest ≡ 42 ∷ [] → ⊥) → ((value : ℕ) × IsNumber rest value) ⊎ ((value : ℕ) → ¬ IsNumber rest value) → SomeEnding (first ∷ rest)
  after_minus minus (inl star) number = inl (Open, ap (λ (b : ℕ). b ∷ rest) minus ∙ ap (λ (bytes : List ℕ). 45 ∷ bytes) star)
  after_minus minus (inr other) (inl (value, is)) = inl (To value, (rest, ap (λ (b : ℕ). b ∷ rest) minus, is))
  after_minus minus (inr other) (inr none) = inr no_end
    where
      no_end : (ending : Ending) → ¬ Ends (first ∷ rest) ending
      no_end Alone ends = cc
      no_end (To value) ends = none value (subst (λ digits. IsNumber digits value) (sym (begins_with first 45 rest ends.0 ends.1).1) ends.2)
      no_end Open ends = other (begins_with first 45 rest (42 ∷ []) ends).1
      no_end (Long value) ends = omega (arith, minus, (begins_with first 46 rest ends.0 ends.1).0)

  after_dot : first ≡ 46 → ((value : ℕ) × IsNumber rest value) ⊎ ((value : ℕ) → ¬ IsNumber rest value) → SomeEnding (first ∷ rest)
  after_dot dot (inl (value, is)) = inl (Long value, (rest, ap (λ (b : ℕ). b ∷ rest) dot, is))
  after_dot dot (inr none) = inr no_end
    where
      no_end : (ending : Ending) → ¬ Ends (first ∷ rest) ending
      no_end Alone ends = cc
      no_end (To value) ends = omega (arith, dot, (begins_with first 45 rest ends.0 ends.1).0)
      no_end Open ends = omega (arith, dot, (begins_with first 45 rest (42 ∷ []) ends).0)
      no_end (Long value) ends = none value (subst (λ digits. IsNumber digits value) (sym (begins_with first 46 rest ends.0 ends.1).1) ends.2)

  after_other : (first ≡ 45) ⊎ (first ≡ 45 → ⊥) → (first ≡ 46) ⊎ (first ≡ 46 → ⊥) → SomeEnding (first ∷ rest)
  after_other (inl minus) dot = after_minus minus (same_or_other rest (42 ∷ [])) (each_number rest)
  after_other (inr other) (inl dot) = after_dot dot (each_number rest)
  after_other (inr other) (inr also) = inr no_end
    where
      no_end : (ending : Ending) → ¬ Ends (first ∷ rest) ending
      no_end Alone ends = cc
      no_end (To value) ends = other (begins_with first 45 rest ends.0 ends.1).0
      no_end Open ends = other (begins_with first 45 rest (42 ∷ []) ends).0
      no_end (Long value) ends = also (begins_with first 46 rest ends.0 ends.1).0

each_ending : (after : List ℕ) → SomeEnding after
each_ending [] = inl (Alone, refl)
each_ending (first ∷ rest) = after_other first rest (cases_eq first 45) (cases_eq first 46)

-- a word spells a range, of any numbers, or none
pub each_spelling : (word : List ℕ) → ((spelling : Spelling) × IsSpelling word spelling) ⊎ ((spelling : Spelling) → ¬ IsSpelling word spelling)
each_spelling word = by (each_first_digits word)
  where
    with_ending : (digits rest : List ℕ) → AreFirstDigits word digits rest → (value : ℕ) → IsNumber digits value → SomeEnding rest → ((spelling : Spelling) × IsSpelling word spelling) ⊎ ((spelling : Spelling) → ¬ IsSpelling word spelling)
    with_ending digits rest first value counts (inl (ending, ends)) = inl (record { first = value; ending = ending }, record { number = digits; after = rest; spells = first.spells; counts = counts; ends = ends })
    with_ending digits rest first value counts (inr none) = inr (no_ending word digits rest first none)

    with_number : (digits rest : List ℕ) → AreFirstDigits word digits rest → ((value : ℕ) × IsNumber digits value) ⊎ ((value : ℕ) → ¬ IsNumber digits value) → ((spelling : Spelling) × IsSpelling word spelling) ⊎ ((spelling : Spelling) → ¬ IsSpelling word spelling)
    with_number digits rest first (inl (value, counts)) = with_ending digits rest first value counts (each_ending rest)
    with_number digits rest first (inr none) = inr (no_number word digits rest first none)

    by : (digits : List ℕ) × (rest : List ℕ) × AreFirstDigits word digits rest → ((spelling : Spelling) × IsSpelling word spelling) ⊎ ((spelling : Spelling) → ¬ IsSpelling word spelling)
    by (digits, rest, first) = with_number digits rest first (each_number digits)

-- a range may have a number, or not
pub each_fit : (number : ℕ) → Fits number ⊎ ¬ Fits number
each_fit number = by (cases_lt 0 number) (cases_lt 1048576 number)
  where
    by : (0 < number) ⊎ (number ≤ 0) → (1048576 < number) ⊎ (number ≤ 1048576) → Fits number ⊎ ¬ Fits number
    by (inl some) (inr few) = inl (omega (arith, some), few)
    by (inl some) (inl many) = inr (λ fits. omega (arith, many, fits.1))
    by (inr none) few = inr (λ fits. omega (arith, none, fits.0))

-- the last number of a range, or why there is none
pub each_last : (first : ℕ) (ending : Ending) → ((last : Option ℕ) × IsLast first ending last) ⊎ (IsSecondMisfit ending ⊎ IsReversed first ending)
each_last first Alone = inl (Some first, refl)
each_last first (To number) = by (each_fit number) (cases_lt number first)
  where
    by : Fits number ⊎ ¬ Fits number → (number < first) ⊎ (first ≤ number) → ((last : Option ℕ) × IsLast first (To number) last) ⊎ (IsSecondMisfit (To number) ⊎ IsReversed first (To number))
    by (inl fits) (inr above) = inl (Some number, (fits, above, refl))
    by (inl fits) (inl below) = inr (inr (fits, below))
    by (inr outside) above = inr (inl outside)
each_last first Open = inl (None, refl)
each_last first (Long len) = by (each_fit len)
  where
    by : Fits len ⊎ ¬ Fits len → ((last : Option ℕ) × IsLast first (Long len) last) ⊎ (IsSecondMisfit (Long len) ⊎ IsReversed first (Long len))
    by (inl fits) = inl (Some (first + len - 1), (fits, refl))
    by (inr outside) = inr (inl outside)

-- a spelling is a range or a misfit
pub each_range_of : (span : Span) (spelling : Spelling) → ((range : Range) × IsRangeOf span spelling range) ⊎ ((misfit : Misfit) × IsMisfit spelling misfit)
each_range_of span spelling = by (each_fit spelling.first) (each_last spelling.first spelling.ending)
  where
    by : Fits spelling.first ⊎ ¬ Fits spelling.first → ((last : Option ℕ) × IsLast spelling.first spelling.ending last) ⊎ (IsSecondMisfit spelling.ending ⊎ IsReversed spelling.first spelling.ending)
        → ((range : Range) × IsRangeOf span spelling range) ⊎ ((misfit : Misfit) × IsMisfit spelling misfit)
    by (inl fits) (inl (last, ends)) = inl (record { span = span; first = spelling.first; last = last }, record { of_span = refl; fits = fits; begins = refl; ends = ends })
    by (inl fits) (inr (inl second)) = inr (Second, (fits, second))
    by (inl fits) (inr (inr reversed)) = inr (Reversed, (fits, reversed))
    by (inr outside) ends = inr (First, outside)

-- a word is a range, has a fault of its numbers, or spells none
abbrev pub SomeRange : Span → List ℕ → Type 0
SomeRange span word = ((range : Range) × IsPlainRange span word range) ⊎ (((fault : WordFault) × IsRangeFault word fault) ⊎ ((spelling : Spelling) → ¬ IsSpelling word spelling))

pub each_plain_range : (span : Span) (word : List ℕ) → SomeRange span word
each_plain_range span word = by (each_spelling word)
  where
    with_spelling : (spelling : Spelling) → IsSpelling word spelling → ((range : Range) × IsRangeOf span spelling range) ⊎ ((misfit : Misfit) × IsMisfit spelling misfit) → SomeRange span word
    with_spelling spelling spelled (inl (range, is)) = inl (range, record { spelling = spelling; spelled = spelled; range_is = is })
    with_spelling spelling spelled (inr (misfit, is)) =
        inr (inl (fault_of (length spelled.number + 1) misfit, record { spelling = spelling; spelled = spelled; misfit = misfit; misfits = is; fault_is = refl }))

    by : ((spelling : Spelling) × IsSpelling word spelling) ⊎ ((spelling : Spelling) → ¬ IsSpelling word spelling) → SomeRange span word
    by (inl (spelling, spelled)) = with_spelling spelling spelled (each_range_of span spelling)
    by (inr none) = inr (inr none)

-- a word is one of three, or not
each_of : (word a b c : List ℕ) → IsOneOf word a b c ⊎ ¬ IsOneOf word a b c
each_of word a b c = by (same_or_other lower a) (same_or_other lower b) (same_or_other lower c)
  where
    lower : List ℕ
    lower = str_to_ascii_lowercase word

    by : (lower ≡ a) ⊎ (lower ≡ a → ⊥) → (lower ≡ b) ⊎ (lower ≡ b → ⊥) → (lower ≡ c) ⊎ (lower ≡ c → ⊥) → IsOneOf word a b c ⊎ ¬ IsOneOf word a b c
    by (inl is) second third = inl (inl is)
    by (inr never) (inl is) third = inl (inr (inl is))
    by (inr never) (inr also) (inl is) = inl (inr (inr is))
    by (inr never) (inr also) (inr last) = inr none
      where
        none : ¬ IsOneOf word a b c
        none (inl is) = never is
        none (inr (inl is)) = also is
        none (inr (inr is)) = last is

-- a word says what is counted, or it doesn't
pub each_span_name : (name : List ℕ) → ((span : Span) × IsSpanName name span) ⊎ ((span : Span) → ¬ IsSpanName name span)
each_span_name name = by (each_of name (codes "w") (codes "word") (codes "words")) (each_of name (codes "f") (codes "field") (codes "fields"))
  where
    by : IsSpanName name Words ⊎ ¬ IsSpanName name Words → IsSpanName name Fields ⊎ ¬ IsSpanName name Fields → ((span : Span) × IsSpanName name span) ⊎ ((span : Span) → ¬ IsSpanName name span)
    by (inl is) fields = inl (Words, is)
    by (inr never) (inl is) = inl (Fields, is)
    by (inr never) (inr also) = inr none
      where
        none : (span : Span) → ¬ IsSpanName name span
        none Columns names = names
        none Words names = never names
        none Fields names = also names

module _ (text word rest : List ℕ) (first : IsFirstWord text word rest) where
  abbrev Begins : Type 0
  Begins = ((range : Range) × (after : List ℕ) × IsRange text range after) ⊎ (((fault : TextFault) × IsRangeMisfit text fault) ⊎ IsNoRange text)

  module _ (name numbers : List ℕ) (span : Span) (split : AreFirstOthers word name numbers) (names : IsSpanName name span) where
    -- the first word of what comes after a word that says what is counted
    numbers_apart : (front : List ℕ) → IsUnblanked rest front → 0 < length front → IsNamed text rest span → (next after : List ℕ) → IsFirstWord front next after → SomeRange span next → Begins
    numbers_apart front unblanked some named next after first_next (inl (range, is)) =
        inl (range, after, inr (inr (record { front = front; word = next; span = span; apart = record { name = named.name; after = rest; first = named.first; names = named.names; unblanked = unblanked }; first = first_next; range_is = is })))
    numbers_apart front unblanked some named next after first_next (inr (inl (inside, misfit))) =
        inr (inl (
          fault_in (length front) inside,
          inr (inr (inl (record {
            front = front;
            word = next;
            rest = after;
            span = span;
            apart = record { name = named.name; after = rest; first = named.first; names = named.names; unblanked = unblanked };
            first = first_next;
            inside = inside;
            misfit = misfit;
            fault_is = refl;
          }))),
        ))
    numbers_apart front unblanked some named next after first_next (inr (inr none)) =
        inr (inl (
          record { left = length front; kind = NotANumber },
          inr (inr (inr (inl (record {
            front = front;
            word = next;
            rest = after;
            span = span;
            apart = record { name = named.name; after = rest; first = named.first; names = named.names; unblanked = unblanked };
            some = some;
            first = first_next;
            other = none;
            fault_is = refl;
          })))),
        ))

    -- what comes after it
    after_name : IsNamed text rest span → (front : List ℕ) → IsUnblanked rest front → (length front ≡ 0) ⊎ (0 < length front) → Begins
    after_name named front unblanked (inl empty) = inr (inl (record { left = 0; kind = Missing }, rangeless text rest front span unblanked empty named))
    after_name named front unblanked (inr some) = let next = each_word front in numbers_apart front unblanked some named next.0 next.1 next.2 (each_plain_range span next.0)

    -- the numbers are joined to it
    numbers_joined : ((spelling : Spelling) → ¬ IsSpelling word spelling) → 0 < length numbers → SomeRange span numbers → Begins
    numbers_joined none some (inl (range, is)) = inl (range, rest, inr (inl (record { name = name; numbers = numbers; span = span; joined = record { word = word; first = first; spells = split.spells; names = names }; range_is = is })))
    numbers_joined none some (inr (inl (inside, misfit))) =
        inr (inl (
          fault_in (length text - length name) inside,
          inr (inl (record {
            name = name;
            numbers = numbers;
            rest = rest;
            span = span;
            joined = record { word = word; first = first; spells = split.spells; names = names };
            inside = inside;
            misfit = misfit;
            fault_is = refl;
          })),
        ))
    numbers_joined none some (inr (inr other)) = inr (inr (no_range_joined text word rest name numbers first split none some other))

    named_or_joined : ((spelling : Spelling) → ¬ IsSpelling word spelling) → (length numbers ≡ 0) ⊎ (0 < length numbers) → Begins
    named_or_joined none (inl empty) = let front = each_front rest in after_name (named_by text word rest name numbers span first split empty names) front.0 front.1 (each_length front.0)
    named_or_joined none (inr some) = numbers_joined none some (each_plain_range span numbers)

  by_name : (name numbers : List ℕ) → AreFirstOthers word name numbers → ((spelling : Spelling) → ¬ IsSpelling word spelling) → ((span : Span) × IsSpanName name span) ⊎ ((span : Span) → ¬ IsSpanName name span) → Begins
  by_name name numbers split none (inl (span, names)) = named_or_joined name numbers span split names none (each_length numbers)
  by_name name numbers split none (inr unnamed) = inr (inr (no_range_unnamed text word rest name numbers first split none unnamed))

  by_word : SomeRange Columns word → Begins
  by_word (inl (range, is)) = inl (range, rest, inl (record { word = word; first = first; range_is = is }))
  by_word (inr (inl (inside, misfit))) = inr (inl (fault_in (length text) inside, inl (record { word = word; rest = rest; first = first; inside = inside; misfit = misfit; fault_is = refl })))
  by_word (inr (inr none)) = let others = each_first_others word in by_name others.0 others.1 others.2 none (each_span_name others.0)

-- a text begins as a range, has a fault of one, or begins otherwise
pub each_range : (text : List ℕ) → ((range : Range) × (rest : List ℕ) × IsRange text range rest) ⊎ (((fault : TextFault) × IsRangeMisfit text fault) ⊎ IsNoRange text)
each_range text = let first = each_word text in by_word text first.0 first.1 first.2 (each_plain_range Columns first.0)
