-- How a text begins with a range: the first word is split before its first digit.
use Rattle.std.proofs.Common.{◌≡◌, ℕ, ◌+◌, ◌-◌, ◌<◌, List, [], ◌∷◌, ◌++◌, length, drop, append-nil, refl, sym, ap, ◌∙◌, subst, inl, inr, arith}
use Rattle.pipe_model.specs.declared.range.Span.{Span}
use Rattle.pipe_model.specs.declared.range.Range.{Range}
use Rattle.pipe_model.proofs.FirstWords.{same_word}
use Rattle.argument_parts.proofs.Letters.{name_others, one_split, spelling_begins}
use Rattle.argument_parts.proofs.Passed.{more_passed, word_passed}
use Rattle.argument_parts.specs.Numbers.{AreFirstOthers}
use Rattle.argument_parts.specs.PlainRanges.{IsPlainRange}
use Rattle.argument_parts.specs.Ranges.{IsSpelling}
use Rattle.argument_parts.specs.RangeWords.{IsApart, IsJoined, IsNamed, IsNoRange, IsRange, IsRangeMisfit}
use Rattle.argument_parts.specs.SpanNames.{IsSpanName}
use Rattle.pipe_model.specs.Words.{IsFirstWord, IsUnblanked}
use Rattle.argument_parts.specs.declared.fault.FaultKind.TheVariants.{Missing}
use Rattle.argument_parts.specs.declared.ranges.Spelling.{Spelling}

-- nothing was left of a list
pub emptied : (bytes : List ℕ) → length bytes ≡ 0 → bytes ≡ []
emptied [] none = refl
emptied (byte ∷ bytes) none = absurd (omega arith)

-- a word without a digit that says what is counted names it in the text
pub named_by : (text word rest name numbers : List ℕ) (span : Span) → IsFirstWord text word rest → AreFirstOthers word name numbers → length numbers ≡ 0 → IsSpanName name span → IsNamed text rest span
named_by text word rest name numbers span first split none names =
    let whole : word ≡ name = split.spells ∙ ap (λ b. name ++ b) (emptied numbers none) ∙ append-nil name in
    record { name = word; first = first; names = subst (λ b. IsSpanName b span) (sym whole) names }

-- nothing comes after the word
pub rangeless : (text after front : List ℕ) (span : Span) → IsUnblanked after front → length front ≡ 0 → IsNamed text after span → IsRangeMisfit text (record { left = 0; kind = Missing })
rangeless text after front span unblanked none named = inr (inr (inr (inr (record {
  span = span;
  apart = record { name = named.name; after = after; first = named.first; names = named.names; unblanked = subst (IsUnblanked after) (emptied front none) unblanked };
  fault_is = refl;
}))))

-- the range after the word was read
pub apart_read : (text after front word rest : List ℕ) (span : Span) (range : Range) → IsUnblanked after front → IsFirstWord front word rest → IsPlainRange span word range → IsNamed text after span
    → IsRange text range (drop (length after - length front + length word) after)
apart_read text after front word rest span range unblanked first is named = rw (word_passed after front word rest unblanked first.spells) (inr (inr (record {
  front = front;
  word = word;
  span = span;
  apart = record { name = named.name; after = after; first = named.first; names = named.names; unblanked = unblanked };
  first = first;
  range_is = is;
})))

-- what was read after the word is left after the word and more
pub named_read : (text word rest : List ℕ) (range : Range) (more : ℕ) → IsFirstWord text word rest → IsRange text range (drop more rest) → IsRange text range (drop (length word + more) text)
named_read text word rest range more first is = rw (more_passed text word rest more first.spells) is

module _ (text word rest name numbers : List ℕ) (first : IsFirstWord text word rest) (split : AreFirstOthers word name numbers) where
  -- a word joined to numbers is what stands before the first digit
  pub joined_split : (other digits after : List ℕ) (span : Span) (spelling : Spelling) → IsJoined text other digits after span → IsSpelling digits spelling → (other ≡ name) × (digits ≡ numbers)
  joined_split other digits after span spelling joined spelled =
      let words = same_word text joined.word after word rest joined.first first in
      one_split other name digits numbers (name_others other span joined.names) split.no_digit (spelling_begins digits spelling spelled) split.stops (sym joined.spells ∙ words ∙ split.spells)

  -- a word apart from numbers is the whole word
  pub apart_split : (front : List ℕ) (span : Span) (apart : IsApart text front span) → (apart.name ≡ name) × ([] ≡ numbers)
  apart_split front span apart =
      let words = same_word text apart.name apart.after word rest apart.first first in
      one_split apart.name name [] numbers (name_others apart.name span apart.names) split.no_digit refl split.stops (append-nil apart.name ∙ words ∙ split.spells)

  -- a text whose first word isn't a range, and neither says what is counted nor begins so with a range after it, doesn't begin as a range does
  pub no_range : ((spelling : Spelling) → ¬ IsSpelling word spelling) → ((span : Span) (spelling : Spelling) → IsSpanName name span → ¬ IsSpelling numbers spelling) → ((span : Span) → IsSpanName name span → ¬ ([] ≡ numbers)) → IsNoRange text
  no_range none none_joined none_apart =
      let bare = λ (other : List ℕ) (after : List ℕ) (spelling : Spelling) (is : IsFirstWord text other after) (spelled : IsSpelling other spelling).
      none spelling (subst (λ b. IsSpelling b spelling) (same_word text other after word rest is first) spelled) in
      let joined = λ (other : List ℕ) (digits : List ℕ) (after : List ℕ) (span : Span) (spelling : Spelling) (is : IsJoined text other digits after span) (spelled : IsSpelling digits spelling).
      let same = joined_split other digits after span spelling is spelled in
      none_joined span spelling (subst (λ b. IsSpanName b span) same.0 is.names) (subst (λ b. IsSpelling b spelling) same.1 spelled) in
      let apart = λ (front : List ℕ) (span : Span) (is : IsApart text front span).
      let same = apart_split front span is in
      none_apart span (subst (λ b. IsSpanName b span) same.0 is.names) same.1 in
      record {
        none = λ range after read. elim read [
          | inl is ↦ bare is.word after is.range_is.spelling is.first is.range_is.spelled
          | inr (inl is) ↦ joined is.name is.numbers after is.span is.range_is.spelling is.joined is.range_is.spelled
          | inr (inr is) ↦ apart is.front is.span is.apart
        ];
        no_misfit = λ fault misfit. elim misfit [
          | inl is ↦ bare is.word is.rest is.misfit.spelling is.first is.misfit.spelled
          | inr (inl is) ↦ joined is.name is.numbers is.rest is.span is.misfit.spelling is.joined is.misfit.spelled
          | inr (inr (inl is)) ↦ apart is.front is.span is.apart
          | inr (inr (inr (inl is))) ↦ apart is.front is.span is.apart
          | inr (inr (inr (inr is))) ↦ apart [] is.span is.apart
        ];
      }

  -- a word that doesn't say what is counted
  pub no_range_unnamed : ((spelling : Spelling) → ¬ IsSpelling word spelling) → ((span : Span) → ¬ IsSpanName name span) → IsNoRange text
  no_range_unnamed none unnamed = no_range none (λ span spelling names spelled. unnamed span names) (λ span names same. unnamed span names)

  -- a word that goes on after it otherwise than with numbers
  pub no_range_joined : ((spelling : Spelling) → ¬ IsSpelling word spelling) → 0 < length numbers → ((spelling : Spelling) → ¬ IsSpelling numbers spelling) → IsNoRange text
  no_range_joined none some other = no_range none (λ span spelling names spelled. other spelling spelled) (λ span names same. omega (arith, some, ap length same))
