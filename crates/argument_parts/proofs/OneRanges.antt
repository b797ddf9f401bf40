-- A text begins with one range, or has one fault of a range.
use Rattle.std.proofs.Common.{◌≡◌, ℕ, ◌-◌, ◌⊎◌, List, [], length, refl, sym, ap, ◌∙◌, arith, subst, inl, inr, append-nil, length-append}
use Rattle.std.proofs.lemmas.List.Elements.{All-nil}
use Rattle.pipe_model.specs.declared.range.Range.{Range}
use Rattle.pipe_model.specs.declared.range.Span.{Span}
use Rattle.pipe_model.specs.declared.range.Span.TheVariants.{Columns}
use Rattle.pipe_model.proofs.FirstWords.{same_rest, same_word}
use Rattle.argument_parts.proofs.Letters.{IsOther, name_others, one_split, spelling_begins}
use Rattle.pipe_model.proofs.Blanks.{one_front}
use Rattle.argument_parts.proofs.OneFronts.{no_empty_name, one_span}
use Rattle.argument_parts.proofs.OneSpellings.{no_range_fault, one_plain_range, one_range_fault, spelling_filled}
use Rattle.argument_parts.specs.PlainRanges.{IsPlainRange, IsRangeFault}
use Rattle.argument_parts.specs.Ranges.{IsSpelling}
use Rattle.argument_parts.specs.RangeWords.{IsApart, IsJoined, IsNumberless, IsRange, IsRangeMisfit, IsRangeless, fault_in}
use Rattle.argument_parts.specs.SpanNames.{IsSpanName}
use Rattle.pipe_model.specs.Words.{IsFirstWord, IsUnblanked}
use Rattle.argument_parts.specs.declared.fault.FaultKind.TheVariants.{NotANumber}
use Rattle.argument_parts.specs.declared.part.TextFault.{TextFault}
use Rattle.argument_parts.specs.declared.ranges.Spelling.{Spelling}
use Rattle.argument_parts.specs.declared.spelled.WordFault.{WordFault}

-- the numbers of a range stand alone, joined to a word or apart from it, and so many bytes are left of the text at their front
abbrev IsAt : (text : List ℕ) (span : Span) (word : List ℕ) (left : ℕ) (rest : List ℕ) → Type 0
IsAt text span word left rest =
    ((span ≡ Columns) × IsFirstWord text word rest × (left ≡ length text))
    ⊎ (((name : List ℕ) × IsJoined text name word rest span × (left ≡ length text - length name))
    ⊎ ((front : List ℕ) × IsApart text front span × IsFirstWord front word rest × (left ≡ length front)))

-- a range with its place
record IsRead (text : List ℕ) (range : Range) (rest : List ℕ) : Type 0 where
  pub span : Span
  pub word : List ℕ
  pub left : ℕ
  pub place : IsAt text span word left rest
  pub range_is : IsPlainRange span word range

-- a fault of a range with its place
record IsFaulty (text : List ℕ) (fault : TextFault) : Type 0 where
  pub span : Span
  pub word : List ℕ
  pub left : ℕ
  pub rest : List ℕ
  pub place : IsAt text span word left rest
  pub inside : WordFault
  pub misfit : IsRangeFault word inside
  pub fault_is : fault ≡ fault_in left inside

module _ (text : List ℕ) where
  read_at : (range : Range) (rest : List ℕ) → IsRange text range rest → IsRead text range rest
  read_at range rest (inl is) = record { span = Columns; word = is.word; left = length text; place = inl (refl, is.first, refl); range_is = is.range_is }
  read_at range rest (inr (inl is)) = record { span = is.span; word = is.numbers; left = length text - length is.name; place = inr (inl (is.name, is.joined, refl)); range_is = is.range_is }
  read_at range rest (inr (inr is)) = record { span = is.span; word = is.word; left = length is.front; place = inr (inr (is.front, is.apart, is.first, refl)); range_is = is.range_is }

  faulty_at : (fault : TextFault) → IsRangeMisfit text fault → IsFaulty text fault ⊎ (IsNumberless text fault ⊎ IsRangeless text fault)
  faulty_at fault (inl is) = inl (record { span = Columns; word = is.word; left = length text; rest = is.rest; place = inl (refl, is.first, refl); inside = is.inside; misfit = is.misfit; fault_is = is.fault_is })
  faulty_at fault (inr (inl is)) = inl (record { span = is.span; word = is.numbers; left = length text - length is.name; rest = is.rest; place = inr (inl (is.name, is.joined, refl)); inside = is.inside; misfit = is.misfit; fault_is = is.fault_is })
  faulty_at fault (inr (inr (inl is))) = inl (record { span = is.span; word = is.word; left = length is.front; rest = is.rest; place = inr (inr (is.front, is.apart, is.first, refl)); inside = is.inside; misfit = is.misfit; fault_is = is.fault_is })
  faulty_at fault (inr (inr (inr (inl is)))) = inr (inl is)
  faulty_at fault (inr (inr (inr (inr is)))) = inr (inr is)

  -- a word that is spelled isn't joined to another word
  not_joined : (word rest name numbers after : List ℕ) (span : Span) (a b : Spelling) → IsFirstWord text word rest → IsSpelling word a → IsSpelling numbers b → ¬ IsJoined text name numbers after span
  not_joined word rest name numbers after span a b first spelled spelled_b joined =
      let words = same_word text word rest joined.word after first joined.first in
      let empty = (one_split [] name word numbers (All-nil IsOther) (name_others name span joined.names) (spelling_begins word a spelled) (spelling_begins numbers b spelled_b) (words ∙ joined.spells)).0 in
      no_empty_name span (subst (λ name. IsSpanName name span) (sym empty) joined.names)

  -- a word that is spelled says nothing of what is counted
  not_apart : (word rest front : List ℕ) (span : Span) (a : Spelling) → IsFirstWord text word rest → IsSpelling word a → ¬ IsApart text front span
  not_apart word rest front span a first spelled apart =
      let words = same_word text word rest apart.name apart.after first apart.first in
      let empty = (one_split [] apart.name word [] (All-nil IsOther) (name_others apart.name span apart.names) (spelling_begins word a spelled) refl (words ∙ sym (append-nil apart.name))).0 in
      no_empty_name span (subst (λ name. IsSpanName name span) (sym empty) apart.names)

  -- numbers don't stand both joined to a word and apart from it
  not_both_places : (name numbers after front : List ℕ) (span other : Span) (a : Spelling) → IsJoined text name numbers after span → IsSpelling numbers a → ¬ IsApart text front other
  not_both_places name numbers after front span other a joined spelled apart =
      let words = same_word text joined.word after apart.name apart.after joined.first apart.first in
      let none = (one_split name apart.name numbers [] (name_others name span joined.names) (name_others apart.name other apart.names) (spelling_begins numbers a spelled) refl (sym joined.spells ∙ words ∙ sym (append-nil apart.name))).1 in
      omega (arith, spelling_filled numbers a spelled, ap length none)

  -- what stands after a word that says what is counted is one
  one_apart : (front other : List ℕ) (a b : Span) → IsApart text front a → IsApart text other b → (front ≡ other) × (a ≡ b)
  one_apart front other a b first second =
      let names = same_word text first.name first.after second.name second.after first.first second.first in
      let afters = same_rest text first.name first.after second.name second.after first.first second.first in (
        one_front first.after front other first.unblanked (subst (λ after. IsUnblanked after other) (sym afters) second.unblanked),
        one_span first.name a b first.names (subst (λ name. IsSpanName name b) (sym names) second.names),
      )

  -- the numbers of a range stand in one place
  one_place : (span other : Span) (word words : List ℕ) (left lefts : ℕ) (rest rests : List ℕ) (a b : Spelling) → IsAt text span word left rest → IsAt text other words lefts rests
      → IsSpelling word a → IsSpelling words b → (span ≡ other) × (word ≡ words) × (left ≡ lefts) × (rest ≡ rests)
  one_place span other word words left lefts rest rests a b (inl is) (inl too) spelled spelled_b =
      (is.0 ∙ sym too.0, same_word text word rest words rests is.1 too.1, is.2 ∙ sym too.2, same_rest text word rest words rests is.1 too.1)
  one_place span other word words left lefts rest rests a b (inl is) (inr (inl too)) spelled spelled_b = absurd (not_joined word rest too.0 words rests other a b is.1 spelled spelled_b too.1)
  one_place span other word words left lefts rest rests a b (inl is) (inr (inr too)) spelled spelled_b = absurd (not_apart word rest too.0 other a is.1 spelled too.1)
  one_place span other word words left lefts rest rests a b (inr (inl is)) (inl too) spelled spelled_b = absurd (not_joined words rests is.0 word rest span b a too.1 spelled_b spelled is.1)
  one_place span other word words left lefts rest rests a b (inr (inl is)) (inr (inl too)) spelled spelled_b =
      let first = is.1 in
      let second = too.1 in
      let whole = same_word text first.word rest second.word rests first.first second.first in
      let parts = one_split is.0 too.0 word words (name_others is.0 span first.names) (name_others too.0 other second.names) (spelling_begins word a spelled) (spelling_begins words b spelled_b) (sym first.spells ∙ whole ∙ second.spells) in (
        one_span is.0 span other first.names (subst (λ name. IsSpanName name other) (sym parts.0) second.names),
        parts.1,
        is.2 ∙ ap (λ name. length text - length name) parts.0 ∙ sym too.2,
        same_rest text first.word rest second.word rests first.first second.first,
      )
  one_place span other word words left lefts rest rests a b (inr (inl is)) (inr (inr too)) spelled spelled_b = absurd (not_both_places is.0 word rest too.0 span other a is.1 spelled too.1)
  one_place span other word words left lefts rest rests a b (inr (inr is)) (inl too) spelled spelled_b = absurd (not_apart words rests is.0 span b too.1 spelled_b is.1)
  one_place span other word words left lefts rest rests a b (inr (inr is)) (inr (inl too)) spelled spelled_b = absurd (not_both_places too.0 words rests is.0 other span b too.1 spelled_b is.1)
  one_place span other word words left lefts rest rests a b (inr (inr is)) (inr (inr too)) spelled spelled_b =
      let fronts = one_apart is.0 too.0 span other is.1 too.1 in
      let second = subst (λ front. IsFirstWord front words rests) (sym fronts.0) too.2 in (
        fronts.1,
        same_word is.0 word rest words rests is.2 second,
        is.3 ∙ ap length fronts.0 ∙ sym too.3,
        same_rest is.0 word rest words rests is.2 second,
      )

  -- the numbers of a range are the first word after a word that says what is counted
  place_apart : (front : List ℕ) (span other : Span) (word : List ℕ) (left : ℕ) (rest : List ℕ) (a : Spelling) → IsApart text front span → IsAt text other word left rest → IsSpelling word a → IsFirstWord front word rest
  place_apart front span other word left rest a apart (inl is) spelled = absurd (not_apart word rest front span a is.1 spelled apart)
  place_apart front span other word left rest a apart (inr (inl is)) spelled = absurd (not_both_places is.0 word rest front other span a is.1 spelled apart)
  place_apart front span other word left rest a apart (inr (inr is)) spelled = subst (λ front. IsFirstWord front word rest) (one_apart is.0 front other span is.1 apart).0 is.2

  -- where numbers stand they aren't wanting
  not_numberless : (span : Span) (word : List ℕ) (left : ℕ) (rest : List ℕ) (a : Spelling) (fault : TextFault) → IsAt text span word left rest → IsSpelling word a → ¬ IsNumberless text fault
  not_numberless span word left rest a fault place spelled none =
      let first = place_apart none.front none.span span word left rest a none.apart place spelled in
      none.other a (subst (λ word. IsSpelling word a) (same_word none.front word rest none.word none.rest first none.first) spelled)

  not_rangeless : (span : Span) (word : List ℕ) (left : ℕ) (rest : List ℕ) (a : Spelling) (fault : TextFault) → IsAt text span word left rest → IsSpelling word a → ¬ IsRangeless text fault
  not_rangeless span word left rest a fault place spelled none =
      let first = place_apart [] none.span span word left rest a none.apart place spelled in
      omega (arith, spelling_filled word a spelled, ap length first.spells, length-append word rest)

  pub one_range : (a b : Range) (rest other : List ℕ) → IsRange text a rest → IsRange text b other → (a ≡ b) × (rest ≡ other)
  one_range a b rest other first second =
      let is = read_at a rest first in
      let too = read_at b other second in
      let same = one_place is.span too.span is.word too.word is.left too.left rest other is.range_is.spelling too.range_is.spelling is.place too.place is.range_is.spelled too.range_is.spelled in
      let moved = subst (λ word. IsPlainRange too.span word b) (sym same.1) too.range_is in
      (one_plain_range is.span is.word a b is.range_is (subst (λ span. IsPlainRange span is.word b) (sym same.0) moved), same.3)

  pub no_range_misfit : (range : Range) (rest : List ℕ) (fault : TextFault) → IsRange text range rest → ¬ IsRangeMisfit text fault
  no_range_misfit range rest fault read misfit =
      let is = read_at range rest read in
      elim (faulty_at fault misfit) [
        | inl too ↦
            (let same = one_place is.span too.span is.word too.word is.left too.left rest too.rest is.range_is.spelling too.misfit.spelling is.place too.place is.range_is.spelled too.misfit.spelled in
            no_range_fault is.span is.word range too.inside is.range_is (subst (λ word. IsRangeFault word too.inside) (sym same.1) too.misfit))
        | inr (inl none) ↦ not_numberless is.span is.word is.left rest is.range_is.spelling fault is.place is.range_is.spelled none
        | inr (inr none) ↦ not_rangeless is.span is.word is.left rest is.range_is.spelling fault is.place is.range_is.spelled none
      ]

  -- a fault of a range and another are one
  same_misfit : (a b : TextFault) → IsFaulty text a ⊎ (IsNumberless text a ⊎ IsRangeless text a) → IsFaulty text b ⊎ (IsNumberless text b ⊎ IsRangeless text b) → a ≡ b
  same_misfit a b (inl is) (inl too) =
      let same = one_place is.span too.span is.word too.word is.left too.left is.rest too.rest is.misfit.spelling too.misfit.spelling is.place too.place is.misfit.spelled too.misfit.spelled in
      let inside = one_range_fault is.word is.inside too.inside is.misfit (subst (λ word. IsRangeFault word too.inside) (sym same.1) too.misfit) in
      is.fault_is ∙ ap (λ left. fault_in left is.inside) same.2 ∙ ap (fault_in too.left) inside ∙ sym too.fault_is
  same_misfit a b (inl is) (inr (inl none)) = absurd (not_numberless is.span is.word is.left is.rest is.misfit.spelling b is.place is.misfit.spelled none)
  same_misfit a b (inl is) (inr (inr none)) = absurd (not_rangeless is.span is.word is.left is.rest is.misfit.spelling b is.place is.misfit.spelled none)
  same_misfit a b (inr (inl none)) (inl is) = absurd (not_numberless is.span is.word is.left is.rest is.misfit.spelling a is.place is.misfit.spelled none)
  same_misfit a b (inr (inr none)) (inl is) = absurd (not_rangeless is.span is.word is.left is.rest is.misfit.spelling a is.place is.misfit.spelled none)
  same_misfit a b (inr (inl is)) (inr (inl too)) =
      is.fault_is ∙ ap (λ front. record { left = length front; kind = NotANumber }) (one_apart is.front too.front is.span too.span is.apart too.apart).0 ∙ sym too.fault_is
  same_misfit a b (inr (inl is)) (inr (inr too)) = absurd (omega (arith, is.some, ap length (one_apart is.front [] is.span too.span is.apart too.apart).0))
  same_misfit a b (inr (inr is)) (inr (inl too)) = absurd (omega (arith, too.some, ap length (one_apart too.front [] too.span is.span too.apart is.apart).0))
  same_misfit a b (inr (inr is)) (inr (inr too)) = is.fault_is ∙ sym too.fault_is

  pub one_range_misfit : (a b : TextFault) → IsRangeMisfit text a → IsRangeMisfit text b → a ≡ b
  one_range_misfit a b first second = same_misfit a b (faulty_at a first) (faulty_at b second)
