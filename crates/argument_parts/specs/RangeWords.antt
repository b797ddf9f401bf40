-- A range at the front of a text, with or without a word before its numbers, and its faults.
use Rattle.std.specs.Prelude.{◌≡◌, ℕ, ◌-◌, ◌<◌, List, [], ◌++◌, length, ◌⊎◌}
use Rattle.pipe_model.specs.declared.range.Span.{Span}
use Rattle.pipe_model.specs.declared.range.Span.TheVariants.{Columns}
use Rattle.pipe_model.specs.declared.range.Range.{Range}
use Rattle.argument_parts.specs.declared.fault.FaultKind.TheVariants.{Missing, NotANumber}
use Rattle.argument_parts.specs.declared.part.TextFault.{TextFault}
use Rattle.argument_parts.specs.declared.ranges.Spelling.{Spelling}
use Rattle.argument_parts.specs.declared.spelled.WordFault.{WordFault}
use Rattle.argument_parts.specs.PlainRanges.{IsPlainRange, IsRangeFault}
use Rattle.argument_parts.specs.Ranges.{IsSpelling}
use Rattle.argument_parts.specs.SpanNames.{IsSpanName}
use Rattle.pipe_model.specs.Words.{IsFirstWord, IsUnblanked}

-- the first word of the text is a word that says what is counted, and numbers
pub record IsJoined (text name numbers rest : List ℕ) (span : Span) : Type 0 where
  pub word : List ℕ
  pub first : IsFirstWord text word rest
  pub spells : word ≡ name ++ numbers
  pub names : IsSpanName name span

-- the first word of the text says what is counted, and this comes after it and its blanks
pub record IsApart (text front : List ℕ) (span : Span) : Type 0 where
  pub name : List ℕ
  pub after : List ℕ
  pub first : IsFirstWord text name after
  pub names : IsSpanName name span
  pub unblanked : IsUnblanked after front

-- the first word of the text says what is counted, and this comes after it
pub record IsNamed (text after : List ℕ) (span : Span) : Type 0 where
  pub name : List ℕ
  pub first : IsFirstWord text name after
  pub names : IsSpanName name span

-- the text is a range of columns and the rest
pub record IsBareRange (text : List ℕ) (range : Range) (rest : List ℕ) : Type 0 where
  pub word : List ℕ
  pub first : IsFirstWord text word rest
  pub range_is : IsPlainRange Columns word range

-- the text is a word with the numbers of a range in it, and the rest
pub record IsJoinedRange (text : List ℕ) (range : Range) (rest : List ℕ) : Type 0 where
  pub name : List ℕ
  pub numbers : List ℕ
  pub span : Span
  pub joined : IsJoined text name numbers rest span
  pub range_is : IsPlainRange span numbers range

-- the text is a word, the numbers of a range as a word of their own, and the rest
pub record IsApartRange (text : List ℕ) (range : Range) (rest : List ℕ) : Type 0 where
  pub front : List ℕ
  pub word : List ℕ
  pub span : Span
  pub apart : IsApart text front span
  pub first : IsFirstWord front word rest
  pub range_is : IsPlainRange span word range

-- the text is a range and the rest
abbrev pub IsRange : List ℕ → Range → List ℕ → Type 0
IsRange text range rest = IsBareRange text range rest ⊎ (IsJoinedRange text range rest ⊎ IsApartRange text range rest)

-- a fault of a word that begins where so many bytes are left of the text
abbrev pub fault_in : ℕ → WordFault → TextFault
fault_in left fault = record { left = left - fault.at; kind = fault.kind }

-- a word that begins where so many bytes are left of the text spells a range that has this fault
pub record IsWordFault (word : List ℕ) (left : ℕ) (fault : TextFault) : Type 0 where
  pub inside : WordFault
  pub misfit : IsRangeFault word inside
  pub fault_is : fault ≡ fault_in left inside

pub record IsBareRangeFault (text : List ℕ) (fault : TextFault) : Type 0 where
  pub word : List ℕ
  pub rest : List ℕ
  pub first : IsFirstWord text word rest
  pub inside : WordFault
  pub misfit : IsRangeFault word inside
  pub fault_is : fault ≡ fault_in (length text) inside

pub record IsJoinedRangeFault (text : List ℕ) (fault : TextFault) : Type 0 where
  pub name : List ℕ
  pub numbers : List ℕ
  pub rest : List ℕ
  pub span : Span
  pub joined : IsJoined text name numbers rest span
  pub inside : WordFault
  pub misfit : IsRangeFault numbers inside
  pub fault_is : fault ≡ fault_in (length text - length name) inside

pub record IsApartRangeFault (text : List ℕ) (fault : TextFault) : Type 0 where
  pub front : List ℕ
  pub word : List ℕ
  pub rest : List ℕ
  pub span : Span
  pub apart : IsApart text front span
  pub first : IsFirstWord front word rest
  pub inside : WordFault
  pub misfit : IsRangeFault word inside
  pub fault_is : fault ≡ fault_in (length front) inside

-- after the word that says what is counted no number comes
pub record IsNumberless (text : List ℕ) (fault : TextFault) : Type 0 where
  pub front : List ℕ
  pub word : List ℕ
  pub rest : List ℕ
  pub span : Span
  pub apart : IsApart text front span
  pub some : 0 < length front
  pub first : IsFirstWord front word rest
  pub other : (spelling : Spelling) → ¬ IsSpelling word spelling
  pub fault_is : fault ≡ record { left = length front; kind = NotANumber }

-- after the word that says what is counted nothing comes
pub record IsRangeless (text : List ℕ) (fault : TextFault) : Type 0 where
  pub span : Span
  pub apart : IsApart text [] span
  pub fault_is : fault ≡ record { left = 0; kind = Missing }

-- the text begins as a range does and isn't one, for this reason
abbrev pub IsRangeMisfit : List ℕ → TextFault → Type 0
IsRangeMisfit text fault = IsBareRangeFault text fault ⊎ (IsJoinedRangeFault text fault ⊎ (IsApartRangeFault text fault ⊎ (IsNumberless text fault ⊎ IsRangeless text fault)))

-- the text doesn't begin as a range does
pub record IsNoRange (text : List ℕ) : Type 0 where
  pub none : (range : Range) (rest : List ℕ) → ¬ IsRange text range rest
  pub no_misfit : (fault : TextFault) → ¬ IsRangeMisfit text fault

-- the first word of the text spells no range
abbrev pub IsUnspelled : List ℕ → Type 0
IsUnspelled text = (word rest : List ℕ) (spelling : Spelling) → IsFirstWord text word rest → ¬ IsSpelling word spelling
