-- What may come next among the arguments of a stage, and how it is read.
use Rattle.std.specs.Prelude.{◌≡◌, ℕ, ℤ, ◌<◌, List, [], ◌∷◌, length, ◌⊎◌, ⊤}
use Rattle.pipe_model.specs.declared.kind.Times.{Times}
use Rattle.pipe_model.specs.declared.kind.Times.TheVariants.{Only, All}
use Rattle.pipe_model.specs.declared.items.Spot.{Spot}
use Rattle.pipe_model.specs.declared.range.Range.{Range}
use Rattle.argument_parts.specs.declared.fault.FaultKind.{FaultKind}
use Rattle.argument_parts.specs.declared.fault.FaultKind.TheVariants.{Extra, NotANumber, Unclosed, EmptyString, UnknownWord, BadHex}
use Rattle.argument_parts.specs.declared.part.Part.{Part}
use Rattle.argument_parts.specs.declared.part.Part.TheVariants as Asked
use Rattle.argument_parts.specs.declared.part.Value.{Value}
use Rattle.argument_parts.specs.declared.part.Value.TheVariants as Read
use Rattle.argument_parts.specs.declared.part.TextFault.{TextFault}
use Rattle.argument_parts.specs.Bytes.{IsByte, IsLengthFault}
use Rattle.argument_parts.specs.Keywords.{IsKeyword}
use Rattle.argument_parts.specs.NamesOfFiles.{IsName, IsNameMisfit}
use Rattle.argument_parts.specs.NumberWords.{IsNumberIn, IsNumberMisfit}
use Rattle.argument_parts.specs.PairsOfStrings.{IsAnyString, IsAnyStringMisfit, AreStrings, AreMisfits}
use Rattle.argument_parts.specs.RangeWords.{IsRange, IsRangeMisfit, IsBareRange, IsBareRangeFault}
use Rattle.argument_parts.specs.Spots.{IsSpot, IsSpotMisfit}
use Rattle.argument_parts.specs.Strings.{IsString, IsNoString}
use Rattle.argument_parts.specs.WholeNumbers.{IsCounter, IsWholeIn, IsWholeMisfit}
use Rattle.pipe_model.specs.Words.{IsFirstWord, IsUnblanked}

-- One part

-- the first word of the text is `*`, or a number that isn't too great
abbrev pub most_times : ℕ
most_times = 2147483647

abbrev pub AreTimes : List ℕ → Times → List ℕ → Type 0
AreTimes text (Only n) rest = IsNumberIn text 0 most_times n rest
AreTimes text All rest = IsFirstWord text (42 ∷ []) rest

-- the text, which doesn't begin with a blank, is the part, of this value, and the rest
abbrev pub IsPart : Part → List ℕ → Value → List ℕ → Type 0
IsPart Asked.Range text value rest = (range : Range) × (value ≡ Read.Range range) × IsRange text range rest
IsPart Asked.Columns text value rest = (range : Range) × (value ≡ Read.Range range) × IsBareRange text range rest
IsPart Asked.String text value rest = (string : List ℕ) × (value ≡ Read.String string) × IsString text string rest
IsPart Asked.AnyString text value rest = (string : List ℕ) × (value ≡ Read.String string) × IsAnyString text string rest
IsPart Asked.Strings text value rest = (first : List ℕ) × (second : List ℕ) × (value ≡ Read.Strings first second) × AreStrings text first second rest
IsPart Asked.Byte text value rest = (byte : ℕ) × (value ≡ Read.Byte byte) × IsByte text byte rest
IsPart (Asked.Number least most) text value rest = (number : ℕ) × (value ≡ Read.Number number) × IsNumberIn text least most number rest
IsPart Asked.Times text value rest = (times : Times) × (value ≡ Read.Times times) × AreTimes text times rest
IsPart (Asked.Word key) text value rest = (value ≡ Read.Word key) × IsKeyword text key rest
IsPart Asked.Name text value rest = (name : List ℕ) × (value ≡ Read.String name) × IsName text name rest
IsPart Asked.Counter text value rest = (k : ℕ) × (value ≡ Read.Counter k) × IsCounter text k rest
IsPart Asked.Whole text value rest = (number : ℤ) × (value ≡ Read.Whole number) × IsWholeIn text number rest
IsPart Asked.Spot text value rest = (spot : Spot) × (value ≡ Read.Spot spot) × IsSpot text spot rest

-- a string has this fault whatever else may come there
abbrev pub IsOfStrings : FaultKind → Type 0
IsOfStrings kind = (kind ≡ Unclosed) ⊎ ((kind ≡ EmptyString) ⊎ (kind ≡ BadHex))

-- the text has this fault of a string, at its front, whatever else may come there
abbrev pub IsStringMisfit : List ℕ → TextFault → Type 0
IsStringMisfit text fault = (fault.left ≡ length text) × IsOfStrings fault.kind × IsNoString text fault.kind

-- the text begins as the part does and isn't one, for this reason
abbrev pub IsPartMisfit : Part → List ℕ → TextFault → Type 0
IsPartMisfit Asked.Range text fault = IsRangeMisfit text fault
IsPartMisfit Asked.Columns text fault = IsBareRangeFault text fault
IsPartMisfit Asked.String text fault = IsStringMisfit text fault
IsPartMisfit Asked.AnyString text fault = IsAnyStringMisfit text fault
IsPartMisfit Asked.Strings text fault = AreMisfits text fault
IsPartMisfit Asked.Byte text fault = IsStringMisfit text fault ⊎ IsLengthFault text fault
IsPartMisfit (Asked.Number least most) text fault = IsNumberMisfit text least most fault
IsPartMisfit Asked.Times text fault = IsNumberMisfit text 0 most_times fault
IsPartMisfit (Asked.Word key) text fault = ⊥
IsPartMisfit Asked.Name text fault = IsNameMisfit text fault
IsPartMisfit Asked.Counter text fault = ⊥
IsPartMisfit Asked.Whole text fault = IsWholeMisfit text fault
IsPartMisfit Asked.Spot text fault = IsSpotMisfit text fault

-- the text isn't the part
abbrev pub IsNot : Part → List ℕ → Type 0
IsNot part text = (value : Value) (rest : List ℕ) → ¬ IsPart part text value rest

-- the text doesn't begin as the part does
abbrev pub BeginsNot : Part → List ℕ → Type 0
BeginsNot part text = (fault : TextFault) → ¬ IsPartMisfit part text fault

-- neither
abbrev pub IsNoPart : Part → List ℕ → Type 0
IsNoPart part text = IsNot part text × BeginsNot part text

-- Several parts, of which one may come

-- the first of the parts that the text is, of this value, and the rest
abbrev pub IsFirstPart : List Part → List ℕ → Value → List ℕ → Type 0
IsFirstPart [] text value rest = ⊥
IsFirstPart (part ∷ parts) text value rest = IsPart part text value rest ⊎ (IsNot part text × IsFirstPart parts text value rest)

-- the text is none of them
abbrev pub IsNone : List Part → List ℕ → Type 0
IsNone [] text = ⊤
IsNone (part ∷ parts) text = IsNot part text × IsNone parts text

-- the fault of the first of them that the text begins as
abbrev pub IsFirstMisfit : List Part → List ℕ → TextFault → Type 0
IsFirstMisfit [] text fault = ⊥
IsFirstMisfit (part ∷ parts) text fault = IsPartMisfit part text fault ⊎ (BeginsNot part text × IsFirstMisfit parts text fault)

-- the text begins as none of them
abbrev pub BeginsNone : List Part → List ℕ → Type 0
BeginsNone [] text = ⊤
BeginsNone (part ∷ parts) text = BeginsNot part text × BeginsNone parts text

-- the fault of a word that begins as no part
abbrev pub fault_of : Part → FaultKind
fault_of Asked.Range = NotANumber
fault_of Asked.Columns = NotANumber
fault_of (Asked.Number least most) = NotANumber
fault_of Asked.Times = NotANumber
fault_of Asked.Whole = NotANumber
fault_of _ = UnknownWord

-- the last of the parts gives it, and where none may come, the word is too many
abbrev pub fault_of_last : List Part → FaultKind
fault_of_last [] = Extra
fault_of_last (part ∷ []) = fault_of part
fault_of_last (part ∷ (next ∷ parts)) = fault_of_last (next ∷ parts)

-- the text is none of the parts, for this reason
abbrev pub IsMisfitOf : List Part → List ℕ → TextFault → Type 0
IsMisfitOf parts text fault =
    IsNone parts text × (IsFirstMisfit parts text fault ⊎ (BeginsNone parts text × (fault ≡ record { left = length text; kind = fault_of_last parts })))

-- The next argument of a text

-- after blanks the text is one of the parts that may come, and the rest
pub record IsNext (parts : List Part) (text : List ℕ) (value : Value) (rest : List ℕ) : Type 0 where
  pub front : List ℕ
  pub unblanked : IsUnblanked text front
  pub some : 0 < length front
  pub part : IsFirstPart parts front value rest

-- after blanks something comes that is none of the parts that may come
pub record IsNoNext (parts : List Part) (text : List ℕ) (fault : TextFault) : Type 0 where
  pub front : List ℕ
  pub unblanked : IsUnblanked text front
  pub some : 0 < length front
  pub misfit : IsMisfitOf parts front fault

-- nothing comes but blanks
abbrev pub IsAtEnd : List ℕ → Type 0
IsAtEnd text = IsUnblanked text []
