-- Where SPECS puts a field: a column as n, n-m or n.len, or NEXT or NEXTWORD, also with .len.
use Rattle.std.specs.Prelude.{◌≡◌, ◌≢◌, ℕ, suc, ◌+◌, ◌-◌, ◌≤◌, ◌⊎◌, ⊤, Bool, true, false, List, [], ◌∷◌, ◌++◌, length, codes}
use Rattle.std.specs.Str.{str_to_ascii_lowercase}
use Rattle.std.specs.declared.option.Option.{Option}
use Rattle.std.specs.declared.option.Option.TheVariants.{Some, None}
use Rattle.pipe_model.specs.declared.items.Spot.{Spot}
use Rattle.pipe_model.specs.declared.items.Spot.TheVariants.{Column, Next, NextWord}
use Rattle.pipe_model.specs.Words.{IsFirstWord}
use Rattle.argument_parts.specs.declared.bounds.Misfit.{Misfit}
use Rattle.argument_parts.specs.declared.fault.FaultKind.TheVariants.{OutOfRange}
use Rattle.argument_parts.specs.declared.part.TextFault.{TextFault}
use Rattle.argument_parts.specs.declared.ranges.Ending.{Ending}
use Rattle.argument_parts.specs.declared.ranges.Ending.TheVariants.{Alone, To, Open, Long}
use Rattle.argument_parts.specs.declared.ranges.Spelling.{Spelling}
use Rattle.argument_parts.specs.Bounds.{Fits, IsMisfit}
use Rattle.argument_parts.specs.Numbers.{IsNumber}
use Rattle.argument_parts.specs.PlainRanges.{fault_of}
use Rattle.argument_parts.specs.Ranges.{IsSpelling}
use Rattle.argument_parts.specs.RangeWords.{fault_in}

-- A column

-- the length of the field, by what is spelled after its column
abbrev pub IsColumnLength : ℕ → Ending → Option ℕ → Type 0
IsColumnLength first Alone len = len ≡ None
IsColumnLength first (To last) len = Fits last × (first ≤ last) × (len ≡ Some (suc last - first))
IsColumnLength first Open len = ⊥
IsColumnLength first (Long n) len = Fits n × (len ≡ Some n)

-- the first word of the text is a column, with a length or without one, and the rest
pub record IsColumn (text : List ℕ) (first : ℕ) (len : Option ℕ) (rest : List ℕ) : Type 0 where
  pub word : List ℕ
  pub first_is : IsFirstWord text word rest
  pub spelling : Spelling
  pub spelled : IsSpelling word spelling
  pub fits : Fits spelling.first
  pub begins : first ≡ spelling.first
  pub ends : IsColumnLength spelling.first spelling.ending len

-- the first word of the text is spelled as a column, and its numbers have this fault
pub record IsColumnFault (text : List ℕ) (fault : TextFault) : Type 0 where
  pub word : List ℕ
  pub rest : List ℕ
  pub first_is : IsFirstWord text word rest
  pub spelling : Spelling
  pub spelled : IsSpelling word spelling
  pub closed : spelling.ending ≢ Open
  pub misfit : Misfit
  pub misfits : IsMisfit spelling misfit
  pub fault_is : fault ≡ fault_in (length text) (fault_of (length spelled.number + 1) misfit)

-- NEXT and NEXTWORD

-- the word, in any case, is NEXT, or else NEXTWORD, which leaves a gap; each has a short form
abbrev pub IsNextName : List ℕ → Bool → Type 0
IsNextName word false = (str_to_ascii_lowercase word ≡ codes "next") ⊎ (str_to_ascii_lowercase word ≡ codes "n")
IsNextName word true = (str_to_ascii_lowercase word ≡ codes "nextword") ⊎ (str_to_ascii_lowercase word ≡ codes "nw")

-- a length as it is spelled after the name, of any number
abbrev pub IsLength : List ℕ → Option ℕ → Type 0
IsLength after None = after ≡ []
IsLength after (Some len) = (digits : List ℕ) × (after ≡ 46 ∷ digits) × IsNumber digits len

-- the word is NEXT or NEXTWORD, and a length or none
pub record IsNextSpelling (word : List ℕ) (apart : Bool) (len : Option ℕ) : Type 0 where
  pub name : List ℕ
  pub after : List ℕ
  pub spells : word ≡ name ++ after
  pub names : IsNextName name apart
  pub ends : IsLength after len

abbrev pub FitsLength : Option ℕ → Type 0
FitsLength None = ⊤
FitsLength (Some len) = Fits len

-- the first word of the text is NEXT or NEXTWORD, with a length or without one, and the rest
pub record IsNextPlace (text : List ℕ) (apart : Bool) (len : Option ℕ) (rest : List ℕ) : Type 0 where
  pub word : List ℕ
  pub first_is : IsFirstWord text word rest
  pub spelled : IsNextSpelling word apart len
  pub fits : FitsLength len

-- the same with a length out of range, which is a fault at its first digit
pub record IsNextFault (text : List ℕ) (fault : TextFault) : Type 0 where
  pub word : List ℕ
  pub rest : List ℕ
  pub first_is : IsFirstWord text word rest
  pub apart : Bool
  pub len : ℕ
  pub spelled : IsNextSpelling word apart (Some len)
  pub outside : ¬ Fits len
  pub fault_is : fault ≡ record { left = length text - (length spelled.name + 1); kind = OutOfRange }

-- A place

-- the text is the place and the rest
abbrev pub IsSpot : List ℕ → Spot → List ℕ → Type 0
IsSpot text (Column first len) rest = IsColumn text first len rest
IsSpot text (Next len) rest = IsNextPlace text false len rest
IsSpot text (NextWord len) rest = IsNextPlace text true len rest

-- the text begins as a place does and isn't one, for this reason
abbrev pub IsSpotMisfit : List ℕ → TextFault → Type 0
IsSpotMisfit text fault = IsColumnFault text fault ⊎ IsNextFault text fault

-- the text doesn't begin as a place does
pub record IsNoSpot (text : List ℕ) : Type 0 where
  pub none : (spot : Spot) (rest : List ℕ) → ¬ IsSpot text spot rest
  pub no_misfit : (fault : TextFault) → ¬ IsSpotMisfit text fault
