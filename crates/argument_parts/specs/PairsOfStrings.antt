-- Strings that may be empty, and two strings that share a delimiter.
use Rattle.std.specs.Prelude.{◌≡◌, ℕ, ◌<◌, ◌⊎◌, true, List, [], ◌∷◌, ◌++◌, length}
use Rattle.std.specs.List.{Contains}
use Rattle.argument_parts.specs.declared.fault.FaultKind.TheVariants.{Missing, Unclosed, UnknownWord, BadHex}
use Rattle.argument_parts.specs.declared.part.TextFault.{TextFault}
use Rattle.argument_parts.specs.Strings.{is_delimiter, IsDelimited, IsUnclosed, IsHexadecimalWord, IsBadHex, IsOtherWord}
use Rattle.pipe_model.specs.Words.{IsUnblanked}

-- the text is a string, which may be empty, and the rest
abbrev pub IsAnyString : List ℕ → List ℕ → List ℕ → Type 0
IsAnyString text string rest = IsDelimited text string rest ⊎ IsHexadecimalWord text string rest

-- the text begins as a string does and isn't one
abbrev pub IsAnyStringMisfit : List ℕ → TextFault → Type 0
IsAnyStringMisfit text fault =
    (IsUnclosed text × (fault ≡ record { left = length text; kind = Unclosed }))
    ⊎ (IsBadHex text × (fault ≡ record { left = length text; kind = BadHex }))

-- the text is a delimiter, a string, the same delimiter, another string, the same delimiter and the rest
pub record AreDelimited (text first second rest : List ℕ) : Type 0 where
  pub delimiter : ℕ
  pub chosen : is_delimiter delimiter ≡ true
  pub first_whole : ¬ Contains first delimiter
  pub second_whole : ¬ Contains second delimiter
  pub spells : text ≡ delimiter ∷ first ++ (delimiter ∷ second ++ (delimiter ∷ rest))

-- the text is a hexadecimal string, and after blanks this
pub record IsHexadecimalBefore (text first front : List ℕ) : Type 0 where
  pub after : List ℕ
  pub hexadecimal : IsHexadecimalWord text first after
  pub unblanked : IsUnblanked after front

-- the text is a hexadecimal string, blanks, another string and the rest
pub record AreApart (text first second rest : List ℕ) : Type 0 where
  pub front : List ℕ
  pub before : IsHexadecimalBefore text first front
  pub string : IsAnyString front second rest

-- the text is two strings and the rest
abbrev pub AreStrings : List ℕ → List ℕ → List ℕ → List ℕ → Type 0
AreStrings text first second rest = AreDelimited text first second rest ⊎ AreApart text first second rest

-- the text begins with a delimiter that doesn't stand twice more
pub record AreUnclosed (text : List ℕ) : Type 0 where
  pub delimiter : ℕ
  pub after : List ℕ
  pub chosen : is_delimiter delimiter ≡ true
  pub spells : text ≡ delimiter ∷ after
  pub none : (first second rest : List ℕ) → ¬ AreDelimited text first second rest

-- after a hexadecimal string comes nothing, or something that isn't a string
pub record IsSecondMisfit (text : List ℕ) (fault : TextFault) : Type 0 where
  pub first : List ℕ
  pub front : List ℕ
  pub before : IsHexadecimalBefore text first front
  pub misfit : ((front ≡ []) × (fault ≡ record { left = 0; kind = Missing }))
      ⊎ ((0 < length front) × (IsAnyStringMisfit front fault ⊎ (IsOtherWord front × (fault ≡ record { left = length front; kind = UnknownWord }))))

-- the text begins as two strings do and isn't two
abbrev pub AreMisfits : List ℕ → TextFault → Type 0
AreMisfits text fault =
    (AreUnclosed text × (fault ≡ record { left = length text; kind = Unclosed }))
    ⊎ ((IsBadHex text × (fault ≡ record { left = length text; kind = BadHex })) ⊎ IsSecondMisfit text fault)
