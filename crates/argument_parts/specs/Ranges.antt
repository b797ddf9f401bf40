-- How a range of numbers is spelled: n, n-m, n-* or n.len.
use Rattle.std.specs.Prelude.{◌≡◌, ℕ, List, [], ◌∷◌, ◌++◌}
use Rattle.argument_parts.specs.Numbers.{IsNumber}
use Rattle.argument_parts.specs.declared.ranges.Ending.{Ending}
use Rattle.argument_parts.specs.declared.ranges.Ending.TheVariants.{Alone, To, Open, Long}
use Rattle.argument_parts.specs.declared.ranges.Spelling.{Spelling}

-- what is spelled after the first number
abbrev pub Ends : List ℕ → Ending → Type 0
Ends after Alone = after ≡ []
Ends after (To last) = (digits : List ℕ) × (after ≡ 45 ∷ digits) × IsNumber digits last
Ends after Open = after ≡ 45 ∷ 42 ∷ []
Ends after (Long len) = (digits : List ℕ) × (after ≡ 46 ∷ digits) × IsNumber digits len

-- the word is a number and what is spelled after it
pub record IsSpelling (word : List ℕ) (spelling : Spelling) : Type 0 where
  pub number : List ℕ
  pub after : List ℕ
  pub spells : word ≡ number ++ after
  pub counts : IsNumber number spelling.first
  pub ends : Ends after spelling.ending
