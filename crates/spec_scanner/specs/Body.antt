-- The body of a specification as the spelling of items.
use Rattle.std.specs.Prelude.{◌≡◌, ◌≢◌, ℕ, ◌+◌, ◌==◌, ◌||◌, Bool, true, false, List, [], ◌∷◌, ◌++◌, length, slice_get, ◌⊎◌, ⊤}
use Rattle.std.specs.Option.{option_map_or}
use Rattle.std.specs.declared.option.Option.{Option}
use Rattle.std.specs.declared.option.Option.TheVariants.{Some}
use Rattle.spec_scanner.specs.declared.signs.Signs.{Signs}
use Rattle.spec_scanner.specs.declared.item.Item.{Item}
use Rattle.spec_scanner.specs.declared.item.Reading.{Reading}
use Rattle.spec_scanner.specs.declared.item.Reading.TheVariants.{Plain, Literal, Separator, End}

-- the byte is this character, if there is one
abbrev pub is_sign : Option ℕ → ℕ → Bool
is_sign sign byte = option_map_or (λ b. b == byte) sign false

-- the byte is the separator or the end character
abbrev pub parts : Signs → ℕ → Bool
parts signs byte = (signs.separator == byte) || is_sign signs.end byte

-- how an item of this byte and this reading is spelled
abbrev pub Spells : Signs → Reading → ℕ → List ℕ → Type 0
Spells signs Plain byte spelling = (spelling ≡ byte ∷ []) × (parts signs byte ≡ false) × (is_sign signs.escape byte ≡ false)
Spells signs Literal byte spelling =
    ((escape : ℕ) × (signs.escape ≡ Some escape) × (spelling ≡ escape ∷ (byte ∷ [])))
    ⊎ ((parts signs byte ≡ true) × (spelling ≡ byte ∷ (byte ∷ [])))
Spells signs Separator byte spelling = (spelling ≡ byte ∷ []) × (signs.separator ≡ byte)
Spells signs End byte spelling = (spelling ≡ byte ∷ []) × (signs.end ≡ Some byte)

-- after a separator or an end character that parts, the same character doesn't come
abbrev pub IsAlone : Reading → ℕ → List ℕ → Type 0
IsAlone Plain byte rest = ⊤
IsAlone Literal byte rest = ⊤
IsAlone Separator byte rest = slice_get rest 0 ≢ Some byte
IsAlone End byte rest = slice_get rest 0 ≢ Some byte

-- the text, which begins at a place, is the item and the rest
pub record IsItem (signs : Signs) (at : ℕ) (text : List ℕ) (item : Item) (rest : List ℕ) : Type 0 where
  pub spelling : List ℕ
  pub text_is : text ≡ spelling ++ rest
  pub spells : Spells signs item.reading item.byte spelling
  pub place_is : item.place ≡ at
  pub after_is : item.after ≡ at + length spelling
  pub alone : IsAlone item.reading item.byte rest

-- nothing is left, or an escape character with nothing after it
abbrev pub IsTail : Signs → List ℕ → Type 0
IsTail signs [] = ⊤
IsTail signs (byte ∷ []) = signs.escape ≡ Some byte
IsTail signs (byte ∷ (next ∷ bytes)) = ⊥

-- the text, which begins at a place, is these items and a tail
abbrev pub IsBody : Signs → ℕ → List ℕ → List Item → List ℕ → Type 0
IsBody signs at text [] tail = (text ≡ tail) × IsTail signs tail
IsBody signs at text (item ∷ items) tail = (rest : List ℕ) × IsItem signs at text item rest × IsBody signs item.after rest items tail
