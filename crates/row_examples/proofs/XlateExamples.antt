-- XLATE.
use Rattle.std.specs.Prelude.{◌≡◌, [], ◌∷◌, codes, refl}
use Rattle.pipe_model.specs.declared.kind.Kind.TheVariants.{Xlate}
use Rattle.pipe_model.specs.declared.kind.Mapping.TheVariants.{Upper, Lower, Bytes}
use Rattle.pipe_model.specs.Row.Act.{Writes}
use Rattle.row_examples.specs.Acts.{acts_over, records, one, to, takes}

-- ASCII letters become upper case, and only these
upper : acts_over (Xlate Upper) one (records "abc XYZ|@az`{[") ≡ to 0 "ABC XYZ" ∷ takes ∷ to 0 "@AZ`{[" ∷ takes ∷ []
upper = refl

-- or lower case
lower : acts_over (Xlate Lower) one (records "ABC xyz|@AZ[`{") ≡ to 0 "abc xyz" ∷ takes ∷ to 0 "@az[`{" ∷ takes ∷ []
lower = refl

-- byte i of the first string becomes byte i of the second
by_place : acts_over (Xlate (Bytes (codes "abc") (codes "xyz"))) one (records "cab d") ≡ to 0 "zxy d" ∷ takes ∷ []
by_place = refl

-- the first place of a byte counts
first_place : acts_over (Xlate (Bytes (codes "aa") (codes "xy"))) one (records "aba") ≡ to 0 "xbx" ∷ takes ∷ []
first_place = refl

-- a byte is mapped once
once : acts_over (Xlate (Bytes (codes "ab") (codes "bc"))) one (records "ab") ≡ to 0 "bc" ∷ takes ∷ []
once = refl

-- two bytes may be exchanged
exchanged : acts_over (Xlate (Bytes (codes "ab") (codes "ba"))) one (records "abba") ≡ to 0 "baab" ∷ takes ∷ []
exchanged = refl

-- an empty record stays
empty : acts_over (Xlate Upper) one (records "") ≡ to 0 "" ∷ takes ∷ []
empty = refl

-- bytes above those of ASCII stay
above_ascii : acts_over (Xlate Lower) one ((200 ∷ 65 ∷ 255 ∷ 0 ∷ []) ∷ []) ≡ Writes 0 (200 ∷ 97 ∷ 255 ∷ 0 ∷ []) ∷ takes ∷ []
above_ascii = refl

-- any byte may be mapped to any
any_byte : acts_over (Xlate (Bytes (0 ∷ 255 ∷ []) (255 ∷ 10 ∷ []))) one ((0 ∷ 1 ∷ 255 ∷ []) ∷ []) ≡ Writes 0 (255 ∷ 1 ∷ 10 ∷ []) ∷ takes ∷ []
any_byte = refl
