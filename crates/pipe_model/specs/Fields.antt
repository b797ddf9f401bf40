-- Fields of SPECS, and where they go in the output.
use Rattle.std.specs.Prelude.{ℕ, suc, ◌+◌, ◌-◌, ◌/◌, ◌==◌, Bool, true, false, if◌then◌else◌, List, [], ◌++◌, length, take, drop, replicate}
use Rattle.std.specs.declared.option.Option.{Option}
use Rattle.std.specs.declared.option.Option.TheVariants.{Some, None}
use Rattle.pipe_model.specs.declared.items.Convert.{Convert}
use Rattle.pipe_model.specs.declared.items.Convert.TheVariants.{C2x, X2c}
use Rattle.pipe_model.specs.declared.items.Spot.{Spot}
use Rattle.pipe_model.specs.declared.items.Spot.TheVariants.{Column, Next, NextWord}
use Rattle.pipe_model.specs.declared.items.Align.{Align}
use Rattle.pipe_model.specs.declared.items.Align.TheVariants.{Left, Center, Right}
use Rattle.pipe_model.specs.Numbers.{to_hex, from_hex, without_blanks}

-- STRIP
abbrev pub field_stripped : Bool → List ℕ → List ℕ
field_stripped true field = without_blanks field
field_stripped false field = field

-- C2X and X2C; none where the field can't be converted
abbrev pub converted : Option Convert → List ℕ → Option (List ℕ)
converted None field = Some field
converted (Some C2x) field = Some (to_hex field)
converted (Some X2c) field = from_hex field

-- the field, filled or cut to a length: at its right, at both sides with the odd byte at the right, or at its left
abbrev pub aligned : Align → ℕ → ℕ → List ℕ → List ℕ
aligned Left pad len field = take len (field ++ replicate len pad)
aligned Center pad len field = take len (replicate ((len - length field) / 2) pad ++ drop ((length field - len) / 2) field ++ replicate len pad)
aligned Right pad len field = drop (length field) (replicate len pad ++ field)

-- without a length the alignment has no effect
abbrev pub fitted : Align → ℕ → Option ℕ → List ℕ → List ℕ
fitted align pad None field = field
fitted align pad (Some len) field = aligned align pad len field

abbrev pub length_of : Spot → Option ℕ
length_of (Column first len) = len
length_of (Next len) = len
length_of (NextWord len) = len

-- how many bytes of the output stand before the place
abbrev pub start_of : Spot → List ℕ → ℕ
start_of (Column first len) output = first - 1
start_of (Next len) output = length output
start_of (NextWord len) output = if length output == 0 then 0 else suc (length output)

-- the output, filled up to the start, and overwritten by the field from there; an empty field changes nothing
abbrev pub overwritten : ℕ → ℕ → List ℕ → List ℕ → List ℕ
overwritten pad start [] output = output
overwritten pad start field output = take start output ++ replicate (start - length output) pad ++ field ++ drop (start + length field) output

-- the output with the field in its place
abbrev pub placed : Spot → Align → ℕ → List ℕ → List ℕ → List ℕ
placed spot align pad field output = overwritten pad (start_of spot output) (fitted align pad (length_of spot) field) output
