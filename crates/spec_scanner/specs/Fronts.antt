-- How the byte at the front of a body is read.
use Rattle.std.specs.Prelude.{ℕ, ◌==◌, if◌then◌else◌, option_map}
use Rattle.std.specs.declared.option.Option.{Option}
use Rattle.std.specs.declared.option.Option.TheVariants.{Some}
use Rattle.spec_scanner.specs.declared.body.Front.{Front}
use Rattle.spec_scanner.specs.declared.item.Reading.{Reading}
use Rattle.spec_scanner.specs.declared.item.Reading.TheVariants.{Plain, Literal, Separator, End}
use Rattle.spec_scanner.specs.declared.signs.Signs.{Signs}
use Rattle.spec_scanner.specs.Body.{is_sign, parts}

-- a byte that is read so, from a spelling of so many bytes
abbrev pub front : ℕ → Reading → ℕ → Front
front byte reading size = record { byte = byte; reading = reading; size = size }

-- the byte at the front where this byte follows, if any; an escape character with nothing after it is no item
abbrev pub front_of : Signs → ℕ → Option ℕ → Option Front
front_of signs byte next =
    if is_sign signs.escape byte then option_map (λ escaped. front escaped Literal 2) next
    else if parts signs byte then Some (
    if is_sign next byte then front byte Literal 2
    else if signs.separator == byte then front byte Separator 1
    else front byte End 1)
    else Some (front byte Plain 1)
