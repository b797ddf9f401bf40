-- What a reading of a part of a call's words gives.
use Rattle.std.specs.Prelude.{◌≡◌, Option, Some, None, Ok, Err, IsSome}
use Rattle.std.specs.declared.result.Result.{Result}
use Rattle.call_words.specs.declared.command.WordsFault.{WordsFault}
use Rattle.call_words.specs.declared.command.WordsFault.TheVariants.{Usage, NoMemory}

-- the value; Usage where there is none, and want of memory only where there is one
abbrev pub Gives : {T : Type 0} → Option T → Result T WordsFault → Type 0
Gives value (Ok given) = value ≡ Some given
Gives value (Err Usage) = value ≡ None
Gives value (Err NoMemory) = IsSome value
