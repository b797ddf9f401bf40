-- The numbers of the faults of arguments.
use Rattle.std.specs.Prelude.{ℕ}
use Rattle.argument_parts.specs.declared.fault.FaultKind.{FaultKind}
use Rattle.argument_parts.specs.declared.fault.FaultKind.TheVariants.{Missing, Extra, NotANumber, OutOfRange, Unclosed, EmptyString, UnknownWord, BadHex, Reversed}

-- the number of a fault
abbrev pub number_of : FaultKind → ℕ
number_of Missing = 1
number_of Extra = 2
number_of NotANumber = 3
number_of OutOfRange = 4
number_of Unclosed = 5
number_of EmptyString = 6
number_of UnknownWord = 7
number_of BadHex = 8
number_of Reversed = 9
