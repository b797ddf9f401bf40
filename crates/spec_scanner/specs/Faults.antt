-- The faults of a specification, each with its number and its place, and the least of them.
use Rattle.std.specs.Prelude.{◌≡◌, ℕ, ◌<◌, ◌≤◌, ◌==◌, ◌&&◌, ◌||◌, Bool, not, if◌then◌else◌, nat_lt, List, [], ◌⊎◌, MatchOption}
use Rattle.std.specs.List.{Contains}
use Rattle.std.specs.declared.option.Option.{Option}
use Rattle.std.specs.declared.option.Option.TheVariants.{Some, None}
use Rattle.spec_scanner.specs.declared.fault.Fault.{Fault}
use Rattle.spec_scanner.specs.declared.fault.SpecFaultKind.{SpecFaultKind}
use Rattle.spec_scanner.specs.declared.fault.SpecFaultKind.TheVariants.{NoPiece, EmptyStage, BadOption, OpenOptions, BadValue, LabelTwice, UnknownLabel, BadLabel, LoneEscape, TooLong, UnknownStage, BadArguments, NoSuchStream, NotFirst, SecondConsole, TooManyStages, MisplacedConnector, SecondFile}

-- the number under which a fault is reported
abbrev pub number_of : SpecFaultKind → ℕ
number_of NoPiece = 1
number_of EmptyStage = 2
number_of BadOption = 3
number_of OpenOptions = 4
number_of BadValue = 5
number_of LabelTwice = 6
number_of UnknownLabel = 7
number_of BadLabel = 8
number_of LoneEscape = 9
number_of TooLong = 10
number_of UnknownStage = 11
number_of BadArguments = 12
number_of NoSuchStream = 13
number_of NotFirst = 14
number_of SecondConsole = 15
number_of TooManyStages = 16
number_of MisplacedConnector = 17
number_of SecondFile = 18

-- a fault that isn't of an argument
abbrev pub fault : SpecFaultKind → ℕ → Fault
fault kind place = record { number = number_of kind; argument = 0; place = place }

-- the first fault stands further left, or is at the same place and of no greater number
abbrev pub IsBefore : Fault → Fault → Type 0
IsBefore a b = (a.place < b.place) ⊎ ((a.place ≡ b.place) × (a.number ≤ b.number))

-- the fault is one of these, and before all of them
pub record IsLeast (least : Fault) (faults : List Fault) : Type 0 where
  pub among : Contains faults least
  pub before : (other : Fault) → Contains faults other → IsBefore least other

-- a fault found before is the least of these faults, or there is none
abbrev pub IsLeastSo : Option Fault → List Fault → Type 0
IsLeastSo found faults = MatchOption found (faults ≡ []) (λ least. IsLeast least faults)

-- the fault stands before the other
abbrev pub is_before : Fault → Fault → Bool
is_before a b = nat_lt a.place b.place || ((a.place == b.place) && not (nat_lt b.number a.number))

-- the first of a fault found before, if any, and another one
abbrev pub least : Option Fault → Fault → Fault
least None other = other
least (Some found) other = if is_before found other then found else other
