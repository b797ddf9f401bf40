-- Outcomes, their statuses and their texts.
use Rattle.std.specs.Prelude.{ℕ, ◌==◌, if◌then◌else◌, List, [], ◌∷◌, ◌++◌, codes, decimal}
use Rattle.std.specs.Fmt.{signed_decimal}
use Rattle.call_meaning.specs.declared.status.Status.{Status}
use Rattle.call_meaning.specs.declared.status.Status.TheVariants.{Zero, Coded, SpecRefused, Stalled, Spent, ReadFault, WriteFault, ShelfFault, NoMemory, Usage, InputTooLarge, JournalRefused, SomeSet, SetsRefused}
use Rattle.call_meaning.specs.declared.status.Outcome.{Outcome}
use Rattle.call_meaning.specs.declared.status.Outcome.TheVariants as Was
use Rattle.spec_scanner.specs.declared.fault.SpecFaultKind.TheVariants.{BadArguments}
use Rattle.spec_scanner.specs.Faults as Faults

-- the exit status of the program
abbrev pub number_of : Status → ℕ
number_of Zero = 0
number_of Coded = 1
number_of SpecRefused = 2
number_of Stalled = 3
number_of Spent = 4
number_of ReadFault = 5
number_of WriteFault = 6
number_of ShelfFault = 7
number_of NoMemory = 8
number_of Usage = 9
number_of InputTooLarge = 10
number_of JournalRefused = 11
number_of SomeSet = 14
number_of SetsRefused = 15

-- a line with its line feed
abbrev pub line : List ℕ → List ℕ
line bytes = bytes ++ 10 ∷ []

-- the number of a fault of a specification; a fault of arguments has a number of its own after a point
abbrev pub fault_number : ℕ → ℕ → List ℕ
fault_number number argument = decimal number ++ (if number == Faults.number_of BadArguments then codes "." ++ decimal argument else [])

-- how the program is called
abbrev pub usage : List ℕ
usage = codes "usage: pipe SPEC [--workers N] [--steps N] [--trace NAME] [--check NAME] [--lint] | pipe --sample N | pipe --sets NAME"

-- what an outcome tells: the status that is answered, and the text on standard error
pub record Facts : Type 0 where
  pub status : Status
  pub text : List ℕ

abbrev pub facts : Status → List ℕ → Facts
facts status text = record { status = status; text = text }

abbrev pub facts_of : Outcome → Facts
facts_of Was.Done = facts Zero []
facts_of (Was.Coded code) = facts Coded (line (codes "code " ++ signed_decimal code))
facts_of (Was.SpecRefused number argument place) = facts SpecRefused (line (codes "spec " ++ (fault_number number argument ++ (codes " at " ++ decimal place))))
facts_of (Was.Stalled lines) = facts Stalled (line (codes "stall") ++ (lines ++ line (codes "code -4095")))
facts_of (Was.Spent steps) = facts Spent (line (codes "spent " ++ decimal steps))
facts_of Was.ReadFault = facts ReadFault (line (codes "read fault"))
facts_of Was.WriteFault = facts WriteFault (line (codes "write fault"))
facts_of (Was.ShelfFault name) = facts ShelfFault (line (codes "shelf fault " ++ name))
facts_of Was.NoMemory = facts NoMemory (line (codes "out of memory"))
facts_of Was.Usage = facts Usage (line usage)
facts_of Was.InputTooLarge = facts InputTooLarge (line (codes "input too large"))
facts_of Was.JournalAbsent = facts JournalRefused (line (codes "journal absent"))
facts_of (Was.JournalLine number) = facts JournalRefused (line (codes "journal line " ++ decimal number))
facts_of (Was.JournalEntry number) = facts JournalRefused (line (codes "journal entry " ++ decimal number))
facts_of (Was.SomeSet lines) = facts SomeSet lines
facts_of Was.SetsAbsent = facts SetsRefused (line (codes "sets absent"))
facts_of (Was.SetsLine number) = facts SetsRefused (line (codes "sets line " ++ decimal number))

abbrev pub status_of : Outcome → Status
status_of outcome = (facts_of outcome).status

abbrev pub text_of : Outcome → List ℕ
text_of outcome = (facts_of outcome).text
