-- CONSOLE, `<`, `>`, LITERAL and HOLE.
use Rattle.std.specs.Prelude.{◌≡◌, false, [], ◌∷◌, pos, codes, refl}
use Rattle.std.specs.declared.option.Option.TheVariants.{Some, None}
use Rattle.pipe_model.specs.declared.kind.Kind.TheVariants.{ConsoleIn, ConsoleOut, FileIn, FileOut, Literal, Hole}
use Rattle.pipe_model.specs.Shape.Keeping.{File}
use Rattle.pipe_model.specs.Table.{form}
use Rattle.row_examples.specs.Acts.{strand, acts_over, records, one, none, to, takes}

-- CONSOLE gives the lines of standard input
console_in : acts_over (ConsoleIn (codes "ab\ncd\nb")) one [] ≡ to 0 "ab" ∷ to 0 "cd" ∷ to 0 "b" ∷ []
console_in = refl

-- no line of an empty input, and one empty line of a line feed
console_line_feed : acts_over (ConsoleIn (codes "\n")) one [] ≡ to 0 "" ∷ []
console_line_feed = refl

-- a last line feed begins no further line
console_ended : acts_over (ConsoleIn (codes "a\n\n")) one [] ≡ to 0 "a" ∷ to 0 "" ∷ []
console_ended = refl

-- an empty input has no line
console_empty : acts_over (ConsoleIn (codes "")) one [] ≡ []
console_empty = refl

-- CONSOLE passes on what it takes for standard output
console_out : acts_over ConsoleOut one (records "a|b") ≡ to 0 "a" ∷ takes ∷ to 0 "b" ∷ takes ∷ []
console_out = refl

-- also where nothing is connected
console_last : acts_over ConsoleOut none (records "a|b") ≡ takes ∷ takes ∷ []
console_last = refl

-- `<` gives the file's lines
file_in : acts_over (FileIn (codes "m") (Some (codes "a1\nb1\n"))) one [] ≡ to 0 "a1" ∷ to 0 "b1" ∷ []
file_in = refl

-- an absent file ends it with code 28 before its first commit
absent : (form (strand (FileIn (codes "m") None) one)).row.early ≡ Some (pos 28)
absent = refl

-- a file that is there doesn't
there : (form (strand (FileIn (codes "m") (Some [])) one)).row.early ≡ None
there = refl

-- `>` passes on what it takes for the file
file_out : acts_over (FileOut (codes "out")) one (records "a|b") ≡ to 0 "a" ∷ takes ∷ to 0 "b" ∷ takes ∷ []
file_out = refl

-- what `>` took goes to the file of its name
file_kept : (form (strand (FileOut (codes "out")) one)).keeping ≡ File (codes "out")
file_kept = refl

-- refusals never end `>`
file_out_stays : (form (strand (FileOut (codes "out")) one)).row.yields ≡ false
file_out_stays = refl

-- LITERAL writes its text before the records
literal : acts_over (Literal (codes "a b")) one (records "x|y") ≡ to 0 "a b" ∷ to 0 "x" ∷ takes ∷ to 0 "y" ∷ takes ∷ []
literal = refl

-- its text may be empty
literal_empty : acts_over (Literal (codes "")) one [] ≡ to 0 "" ∷ []
literal_empty = refl

-- and hold any byte, a blank at its end too
literal_blank : acts_over (Literal (codes "a;b ")) one [] ≡ to 0 "a;b " ∷ []
literal_blank = refl

-- since it writes before it reads, it isn't thin
literal_thick : (form (strand (Literal (codes "a")) one)).thin ≡ false
literal_thick = refl

-- HOLE takes all, and writes nothing
hole : acts_over Hole one (records "a|b") ≡ takes ∷ takes ∷ []
hole = refl
