-- The words in which the entries of a journal are kept.
use Rattle.std.specs.Prelude.{ℕ, zero, suc, List, [], ◌∷◌, ◌++◌}
use Rattle.pipe_model.specs.declared.step.Entry.{Entry}
use Rattle.step_journal.specs.declared.journal.Word.{Word}

-- these three, so many times
abbrev pub rounds_of : Entry → Entry → Entry → ℕ → List Entry
rounds_of a b c zero = []
rounds_of a b c (suc n) = a ∷ b ∷ c ∷ rounds_of a b c n

-- the entry of a word
abbrev pub entry_of : Word → Entry
entry_of w = record { strand = w.strand; stream = w.stream }

-- the entries of words behind these two: each comes, and then as often as it says it comes again, with the two before it
abbrev pub entries_behind : Entry → Entry → List Word → List Entry
entries_behind p q [] = []
entries_behind p q (w ∷ ws) = (entry_of w ∷ rounds_of p q (entry_of w) w.more) ++ entries_behind q (entry_of w) ws

-- what stands before the first entry
abbrev pub nothing : Entry
nothing = record { strand = 0; stream = 0 }

-- the entries of words
abbrev pub entries_of : List Word → List Entry
entries_of ws = entries_behind nothing nothing ws
