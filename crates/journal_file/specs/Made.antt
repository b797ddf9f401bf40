-- What a core did with an entry of a journal; it serves the inside.
use Rattle.std.specs.Prelude.{◌≡◌, Bool, true, false, [], ◌∷◌, ◌++◌, None, is_some}
use Rattle.pipe_model.specs.declared.step.Entry.{Entry}
use Rattle.core_machine.specs.Machine.{Machine, licence_of}

-- it made the entry with its work where it might, and else nothing
abbrev pub HasMade : Machine → Entry → Bool → Machine → Type 0
HasMade m e true n = (is_some (licence_of m e.strand e.stream) ≡ true) × (n ≡ record m { journal = m.journal ++ e ∷ [] })
HasMade m e false n = (licence_of m e.strand e.stream ≡ None) × (n ≡ m)
