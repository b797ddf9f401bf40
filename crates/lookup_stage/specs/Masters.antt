-- The masters that are kept, as a list.
use Rattle.std.specs.Prelude.{◌≡◌, ℕ, true, false, not, if◌then◌else◌, List, [], ◌∷◌, ◌++◌, map, filter, find, option_map}
use Rattle.std.specs.List.{list_any}
use Rattle.std.specs.declared.option.Option.{Option}
use Rattle.std.specs.declared.option.Option.TheVariants.{Some, None}
use Rattle.pipe_model.specs.Keys.{is_same}
use Rattle.pipe_model.specs.Shape.{Records}
use Rattle.lookup_stage.specs.Entry.{Entry}

-- with one master more, unless one with its key is there
abbrev pub kept : List ℕ → List ℕ → List Entry → List Entry
kept key rec entries = if list_any (λ entry. is_same entry.key key) entries then entries else entries ++ record { key = key; rec = rec; is_matched = false } ∷ []

-- the master with a key
abbrev pub record_of : List ℕ → List Entry → Option (List ℕ)
record_of key entries = option_map (λ entry. entry.rec) (find (λ entry. is_same entry.key key) entries)

-- the master with a key was matched
abbrev pub matched : List ℕ → List Entry → List Entry
matched key [] = []
matched key (entry ∷ entries) = if is_same entry.key key then record entry { is_matched = true } ∷ entries else entry ∷ matched key entries

-- the masters that weren't
abbrev pub not_matched : List Entry → Records
not_matched entries = map (λ entry. entry.rec) (filter (λ entry. not entry.is_matched) entries)

-- it gave the first, or there was none
abbrev pub GivesFirst : Records → Option (List ℕ) → Records → Type 0
GivesFirst old None new = (old ≡ []) × (new ≡ [])
GivesFirst old (Some rec) new = old ≡ rec ∷ new
