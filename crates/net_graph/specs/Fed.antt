-- A net whose stages are given what the table says that they are fed: the bytes of the input, or those of a file.
use Rattle.std.specs.Prelude.{◌≡◌, ℕ, Bool, true, List, map, slice_get, slice_set}
use Rattle.std.specs.List.{list_any}
use Rattle.std.specs.Option.{option_map_or}
use Rattle.std.specs.declared.option.Option.{Option}
use Rattle.std.specs.declared.option.Option.TheVariants.{Some}
use Rattle.pipe_model.specs.declared.kind.Kind.{Kind}
use Rattle.pipe_model.specs.declared.kind.Kind.TheVariants.{ConsoleIn, FileIn}
use Rattle.pipe_model.specs.declared.net.Net.{Net}
use Rattle.pipe_model.specs.declared.net.Strand.{Strand}
use Rattle.pipe_model.specs.Table.{is_input, line_of}
use Rattle.stage_syntax.specs.Files.{is_of_file, is_unfiled}

-- the kind is the CONSOLE that reads: the table says that it is fed the input
abbrev pub reads_input : Kind → Bool
reads_input kind = is_input (line_of kind).feed

-- a stage of the net reads the input
abbrev pub reads_any : Net → Bool
reads_any net = list_any (λ (p : Strand). reads_input p.kind) net.strands

-- the kind is a `<`: the table says that it is fed a file
abbrev pub reads_file : Kind → Bool
reads_file kind = is_of_file (line_of kind).feed

-- the kind with these bytes, where it is fed any
abbrev pub with_bytes : List ℕ → Kind → Kind
with_bytes bytes (ConsoleIn old) = ConsoleIn bytes
with_bytes bytes (FileIn name old) = FileIn name (Some bytes)
with_bytes bytes kind = kind

-- the kind with the file of its name, if there is one and it is fed any
abbrev pub filed_kind : (List ℕ → Option (List ℕ)) → Kind → Kind
filed_kind files (FileIn name bytes) = FileIn name (files name)
filed_kind files kind = kind

-- the net whose `<` are given their files
abbrev pub filed : (List ℕ → Option (List ℕ)) → Net → Net
filed files net = record net { strands = map (λ (p : Strand). record p { kind = filed_kind files p.kind }) net.strands }

-- the kind with these bytes of the input, where it reads it
abbrev pub input_kind : List ℕ → Kind → Kind
input_kind input (ConsoleIn bytes) = ConsoleIn input
input_kind input kind = kind

-- the net whose reading CONSOLE is given the input
abbrev pub with_input : List ℕ → Net → Net
with_input input net = record net { strands = map (λ (p : Strand). record p { kind = input_kind input p.kind }) net.strands }

-- no `<` is given a file yet
abbrev pub AreUnfiled : Net → Type 0
AreUnfiled net = (s : ℕ) (p : Strand) → slice_get net.strands s ≡ Some p → is_unfiled p.kind ≡ true

-- the kind with what it is fed: these bytes of the input, or the file of its name, if there is one
abbrev pub fed_kind : List ℕ → (List ℕ → Option (List ℕ)) → Kind → Kind
fed_kind input files (ConsoleIn bytes) = ConsoleIn input
fed_kind input files (FileIn name bytes) = FileIn name (files name)
fed_kind input files kind = kind

abbrev pub fed_strand : List ℕ → (List ℕ → Option (List ℕ)) → Strand → Strand
fed_strand input files p = record p { kind = fed_kind input files p.kind }

-- the net whose stages are fed
abbrev pub fed : List ℕ → (List ℕ → Option (List ℕ)) → Net → Net
fed input files net = record net { strands = map (fed_strand input files) net.strands }

-- the net with another kind in place of a strand's
abbrev pub with_kind : Net → ℕ → Kind → Net
with_kind net strand kind = record net { strands = option_map_or (λ (p : Strand). slice_set net.strands strand (record p { kind = kind })) (slice_get net.strands strand) net.strands }
