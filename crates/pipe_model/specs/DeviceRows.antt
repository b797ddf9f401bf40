-- The rows of devices, and of BUFFER.
use Rattle.std.specs.Prelude.{List, [], ◌∷◌, ℕ}
use Rattle.std.specs.declared.option.Option.{Option}
use Rattle.std.specs.declared.option.Option.TheVariants.{Some, None}
use Rattle.pipe_model.specs.Counts.{all_on}
use Rattle.pipe_model.specs.Records.{lines}
use Rattle.pipe_model.specs.Row.{Pair}
use Rattle.pipe_model.specs.Shape.{Records, Stream, Shape, each_record, copied}
use Rattle.pipe_model.specs.Shape.Shape.{Absent, Sources}

-- `<`: the file's lines, where it is there
abbrev pub file : Option (List ℕ) → Shape
file None = Absent
file (Some bytes) = Sources (all_on 0 (lines bytes))

-- LITERAL: the text, and then each record
abbrev pub literal : List ℕ → Stream
literal text = record (each_record copied) { before = (0, text) ∷ [] }

-- no pairs
abbrev pub nothing : Records → List Pair
nothing recs = []

-- HOLE: no pairs for any record
abbrev pub hole : Stream
hole = each_record nothing

-- BUFFER: no pairs, and at the end of input all records
abbrev pub buffer : Stream
buffer = record (each_record nothing) { last = Some (all_on 0) }
