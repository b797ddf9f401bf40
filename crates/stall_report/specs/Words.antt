-- The text of wait lines.
use Rattle.std.specs.Prelude.{ℕ, List, [], ◌++◌, codes, decimal, map}
use Rattle.std.specs.Fmt.{signed_decimal}
use Rattle.std.specs.Option.{option_map_or}
use Rattle.pipe_model.specs.declared.net.Net.{Net}
use Rattle.pipe_model.specs.declared.net.Strand.{Strand}
use Rattle.pipe_model.specs.Records.{text}
use Rattle.pipe_model.specs.State.{nothing_yet, strand_at}
use Rattle.pipe_model.specs.Table.{line_of}
use Rattle.stall_report.specs.declared.lines.WaitLine.{WaitLine}
use Rattle.stall_report.specs.declared.lines.WaitWant.{WaitWant}
use Rattle.stall_report.specs.declared.lines.WaitWant.TheVariants.{Commit, Read, Any, Gate, Write, Primed, Join}

-- what a strand waits for, with the number of its level, stream or unit
abbrev pub want_words : WaitWant → List ℕ
want_words (Commit level) = codes "commit " ++ signed_decimal level
want_words (Read i) = codes "read " ++ decimal i
want_words Any = codes "any"
want_words Gate = codes "gate"
want_words (Write o) = codes "write " ++ decimal o
want_words Primed = codes "primed"
want_words (Join k) = codes "join " ++ decimal k

-- the name of a strand's stage, in lower case; nothing where there is no such strand
abbrev pub stage_name : Net → ℕ → List ℕ
stage_name net s = option_map_or (λ (p : Strand). (line_of p.kind).name) (strand_at net nothing_yet s) []

-- the strand's number, its stage's name and what it waits for
abbrev pub line_words : Net → WaitLine → List ℕ
line_words net line = (codes "wait " ++ decimal line.strand) ++ (codes " " ++ (stage_name net line.strand ++ (codes " " ++ want_words line.want)))

-- a line for each strand that waits, each with its line feed
abbrev pub wait_text : Net → List WaitLine → List ℕ
wait_text net lines = text (map (line_words net) lines)
