-- What a field is in the output; it serves the inside.
use Rattle.std.specs.Prelude.{ℕ, suc, ◌+◌, ◌-◌, ◌/◌, ◌==◌, if◌then◌else◌, List, ◌++◌, length, take, drop, replicate}
use Rattle.pipe_model.specs.declared.items.Align.{Align}
use Rattle.pipe_model.specs.declared.items.Align.TheVariants.{Left, Center, Right}
use Rattle.pipe_model.specs.declared.items.Spot.{Spot}
use Rattle.pipe_model.specs.declared.items.Spot.TheVariants.{Column, Next, NextWord}
use Rattle.specs_stage.specs.declared.output.Padded.{Padded}

-- how much of what lacks, or of what is too much, is at the left
abbrev pub share_of : Align → ℕ → ℕ
share_of Left count = 0
share_of Center count = count / 2
share_of Right count = count

-- the bytes that are put into the output
abbrev pub bytes_of : ℕ → Padded → List ℕ
bytes_of pad field = replicate field.before pad ++ field.bytes.now ++ replicate field.behind pad

-- where a field is put behind an output of this length
abbrev pub start_behind : Spot → ℕ → ℕ
start_behind (Column first len) size = first - 1
start_behind (Next len) size = size
start_behind (NextWord len) size = if size == 0 then 0 else suc size

-- the output overwritten from a place that it has
abbrev pub over : ℕ → List ℕ → List ℕ → List ℕ
over at bytes output = take at output ++ bytes ++ drop (at + length bytes) output
