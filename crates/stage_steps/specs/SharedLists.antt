-- What the lists that several stages are made of stand for.
use Rattle.std.specs.Prelude.{◌≡◌, ℕ, Bool, false, List, map, drop, take, length}
use Rattle.std.specs.declared.option.Option.TheVariants.{None}
use Rattle.pipe_model.specs.Records.{lines}
use Rattle.pipe_model.specs.Row.{Act}
use Rattle.pipe_model.specs.Shape.{Records, Outs, Stream, writes, copied, at_hand_of}
use Rattle.pipe_model.specs.Shape.Outs.{Pairs}
use Rattle.stage_steps.specs.declared.copies.Copies.{Copies}
use Rattle.stage_steps.specs.declared.each.Each.{Each}
use Rattle.stage_steps.specs.declared.text_lines.TextLines.{TextLines}
use Rattle.stage_steps.specs.Listed.{only_before}
use Rattle.stage_steps.specs.Waiting.{waiting_act, IsWaiting}

-- the lines of a text, before the first of them is asked for
abbrev pub fresh_lines : List ℕ → TextLines
fresh_lines bytes = record { bytes = bytes; at = length bytes; from = 0; size = 0 }

-- the lines of a text, of which those from a place on are left
abbrev pub LinesStand : TextLines → Bool → Stream → Records → List Act → Type 0
LinesStand x over t recs acts = (t ≡ only_before (map (λ rec. (0, rec)) (lines x.bytes))) × (acts ≡ writes (map (λ rec. (0, rec)) (lines (drop x.at x.bytes))))

-- the line that was given last
abbrev pub line_given : TextLines → List ℕ
line_given x = take x.size (drop x.from x.bytes)

-- the text of the lines that are left
abbrev pub lines_left : TextLines → List ℕ
lines_left x = drop x.at x.bytes

-- lines are made without a look at records
abbrev pub lines_look : TextLines → Bool
lines_look x = false

-- copies before the first record
abbrev pub fresh_copies : Bool → Each Copies
fresh_copies is_looking = record { each = record { is_looking = is_looking; waiting = None } }

-- each record on output 0, where it may wait for it
abbrev pub CopiesStand : Copies → Outs → Records → List Act → Type 0
CopiesStand x outs recs acts = (outs ≡ Pairs copied) × (acts ≡ waiting_act x.waiting (at_hand_of recs)) × IsWaiting x.waiting recs

-- whether copies are made with a look at records
abbrev pub copies_look : Copies → Bool
copies_look x = x.is_looking
