-- What BUFFER stands for.
use Rattle.std.specs.Prelude.{◌≡◌, ℕ, Bool, true, false, List, [], length}
use Rattle.std.specs.declared.option.Option.{Option}
use Rattle.pipe_model.specs.Counts.{all_on}
use Rattle.pipe_model.specs.DeviceRows.{buffer}
use Rattle.pipe_model.specs.Row.{Act}
use Rattle.pipe_model.specs.Shape.{Records, Stream, writes}
use Rattle.gate_elastic.specs.declared.buffer.Buffers.{Buffers}

-- up to the end of input it holds all records, and gives none; behind it those that it holds are left
abbrev pub IsHolding : Bool → Buffers → Records → List Act → Type 0
IsHolding false x recs acts = (x.records.items ≡ recs) × (acts ≡ [])
IsHolding true x recs acts = acts ≡ writes (all_on 0 x.records.items)

abbrev pub BuffersStand : Buffers → Bool → Stream → Records → List Act → Type 0
BuffersStand x over t recs acts = (t ≡ buffer) × (x.is_over ≡ over) × IsHolding over x recs acts

-- BUFFER looks at records
abbrev pub buffers_look : Buffers → Bool
buffers_look x = true

-- the record that was given last
abbrev pub buffer_given : Buffers → Option (List ℕ)
buffer_given x = x.gone

-- how many groups are left at most
abbrev pub buffers_left : Buffers → ℕ
buffers_left x = length x.records.items
