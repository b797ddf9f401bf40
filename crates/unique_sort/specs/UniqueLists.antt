-- What the lists of UNIQUE stand for.
use Rattle.std.specs.Prelude.{◌≡◌, ℕ, Bool, true, false, List}
use Rattle.std.specs.declared.option.Option.{Option}
use Rattle.std.specs.declared.option.Option.TheVariants.{Some, None}
use Rattle.pipe_model.specs.declared.kind.Keep.{Keep}
use Rattle.pipe_model.specs.declared.kind.Keep.TheVariants.{First}
use Rattle.pipe_model.specs.declared.range.Range.{Range}
use Rattle.pipe_model.specs.OrderRows.{unique, unique_pairs}
use Rattle.pipe_model.specs.Parts.{without_last, last_alone, grown}
use Rattle.pipe_model.specs.Row.{Act}
use Rattle.pipe_model.specs.Shape.{Records, Outs, Stream, each_record, at_hand_of}
use Rattle.stage_steps.specs.Waiting.{waiting_act, IsWaiting}
use Rattle.unique_sort.specs.declared.run.Run.{Run}
use Rattle.unique_sort.specs.declared.unique.Firsts.{Firsts}
use Rattle.unique_sort.specs.declared.unique.Holds.{Holds}
use Rattle.unique_sort.specs.Runs.{last_run, IsRunOf}

-- it is of the last run of these records
abbrev pub IsLastRun : Run → Records → Type 0
IsLastRun run recs = IsRunOf run (last_run run.range recs)

-- FIRST: each record on its output, where it may wait for it; COUNT doesn't matter
abbrev pub FirstsStand : Firsts → Outs → Records → List Act → Type 0
FirstsStand x outs recs acts = (count : Bool) × (outs ≡ (unique count x.run.range First).outs) × IsLastRun x.run recs × (acts ≡ waiting_act x.waiting (at_hand_of recs)) × IsWaiting x.waiting recs

-- UNIQUE FIRST looks at records
abbrev pub firsts_look : Firsts → Bool
firsts_look x = true

-- LAST, SINGLES and MULTIPLE: the pair of each record when the next one was taken, and the last one at the end of input
abbrev pub held : Bool → Range → Keep → Stream
held count range keep = record (each_record (grown (λ recs. without_last (unique_pairs count range keep recs)))) { last = Some (λ recs. last_alone (unique_pairs count range keep recs)) }

-- it has the last run, and the last record of that
abbrev pub IsHolding : Holds → Records → Type 0
IsHolding x recs = IsLastRun x.run recs × (x.last ≡ (last_run x.run.range recs).1)

-- up to the end of input
abbrev pub IsRunning : Bool → Holds → Records → Type 0
IsRunning false x recs = IsHolding x recs
IsRunning true x recs = Unit {0}

abbrev pub HoldsStand : Holds → Bool → Stream → Records → List Act → Type 0
HoldsStand x over t recs acts = (t ≡ held x.is_counting x.run.range x.keep) × IsRunning over x recs × (acts ≡ waiting_act x.due x.new)

-- they look at records
abbrev pub holds_look : Holds → Bool
holds_look x = true

-- the record that is held, where it was given
abbrev pub given_by : Option ℕ → List ℕ → Option (List ℕ)
given_by None new = Some new
given_by (Some output) new = None

abbrev pub holds_made : Holds → Option (List ℕ)
holds_made x = given_by x.due x.new
