-- What the lists of a stage that only writes pairs for each record stand for.
use Rattle.std.specs.Prelude.{◌≡◌, Bool, List}
use Rattle.pipe_model.specs.Row.{Act}
use Rattle.pipe_model.specs.Shape.{Records, Outs, Stream}
use Rattle.stage_steps.specs.declared.each.Each.{Each}
use Rattle.stage_steps.specs.Lists.{of_each}

-- they are those of the pairs of each record
abbrev pub EachStand : {E : Type 0} → (E → Outs → Records → List Act → Type 0) → Each E → Bool → Stream → Records → List Act → Type 0
EachStand stands x over t recs acts = (outs : Outs) × (t ≡ of_each outs) × stands x.each outs recs acts

abbrev pub each_look : {E : Type 0} → (E → Bool) → Each E → Bool
each_look looks x = looks x.each
