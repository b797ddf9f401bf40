-- What the pairs of FANOUT and DEAL stand for, by their form.
use Rattle.std.specs.Prelude.{ℕ, ◌-◌, Bool, false, List, length}
use Rattle.pipe_model.specs.Row.{Act}
use Rattle.pipe_model.specs.Shape.{Records, Outs}
use Rattle.stage_steps.specs.Waiting.{how_many}
use Rattle.fan_stages.specs.declared.fan_each.FanEach.{FanEach}
use Rattle.fan_stages.specs.declared.fan_each.FanEach.TheVariants.{FanOut, Deal}
use Rattle.fan_stages.specs.FanOut.{FansOutStand, DealsStand}

abbrev pub FanEachStand : FanEach → Outs → Records → List Act → Type 0
FanEachStand (FanOut x) = FansOutStand x
FanEachStand (Deal x) = DealsStand x

-- neither looks at records
abbrev pub fan_each_look : FanEach → Bool
fan_each_look x = false

-- how many groups are left at most
abbrev pub fan_each_left : FanEach → ℕ
fan_each_left (FanOut x) = length x.outputs.items - x.at
fan_each_left (Deal x) = how_many x.waiting
