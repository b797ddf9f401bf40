-- What the lists of FANOUT and DEAL stand for.
use Rattle.std.specs.Prelude.{◌≡◌, ◌<◌, ◌%◌, Bool, false, List, length, drop}
use Rattle.pipe_model.specs.FanRows.{on_outputs, in_turn}
use Rattle.pipe_model.specs.Row.{Act}
use Rattle.pipe_model.specs.Shape.{Records, Outs, writes, at_hand_of}
use Rattle.pipe_model.specs.Shape.Outs.{Pairs}
use Rattle.stage_steps.specs.Waiting.{waiting_act, IsWaiting}
use Rattle.fan_stages.specs.declared.fan_out.FansOut.{FansOut}
use Rattle.fan_stages.specs.declared.fan_out.Deals.{Deals}

-- FANOUT: the record at hand is still to be written on the outputs from a place on
abbrev pub FansOutStand : FansOut → Outs → Records → List Act → Type 0
FansOutStand x outs recs acts = (outs ≡ Pairs (λ recs. on_outputs x.outputs.items (at_hand_of recs))) × (acts ≡ writes (on_outputs (drop x.at x.outputs.items) (at_hand_of recs)))
    × (x.at < length x.outputs.items → 0 < length recs)

-- FANOUT doesn't look at records
abbrev pub fans_out_look : FansOut → Bool
fans_out_look x = false

-- DEAL: the record at hand may wait for the output whose turn it was
abbrev pub DealsStand : Deals → Outs → Records → List Act → Type 0
DealsStand x outs recs acts = (outs ≡ Pairs (λ recs. on_outputs (in_turn x.outputs.items recs) (at_hand_of recs))) × (acts ≡ waiting_act x.waiting (at_hand_of recs)) × IsWaiting x.waiting recs
    × (0 < length x.outputs.items → x.turn ≡ length recs % length x.outputs.items)

-- DEAL doesn't look at records
abbrev pub deals_look : Deals → Bool
deals_look x = false
