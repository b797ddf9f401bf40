-- What is left to do makes of the wires so far what is to be done makes of the first ones.
use Rattle.std.proofs.Common.{◌≡◌, drop}
use Rattle.run_desk.specs.Turns.{out_shut, wires_changed}
use Rattle.run_desk.proofs.wires.close_outs.Given as goal

abbrev pub invariant-loop-door : goal.invariant-loop-door
invariant-loop-door l = wires_changed out_shut (drop l.door-index l.doors) l.wires.items ≡ wires_changed out_shut l.doors l.initial.wires.items
