-- What is left to do makes of the wires so far what is to be done makes of the first ones.
use Rattle.std.proofs.Common.{◌≡◌, drop}
use Rattle.run_desk.specs.Turns.{in_shut, wires_changed}
use Rattle.run_desk.proofs.wires.close_ins.Given as goal

abbrev pub invariant-loop-door : goal.invariant-loop-door
invariant-loop-door l = wires_changed in_shut (drop l.door-index l.doors) l.wires.items ≡ wires_changed in_shut l.doors l.initial.wires.items
