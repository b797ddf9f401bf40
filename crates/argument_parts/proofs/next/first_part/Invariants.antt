use Rattle.std.proofs.Common.{take}
use Rattle.argument_parts.proofs.Choices.{ArePassed}
use Rattle.argument_parts.proofs.next.first_part.Given as goal

abbrev pub invariant-loop-part : goal.invariant-loop-part
invariant-loop-part l = ArePassed (take l.part-index l.parts) l.text l.first
