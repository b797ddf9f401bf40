use Rattle.std.proofs.Common.{arith}
use Rattle.argument_parts.proofs.Choices.{first_fits, passed_misfit, passed_more}
use Rattle.argument_parts.proofs.next.first_part.Goals as goal
use Rattle.argument_parts.proofs.next.first_part.Goals.{in-Ok-None, in-Err-Fault}

pub returns-in-Ok-Some-clause-read : goal.returns-in-Ok-Some-clause-read
returns-in-Ok-Some-clause-read c = first_fits c.args.text.now c.args.parts.now c.loop-part.part-index _ c.loop-part.first (omega arith) c.loop-part.invariant _ _ (rw c.in-Ok-Some.field-0-is at c.in-Ok-Some.ensures.read)

pub loop-part-preserved : goal.loop-part-preserved
loop-part-preserved c = elim c.match-part_at.branch [
  | in-Ok-None w ↦
      (let none = rw w.in-Ok-None.field-0-is at w.in-Ok-None.ensures.read in
      rw w.first-is (passed_more c.args.text.now c.args.parts.now c.loop-part.part-index _ c.loop-part.first (omega arith) c.loop-part.invariant none))
  | in-Err-Fault w ↦
      (let misfit = rw w.in-Err-Fault.field-0-is at w.in-Err-Fault.ensures.refused in
      rw (w.first-is, w.unwrap_or.ensures) (passed_misfit c.args.text.now c.args.parts.now c.loop-part.part-index _ c.loop-part.first (omega arith) c.loop-part.invariant w.in-Err-Fault.fault misfit))
]

pub returns-in-Err-NoMemory-clause-memory : goal.returns-in-Err-NoMemory-clause-memory
returns-in-Err-NoMemory-clause-memory c =
    let part = rw c.in-Err-NoMemory.field-0-is at c.in-Err-NoMemory.ensures.memory in
    (part.0, part.1, first_fits c.args.text.now c.args.parts.now c.loop-part.part-index _ c.loop-part.first (omega arith) c.loop-part.invariant part.0 part.1 part.2)
