use Rattle.std.proofs.Common.{refl}
use Rattle.collate_stage.specs.declared.merge.Due.TheVariants.{Take, Read}
use Rattle.collate_stage.proofs.MergeSteps.{writes_it, takes_it}
use Rattle.collate_stage.proofs.merge.MergePlans.next.Goals as goal

pub returns-in-Write-clause-gives : goal.returns-in-Write-clause-gives
returns-in-Write-clause-gives c = writes_it c.args.self.now (record c.args.self.now { due = Take }) c.in-Write.is refl refl refl refl refl refl refl

pub returns-in-Take-clause-gives : goal.returns-in-Take-clause-gives
returns-in-Take-clause-gives c = takes_it c.args.self.now (record c.args.self.now { lanes = c.take_at.new.lanes; due = Read }) c.in-Take.is refl refl c.take_at.ensures refl refl refl refl
