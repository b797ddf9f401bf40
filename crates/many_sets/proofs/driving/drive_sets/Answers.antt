use Rattle.std.proofs.Common.{Global, IfOk, Vec, sym, subst, arith}
use Rattle.std.specs.List.{AllZip}
use Rattle.std.proofs.lemmas.Result.{IfOk-weaker}
use Rattle.core_machine.specs.Machine.{Machine, IsLawful}
use Rattle.core_machine.specs.Answered.{HasRun, Ends}
use Rattle.core_machine.specs.declared.job.RunEnd.{RunEnd}
use Rattle.workers.specs.Driven.{HasAdvanced, LeftByWorkers}
use Rattle.many_sets.specs.Finished.{IsFinished}
use Rattle.many_sets.proofs.Drives.{all_advance, all_as_they_were, all_may_run, all_ran}
use Rattle.many_sets.proofs.driving.drive_sets.Goals.{then-workers-lt2, else-workers-lt2}
use Rattle.many_sets.proofs.driving.drive_sets.Goals as goal

pub run_all-requires : goal.run_all-requires
run_all-requires g c =
    let first = c.args.cores.items in let left = c.if-workers-lt2.cores in
    let t : AllZip LeftByWorkers first left.items = elim c.if-workers-lt2.branch [
      | then-workers-lt2 w ↦ subst (λ (l : Vec Machine Global). AllZip LeftByWorkers first l.items) (sym w.cores-is) (all_as_they_were first c.requires.home)
      | else-workers-lt2 w ↦ subst (λ (l : Vec Machine Global). AllZip LeftByWorkers first l.items) (sym w.cores-is) w.work_together-cores.ensures
    ] in
    all_may_run first left.items t

pub returns-clause-ran : goal.returns-clause-ran
returns-clause-ran g c =
    let first = c.args.cores.items in let left = c.if-workers-lt2.cores in
    let t : AllZip LeftByWorkers first left.items = elim c.if-workers-lt2.branch [
      | then-workers-lt2 w ↦ subst (λ (l : Vec Machine Global). AllZip LeftByWorkers first l.items) (sym w.cores-is) (all_as_they_were first c.requires.home)
      | else-workers-lt2 w ↦ subst (λ (l : Vec Machine Global). AllZip LeftByWorkers first l.items) (sym w.cores-is) w.work_together-cores.ensures
    ] in
    IfOk-weaker c.run_all.result (λ ran. AllZip (λ (m : Machine) (one : Machine × RunEnd). IsFinished m one.0 one.1) left.items ran.items)
    (λ ran. AllZip (λ (m : Machine) (one : Machine × RunEnd). HasAdvanced m one.0 × Ends one.1 one.0 × IsLawful one.0) first ran.items) (λ ran all. all_advance first left.items ran.items t all) c.run_all.ensures

pub returns-clause-alone : goal.returns-clause-alone
returns-clause-alone g c one =
    let first = c.args.cores.items in let left = c.if-workers-lt2.cores in
    elim c.if-workers-lt2.branch [
      | then-workers-lt2 w ↦ subst (λ (l : Vec Machine Global). IfOk c.run_all.result (λ ran. AllZip (λ (m : Machine) (one : Machine × RunEnd). HasRun m one.0) l.items ran.items)) w.cores-is
          (IfOk-weaker c.run_all.result (λ ran. AllZip (λ (m : Machine) (one : Machine × RunEnd). IsFinished m one.0 one.1) left.items ran.items)
          (λ ran. AllZip (λ (m : Machine) (one : Machine × RunEnd). HasRun m one.0) left.items ran.items) (λ ran all. all_ran left.items ran.items all) c.run_all.ensures)
      | else-workers-lt2 w ↦ absurd (let many = w.if-workers-lt2.false in let least = c.min-workers.ensures in omega arith)
    ]
