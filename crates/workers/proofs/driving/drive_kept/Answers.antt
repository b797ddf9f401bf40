use Rattle.std.proofs.Common.{◌∙◌, subst, sym, ap, ◌≡◌, true}
use Rattle.core_machine.specs.Machine.{Machine, IsLawful}
use Rattle.core_machine.specs.Answered.{HasRun, HasBrokenLeast}
use Rattle.workers.specs.Driven.{LeftByWorkers}
use Rattle.workers.proofs.Together.{left_as_it_was, none_out, run_advances, fell_short, broke_on}
use Rattle.workers.proofs.driving.drive_kept.Goals.{then-workers-eq1, else-workers-eq1}
use Rattle.workers.proofs.driving.drive_kept.Goals as goal

pub returns-then-is_broken-clause-lacks : goal.returns-then-is_broken-clause-lacks
returns-then-is_broken-clause-lacks g c none =
    let core : Machine = c.if-workers-eq1.core in
    let broken : core.is_broken ≡ true = sym c.is_broken.ensures ∙ c.if-is_broken.true in
    elim c.if-workers-eq1.branch [
      | then-workers-eq1 w ↦ absurd (cc (broken, ap (λ (m : Machine). m.is_broken) w.core-is, c.requires.whole))
      | else-workers-eq1 w ↦ fell_short c.args.core core (subst (LeftByWorkers c.args.core) (sym w.core-is) w.work_together-core.ensures.left) broken
    ]

pub returns-then-is_broken-clause-alone : goal.returns-then-is_broken-clause-alone
returns-then-is_broken-clause-alone g c one =
    let core : Machine = c.if-workers-eq1.core in
    let broken : core.is_broken ≡ true = sym c.is_broken.ensures ∙ c.if-is_broken.true in
    elim c.if-workers-eq1.branch [
      | then-workers-eq1 w ↦ absurd (cc (broken, ap (λ (m : Machine). m.is_broken) w.core-is, c.requires.whole))
      | else-workers-eq1 w ↦ absurd (w.if-workers-eq1.false one)
    ]

pub returns-then-is_broken-clause-lawful : goal.returns-then-is_broken-clause-lawful
returns-then-is_broken-clause-lawful g c =
    let core : Machine = c.if-workers-eq1.core in
    let broken : core.is_broken ≡ true = sym c.is_broken.ensures ∙ c.if-is_broken.true in
    elim c.if-workers-eq1.branch [
      | then-workers-eq1 w ↦ absurd (cc (broken, ap (λ (m : Machine). m.is_broken) w.core-is, c.requires.whole))
      | else-workers-eq1 w ↦ subst IsLawful (sym w.core-is) (w.work_together-core.ensures.lawful (ap (λ (m : Machine). m.is_broken) (sym w.core-is) ∙ broken))
    ]

pub run_one_thread-requires-clause-home : goal.run_one_thread-requires-clause-home
run_one_thread-requires-clause-home g c =
    let core : Machine = c.if-workers-eq1.core in
    let t : LeftByWorkers c.args.core core = elim c.if-workers-eq1.branch [
      | then-workers-eq1 w ↦ left_as_it_was c.args.core core c.requires.home w.core-is
      | else-workers-eq1 w ↦ subst (LeftByWorkers c.args.core) (sym w.core-is) w.work_together-core.ensures.left
    ] in
    none_out core t.home (sym c.is_broken.ensures ∙ c.if-is_broken.false)

pub returns-in-Ok-clause-advances : goal.returns-in-Ok-clause-advances
returns-in-Ok-clause-advances g c =
    let core : Machine = c.if-workers-eq1.core in
    let t : LeftByWorkers c.args.core core = elim c.if-workers-eq1.branch [
      | then-workers-eq1 w ↦ left_as_it_was c.args.core core c.requires.home w.core-is
      | else-workers-eq1 w ↦ subst (LeftByWorkers c.args.core) (sym w.core-is) w.work_together-core.ensures.left
    ] in
    run_advances c.args.core core c.run_one_thread.new.self t (sym c.is_broken.ensures ∙ c.if-is_broken.false) c.in-Ok.ensures.runs.0

pub returns-in-Ok-clause-alone : goal.returns-in-Ok-clause-alone
returns-in-Ok-clause-alone g c one = elim c.if-workers-eq1.branch [
  | then-workers-eq1 w ↦ subst (λ (m : Machine). HasRun m c.run_one_thread.new.self) w.core-is c.in-Ok.ensures.runs.0
  | else-workers-eq1 w ↦ absurd (w.if-workers-eq1.false one)
]

pub returns-in-Err-clause-lacks : goal.returns-in-Err-clause-lacks
returns-in-Err-clause-lacks g c none =
    let core : Machine = c.if-workers-eq1.core in
    let t : LeftByWorkers c.args.core core = elim c.if-workers-eq1.branch [
      | then-workers-eq1 w ↦ left_as_it_was c.args.core core c.requires.home w.core-is
      | else-workers-eq1 w ↦ subst (LeftByWorkers c.args.core) (sym w.core-is) w.work_together-core.ensures.left
    ] in
    broke_on c.args.core core c.run_one_thread.new.self t c.in-Err.ensures.lacks

pub returns-in-Err-clause-alone : goal.returns-in-Err-clause-alone
returns-in-Err-clause-alone g c one = elim c.if-workers-eq1.branch [
  | then-workers-eq1 w ↦ subst (λ (m : Machine). HasBrokenLeast m c.run_one_thread.new.self) w.core-is c.in-Err.ensures.lacks
  | else-workers-eq1 w ↦ absurd (w.if-workers-eq1.false one)
]
