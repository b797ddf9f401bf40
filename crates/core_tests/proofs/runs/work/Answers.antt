-- The job that a turn gave is run on the room's bytes, and finished.
use Rattle.std.proofs.Common.{subst, sym}
use Rattle.std.specs.Prelude.{IfOk, vec_capacity}
use Rattle.stage_steps.specs.Coroutine.{CanResume, Resumes}
use Rattle.core_machine.proofs.Works.{work_runs, work_done, work_among}
use Rattle.core_tests.proofs.runs.work.Goals as goal

pub run-done-requires : goal.run-done-requires
run-done-requires g c =
    let job = c.in-Work.job in
    let runs = work_runs g.S.Stage.stands c.args.core.now c.turn.new.self c.args.strand c.args.stream (vec_capacity c.args.room.now) job c.turn.new.room.items c.in-Work.ensures.turned in
    subst (λ z. CanResume g.S.Stage.stands job.stage job.seen z) (sym c.deref.ensures.value) runs

pub finish-requires-clause-stands : goal.finish-requires-clause-stands
finish-requires-clause-stands g c =
    let job = c.in-Work.job in
    let done = c.run-done.result in
    let resumes = subst (λ z. IfOk done.want (λ want. Resumes g.S.Stage.stands job.stage done.stage job.seen z want)) c.deref.ensures.value c.run-done.ensures.resumes in
    work_done g.S.Stage.stands c.args.core.now c.turn.new.self c.args.strand c.args.stream (vec_capacity c.args.room.now) job c.turn.new.room.items c.in-Work.ensures.turned done c.run-done.ensures.strand c.run-done.ensures.place resumes

pub finish-requires-clause-among : goal.finish-requires-clause-among
finish-requires-clause-among g c =
    let job = c.in-Work.job in
    let done = c.run-done.result in
    work_among g.S.Stage.stands c.args.core.now c.turn.new.self c.args.strand c.args.stream (vec_capacity c.args.room.now) job c.turn.new.room.items c.in-Work.ensures.turned done c.run-done.ensures.place
