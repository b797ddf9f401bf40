-- The job is run on the room's bytes, and finished.
use Rattle.std.proofs.Common.{sym, subst}
use Rattle.std.specs.Prelude.{IfOk, vec_capacity}
use Rattle.stage_steps.specs.Coroutine.{CanResume, Resumes}
use Rattle.core_machine.proofs.Works.{work_runs, work_done}
use Rattle.board.specs.Rule.{machine_of}
use Rattle.board.specs.Calls.{CanFinish, less_one_try}
use Rattle.board.specs.Names.{view}
use Rattle.board.proofs.Works.{work_can}
use Rattle.core_tests.proofs.passes.work.Goals as goal

pub run-done-requires : goal.run-done-requires
run-done-requires g c = let job = c.in-Work.job in let t = c.in-Work.ensures.told in let w = view c.try_any.new.pass in
    subst (λ z. CanResume g.S.Stage.stands job.stage job.seen z) (sym c.deref.ensures.value)
    (work_runs g.S.Stage.stands t.0 (machine_of w) job.strand t.1.0 (vec_capacity c.args.room.now) job c.try_any.new.room.items t.1.2.turned)

pub try_finish-answer-requires-clause-can : goal.try_finish-answer-requires-clause-can
try_finish-answer-requires-clause-can g c = let job = c.in-Work.job in let t = c.in-Work.ensures.told in let w = view c.try_any.new.pass in
    subst (CanFinish w) (sym c.run-done.ensures.place)
    (work_can g.S.Stage.stands (less_one_try (view c.args.pass.now)) w t.0 job.strand t.1.0 (vec_capacity c.args.room.now) job _ c.try_any.new.room.items t.1.2)

pub try_finish-answer-requires-clause-stands : goal.try_finish-answer-requires-clause-stands
try_finish-answer-requires-clause-stands g c = let job = c.in-Work.job in let done = c.run-done.result in let t = c.in-Work.ensures.told in let w = view c.try_any.new.pass in
    let resumes = subst (λ z. IfOk done.want (λ want. Resumes g.S.Stage.stands job.stage done.stage job.seen z want)) c.deref.ensures.value c.run-done.ensures.resumes in
    work_done g.S.Stage.stands t.0 (machine_of w) job.strand t.1.0 (vec_capacity c.args.room.now) job c.try_any.new.room.items t.1.2.turned done c.run-done.ensures.strand c.run-done.ensures.place resumes

pub finish_and_go_on-answer-requires-clause-can : goal.finish_and_go_on-answer-requires-clause-can
finish_and_go_on-answer-requires-clause-can g c = let job = c.in-Work.job in let t = c.in-Work.ensures.told in let w = view c.try_any.new.pass in
    subst (CanFinish w) (sym c.run-done.ensures.place)
    (work_can g.S.Stage.stands (less_one_try (view c.args.pass.now)) w t.0 job.strand t.1.0 (vec_capacity c.args.room.now) job _ c.try_any.new.room.items t.1.2)

pub finish_and_go_on-answer-requires-clause-stands : goal.finish_and_go_on-answer-requires-clause-stands
finish_and_go_on-answer-requires-clause-stands g c = let job = c.in-Work.job in let done = c.run-done.result in let t = c.in-Work.ensures.told in let w = view c.try_any.new.pass in
    let resumes = subst (λ z. IfOk done.want (λ want. Resumes g.S.Stage.stands job.stage done.stage job.seen z want)) c.deref.ensures.value c.run-done.ensures.resumes in
    work_done g.S.Stage.stands t.0 (machine_of w) job.strand t.1.0 (vec_capacity c.args.room.now) job c.try_any.new.room.items t.1.2.turned done c.run-done.ensures.strand c.run-done.ensures.place resumes
