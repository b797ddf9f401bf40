use Rattle.std.proofs.Common.{rules, sym, subst, IfOk, vec_capacity}
use Rattle.stage_steps.specs.Coroutine.{CanResume, Resumes}
use Rattle.core_machine.proofs.Works.{work_runs, work_done}
use Rattle.board.specs.Calls.{CanFinish, less_one_try}
use Rattle.board.specs.Names.{view}
use Rattle.board.specs.Rule.{machine_of}
use Rattle.workers.specs.Work.{Owes}
use Rattle.workers.proofs.AfterTurns.{can_finish, owes_one, still_settled, work_turns, room_turns, idle_waits}
use Rattle.workers.proofs.turns.take_turn.Goals as goal

pub run_job-done-requires : goal.run_job-done-requires
run_job-done-requires g c =
    let t = c.in-Work.ensures.told in let job = c.in-Work.job in
    subst (λ bytes. CanResume g.S.Stage.stands job.stage job.seen bytes) (sym c.as_slice.ensures.value)
    (work_runs g.S.Stage.stands t.0 (machine_of (view c.any.new.pass)) job.strand t.1.0 (vec_capacity c.args.room.now) job c.any.new.room.items t.1.2.turned)

pub bring_home-requires-clause-can : goal.bring_home-requires-clause-can
bring_home-requires-clause-can g c =
    let t = c.in-Work.ensures.told in let job = c.in-Work.job in
    subst (CanFinish (view c.any.new.pass)) (sym c.run_job-done.ensures.place)
    (can_finish g.S.Stage.stands (less_one_try (view c.args.pass.now)) (view c.any.new.pass) t.0 job.strand t.1.0 (vec_capacity c.args.room.now) job c.in-Work.field-1.place c.any.new.room.items t.1.2)

pub bring_home-requires-clause-stands : goal.bring_home-requires-clause-stands
bring_home-requires-clause-stands g c =
    let t = c.in-Work.ensures.told in let job = c.in-Work.job in let done = c.run_job-done.result in
    work_done g.S.Stage.stands t.0 (machine_of (view c.any.new.pass)) job.strand t.1.0 (vec_capacity c.args.room.now) job c.any.new.room.items t.1.2.turned done c.run_job-done.ensures.strand c.run_job-done.ensures.place
    (subst (λ bytes. IfOk done.want (λ want. Resumes g.S.Stage.stands job.stage done.stage job.seen bytes want)) c.as_slice.ensures.value c.run_job-done.ensures.resumes)

pub bring_home-requires-clause-owes : goal.bring_home-requires-clause-owes
bring_home-requires-clause-owes g c =
    let t = c.in-Work.ensures.told in let job = c.in-Work.job in
    subst (Owes (view c.any.new.pass)) (sym c.run_job-done.ensures.place)
    (owes_one g.S.Stage.stands (less_one_try (view c.args.pass.now)) (view c.any.new.pass) t.0 job.strand t.1.0 (vec_capacity c.args.room.now) job c.in-Work.field-1.place c.any.new.room.items t.1.2 c.requires.settled)

pub returns-in-Idle-eq0-clause-settled : goal.returns-in-Idle-eq0-clause-settled
returns-in-Idle-eq0-clause-settled g c = still_settled (view c.args.pass.now) (view c.any.new.pass) c.requires.settled (c.in-Idle-eq0.ensures.made tt) c.in-Idle-eq0.ensures.others

pub returns-in-Idle-clause-settled : goal.returns-in-Idle-clause-settled
returns-in-Idle-clause-settled g c = still_settled (view c.args.pass.now) (view c.any.new.pass) c.requires.settled (c.in-Idle.ensures.made tt) c.in-Idle.ensures.others

pub returns-in-Spent-clause-settled : goal.returns-in-Spent-clause-settled
returns-in-Spent-clause-settled g c = still_settled (view c.args.pass.now) (view c.any.new.pass) c.requires.settled (c.in-Spent.ensures.made tt) c.in-Spent.ensures.others

pub returns-in-Room-clause-settled : goal.returns-in-Room-clause-settled
returns-in-Room-clause-settled g c = still_settled (view c.args.pass.now) (view c.any.new.pass) c.requires.settled (c.in-Room.ensures.made tt) c.in-Room.ensures.others

pub returns-in-Broken-clause-settled : goal.returns-in-Broken-clause-settled
returns-in-Broken-clause-settled g c = still_settled (view c.args.pass.now) (view c.any.new.pass) c.requires.settled (c.in-Broken.ensures.made tt) c.in-Broken.ensures.others

pub returns-in-Work-clause-turns : goal.returns-in-Work-clause-turns
returns-in-Work-clause-turns g c =
    let t = c.in-Work.ensures.told in
    work_turns (g.G.Gate.is_open c.args.gate.now) c.run_job-done.result.place c.bring_home.result (view c.args.pass.now) (view c.any.new.pass) (view c.bring_home.new.pass) (vec_capacity c.args.room.now) (vec_capacity c.any.new.room) t.1.2.longer c.bring_home.ensures.comes

pub returns-in-Idle-clause-turns : goal.returns-in-Idle-clause-turns
returns-in-Idle-clause-turns g c =
    let t = c.in-Idle.ensures.told.1 in
    idle_waits (view c.args.pass.now) (view c.any.new.pass) (g.G.Gate.is_open c.args.gate.now) (vec_capacity c.args.room.now) (vec_capacity c.any.new.room) c.in-Idle.out t.2 t.3 t.4 (search rules)

pub returns-in-Room-clause-turns : goal.returns-in-Room-clause-turns
returns-in-Room-clause-turns g c =
    let t = c.in-Room.ensures.told.1 in
    room_turns (g.G.Gate.is_open c.args.gate.now) c.grow.result (view c.args.pass.now) (view c.any.new.pass) (vec_capacity c.args.room.now) (vec_capacity c.grow.new.room) c.in-Room.size t.2 (search (rules, c.grow.ensures))
