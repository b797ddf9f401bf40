-- The job that a turn gave may be finished by the pass that made it.
use Rattle.std.proofs.Common.{ℕ, List, arith, ap, sym, subst}
use Rattle.pipe_model.specs.declared.net.Strand.{Strand}
use Rattle.pipe_model.specs.Event.{Event}
use Rattle.core_machine.specs.Machine.{Machine}
use Rattle.core_machine.specs.Jobs.{JobState}
use Rattle.board.specs.Counts.{times}
use Rattle.board.specs.Calls.{Worked, CanFinish}
use Rattle.board.specs.declared.view.View.{View}
use Rattle.board.proofs.Sums.{only-same, times-push}

pub work_can : {S : Type 0} (stands : S → Strand → List Event → Type 0) (v w : View) (m : Machine) (s k room : ℕ) (job : JobState S) (place : ℕ) (bytes : List ℕ) → Worked stands v m s k room job place w bytes → CanFinish w job.place
work_can stands v w m s k room job place bytes t =
    let one = only-same place in let more = times-push place place v.mine in let made = ap (times place) t.mine in
    let home = ap (times place) t.others.0 in let lost = ap (times place) t.others.1 in let none = t.new.1 in let kept = t.new.2 in
    subst (CanFinish w) (sym t.place_is.1) (omega arith, omega arith, omega arith)
