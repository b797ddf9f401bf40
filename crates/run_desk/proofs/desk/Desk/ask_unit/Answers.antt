-- The unit goes on as the desk is said to.
use Rattle.std.proofs.Common.{rules, ◌≡◌, ap, w32, to_z, of_z}
use Rattle.commit_levels.specs.UnitState.{asked_by}
use Rattle.run_desk.specs.Desk.{DeskState}
use Rattle.run_desk.proofs.desk.Desk.ask_unit.Goals as goal

pub returns-in-Commit : goal.returns-in-Commit
returns-in-Commit c =
    let with_ask : DeskState → DeskState = λ d. record d { unit = asked_by d.unit c.args.strand c.in-Commit.level } in
    let wrap : to_z w32 (of_z w32 c.in-Commit.level) ≡ c.in-Commit.level = search rules in
    rw (c.ask.ensures, wrap, c.in-Commit.is) (ap with_ask c.self.view_is)
