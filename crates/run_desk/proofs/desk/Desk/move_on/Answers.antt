-- The unit goes on as the desk is said to.
use Rattle.std.proofs.Common.{rules, ◌≡◌, refl, ap, w32, to_z, of_z}
use Rattle.commit_levels.specs.UnitState.{reached_by}
use Rattle.run_desk.specs.Desk.{DeskState}
use Rattle.run_desk.proofs.desk.Desk.move_on.Goals as goal

pub returns-in-Up-clause-desk : goal.returns-in-Up-clause-desk
returns-in-Up-clause-desk c =
    let with_reach : DeskState → DeskState = λ d. record d { unit = reached_by d.unit c.args.strand c.in-Up.level } in
    let wrap : to_z w32 (of_z w32 c.in-Up.level) ≡ c.in-Up.level = search rules in
    rw (c.reach.ensures, wrap, c.in-Up.is) (ap with_reach c.self.view_is)

pub returns-in-Ended-clause-desk : goal.returns-in-Ended-clause-desk
returns-in-Ended-clause-desk c =
    let wrap : to_z w32 (of_z w32 c.in-Ended.code) ≡ c.in-Ended.code = search rules in
    rw (c.end.ensures.desk, wrap, c.in-Ended.is) (refl)
