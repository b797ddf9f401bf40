-- The member ends in the unit of the closed desk.
use Rattle.std.proofs.Common.{◌≡◌, ◌∙◌, ap, w32, to_z, of_z}
use Rattle.std.proofs.lemmas.Int.{to_z-of_z}
use Rattle.commit_levels.specs.UnitState.{ended_by}
use Rattle.run_desk.specs.Desk.{DeskState}
use Rattle.run_desk.proofs.desk.Desk.end.Goals as goal

pub returns-clause-desk : goal.returns-clause-desk
returns-clause-desk c =
    let wrap : to_z w32 (of_z w32 c.args.code) ≡ c.args.code = to_z-of_z w32 c.args.code c.ranges.code in
    let with_end : DeskState → DeskState = λ d. record d { unit = ended_by d.unit c.args.strand c.args.code } in
    rw (c.ended.ensures, wrap) (ap with_end (c.self.view_is ∙ c.close.ensures.desk))
