use Rattle.std.proofs.Common.{◌≡◌, sym, subst, refl, Some}
use Rattle.stage_steps.specs.declared.listed.Listed.{Listed}
use Rattle.stage_steps.specs.declared.text_lines.TextLines.{TextLines}
use Rattle.stage_steps.specs.Drivers.{ListedStands}
use Rattle.stage_steps.specs.SharedLists.{LinesStand, lines_look, line_given}
use Rattle.stage_steps.specs.Showings.{IsGiving}
use Rattle.stage_steps.proofs.Showing.{shows}
use Rattle.stage_steps.proofs.text_lines.gives_line.Goals as goal

pub returns-clause-gives : goal.returns-clause-gives
returns-clause-gives c =
    let source = c.args.source.now in
    let y = c.give_within.new.self in
    let zero : c.args.o ≡ 0 = search in
    subst (λ o. IsGiving c.args.most (ListedStands LinesStand lines_look) (λ (x : Listed TextLines). line_given x.lists) source (record { lists = y; walk = source.walk }) o c.give_within.result) (sym zero)
    (shows LinesStand lines_look (λ x. Some (line_given x)) line_given c.args.most source y refl (c.writes_plainly.ensures c.if-not-writes_plainly.false) c.give_within.result c.give_within.ensures.gives)
