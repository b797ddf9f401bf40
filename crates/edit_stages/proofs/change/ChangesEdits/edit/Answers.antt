use Rattle.std.proofs.Common.{◌≡◌, ◌<◌, ◌∙◌, true, false, length, sym, subst, arith, None}
use Rattle.pipe_model.specs.declared.range.Span.TheVariants.{Columns}
use Rattle.edit_stages.specs.Replacing.{IsNext}
use Rattle.edit_stages.proofs.Replacements.{stays}
use Rattle.edit_stages.proofs.change.ChangesEdits.edit.Goals as goal
use Rattle.edit_stages.proofs.change.ChangesEdits.edit.Goals.{in-Columns, in_default}

pub returns-then-matches : goal.returns-then-matches
returns-then-matches c =
    let x = c.args.self.now in
    let count = c.of_all-count.result in
    let part = c.part_of-part.result.now in
    let filled : 0 < length x.sought = grind arith in
    let columns : x.range.span ≡ Columns = elim c.match-matches.branch [
      | in-Columns w ↦ w.in-Columns.is
      | in_default w ↦ absurd (let both : true ≡ false = sym c.if-matches.true ∙ w.matches-is in cc)
    ] in
    let none : c.next_place-next.result ≡ None = grind arith in
    let never = subst (IsNext x.sought count part) none c.next_place-next.ensures in
    sym (stays x.range x.sought x.put x.times count part c.args.rec.now filled columns c.of_all-count.ensures c.part_of-part.ensures never)
