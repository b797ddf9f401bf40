use Rattle.std.proofs.Common.{◌+◌, ◌≤◌, length, sym, subst, arith, None, Option, ℕ, IfSome}
use Rattle.edit_stages.specs.Replacing.{IsNext}
use Rattle.edit_stages.proofs.Replacements.{next_none_left, next_first}
use Rattle.edit_stages.proofs.change.next_place.Goals as goal

pub returns-then-left-eq0 : goal.returns-then-left-eq0
returns-then-left-eq0 c =
    subst (λ n. IsNext c.args.sought.now n c.args.text.now None) (sym c.if-left-eq0.true) (next_none_left c.args.sought.now c.args.text.now c.requires)

pub returns-else-left-eq0 : goal.returns-else-left-eq0
returns-else-left-eq0 c =
    next_first c.args.sought.now c.args.left c.args.text.now c.find.result c.requires (omega arith) c.find.ensures.first
    (λ k is. subst (λ (o : Option ℕ). IfSome o (λ k. k + length c.args.sought.now ≤ length c.args.text.now)) is c.find.ensures.within)
