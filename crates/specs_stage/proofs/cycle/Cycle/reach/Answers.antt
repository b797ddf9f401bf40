use Rattle.std.proofs.Common.{◌<◌, ◌≤◌, ◌+◌, ◌∙◌, ◌∷◌, [], ◌++◌, sym, ap, subst, length, arith}
use Rattle.std.specs.Prelude.{Bool}
use Rattle.pipe_model.specs.SpecsRows.{closed}
use Rattle.specs_stage.specs.Desks.{desk_of}
use Rattle.specs_stage.specs.Cycles.{IsAt}
use Rattle.specs_stage.proofs.CycleSteps.{stops_at, closes_at}
use Rattle.specs_stage.proofs.cycle.Cycle.reach.Goals as goal

pub returns-then-at-len-clause-at : goal.returns-then-at-len-clause-at
returns-then-at-len-clause-at c = λ good recs rec is.
    let x = c.args.self.now in
    let low : c.args.at < length x.items.items = omega (arith, c.if-at-len.true, c.len.ensures) in
    subst (λ (b : Bool). IsAt x.items.items x.desk x.desk.written.items (c.args.at + 1) b (recs ++ rec ∷ [])) (sym good) (stops_at x.items.items recs rec x.desk c.args.at is low)

pub returns-clause-at : goal.returns-clause-at
returns-clause-at c = λ good recs rec is.
    let x = c.args.self.now in
    let high : length x.items.items ≤ c.args.at = omega (arith, c.if-at-len.false, c.len.ensures) in
    subst (λ (b : Bool). IsAt x.items.items c.close.new.self c.close.new.self.written.items 0 b (recs ++ rec ∷ [])) (sym good)
    (closes_at x.items.items recs rec x.desk c.close.new.self c.args.at is high (λ hand coming. c.in_ok-close.ensures hand coming ∙ ap (λ xs. closed xs (desk_of x.desk hand coming)) c.deref.ensures.value))
