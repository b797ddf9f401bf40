use Rattle.std.proofs.Common.{◌∙◌, sym, ap, subst}
use Rattle.std.specs.Prelude.{Bool}
use Rattle.pipe_model.specs.Counts.{all_on}
use Rattle.specs_stage.specs.Cycles.{IsAt}
use Rattle.specs_stage.proofs.CycleSteps.{none_ended, has_ended, cycle_wrote, given_away}
use Rattle.specs_stage.proofs.cycle.Cycle.give.Goals as goal

pub returns-then-has_ended-clause-due : goal.returns-then-has_ended-clause-due
returns-then-has_ended-clause-due c = λ recs is.
    let x = c.args.self.now in
    let ended = has_ended x.at x.is_faulty (sym c.has_ended.ensures ∙ c.if-has_ended.true) in
    ap (all_on 0) c.give.ensures.due
    ∙ cycle_wrote x.items.items recs x.desk x.desk.written.items x.at ended.1 (subst (λ (b : Bool). IsAt x.items.items x.desk x.desk.written.items x.at b recs) ended.0 is)

pub returns-then-has_ended-clause-at : goal.returns-then-has_ended-clause-at
returns-then-has_ended-clause-at c = λ recs is.
    let x = c.args.self.now in
    let ended = has_ended x.at x.is_faulty (sym c.has_ended.ensures ∙ c.if-has_ended.true) in
    subst (λ (b : Bool). IsAt x.items.items c.give.new.self x.desk.written.items x.at b recs) (sym ended.0)
    (given_away x.items.items recs x.desk c.give.new.self x.at ended.1 c.give.ensures.number c.give.ensures.left
    (subst (λ (b : Bool). IsAt x.items.items x.desk x.desk.written.items x.at b recs) ended.0 is))

pub returns-else-has_ended-clause-due : goal.returns-else-has_ended-clause-due
returns-else-has_ended-clause-due c = λ recs is.
    let x = c.args.self.now in
    ap (all_on 0) c.clear.ensures.items
    ∙ none_ended x.items.items recs x.desk x.desk.written.items x.at x.is_faulty is (sym c.has_ended.ensures ∙ c.if-has_ended.false)
