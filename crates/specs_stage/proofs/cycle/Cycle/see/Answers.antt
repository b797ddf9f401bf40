use Rattle.std.proofs.Common.{◌∙◌, ◌∷◌, [], ◌++◌, ℕ, List, sym, subst}
use Rattle.std.specs.Prelude.{Bool, true}
use Rattle.std.specs.declared.option.Option.{Option}
use Rattle.std.specs.declared.option.Option.TheVariants.{Some}
use Rattle.std.proofs.lemmas.Result.{on_ok_weaker}
use Rattle.pipe_model.specs.declared.items.Item.{Item}
use Rattle.specs_stage.specs.Cycles.{IsAt, IsReached}
use Rattle.specs_stage.proofs.CycleSteps.{stays_faulty, faulty_on}
use Rattle.specs_stage.proofs.cycle.Cycle.see.Goals as goal

pub returns-then-self-clause-at : goal.returns-then-self-clause-at
returns-then-self-clause-at c = λ recs wrote few is.
    let x = c.args.self.now in
    subst (λ (b : Bool). IsAt x.items.items x.desk x.desk.written.items x.at b (recs ++ c.args.rec.now ∷ [])) (sym c.if-self.true)
    (stays_faulty x.items.items recs c.args.rec.now x.desk wrote x.at (subst (λ (b : Bool). IsAt x.items.items x.desk wrote x.at b recs) c.if-self.true is))

pub returns-in-None-clause-at : goal.returns-in-None-clause-at
returns-in-None-clause-at c = λ recs wrote few is.
    let items = c.args.self.now.items.items in
    let y = c.go_on.new.self in
    subst (λ (xs : List Item). IsAt xs y.desk y.desk.written.items y.at true (recs ++ c.args.rec.now ∷ [])) (sym c.in_ok-go_on.ensures.items)
    (faulty_on items recs c.args.rec.now y.desk y.at (subst (λ (o : Option ℕ). IsReached items recs c.args.rec.now y.desk o) c.in-None.is (c.in_ok-go_on.ensures.reached c.if-self.false recs wrote few is)))

pub returns-in-Some-clause-at : goal.returns-in-Some-clause-at
returns-in-Some-clause-at c =
    let items = c.args.self.now.items.items in
    let rec = c.args.rec.now in
    let y = c.go_on.new.self in
    on_ok_weaker c.reach.result (λ f recs wrote few is. f (c.in_ok-go_on.ensures.faulty ∙ c.if-self.false) recs rec
    (subst (λ (xs : List Item). IsReached xs recs rec y.desk (Some c.in-Some.at)) (sym c.in_ok-go_on.ensures.items)
    (subst (λ (o : Option ℕ). IsReached items recs rec y.desk o) c.in-Some.is (c.in_ok-go_on.ensures.reached c.if-self.false recs wrote few is)))) c.reach.ensures.at
