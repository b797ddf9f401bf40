use Rattle.std.proofs.Common.{◌≡◌, ◌<◌, ◌+◌, ◌∙◌, ◌∷◌, ℕ, List, sym, ap, subst, length, drop, arith}
use Rattle.std.specs.Prelude.{Bool, suc, if◌then◌else◌, is_some, IfSome}
use Rattle.std.specs.declared.option.Option.{Option}
use Rattle.std.specs.declared.option.Option.TheVariants.{Some, None}
use Rattle.pipe_model.specs.declared.items.Item.{Item}
use Rattle.pipe_model.specs.SpecsRows.{run, begun}
use Rattle.specs_stage.specs.Desks.{desk_of, before_read}
use Rattle.specs_stage.specs.Cycles.{IsAt, come}
use Rattle.specs_stage.proofs.CycleSteps.{started, went, both_ok, reached_short}
use Rattle.specs_stage.proofs.cycle.Cycle.go_on.Goals as goal

pub returns-then-self-eq0-clause-reached : goal.returns-then-self-eq0-clause-reached
returns-then-self-eq0-clause-reached c =
    let x = c.args.self.now in
    let items = x.items.items in
    let rec = c.args.rec.now in
    both_ok c.start.result _ _ _ (λ count ran size good recs wrote few is.
    let low : x.desk.number < 50000000 = omega (arith, is.number good, few) in
    started items recs rec x.desk c.start.new.self wrote x.at count c.if-self-eq0.true (subst (λ (b : Bool). IsAt items x.desk wrote x.at b recs) good is)
    (λ hand coming more. ap (λ xs. run (before_read xs) (begun (desk_of x.desk hand coming) (rec ∷ more))) (sym c.deref.ensures.value) ∙ ran low hand coming more)
    (subst (λ (xs : List Item). IfSome count (λ n. n ≡ length (before_read xs))) c.deref.ensures.value size)) c.start.ensures.ran c.start.ensures.count

pub returns-in-Some-clause-reached : goal.returns-in-Some-clause-reached
returns-in-Some-clause-reached c = λ good recs wrote few is.
    let x = c.args.self.now in
    let items = x.items.items in
    let rec = c.args.rec.now in
    let n = c.in-Some.count in
    let from = c.items_from.ensures ∙ ap (drop x.at) c.deref-2.ensures.value in
    let all = went items recs rec x.desk c.run.new.self wrote x.at (Some n) c.if-self-eq0.false (subst (λ (b : Bool). IsAt items x.desk wrote x.at b recs) good is)
    (λ more. ap (λ xs. run (before_read xs) (desk_of x.desk rec more)) (sym from) ∙ c.in_ok-count.ensures.ran more ∙ ap (λ o. if is_some o then Some (desk_of c.run.new.self rec more) else None) c.in-Some.is)
    (subst (λ (xs : List Item). n ≡ length (before_read xs)) from (subst (λ (o : Option ℕ). IfSome o (λ n. n ≡ length (before_read c.items_from.result.now))) c.in-Some.is c.in_ok-count.ensures.count)) in
    let short = reached_short (suc (come items recs)) items in
    let place : c.saturating_add.result ≡ x.at + n = omega (arith, c.saturating_add.ensures, all.1, short, x.items.small) in
    (all.0, place ∙ all.1, all.2)

pub returns-in-None-clause-reached : goal.returns-in-None-clause-reached
returns-in-None-clause-reached c = λ good recs wrote few is.
    let x = c.args.self.now in
    let items = x.items.items in
    let rec = c.args.rec.now in
    let from = c.items_from.ensures ∙ ap (drop x.at) c.deref-2.ensures.value in
    went items recs rec x.desk c.run.new.self wrote x.at None c.if-self-eq0.false (subst (λ (b : Bool). IsAt items x.desk wrote x.at b recs) good is)
    (λ more. ap (λ xs. run (before_read xs) (desk_of x.desk rec more)) (sym from) ∙ c.in_ok-count.ensures.ran more ∙ ap (λ o. if is_some o then Some (desk_of c.run.new.self rec more) else None) c.in-None.is)
    tt
