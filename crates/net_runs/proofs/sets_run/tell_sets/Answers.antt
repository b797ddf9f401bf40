use Rattle.std.proofs.Common.{◌≡◌, ◌∙◌, ◌+◌, [], length, map, sym, ap}
use Rattle.std.proofs.lemmas.Bool.{eqb-false, eqb-true}
use Rattle.std.proofs.lemmas.List.{nil_from_length}
use Rattle.call_meaning.specs.declared.status.Outcome.TheVariants.{Done, SomeSet}
use Rattle.call_meaning.specs.Sets.{lines_of_sets, outcome_of_sets}
use Rattle.net_runs.specs.SetRuns.{end_of}
use Rattle.net_runs.proofs.SetTexts.{all_zero, some_other, told_all, told_as, told_more}
use Rattle.net_runs.proofs.sets_run.tell_sets.Goals as goal

pub loop-set-preserved : goal.loop-set-preserved
loop-set-preserved g c =
    let ends = map (λ ended. end_of ended) c.args.sets.now in
    record {
      number = ap (λ n. n + 1) c.loop-set.invariant.number;
      lines = told_more c.args.sets.now c.loop-set.number c.loop-set.set-index c.set-item.result c.loop-set-test.true c.set-item.is c.told_of.result.now.outcome c.told_of.ensures.outcome
          c.loop-set.lines.items c.add_set.new.lines.items (lines_of_sets 1 ends) c.loop-set.invariant.lines c.in_ok-add_set.ensures;
    }

pub returns-then-is_empty-clause-outcome : goal.returns-then-is_empty-clause-outcome
returns-then-is_empty-clause-outcome g c =
    let ends = map (λ ended. end_of ended) c.args.sets.now in
    let lines = c.loop-set.lines in
    let all : lines.items ≡ lines_of_sets 1 ends = told_all c.args.sets.now c.loop-set.number c.loop-set.set-index c.loop-set.auto.set-index-end c.loop-set-test.false lines.items (lines_of_sets 1 ends) c.loop-set.invariant.lines in
    let none : lines.items ≡ [] = nil_from_length lines.items (sym lines.ok.0 ∙ eqb-true lines.len 0 (sym c.is_empty.ensures ∙ c.if-is_empty.true)) in
    told_as c.with_text.result Done (outcome_of_sets ends) c.with_text.ensures.same (all_zero lines.items ends all none)

pub returns-clause-outcome : goal.returns-clause-outcome
returns-clause-outcome g c =
    let ends = map (λ ended. end_of ended) c.args.sets.now in
    let lines = c.loop-set.lines in
    let all : lines.items ≡ lines_of_sets 1 ends = told_all c.args.sets.now c.loop-set.number c.loop-set.set-index c.loop-set.auto.set-index-end c.loop-set-test.false lines.items (lines_of_sets 1 ends) c.loop-set.invariant.lines in
    let some = some_other lines.items ends all (λ none. eqb-false lines.len 0 (sym c.is_empty.ensures ∙ c.if-is_empty.false) (lines.ok.0 ∙ ap length none)) in
    told_as c.with_text-2.result (SomeSet c.from_vec.result) (outcome_of_sets ends) c.with_text-2.ensures.same (ap SomeSet c.from_vec.ensures ∙ some)
