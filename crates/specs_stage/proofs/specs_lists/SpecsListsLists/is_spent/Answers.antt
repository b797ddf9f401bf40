use Rattle.std.proofs.Common.{◌∙◌, sym, ap, arith}
use Rattle.std.proofs.lemmas.Bool.{not-true}
use Rattle.std.proofs.lemmas.List.{drop_all}
use Rattle.pipe_model.specs.Counts.{all_on}
use Rattle.pipe_model.specs.Shape.{writes}
use Rattle.specs_stage.proofs.specs_lists.SpecsListsLists.is_spent.Goals as goal

pub returns-then-self-len : goal.returns-then-self-len
returns-then-self-len c = λ goes_on over t recs acts is.
    let x = c.args.self.now in (
      is.acts_are ∙ ap (λ l. writes (all_on 0 l)) (drop_all x.given x.due.items (omega (arith, c.if-self-len.true, c.len.ensures))),
      sym (c.stops.ensures over t recs acts is) ∙ not-true c.stops.result goes_on,
    )
