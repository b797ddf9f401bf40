use Rattle.std.proofs.Common.{◌∷◌, [], ◌++◌, ◌∙◌, refl, sym, ap}
use Rattle.pipe_model.specs.Ranges.{locates}
use Rattle.select_stages.specs.Picks.{Choice}
use Rattle.stage_steps.proofs.Walks.{at_hand}
use Rattle.select_stages.proofs.locate.LocatesPicks.pick.Goals as goal

pub returns-clause-picks : goal.returns-clause-picks
returns-clause-picks c = λ choice recs rec is room came.
    let x = c.args.self.now in
    let all = recs ++ rec ∷ [] in (
      is,
      c.locates.ensures ∙ ap (locates x.range x.sought) (came refl ∙ sym (at_hand recs rec)) ∙ ap (λ (t : Choice). t.selects all) (sym is),
    )
