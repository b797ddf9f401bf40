use Rattle.std.proofs.Common.{◌∷◌, [], ◌++◌, ◌∙◌, refl, sym, ap}
use Rattle.pipe_model.specs.SelectionRows.{agrees}
use Rattle.select_stages.specs.Picks.{Choice}
use Rattle.stage_steps.proofs.Walks.{at_hand}
use Rattle.select_stages.proofs.find.FindsPicks.pick.Goals as goal

pub returns-clause-picks : goal.returns-clause-picks
returns-clause-picks c = λ choice recs rec is room came.
    let x = c.args.self.now in
    let all = recs ++ rec ∷ [] in (
      is,
      c.agrees.ensures ∙ ap (λ text. agrees text c.args.bytes.now) c.bytes.ensures ∙ ap (agrees x.text) (came refl ∙ sym (at_hand recs rec)) ∙ ap (λ (t : Choice). t.selects all) (sym is),
    )
