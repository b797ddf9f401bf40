use Rattle.std.proofs.Common.{◌∷◌, [], ◌++◌, ◌∙◌, refl, sym, ap}
use Rattle.pipe_model.specs.Counts.{earlier}
use Rattle.pipe_model.specs.SelectionRows.{opens, is_within}
use Rattle.select_stages.specs.Choices.{is_enclosed}
use Rattle.select_stages.specs.Picks.{Choice}
use Rattle.select_stages.proofs.Parts.{earlier-push, is_within-push}
use Rattle.select_stages.proofs.between.EnclosesPicks.pick.Goals as goal

pub returns-clause-picks : goal.returns-clause-picks
returns-clause-picks c = λ choice recs rec is room came.
    let x = c.args.self.now in
    let all = recs ++ rec ∷ [] in
    let behind = c.opens-self.ensures ∙ ap (λ bytes. opens x.first x.second x.is_open bytes) (came refl) ∙ ap (λ before. opens x.first x.second before rec) is.1 ∙ sym (is_within-push x.first x.second recs rec) in (
      (is.0, behind),
      c.is_enclosed.ensures ∙ ap (λ b. is_enclosed x.outer b c.opens-self.result) (is.1 ∙ ap (is_within x.first x.second) (sym (earlier-push recs rec)))
          ∙ ap (is_enclosed x.outer (is_within x.first x.second (earlier all))) behind ∙ ap (λ (t : Choice). t.selects all) (sym is.0),
    )
