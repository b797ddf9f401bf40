use Rattle.std.proofs.Common.{◌∷◌, [], ◌++◌, ◌∙◌, length, sym, ap}
use Rattle.pipe_model.proofs.Lists.{length_more}
use Rattle.pipe_model.specs.Counts.{is_among}
use Rattle.stage_steps.specs.Group.{has_more}
use Rattle.select_stages.specs.Choices.{left_behind, one_less}
use Rattle.select_stages.specs.Picks.{Choice}
use Rattle.select_stages.proofs.FirstRecords.{left_behind-suc, next_among}
use Rattle.select_stages.proofs.take.TakesPicks.pick.Goals as goal

pub returns-clause-picks : goal.returns-clause-picks
returns-clause-picks c = λ choice recs rec is room came.
    let all = recs ++ rec ∷ [] in
    let more = sym (length_more recs rec) in (
      (is.0, is.1, c.one_less-self.ensures ∙ ap one_less is.2 ∙ sym (left_behind-suc is.0 (length recs)) ∙ ap (left_behind is.0) more),
      c.has_more-is_first.ensures ∙ ap has_more is.2 ∙ next_among is.0 (length recs) ∙ ap (is_among is.0) more ∙ ap (λ (t : Choice). t.selects all) (sym is.1),
    )
