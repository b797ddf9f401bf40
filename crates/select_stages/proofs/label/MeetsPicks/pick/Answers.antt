use Rattle.std.proofs.Common.{◌∷◌, [], ◌++◌, ◌∙◌, ◌||◌, refl, sym, ap}
use Rattle.pipe_model.specs.Search.{begins}
use Rattle.pipe_model.specs.SelectionRows.{is_met}
use Rattle.select_stages.specs.Picks.{Choice}
use Rattle.select_stages.proofs.Parts.{is_met-push}
use Rattle.select_stages.proofs.label.MeetsPicks.pick.Goals as goal

pub returns-clause-picks : goal.returns-clause-picks
returns-clause-picks c = λ choice recs rec is room came.
    let x = c.args.self.now in
    let all = recs ++ rec ∷ [] in
    let met = c.meets-self.ensures ∙ ap (λ before. before || begins x.text c.args.bytes.now) is.1 ∙ ap (λ bytes. is_met x.text recs || begins x.text bytes) (came refl) ∙ sym (is_met-push x.text recs rec) in
    ((is.0, met), met ∙ ap (λ (t : Choice). t.selects all) (sym is.0))
