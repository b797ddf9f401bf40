-- A turn of the loop adds a round.
use Rattle.std.proofs.Common.{◌++◌, ◌∷◌, [], List, ◌∙◌, ap}
use Rattle.pipe_model.specs.declared.step.Entry.{Entry}
use Rattle.step_journal.proofs.Rounds.{round_more}
use Rattle.step_journal.proofs.journal.add_rounds.Goals as goal

pub loop-preserved : goal.loop-preserved
loop-preserved c =
    c.in_ok-push-3.ensures.items
    ∙ ap (λ (l : List Entry). l ++ c.args.third ∷ []) c.in_ok-push-2.ensures.items
    ∙ ap (λ (l : List Entry). (l ++ c.args.second ∷ []) ++ c.args.third ∷ []) c.in_ok-push.ensures.items
    ∙ ap (λ (l : List Entry). ((l ++ c.args.first ∷ []) ++ c.args.second ∷ []) ++ c.args.third ∷ []) c.loop.invariant
    ∙ round_more c.args.all.now.items c.args.first c.args.second c.args.third c.loop.counter
