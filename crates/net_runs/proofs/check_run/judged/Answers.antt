use Rattle.std.proofs.Common.{ℕ, Vec, Global, ◌∙◌, ap}
use Rattle.call_meaning.specs.declared.status.Outcome.{Outcome}
use Rattle.call_meaning.specs.Meaning.{legal_line}
use Rattle.call_streams.proofs.CheckReplies.{judged_illegal, judged_legal}
use Rattle.net_runs.proofs.check_run.judged.Goals as goal
use Rattle.net_runs.proofs.check_run.judged.Goals.{in-Legal+in_ok-line-in-Legal, in-Illegal}

pub returns-clause-means : goal.returns-clause-means
returns-clause-means g c =
    elim c.match-branch-3.branch [
      | in-Legal+in_ok-line-in-Legal w ↦
          judged_legal c.args.net c.args.journal.now c.in_ok-complete.field-0 w.in-Legal.complete c.match-branch-3.text.0.items c.in_ok-told.told.outcome
          c.in_ok-complete.ensures w.in-Legal.is
          (ap (λ (made : Vec ℕ Global × Outcome). made.0.items) w.text-is ∙ w.in_ok-line-in-Legal.ensures ∙ ap (λ count. legal_line count w.in-Legal.complete) w.len.ensures)
          (c.in_ok-told.ensures.same ∙ ap (λ (made : Vec ℕ Global × Outcome). made.1) w.text-is)
      | in-Illegal w ↦
          judged_illegal c.args.net c.args.journal.now c.in_ok-complete.field-0 w.in-Illegal.entry c.match-branch-3.text.0.items c.in_ok-told.told.outcome
          c.in_ok-complete.ensures w.in-Illegal.is
          (ap (λ (made : Vec ℕ Global × Outcome). made.0.items) w.text-is ∙ w.new.ensures.items)
          (c.in_ok-told.ensures.same ∙ ap (λ (made : Vec ℕ Global × Outcome). made.1) w.text-is)
    ]
