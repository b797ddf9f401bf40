use Rattle.std.proofs.Common.{◌∙◌, ◌∷◌, sym, ap, arith}
use Rattle.std.proofs.lemmas.Result.{IfOk-weaker}
use Rattle.pipe_model.specs.SpecsRows.{run}
use Rattle.specs_stage.specs.Desks.{before_read}
use Rattle.specs_stage.proofs.desk.Desk.start.Goals as goal

pub returns-clause-ran : goal.returns-clause-ran
returns-clause-ran c = IfOk-weaker c.run.result _ _ (λ count ran low hand coming more.
    ap (run (before_read c.args.items.now)) (sym (c.begin.ensures (omega (arith, low)) hand coming (c.args.rec.now ∷ more))) ∙ ran more) c.run.ensures.ran
