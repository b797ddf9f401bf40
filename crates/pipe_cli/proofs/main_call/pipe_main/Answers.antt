use Rattle.call_meaning.proofs.Answering.{answers}
use Rattle.pipe_cli.proofs.main_call.pipe_main.Goals as goal

pub returns : goal.returns
returns g c = record { answers = answers _ _ _ _ _ c.report.result c.run-told.result.outcome c.run-told.ensures.decides c.report.ensures }
