use Rattle.std.proofs.Common.{◌∙◌, sym, ap}
use Rattle.pipe_model.specs.SpecsRows.{effect}
use Rattle.specs_stage.specs.Desks.{desk_of}
use Rattle.specs_stage.proofs.desk.Desk.effect.Goals as goal

pub returns-in_ok-write-in-Write-clause-effect : goal.returns-in_ok-write-in-Write-clause-effect
returns-in_ok-write-in-Write-clause-effect c = λ _ coming.
    ap (λ item. effect item (desk_of c.args.self.now c.args.hand.now coming)) c.in-Write.is ∙ sym (c.in_ok-write-in-Write.ensures c.args.hand.now coming)
