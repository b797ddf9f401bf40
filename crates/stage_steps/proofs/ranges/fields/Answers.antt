use Rattle.std.proofs.Common.{◌∙◌, sym, ap, drop}
use Rattle.std.specs.Prelude.{◌==◌}
use Rattle.std.specs.List.{slice_split, join_with_byte}
use Rattle.pipe_model.specs.Ranges.{between}
use Rattle.stage_steps.proofs.Fields.{behind_is}
use Rattle.stage_steps.proofs.ranges.fields.Goals as goal

pub returns-in-None : goal.returns-in-None
returns-in-None c =
    behind_is c.saturating_sub.result c.args.rec.now c.behind_fields-rest.result.now c.behind_fields-rest.ensures
    ∙ ap (λ n. join_with_byte 9 (drop n (slice_split (λ b. b == 9) c.args.rec.now))) c.saturating_sub.ensures
    ∙ ap (λ l. join_with_byte 9 (between c.args.first l (slice_split (λ b. b == 9) c.args.rec.now))) (sym c.in-None.is)
