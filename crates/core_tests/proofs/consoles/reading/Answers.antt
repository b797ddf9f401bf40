use Rattle.std.proofs.Common.{◌∙◌, refl, sym, ap, subst, false, [], map}
use Rattle.std.proofs.lemmas.Result.{IfOk-weaker}
use Rattle.pipe_model.specs.declared.kind.Kind.TheVariants.{ConsoleIn}
use Rattle.pipe_model.specs.Records.{lines}
use Rattle.stage_steps.specs.Listed.{only_before}
use Rattle.stage_steps.specs.SharedLists.{LinesStand, lines_look, fresh_lines}
use Rattle.stage_steps.proofs.Fitting.{stage_of, lines_begin}
use Rattle.core_tests.proofs.consoles.reading.Goals as goal

pub returns : goal.returns
returns c =
    let bytes = c.args.bytes.now in
    let t = only_before (map (λ rec. (0, rec)) (lines bytes)) in
    let is = c.new-lines.ensures ∙ ap fresh_lines c.in_ok-from_slice.ensures in
    IfOk-weaker c.new.result _ _ (λ x fresh. stage_of LinesStand lines_look (ConsoleIn bytes) (λ outputs. t) c.new-lines.result _ c.args.outputs.now false x fresh
    (λ s. refl) refl (λ keeps. keeps) (subst (λ l. LinesStand l false t [] []) (sym is) (lines_begin bytes))) c.new.ensures
