use Rattle.std.proofs.Common.{◌≡◌, ◌∙◌, ℕ, refl, sym, ap, subst, Bool, false, List, [], map, Some}
use Rattle.std.proofs.lemmas.Result.{IfOk-weaker}
use Rattle.pipe_model.specs.declared.kind.Kind.{Kind}
use Rattle.pipe_model.specs.declared.kind.Kind.TheVariants.{ConsoleIn, FileIn}
use Rattle.pipe_model.specs.declared.net.Strand.{Strand}
use Rattle.pipe_model.specs.Records.{lines}
use Rattle.pipe_model.specs.Shape.{Stream}
use Rattle.pipe_model.specs.Shape.Order.{WritesFirst as RowWritesFirst}
use Rattle.pipe_model.specs.Table.{line_of}
use Rattle.stage_steps.specs.declared.listed.Listed.{Listed}
use Rattle.stage_steps.specs.declared.order.Order.TheVariants.{WritesFirst}
use Rattle.stage_steps.specs.declared.text_lines.TextLines.{TextLines}
use Rattle.stage_steps.specs.Drivers.{IsFresh, IsStageOf}
use Rattle.stage_steps.specs.Listed.{lists_of, only_before}
use Rattle.stage_steps.specs.SharedLists.{LinesStand, lines_look, fresh_lines}
use Rattle.stage_steps.proofs.Fitting.{stage_of, lines_begin}
use Rattle.device_stages.proofs.source.source.Goals as goal

abbrev stream : List ℕ → Stream
stream bytes = only_before (map (λ rec. (0, rec)) (lines bytes))

-- it is the stage of each kind that writes these lines, and looks at no record
of_kind : (kind : Kind) (bytes : List ℕ) (of_lines : TextLines) (outputs : List Bool) (x : Listed TextLines) → of_lines ≡ fresh_lines bytes →
    ((s : Strand) → lists_of s (line_of kind).shape ≡ Some (record { order = RowWritesFirst; keeps = false; stream = stream bytes })) → false ≡ (line_of kind).looks →
    IsFresh LinesStand lines_look of_lines WritesFirst outputs false x → IsStageOf LinesStand lines_look kind outputs x
of_kind kind bytes of_lines outputs x is lists_are kind_looks fresh =
    stage_of LinesStand lines_look kind (λ _. stream bytes) of_lines WritesFirst outputs false x fresh
    lists_are kind_looks (λ keeps. keeps) (subst (λ l. LinesStand l false (stream bytes) [] []) (sym is) (lines_begin bytes))

pub returns-clause-console : goal.returns-clause-console
returns-clause-console c =
    let is = c.new-lines.ensures ∙ ap fresh_lines c.in_ok-copy.ensures in
    IfOk-weaker c.new.result _ _ (λ x fresh. of_kind (ConsoleIn c.args.bytes.now) c.args.bytes.now c.new-lines.result c.args.outputs.now x is (λ s. refl) refl fresh) c.new.ensures

pub returns-clause-file : goal.returns-clause-file
returns-clause-file c =
    let is = c.new-lines.ensures ∙ ap fresh_lines c.in_ok-copy.ensures in
    IfOk-weaker c.new.result _ _ (λ x fresh name. of_kind (FileIn name (Some c.args.bytes.now)) c.args.bytes.now c.new-lines.result c.args.outputs.now x is (λ s. refl) refl fresh) c.new.ensures
