use Rattle.std.proofs.Common.{◌≡◌, ◌∙◌, refl, sym, ap, subst, Bool, true, false, List, [], Some}
use Rattle.std.proofs.lemmas.Result.{IfOk-weaker}
use Rattle.pipe_model.specs.declared.kind.Kind.{Kind}
use Rattle.pipe_model.specs.declared.kind.Kind.TheVariants.{ConsoleOut, FileOut}
use Rattle.pipe_model.specs.declared.net.Strand.{Strand}
use Rattle.pipe_model.specs.Shape.{each_record, copied}
use Rattle.pipe_model.specs.Shape.Order.{WritesFirst as RowWritesFirst}
use Rattle.pipe_model.specs.Table.{line_of}
use Rattle.stage_steps.specs.declared.copies.Copies.{Copies}
use Rattle.stage_steps.specs.declared.each.Each.{Each}
use Rattle.stage_steps.specs.declared.listed.Listed.{Listed}
use Rattle.stage_steps.specs.declared.order.Order.TheVariants.{WritesFirst}
use Rattle.stage_steps.specs.Drivers.{IsFresh, IsStageOf}
use Rattle.stage_steps.specs.Each.{EachStand, each_look}
use Rattle.stage_steps.specs.Listed.{lists_of}
use Rattle.stage_steps.specs.SharedLists.{CopiesStand, copies_look, fresh_copies}
use Rattle.stage_steps.proofs.Fitting.{stage_of, copies_begin, fresh_copies_look}
use Rattle.device_stages.proofs.sink.sink.Goals as goal

-- it is the stage of each kind that copies and keeps what it takes
of_kind : (kind : Kind) (lists : Each Copies) (outputs : List Bool) (x : Listed (Each Copies)) → lists ≡ fresh_copies true →
    ((s : Strand) → lists_of s (line_of kind).shape ≡ Some (record { order = RowWritesFirst; keeps = true; stream = each_record copied })) → true ≡ (line_of kind).looks →
    IsFresh (EachStand CopiesStand) (each_look copies_look) lists WritesFirst outputs true x → IsStageOf (EachStand CopiesStand) (each_look copies_look) kind outputs x
of_kind kind lists outputs x is lists_are kind_looks fresh =
    let looks = ap (each_look copies_look) is ∙ fresh_copies_look true in
    stage_of (EachStand CopiesStand) (each_look copies_look) kind (λ _. each_record copied) lists WritesFirst outputs true x fresh
    lists_are (looks ∙ kind_looks) (λ keeps. looks) (subst (λ l. EachStand CopiesStand l false (each_record copied) [] []) (sym is) (copies_begin true))

pub returns-clause-console : goal.returns-clause-console
returns-clause-console c = IfOk-weaker c.new.result _ _ (λ x fresh. of_kind ConsoleOut c.lists.result c.args.outputs.now x c.lists.ensures (λ s. refl) refl fresh) c.new.ensures

pub returns-clause-file : goal.returns-clause-file
returns-clause-file c = IfOk-weaker c.new.result _ _ (λ x fresh name. of_kind (FileOut name) c.lists.result c.args.outputs.now x c.lists.ensures (λ s. refl) refl fresh) c.new.ensures
