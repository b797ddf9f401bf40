use Rattle.std.proofs.Common.{◌∙◌, refl, sym, ap, subst, true, false, []}
use Rattle.std.proofs.lemmas.Result.{IfOk-weaker}
use Rattle.pipe_model.specs.declared.kind.Kind.TheVariants.{ConsoleOut}
use Rattle.pipe_model.specs.Shape.{each_record, copied}
use Rattle.stage_steps.specs.Each.{EachStand, each_look}
use Rattle.stage_steps.specs.SharedLists.{CopiesStand, copies_look}
use Rattle.stage_steps.proofs.Fitting.{stage_of, copies_begin, fresh_copies_look}
use Rattle.core_tests.proofs.consoles.writing.Goals as goal

pub returns : goal.returns
returns c =
    let looks = ap (each_look copies_look) c.lists-copies.ensures ∙ fresh_copies_look true in
    IfOk-weaker c.new.result _ _ (λ x fresh. stage_of (EachStand CopiesStand) (each_look copies_look) ConsoleOut (λ outputs. each_record copied) c.lists-copies.result _ c.args.outputs.now true x fresh
    (λ s. refl) looks (λ keeps. looks) (subst (λ l. EachStand CopiesStand l false (each_record copied) [] []) (sym c.lists-copies.ensures) (copies_begin true))) c.new.ensures
