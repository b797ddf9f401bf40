use Rattle.std.proofs.Common.{◌∙◌, sym, subst}
use Rattle.specs_stage.specs.SpecsStage.{AreListsOf}
use Rattle.specs_stage.proofs.Giving.{lists_of_kind}
use Rattle.specs_stage.proofs.stage.SpecsStage.lists.Goals as goal

pub returns : goal.returns
returns c =
    let items = c.in-Specs.items in
    let eof = c.in-Specs.eof in
    subst (λ kind. AreListsOf kind c.new.result) (sym c.in-Specs.is)
    (lists_of_kind items eof c.in_ok-items-in-Specs.items.items c.in_ok-eof-in-Specs.eof c.new.result (c.in_ok-items-in-Specs.ensures ∙ c.as_slice.ensures) c.in_ok-eof-in-Specs.ensures c.new.ensures.reads c.new.ensures.stands)
