use Rattle.std.proofs.Common.{◌∙◌, sym}
use Rattle.std.specs.Prelude.{true, false}
use Rattle.specs_stage.proofs.Giving.{code_is}
use Rattle.specs_stage.proofs.specs_lists.SpecsListsLists.code.Goals as goal

pub returns-then-is_faulty : goal.returns-then-is_faulty
returns-then-is_faulty c = λ over t recs acts is ends. code_is c.args.self.now true over t recs acts (sym c.is_faulty.ensures.value ∙ c.if-is_faulty.true) is ends

pub returns-else-is_faulty : goal.returns-else-is_faulty
returns-else-is_faulty c = λ over t recs acts is ends. code_is c.args.self.now false over t recs acts (sym c.is_faulty.ensures.value ∙ c.if-is_faulty.false) is ends
