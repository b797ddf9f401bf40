use Rattle.std.proofs.Common.{◌≡◌, refl, sym, ◌∙◌, subst}
use Rattle.std.proofs.lemmas.Result.{on_ok_weaker}
use Rattle.stage_syntax.specs.declared.item_lists.ItemState.TheVariants.{Between, Numbering, Padding, Placing}
use Rattle.stage_syntax.specs.ItemForms.{with_state}
use Rattle.stage_syntax.specs.ItemLists.{IsDraft}
use Rattle.stage_syntax.proofs.Drafts.{after_by}
use Rattle.stage_syntax.proofs.item_lists.ItemLists.take.Goals as goal

pub returns-in-Padding-Byte : goal.returns-in-Padding-Byte
returns-in-Padding-Byte c = on_ok_weaker c.add.result
    (λ made d draft.
    let state : d.state ≡ Padding = sym draft.2 ∙ sym c.replace.ensures.value ∙ c.in-Padding-Byte.is-0 in
    subst (IsDraft c.add.new.self) (sym (after_by d _ _ _ state c.in-Padding-Byte.is-1)) (made (with_state Between d) (draft.0, draft.1, c.replace.ensures.after)))
    c.add.ensures

pub returns-in-Numbering-Range : goal.returns-in-Numbering-Range
returns-in-Numbering-Range c = on_ok_weaker c.add-in-Numbering-Range.result
    (λ made d draft.
    let state : d.state ≡ Numbering c.in-Numbering-Range.counter c.in-Numbering-Range.op = sym draft.2 ∙ sym c.replace.ensures.value ∙ c.in-Numbering-Range.is-0 in
    subst (IsDraft c.add-in-Numbering-Range.new.self) (sym (after_by d _ _ _ state c.in-Numbering-Range.is-1)) (made (with_state Between d) (draft.0, draft.1, c.replace.ensures.after)))
    c.add-in-Numbering-Range.ensures

pub returns-in-Placing-default : goal.returns-in-Placing-default
returns-in-Placing-default c = on_ok_weaker c.align.result
    (λ made d draft.
    let state : d.state ≡ Placing c.in-Placing-default.origin c.in-Placing-default.strip c.in-Placing-default.convert c.in-Placing-default.spot = sym draft.2 ∙ sym c.replace.ensures.value ∙ c.in-Placing-default.is-0 in
    subst (IsDraft c.align.new.self) (sym (after_by d _ _ _ state refl)) (made d (draft.0, draft.1, c.replace.ensures.after)))
    c.align.ensures
