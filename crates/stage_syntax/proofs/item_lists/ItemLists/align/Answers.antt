use Rattle.std.proofs.Common.{◌≡◌, Some, None, rules}
use Rattle.std.proofs.lemmas.Result.{on_ok_weaker}
use Rattle.pipe_model.specs.declared.items.Align.TheVariants as Aligns
use Rattle.pipe_model.specs.declared.items.Item.TheVariants.{Field}
use Rattle.stage_syntax.specs.declared.item_lists.ItemState.TheVariants.{Between}
use Rattle.stage_syntax.specs.ItemForms.{align_of, with_state, with_item}
use Rattle.stage_syntax.proofs.item_lists.ItemLists.align.Goals as goal

pub returns-then-is_none : goal.returns-then-is_none
returns-then-is_none c =
    let none : align_of c.args.value.now ≡ None = search (rules, c.align_of-align.ensures, c.is_none.ensures, c.if-is_none.true) in
    let left : c.unwrap_or.result ≡ Aligns.Left = search (rules, c.unwrap_or.ensures, c.align_of-align.ensures, none) in
    on_ok_weaker c.begin.result
    (λ begun d draft. rw none (begun (with_item (Field c.args.origin c.args.strip c.args.convert c.args.spot Aligns.Left) d) (rw left at c.in_ok-add.ensures (with_state Between d) draft)))
    c.begin.ensures

pub returns : goal.returns
returns c = λ d draft.
    let some : align_of c.args.value.now ≡ Some c.unwrap_or.result = search (rules, c.align_of-align.ensures, c.is_none.ensures, c.if-is_none.false, c.unwrap_or.ensures) in
    rw some (c.in_ok-add.ensures (with_state Between d) draft)
