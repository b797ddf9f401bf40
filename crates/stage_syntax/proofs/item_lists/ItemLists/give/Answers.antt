use Rattle.std.proofs.Common.{◌≡◌, rules, of_z, to_z, w64}
use Rattle.std.proofs.lemmas.Int.{to_z-of_z}
use Rattle.std.proofs.lemmas.Result.{on_ok_weaker}
use mir.Val.{SFits}
use Rattle.stage_syntax.specs.declared.item_lists.ItemState.TheVariants.{Between}
use Rattle.stage_syntax.specs.ItemForms.{with_state}
use Rattle.stage_syntax.proofs.item_lists.ItemLists.give.Goals as goal

pub returns-in-Whole : goal.returns-in-Whole
returns-in-Whole c =
    let fits : SFits w64 c.in-Whole.number = search rules in
    let number : to_z w64 (of_z w64 c.in-Whole.number) ≡ c.in-Whole.number = to_z-of_z w64 c.in-Whole.number fits in
    on_ok_weaker c.add.result (λ made d draft state. rw c.in-Whole.is (rw number at made (with_state Between d) draft)) c.add.ensures

pub returns-in-Counter : goal.returns-in-Counter
returns-in-Counter c = on_ok_weaker c.add-in-Counter.result (λ made d draft state. rw c.in-Counter.is (made (with_state Between d) draft)) c.add-in-Counter.ensures
