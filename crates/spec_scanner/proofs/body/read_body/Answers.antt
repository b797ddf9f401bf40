use Rattle.std.proofs.Common.{arith, drop, length-drop, subst}
use Rattle.std.proofs.lemmas.List.{take_rest}
use Rattle.spec_scanner.specs.Body.{IsItem, IsTail}
use Rattle.spec_scanner.proofs.Bodies.{after_more, after_within, item_there, lead_more, lead_all, left_is}
use Rattle.spec_scanner.proofs.body.read_body.Goals as goal
use Rattle.spec_scanner.proofs.body.read_body.Goals.{In-Some}

-- the item stands at the place
item_read : (c : In-Some) → IsItem c.args.signs c.loop-item.at (drop c.loop-item.at c.args.text.now) c.in-Some.item (drop c.in-Some.item.after c.args.text.now)
item_read c = item_there _ c.loop-item.at c.args.text.now c.in-Some.item c.in-Some.ensures

pub loop-item-smaller : goal.loop-item-smaller
loop-item-smaller c =
    let more = after_more _ c.loop-item.at _ _ c.in-Some.item (item_read (goal.at.loop-item-smaller c).In-Some) in
    let within = after_within _ c.loop-item.at _ _ c.in-Some.item (item_read (goal.at.loop-item-smaller c).In-Some) in
    omega (arith, length-drop c.loop-item.at c.args.text.now)

pub loop-item-preserved : goal.loop-item-preserved
loop-item-preserved c =
    let within = after_within _ c.loop-item.at _ _ c.in-Some.item (item_read (goal.at.loop-item-preserved c).In-Some) in
    record {
      within = omega (arith, length-drop c.loop-item.at c.args.text.now, c.loop-item.invariant.within);
      lead = λ more tail body. rw c.in_ok-push.ensures.items (lead_more c.args.signs c.args.start c.loop-item.at _ _ _ c.loop-item.items.items c.in-Some.item c.loop-item.invariant.lead (item_read (goal.at.loop-item-preserved c).In-Some) more tail body);
    }

pub returns : goal.returns
returns c =
    let tail : IsTail c.args.signs (drop c.loop-item.at c.args.text.now) = subst (IsTail c.args.signs) (take_rest c.args.text.now c.loop-item.at) c.in_default.ensures in
    (drop c.loop-item.at c.args.text.now, lead_all c.args.signs c.args.start c.loop-item.at _ _ c.loop-item.items.items c.loop-item.invariant.lead tail, left_is c.args.text.now c.loop-item.at)
