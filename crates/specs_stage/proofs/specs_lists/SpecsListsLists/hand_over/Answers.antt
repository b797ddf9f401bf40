use Rattle.std.proofs.Common.{◌∙◌, refl, ap, sym, arith}
use Rattle.std.specs.Prelude.{get_or}
use Rattle.std.specs.Vec.{with_item}
use Rattle.specs_stage.proofs.Giving.{hands_one, hands_none}
use Rattle.specs_stage.proofs.specs_lists.SpecsListsLists.hand_over.Goals as goal

pub returns-then-place-len-clause-hands : goal.returns-then-place-len-clause-hands
returns-then-place-len-clause-hands c =
    let x = c.args.self.now in
    let place = c.saturating_sub-place.result in
    let y = record x { due = with_item x.due place c.replace.new.dest } in
    hands_one x y place c.replace.result c.replace.new.dest c.saturating_sub-place.ensures refl
    (c.replace.ensures.value ∙ c.index_mut.ensures.value ∙ ap (get_or x.due.items place) (sym c.replace.ensures.value))

pub returns-else-place-len-clause-hands : goal.returns-else-place-len-clause-hands
returns-else-place-len-clause-hands c =
    let x = c.args.self.now in
    hands_none x c.saturating_sub-place.result c.from_vec-none.result c.saturating_sub-place.ensures (omega (arith, c.if-place-len.false, c.len.ensures, x.due.ok.0))
