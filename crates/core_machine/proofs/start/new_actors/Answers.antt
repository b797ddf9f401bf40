use Rattle.std.proofs.Common.{rules, ◌≡◌, List, [], length, sym, subst}
use Rattle.std.proofs.lemmas.List.{append-nil}
use Rattle.std.specs.Vec.Iter.{into_iter_items}
use Rattle.core_machine.specs.declared.actor.Actor.{Actor}
use Rattle.core_machine.specs.Start.{AreNew}
use Rattle.core_machine.proofs.Tales.{none_of}
use Rattle.core_machine.proofs.start.new_actors.Goals as goal

pub returns : goal.returns
returns g c =
    let actors : List (Actor g.row.S.Denot) = c.loop-stage.actors.items in
    let first : into_iter_items c.into_iter-stage-iterator.result ≡ c.args.stages.items = search rules in
    let over = c.in-None.ensures.steps in
    let none : length (into_iter_items c.loop-stage.stage-iterator) ≡ 0 = search (rules, over) in
    let all = c.loop-stage.invariant [] (subst (λ xs. AreNew g.S.Stage.stands xs []) (sym (none_of (into_iter_items c.loop-stage.stage-iterator) none)) tt) in
    subst (λ xs. AreNew g.S.Stage.stands xs actors) first (subst (AreNew g.S.Stage.stands (into_iter_items c.into_iter-stage-iterator.result)) (append-nil actors) all)
