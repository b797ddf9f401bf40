use Rattle.std.proofs.Common.{◌<◌, map, ◌∙◌, ap, subst, arith, get_or}
use Rattle.std.proofs.lemmas.List.Elements.{All-set}
use Rattle.net_graph.specs.Fed.{with_input}
use Rattle.call_streams.specs.Feeding.{IsWholeSet, set_with}
use Rattle.call_streams.proofs.SetFillings.{all_changed, set_changed, set_was}
use Rattle.call_streams.proofs.sets.give_all_input.Goals as goal

pub loop-set-preserved : goal.loop-set-preserved
loop-set-preserved c =
    let change = set_with (with_input c.in_ok-input.input) in
    let sets = c.args.sets.now.items in
    let k = c.loop-set.set-index in
    let now = c.loop-set.set-items in
    let d = c.set-item.result in
    let was = set_was change sets k now c.loop-set.invariant.fed d (subst (λ n. k < n) c.loop-set.invariant.end c.loop-set-test.true) in
    record {
      end = c.loop-set.invariant.end;
      fed = set_changed change sets k now c.loop-set.invariant.fed (get_or now k d) c.give_set_input.new.set was c.in_ok-give_set_input.ensures.fed;
      whole = All-set IsWholeSet now k c.give_set_input.new.set c.in_ok-give_set_input.ensures.whole c.loop-set.invariant.whole;
    }

pub returns-clause-fed : goal.returns-clause-fed
returns-clause-fed c =
    let sets = c.args.sets.now.items in
    let end = c.loop-set.invariant.end in
    let within = c.loop-set.auto.set-index-end in
    let none = c.loop-set-test.false in
    all_changed (set_with (with_input c.in_ok-input.input)) sets c.loop-set.set-index c.loop-set.set-items c.loop-set.invariant.fed c.args.sets.now.len c.args.sets.now.ok.0 (omega (arith, end, within, none))
    ∙ ap (λ input. map (set_with (with_input input)) sets) c.in_ok-input.ensures
