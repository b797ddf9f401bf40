-- It was looked back from one strand more.
use Rattle.std.proofs.Common.{arith, ◌≡◌, ◌<◌, length, sym, ◌∙◌, ap, Some, replicate, slice_get, rules}
use Rattle.std.proofs.lemmas.List.{with_items_is}
use Rattle.std.proofs.lemmas.Option.{get_or_from_slice_get, slice_get-get_or}
use Rattle.stall_lint.specs.declared.rings.Look.TheVariants.{New}
use Rattle.stall_lint.proofs.LookingBack.{all_ranked, none_looked, one_more_looked, was_looked}
use Rattle.stall_lint.proofs.rings.ring.Goals as goal
use Rattle.stall_lint.proofs.rings.ring.Goals.{in-New+in_ok-ring+in_default-2, in_default}

pub loop-start-init : goal.loop-start-init
loop-start-init c =
    let net = c.args.net.now in
    let blank : c.in_ok-looks.looks.items ≡ replicate (length c.as_slice-count.result.now) New = search rules in
    none_looked net c.in_ok-waiting.waiting.items c.in_ok-looks.looks.items c.in_ok-waiting.ensures (blank ∙ ap (λ xs. replicate (length xs) New) c.as_slice-count.ensures)

pub look_back-requires-clause-fresh : goal.look_back-requires-clause-fresh
look_back-requires-clause-fresh c =
    let start = c.loop-start.start in
    let looks = c.loop-start.looks.items in
    let count = c.loop-start.invariant.search.count in
    let long = ap length c.as_slice-count.ensures in
    let lt : start < length looks = omega (arith, count, long, c.loop-start-test.true) in
    ap (λ xs. slice_get xs start) c.deref_mut-in-New.ensures.value ∙ slice_get-get_or looks start c.index.result.now lt ∙ ap Some (sym c.index.ensures ∙ c.in-New.is)

pub loop-start-preserved : goal.loop-start-preserved
loop-start-preserved c =
    let start = c.loop-start.start in
    let waiting = c.loop-start.waiting.items in
    let looks = c.loop-start.looks.items in
    elim c.match-index.branch [
      | in-New+in_ok-ring+in_default-2 w ↦ (
          let found = rw w.in_default-2.is at w.in_ok-ring.ensures in
          let more = rw w.deref_mut-in-New.ensures.value at found in
          let waiting_is : c.match-index.waiting.items ≡ w.look_back.new.waiting = ap (λ v. v.items) w.waiting-is ∙ with_items_is c.loop-start.waiting w.look_back.new.waiting (w.look_back.auto.waiting ∙ w.deref_mut.ensures.len) in
          let looks_is : c.match-index.looks.items ≡ w.look_back.new.looks = ap (λ v. v.items) w.looks-is ∙ with_items_is c.loop-start.looks w.look_back.new.looks (w.look_back.auto.looks ∙ w.deref_mut-in-New.ensures.len) in
          rw (waiting_is, looks_is) (one_more_looked c.args.net.now start waiting w.look_back.new.waiting looks w.look_back.new.looks c.loop-start.invariant more))
      | in_default w ↦ (
          let known : slice_get looks start ≡ Some New → ⊥ = λ new. w.in_default.not-New (c.index.ensures ∙ get_or_from_slice_get looks start New c.index.result.now new) in
          rw (w.waiting-is, w.looks-is) (was_looked c.args.net.now start waiting looks c.loop-start.invariant known))
    ]

pub returns : goal.returns
returns c =
    let end = c.loop-start.auto.start-end in
    let long = ap length c.as_slice-count.ensures in
    all_ranked c.args.net.now c.requires.formed c.requires.undammed c.loop-start.start c.loop-start.waiting.items c.loop-start.looks.items (omega (arith, long, c.loop-start-test.false)) c.loop-start.invariant
