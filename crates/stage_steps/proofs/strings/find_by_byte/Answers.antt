use Rattle.std.proofs.Common.{◌+◌, ◌≡◌, arith, true, refl, below_more}
use Rattle.std.proofs.lemmas.List.{length-drop, take_rest}
use Rattle.stage_steps.proofs.Searching.{none_at_all, none_below, none_left, occurs_there, begins_there}
use Rattle.stage_steps.proofs.strings.find_by_byte.Goals as goal

pub returns-in-None : goal.returns-in-None
returns-in-None c =
    none_at_all c.args.part.now c.args.text.now c.args.rare c.loop-from.from c.requires _ (take_rest c.args.part.now (c.loop-from.from + c.args.rare)) c.loop-from.invariant.before c.in-None.ensures

pub returns-then-starts_with_str : goal.returns-then-starts_with_str
returns-then-starts_with_str c =
    let part = c.args.part.now in
    let from = c.loop-from.from in
    let place = from + c.in-Some.ahead in
    let size = length-drop (from + c.args.rare) part in
    let first = c.in-Some.ensures in
    let at = occurs_there part c.args.text.now _ place (let h = rw (take_rest part (from + c.args.rare)) at first.0.high in omega arith) (take_rest part place) (c.starts_with_str.ensures.0 c.if-starts_with_str.true) in (
      record {
        low = omega arith;
        high = let f = at.fits in omega arith;
        before = λ k low below. none_below part c.args.text.now c.args.rare from c.requires _ (take_rest part (from + c.args.rare)) c.loop-from.invariant.before c.in-Some.ahead first.0 k below;
      },
      at,
    )

pub loop-from-preserved : goal.loop-from-preserved
loop-from-preserved c =
    let part = c.args.part.now in
    let from = c.loop-from.from in
    let place = from + c.in-Some.ahead in
    let size = length-drop (from + c.args.rare) part in
    let first = c.in-Some.ensures in
    let high = rw (take_rest part (from + c.args.rare)) at first.0.high in
    record {
      inside = omega arith;
      before = below_more _ _ (none_below part c.args.text.now c.args.rare from c.requires _ (take_rest part (from + c.args.rare)) c.loop-from.invariant.before c.in-Some.ahead first.0)
          (λ at. let yes : c.starts_with_str.result ≡ true = c.starts_with_str.ensures.1 (begins_there part c.args.text.now _ place (omega arith) (take_rest part place) at) in absurd (cc (yes, c.if-starts_with_str.false)));
    }

pub returns : goal.returns
returns c = none_left c.args.part.now c.args.text.now c.args.rare c.loop-from.from c.requires _ refl c.loop-from.invariant.before c.loop-from-test.false
