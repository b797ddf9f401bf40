use Rattle.std.proofs.Common.{◌≡◌, ◌<◌, ◌+◌, ◌-◌, suc, true, false, cond, ◌==◌, get_or, set, length, ◌++◌, sym, ◌∙◌, ap, arith}
use Rattle.std.specs.Prelude.{take, drop, min}
use Rattle.std.proofs.lemmas.Bool.Decides.{nat_tests}
use Rattle.std.proofs.lemmas.List.{take_at}
use Rattle.pipe_model.specs.FanRows.{laid_over}
use Rattle.fan_stages.proofs.Laying.{lay_more, lay_end, length_laid, to_the_end}
use Rattle.fan_stages.proofs.overlay.lay.Goals.{then-byte-pad, else-byte-pad}
use Rattle.fan_stages.proofs.overlay.lay.Goals as goal

pub loop-place-preserved : goal.loop-place-preserved
loop-place-preserved c =
    let p = c.loop-place.place in
    let rec = c.args.rec.now in
    let below = c.as_mut_slice-below.result.now in
    let byte = get_or rec p 0 in
    let old = c.loop-place.below in
    let made = c.if-byte-pad.below in
    let set_is : made ≡ cond (byte == c.args.pad) old (set old p byte) = (elim c.if-byte-pad.branch [
      | then-byte-pad w ↦ (let t = w.if-byte-pad.true in let b : (byte == c.args.pad) ≡ false = grind (arith, nat_tests) in w.below-is ∙ ap (λ b. cond b old (set old p byte)) (sym b))
      | else-byte-pad w ↦ (let t = w.if-byte-pad.false in let b : (byte == c.args.pad) ≡ true = grind (arith, nat_tests) in w.below-is ∙ ap (λ b. cond b old (set old p byte)) (sym b))
    ]) in
    let within = c.loop-place-test.true in
    let w = c.min-within.ensures in
    let n : c.len.result ≡ length below = c.len.ensures ∙ c.args.made.now.ok.0 ∙ sym (ap length c.as_mut_slice-below.ensures.value) in
    let low : p < length rec = grind arith in
    let low' : p < length below = grind arith in
    let next : suc p ≡ p + 1 = omega arith in
    record {
      laid = set_is ∙ ap (λ l. cond (byte == c.args.pad) l (set l p byte)) c.loop-place.invariant.laid ∙ sym (lay_more c.args.pad rec below p low low') ∙ ap (λ q. laid_over c.args.pad (take q rec) below) next;
      long = ap length set_is ∙ length_laid (byte == c.args.pad) old p byte ∙ c.loop-place.invariant.long;
    }

pub returns : goal.returns
returns c =
    let rec = c.args.rec.now in
    let below = c.args.made.now.items in
    let same = c.as_mut_slice-below.ensures.value in
    let past = c.loop-place-test.false in
    let till = c.loop-place.auto.place-end in
    let at : c.loop-place.place ≡ c.min-within.result = omega (arith, past, till) in
    let n : c.len.result ≡ length below = c.len.ensures ∙ c.args.made.now.ok.0 in
    let whole : length c.loop-place.below ≡ c.args.made.now.len = c.loop-place.invariant.long ∙ ap length same ∙ sym c.args.made.now.ok.0 in
    let rest = take (length rec - c.min-within.result) (drop c.min-within.result rec) in
    c.in_ok-extend_from_slice.ensures.items
    ∙ ap (λ l. l ++ rest) (take_at c.loop-place.below (drop (length c.loop-place.below) below) c.args.made.now.len whole)
    ∙ ap (λ l. c.loop-place.below ++ l) (to_the_end c.min-within.result rec)
    ∙ ap (λ l. l ++ drop c.min-within.result rec) (c.loop-place.invariant.laid ∙ ap (laid_over c.args.pad (take c.loop-place.place rec)) same ∙ ap (λ p. laid_over c.args.pad (take p rec) below) at)
    ∙ lay_end c.args.pad rec below c.min-within.result (c.min-within.ensures ∙ ap (min (length rec)) n)
