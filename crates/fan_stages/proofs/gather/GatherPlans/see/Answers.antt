use Rattle.std.proofs.Common.{◌≡◌, ◌+◌, true, false, cond, ltb, length, sym, ◌∙◌, ap, arith}
use Rattle.std.proofs.lemmas.Bool.Decides.{nat_tests}
use Rattle.fan_stages.proofs.Gathers.{gather_saw}
use Rattle.fan_stages.proofs.gather.GatherPlans.see.Goals.{then-self-len, else-self-len}
use Rattle.fan_stages.proofs.gather.GatherPlans.see.Goals as goal

pub returns-clause-plans : goal.returns-clause-plans
returns-clause-plans c = λ rec came plan k want is fits room.
    let x = c.args.self.now in
    let n : c.len.result ≡ length x.open.items = c.len.ensures ∙ x.open.ok.0 in
    let place_is : c.if-self-len.self ≡ cond (ltb x.place (length x.open.items)) (x.place + 1) 1 = (elim c.if-self-len.branch [
      | then-self-len w ↦ (let t = w.if-self-len.true in let b : ltb x.place (length x.open.items) ≡ true = grind (arith, nat_tests) in w.self-is ∙ ap (λ b. cond b (x.place + 1) 1) (sym b))
      | else-self-len w ↦ (let t = w.if-self-len.false in let b : ltb x.place (length x.open.items) ≡ false = grind (arith, nat_tests) in w.self-is ∙ ap (λ b. cond b (x.place + 1) 1) (sym b))
    ]) in
    gather_saw x plan k want c.args.input is rec c.if-self-len.self place_is fits
