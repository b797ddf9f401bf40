use Rattle.std.proofs.Common.{◌≡◌, length, refl, sym, ◌∙◌, ap, arith}
use Rattle.std.specs.Prelude.{min}
use Rattle.std.specs.List.{remove}
use Rattle.fan_stages.specs.declared.gather.Gather.{Gather}
use Rattle.fan_stages.proofs.Gathers.{gather_end}
use Rattle.fan_stages.proofs.Turns.{removes_none}
use Rattle.fan_stages.proofs.gather.GatherPlans.end.Goals.{then-turn-len, else-turn-len}
use Rattle.fan_stages.proofs.gather.GatherPlans.end.Goals as goal

pub returns-clause-plans : goal.returns-clause-plans
returns-clause-plans c = λ plan k want is fits room.
    let x = c.args.self.now in
    let turn = c.turn-turn.result in
    let left = c.if-turn-len.self in
    let n : c.len.result ≡ length x.open.items = c.len.ensures ∙ x.open.ok.0 in
    let open_is : left.open.items ≡ remove x.open.items turn = (elim c.if-turn-len.branch [
      | then-turn-len w ↦ ap (λ (g : Gather). g.open.items) w.self-is ∙ w.remove.ensures.items
      | else-turn-len w ↦ (let past = w.if-turn-len.false in ap (λ (g : Gather). g.open.items) w.self-is ∙ sym (removes_none x.open.items x.place turn c.turn-turn.ensures (omega (arith, n, past))))
    ]) in
    let place_is : left.place ≡ x.place = (elim c.if-turn-len.branch [
      | then-turn-len w ↦ ap (λ (g : Gather). g.place) w.self-is
      | else-turn-len w ↦ ap (λ (g : Gather). g.place) w.self-is
    ]) in
    gather_end x plan k want c.args._input is turn _ c.turn-turn.ensures open_is (c.min-self.ensures ∙ ap (min left.place) (c.len-2.ensures ∙ left.open.ok.0) ∙ ap (λ p. min p (length left.open.items)) place_is) refl fits
