use Rattle.std.proofs.Common.{◌≡◌, ℕ, false, Option, Some, None, is_some, refl, sym, ◌∙◌, subst}
use Rattle.std.proofs.lemmas.Option.{IfSome_then}
use Rattle.stage_steps.specs.Lists.{Sifts}
use Rattle.stage_steps.specs.declared.sifted.Sifted.TheVariants.{Passes}
use Rattle.select_stages.specs.PickLists.{PickedStand}
use Rattle.select_stages.proofs.PickSifts.{passes_one}
use Rattle.select_stages.proofs.picks.PickedLists.awaits.Goals as goal

none_waits : (waiting : Option ℕ) → is_some waiting ≡ false → None ≡ waiting
none_waits None is = refl
none_waits (Some output) is = absurd cc

pub returns : goal.returns
returns g c =
    let x = c.args.self.now in
    let looks = g.P.Picks.is_looking x.picks in
    IfSome_then c.awaits.result c.awaits.ensures (λ string rejects bytes lacks.
    subst (λ waiting. Sifts (PickedStand g.P.Picks.stands) (λ z. None) looks x (record { picks = x.picks; waiting = waiting }) bytes (Passes 1)) (none_waits x.waiting (sym c.is_some.ensures ∙ c.if-is_some.false))
    (passes_one g.P.Picks.stands looks x x.picks bytes false 1 (rejects bytes lacks) refl
    (λ choice recs stood. sym c.if-halts.false ∙ c.halts.ensures choice recs stood) (λ choice recs stood. sym c.if-stops.false ∙ c.stops.ensures choice recs stood)))
