use Rattle.std.proofs.Common.{refl, sym, ap}
use Rattle.std.specs.Box.{with_value}
use Rattle.stage_steps.proofs.HandingOn.{shows_held, cuts_held}
use Rattle.stage_steps.proofs.boxed.BoxStage.show.Goals as goal

pub returns-clause-shows : goal.returns-clause-shows
returns-clause-shows g c =
    let held = c.args.self.now in
    shows_held g.T.Stage.stands (with_value held) (λ x s h. g.T.Stage.stands x.value s h) (λ x s h is. is) (λ x s h is. is) g.T.Stage.showing (λ x. g.T.Stage.showing x.value) (λ x. refl)
    held c.deref_mut.result.now c.show.new.self c.args.o c.show.result (ap (with_value held) (sym c.deref_mut.ensures.value)) c.show.ensures.shows

pub returns-clause-cuts : goal.returns-clause-cuts
returns-clause-cuts g c =
    let held = c.args.self.now in
    cuts_held (with_value held) g.T.Stage.ahead g.T.Stage.showing (λ x. g.T.Stage.ahead x.value) (λ x. g.T.Stage.showing x.value) (λ x. refl) (λ x. refl)
    held c.deref_mut.result.now c.show.new.self c.show.result (ap (with_value held) (sym c.deref_mut.ensures.value)) c.show.ensures.cuts
