use Rattle.std.proofs.Common.{◌≡◌, true, subst}
use Rattle.select_stages.specs.AnyPick.{AnyPicksStand, any_pick_looks}
use Rattle.select_stages.proofs.any_pick.AnyPickPicks.pick.Goals as goal

pub returns-in-Locate-clause-picks : goal.returns-in-Locate-clause-picks
returns-in-Locate-clause-picks c = λ choice recs rec is room came.
    c.pick.ensures.picks choice recs rec (subst (λ x. AnyPicksStand x choice recs) c.in-Locate.is is) room (subst (λ x. any_pick_looks x ≡ true → c.args.bytes.now ≡ rec) c.in-Locate.is came)

pub returns-in-Nlocate-clause-picks : goal.returns-in-Nlocate-clause-picks
returns-in-Nlocate-clause-picks c = λ choice recs rec is room came.
    c.pick-in-Nlocate.ensures.picks choice recs rec (subst (λ x. AnyPicksStand x choice recs) c.in-Nlocate.is is) room (subst (λ x. any_pick_looks x ≡ true → c.args.bytes.now ≡ rec) c.in-Nlocate.is came)

pub returns-in-Find-clause-picks : goal.returns-in-Find-clause-picks
returns-in-Find-clause-picks c = λ choice recs rec is room came.
    c.pick-in-Find.ensures.picks choice recs rec (subst (λ x. AnyPicksStand x choice recs) c.in-Find.is is) room (subst (λ x. any_pick_looks x ≡ true → c.args.bytes.now ≡ rec) c.in-Find.is came)

pub returns-in-Nfind-clause-picks : goal.returns-in-Nfind-clause-picks
returns-in-Nfind-clause-picks c = λ choice recs rec is room came.
    c.pick-in-Nfind.ensures.picks choice recs rec (subst (λ x. AnyPicksStand x choice recs) c.in-Nfind.is is) room (subst (λ x. any_pick_looks x ≡ true → c.args.bytes.now ≡ rec) c.in-Nfind.is came)

pub returns-in-TakeFirst-clause-picks : goal.returns-in-TakeFirst-clause-picks
returns-in-TakeFirst-clause-picks c = λ choice recs rec is room came.
    c.pick-in-TakeFirst.ensures.picks choice recs rec (subst (λ x. AnyPicksStand x choice recs) c.in-TakeFirst.is is) room (subst (λ x. any_pick_looks x ≡ true → c.args.bytes.now ≡ rec) c.in-TakeFirst.is came)

pub returns-in-DropFirst-clause-picks : goal.returns-in-DropFirst-clause-picks
returns-in-DropFirst-clause-picks c = λ choice recs rec is room came.
    c.pick-in-DropFirst.ensures.picks choice recs rec (subst (λ x. AnyPicksStand x choice recs) c.in-DropFirst.is is) room (subst (λ x. any_pick_looks x ≡ true → c.args.bytes.now ≡ rec) c.in-DropFirst.is came)

pub returns-in-Between-clause-picks : goal.returns-in-Between-clause-picks
returns-in-Between-clause-picks c = λ choice recs rec is room came.
    c.pick-in-Between.ensures.picks choice recs rec (subst (λ x. AnyPicksStand x choice recs) c.in-Between.is is) room (subst (λ x. any_pick_looks x ≡ true → c.args.bytes.now ≡ rec) c.in-Between.is came)

pub returns-in-ToLabel-clause-picks : goal.returns-in-ToLabel-clause-picks
returns-in-ToLabel-clause-picks c = λ choice recs rec is room came.
    c.pick-in-ToLabel.ensures.picks choice recs rec (subst (λ x. AnyPicksStand x choice recs) c.in-ToLabel.is is) room (subst (λ x. any_pick_looks x ≡ true → c.args.bytes.now ≡ rec) c.in-ToLabel.is came)

pub returns-in-FrLabel-clause-picks : goal.returns-in-FrLabel-clause-picks
returns-in-FrLabel-clause-picks c = λ choice recs rec is room came.
    c.pick-in-FrLabel.ensures.picks choice recs rec (subst (λ x. AnyPicksStand x choice recs) c.in-FrLabel.is is) room (subst (λ x. any_pick_looks x ≡ true → c.args.bytes.now ≡ rec) c.in-FrLabel.is came)
