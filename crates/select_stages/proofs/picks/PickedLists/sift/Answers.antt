use Rattle.std.proofs.Common.{sym, ◌∙◌}
use Rattle.select_stages.proofs.PickSifts.{passes_one}
use Rattle.select_stages.proofs.picks.PickedLists.sift.Goals as goal

pub returns-clause-sifts : goal.returns-clause-sifts
returns-clause-sifts g c =
    passes_one g.P.Picks.stands (g.P.Picks.is_looking c.args.self.now.picks) c.args.self.now c.pick.new.self c.args.bytes.now c.pick.result c.output-output.result c.pick.ensures.picks c.output-output.ensures
    (λ choice recs stood. sym c.if-halts.false ∙ c.halts.ensures choice recs stood) (λ choice recs stood. sym c.if-stops.false ∙ c.stops.ensures choice recs stood)
