use Rattle.std.proofs.Common.{inl, inr, ⊎_elim, ap, refl}
use Rattle.core_machine.specs.Machine.{Machine}
use Rattle.board.specs.Calls.{WasLost, FellShort, less_one_try, most_after}
use Rattle.board.specs.Names.{view}
use Rattle.workers.proofs.AfterTurns.{went_settled, short_settled, lost_settled}
use Rattle.workers.proofs.turns.bring_home.Goals as goal

pub returns-in-Home-clause-settled : goal.returns-in-Home-clause-settled
returns-in-Home-clause-settled g c =
    let v = view c.args.pass.now in let w = view c.finish_and_go_on.new.pass in let t = c.in-Home.ensures.told in
    went_settled v w t.0 c.args.done.place (g.G.Gate.is_open c.args.gate.now) (most_after (record { alone = 65536; beside = 256 }) t.0 c.args.done.place) c.requires.owes t.1

pub returns-in-NoMemory-clause-settled : goal.returns-in-NoMemory-clause-settled
returns-in-NoMemory-clause-settled g c =
    let v = view c.args.pass.now in let w = view c.finish_and_go_on.new.pass in let t = c.in-NoMemory.ensures.told in
    let sights = g.G.Gate.is_open c.args.gate.now in let most = most_after (record { alone = 65536; beside = 256 }) t.0 c.args.done.place in
    ⊎_elim (λ (lost : WasLost (less_one_try v) t.0 c.args.done.place w). lost_settled v w c.args.done.place c.requires.owes lost.others.0 lost.others.1 lost.lost)
    (λ (short : FellShort (less_one_try v) t.0 c.args.done.place sights most w). short_settled v w t.0 c.args.done.place sights most c.requires.owes short) t.1

pub returns-in-Home-clause-comes : goal.returns-in-Home-clause-comes
returns-in-Home-clause-comes g c =
    let t = c.in-Home.ensures.told in
    inl (refl, (t.0, most_after (record { alone = 65536; beside = 256 }) t.0 c.args.done.place, t.1))

pub returns-in-NoMemory-clause-comes : goal.returns-in-NoMemory-clause-comes
returns-in-NoMemory-clause-comes g c =
    let v = view c.args.pass.now in let w = view c.finish_and_go_on.new.pass in let t = c.in-NoMemory.ensures.told in
    let sights = g.G.Gate.is_open c.args.gate.now in let most = most_after (record { alone = 65536; beside = 256 }) t.0 c.args.done.place in
    inr (
      refl,
      ⊎_elim (λ (lost : WasLost (less_one_try v) t.0 c.args.done.place w). ap (λ (x : Machine). x.is_broken) lost.core)
          (λ (short : FellShort (less_one_try v) t.0 c.args.done.place sights most w). short.core.broke.broken) t.1,
    )
