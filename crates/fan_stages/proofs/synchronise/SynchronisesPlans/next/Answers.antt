use Rattle.std.proofs.Common.{◌≡◌, ◌<◌, List, [], sym, subst}
use Rattle.pipe_model.specs.Row.{Pair}
use Rattle.fan_stages.specs.declared.synchronise.Synchronises.{Synchronises}
use Rattle.fan_stages.specs.Synchronise.{writes_by, acts_count, SynchronisesStand}
use Rattle.fan_stages.proofs.Synchronised.{synchronise_write, synchronise_take, synchronise_falls}
use Rattle.fan_stages.proofs.synchronise.SynchronisesPlans.next.Goals as goal

pub returns-in-Some-clause-gives : goal.returns-in-Some-clause-gives
returns-in-Some-clause-gives c = λ plan k left is. synchronise_write c.args.self.now plan k left c.in-Some.input _ is c.in-Some.ensures

pub returns-in-Some-take-clause-falls : goal.returns-in-Some-take-clause-falls
returns-in-Some-take-clause-falls c =
    let y = c.write.new.self in
    subst (λ (x : Synchronises). acts_count (record { round = c.take.new.self; written = y.written }) < acts_count x) c.in_default.ensures.0
    (synchronise_falls y c.in-Some-take.input c.take.new.self c.in-Some-take.ensures)

pub returns-in-Some-take-clause-gives : goal.returns-in-Some-take-clause-gives
returns-in-Some-take-clause-gives c = λ plan k left is.
    let y = c.write.new.self in
    let same = sym c.in_default.ensures.0 in
    synchronise_take y plan k left c.in-Some-take.input c.take.new.self (subst (λ x. SynchronisesStand x plan k left) same is)
    (subst (λ (x : Synchronises). (seen : List Pair) → writes_by x.round.taking x.written x.round.open.items seen ≡ []) same c.in_default.ensures.1) c.in-Some-take.ensures
