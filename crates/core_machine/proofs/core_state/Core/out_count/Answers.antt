use Rattle.std.proofs.Common.{rules, ◌≡◌, ◌≤◌, length, arith}
use Rattle.core_machine.proofs.Tales.{few_out}
use Rattle.core_machine.proofs.core_state.Core.out_count.Goals as goal

pub overflow_cast-result : goal.overflow_cast-result
overflow_cast-result g c =
    let i = c.self.inside in
    let few : length i.out.items ≤ 65536 = few_out g.S.Stage.stands i.floor.net i.budget i.journal.items i.out.items i.actors.items i.floor.desk i.floor.pool c.self.invariant.0 i.is_broken in
    let is : c.len.result ≡ length i.out.items = search rules in
    omega (arith, few, is)
