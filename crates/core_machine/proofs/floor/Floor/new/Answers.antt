use Rattle.std.proofs.Common.{rules, length, sym, subst}
use Rattle.pipe_model.specs.State.{nothing_yet}
use Rattle.record_pool.specs.PoolState.{PoolState}
use Rattle.run_desk.specs.Holding.{RunStands, out_from}
use Rattle.core_machine.proofs.Starts.{covers_first}
use Rattle.core_machine.proofs.floor.Floor.new.Goals as goal

pub invariant_of-result : goal.invariant_of-result
invariant_of-result c =
    let net = c.args.net in
    record {
      formed = c.requires.formed;
      size = search rules;
      covers = covers_first net c.requires.formed c.in_ok-desk.desk _ c.in_ok-desk.ensures c.in_ok-ready.ready;
    }

pub returns-clause-run : goal.returns-clause-run
returns-clause-run c = subst (λ (p : PoolState). RunStands c.args.net nothing_yet (out_from 0 (length c.args.net.strands)) c.in_ok-desk.desk p) (sym c.new-pool.ensures) c.in_ok-desk.ensures
