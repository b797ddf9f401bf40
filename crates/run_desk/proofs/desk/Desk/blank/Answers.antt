-- The desk that was laid out may begin a run.
use Rattle.std.proofs.Common.{◌≡◌, length, sym, subst}
use Rattle.std.proofs.lemmas.Result.{IfOk-weaker}
use Rattle.pipe_model.specs.State.{nothing_yet}
use Rattle.pipe_model.proofs.FewLinks.{few_links}
use Rattle.record_pool.specs.PoolState.{empty_pool}
use Rattle.run_desk.specs.Desk.{DeskState}
use Rattle.run_desk.specs.Blank.{blank_desk}
use Rattle.run_desk.specs.Holding.{RunStands, out_from}
use Rattle.run_desk.proofs.Blanks.{blank_run}
use Rattle.run_desk.proofs.desk.Desk.blank.Goals as goal

pub lay_out-requires-clause-links : goal.lay_out-requires-clause-links
lay_out-requires-clause-links c = few_links c.args.net.now c.requires.formed

pub returns : goal.returns
returns c =
    let net = c.args.net.now in
    let left = out_from 0 (length net.strands) in
    IfOk-weaker c.lay_out.result (λ (desk : DeskState). desk ≡ blank_desk net) (λ (desk : DeskState). RunStands net nothing_yet left desk empty_pool)
    (λ (desk : DeskState) is. subst (λ (z : DeskState). RunStands net nothing_yet left z empty_pool) (sym is) (blank_run net c.requires.formed)) c.lay_out.ensures
