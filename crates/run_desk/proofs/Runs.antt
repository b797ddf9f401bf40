-- A turn and a coming home may be made on what a run keeps, and keep it.
use Rattle.std.proofs.Common.{◌≡◌, ◌<◌, ◌≤◌, ℕ, true, false, length, Some}
use Rattle.pipe_model.specs.declared.net.Net.{Net}
use Rattle.pipe_model.specs.declared.net.Strand.{Strand}
use Rattle.pipe_model.specs.declared.step.Want.{Want}
use Rattle.pipe_model.specs.Event.{Event, has_ended}
use Rattle.pipe_model.specs.Next.{next, IsOwn}
use Rattle.pipe_model.specs.State.{Who, State, past, with_event, strand_at}
use Rattle.pipe_model.specs.Licence.{Left, licence}
use Rattle.pipe_model.specs.WellFormed.{IsWellFormed}
use Rattle.record_pool.specs.PoolState.{PoolState}
use Rattle.record_pool.specs.Places.{bytes_at}
use Rattle.stage_steps.specs.Coroutine.{told, meaning, last_seen, IsSeenBefore}
use Rattle.run_desk.specs.Desk.{DeskState}
use Rattle.run_desk.specs.Standing.{left_out, left_in}
use Rattle.run_desk.specs.Turns.{desk_after_turn, pool_after_turn, CanTurn, CanCome, HasCome}
use Rattle.run_desk.specs.Holding.{waiting_of, RunStands}
use Rattle.run_desk.proofs.Texts.{retext}
use Rattle.run_desk.proofs.Makes.{kept_made}
use Rattle.run_desk.proofs.Homes.{kept_home, kept_gone}
use Rattle.run_desk.proofs.Pooled.{pooled_made, texts_made, pooled_home}
use Rattle.run_desk.proofs.Pacing.{pacing_made, pacing_home}
use Rattle.run_desk.proofs.Conditions.{can_move}
use Rattle.run_desk.proofs.Comings.{can_come}

module _ (net : Net) (st : State) (left : Left) (d : DeskState) (pool : PoolState) (formed : IsWellFormed net) (own : (t : Who) (q : Strand) → strand_at net st t ≡ Some q → IsOwn q (past st t)) (run : RunStands net st left d pool) where
  -- an event that may be can be made, and what is kept is kept of the state after it
  module _ (few : waiting_of d.wires ≤ 50000000) (short : (t : Who) → length (past st t) < 18446744073709551615) (s : Who) (k : ℕ) (e : Event) (may : licence net st left s k ≡ Some e) where
    pub run_can : CanTurn d pool s (told e)
    run_can = can_move net st left d pool s k e formed own short run few may

    pub run_made : RunStands net (with_event st s e) (left_out left s) (desk_after_turn d s (told e)) (pool_after_turn d pool s (told e))
    run_made = record {
      kept = retext net (bytes_at pool) (bytes_at (pool_after_turn d pool s (told e))) (with_event st s e) (left_out left s) (desk_after_turn d s (told e))
          (kept_made net (bytes_at pool) st left d s k e formed run.kept run.pacing.paced may) (texts_made d pool s (told e) run.pooled run.pacing.roomy run_can);
      pooled = pooled_made d pool s (told e) run.pooled run.pacing.roomy run_can;
      pacing = pacing_made net (bytes_at pool) st left d s k e formed own run.kept run.pacing may;
    }

  -- a strand that is out and hasn't ended can come home with what it wants, and what is kept is kept of all but it out
  module _ (few : waiting_of d.wires ≤ 50000000) (s : Who) (strand : Strand) (w : Want) (out : left s ≡ true) (there : strand_at net st s ≡ Some strand) (going : has_ended (past st s) ≡ false) (means : Some (meaning w (last_seen (past st s))) ≡ next strand (past st s)) (seen : IsSeenBefore w (past st s)) where
    pub run_can_come : CanCome d pool s w
    run_can_come = can_come net st left d pool s strand w formed own run few out there going means seen

    pub run_home : (d' : DeskState) (after : PoolState) → HasCome d pool s w d' after → RunStands net st (left_in left s) d' after
    run_home d' after come = record {
      kept = kept_home net st left d d' pool after s strand w formed own run.kept run.pooled out there going means run_can_come come;
      pooled = pooled_home d d' pool after s w run.pooled run_can_come come;
      pacing = pacing_home d d' st pool after s w run.pacing run_can_come come;
    }

  -- a strand that has ended comes home to the same desk
  pub run_gone : (s : Who) → has_ended (past st s) ≡ true → RunStands net st (left_in left s) d pool
  run_gone s ended = record { kept = kept_gone net (bytes_at pool) st left d s run.kept ended; pooled = run.pooled; pacing = run.pacing }
