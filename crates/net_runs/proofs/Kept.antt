-- The console's text, as far as a loop over the strands has written it.
use Rattle.std.proofs.Common.{◌≡◌, ℕ, true, false, suc, ◌+◌, ◌<◌, List, ◌++◌, length, drop, sym, ◌∙◌, ap, Option, Some, slice_get, slice_index_or, add-one, append_assoc}
use Rattle.std.proofs.KnownBytes.{Appends-trans}
use Rattle.std.proofs.lemmas.Option.{slice_get-get_or}
use Rattle.std.specs.Io.KnownBytes.{Appends}
use Rattle.pipe_model.specs.declared.net.Strand.{Strand}
use Rattle.pipe_model.specs.Reply.{console_from}
use Rattle.pipe_model.specs.State.{State, Who, past}
use Rattle.pipe_model.specs.Table.{form}
use Rattle.stage_steps.specs.Coroutine.{kept_by}
use Rattle.call_meaning.specs.declared.status.Outcome.{Outcome}
use Rattle.pipe_model.specs.Form.{is_shown}
use Rattle.net_runs.specs.Kept.{keeping_of}
use Rattle.outside.specs.Device.{Device}
use Rattle.call_meaning.specs.Devices.{Steady}
use Rattle.call_streams.specs.Written.{IsPartWritten}
use Rattle.net_runs.proofs.Runs.{console_more, console_less, kept_part}
use Rattle.net_runs.proofs.Writes.{part_after}

module _ (st : State) (k : Who) (ps : List Strand) (other : Strand) (lt : k < length ps) where
  here : slice_get ps k ≡ Some (slice_index_or ps k other)
  here = slice_get-get_or ps k other lt

  -- the strand keeps for the console
  pub with_kept : is_shown (keeping_of (slice_index_or ps k other).kind) ≡ true → (kept : List ℕ) → ((p : Strand) → slice_get ps k ≡ Some p → kept ≡ kept_by (form p).keeping (past st k)) →
      console_from st k (drop k ps) ≡ kept ++ console_from st (k + 1) (drop (k + 1) ps)
  with_kept is kept keeps =
      console_more st k ps (slice_index_or ps k other) here
      ∙ ap (λ z. z ++ console_from st (suc k) (drop (suc k) ps)) (kept_part (slice_index_or ps k other) (past st k) is ∙ sym (keeps (slice_index_or ps k other) here))
      ∙ ap (λ z. kept ++ console_from st z (drop z ps)) (sym (add-one k))

  -- it doesn't
  pub without_kept : is_shown (keeping_of (slice_index_or ps k other).kind) ≡ false → console_from st k (drop k ps) ≡ console_from st (k + 1) (drop (k + 1) ps)
  without_kept is = console_less st k ps (slice_index_or ps k other) here is ∙ ap (λ z. console_from st z (drop z ps)) (sym (add-one k))

-- what was written and what is left
abbrev pub HasWritten : State → Who → List Strand → Option (List ℕ) → Option (List ℕ) → Type 0
HasWritten st k ps old new = (done : List ℕ) × Appends old new done × (done ++ console_from st k (drop k ps) ≡ console_from st 0 ps)

module _ (st : State) (k : Who) (ps : List Strand) (kept : List ℕ) (more : console_from st k (drop k ps) ≡ kept ++ console_from st (k + 1) (drop (k + 1) ps)) where
  -- with what a strand keeps behind it
  pub kept_more : (done : List ℕ) → done ++ console_from st k (drop k ps) ≡ console_from st 0 ps → (done ++ kept) ++ console_from st (k + 1) (drop (k + 1) ps) ≡ console_from st 0 ps
  kept_more done whole = append_assoc done kept (console_from st (k + 1) (drop (k + 1) ps)) ∙ ap (λ z. done ++ z) (sym more) ∙ whole

  pub wrote_more : (old middle new : Option (List ℕ)) → HasWritten st k ps old middle → Appends middle new kept → HasWritten st (k + 1) ps old new
  wrote_more old middle new wrote gained = (wrote.0 ++ kept, Appends-trans old middle new wrote.0 kept wrote.1 gained, kept_more wrote.0 wrote.2)

  pub wrote_part : (old middle new : Device) (outcome : Outcome) → HasWritten st k ps old.bytes middle.bytes → Steady old middle → IsPartWritten kept middle new outcome → IsPartWritten (console_from st 0 ps) old new outcome
  wrote_part old middle new outcome wrote steady part =
      part_after (console_from st 0 ps) wrote.0 kept (console_from st (k + 1) (drop (k + 1) ps)) (kept_more wrote.0 wrote.2) old middle new outcome wrote.1 steady part
