-- What a call of the sample answers.
use Rattle.std.proofs.Common.{◌≡◌, ◌⊎◌, inl, inr, ℕ, List, [], sym, ◌∙◌, ap, subst, Option, Some}
use Rattle.outside.specs.Device.{Device}
use Rattle.outside.specs.Files.{Files}
use Rattle.pipe_model.specs.declared.net.Net.{Net}
use Rattle.call_words.specs.Command.{command_of}
use Rattle.call_words.specs.declared.command.Command.TheVariants.{Check, Run, Sample, Sets}
use Rattle.call_meaning.specs.declared.status.Outcome.{Outcome}
use Rattle.call_meaning.specs.declared.status.Status.{Status}
use Rattle.call_meaning.specs.declared.status.Status.TheVariants.{NoMemory, Spent, WriteFault, Zero}
use Rattle.call_meaning.specs.Answer.{Answers, HasCause, HasDone, IsFetching, IsHalfReplaced, IsUnhindered, Reports}
use Rattle.call_meaning.specs.Answer.HasCause.{came, fetch_failed, no_memory, read_failed, too_large, unfit, unrun, write_failed}
use Rattle.call_meaning.specs.Answer.HasDone.{half, whole}
use Rattle.call_meaning.specs.Answer.IsFetching.{of_journal, of_sets_file, of_stage}
use Rattle.call_meaning.specs.Devices.{Outside}
use Rattle.call_meaning.specs.Effects.{Before, Effect, replaced_by}
use Rattle.call_meaning.specs.Headline.{HasOneSummary, Headline}
use Rattle.call_meaning.specs.Headline.HasOneSummary.{falls_short, sums_up}
use Rattle.call_meaning.specs.Meaning.{ChecksNet, FeedsNet, Means, RunsNet}
use Rattle.call_meaning.specs.Meaning.FeedsNet.{of_check, of_run, of_sets}
use Rattle.call_meaning.specs.Meaning.Means.{came as means_came, too_large as means_large, unfit as means_unfit, unrun as means_unrun}
use Rattle.call_meaning.specs.Status.{status_of}
use Rattle.call_meaning.proofs.Headlines.{headline}
use Rattle.call_meaning.proofs.Unreplaced.{none_last}

-- it is done, or spent
abbrev pub EndsWell : Status → Type 0
EndsWell status = (status ≡ Zero) ⊎ (status ≡ Spent)

summary_status : (net : Net) (count steps : ℕ) (outcome : Outcome) (effect : Effect) → HasOneSummary net count steps outcome effect → EndsWell (status_of outcome)
summary_status net count steps outcome effect (sums_up st size reading plain within is done) = inl (ap status_of is)
summary_status net count steps outcome effect (falls_short longer is none) = inr (ap status_of is)

-- and replaces no file
summary_bare : (net : Net) (count steps : ℕ) (outcome : Outcome) (effect : Effect) → HasOneSummary net count steps outcome effect → replaced_by effect ≡ []
summary_bare net count steps outcome effect (sums_up st size reading plain within is told) = ap replaced_by told
summary_bare net count steps outcome effect (falls_short longer is none) = ap replaced_by none

module _ (words : List (List ℕ)) (count workers steps : ℕ) (command : command_of words ≡ Some (Sample count workers steps)) where
  told_status : (given : Before) (outcome : Outcome) (effect : Effect) → Headline words given outcome effect → EndsWell (status_of outcome)
  told_status given outcome effect told = let summary = told.samples count workers steps command in summary_status _ count steps outcome effect summary.2

  -- it runs and checks no net, and runs no sets
  no_run : (net : Net) (most : ℕ) (trace : Option (List ℕ)) → RunsNet words net most trace → ⊥
  no_run net most trace runs = (let both : Some (Sample count workers steps) ≡ Some (Run runs.spec runs.run.workers most trace) = sym command ∙ runs.run.command in cc)

  no_check : (net : Net) (name : List ℕ) → ChecksNet words net name → ⊥
  no_check net name checks = (let both : Some (Sample count workers steps) ≡ Some (Check checks.spec name) = sym command ∙ checks.command in cc)

  no_sets : (name : List ℕ) (jobs most : ℕ) → command_of words ≡ Some (Sets name jobs most) → ⊥
  no_sets name jobs most sets = (let both : Some (Sample count workers steps) ≡ Some (Sets name jobs most) = sym command ∙ sets in cc)

  nothing_fed : (files : Files) (net : Net) → FeedsNet words files net → ⊥
  nothing_fed files net (of_run most trace runs) = no_run net most trace runs
  nothing_fed files net (of_check journal checks) = no_check net checks.name checks.checks
  nothing_fed files net (of_sets specs most jobs nets runs are is) = no_sets runs.name jobs most runs.command

  nothing_fetched : (files : Files) (name : List ℕ) → IsFetching words files name → ⊥
  nothing_fetched files name (of_stage net feeds next) = nothing_fed files net feeds
  nothing_fetched files name (of_journal net checks) = no_check net name checks
  nothing_fetched files name (of_sets_file jobs most sets) = no_sets name jobs most sets

  -- or it failed to write, or wanted memory
  abbrev pub MayAnswer : Status → Type 0
  MayAnswer status = EndsWell status ⊎ ((status ≡ WriteFault) ⊎ (status ≡ NoMemory))

  module _ (old new : Outside) (given : Before) (effect : Effect) (decided : Outcome) where
    by_meaning : Means words given decided effect → MayAnswer (status_of decided)
    by_meaning means = inl (told_status given decided effect (headline words given decided effect means))

    by_cause : HasCause words old new given effect decided → MayAnswer (status_of decided)
    by_cause (unrun why unread done steady) = by_meaning (means_unrun why done)
    by_cause (unfit why unread done steady) = by_meaning (means_unfit why done)
    by_cause (too_large large is done steady) = by_meaning (means_large large is done)
    by_cause (came comes used steady) = by_meaning (means_came comes)
    by_cause (fetch_failed name fetching unread is done input output failed) = absurd (nothing_fetched given.files name fetching)
    by_cause (read_failed reading is done failed output shelf) = absurd (nothing_fed given.files reading.net reading.feeds)
    by_cause (write_failed written is input failed shelf) = inr (inl (ap status_of is))
    by_cause (no_memory is done read steady) = inr (inr (ap status_of is))

    -- it replaces no file, so none is the last
    none_half : IsHalfReplaced words old new given effect decided → ⊥
    none_half part =
        let summary = (headline words given part.outcome effect (means_came part.comes)).samples count workers steps command in
        none_last effect old new part.name (summary_bare _ count steps part.outcome effect summary.2) part.done

    by_end : HasDone words old new given effect decided → MayAnswer (status_of decided)
    by_end (whole done cause) = by_cause cause
    by_end (half part) = absurd (none_half part)

  module _ (old new : Outside) (diag diag' : Device) (status : Status) (answers : Answers words old new diag diag' status) where
    by_report : Reports answers.decided status diag diag' → MayAnswer status
    by_report (inl told) = subst (λ (s : Status). MayAnswer s) (sym told.same) (by_end old new answers.decides.given answers.decides.effect answers.decided answers.decides.done)
    by_report (inr cut) = inr (inl cut.turned)

    pub some_status : MayAnswer status
    some_status = by_report answers.reports

    pub good_status : IsUnhindered old new diag diag' status → EndsWell status
    good_status free =
        let all = answers.headline free in
        subst (λ (s : Status). EndsWell s) (sym all.2.same) (told_status answers.decides.given answers.decided answers.decides.effect all.0)
