-- What a call of a lint answers.
use Rattle.std.proofs.Common.{◌≡◌, ◌⊎◌, inl, inr, ℕ, List, [], sym, ◌∙◌, ap, subst, Option, Some, None}
use Rattle.std.specs.Io.KnownBytes.{Appends, Consumes}
use Rattle.outside.specs.Device.{Device}
use Rattle.outside.specs.Files.{Files}
use Rattle.pipe_model.specs.declared.net.Net.{Net}
use Rattle.stall_lint.specs.declared.told.Lint.{Lint as Answer}
use Rattle.stall_lint.specs.declared.told.Lint.TheVariants.{Never}
use Rattle.stall_lint.specs.Answer.{Lints}
use Rattle.stall_lint.specs.Never.{NeverStalls}
use Rattle.stall_lint.proofs.Telling.{never_told}
use Rattle.call_words.specs.Command.{command_of}
use Rattle.call_words.specs.declared.command.Command.TheVariants.{Check, Lint, Run, Sample, Sets}
use Rattle.call_meaning.specs.declared.status.Outcome.{Outcome}
use Rattle.call_meaning.specs.declared.status.Status.{Status}
use Rattle.call_meaning.specs.declared.status.Status.TheVariants.{NoMemory, SpecRefused, WriteFault, Zero}
use Rattle.call_meaning.specs.Answer.{Answers, HasCause, HasDone, HasUsed, IsFetching, IsHalfReplaced, MayRead, Reports}
use Rattle.call_meaning.specs.Answer.HasCause.{came, fetch_failed, no_memory, read_failed, too_large, unfit, unrun, write_failed}
use Rattle.call_meaning.specs.Answer.HasDone.{half, whole}
use Rattle.call_meaning.specs.Answer.IsFetching.{of_journal, of_sets_file, of_stage}
use Rattle.call_meaning.specs.Answer.MayRead.{nothing_read, of_net}
use Rattle.call_meaning.specs.Devices.{IsDone, Outside, Steady}
use Rattle.call_meaning.specs.Effects.{AreReplaced, Before, Effect, replaced_by}
use Rattle.call_meaning.specs.Meaning.{ChecksNet, ComesTo, FeedsNet, HasLinted, IsNetOf, IsUnfit, IsUnrun, LintsNet, RunsNet, SamplesNet, lint_line}
use Rattle.call_meaning.specs.Meaning.ComesTo.{checked, linted, ran, ran_sets, sampled}
use Rattle.call_meaning.specs.Meaning.FeedsNet.{of_check, of_run, of_sets}
use Rattle.call_meaning.specs.Meaning.IsUnfit.{absent, sets_absent, sets_many, unread}
use Rattle.call_meaning.specs.Meaning.IsUnrun.{no_command, refused}
use Rattle.call_meaning.specs.Status.{status_of}
use Rattle.call_meaning.specs.Untouched.{IsUntouched}
use Rattle.call_meaning.proofs.OneTexts.{net_formed}
use Rattle.call_meaning.proofs.Unreplaced.{none_last}

-- its line was told, or the specification is refused
abbrev IsLinted : Status → Type 0
IsLinted status = (status ≡ Zero) ⊎ (status ≡ SpecRefused)

-- or it failed to write, or wanted memory
abbrev pub MayAnswer : Status → Type 0
MayAnswer status = IsLinted status ⊎ ((status ≡ WriteFault) ⊎ (status ≡ NoMemory))

module _ (words : List (List ℕ)) (spec : List ℕ) (command : command_of words ≡ Some (Lint spec)) where
  -- it runs and checks no net, runs no sets, and is no sample
  no_run : (net : Net) (most : ℕ) (trace : Option (List ℕ)) → RunsNet words net most trace → ⊥
  no_run net most trace runs = (let both : Some (Lint spec) ≡ Some (Run runs.spec runs.run.workers most trace) = sym command ∙ runs.run.command in cc)

  no_check : (net : Net) (name : List ℕ) → ChecksNet words net name → ⊥
  no_check net name checks = (let both : Some (Lint spec) ≡ Some (Check checks.spec name) = sym command ∙ checks.command in cc)

  no_sample : (net : Net) (count steps : ℕ) → SamplesNet words net count steps → ⊥
  no_sample net count steps samples = (let both : Some (Lint spec) ≡ Some (Sample count samples.workers steps) = sym command ∙ samples.command in cc)

  no_sets : (name : List ℕ) (workers steps : ℕ) → command_of words ≡ Some (Sets name workers steps) → ⊥
  no_sets name workers steps sets = (let both : Some (Lint spec) ≡ Some (Sets name workers steps) = sym command ∙ sets in cc)

  nothing_fed : (files : Files) (net : Net) → FeedsNet words files net → ⊥
  nothing_fed files net (of_run most trace runs) = no_run net most trace runs
  nothing_fed files net (of_check journal checks) = no_check net checks.name checks.checks
  nothing_fed files net (of_sets specs steps workers nets runs are is) = no_sets runs.name workers steps runs.command

  nothing_fetched : (files : Files) (name : List ℕ) → IsFetching words files name → ⊥
  nothing_fetched files name (of_stage net feeds next) = nothing_fed files net feeds
  nothing_fetched files name (of_journal net checks) = no_check net name checks
  nothing_fetched files name (of_sets_file workers steps sets) = no_sets name workers steps sets

  none_unfit : (files : Files) (outcome : Outcome) → IsUnfit words files outcome → ⊥
  none_unfit files outcome (absent net name checks none is) = no_check net name checks
  none_unfit files outcome (unread net name text number checks some fault is) = no_check net name checks
  none_unfit files outcome (sets_absent name workers steps sets none is) = no_sets name workers steps sets
  none_unfit files outcome (sets_many name text workers steps most sets some more few many is) = no_sets name workers steps sets

  -- it is a lint of this specification
  net_is : (net : Net) (lints : LintsNet words net) → IsNetOf spec net
  net_is net lints =
      let both : Some (Lint lints.spec) ≡ Some (Lint spec) = sym lints.command ∙ command in
      let same : lints.spec ≡ spec = cc in
      subst (λ z. IsNetOf z net) same lints.net_of

  module _ (given : Before) where
    unread_by : MayRead words given → given.input ≡ []
    unread_by (nothing_read none) = none
    unread_by (of_net net feeds reads) = absurd (nothing_fed given.files net feeds)

    lint_of : (outcome : Outcome) (effect : Effect) → ComesTo words given outcome effect → HasLinted words outcome effect
    lint_of outcome effect (ran r) = absurd (no_run r.net r.steps r.trace r.runs)
    lint_of outcome effect (checked c) = absurd (no_check c.net c.checks.name c.checks.checks)
    lint_of outcome effect (linted l) = l
    lint_of outcome effect (sampled s) = absurd (no_sample s.net s.count s.steps s.samples)
    lint_of outcome effect (ran_sets r) = absurd (no_sets r.runs.name r.workers r.steps r.runs.command)

    unused : (outcome : Outcome) (effect : Effect) (comes : ComesTo words given outcome effect) (input : Device) → HasUsed words given outcome effect comes input → given.input ≡ []
    unused outcome effect (ran r) input used = absurd (no_run r.net r.steps r.trace r.runs)
    unused outcome effect (checked c) input used = absurd (no_check c.net c.checks.name c.checks.checks)
    unused outcome effect (linted l) input used = used
    unused outcome effect (sampled s) input used = used
    unused outcome effect (ran_sets r) input used = absurd (no_sets r.runs.name r.workers r.steps r.runs.command)

  module _ (old new : Outside) (given : Before) (effect : Effect) (decided : Outcome) where
    -- the cause of an outcome leaves all but the output alone
    record IsSparing : Type 0 where
      answers : MayAnswer (status_of decided)
      unread : given.input ≡ []
      none : replaced_by effect ≡ []
      input : Steady old.input new.input
      shelf : new.shelf.faults ≡ old.shelf.faults

    unrun_status : IsUnrun words decided → IsLinted (status_of decided)
    unrun_status (no_command none is) = (let both : Some (Lint spec) ≡ None = sym command ∙ none in cc)
    unrun_status (refused fault least is) = inr (ap status_of is)

    by_cause : HasCause words old new given effect decided → IsSparing
    by_cause (unrun why untouched done steady) = record { answers = inl (unrun_status why); unread = untouched; none = ap replaced_by done; input = steady.input; shelf = steady.shelf }
    by_cause (unfit why untouched done steady) = absurd (none_unfit given.files decided why)
    by_cause (too_large large is done steady) = absurd (nothing_fed given.files large.net large.feeds)
    by_cause (came comes used steady) =
        let l = lint_of given decided effect comes in
        record { answers = inl (inl (ap status_of l.means.outcome_is)); unread = unused given decided effect comes new.input used; none = ap replaced_by l.means.effect_is; input = steady.input; shelf = steady.shelf }
    by_cause (fetch_failed name fetching untouched is done input output failed) = absurd (nothing_fetched given.files name fetching)
    by_cause (read_failed reading is done failed output shelf) = absurd (nothing_fed given.files reading.net reading.feeds)
    by_cause (write_failed written is input failed shelf) =
        record { answers = inr (inl (ap status_of is)); unread = unused given written.outcome written.whole written.comes new.input written.used; none = ap replaced_by written.effect_is; input = input; shelf = shelf }
    by_cause (no_memory is done read steady) = record { answers = inr (inr (ap status_of is)); unread = unread_by given read; none = ap replaced_by done; input = steady.input; shelf = steady.shelf }

    -- it replaces no file, so none is the last
    none_half : IsHalfReplaced words old new given effect decided → ⊥
    none_half part = (let l = lint_of given part.outcome effect part.comes in none_last effect old new part.name (ap replaced_by l.means.effect_is) part.done)

    by_end : HasDone words old new given effect decided → IsSparing × IsDone effect old new
    by_end (whole done cause) = (by_cause cause, done)
    by_end (half part) = absurd (none_half part)

    -- with status 0 it was the line of an answer
    line_of : status_of decided ≡ Zero → HasDone words old new given effect decided → HasLinted words decided effect
    line_of is (half part) = absurd (none_half part)
    line_of is (whole done cause) = by cause
      where
        by : HasCause words old new given effect decided → HasLinted words decided effect
        by (came comes used steady) = lint_of given decided effect comes
        by (unrun (no_command none of) untouched nothing steady) = (let both : Some (Lint spec) ≡ None = sym command ∙ none in cc)
        by (unrun (refused fault least of) untouched nothing steady) = (let both : SpecRefused ≡ Zero = sym (ap status_of of) ∙ is in cc)
        by (unfit why untouched nothing steady) = absurd (none_unfit given.files decided why)
        by (too_large large of nothing steady) = absurd (nothing_fed given.files large.net large.feeds)
        by (fetch_failed name fetching untouched of nothing input output failed) = absurd (nothing_fetched given.files name fetching)
        by (read_failed reading of nothing failed output shelf) = absurd (nothing_fed given.files reading.net reading.feeds)
        by (write_failed written of input failed shelf) = (let both : WriteFault ≡ Zero = sym (ap status_of of) ∙ is in cc)
        by (no_memory of nothing read steady) = (let both : NoMemory ≡ Zero = sym (ap status_of of) ∙ is in cc)

  module _ (old new : Outside) (diag diag' : Device) (status : Status) (answers : Answers words old new diag diag' status) where
    abbrev given : Before
    given = answers.decides.given

    ended : IsSparing old new given answers.decides.effect answers.decided × IsDone answers.decides.effect old new
    ended = by_end old new given answers.decides.effect answers.decided answers.decides.done

    pub some_status : MayAnswer status
    some_status = by answers.reports
      where
        by : Reports answers.decided status diag diag' → MayAnswer status
        by (inl told) = subst (λ (s : Status). MayAnswer s) (sym told.same) ended.0.answers
        by (inr cut) = inr (inl cut.turned)

    pub left_alone : IsUntouched old new
    left_alone = record {
      input = subst (λ bytes. Consumes old.input.bytes new.input.bytes bytes) ended.0.unread answers.decides.gave;
      steady = ended.0.input;
      files = subst (λ files. AreReplaced files old.shelf.files new.shelf.files) ended.0.none ended.1.files;
      shelf = ended.0.shelf;
    }

  module _ (old new : Outside) (diag diag' : Device) (answers : Answers words old new diag diag' Zero) where
    zero_decided : Reports answers.decided Zero diag diag' → status_of answers.decided ≡ Zero
    zero_decided (inl told) = sym told.same
    zero_decided (inr cut) = (let both : Zero ≡ WriteFault = cut.turned in cc)

    pub line_told : (net : Net) × (answer : Answer) × IsNetOf spec net × Lints net answer × Appends old.output.bytes new.output.bytes (lint_line answer) × (answer ≡ Never → NeverStalls net)
    line_told =
        let l = line_of old new answers.decides.given answers.decides.effect answers.decided (zero_decided answers.reports) answers.decides.done in
        let done = (by_end old new answers.decides.given answers.decides.effect answers.decided answers.decides.done).1 in (
          l.net,
          l.means.answer,
          net_is l.net l.lints,
          l.means.told,
          subst (λ (e : Effect). Appends old.output.bytes new.output.bytes e.output) l.means.effect_is done.output,
          never_told l.net (net_formed l.lints.spec l.net l.lints.net_of) l.means.answer l.means.told,
        )
