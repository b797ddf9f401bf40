-- From what a call answers to the headline.
use Rattle.std.proofs.Common.{◌≡◌, ◌≢◌, inl, inr, ℕ, ◌<◌, ◌≤◌, List, [], ◌∷◌, ◌++◌, length, refl, sym, ◌∙◌, ap, subst, arith, length-append, ℤ, pos, negsuc, zero, suc, Option, Some, None}
use Rattle.pipe_model.specs.declared.net.Net.{Net}
use Rattle.pipe_model.specs.declared.step.Entry.{Entry}
use Rattle.pipe_model.specs.Alone.{Lists, IsPlainReading}
use Rattle.pipe_model.specs.Plain.{AreLists, IsPlain, enough}
use Rattle.pipe_model.specs.Play.{play, HasEnded, IsComplete, IsLegal}
use Rattle.pipe_model.specs.Reply.{Reply, WaitLine, reply}
use Rattle.pipe_model.specs.Settled.{IsSettled}
use Rattle.pipe_model.specs.State.{State, nothing_yet}
use Rattle.pipe_model.specs.WellFormed.{IsWellFormed}
use Rattle.confluence_laws.proofs.Commits.{committed_before}
use Rattle.confluence_laws.proofs.Lengths.{few_steps, legal_last}
use Rattle.confluence_laws.proofs.Prefixes.{alike, beginning_of}
use Rattle.confluence_laws.proofs.Readings.{plain_reading}
use Rattle.confluence_laws.proofs.WaitLines.{ended_none, none_ended, some_unended, unended_some}
use Rattle.net_graph.specs.Fed.{with_input}
use Rattle.net_graph.proofs.Feeds.{fed_formed}
use Rattle.stall_lint.specs.declared.told.Lint.{Lint as Answer}
use Rattle.stall_lint.specs.declared.told.Lint.TheVariants as Answers
use Rattle.stall_lint.specs.Never.{NeverStalls}
use Rattle.stall_lint.proofs.Telling.{never_told}
use Rattle.call_words.specs.Command.{command_of}
use Rattle.call_words.specs.declared.command.Command.TheVariants.{Sample}
use Rattle.call_meaning.specs.declared.calls.Call.TheVariants as Asked
use Rattle.call_meaning.specs.declared.status.Outcome.{Outcome}
use Rattle.call_meaning.specs.declared.status.Outcome.TheVariants.{Done, Spent}
use Rattle.call_meaning.specs.Effects.{Before, Effect, effect_of, no_effect, output_of, traced}
use Rattle.call_meaning.specs.Headline.{HasOneSummary, HaveAnswers, Headline, IsEnded, IsHeadline, IsOneReading, IsReplyOf, IsSetAnswer, IsStall}
use Rattle.call_meaning.specs.Headline.HasOneAnswer.{reads, spends}
use Rattle.call_meaning.specs.Headline.HasOneSummary.{sums_up as one_sum, falls_short}
use Rattle.call_meaning.specs.Headline.IsSetAnswer.{is_refused, is_run}
use Rattle.call_meaning.specs.Meaning.{AreNetsOf, Exhausts, Finishes, IsCommittedFirst, IsNetOf, LintsNet, Means, RunMeans, RunsNet, RunsSets, SampleMeans, SetMeans, fed_size, input_limit, lint_line, net_on, outcome_by, outcome_of, summed_up}
use Rattle.call_meaning.specs.Meaning.RunMeans.{finishes, exhausts}
use Rattle.call_meaning.specs.Meaning.SampleMeans.{sums_up, spends as sample_spends}
use Rattle.call_meaning.specs.Meaning.SetMeans.{set_ran, set_refused}
use Rattle.call_meaning.specs.Sample.{sample_spec, sample_text}
use Rattle.call_meaning.specs.Sets.{SetEnd, all_of}
use Rattle.call_meaning.proofs.Journals.{goes_further}
use Rattle.call_meaning.proofs.Lists.{some_lists}
use Rattle.call_meaning.proofs.Meanings.{IfFits, LinesMean, lines_meaning, meaning_at, run_called, sample_called}
use Rattle.call_meaning.proofs.OneTexts.{net_formed}
use Rattle.call_meaning.proofs.SampleNets.{sample_has_net, sample_net}
use Rattle.call_meaning.proofs.SampleRuns.{fed_code, fed_ends, fed_plain, fed_whole}
use Rattle.call_meaning.proofs.Untraced.{traced_by, untraced_is}
use Rattle.call_meaning.proofs.Zips.{zip_too}

-- The outcome of a reply

-- it is no want of steps
by_unspent : (net : Net) (waits : List WaitLine) (code : ℤ) (n : ℕ) → outcome_by net waits code ≢ Spent n
by_unspent net (w ∷ ws) code n is = cc
by_unspent net [] (pos zero) n is = cc
by_unspent net [] (pos (suc k)) n is = cc
by_unspent net [] (negsuc k) n is = cc

-- every stage has ended where nobody waits
by_ended : (net : Net) (waits : List WaitLine) (code : ℤ) → IsEnded (outcome_by net waits code) → waits ≡ []
by_ended net (w ∷ ws) code is = absurd is
by_ended net [] code is = refl

-- it is a stall where somebody waits
by_stall : (net : Net) (waits : List WaitLine) (code : ℤ) → IsStall (outcome_by net waits code) → waits ≢ []
by_stall net (w ∷ ws) code is none = cc
by_stall net [] (pos zero) is none = absurd is
by_stall net [] (pos (suc k)) is none = absurd is
by_stall net [] (negsuc k) is none = absurd is

stall_by : (net : Net) (waits : List WaitLine) (code : ℤ) → waits ≢ [] → IsStall (outcome_by net waits code)
stall_by net (w ∷ ws) code some = tt
stall_by net [] code some = absurd (some refl)

-- A settled net

module _ (net : Net) (steps workers : ℕ) (formed : IsWellFormed net) (settled : IsSettled net) where
  -- a complete order has the reading
  reading_of : (es : List Entry) → IsLegal net es → IsComplete net es → IsOneReading net (play net es) (length es)
  reading_of es legal complete = record {
    some = (es, legal, complete);
    one = λ other lawful whole. alike net formed settled other es lawful legal whole complete;
    longest = λ other lawful. (beginning_of net formed settled other es lawful legal complete).0;
  }

  -- the histories of a reading are those of each complete order
  read_by : (es : List Entry) → IsLegal net es → IsComplete net es → (st : State) (size : ℕ) → IsOneReading net st size → (play net es ≡ st) × (length es ≡ size)
  read_by es legal complete st size reading = reading.one es legal complete

  committed : (order : List Entry) → IsLegal net order → IsCommittedFirst net order
  committed order legal = λ k move s there. committed_before net formed order k legal move s there

  module _ (trace : Option (List ℕ)) (outcome : Outcome) (effect : Effect) where
    -- it came to its end
    module _ (answer : Reply) (done : Finishes net steps workers answer) (outcome_is : outcome ≡ outcome_of net answer) (effect_is : effect ≡ traced trace done.journal (effect_of answer)) where
      abbrev st : State
      st = play net done.journal

      outcome_by_st : outcome ≡ outcome_of net (reply net st)
      outcome_by_st = outcome_is ∙ ap (outcome_of net) (sym done.replies)

      replied : IsReplyOf net st outcome effect
      replied = (outcome_by_st, untraced_is done.journal trace effect (effect_of answer) effect_is ∙ ap effect_of (sym done.replies))

      ended : IsEnded outcome → HasEnded net st
      ended is = none_ended net st (by_ended net (reply net st).waits (reply net st).code (subst IsEnded outcome_by_st is))

      by_streams : IsPlain net → IsEnded outcome → (other : State) × IsPlainReading net other × IsReplyOf net other outcome effect
      by_streams plain is = (st, plain_reading net formed plain done.journal done.legal (ended is), replied)

      enough_for : IsPlain net → (lists : Lists) × AreLists net lists × (enough net lists ≤ steps → outcome ≢ Spent steps)
      enough_for plain = (let some = some_lists net formed plain in (some.0, some.1, λ few spent. by_unspent net (reply net st).waits (reply net st).code steps (sym outcome_by_st ∙ spent)))

      to_stall : IsStall outcome → (other : State) × (size : ℕ) × IsOneReading net other size × (size ≤ steps) × ¬ HasEnded net other
      to_stall is = (
        st,
        length done.journal,
        reading_of done.journal done.legal done.complete,
        done.within,
        some_unended net st (by_stall net (reply net st).waits (reply net st).code (subst IsStall outcome_by_st is)),
      )

      from_stall : ((other : State) × (size : ℕ) × IsOneReading net other size × (size ≤ steps) × ¬ HasEnded net other) → IsStall outcome
      from_stall (other, size, reading, within, unended) =
          let same = (reading.one done.journal done.legal done.complete).0 in
          subst IsStall (sym outcome_by_st) (stall_by net (reply net st).waits (reply net st).code (unended_some net st (subst (λ z. ¬ HasEnded net z) (sym same) unended)))

      finished : IsHeadline net steps workers trace outcome effect
      finished = record {
        answer = reads st (length done.journal) (reading_of done.journal done.legal done.complete) done.within replied;
        streams = by_streams;
        stalls = (to_stall, from_stall);
        enough = enough_for;
        first = committed;
        traced = traced_by done.journal net steps workers done.legal (inl done.complete) done.least trace effect (effect_of answer) refl effect_is;
      }

    -- it had more to do
    module _ (spent : Exhausts net steps workers) (outcome_is : outcome ≡ Spent steps) where
      none_short : (order : List Entry) → IsLegal net order → IsComplete net order → steps < length order
      none_short order legal complete =
          let longer = goes_further net formed settled order spent.journal spent.more.0 legal complete spent.legal spent.more.1 in
          let full = spent.full in
          omega (arith, longer, full)

      no_stall : IsStall outcome → ⊥
      no_stall is = subst IsStall outcome_is is

      no_reading : ((other : State) × (size : ℕ) × IsOneReading net other size × (size ≤ steps) × ¬ HasEnded net other) → IsStall outcome
      no_reading (other, size, reading, within, unended) =
          let order = reading.some.0 in
          let longer = none_short order reading.some.1 reading.some.2 in
          let is = (reading.one order reading.some.1 reading.some.2).1 in
          absurd (omega (arith, longer, is, within))

      too_few : IsPlain net → (lists : Lists) → AreLists net lists → enough net lists ≤ steps → outcome ≢ Spent steps
      too_few plain lists are few is =
          let more = spent.journal ++ spent.more.0 ∷ [] in
          let legal : IsLegal net more = legal_last net nothing_yet spent.journal spent.more.0 spent.legal spent.more.1 in
          let size = length-append spent.journal (spent.more.0 ∷ []) in
          let least = few_steps net formed plain lists are more legal in
          let full = spent.full in
          omega (arith, size, least, full, few)

      not_enough : IsPlain net → (lists : Lists) × AreLists net lists × (enough net lists ≤ steps → outcome ≢ Spent steps)
      not_enough plain = (let some = some_lists net formed plain in (some.0, some.1, too_few plain some.0 some.1))

    headline_net : RunMeans net steps workers trace outcome effect → IsHeadline net steps workers trace outcome effect
    headline_net (finishes answer done outcome_is effect_is) = finished answer done outcome_is effect_is
    headline_net (exhausts spent outcome_is effect_is) = record {
      answer = spends (none_short spent outcome_is) outcome_is (untraced_is spent.journal trace effect no_effect effect_is);
      streams = λ plain is. absurd (subst IsEnded outcome_is is);
      stalls = (λ is. absurd (no_stall spent outcome_is is), no_reading spent outcome_is);
      enough = not_enough spent outcome_is;
      first = committed;
      traced = traced_by spent.journal net steps workers spent.legal (inr spent.full) spent.least trace effect no_effect refl effect_is;
    }

    -- and the sample
    module _ (plain : IsPlain net) (ends : (es : List Entry) → IsLegal net es → IsComplete net es → HasEnded net (play net es) × ((reply net (play net es)).code ≡ pos 0)) (count : ℕ) where
      done_by : (waits : List WaitLine) (code : ℤ) → waits ≡ [] → code ≡ pos 0 → outcome_by net waits code ≡ Done
      done_by waits code none zero_code = rw none (rw zero_code refl)

      all_done : (es : List Entry) → IsLegal net es → IsComplete net es → outcome_of net (reply net (play net es)) ≡ Done
      all_done es legal complete =
          let over = ends es legal complete in
          done_by (reply net (play net es)).waits (reply net (play net es)).code (ended_none net (play net es) over.0) over.1

      summary_net : SampleMeans count net steps workers outcome effect → HasOneSummary net count steps outcome effect
      summary_net (sums_up answer done outcome_is effect_is) =
          let is_done = outcome_is ∙ ap (outcome_of net) (sym done.replies) ∙ all_done done.journal done.legal done.complete in
          one_sum (play net done.journal) (length done.journal) (reading_of done.journal done.legal done.complete)
          (plain_reading net formed plain done.journal done.legal (ends done.journal done.legal done.complete).0) done.within is_done
          (effect_is ∙ ap (λ (r : Reply). summed_up count r.console (length done.journal) outcome) (sym done.replies)
          ∙ ap (summed_up count (reply net (play net done.journal)).console (length done.journal)) is_done)
      summary_net (sample_spends spent outcome_is effect_is) = falls_short (none_short spent outcome_is) outcome_is effect_is

-- A line of a file of sets

set_answer : (given : Before) (steps workers : ℕ) (spec : List ℕ) (ended : SetEnd) → SetMeans given steps workers spec ended → IsSetAnswer given steps workers spec ended
set_answer given steps workers spec ended (set_refused fault least outcome_is effect_is) = is_refused fault least outcome_is effect_is
set_answer given steps workers spec ended (set_ran net is means) =
    is_run net is means (λ settled. headline_net (net_on given net) steps workers (fed_formed given.input given.files net (net_formed spec net is)) settled None ended.outcome ended.effect means)

-- A lint

-- the line of a net that never stalls is no other
is_never : (answer : Answer) → output_of (lint_line answer) ≡ output_of (lint_line Answers.Never) → answer ≡ Answers.Never
is_never (Answers.Loose s) same = (let line : lint_line (Answers.Loose s) ≡ lint_line Answers.Never = ap (λ (e : Effect). e.output) same in cc)
is_never (Answers.Issuer s) same = (let line : lint_line (Answers.Issuer s) ≡ lint_line Answers.Never = ap (λ (e : Effect). e.output) same in cc)
is_never (Answers.Latch s) same = (let line : lint_line (Answers.Latch s) ≡ lint_line Answers.Never = ap (λ (e : Effect). e.output) same in cc)
is_never (Answers.Walk walk) same = (let line : lint_line (Answers.Walk walk) ≡ lint_line Answers.Never = ap (λ (e : Effect). e.output) same in cc)
is_never Answers.Never same = refl

-- A call

module _ (words : List (List ℕ)) (given : Before) (outcome : Outcome) (effect : Effect) (means : Means words given outcome effect) where
  by_run : (net : Net) (steps : ℕ) (trace : Option (List ℕ)) (runs : RunsNet words net steps trace) → IsSettled (net_on given net) → fed_size given net ≤ input_limit →
      IsHeadline (net_on given net) steps runs.run.workers trace outcome effect
  by_run net steps trace runs settled fits = by (meaning_at words given (Asked.Run net runs.run.workers steps trace) (run_called words net steps trace runs) outcome effect means)
    where
      by : IfFits given net outcome effect (RunMeans (net_on given net) steps runs.run.workers trace outcome effect) → IsHeadline (net_on given net) steps runs.run.workers trace outcome effect
      by (inl large) = (let past = large.0 in absurd (omega (arith, fits, past)))
      by (inr run) = headline_net (net_on given net) steps runs.run.workers (fed_formed given.input given.files net (net_formed runs.spec net runs.net_of)) settled trace outcome effect run.1

  by_lint : (net : Net) → LintsNet words net → effect ≡ output_of (lint_line Answers.Never) → NeverStalls net
  by_lint net lints never =
      let meant = meaning_at words given (Asked.Lint net) lints outcome effect means in
      never_told net (net_formed lints.spec net lints.net_of) meant.answer meant.told (is_never meant.answer (sym meant.effect_is ∙ never))

  by_sample : (count workers steps : ℕ) → command_of words ≡ Some (Sample count workers steps) →
      (net : Net) × IsNetOf sample_spec net × HasOneSummary (with_input (sample_text count) net) count steps outcome effect
  by_sample count workers steps command =
      let net = sample_net [] in
      let input = sample_text count in (
        net,
        sample_has_net,
        summary_net (with_input input net) steps workers (fed_whole input net sample_has_net) (fed_plain input net sample_has_net).settled None outcome effect (fed_plain input net sample_has_net)
            (λ es legal complete. (fed_ends input net sample_has_net es legal complete, fed_code input net sample_has_net es legal complete)) count
            (meaning_at words given (Asked.Sample net count workers steps) (sample_called words net count steps (record { workers = workers; command = command; net_of = sample_has_net })) outcome effect means),
      )

  by_sets : (specs : List (List ℕ)) (steps workers : ℕ) (nets : List Net) → RunsSets words given.files specs steps workers → AreNetsOf specs nets → fed_size given (all_of nets) ≤ input_limit →
      HaveAnswers given steps workers specs outcome effect
  by_sets specs steps workers nets runs are fits = by (lines_meaning words given specs steps workers nets runs are outcome effect means)
    where
      by : IfFits given (all_of nets) outcome effect (LinesMean given steps workers specs outcome effect) → HaveAnswers given steps workers specs outcome effect
      by (inl large) = (let past = large.0 in absurd (omega (arith, fits, past)))
      by (inr have) = record {
        ends = have.1.ends;
        each = zip_too (SetMeans given steps workers) (IsSetAnswer given steps workers) (set_answer given steps workers) specs have.1.ends have.1.mean;
        outcome_is = have.1.outcome_is;
        effect_is = have.1.effect_is;
      }

  pub headline : Headline words given outcome effect
  headline = record { runs = by_run; lints = by_lint; sets = by_sets; samples = by_sample }
