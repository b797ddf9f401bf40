-- Words mean one outcome and one effect at most, but for the file of a journal.
use Rattle.std.proofs.Common.{◌≡◌, ◌⊎◌, inl, inr, ℕ, suc, ◌<◌, ◌≤◌, List, [], length, refl, sym, ◌∙◌, ap, subst, arith, Option, Some, None}
use Rattle.std.specs.List.{AllZip}
use Rattle.pipe_model.specs.Records.{lines}
use Rattle.pipe_model.specs.declared.net.Net.{Net}
use Rattle.pipe_model.specs.declared.step.Entry.{Entry}
use Rattle.pipe_model.specs.Settled.{IsSettled}
use Rattle.spec_scanner.specs.declared.fault.Fault.{Fault}
use Rattle.net_graph.specs.Fed.{with_input}
use Rattle.net_graph.proofs.Feeds.{fed_formed}
use Rattle.journal_file.specs.declared.checking.Checked.TheVariants.{Legal, Illegal}
use Rattle.journal_file.specs.Faults.{IsFirstFault}
use Rattle.journal_file.specs.Text.{IsJournal, journal_text}
use Rattle.journal_file.proofs.OneFronts.{faults_same, journal_faultless, journals_same}
use Rattle.journal_file.proofs.OneJudgement.{one_judgement}
use Rattle.stall_lint.proofs.Telling.{one_line}
use Rattle.call_words.specs.Command.{command_of}
use Rattle.call_words.specs.declared.command.Command.{Command}
use Rattle.call_words.specs.declared.command.Command.TheVariants as Said
use Rattle.call_meaning.specs.declared.calls.Call.{Call}
use Rattle.call_meaning.specs.declared.calls.Call.TheVariants.{Run, Check, Lint, Sample, Sets}
use Rattle.call_meaning.specs.declared.status.Outcome.{Outcome}
use Rattle.call_meaning.specs.declared.status.Outcome.TheVariants.{SpecRefused, InputTooLarge, JournalAbsent, JournalEntry, JournalLine, SetsAbsent, SetsLine}
use Rattle.call_meaning.specs.Effects.{Before, Effect, no_effect, output_of, untraced}
use Rattle.call_meaning.specs.Meaning.{AreNetsOf, AreOneEffect, CheckMeans, FeedsNet, IsNetOf, IsRunNet, IsSpecRefused, IsUnrun, LintMeans, Means, RunMeans, RunsNet, RunsSets, SampleMeans, SamplesNet, SetMeans, fed_size, input_limit, legal_line, net_on, spec_of}
use Rattle.call_meaning.specs.Meaning.AreOneEffect.{one_done, one_told}
use Rattle.call_meaning.specs.Meaning.CheckMeans.{legal, illegal}
use Rattle.call_meaning.specs.Meaning.ComesTo.{ran, checked, linted, sampled, ran_sets}
use Rattle.call_meaning.specs.Meaning.FeedsNet.{of_run, of_check, of_sets}
use Rattle.call_meaning.specs.Meaning.IsRunNet.{by_itself, as_a_set}
use Rattle.call_meaning.specs.Meaning.IsUnfit.{absent, unread, sets_absent, sets_many}
use Rattle.call_meaning.specs.Meaning.IsUnrun.{no_command, refused}
use Rattle.call_meaning.specs.Meaning.Means.{unrun, unfit, too_large, came}
use Rattle.call_meaning.specs.Refusals.{HasLeastFault}
use Rattle.call_meaning.specs.Sample.{sample_text}
use Rattle.call_meaning.specs.Sets.{AreFew, SetEnd, all_of, effect_of_sets, outcome_of_sets}
use Rattle.call_meaning.specs.Calls.{IsCall}
use Rattle.call_meaning.proofs.OneRuns.{one_run, one_sample}
use Rattle.call_meaning.proofs.OneTexts.{net_formed, net_unrefused, one_least, one_net}
use Rattle.call_meaning.proofs.SampleRuns.{fed_plain, fed_whole}
use Rattle.call_meaning.proofs.SetEnds.{AreSettled, ends_same}
use Rattle.call_meaning.proofs.SetLines.{few_or_many, most_same, nets_same}

-- What a call comes to

-- a net is fed too much, or not, and comes to this
abbrev pub IfFits : Before → Net → Outcome → Effect → Type 0 → Type 0
IfFits before net outcome effect means = ((input_limit < fed_size before net) × (outcome ≡ InputTooLarge) × (effect ≡ no_effect)) ⊎ ((fed_size before net ≤ input_limit) × means)

-- a check of the file of this name
pub data ChecksOut (before : Before) (name : List ℕ) (net : Net) (outcome : Outcome) (effect : Effect) : Type 0 where
  has_no_file : before.files name ≡ None → outcome ≡ JournalAbsent → effect ≡ no_effect → ChecksOut before name net outcome effect
  has_fault : (text : List ℕ) (number : ℕ) → before.files name ≡ Some text → IsFirstFault text number → outcome ≡ JournalLine number → effect ≡ no_effect → ChecksOut before name net outcome effect
  has_journal : (journal : List Entry) → before.files name ≡ Some (journal_text journal) → IsJournal journal → IfFits before net outcome effect (CheckMeans (net_on before net) journal outcome effect) →
      ChecksOut before name net outcome effect

-- the lines of a file, which come to this
pub record LinesMean (before : Before) (steps workers : ℕ) (specs : List (List ℕ)) (outcome : Outcome) (effect : Effect) : Type 0 where
  pub ends : List SetEnd
  pub mean : AllZip (SetMeans before steps workers) specs ends
  pub outcome_is : outcome ≡ outcome_of_sets ends
  pub effect_is : effect ≡ effect_of_sets ends

-- a run of the lines of the file of this name
pub data RunsLines (before : Before) (name : List ℕ) (workers steps : ℕ) (outcome : Outcome) (effect : Effect) : Type 0 where
  has_no_lines : before.files name ≡ None → outcome ≡ SetsAbsent → effect ≡ no_effect → RunsLines before name workers steps outcome effect
  has_many : (text : List ℕ) (few : ℕ) → before.files name ≡ Some text → few < length (lines text) → AreFew steps few → ¬ AreFew steps (suc few) → outcome ≡ SetsLine (suc few) → effect ≡ no_effect →
      RunsLines before name workers steps outcome effect
  has_lines : (text : List ℕ) (specs : List (List ℕ)) (nets : List Net) → before.files name ≡ Some text → lines text ≡ specs → AreFew steps (length specs) → AreNetsOf specs nets →
      IfFits before (all_of nets) outcome effect (LinesMean before steps workers specs outcome effect) → RunsLines before name workers steps outcome effect

abbrev pub CarriesOut : Before → Call → Outcome → Effect → Type 0
CarriesOut before (Run net workers steps trace) outcome effect = IfFits before net outcome effect (RunMeans (net_on before net) steps workers trace outcome effect)
CarriesOut before (Check net name) outcome effect = ChecksOut before name net outcome effect
CarriesOut before (Lint net) outcome effect = LintMeans net outcome effect
CarriesOut before (Sample net count workers steps) outcome effect = SampleMeans count (with_input (sample_text count) net) steps workers outcome effect
CarriesOut before (Sets name workers steps) outcome effect = RunsLines before name workers steps outcome effect

-- the words ask for this, which comes to this
pub record IsCarriedOut (words : List (List ℕ)) (before : Before) (outcome : Outcome) (effect : Effect) : Type 0 where
  pub call : Call
  pub asked : IsCall words call
  pub comes : CarriesOut before call outcome effect

-- a command is of a net, where it has a specification
abbrev IsCommandNet : Command → Net → Type 0
IsCommandNet command net = (spec : List ℕ) → spec_of command ≡ Some spec → IsNetOf spec net

abbrev call_of : Command → Net → Call
call_of (Said.Run spec workers steps trace) net = Run net workers steps trace
call_of (Said.Check spec name) net = Check net name
call_of (Said.Lint spec) net = Lint net
call_of (Said.Sample count workers steps) net = Sample net count workers steps
call_of (Said.Sets name workers steps) net = Sets name workers steps

same_of : (command : Command) (a b : Net) → IsCommandNet command a → IsCommandNet command b → call_of command a ≡ call_of command b
same_of (Said.Run spec workers steps trace) a b first second = ap (λ (z : Net). Run z workers steps trace) (one_net spec a b (first spec refl) (second spec refl))
same_of (Said.Check spec name) a b first second = ap (λ (z : Net). Check z name) (one_net spec a b (first spec refl) (second spec refl))
same_of (Said.Lint spec) a b first second = ap (λ (z : Net). Lint z) (one_net spec a b (first spec refl) (second spec refl))
same_of (Said.Sample count workers steps) a b first second = ap (λ (z : Net). Sample z count workers steps) (one_net _ a b (first _ refl) (second _ refl))
same_of (Said.Sets name workers steps) a b first second = refl

only_spec : (spec : List ℕ) (net : Net) → IsNetOf spec net → (other : List ℕ) → Some spec ≡ Some other → IsNetOf other net
only_spec spec net is other both = (let same : spec ≡ other = cc in subst (λ z. IsNetOf z net) same is)

module _ (words : List (List ℕ)) where
  -- the words are a command that asks for this call
  record IsSaid (call : Call) : Type 0 where
    command : Command
    command_is : command_of words ≡ Some command
    net : Net
    net_of : IsCommandNet command net
    call_is : call ≡ call_of command net

  said : (call : Call) → IsCall words call → IsSaid call
  said (Run net workers steps trace) (runs, same) = record {
    command = Said.Run runs.spec workers steps trace;
    command_is = runs.run.command ∙ ap (λ n. Some (Said.Run runs.spec n steps trace)) same;
    net = net;
    net_of = only_spec runs.spec net runs.net_of;
    call_is = refl;
  }
  said (Check net name) checks = record { command = Said.Check checks.spec name; command_is = checks.command; net = net; net_of = only_spec checks.spec net checks.net_of; call_is = refl }
  said (Lint net) lints = record { command = Said.Lint lints.spec; command_is = lints.command; net = net; net_of = only_spec lints.spec net lints.net_of; call_is = refl }
  said (Sample net count workers steps) (samples, same) = record {
    command = Said.Sample count workers steps;
    command_is = samples.command ∙ ap (λ n. Some (Said.Sample count n steps)) same;
    net = net;
    net_of = only_spec _ net samples.net_of;
    call_is = refl;
  }
  said (Sets name workers steps) command = record { command = Said.Sets name workers steps; command_is = command; net = all_of []; net_of = λ spec none. cc; call_is = refl }

  -- a run is a call, and so is the sample
  pub run_called : (net : Net) (steps : ℕ) (trace : Option (List ℕ)) (runs : RunsNet words net steps trace) → IsCall words (Run net runs.run.workers steps trace)
  run_called net steps trace runs = (runs, refl)

  pub sample_called : (net : Net) (count steps : ℕ) (samples : SamplesNet words net count steps) → IsCall words (Sample net count samples.workers steps)
  sample_called net count steps samples = (samples, refl)

  -- words ask for one call
  same_call : (c d : Call) → IsCall words c → IsCall words d → c ≡ d
  same_call c d first second =
      let p = said c first in
      let q = said d second in
      let both : Some p.command ≡ Some q.command = sym p.command_is ∙ q.command_is in
      let same : p.command ≡ q.command = cc in
      p.call_is ∙ ap (λ z. call_of z p.net) same ∙ same_of q.command p.net q.net (subst (λ z. IsCommandNet z p.net) same p.net_of) q.net_of ∙ sym q.call_is

  -- which isn't refused
  called_or_not : (call : Call) (outcome : Outcome) → IsCall words call → IsUnrun words outcome → ⊥
  called_or_not call outcome asked (no_command none is) = (let p = said call asked in let both : Some p.command ≡ None = sym p.command_is ∙ none in cc)
  called_or_not call outcome asked (refused fault least is) =
      let p = said call asked in
      let both : Some p.command ≡ Some least.command = sym p.command_is ∙ least.command_is in
      let same : p.command ≡ least.command = cc in
      net_unrefused least.spec p.net fault (p.net_of least.spec (ap spec_of same ∙ least.spec_is)) least.refused

  refused_same : (a b : Fault) → IsSpecRefused words a → IsSpecRefused words b → a ≡ b
  refused_same a b first second =
      let both : Some first.command ≡ Some second.command = sym first.command_is ∙ second.command_is in
      let same : first.command ≡ second.command = cc in
      let specs : Some first.spec ≡ Some second.spec = sym first.spec_is ∙ ap spec_of same ∙ second.spec_is in
      let spec : first.spec ≡ second.spec = cc in
      one_least second.spec a b (subst (λ z. HasLeastFault z a) spec first.refused) second.refused

  -- words that aren't carried out have one outcome
  one_unrun : (a b : Outcome) → IsUnrun words a → IsUnrun words b → a ≡ b
  one_unrun a b (no_command none a_is) (no_command none' b_is) = a_is ∙ sym b_is
  one_unrun a b (no_command none a_is) (refused fault least b_is) = (let both : None ≡ Some least.command = sym none ∙ least.command_is in cc)
  one_unrun a b (refused fault least a_is) (no_command none b_is) = (let both : None ≡ Some least.command = sym none ∙ least.command_is in cc)
  one_unrun a b (refused fault least a_is) (refused fault' least' b_is) = a_is ∙ ap (λ (f : Fault). SpecRefused f.number f.argument f.place) (refused_same fault fault' least least') ∙ sym b_is

  module _ (before : Before) where
    lines_called : (specs : List (List ℕ)) (steps workers : ℕ) (runs : RunsSets words before.files specs steps workers) (nets : List Net) → AreNetsOf specs nets → (outcome : Outcome) (effect : Effect) →
        IfFits before (all_of nets) outcome effect (LinesMean before steps workers specs outcome effect) → IsCarriedOut words before outcome effect
    lines_called specs steps workers runs nets are outcome effect fed =
        record { call = Sets runs.name workers steps; asked = runs.command; comes = has_lines runs.text specs nets runs.stored runs.lines_are runs.few are fed }

    large_carried : (net : Net) (outcome : Outcome) (effect : Effect) → FeedsNet words before.files net → input_limit < fed_size before net → outcome ≡ InputTooLarge → effect ≡ no_effect → IsCarriedOut words before outcome effect
    large_carried net outcome effect (of_run steps trace runs) large is done = record { call = Run net runs.run.workers steps trace; asked = run_called net steps trace runs; comes = inl (large, is, done) }
    large_carried net outcome effect (of_check journal c) large is done = record { call = Check net c.name; asked = c.checks; comes = has_journal journal c.stored c.is_journal (inl (large, is, done)) }
    large_carried net outcome effect (of_sets specs steps workers nets runs are net_is) large is done =
        lines_called specs steps workers runs nets are outcome effect (inl (subst (λ (z : Net). input_limit < fed_size before z) net_is large, is, done))

    -- words that mean something aren't carried out, or are
    carried : (outcome : Outcome) (effect : Effect) → Means words before outcome effect → (IsUnrun words outcome × (effect ≡ no_effect)) ⊎ IsCarriedOut words before outcome effect
    carried outcome effect (unrun why done) = inl (why, done)
    carried outcome effect (unfit (absent net name checks none is) done) = inr (record { call = Check net name; asked = checks; comes = has_no_file none is done })
    carried outcome effect (unfit (unread net name text number checks some fault is) done) = inr (record { call = Check net name; asked = checks; comes = has_fault text number some fault is done })
    carried outcome effect (unfit (sets_absent name workers steps command none is) done) = inr (record { call = Sets name workers steps; asked = command; comes = has_no_lines none is done })
    carried outcome effect (unfit (sets_many name text workers steps most command some more few many is) done) =
        inr (record { call = Sets name workers steps; asked = command; comes = has_many text most some more few many is done })
    carried outcome effect (too_large large is done) = inr (large_carried large.net outcome effect large.feeds large.large is done)
    carried outcome effect (came (ran r)) = inr (record { call = Run r.net r.runs.run.workers r.steps r.trace; asked = run_called r.net r.steps r.trace r.runs; comes = inr (r.fits, r.means) })
    carried outcome effect (came (checked c)) =
        let j = c.checks in
        inr (record { call = Check c.net j.name; asked = j.checks; comes = has_journal c.journal j.stored j.is_journal (inr (c.fits, c.means)) })
    carried outcome effect (came (linted l)) = inr (record { call = Lint l.net; asked = l.lints; comes = l.means })
    carried outcome effect (came (sampled s)) = inr (record { call = Sample s.net s.count s.samples.workers s.steps; asked = sample_called s.net s.count s.steps s.samples; comes = s.means })
    carried outcome effect (came (ran_sets r)) =
        inr (lines_called r.specs r.steps r.workers r.runs r.nets r.nets_are outcome effect (inr (r.fits, record { ends = r.ends; mean = r.mean; outcome_is = r.outcome_is; effect_is = r.effect_is })))

    module _ (call : Call) (asked : IsCall words call) (outcome : Outcome) (effect : Effect) where
      carried_at : IsCarriedOut words before outcome effect → CarriesOut before call outcome effect
      carried_at is = subst (λ z. CarriesOut before z outcome effect) (same_call is.call call is.asked asked) is.comes

      -- what words mean is what the call that they ask for comes to
      pub meaning_at : Means words before outcome effect → CarriesOut before call outcome effect
      meaning_at means = by (carried outcome effect means)
        where
          by : (IsUnrun words outcome × (effect ≡ no_effect)) ⊎ IsCarriedOut words before outcome effect → CarriesOut before call outcome effect
          by (inl stopped) = absurd (called_or_not call outcome asked stopped.0)
          by (inr is) = carried_at is

    module _ (specs : List (List ℕ)) (steps workers : ℕ) (nets : List Net) (runs : RunsSets words before.files specs steps workers) (are : AreNetsOf specs nets) (outcome : Outcome) (effect : Effect) where
      -- a run of the lines of a file is one of these lines
      lines_at : RunsLines before runs.name workers steps outcome effect → IfFits before (all_of nets) outcome effect (LinesMean before steps workers specs outcome effect)
      lines_at (has_no_lines none is done) = (let both : None ≡ Some runs.text = sym none ∙ runs.stored in cc)
      lines_at (has_many text most some more few many is done) =
          let both : Some text ≡ Some runs.text = sym some ∙ runs.stored in
          let same : text ≡ runs.text = cc in
          absurd (few_or_many steps most (length specs) many (subst (λ z. most < length z) (ap lines same ∙ runs.lines_are) more) runs.few)
      lines_at (has_lines text specs' nets' some lines_are few are' fed) =
          let both : Some text ≡ Some runs.text = sym some ∙ runs.stored in
          let same : text ≡ runs.text = cc in
          let same_specs : specs' ≡ specs = sym lines_are ∙ ap lines same ∙ runs.lines_are in
          let same_nets = nets_same specs nets' nets (subst (λ z. AreNetsOf z nets') same_specs are') are in
          subst (λ z. IfFits before (all_of z) outcome effect (LinesMean before steps workers specs outcome effect)) same_nets
          (subst (λ z. IfFits before (all_of nets') outcome effect (LinesMean before steps workers z outcome effect)) same_specs fed)

      -- what words of sets mean is what the lines of their file come to
      pub lines_meaning : Means words before outcome effect → IfFits before (all_of nets) outcome effect (LinesMean before steps workers specs outcome effect)
      lines_meaning means = lines_at (meaning_at (Sets runs.name workers steps) runs.command outcome effect means)

    module _ (a b : Outcome) (x y : Effect) where
      -- one outcome, and one effect but for the file of a journal
      abbrev AreOne : Type 0
      AreOne = (a ≡ b) × (untraced x ≡ untraced y)

      none_done : a ≡ b → x ≡ no_effect → y ≡ no_effect → AreOne
      none_done same x_is y_is = (same, ap untraced (x_is ∙ sym y_is))

      one_fitting : {P Q : Type 0} (net : Net) → (P → Q → AreOne) → IfFits before net a x P → IfFits before net b y Q → AreOne
      one_fitting net one (inl (large, a_is, x_is)) (inl (large', b_is, y_is)) = none_done (a_is ∙ sym b_is) x_is y_is
      one_fitting net one (inl (large, a_is, x_is)) (inr (fits, q)) = absurd (omega (arith, large, fits))
      one_fitting net one (inr (fits, p)) (inl (large, b_is, y_is)) = absurd (omega (arith, large, fits))
      one_fitting net one (inr (fits, p)) (inr (fits', q)) = one p q

      one_check : (net : Net) (journal : List Entry) → CheckMeans net journal a x → CheckMeans net journal b y → AreOne
      one_check net journal (legal c p a_is x_is) (legal d q b_is y_is) =
          let same : Legal c ≡ Legal d = one_judgement net journal (Legal c) (Legal d) p q in
          let is : c ≡ d = cc in
          (a_is ∙ sym b_is, ap untraced (x_is ∙ ap (λ z. output_of (legal_line (length journal) z)) is ∙ sym y_is))
      one_check net journal (legal c p a_is x_is) (illegal j q b_is y_is) = (let same : Legal c ≡ Illegal j = one_judgement net journal (Legal c) (Illegal j) p q in cc)
      one_check net journal (illegal j p a_is x_is) (legal d q b_is y_is) = (let same : Illegal j ≡ Legal d = one_judgement net journal (Illegal j) (Legal d) p q in cc)
      one_check net journal (illegal j p a_is x_is) (illegal k q b_is y_is) =
          let same : Illegal j ≡ Illegal k = one_judgement net journal (Illegal j) (Illegal k) p q in
          let is : j ≡ k = cc in
          none_done (a_is ∙ ap JournalEntry is ∙ sym b_is) x_is y_is

      -- a text with a fault is no journal's
      faulty_or_not : (name text : List ℕ) (number : ℕ) (journal : List Entry) → before.files name ≡ Some text → IsFirstFault text number → before.files name ≡ Some (journal_text journal) → IsJournal journal → ⊥
      faulty_or_not name text number journal some fault stored is =
          let both : Some text ≡ Some (journal_text journal) = sym some ∙ stored in
          let same : text ≡ journal_text journal = cc in
          journal_faultless journal number is (subst (λ z. IsFirstFault z number) same fault)

      one_checked : (name : List ℕ) (net : Net) → ChecksOut before name net a x → ChecksOut before name net b y → AreOne
      one_checked name net (has_no_file none a_is x_is) (has_no_file none' b_is y_is) = none_done (a_is ∙ sym b_is) x_is y_is
      one_checked name net (has_no_file none a_is x_is) (has_fault text number some fault b_is y_is) = (let both : None ≡ Some text = sym none ∙ some in cc)
      one_checked name net (has_no_file none a_is x_is) (has_journal journal stored is fed) = (let both : None ≡ Some (journal_text journal) = sym none ∙ stored in cc)
      one_checked name net (has_fault text number some fault a_is x_is) (has_no_file none b_is y_is) = (let both : None ≡ Some text = sym none ∙ some in cc)
      one_checked name net (has_fault text number some fault a_is x_is) (has_fault text' number' some' fault' b_is y_is) =
          let both : Some text ≡ Some text' = sym some ∙ some' in
          let same : text ≡ text' = cc in
          none_done (a_is ∙ ap JournalLine (faults_same text' number number' (subst (λ z. IsFirstFault z number) same fault) fault') ∙ sym b_is) x_is y_is
      one_checked name net (has_fault text number some fault a_is x_is) (has_journal journal stored is fed) = absurd (faulty_or_not name text number journal some fault stored is)
      one_checked name net (has_journal journal stored is fed) (has_no_file none b_is y_is) = (let both : None ≡ Some (journal_text journal) = sym none ∙ stored in cc)
      one_checked name net (has_journal journal stored is fed) (has_fault text number some fault b_is y_is) = absurd (faulty_or_not name text number journal some fault stored is)
      one_checked name net (has_journal journal stored is fed) (has_journal journal' stored' is' fed') =
          let both : Some (journal_text journal) ≡ Some (journal_text journal') = sym stored ∙ stored' in
          let texts : journal_text journal ≡ journal_text journal' = cc in
          let same = journals_same journal journal' is is' texts in
          one_fitting net (one_check (net_on before net) journal') (subst (λ j. IfFits before net a x (CheckMeans (net_on before net) j a x)) same fed) fed'

      one_ends : (specs : List (List ℕ)) (steps workers : ℕ) → AreSettled before specs → LinesMean before steps workers specs a x → LinesMean before steps workers specs b y → AreOne
      one_ends specs steps workers settled first second =
          let same = ends_same before steps workers specs first.ends second.ends settled first.mean second.mean in
          (first.outcome_is ∙ ap outcome_of_sets same ∙ sym second.outcome_is, ap untraced (first.effect_is ∙ ap effect_of_sets same ∙ sym second.effect_is))

      module _ (settled : (net : Net) → IsRunNet words before.files net → IsSettled (net_on before net)) where
        as_done : AreOne → (a ≡ b) × AreOneEffect words x y
        as_done one = (one.0, one_done one.1)

        one_lines : (name : List ℕ) (workers steps : ℕ) → command_of words ≡ Some (Said.Sets name workers steps) → RunsLines before name workers steps a x → RunsLines before name workers steps b y → AreOne
        one_lines name workers steps command (has_lines text specs nets some lines_are few are fed) second =
            let runs : RunsSets words before.files specs steps workers = record { name = name; command = command; text = text; stored = some; lines_are = lines_are; few = few } in
            one_fitting (all_of nets) (one_ends specs steps workers (λ k spec net at is. settled net (as_a_set specs steps workers runs k spec at is))) fed (lines_at specs steps workers nets runs are b y second)
        one_lines name workers steps command first (has_lines text specs nets some lines_are few are fed) =
            let runs : RunsSets words before.files specs steps workers = record { name = name; command = command; text = text; stored = some; lines_are = lines_are; few = few } in
            one_fitting (all_of nets) (one_ends specs steps workers (λ k spec net at is. settled net (as_a_set specs steps workers runs k spec at is))) (lines_at specs steps workers nets runs are a x first) fed
        one_lines name workers steps command (has_no_lines none a_is x_is) (has_no_lines none' b_is y_is) = none_done (a_is ∙ sym b_is) x_is y_is
        one_lines name workers steps command (has_no_lines none a_is x_is) (has_many text most some more few many b_is y_is) = (let both : None ≡ Some text = sym none ∙ some in cc)
        one_lines name workers steps command (has_many text most some more few many a_is x_is) (has_no_lines none b_is y_is) = (let both : None ≡ Some text = sym none ∙ some in cc)
        one_lines name workers steps command (has_many text most some more few many a_is x_is) (has_many text' most' some' more' few' many' b_is y_is) =
            none_done (a_is ∙ ap (λ n. SetsLine (suc n)) (most_same steps most most' few many few' many') ∙ sym b_is) x_is y_is

        one_call : (call : Call) → IsCall words call → CarriesOut before call a x → CarriesOut before call b y → (a ≡ b) × AreOneEffect words x y
        one_call (Run net workers steps trace) (runs, same) first second =
            let formed = fed_formed before.input before.files net (net_formed runs.spec net runs.net_of) in
            as_done (one_fitting net (one_run (net_on before net) steps workers formed (settled net (by_itself steps trace runs)) trace a b x y) first second)
        one_call (Check net name) checks first second = as_done (one_checked name net first second)
        one_call (Lint net) lints first second =
            (first.outcome_is ∙ sym second.outcome_is, one_told net first.answer second.answer lints first.told second.told (one_line net first.answer second.answer first.told second.told) first.effect_is second.effect_is)
        one_call (Sample net count workers steps) (samples, same) first second =
            let one = one_sample (with_input (sample_text count) net) steps workers (fed_whole (sample_text count) net samples.net_of) (fed_plain (sample_text count) net samples.net_of).settled count a b x y first second in
            (one.0, one_done (ap untraced one.1))
        one_call (Sets name workers steps) command first second = as_done (one_lines name workers steps command first second)

        pub one_of_each : Means words before a x → Means words before b y → (a ≡ b) × AreOneEffect words x y
        one_of_each first second = by (carried a x first) (carried b y second)
          where
            by : (IsUnrun words a × (x ≡ no_effect)) ⊎ IsCarriedOut words before a x → (IsUnrun words b × (y ≡ no_effect)) ⊎ IsCarriedOut words before b y → (a ≡ b) × AreOneEffect words x y
            by (inl p) (inl q) = as_done (none_done (one_unrun a b p.0 q.0) p.1 q.1)
            by (inl p) (inr is) = absurd (called_or_not is.call a is.asked p.0)
            by (inr is) (inl q) = absurd (called_or_not is.call b is.asked q.0)
            by (inr is) (inr other) = one_call is.call is.asked is.comes (carried_at is.call is.asked b y other)
