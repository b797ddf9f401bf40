-- The headline.
--
-- Whatever the order of steps, a settled specification writes the bytes, replaces the files and answers the code of its stages read as functions on
-- streams; it tells a stall exactly where its one reading leaves stages unfinished, none of which can take a step; and no record moves before every stage
-- has reached commit level 0 with code 0.
use Rattle.std.specs.Prelude.{◌≡◌, ◌≢◌, ◌<◌, ◌≤◌, ◌⊎◌, ◌↔◌, ℕ, List, length}
use Rattle.std.specs.List.{AllZip}
use Rattle.std.specs.declared.option.Option.{Option}
use Rattle.std.specs.declared.option.Option.TheVariants.{Some, None}
use Rattle.journal_file.specs.Text.{journal_text}
use Rattle.pipe_model.specs.declared.net.Net.{Net}
use Rattle.pipe_model.specs.declared.step.Entry.{Entry}
use Rattle.pipe_model.specs.Alone.{Lists, IsPlainReading}
use Rattle.pipe_model.specs.Plain.{AreLists, IsPlain, enough}
use Rattle.pipe_model.specs.Play.{play, HasEnded, IsComplete, IsLegal}
use Rattle.pipe_model.specs.Reply.{FileText, reply}
use Rattle.pipe_model.specs.Settled.{IsSettled}
use Rattle.pipe_model.specs.State.{State}
use Rattle.stall_lint.specs.declared.told.Lint.TheVariants.{Never}
use Rattle.stall_lint.specs.Never.{NeverStalls}
use Rattle.call_words.specs.Command.{command_of}
use Rattle.call_words.specs.declared.command.Command.TheVariants.{Sample}
use Rattle.call_meaning.specs.declared.status.Outcome.{Outcome}
use Rattle.call_meaning.specs.declared.status.Outcome.TheVariants.{Done, Coded, SpecRefused, Stalled, Spent}
use Rattle.call_meaning.specs.Effects.{Before, Effect, effect_of, no_effect, output_of, untraced}
use Rattle.call_meaning.specs.Meaning.{AreLeast, AreNetsOf, IsCommittedFirst, IsNetOf, LintsNet, RunMeans, RunsNet, RunsSets, fed_size, input_limit, lint_line, net_on, outcome_of}
use Rattle.call_meaning.specs.Refusals.{HasLeastFault}
use Rattle.call_meaning.specs.Sample.{sample_spec, sample_text, summary}
use Rattle.call_meaning.specs.Sets.{SetEnd, all_of, effect_of_sets, outcome_of_sets}
use Rattle.spec_scanner.specs.declared.fault.Fault.{Fault}
use Rattle.net_graph.specs.Fed.{with_input}

-- the reading of a net: every complete order of steps comes to these histories, in so many steps, and no order goes on for longer
pub record IsOneReading (net : Net) (st : State) (size : ℕ) : Type 0 where
  pub some : (order : List Entry) × IsLegal net order × IsComplete net order
  pub one : (order : List Entry) → IsLegal net order → IsComplete net order → (play net order ≡ st) × (length order ≡ size)
  pub longest : (order : List Entry) → IsLegal net order → length order ≤ size

-- the outcome and the effect, but for the journal's file, are those that these histories reply
abbrev pub IsReplyOf : Net → State → Outcome → Effect → Type 0
IsReplyOf net st outcome effect = (outcome ≡ outcome_of net (reply net st)) × (untraced effect ≡ effect_of (reply net st))

-- what a net comes to in so many steps at most
pub data HasOneAnswer (net : Net) (steps : ℕ) (outcome : Outcome) (effect : Effect) : Type 0 where
  -- what its reading replies, where that has no more steps
  reads : (st : State) (size : ℕ) → IsOneReading net st size → size ≤ steps → IsReplyOf net st outcome effect → HasOneAnswer net steps outcome effect
  -- else nothing is done: no complete order of steps is that short
  spends : ((order : List Entry) → IsLegal net order → IsComplete net order → steps < length order) → outcome ≡ Spent steps → untraced effect ≡ no_effect → HasOneAnswer net steps outcome effect

-- every stage has ended, or some wait
abbrev pub IsEnded : Outcome → Type 0
IsEnded Done = Unit {0}
IsEnded (Coded code) = Unit {0}
IsEnded _ = ⊥

abbrev pub IsStall : Outcome → Type 0
IsStall (Stalled lines) = Unit {0}
IsStall _ = ⊥

-- the journal's file, where one is named, has the text of an order of steps, which is complete or as long as the steps allow; one worker takes the least step
-- each time
abbrev pub IsTraced : Net → ℕ → ℕ → Option (List ℕ) → Option FileText → Type 0
IsTraced net steps workers None file = file ≡ None
IsTraced net steps workers (Some name) file =
    (order : List Entry) × IsLegal net order × (IsComplete net order ⊎ (length order ≡ steps)) × (workers ≡ 1 → AreLeast net order) × (file ≡ Some (name, journal_text order))

-- what a settled net comes to, whose stages are fed
pub record IsHeadline (net : Net) (steps workers : ℕ) (trace : Option (List ℕ)) (outcome : Outcome) (effect : Effect) : Type 0 where
  -- whatever the order of steps
  pub answer : HasOneAnswer net steps outcome effect
  -- that of its stages read as functions on streams, where the net is plain and every stage ended
  pub streams : IsPlain net → IsEnded outcome → (st : State) × IsPlainReading net st × IsReplyOf net st outcome effect
  -- a stall exactly where the reading leaves stages unfinished
  pub stalls : IsStall outcome ↔ ((st : State) × (size : ℕ) × IsOneReading net st size × (size ≤ steps) × ¬ HasEnded net st)
  -- a plain net has steps enough by the records on its links, its places and its strands
  pub enough : IsPlain net → (lists : Lists) × AreLists net lists × (enough net lists ≤ steps → outcome ≢ Spent steps)
  -- no record moves before every stage is ready
  pub first : (order : List Entry) → IsLegal net order → IsCommittedFirst net order
  -- the order in which the steps were taken is told where it is asked for
  pub traced : IsTraced net steps workers trace effect.trace

-- what the sample of so many lines comes to, whose net is fed them
pub data HasOneSummary (net : Net) (count steps : ℕ) (outcome : Outcome) (effect : Effect) : Type 0 where
  -- the summary of its one reading, in which every stage has ended with code 0, and which is that of its stages read as functions on streams
  sums_up : (st : State) (size : ℕ) → IsOneReading net st size → IsPlainReading net st → size ≤ steps → outcome ≡ Done → effect ≡ output_of (summary count (reply net st).console size) →
      HasOneSummary net count steps outcome effect
  -- or too few steps
  falls_short : ((order : List Entry) → IsLegal net order → IsComplete net order → steps < length order) → outcome ≡ Spent steps → effect ≡ no_effect → HasOneSummary net count steps outcome effect

-- what a line of a file of sets comes to by itself, whatever the others hold
pub data IsSetAnswer (given : Before) (steps workers : ℕ) (spec : List ℕ) (ended : SetEnd) : Type 0 where
  -- its refusal
  is_refused : (fault : Fault) → HasLeastFault spec fault → ended.outcome ≡ SpecRefused fault.number fault.argument fault.place → ended.effect ≡ no_effect → IsSetAnswer given steps workers spec ended
  -- or a run of its net, on the input and the files as they were before the call, which is the headline's where that is settled
  is_run : (net : Net) → IsNetOf spec net → RunMeans (net_on given net) steps workers None ended.outcome ended.effect →
      (IsSettled (net_on given net) → IsHeadline (net_on given net) steps workers None ended.outcome ended.effect) → IsSetAnswer given steps workers spec ended

-- what all lines come to together: their texts one after another, and the files of each after those before it
pub record HaveAnswers (given : Before) (steps workers : ℕ) (specs : List (List ℕ)) (outcome : Outcome) (effect : Effect) : Type 0 where
  pub ends : List SetEnd
  pub each : AllZip (IsSetAnswer given steps workers) specs ends
  pub outcome_is : outcome ≡ outcome_of_sets ends
  pub effect_is : effect ≡ effect_of_sets ends

-- what words of a settled specification come to, on the bytes that the input gave and the files that there were, and what those of the sample and of many sets do
pub record Headline (words : List (List ℕ)) (given : Before) (outcome : Outcome) (effect : Effect) : Type 0 where
  pub runs : (net : Net) (steps : ℕ) (trace : Option (List ℕ)) (runs : RunsNet words net steps trace) → IsSettled (net_on given net) → fed_size given net ≤ input_limit →
      IsHeadline (net_on given net) steps runs.run.workers trace outcome effect
  -- what is told never to stall doesn't, whatever its stages are fed and whatever the order of steps
  pub lints : (net : Net) → LintsNet words net → effect ≡ output_of (lint_line Never) → NeverStalls net
  -- each of many sets has the answer that it has alone
  pub sets : (specs : List (List ℕ)) (steps workers : ℕ) (nets : List Net) → RunsSets words given.files specs steps workers → AreNetsOf specs nets → fed_size given (all_of nets) ≤ input_limit →
      HaveAnswers given steps workers specs outcome effect
  -- the sample owes no condition: its net is settled, and never stalls
  pub samples : (count workers steps : ℕ) → command_of words ≡ Some (Sample count workers steps) →
      (net : Net) × IsNetOf sample_spec net × HasOneSummary (with_input (sample_text count) net) count steps outcome effect
