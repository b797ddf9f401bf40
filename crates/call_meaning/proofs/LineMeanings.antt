-- What the words of a straight line mean.
use Rattle.std.proofs.Common.{◌≡◌, ℕ, ◌<◌, List, [], sym, ◌∙◌, ap, subst, pos, refl, inl, inr, Option}
use Rattle.pipe_model.specs.Records.{lines, text}
use Rattle.pipe_model.specs.Reply.{Reply}
use Rattle.pipe_model.specs.Straight.{selected_by}
use Rattle.spec_scanner.specs.Straight.{IsStraight}
use Rattle.net_graph.specs.Line.{line_net}
use Rattle.net_graph.proofs.Feeds.{fed_formed}
use Rattle.net_graph.proofs.StraightGraphs.{straight_graph}
use Rattle.pipe_model.specs.WellFormed.{IsWellFormed}
use Rattle.call_meaning.specs.declared.calls.Call.TheVariants.{Run}
use Rattle.call_meaning.specs.declared.status.Outcome.{Outcome}
use Rattle.call_meaning.specs.Effects.{Before, Effect, effect_of, no_effect}
use Rattle.call_meaning.specs.Meaning.{Finishes, IsLineOutcome, IsNetOf, IsRunOf, Means, RunMeans, input_limit, net_on, outcome_of}
use Rattle.call_meaning.specs.Meaning.RunMeans.{finishes, exhausts}
use Rattle.call_meaning.proofs.LineFed.{line_fed, line_size}
use Rattle.call_meaning.proofs.LineReply.{line_replies}
use Rattle.call_meaning.proofs.Meanings.{IfFits, meaning_at, run_called}
use Rattle.call_meaning.proofs.OneTexts.{net_formed}
use Rattle.call_meaning.proofs.Untraced.{untraced_is}

module _ (words : List (List ℕ)) (spec : List ℕ) (steps : ℕ) (strings : List (List ℕ)) (before : Before) (trace : Option (List ℕ)) (run : IsRunOf words spec steps trace) (straight : IsStraight spec strings) where
  line : IsNetOf spec (line_net [] strings)
  line = (let read = straight_graph spec strings straight in record { pipelines = read.0; reads = read.1; graph = read.2 })

  abbrev Told : Outcome → Effect → Type 0
  Told outcome effect = IsLineOutcome strings before.input steps outcome effect

  -- the lines that hold every string
  abbrev answer : Reply
  answer = record { console = text (selected_by strings (lines before.input)); files = []; code = pos 0; waits = [] }

  on_formed : IsWellFormed (line_net before.input strings)
  on_formed = subst IsWellFormed (line_fed before strings) (fed_formed before.input before.files (line_net [] strings) (net_formed spec (line_net [] strings) line))

  answer_is : (reply_was : Reply) → Finishes (line_net before.input strings) steps run.workers reply_was → reply_was ≡ answer
  answer_is reply_was done = sym done.replies ∙ line_replies before.input strings on_formed done.journal done.legal done.complete

  run_told : (outcome : Outcome) (effect : Effect) → RunMeans (line_net before.input strings) steps run.workers trace outcome effect → Told outcome effect
  run_told outcome effect (finishes reply_was done outcome_is effect_is) =
      let same = answer_is reply_was done in
      subst (λ o. Told o effect) (sym (outcome_is ∙ ap (outcome_of (line_net before.input strings)) same))
      (untraced_is done.journal trace effect (effect_of reply_was) effect_is ∙ ap effect_of same)
  run_told outcome effect (exhausts spent outcome_is effect_is) =
      subst (λ o. Told o effect) (sym outcome_is) (refl, untraced_is spent.journal trace effect no_effect effect_is)

  pub line_means : (outcome : Outcome) (effect : Effect) → Means words before outcome effect → Told outcome effect
  line_means outcome effect means =
      by (meaning_at words before (Run (line_net [] strings) run.workers steps trace) (run_called words (line_net [] strings) steps trace (record { spec = spec; run = run; net_of = line })) outcome effect means)
    where
      by : IfFits before (line_net [] strings) outcome effect (RunMeans (net_on before (line_net [] strings)) steps run.workers trace outcome effect) → Told outcome effect
      by (inl large) = subst (λ o. Told o effect) (sym large.1) (subst (λ n. input_limit < n) (line_size before strings) large.0, large.2)
      by (inr ran) = run_told outcome effect (subst (λ z. RunMeans z steps run.workers trace outcome effect) (line_fed before strings) ran.1)
