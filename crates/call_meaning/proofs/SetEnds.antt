-- Each line of a file of sets comes to one outcome and one effect, and to those that it has alone.
use Rattle.std.proofs.Common.{◌≡◌, ℕ, suc, ◌≤◌, List, [], ◌∷◌, refl, sym, ◌∙◌, ap, ap₂, subst, Some, None, slice_get}
use Rattle.std.specs.List.{AllZip}
use Rattle.pipe_model.specs.declared.net.Net.{Net}
use Rattle.pipe_model.specs.Settled.{IsSettled}
use Rattle.spec_scanner.specs.declared.fault.Fault.{Fault}
use Rattle.net_graph.proofs.Feeds.{fed_formed}
use Rattle.call_words.specs.declared.command.Command.TheVariants.{Run}
use Rattle.call_meaning.specs.declared.status.Outcome.{Outcome}
use Rattle.call_meaning.specs.declared.status.Outcome.TheVariants.{SpecRefused}
use Rattle.call_meaning.specs.Effects.{Before, Effect, effect_of, no_effect, untraced}
use Rattle.call_meaning.specs.Meaning.{IsNetOf, IsRunOf, Means, RunMeans, SetMeans, fed_size, input_limit, net_on}
use Rattle.call_meaning.specs.Meaning.ComesTo.{ran}
use Rattle.call_meaning.specs.Meaning.IsUnrun.{refused}
use Rattle.call_meaning.specs.Meaning.Means.{unrun, came}
use Rattle.call_meaning.specs.Meaning.RunMeans.{finishes, exhausts}
use Rattle.call_meaning.specs.Meaning.SetMeans.{set_refused, set_ran}
use Rattle.call_meaning.specs.Sets.{SetEnd}
use Rattle.call_meaning.proofs.OneRuns.{one_run}
use Rattle.call_meaning.proofs.OneTexts.{net_formed, net_unrefused, one_least, one_net}
use Rattle.call_meaning.proofs.Untraced.{untraced_is}

-- a run without a trace has none in its effect
untraced_run : (net : Net) (steps workers : ℕ) (outcome : Outcome) (effect : Effect) → RunMeans net steps workers None outcome effect → untraced effect ≡ effect
untraced_run net steps workers outcome effect (finishes answer done is effect_is) = untraced_is done.journal None effect (effect_of answer) effect_is ∙ sym effect_is
untraced_run net steps workers outcome effect (exhausts spent is effect_is) = untraced_is spent.journal None effect no_effect effect_is ∙ sym effect_is

-- the nets of the lines are settled
abbrev pub AreSettled : Before → List (List ℕ) → Type 0
AreSettled before specs = (k : ℕ) (spec : List ℕ) (net : Net) → slice_get specs k ≡ Some spec → IsNetOf spec net → IsSettled (net_on before net)

module _ (before : Before) (steps workers : ℕ) where
  same_end : (a b : SetEnd) → a.outcome ≡ b.outcome → a.effect ≡ b.effect → a ≡ b
  same_end a b outcomes effects = ap₂ (λ (o : Outcome) (e : Effect). record { outcome = o; effect = e }) outcomes effects

  same_runs : (net : Net) (a b : SetEnd) → (spec : List ℕ) → IsNetOf spec net → IsSettled (net_on before net) → RunMeans (net_on before net) steps workers None a.outcome a.effect →
      RunMeans (net_on before net) steps workers None b.outcome b.effect → a ≡ b
  same_runs net a b spec is settled first second =
      let fed = net_on before net in
      let one = one_run fed steps workers (fed_formed before.input before.files net (net_formed spec net is)) settled None a.outcome b.outcome a.effect b.effect first second in
      same_end a b one.0 (sym (untraced_run fed steps workers a.outcome a.effect first) ∙ one.1 ∙ untraced_run fed steps workers b.outcome b.effect second)

  one_end : (spec : List ℕ) (a b : SetEnd) → ((net : Net) → IsNetOf spec net → IsSettled (net_on before net)) → SetMeans before steps workers spec a → SetMeans before steps workers spec b → a ≡ b
  one_end spec a b settled (set_refused fault least a_is done) (set_refused fault' least' b_is done') =
      same_end a b (a_is ∙ ap (λ (f : Fault). SpecRefused f.number f.argument f.place) (one_least spec fault fault' least least') ∙ sym b_is) (done ∙ sym done')
  one_end spec a b settled (set_refused fault least a_is done) (set_ran net is means) = absurd (net_unrefused spec net fault is least)
  one_end spec a b settled (set_ran net is means) (set_refused fault least b_is done) = absurd (net_unrefused spec net fault is least)
  one_end spec a b settled (set_ran net is means) (set_ran net' is' means') =
      same_runs net' a b spec is' (settled net' is') (subst (λ (z : Net). RunMeans (net_on before z) steps workers None a.outcome a.effect) (one_net spec net net' is is') means) means'

  -- so lines come to one list of ends
  pub ends_same : (specs : List (List ℕ)) (ends ends' : List SetEnd) → AreSettled before specs → AllZip (SetMeans before steps workers) specs ends → AllZip (SetMeans before steps workers) specs ends' → ends ≡ ends'
  ends_same [] [] [] settled first second = refl
  ends_same [] [] (b ∷ bs) settled first second = absurd second
  ends_same [] (a ∷ more) ends' settled first second = absurd first
  ends_same (spec ∷ specs) [] ends' settled first second = absurd first
  ends_same (spec ∷ specs) (a ∷ more) [] settled first second = absurd second
  ends_same (spec ∷ specs) (a ∷ more) (b ∷ more') settled first second =
      ap₂ (λ (e : SetEnd) (es : List SetEnd). e ∷ es) (one_end spec a b (λ net is. settled 0 spec net refl is) first.0 second.0)
      (ends_same specs more more' (λ k other net at is. settled (suc k) other net at is) first.1 second.1)

-- what a line comes to is what words that run it alone mean
pub as_alone : (words : List (List ℕ)) (spec : List ℕ) (steps workers : ℕ) (before : Before) (ended : SetEnd) (run : IsRunOf words spec steps None) → run.workers ≡ workers →
    ((net : Net) → IsNetOf spec net → fed_size before net ≤ input_limit) → SetMeans before steps workers spec ended → Means words before ended.outcome ended.effect
as_alone words spec steps workers before ended run same fits (set_refused fault least is done) =
    unrun (refused fault (record { command = Run spec run.workers steps None; command_is = run.command; spec = spec; spec_is = refl; refused = least }) is) done
as_alone words spec steps workers before ended run same fits (set_ran net is means) = came (ran (record {
  net = net;
  steps = steps;
  trace = None;
  runs = record { spec = spec; run = run; net_of = is };
  fits = fits net is;
  means = subst (λ n. RunMeans (net_on before net) steps n None ended.outcome ended.effect) (sym same) means;
}))
