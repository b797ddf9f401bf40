-- A run of a settled net has one outcome and one effect but for its journal's file, and so has the sample.
use Rattle.std.proofs.Common.{◌≡◌, ℕ, List, length, sym, ◌∙◌, ap, arith, Option}
use Rattle.pipe_model.specs.declared.net.Net.{Net}
use Rattle.pipe_model.specs.Reply.{Reply, reply}
use Rattle.pipe_model.specs.Settled.{IsSettled}
use Rattle.pipe_model.specs.WellFormed.{IsWellFormed}
use Rattle.confluence_laws.proofs.Prefixes.{alike}
use Rattle.call_meaning.specs.declared.status.Outcome.{Outcome}
use Rattle.call_meaning.specs.Effects.{Effect, effect_of, no_effect, untraced}
use Rattle.call_meaning.specs.Meaning.{RunMeans, SampleMeans, Finishes, Exhausts, outcome_of, summed_up}
use Rattle.call_meaning.specs.Meaning.RunMeans.{finishes, exhausts}
use Rattle.call_meaning.specs.Meaning.SampleMeans.{sums_up, spends}
use Rattle.call_meaning.proofs.Journals.{goes_further}
use Rattle.call_meaning.proofs.Untraced.{untraced_is}

module _ (net : Net) (steps workers : ℕ) (formed : IsWellFormed net) (settled : IsSettled net) where
  -- the reply, and the number of its steps
  one_reply : (a b : Reply) (first : Finishes net steps workers a) (second : Finishes net steps workers b) → (a ≡ b) × (length first.journal ≡ length second.journal)
  one_reply a b first second =
      let same = alike net formed settled first.journal second.journal first.legal second.legal first.complete second.complete in
      (sym first.replies ∙ ap (reply net) same.0 ∙ second.replies, same.1)

  -- a run that completes within its steps isn't spent at them
  not_both : (a : Reply) → Finishes net steps workers a → Exhausts net steps workers → ⊥
  not_both a done spent =
      let longer = goes_further net formed settled done.journal spent.journal spent.more.0 done.legal done.complete spent.legal spent.more.1 in
      let within = done.within in
      let full = spent.full in
      absurd (omega (arith, longer, within, full))

  pub one_run : (trace : Option (List ℕ)) (a b : Outcome) (x y : Effect) → RunMeans net steps workers trace a x → RunMeans net steps workers trace b y → (a ≡ b) × (untraced x ≡ untraced y)
  one_run trace a b x y (finishes p done a_is x_is) (finishes q other b_is y_is) =
      let same = (one_reply p q done other).0 in
      (a_is ∙ ap (outcome_of net) same ∙ sym b_is, untraced_is done.journal trace x (effect_of p) x_is ∙ ap effect_of same ∙ sym (untraced_is other.journal trace y (effect_of q) y_is))
  one_run trace a b x y (finishes p done a_is x_is) (exhausts spent b_is y_is) = absurd (not_both p done spent)
  one_run trace a b x y (exhausts spent a_is x_is) (finishes q other b_is y_is) = absurd (not_both q other spent)
  one_run trace a b x y (exhausts spent a_is x_is) (exhausts other b_is y_is) =
      (a_is ∙ sym b_is, untraced_is spent.journal trace x no_effect x_is ∙ sym (untraced_is other.journal trace y no_effect y_is))

  pub one_sample : (count : ℕ) (a b : Outcome) (x y : Effect) → SampleMeans count net steps workers a x → SampleMeans count net steps workers b y → (a ≡ b) × (x ≡ y)
  one_sample count a b x y (sums_up p done a_is x_is) (sums_up q other b_is y_is) =
      let same = one_reply p q done other in
      let outcome : a ≡ b = a_is ∙ ap (outcome_of net) same.0 ∙ sym b_is in (
        outcome,
        x_is
            ∙ ap (summed_up count p.console (length done.journal)) outcome
            ∙ ap (λ n. summed_up count p.console n b) same.1
            ∙ ap (λ (r : Reply). summed_up count r.console (length other.journal) b) same.0
            ∙ sym y_is,
      )
  one_sample count a b x y (sums_up p done a_is x_is) (spends spent b_is y_is) = absurd (not_both p done spent)
  one_sample count a b x y (spends spent a_is x_is) (sums_up q other b_is y_is) = absurd (not_both q other spent)
  one_sample count a b x y (spends spent a_is x_is) (spends other b_is y_is) = (a_is ∙ sym b_is, x_is ∙ sym y_is)
