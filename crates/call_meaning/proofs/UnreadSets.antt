-- Sets of which none reads the input.
use Rattle.std.proofs.Common.{◌≡◌, ℕ, false, List, [], ◌∷◌, sym, ◌∙◌, ap, subst, None}
use Rattle.std.proofs.lemmas.Bool.{or_parts}
use Rattle.std.proofs.lemmas.List.Folds.{list_any-append}
use Rattle.std.specs.List.{AllZip}
use Rattle.pipe_model.specs.declared.net.Net.{Net}
use Rattle.pipe_model.specs.declared.net.Strand.{Strand}
use Rattle.spec_scanner.specs.declared.fault.Fault.{Fault}
use Rattle.net_graph.specs.Fed.{reads_any, reads_input}
use Rattle.call_meaning.specs.Effects.{Before}
use Rattle.call_meaning.specs.Meaning.{AreNetsOf, IsNetOf, RunMeans, SetMeans}
use Rattle.call_meaning.specs.Meaning.AreNetsOf.{line_read, line_refused, no_line}
use Rattle.call_meaning.specs.Meaning.SetMeans.{set_ran, set_refused}
use Rattle.call_meaning.specs.Refusals.{HasLeastFault}
use Rattle.call_meaning.specs.Sets.{SetEnd, all_of}
use Rattle.call_meaning.proofs.OneTexts.{net_unrefused, one_net}
use Rattle.call_meaning.proofs.Unread.{fed_unread}

-- a strand of all nets is one of the first or of the others
first_unread : (net : Net) (nets : List Net) → reads_any (all_of (net ∷ nets)) ≡ false → (reads_any net ≡ false) × (reads_any (all_of nets) ≡ false)
first_unread net nets leaves = or_parts (reads_any net) (reads_any (all_of nets)) (sym (list_any-append (λ (p : Strand). reads_input p.kind) net.strands (all_of nets).strands) ∙ leaves)

module _ (given : Before) (input : List ℕ) (steps workers : ℕ) where
  abbrev OnGiven : List ℕ → SetEnd → Type 0
  OnGiven = SetMeans given steps workers

  abbrev OnOther : List ℕ → SetEnd → Type 0
  OnOther = SetMeans (record given { input = input }) steps workers

  refused_unread : (spec : List ℕ) (fault : Fault) → HasLeastFault spec fault → (ended : SetEnd) → OnGiven spec ended → OnOther spec ended
  refused_unread spec fault least ended (set_refused other least' outcome_is effect_is) = set_refused other least' outcome_is effect_is
  refused_unread spec fault least ended (set_ran net is means) = absurd (net_unrefused spec net fault is least)

  read_unread : (spec : List ℕ) (net : Net) → IsNetOf spec net → reads_any net ≡ false → (ended : SetEnd) → OnGiven spec ended → OnOther spec ended
  read_unread spec net is leaves ended (set_refused fault least outcome_is effect_is) = set_refused fault least outcome_is effect_is
  read_unread spec net is leaves ended (set_ran other is' means) =
      set_ran other is' (subst (λ z. RunMeans z steps workers None ended.outcome ended.effect) (fed_unread given.input input given.files other (ap reads_any (one_net spec other net is' is) ∙ leaves)) means)

  -- come to the same on any
  pub sets_unread : (specs : List (List ℕ)) (nets : List Net) (ends : List SetEnd) → AreNetsOf specs nets → reads_any (all_of nets) ≡ false → AllZip OnGiven specs ends → AllZip OnOther specs ends
  sets_unread specs nets [] no_line leaves mean = tt
  sets_unread specs nets (ended ∷ ends) no_line leaves mean = absurd mean
  sets_unread specs nets [] (line_refused spec fault least rest others are) leaves mean = absurd mean
  sets_unread specs nets (ended ∷ ends) (line_refused spec fault least rest others are) leaves mean = (refused_unread spec fault least ended mean.0, sets_unread rest others ends are leaves mean.1)
  sets_unread specs nets [] (line_read spec net is rest others are) leaves mean = absurd mean
  sets_unread specs nets (ended ∷ ends) (line_read spec net is rest others are) leaves mean =
      let parts = first_unread net others leaves in
      (read_unread spec net is parts.0 ended mean.0, sets_unread rest others ends are parts.1 mean.1)
