-- What a strand that passes records on has in sight came in on the input on which it last saw one.
use Rattle.std.proofs.Common.{◌≡◌, ◌⊎◌, inl, inr, ℕ, Bool, true, false, ◌||◌, not, ◌==◌, List, [], ◌∷◌, refl, sym, ◌∙◌, ap, subst, Some}
use Rattle.std.proofs.lemmas.Bool.{eqb-true}
use Rattle.pipe_model.specs.declared.net.Strand.{Strand}
use Rattle.pipe_model.specs.Event.{Event, Want, in_sight}
use Rattle.pipe_model.specs.Event.Event.{Saw, Took}
use Rattle.pipe_model.specs.Event.Want.{Read, Any, Gate, Write}
use Rattle.pipe_model.specs.Row.{sees}
use Rattle.pipe_model.specs.Table.{form}
use Rattle.pipe_model.specs.Next.{next, IsOwn}
use Rattle.pipe_model.specs.Tags.{last_input}
use Rattle.pipe_model.proofs.Truths.{both}
use Rattle.confluence_laws.proofs.Facts.{asked_by}
use Rattle.confluence_laws.proofs.Sound.{sound_line}
use Rattle.confluence_laws.proofs.Fitting.{past_of, sees_is, stands_for}
use Rattle.confluence_laws.proofs.Owns.{saw_asked, passing_writes, thin_writes}
use Rattle.confluence_laws.proofs.Upstream.{PassesOn}

module _ (s : Strand) (on : PassesOn s) where
  -- where it looks it sees nothing
  none_seen : (h : List Event) → IsOwn s h → (w : Want) → next s h ≡ Some w → asked_by s (past_of s h).known w → (past_of s h).known.sight ≡ []
  none_seen h own w want asked = elim on [
    | inl thin ↦ (((sound_line s).thin (both (form s).thin (s.ports.inputs == 1) thin).0).reads (past_of s h).known w asked).1
    | inr braided ↦
        let any = (sound_line s).braided braided (past_of s h).known w asked in
        (sound_line s).sound.looks (past_of s h).known Any (subst (asked_by s (past_of s h).known) any asked)
  ]

  -- so it sees one at a time
  pub sight_last : (h : List Event) → IsOwn s h → (i : ℕ) → in_sight i h ≡ true → last_input h ≡ i
  sight_last [] own i sight = cc
  sight_last (Saw j rec ∷ h) own i sight = by_test (j == i) refl sight
    where
      at_look : in_sight i h ≡ true → (w : Want) → next s h ≡ Some w → asked_by s (past_of s h).known w → j ≡ i
      at_look seen w want asked = (let z : true ≡ false = sym seen ∙ sym (sees_is s h own.1 i) ∙ ap (sees i) (none_seen h own.1 w want asked) in cc)

      by_look : in_sight i h ≡ true → (next s h ≡ Some (Read j)) ⊎ ((next s h ≡ Some Any) ⊎ (next s h ≡ Some Gate)) → j ≡ i
      by_look seen (inl want) = at_look seen (Read j) want (stands_for s h own.1 (Read j) want).asked
      by_look seen (inr (inl want)) = at_look seen Any want (stands_for s h own.1 Any want).asked
      by_look seen (inr (inr want)) = at_look seen Gate want (stands_for s h own.1 Gate want).asked

      by_test : (b : Bool) → (j == i) ≡ b → (b || in_sight i h) ≡ true → j ≡ i
      by_test true is seen = eqb-true j i is
      by_test false is seen = by_look seen (saw_asked (next s h) j rec own.0)
  sight_last (Took j ∷ h) own i sight = sight_last h own.1 i (both (not (j == i)) (in_sight i h) sight).1
  sight_last (_ ∷ h) own i sight = sight_last h own.1 i sight

  -- where it writes a record is in sight there
  pub sight_there : (h : List Event) → IsOwn s h → (o : ℕ) (rec : List ℕ) → next s h ≡ Some (Write o rec) → in_sight (last_input h) h ≡ true
  sight_there h own o rec want =
      let x : (i : ℕ) × (in_sight i h ≡ true) = elim on [
        | inl thin ↦ (0, thin_writes s (both (form s).thin (s.ports.inputs == 1) thin).0 h own o rec want)
        | inr braided ↦ passing_writes s ((sound_line s).passing braided) h own o rec want
      ] in
      subst (λ z. in_sight z h ≡ true) (sym (sight_last h own x.0 x.1)) x.1
