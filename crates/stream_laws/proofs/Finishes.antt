-- A strand by itself comes to its end, where each input that it is told to look at has a record left.
use Rattle.std.proofs.Common.{◌≡◌, ℕ, ◌<◌, cond, ◌&&◌, List, [], ◌∷◌, length, refl, sym, ◌∙◌, ap, subst, Option, Some, None, slice_get}
use Rattle.std.specs.Prelude.{nat_lt}
use Rattle.std.proofs.lemmas.Bool.{ltb-true, lt-ltb}
use Rattle.pipe_model.specs.declared.net.Strand.{Strand}
use Rattle.pipe_model.specs.Event.{Event, Want, tooks_on}
use Rattle.pipe_model.specs.Event.Want.{Any}
use Rattle.pipe_model.specs.Next.{next}
use Rattle.pipe_model.specs.Tags.{Counts}
use Rattle.pipe_model.specs.Alone.{Given, taken_by, any_alone, alone_event, IsAlone, IsAllAlone}
use Rattle.pipe_model.proofs.Truths.{cond_some, both}
use Rattle.pipe_model.proofs.Lists.{at_some}
use Rattle.confluence_laws.proofs.Asked.{IsPlainStrand}
use Rattle.confluence_laws.proofs.Ends.{IsFair, comes_to_end}
use Rattle.stream_laws.specs.Finished.{NamesRecords}

module _ (s : Strand) (g : Given) (named : NamesRecords s g) where
  -- the input, where it is one of the strand and has a record left
  abbrev kept : Counts → Option ℕ → Option ℕ
  kept taken None = None
  kept taken (Some i) = cond (nat_lt i (length s.ports.has_input) && nat_lt (taken i) (length (g.inputs i))) (Some i) None

  -- the same given, where no other input is ever named
  abbrev kept_given : Given
  kept_given = record g { picks = λ taken. kept taken (g.picks taken) }

  always_fair : IsFair s kept_given
  always_fair taken i = by_pick (g.picks taken)
    where
      by_pick : (m : Option ℕ) → kept taken m ≡ Some i → (i < length s.ports.has_input) × ((rec : List ℕ) × (slice_get (g.inputs i) (taken i) ≡ Some rec))
      by_pick None e = cc
      by_pick (Some j) e =
          let c = cond_some (nat_lt j (length s.ports.has_input) && nat_lt (taken j) (length (g.inputs j))) (Some j) e in
          let it : j ≡ i = (let z : Some j ≡ Some i = c.1 in cc) in
          let b = both (nat_lt j (length s.ports.has_input)) (nat_lt (taken j) (length (g.inputs j))) c.0 in
          let few : j < length s.ports.has_input = ltb-true j (length s.ports.has_input) b.0 in
          let left : taken j < length (g.inputs j) = ltb-true (taken j) (length (g.inputs j)) b.1 in
          subst (λ z. (z < length s.ports.has_input) × ((rec : List ℕ) × (slice_get (g.inputs z) (taken z) ≡ Some rec))) it (few, at_some (g.inputs j) (taken j) left)

  -- by itself the strand goes on in the same way
  same_event : (h : List Event) → IsAlone s g h → (want : Option Want) → next s h ≡ want → alone_event kept_given h want ≡ alone_event g h want
  same_event h alone (Some Any) is = by_pick (g.picks (taken_by h)) refl
    where
      by_pick : (m : Option ℕ) → g.picks (taken_by h) ≡ m → any_alone kept_given h (kept (taken_by h) m) ≡ any_alone g h m
      by_pick None e = refl
      by_pick (Some i) e =
          let n = named h alone is i e in
          ap (λ b. any_alone kept_given h (cond (b && nat_lt (tooks_on i h) (length (g.inputs i))) (Some i) None)) (lt-ltb i (length s.ports.has_input) n.0)
          ∙ ap (λ b. any_alone kept_given h (cond b (Some i) None)) (lt-ltb (tooks_on i h) (length (g.inputs i)) n.1)
  same_event h alone None is = refl
  same_event h alone (Some _) is = refl

  as_given : (h : List Event) → IsAlone s kept_given h → IsAlone s g h
  as_given [] alone = tt
  as_given (e ∷ h) alone = let before = as_given h alone.1 in (sym (same_event h before (next s h) refl) ∙ alone.0, before)

  pub finishes : IsPlainStrand s → (h : List Event) × IsAllAlone s g h
  finishes plain = let r = comes_to_end s plain kept_given always_fair in (r.0, (as_given r.0 r.1.0, r.1.1))
