-- A strand wants a commit level only where it hasn't reached it.
use Rattle.std.proofs.Common.{◌≡◌, ◌⊎◌, inl, inr, zero, suc, Bool, true, false, cond, ◌&&◌, ◌||◌, List, [], ◌∷◌, refl, sym, ◌∙◌, ap, subst, Some, None, ℤ, pos, negsuc}
use Rattle.std.specs.Ordering.{int_eq}
use Rattle.std.proofs.lemmas.Bool.Decides.{Decides-int_eq}
use Rattle.pipe_model.specs.declared.net.Strand.{Strand}
use Rattle.pipe_model.specs.Event.{Event, answers, has_reached}
use Rattle.pipe_model.specs.Event.Event.{Up, Put, Refused, Took}
use Rattle.pipe_model.specs.Event.Want.{Commit}
use Rattle.pipe_model.specs.Row.{Row}
use Rattle.pipe_model.specs.Row.Act.{Writes, Repeats, Takes}
use Rattle.pipe_model.specs.Row.Goal.{Asks, Ends}
use Rattle.pipe_model.specs.Table.{form}
use Rattle.pipe_model.specs.Next.{Phase, Past, want_in, next, hears, refused_after, gives_up, first_phase, is_refused, begins_plan, doing, IsOwn}
use Rattle.pipe_model.proofs.Pasts.{after, when_asked}
use Rattle.pipe_model.specs.Next.Phase.{Starting, Doing, Lost}
use Rattle.confluence_laws.proofs.Fitting.{past_of, still_wants, stands_for}

-- the levels that it is still to reach, by where it stands
abbrev pub Awaits : Phase → List Event → Type 0
Awaits (Starting (negsuc zero)) h = (has_reached (negsuc 0) h ≡ false) × (has_reached (pos 0) h ≡ false)
Awaits (Starting (pos zero)) h = has_reached (pos 0) h ≡ false
Awaits (Starting _) h = ⊥
Awaits (Doing acts goal) h = Unit {0}
Awaits Lost h = Unit {0}

-- one event more
awaits_step : (w : Row) (outputs : List Bool) (p : Past) (f : Phase) (h : List Event) (e : Event) → p.phase ≡ f → answers (want_in f) e ≡ true → Awaits f h → Awaits (after w outputs p f e).phase (e ∷ h)
awaits_step w outputs p (Starting (negsuc zero)) h (Up level code) at it is =
    elim (int_eq code (pos 0)) as (λ b. Awaits (cond b (Starting (pos 0)) (Doing [] (Ends (pos 0)))) (Up level code ∷ h)) [
      | true ↦ ap (λ z. int_eq z (pos 0) || has_reached (pos 0) h) ((Decides-int_eq level (negsuc 0)).0 it) ∙ is.1
      | false ↦ tt
    ]
awaits_step w outputs p (Starting (negsuc zero)) h _ at it is = cc
awaits_step w outputs p (Starting (pos zero)) h (Up level code) at it is = elim (int_eq code (pos 0)) as (λ b. Awaits (cond b (begins_plan outputs p.refused (w.plan p.known)) (Doing [] (Ends (pos 0)))) (Up level code ∷ h)) [ true ↦ tt | false ↦ tt ]
awaits_step w outputs p (Starting (pos zero)) h _ at it is = cc
awaits_step w outputs p (Starting (negsuc (suc n))) h e at it is = absurd is
awaits_step w outputs p (Starting (pos (suc n))) h e at it is = absurd is
awaits_step w outputs p (Doing [] (Asks want)) h e at it is =
    let next = begins_plan outputs (refused_after p.refused e) (w.plan (hears p.known e)) in
    subst (λ b. Awaits (when_asked w outputs p e b).phase (e ∷ h)) (sym it)
    (elim (gives_up w outputs (refused_after p.refused e) e) as (λ b. Awaits (cond b (Doing [] (Ends (pos 0))) next) (e ∷ h)) [ true ↦ tt | false ↦ tt ])
awaits_step w outputs p (Doing [] (Ends code)) h e at it is = tt
awaits_step w outputs p (Doing (Writes o rec ∷ acts) goal) h (Put o' rec') at it is = tt
awaits_step w outputs p (Doing (Writes o rec ∷ acts) goal) h (Refused o') at it is = elim (w.yields && is_refused outputs (o' ∷ p.refused)) as (λ b. Awaits (cond b (Doing [] (Ends (pos 0))) (doing outputs (o' ∷ p.refused) acts goal)) (Refused o' ∷ h)) [ true ↦ tt | false ↦ tt ]
awaits_step w outputs p (Doing (Writes o rec ∷ acts) goal) h _ at it is = cc
awaits_step w outputs p (Doing (Repeats o rec ∷ acts) goal) h (Put o' rec') at it is = tt
awaits_step w outputs p (Doing (Repeats o rec ∷ acts) goal) h (Refused o') at it is = elim (w.yields && is_refused outputs (o' ∷ p.refused)) as (λ b. Awaits (cond b (Doing [] (Ends (pos 0))) (doing outputs (o' ∷ p.refused) acts goal)) (Refused o' ∷ h)) [ true ↦ tt | false ↦ tt ]
awaits_step w outputs p (Doing (Repeats o rec ∷ acts) goal) h _ at it is = cc
awaits_step w outputs p (Doing (Takes i ∷ acts) goal) h (Took j) at it is = tt
awaits_step w outputs p (Doing (Takes i ∷ acts) goal) h _ at it is = cc
awaits_step w outputs p Lost h e at it is = cc

awaits : (s : Strand) (h : List Event) → IsOwn s h → Awaits (past_of s h).phase h
awaits s [] own = elim (form s).row.early as (λ m. Awaits (first_phase m) []) [ None ↦ (refl, refl) | Some code ↦ tt ]
awaits s (e ∷ h) own =
    let p = past_of s h in
    awaits_step (form s).row s.ports.has_output p p.phase h e refl (still_wants s h e own.0) (awaits s h own.1)

-- whoever wants a commit level hasn't reached it
pub not_reached : (s : Strand) (h : List Event) → IsOwn s h → (level : ℤ) → next s h ≡ Some (Commit level) → has_reached level h ≡ false
not_reached s h own level want = by_level (stands_for s h own (Commit level) want).2
  where
    stands : Awaits (Starting level) h
    stands = subst (λ f. Awaits f h) (stands_for s h own (Commit level) want).0 (awaits s h own)

    by_level : (level ≡ negsuc 0) ⊎ (level ≡ pos 0) → has_reached level h ≡ false
    by_level (inl is) = subst (λ z. has_reached z h ≡ false) (sym is) (subst (λ z. Awaits (Starting z) h) is stands).0
    by_level (inr is) = subst (λ z. has_reached z h ≡ false) (sym is) (subst (λ z. Awaits (Starting z) h) is stands)
