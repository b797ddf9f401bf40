-- What a strand that follows wants to write its whole history puts next, and one that was cut off ends.
use Rattle.std.proofs.Common.{◌≡◌, inl, inr, ℕ, true, false, cond, not, List, [], ◌∷◌, refl, sym, ◌∙◌, ap, subst, Some, None, pos}
use Rattle.std.proofs.lemmas.Bool.{not-true}
use Rattle.std.specs.Prelude.{filter}
use Rattle.pipe_model.specs.declared.net.Strand.{Strand}
use Rattle.pipe_model.specs.Event.{Event, puts_on, has_ended, has_seen, answers}
use Rattle.pipe_model.specs.Event.Event.{Saw, Put, Ended}
use Rattle.pipe_model.specs.Event.Want.{Take, Write, Done}
use Rattle.pipe_model.specs.Row.{Act, Goal}
use Rattle.pipe_model.specs.Row.Act.{Writes, Repeats, Takes}
use Rattle.pipe_model.specs.Row.Goal.{Asks, Ends}
use Rattle.pipe_model.specs.Table.{form}
use Rattle.pipe_model.specs.Next.{Phase, Past, is_live, refused_after, past_by, want_in, next, IsOwn}
use Rattle.pipe_model.proofs.Pasts.{after}
use Rattle.pipe_model.proofs.Truths.{both}
use Rattle.pipe_model.specs.Members.{has, flag_at}
use Rattle.pipe_model.specs.Next.Phase.{Starting, Doing, Lost}
use Rattle.pipe_model.specs.Alone.{Given, takes_more, IsAllAlone}
use Rattle.confluence_laws.proofs.Facts.{IsFiniteLook, NoRepeats, asked_by}
use Rattle.confluence_laws.proofs.Fitting.{PhaseFits, own_fits, still_wants}
use Rattle.confluence_laws.proofs.Pending.{IsBare, mk}
use Rattle.confluence_laws.proofs.Within.{Within, grows, alone_put}
use Rattle.confluence_laws.proofs.Asked.{IsPlainStrand, finite_row, wants_in}
use Rattle.confluence_laws.proofs.Follow.{FirstLive, Follows, IsCutOff, caught_up}

module _ (s : Strand) (plain : IsPlainStrand s) (g : Given) (unlimited : (o : ℕ) → g.limits o ≡ None) (W : List Event) (done : IsAllAlone s g W) where
  -- who was cut off ends, and has no other event
  pub stays_cut : (h : List Event) (e : Event) → answers (next s h) e ≡ true → IsCutOff s plain g unlimited W done h → IsCutOff s plain g unlimited W done (e ∷ h)
  stays_cut h e fits x = record {
    other = x.other;
    within = x.within;
    output = x.output;
    rec = x.rec;
    wrote = x.wrote;
    saw = x.saw ∙ sym (unseen e told);
    known = x.known;
    refused = x.refused;
    now = Lost;
    past = ap (λ p. after (form s).row s.ports.has_output p p.phase e) (x.past ∙ ap (mk x.known x.refused) ends) ∙ ap (λ z. mk x.known z Lost) (not_refused e (subst (λ z. answers (want_in z) e ≡ true) ends still));
    all_refused = x.all_refused;
    over = inr refl;
  }
    where
      -- an end refuses nothing
      not_refused : (e : Event) → answers (Some (Done (pos 0))) e ≡ true → refused_after x.refused e ≡ x.refused
      not_refused (Ended code) _ = refl
      not_refused _ it = cc

      still : answers (want_in x.now) e ≡ true
      still = subst (λ (p : Past). answers (want_in p.phase) e ≡ true) x.past (still_wants s h e fits)

      ends : x.now ≡ Doing [] (Ends (pos 0))
      ends = elim x.over [
        | inl is ↦ is
        | inr is ↦ (let z : answers None e ≡ true = subst (λ f. answers (want_in f) e ≡ true) is still in cc)
      ]

      told : answers (Some (Done (pos 0))) e ≡ true
      told = subst (λ f. answers (want_in f) e ≡ true) ends still

      unseen : (e : Event) → answers (Some (Done (pos 0))) e ≡ true → has_seen (e ∷ h) ≡ has_seen h
      unseen (Ended code) p = refl
      unseen (Saw i r) p = cc
      unseen _ p = refl

  -- what it wants to write, the whole history puts next
  pub next_put : (h : List Event) (o : ℕ) (rec : List ℕ) → IsOwn s h → has_ended h ≡ false → Follows s plain g unlimited W done h → next s h ≡ Some (Write o rec) →
      (y : Follows s plain g unlimited W done h) × Within W (Put o rec ∷ y.other) × (has y.refused o ≡ false) × (flag_at s.ports.has_output o ≡ true)
  next_put h o rec own going x want = elim x.matches [
    | inl bare ↦ absurd (bare_writes x.now bare.0 (wants_at x x.now refl))
    | inr m ↦ (let c = caught_up s plain g unlimited W done h going x m.0 m.1 m.2 m.3 m.4 in by_acts c.0 c.1 m.1 c.2 c.3 c.4 c.5)
  ]
    where
      wants_at : (y : Follows s plain g unlimited W done h) (f : Phase) → y.now ≡ f → want_in f ≡ Some (Write o rec)
      wants_at y f a = sym (wants_in s h (mk y.known y.refused f) going (y.past ∙ ap (mk y.known y.refused) a)) ∙ want

      bare_writes : (f : Phase) → IsBare f → want_in f ≡ Some (Write o rec) → ⊥
      bare_writes (Starting level) bare p = cc
      bare_writes (Doing acts goal) bare p = absurd bare
      bare_writes Lost bare p = cc

      no_goal : (y : Follows s plain g unlimited W done h) (goal : Goal) → y.now ≡ Doing [] goal → ⊥
      no_goal y (Ends code) a = (let z : Some (Done code) ≡ Some (Write o rec) = wants_at y (Doing [] (Ends code)) a in cc)
      no_goal y (Asks asked) a =
          let fits : PhaseFits (asked_by s) y.known (Doing [] (Asks asked)) = subst (λ p. PhaseFits (asked_by s) p.known p.phase) (y.past ∙ ap (mk y.known y.refused) a) (own_fits s h own) in
          let is : asked ≡ Write o rec = (let z = wants_at y (Doing [] (Asks asked)) a in cc) in
          subst (IsFiniteLook y.known) is ((finite_row s plain).looks y.known asked fits)

      by_acts : (y : Follows s plain g unlimited W done h) (rest : List Act) (goal : Goal) → NoRepeats rest → FirstLive s.ports.has_output y.refused rest → y.now ≡ Doing (filter (is_live s.ports.has_output y.refused) rest) goal → y.now_other ≡ Doing rest goal →
          (y : Follows s plain g unlimited W done h) × Within W (Put o rec ∷ y.other) × (has y.refused o ≡ false) × (flag_at s.ports.has_output o ≡ true)
      by_acts y [] goal none first a b = absurd (no_goal y goal a)
      by_acts y (Takes i ∷ acts) goal none first a b = (let z : Some (Take i) ≡ Some (Write o rec) = wants_at y (Doing (Takes i ∷ filter (is_live s.ports.has_output y.refused) acts) goal) a in cc)
      by_acts y (Repeats p r ∷ acts) goal none first a b = absurd none
      by_acts y (Writes p r ∷ acts) goal none first a b =
          let live_rest : List Act = filter (is_live s.ports.has_output y.refused) acts in
          let wants : Some (Write p r) ≡ Some (Write o rec) = wants_at y (Doing (Writes p r ∷ live_rest) goal) (a ∙ ap (λ z. Doing (cond z (Writes p r ∷ live_rest) live_rest) goal) first) in
          let same_o : p ≡ o = cc in
          let same_put : Put p r ≡ Put o rec = cc in
          let at_other : past_by (form s).row s.ports.has_output y.other ≡ mk y.known [] (Doing (Writes p r ∷ acts) goal) = y.past_other ∙ ap (mk y.known []) b in
          let open_there = both (flag_at s.ports.has_output p) (not (has y.refused p)) first in (
            y,
            subst (λ z. Within W (z ∷ y.other)) same_put
                (grows s g W done y.other (Put p r) (Write p r) y.within (wants_in s y.other (mk y.known [] (Doing (Writes p r ∷ acts) goal)) (y.closed ∙ going) at_other) (alone_put g y.other p r (ap (λ z. takes_more z (puts_on p y.other)) (unlimited p)))),
            subst (λ z. has y.refused z ≡ false) same_o (not-true (has y.refused p) open_there.1),
            subst (λ z. flag_at s.ports.has_output z ≡ true) same_o open_there.0,
          )
