-- What holds of all histories of a legal dispatch: they are the strands' own, and a record in sight on a rendezvous waits to be put.
use Rattle.std.proofs.Common.{◌≡◌, ◌⊎◌, inl, inr, ℕ, Bool, true, false, cond, ◌&&◌, not, ◌==◌, List, [], ◌∷◌, refl, sym, ◌∙◌, ap, subst, Option, Some, None, slice_get}
use Rattle.pipe_model.specs.declared.net.Net.{Net}
use Rattle.pipe_model.specs.declared.net.Link.{Link}
use Rattle.pipe_model.specs.declared.net.Strand.{Strand}
use Rattle.pipe_model.specs.declared.step.Entry.{Entry}
use Rattle.pipe_model.specs.Event.{Event, Want, puts_on, tooks_on, records_on, is_took, one_more, has_ended, in_sight, answers}
use Rattle.pipe_model.specs.Event.Event.{Saw, Took}
use Rattle.pipe_model.specs.Event.Want.{Read, Any, Gate}
use Rattle.pipe_model.specs.Next.{IsOwn}
use Rattle.pipe_model.specs.State.{State, Who, past, nothing_yet, with_event, with_some_event, strand_at, link_in, link_out}
use Rattle.pipe_model.specs.Licence.{none_left, want_after, want_at, tooks, is_level, offered, shown, at_hand, is_over, read_answer, any_answer, all_over, answer, licence, sight_of, Left}
use Rattle.pipe_model.specs.Play.{step, IsLicensed, play_from, IsLegalFrom, play, IsLegal}
use Rattle.pipe_model.specs.WellFormed.{IsWellFormed}
use Rattle.pipe_model.proofs.Truths.{cond_some}
use Rattle.pipe_model.proofs.Numbers.{equal_or_not}
use Rattle.confluence_laws.proofs.Basics.{the_event, at_same, at_other, from_in}
use Rattle.confluence_laws.proofs.Later.{not_writer, same_want, actor_goes_on}
use Rattle.confluence_laws.proofs.Owns.{answers_it, saw_asked, sight_before}

-- a writer waits on the link, and what it wrote before was taken
pub record IsWriting (net : Net) (st : State) (l : Link) : Type 0 where
  pub shown_there : (rec : List ℕ) × (offered l.output (want_at net st none_left l.from) ≡ Some rec)
  pub level : is_level st l ≡ true

-- what holds of all histories of a legal dispatch
pub record IsReached (net : Net) (st : State) : Type 0 where
  -- each strand's history answers its own wants
  pub own : (s : Who) (p : Strand) → strand_at net st s ≡ Some p → IsOwn p (past st s)
  -- as long as a record is in sight, its writer waits
  pub waits : (s : Who) (i : ℕ) (l : Link) → link_in net st s i ≡ Some l → l.queue ≡ false → has_ended (past st s) ≡ false → in_sight i (past st s) ≡ true → IsWriting net st l
  -- and it came in on a link
  pub linked : (s : Who) (i : ℕ) → in_sight i (past st s) ≡ true → (l : Link) × (link_in net st s i ≡ Some l)

-- it holds before the first entry
pub at_first : (net : Net) → IsReached net nothing_yet
at_first net = record { own = λ s p e. tt; waits = λ s i l e q g x. cc; linked = λ s i x. cc }

-- a record at hand is at hand on a link
pub hand_linked : (net : Net) (st : State) (left : Left) (lk : Option Link) (rec : List ℕ) → at_hand net st left lk ≡ Some rec → (l : Link) × (lk ≡ Some l)
hand_linked net st left None rec e = cc
hand_linked net st left (Some l) rec e = (l, refl)

-- what a look shows is written there
pub seen_there : (net : Net) (st : State) (l : Link) (rec : List ℕ) → l.queue ≡ false → shown net st none_left l ≡ Some rec → IsWriting net st l
seen_there net st l rec plain got =
    let open_now : cond (is_level st l) (offered l.output (want_at net st none_left l.from)) None ≡ Some rec =
    ap (λ b. cond b (slice_get (records_on l.output (past st l.from)) (tooks st l)) (cond (is_level st l) (offered l.output (want_at net st none_left l.from)) None)) (sym plain) ∙ got in
    let c = cond_some (is_level st l) (offered l.output (want_at net st none_left l.from)) open_now in
    record { shown_there = (rec, c.1); level = c.0 }

-- a look at an input that saw a record, where others may be left out
pub saw_it : (net : Net) (st : State) (left : Left) (s : Who) (k i : ℕ) (rec : List ℕ) → licence net st left s k ≡ Some (Saw i rec) → at_hand net st left (link_in net st s i) ≡ Some rec
saw_it net st left s k i rec may = by_look (saw_asked (want_at net st left s) i rec (answers_it net st left s k (Saw i rec) may))
  where
    hand : ℕ → Option (List ℕ)
    hand j = at_hand net st left (link_in net st s j)

    read : (j : ℕ) (a : Option (List ℕ)) (over : Bool) → read_answer j a over ≡ Some (Saw i rec) → (j ≡ i) × (a ≡ Some rec)
    read j (Some x) over p = (cc, cc)
    read j None true p = cc
    read j None false p = cc

    any : (j : ℕ) (a : Option (List ℕ)) (over : Bool) → any_answer j a over ≡ Some (Saw i rec) → (j ≡ i) × (a ≡ Some rec)
    any j (Some x) over p = (cc, cc)
    any j None true p = cc
    any j None false p = cc

    at : (j : ℕ) → (j ≡ i) × (hand j ≡ Some rec) → hand i ≡ Some rec
    at j x = subst (λ z. hand z ≡ Some rec) x.0 x.1

    does : (want : Want) → want_at net st left s ≡ Some want → answer (sight_of net st left s) k (Some want) ≡ Some (Saw i rec)
    does want is = ap (answer (sight_of net st left s) k) (sym is) ∙ may

    by_look : (want_at net st left s ≡ Some (Read i)) ⊎ ((want_at net st left s ≡ Some Any) ⊎ (want_at net st left s ≡ Some Gate)) → hand i ≡ Some rec
    by_look (inl is) = at i (read i (hand i) (is_over st (link_in net st s i)) (cond_some (k == i) (read_answer i (hand i) (is_over st (link_in net st s i))) (does (Read i) is)).1)
    by_look (inr (inl is)) = at k (any k (hand k) (k == 0 && all_over net st s) (does Any is))
    by_look (inr (inr is)) = at k (read k (hand k) (k == 0 && is_over st (link_in net st s k)) (does Gate is))

-- what is in sight after an event isn't what it took
pub not_took : (i : ℕ) (f : Event) (h : List Event) → in_sight i (f ∷ h) ≡ true → is_took i f ≡ false
not_took i (Took j) h p = (elim (j == i) as (λ b. (not b && in_sight i h) ≡ true → b ≡ false) [ true ↦ λ q. cc | false ↦ λ q. refl ]) p
not_took i _ h p = refl

-- One event more

module _ (net : Net) (formed : IsWellFormed net) (st : State) (reached : IsReached net st) (t : Who) (k : ℕ) (f : Event) (licensed : licence net st none_left t k ≡ Some f) where
  -- its strand's history answers its own wants, and the others are as they were
  own_after : (s : Who) (p : Strand) → strand_at net st s ≡ Some p → IsOwn p (past (with_event st t f) s)
  own_after s p e = elim (equal_or_not s t) [
    | inl it ↦ subst (IsOwn p) (sym (ap (past (with_event st t f)) it ∙ at_same st t f))
        (subst (λ w. answers w f ≡ true) (ap (λ x. want_after x (past st t)) (sym (ap (strand_at net st) it) ∙ e)) (answers_it net st none_left t k f licensed), reached.own t p (sym (ap (strand_at net st) it) ∙ e))
    | inr other ↦ subst (IsOwn p) (sym (at_other st t f s other)) (reached.own s p e)
  ]

  -- as long as a record is in sight, its writer waits still
  waits_after : (s : Who) (i : ℕ) (l : Link) → link_in net st s i ≡ Some l → l.queue ≡ false → has_ended (past (with_event st t f) s) ≡ false → in_sight i (past (with_event st t f) s) ≡ true → IsWriting net (with_event st t f) l
  waits_after s i l e plain going sight = still (elim (equal_or_not s t) [
    | inl it ↦
        let now : past (with_event st t f) s ≡ f ∷ past st t = ap (past (with_event st t f)) it ∙ at_same st t f in
        let linked : link_in net st t i ≡ Some l = subst (λ z. link_in net st z i ≡ Some l) it e in
        by_sight linked (sight_before i f (past st t) (subst (λ x. in_sight i x ≡ true) now sight))
    | inr other ↦
        reached.waits s i l e plain (subst (λ x. has_ended x ≡ false) (at_other st t f s other) going) (subst (λ x. in_sight i x ≡ true) (at_other st t f s other) sight)
  ])
    where
      ends : (l.to ≡ s) × (l.input ≡ i) × (link_out net st l.from l.output ≡ Some l)
      ends = from_in net formed st s i l e

      by_sight : link_in net st t i ≡ Some l → (in_sight i (past st t) ≡ true) ⊎ ((rec : List ℕ) × (f ≡ Saw i rec)) → IsWriting net st l
      by_sight linked (inl before) = reached.waits t i l linked plain (actor_goes_on net formed st t f k licensed) before
      by_sight linked (inr now) =
          let x = saw_it net st none_left t k i now.0 (licensed ∙ ap Some now.1) in
          seen_there net st l now.0 plain (ap (at_hand net st none_left) (sym linked) ∙ x)

      open_there : has_ended (past st s) ≡ false
      open_there = elim (equal_or_not s t) [
        | inl it ↦ subst (λ x. has_ended (past st x) ≡ false) (sym it) (actor_goes_on net formed st t f k licensed)
        | inr other ↦ subst (λ x. has_ended x ≡ false) (at_other st t f s other) going
      ]

      same_tooks : tooks_on i (past (with_event st t f) s) ≡ tooks_on i (past st s)
      same_tooks = elim (equal_or_not s t) [
        | inl it ↦
            let now : past (with_event st t f) s ≡ f ∷ past st t = ap (past (with_event st t f)) it ∙ at_same st t f in
            ap (tooks_on i) now ∙ ap (λ b. one_more b (tooks_on i (past st t))) (not_took i f (past st t) (subst (λ x. in_sight i x ≡ true) now sight)) ∙ ap (λ x. tooks_on i (past st x)) (sym it)
        | inr other ↦ ap (tooks_on i) (at_other st t f s other)
      ]

      still : IsWriting net st l → IsWriting net (with_event st t f) l
      still w =
          let other = not_writer net formed st t f k licensed l w.shown_there.0 ends.2 plain w.level (subst (λ x. has_ended (past st x) ≡ false) (sym ends.0) open_there) w.shown_there.1 in
          let from_is = at_other st t f l.from other in
          record {
            shown_there = (w.shown_there.0, ap (offered l.output) (same_want net formed st t f k licensed l.from from_is) ∙ w.shown_there.1);
            level = ap (λ x. puts_on l.output x == tooks_on l.input (past (with_event st t f) l.to)) from_is
                ∙ ap (λ n. puts_on l.output (past st l.from) == n) (subst (λ x. tooks_on l.input (past (with_event st t f) x) ≡ tooks_on l.input (past st x)) (sym ends.0) (subst (λ j. tooks_on j (past (with_event st t f) s) ≡ tooks_on j (past st s)) (sym ends.1) same_tooks))
                ∙ w.level;
          }

  -- what is in sight came in on a link
  linked_after : (s : Who) (i : ℕ) → in_sight i (past (with_event st t f) s) ≡ true → (l : Link) × (link_in net st s i ≡ Some l)
  linked_after s i sight = elim (equal_or_not s t) [
    | inl it ↦
        let now : past (with_event st t f) s ≡ f ∷ past st t = ap (past (with_event st t f)) it ∙ at_same st t f in
        subst (λ z. (l : Link) × (link_in net st z i ≡ Some l)) (sym it) (by_sight (sight_before i f (past st t) (subst (λ x. in_sight i x ≡ true) now sight)))
    | inr other ↦ reached.linked s i (subst (λ x. in_sight i x ≡ true) (at_other st t f s other) sight)
  ]
    where
      by_sight : (in_sight i (past st t) ≡ true) ⊎ ((rec : List ℕ) × (f ≡ Saw i rec)) → (l : Link) × (link_in net st t i ≡ Some l)
      by_sight (inl before) = reached.linked t i before
      by_sight (inr now) = hand_linked net st none_left (link_in net st t i) now.0 (saw_it net st none_left t k i now.0 (licensed ∙ ap Some now.1))

  -- so all that holds of reached states holds after it
  pub reached_after : IsReached net (with_event st t f)
  reached_after = record { own = own_after; waits = waits_after; linked = linked_after }

module _ (net : Net) (formed : IsWellFormed net) where
  -- and after any licensed entry
  pub step_reached : (st : State) (e : Entry) → IsReached net st → IsLicensed net st e → IsReached net (step net st e)
  step_reached st e reached may =
      let x = the_event (licence net st none_left e.strand e.stream) may in
      subst (λ (z : Option Event). IsReached net (with_some_event st e.strand z)) (sym x.1) (reached_after net formed st reached e.strand e.stream x.0 x.1)

  -- a legal dispatch leads from a reached state to a reached state
  pub reached_from : (st : State) (es : List Entry) → IsReached net st → IsLegalFrom net st es → IsReached net (play_from net st es)
  reached_from st [] reached legal = reached
  reached_from st (e ∷ es) reached legal = reached_from (step net st e) es (step_reached st e reached legal.0) legal.1

  -- a legal dispatch leads to a reached state
  pub play_reached : (es : List Entry) → IsLegal net es → IsReached net (play net es)
  play_reached es legal = reached_from nothing_yet es (at_first net) legal
