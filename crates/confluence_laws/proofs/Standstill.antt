-- What a strand waits for where no strand can go on, if it asks for a record of any of its inputs.
use Rattle.std.proofs.Common.{◌≡◌, ◌≢◌, ◌⊎◌, inl, inr, ℕ, suc, ◌<◌, ◌≤◌, Bool, true, false, cond, ◌&&◌, ◌||◌, not, ◌==◌, List, [], ◌∷◌, refl, sym, ◌∙◌, ap, subst, arith, Option, Some, None, slice_get, ℤ, pos, negsuc}
use Rattle.std.specs.List.{list_all}
use Rattle.std.proofs.lemmas.Bool.{eqb-true}
use Rattle.pipe_model.specs.declared.net.Net.{Net}
use Rattle.pipe_model.specs.declared.net.Link.{Link}
use Rattle.pipe_model.specs.declared.net.Strand.{Strand}
use Rattle.pipe_model.specs.Event.{Event, Want, has_ended, has_reached}
use Rattle.pipe_model.specs.Event.Event.{Ended, Saw, SawAllEnd, SawEnd, Took}
use Rattle.pipe_model.specs.Event.Want.{Any, Commit, Done, Gate, Issue, Join, Prime, Read, Sever, Take, Write}
use Rattle.pipe_model.specs.Licence.{all_over, answer, any_answer, at_hand, is_over, licence, none_left, read_answer, shown, sight_of, want_after, want_at}
use Rattle.pipe_model.specs.Next.{first_phase, next, want_in}
use Rattle.pipe_model.specs.Row.{Known}
use Rattle.pipe_model.specs.State.{State, Who, link_in, past, same, strand_at}
use Rattle.pipe_model.specs.Table.{form}
use Rattle.pipe_model.specs.WellFormed.{IsWellFormed}
use Rattle.pipe_model.proofs.Lists.{found_at}
use Rattle.pipe_model.proofs.Numbers.{test_same}
use Rattle.confluence_laws.proofs.Basics.{from_in}
use Rattle.confluence_laws.proofs.Facts.{asked_by}
use Rattle.confluence_laws.proofs.Fitting.{IsAsker, IsWriter, StandsFor, past_of, stands_for}
use Rattle.confluence_laws.proofs.Reached.{IsReached}
use Rattle.confluence_laws.proofs.WaitLines.{wants_on}
use Rattle.confluence_laws.proofs.Went.{UpTo, Went, early_history, reached_up, up_to, wants_zero}

-- the strand asks for a record of any of its inputs: it looks at all of them, or reads the one that it has
abbrev pub AsksForAny : Strand → Type 0
AsksForAny p = (k : Known) (want : Want) → asked_by p k want → (want ≡ Any) ⊎ ((want ≡ Read 0) × (p.ports.inputs ≤ 1))

-- a test that not all pass
pub one_fails : {A : Type 0} (test : A → Bool) (xs : List A) → list_all test xs ≡ false → (j : ℕ) × (x : A) × (slice_get xs j ≡ Some x) × (test x ≡ false)
one_fails test [] none = cc
one_fails test (x ∷ xs) some = by_first (test x) refl some (one_fails test xs)
  where
    by_first : (b : Bool) → test x ≡ b → (b && list_all test xs) ≡ false → (list_all test xs ≡ false → (j : ℕ) × (y : _) × (slice_get xs j ≡ Some y) × (test y ≡ false))
        → (j : ℕ) × (y : _) × (slice_get (x ∷ xs) j ≡ Some y) × (test y ≡ false)
    by_first false is some later = (0, x, refl, is)
    by_first true is some later = (let r = later some in (suc r.0, r.1, r.2, r.3))

-- no record is at hand for the strand, and one of its inputs isn't over
pub record IsLooking (net : Net) (st : State) (s : Who) : Type 0 where
  pub nothing : (i : ℕ) (l : Link) → link_in net st s i ≡ Some l → shown net st none_left l ≡ None
  pub place : ℕ
  pub link : Link
  pub at : slice_get net.links place ≡ Some link
  pub to : link.to ≡ s
  pub goes_on : is_over st (Some link) ≡ false

-- what it waits for
pub data WaitsFor (net : Net) (st : State) (s : Who) : Type 0 where
  -- a commit level
  first_level : want_at net st none_left s ≡ Some (Commit (negsuc 0)) → WaitsFor net st s
  second_level : want_at net st none_left s ≡ Some (Commit (pos 0)) → has_reached (negsuc 0) (past st s) ≡ true → WaitsFor net st s
  -- a record
  record_comes : Went (past st s) → IsLooking net st s → WaitsFor net st s
  -- that its record is taken
  record_goes : Went (past st s) → (o : ℕ) (rec : List ℕ) → want_at net st none_left s ≡ Some (Write o rec) → WaitsFor net st s

module _ (net : Net) (formed : IsWellFormed net) (st : State) (reached : IsReached net st) (none : (s k : ℕ) (e : Event) → licence net st none_left s k ≢ Some e) where
  module _ (s : Who) (p : Strand) (here : strand_at net st s ≡ Some p) (asks : AsksForAny p) where
    wanted : (want : Want) → next p (past st s) ≡ Some want → want_at net st none_left s ≡ Some want
    wanted want is = ap (λ z. want_after z (past st s)) here ∙ is

    unanswered : (want : Want) → next p (past st s) ≡ Some want → (k : ℕ) (e : Event) → answer (sight_of net st none_left s) k (Some want) ≢ Some e
    unanswered want is k e may = none s k e (ap (answer (sight_of net st none_left s) k) (wanted want is) ∙ may)

    -- an end is never waited for
    never_done : (code : ℤ) → next p (past st s) ≡ Some (Done code) → ⊥
    never_done code is = unanswered (Done code) is 0 (Ended code) refl

    never_takes : (i : ℕ) → next p (past st s) ≡ Some (Take i) → ⊥
    never_takes i is = unanswered (Take i) is i (Took i) (ap (λ b. cond b (Some (Took i)) None) (test_same i))

    -- a record that could be read would be
    no_hand : (i : ℕ) (hand : Option (List ℕ)) (over : Bool) → ((e : Event) → read_answer i hand over ≢ Some e) → (hand ≡ None) × (over ≡ false)
    no_hand i (Some rec) over never = absurd (never (Saw i rec) refl)
    no_hand i None true never = absurd (never (SawEnd i) refl)
    no_hand i None false never = (refl, refl)

    no_hand_any : (i : ℕ) (hand : Option (List ℕ)) (over : Bool) → ((e : Event) → any_answer i hand over ≢ Some e) → (hand ≡ None) × (over ≡ false)
    no_hand_any i (Some rec) over never = absurd (never (Saw i rec) refl)
    no_hand_any i None true never = absurd (never SawAllEnd refl)
    no_hand_any i None false never = (refl, refl)

    -- the one input that it has
    module _ (one : p.ports.inputs ≤ 1) (is : next p (past st s) ≡ Some (Read 0)) where
      found : (at_hand net st none_left (link_in net st s 0) ≡ None) × (is_over st (link_in net st s 0) ≡ false)
      found = no_hand 0 (at_hand net st none_left (link_in net st s 0)) (is_over st (link_in net st s 0)) (unanswered (Read 0) is 0)

      only : (i : ℕ) (l : Link) → link_in net st s i ≡ Some l → i ≡ 0
      only i l linked =
          let r = found_at (λ k. same k.to s && k.input == i) net.links linked in
          let ends = from_in net formed st s i l linked in
          let joined = formed.joined r.1.0 l r.1.1 in
          let it : Some joined.consumer ≡ Some p = sym joined.to_strand ∙ ap (strand_at net st) ends.0 ∙ here in
          let consumer : joined.consumer ≡ p = cc in
          let below : l.input < p.ports.inputs = subst (λ (q : Strand). l.input < q.ports.inputs) consumer joined.input in
          let input = ends.1 in
          omega (arith, below, one, input)

      by_link : (m : Option Link) → link_in net st s 0 ≡ m → IsLooking net st s
      by_link None linked = (let over : is_over st (link_in net st s 0) ≡ true = ap (is_over st) linked in let not_over = found.1 in cc)
      by_link (Some l) linked =
          let r = found_at (λ k. same k.to s && k.input == 0) net.links linked in
          record {
            nothing = λ i m at. (let first : link_in net st s 0 ≡ Some m = subst (λ z. link_in net st s z ≡ Some m) (only i m at) at in ap (at_hand net st none_left) (sym first) ∙ found.0);
            place = r.1.0;
            link = l;
            at = r.1.1;
            to = (from_in net formed st s 0 l linked).0;
            goes_on = ap (is_over st) (sym linked) ∙ found.1;
          }

      reads_one : IsLooking net st s
      reads_one = by_link (link_in net st s 0) refl

    -- or any
    looks_at_any : next p (past st s) ≡ Some Any → IsLooking net st s
    looks_at_any is =
        let first = no_hand_any 0 (at_hand net st none_left (link_in net st s 0)) (all_over net st s) (unanswered Any is 0) in
        let fails = one_fails (λ (link : Link). not (same link.to s) || is_over st (Some link)) net.links first.1 in
        let parts = neither_holds (same fails.1.to s) (is_over st (Some fails.1)) fails.3 in
        record {
          nothing = λ i l at. ap (at_hand net st none_left) (sym at) ∙ (no_hand_any i (at_hand net st none_left (link_in net st s i)) (i == 0 && all_over net st s) (unanswered Any is i)).0;
          place = fails.0;
          link = fails.1;
          at = fails.2;
          to = eqb-true fails.1.to s parts.0;
          goes_on = parts.1;
        }
      where
        neither_holds : (a b : Bool) → (not a || b) ≡ false → (a ≡ true) × (b ≡ false)
        neither_holds true b is = (refl, is)
        neither_holds false b is = cc

    -- whoever asks looks
    looks : (want : Want) → next p (past st s) ≡ Some want → IsAsker p (past st s) want → IsLooking net st s
    looks want is asker = elim (asks _ want asker.asked) [
      | inl any ↦ looks_at_any (is ∙ ap Some any)
      | inr one ↦ reads_one one.1 (is ∙ ap Some one.0)
    ]

    -- so whoever reaches the commit levels waits for one of them, or for a record
    module _ (late : (form p).row.early ≡ None) where
      far : UpTo (past_of p (past st s)).phase (past st s)
      far = up_to p late (past st s) (reached.own s p here)

      asker_waits : (want : Want) → next p (past st s) ≡ Some want → IsAsker p (past st s) want → WaitsFor net st s
      asker_waits want is asker = record_comes (subst (λ f. UpTo f (past st s)) asker.stands far) (looks want is asker)

      writer_went : (o : ℕ) (rec : List ℕ) → IsWriter p (past st s) o rec → Went (past st s)
      writer_went o rec writer = elim writer.stands [ inl at ↦ subst (λ f. UpTo f (past st s)) at far | inr at ↦ subst (λ f. UpTo f (past st s)) at far ]

      by_want : (want : Want) → next p (past st s) ≡ Some want → StandsFor p (past st s) want → WaitsFor net st s
      by_want (Commit level) is (at, known, which) = elim which [
        | inl first ↦ first_level (wanted (Commit level) is ∙ ap (λ l. Some (Commit l)) first)
        | inr second ↦ (
            let zero_is : next p (past st s) ≡ Some (Commit (pos 0)) = is ∙ ap (λ l. Some (Commit l)) second in
            second_level (wanted (Commit (pos 0)) zero_is) (reached_up (negsuc 0) (pos 0) (past st s) (wants_zero p late (past st s) (reached.own s p here) zero_is))
            )
      ]
      by_want (Take i) is stands = absurd (never_takes i is)
      by_want (Done code) is stands = absurd (never_done code is)
      by_want (Write o rec) is (inl writer) = record_goes (writer_went o rec writer) o rec (wanted (Write o rec) is)
      by_want (Write o rec) is (inr asker) = asker_waits (Write o rec) is asker
      by_want (Read i) is asker = asker_waits (Read i) is asker
      by_want Any is asker = asker_waits Any is asker
      by_want Gate is asker = asker_waits Gate is asker
      by_want Prime is asker = asker_waits Prime is asker
      by_want (Issue text) is asker = asker_waits (Issue text) is asker
      by_want (Join u) is asker = asker_waits (Join u) is asker
      by_want (Sever u) is asker = asker_waits (Sever u) is asker

    -- and whoever ends before them would end
    never_early : (code : ℤ) → (form p).row.early ≡ Some code → has_ended (past st s) ≡ false → ⊥
    never_early code early going = elim (early_history p code early (past st s) (reached.own s p here)) [
      | inl nothing ↦ never_done code (ap (next p) nothing ∙ ap (λ m. want_in (first_phase m)) early)
      | inr over ↦ (let ended : has_ended (past st s) ≡ true = ap has_ended over in cc)
    ]

    pub waits_for : has_ended (past st s) ≡ false → WaitsFor net st s
    waits_for going = by_early (form p).row.early refl
      where
        by_early : (m : Option ℤ) → (form p).row.early ≡ m → WaitsFor net st s
        by_early (Some code) early = absurd (never_early code early going)
        by_early None late =
            let w = wants_on p (past st s) (reached.own s p here) going in
            by_want late w.0 w.1 (stands_for p (past st s) (reached.own s p here) w.0 w.1)
