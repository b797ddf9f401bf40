-- What a strand that goes on waits for where no entry can be added: a neighbour that goes on too, over one link.
use Rattle.std.proofs.Common.{◌≡◌, ◌≢◌, inl, inr, ℕ, suc, ◌<◌, Bool, true, false, cond, ◌&&◌, ◌||◌, not, ◌==◌, List, [], ◌∷◌, length, refl, sym, ◌∙◌, ap, subst, arith, Option, Some, None, is_some, slice_get, ℤ, pos, negsuc, eq-eqb}
use Rattle.std.proofs.lemmas.Bool.{eqb-true, lt-ltb}
use Rattle.std.specs.Prelude.{nat_lt}
use Rattle.std.specs.List.{list_all}
use Rattle.std.specs.Ordering.{int_eq}
use Rattle.std.proofs.lemmas.Bool.Decides.{Decides-int_eq}
use Rattle.pipe_model.specs.declared.net.Net.{Net}
use Rattle.pipe_model.specs.declared.net.Link.{Link}
use Rattle.pipe_model.specs.declared.net.Strand.{Strand}
use Rattle.pipe_model.specs.declared.step.Entry.{Entry}
use Rattle.pipe_model.specs.Event.{Event, Want, has_ended, has_reached, records_on}
use Rattle.pipe_model.specs.Event.Event.{Ended, Put, Refused, Saw, SawAllEnd, SawEnd, Took, Up}
use Rattle.pipe_model.specs.Event.Want.{Any, Commit, Done, Gate, Issue, Join, Prime, Read, Sever, Take, Write}
use Rattle.pipe_model.specs.Form.{Meeting, parting_by}
use Rattle.pipe_model.specs.Form.Meeting.{Braided, Loose, Ordered}
use Rattle.pipe_model.specs.Form.Parting.{Streamed}
use Rattle.pipe_model.specs.Licence.{all_over, answer, any_answer, at_hand, commits_to, is_level, is_over, level_of, licence, may_put, may_refuse, none_left, offered, puts, read_answer, shown, sight_of, stands_at, tooks, up_answer, want_after, want_at, worst_early, write_answer}
use Rattle.pipe_model.specs.Next.{first_phase, next, want_in}
use Rattle.pipe_model.specs.Next.Phase.{Starting}
use Rattle.pipe_model.specs.Plain.{IssuesNothing}
use Rattle.pipe_model.specs.Play.{IsComplete, IsLegal, play}
use Rattle.pipe_model.specs.Row.{Known}
use Rattle.pipe_model.specs.Shape.{Shape}
use Rattle.pipe_model.specs.Shape.Shape.{Absent, Dams, Firsts, Gates, Lists, Queues, Rounds, Sinks, Sources, Turns}
use Rattle.pipe_model.specs.State.{State, Who, link_in, link_out, members, nothing_yet, past, same, strand_at}
use Rattle.pipe_model.specs.Table.{form, line_of}
use Rattle.pipe_model.specs.WellFormed.{IsWellFormed}
use Rattle.pipe_model.proofs.Lists.{all_below, at_some, found_at}
use Rattle.pipe_model.proofs.Numbers.{test_same}
use Rattle.pipe_model.proofs.Truths.{neither, or_second}
use Rattle.confluence_laws.proofs.Basics.{from_in, from_out, the_event}
use Rattle.confluence_laws.proofs.Facts.{Allows, IsNoIssue, asked_by, asking}
use Rattle.confluence_laws.proofs.Fitting.{IsAsker, StandsFor, past_of, stands_for, wants_output}
use Rattle.confluence_laws.proofs.Lows.{no_place}
use Rattle.confluence_laws.proofs.Owed.{AreEven, play_even, writes_it}
use Rattle.confluence_laws.proofs.Reached.{IsReached, play_reached}
use Rattle.confluence_laws.proofs.Sound.{sound_line}
use Rattle.confluence_laws.proofs.Stocked.{AreStocked, play_stocked}
use Rattle.confluence_laws.proofs.Total.{link_there}
use Rattle.confluence_laws.proofs.WaitLines.{wants_on}
use Rattle.confluence_laws.proofs.Went.{UpTo, Went, early_history, reached_up, up_to}
use Rattle.confluence_laws.proofs.Within.{count_is}

-- What is known of a state where no entry can be added, of a net without GATE, DAM and issuers

pub record IsHalted (net : Net) (st : State) : Type 0 where
  pub reached : IsReached net st
  pub even : AreEven net st
  pub stocked : AreStocked net st
  pub none : (s k : ℕ) (e : Event) → licence net st none_left s k ≢ Some e

-- what is known of a complete dispatch
pub halted_at : (net : Net) → IsWellFormed net → (es : List Entry) → IsLegal net es → IsComplete net es → IsHalted net (play net es)
halted_at net formed es legal complete = record {
  reached = play_reached net formed es legal;
  even = play_even net formed es legal;
  stocked = play_stocked net formed es legal;
  none = λ s k e may. complete (record { strand = s; stream = k }) (ap is_some may);
}

pub record IsCalm (net : Net) : Type 0 where
  -- no link leads from a strand to itself
  pub apart : (s i : ℕ) (l : Link) → link_in net nothing_yet s i ≡ Some l → l.from ≢ l.to
  pub strict : (s : Who) (p : Strand) → strand_at net nothing_yet s ≡ Some p → (form p).meeting ≢ Loose
  pub issues : IssuesNothing net
  pub whole : (s : Who) (p : Strand) → strand_at net nothing_yet s ≡ Some p → (form p).parting ≢ Streamed

-- a strand that hasn't ended
pub record GoesOn (net : Net) (st : State) (s : Who) : Type 0 where
  pub strand : Strand
  pub there : strand_at net st s ≡ Some strand
  pub going : has_ended (past st s) ≡ false

-- the strand s waits for t over the link: that its record is taken, that a record comes, or that one comes on any input
pub data Waits (net : Net) (st : State) (s : Who) (l : Link) (t : Who) : Type 0 where
  to_write : (o : ℕ) (rec : List ℕ) → want_at net st none_left s ≡ Some (Write o rec) → link_out net st s o ≡ Some l → l.queue ≡ false → l.to ≡ t → Waits net st s l t
  to_read : (i : ℕ) → want_at net st none_left s ≡ Some (Read i) → link_in net st s i ≡ Some l → l.from ≡ t → Waits net st s l t
  to_see : (i : ℕ) → want_at net st none_left s ≡ Some Any → link_in net st s i ≡ Some l → l.from ≡ t → Waits net st s l t

pub record IsWaiting (net : Net) (st : State) (s : Who) : Type 0 where
  pub place : ℕ
  pub link : Link
  pub at : slice_get net.links place ≡ Some link
  pub other : Who
  pub waits : Waits net st s link other
  pub goes_on : GoesOn net st other

-- only DAM asks whether its first strand saw a record
prime_streamed : (s : Strand) (k : Known) → (shape : Shape) → asking s shape k Prime → parting_by shape ≡ Streamed
prime_streamed s k Absent asked = absurd asked
prime_streamed s k (Sources pairs) asked = absurd asked
prime_streamed s k (Lists order t) asked = (let z = asked.want_is in cc)
prime_streamed s k (Sinks keeping) asked = (let z = asked.want_is in cc)
prime_streamed s k (Firsts width outs) asked = (let z = asked.want_is in cc)
prime_streamed s k (Turns width t) asked = (let z = asked.want_is in cc)
prime_streamed s k (Rounds width t) asked = (let z = asked.want_is in cc)
prime_streamed s k Gates asked = (let z = asked.want_is in cc)
prime_streamed s k Dams asked = refl
prime_streamed s k Queues asked = (let z = asked.want_is in cc)

-- only GATE looks as it does
gate_loose : (m : Meeting) → Allows m Gate → m ≡ Loose
gate_loose Ordered allowed = absurd allowed
gate_loose Braided allowed = absurd allowed
gate_loose Loose allowed = refl

and_true : (b : Bool) → (b && true) ≡ false → b ≡ false
and_true true is = is
and_true false is = refl

-- a level is itself
same_level : (level : ℤ) → int_eq level level ≡ true
same_level level = (Decides-int_eq level level).1 refl

-- a test that not all pass
one_fails : {A : Type 0} (test : A → Bool) (xs : List A) → list_all test xs ≡ false → (j : ℕ) × (x : A) × (slice_get xs j ≡ Some x) × (test x ≡ false)
one_fails test [] none = cc
one_fails test (x ∷ xs) some = by_first (test x) refl some (one_fails test xs)
  where
    by_first : (b : Bool) → test x ≡ b → (b && list_all test xs) ≡ false → (list_all test xs ≡ false → (j : ℕ) × (y : _) × (slice_get xs j ≡ Some y) × (test y ≡ false))
        → (j : ℕ) × (y : _) × (slice_get (x ∷ xs) j ≡ Some y) × (test y ≡ false)
    by_first false is some later = (0, x, refl, is)
    by_first true is some later = (let r = later some in (suc r.0, r.1, r.2, r.3))

module _ (net : Net) (formed : IsWellFormed net) (calm : IsCalm net) (st : State) (halted : IsHalted net st) where
  -- Links

  -- nothing is owed on a rendezvous: whoever owed a record would put it
  pub level_there : (s i : ℕ) (l : Link) → link_in net st s i ≡ Some l → l.queue ≡ false → is_level st l ≡ true
  level_there s i l e plain = elim (halted.even s i l e plain (calm.apart s i l e)) [
    | inl level ↦ eq-eqb (puts st l) (tooks st l) level
    | inr owed ↦ (
        let w = writes_it (want_at net st none_left l.from) l.output owed.rec owed.offers in
        let more = owed.more in
        let can : may_put st (link_out net st l.from l.output) ≡ true =
        ap (may_put st) (from_in net formed st s i l e).2 ∙ ap (λ b. b || nat_lt (puts st l) (tooks st l)) plain ∙ lt-ltb (puts st l) (tooks st l) (omega (arith, more)) in
        let may : licence net st none_left l.from l.output ≡ Some (Put l.output w.0) =
        ap (answer (sight_of net st none_left l.from) l.output) w.1
        ∙ ap (λ b. cond b (write_answer l.output w.0 (may_put st (link_out net st l.from l.output)) (may_refuse st (link_out net st l.from l.output))) None) (test_same l.output)
        ∙ ap (λ b. write_answer l.output w.0 b (may_refuse st (link_out net st l.from l.output))) can in
        absurd (halted.none l.from l.output (Put l.output w.0) may)
        )
  ]

  -- a link that isn't over has a producer that goes on
  producer_goes : (s i : ℕ) (l : Link) → link_in net st s i ≡ Some l → shown net st none_left l ≡ None → is_over st (Some l) ≡ false → has_ended (past st l.from) ≡ false
  producer_goes s i l e nothing not_over = by_end (has_ended (past st l.from)) refl not_over
    where
      level_now : (b : Bool) → l.queue ≡ b → is_level st l ≡ true
      level_now false plain = level_there s i l e plain
      level_now true queue =
          let stock = halted.stocked s i l e queue in
          let few = stock.taken in
          let none_more : slice_get (records_on l.output (past st l.from)) (tooks st l) ≡ None =
          ap (λ b. cond b (slice_get (records_on l.output (past st l.from)) (tooks st l)) (cond (is_level st l) (offered l.output (want_at net st none_left l.from)) None)) (sym queue) ∙ nothing in
          let all = no_place (records_on l.output (past st l.from)) (tooks st l) none_more in
          let count = count_is l.output (past st l.from) in
          eq-eqb (puts st l) (tooks st l) (omega (arith, few, all, count))

      by_end : (b : Bool) → has_ended (past st l.from) ≡ b → (b && is_level st l) ≡ false → has_ended (past st l.from) ≡ false
      by_end false is over = is
      by_end true is over = (let level = level_now l.queue refl in let z : true ≡ false = sym level ∙ over in cc)

  -- the ends of a link are strands
  from_there : (s i : ℕ) (l : Link) → link_in net st s i ≡ Some l → (j : ℕ) × (slice_get net.links j ≡ Some l) × (q : Strand) × (strand_at net st l.from ≡ Some q)
  from_there s i l e =
      let r = found_at (λ k. same k.to s && k.input == i) net.links e in
      let joined = formed.joined r.1.0 l r.1.1 in
      (r.1.0, r.1.1, joined.producer, joined.from_strand)

  to_there : (s i : ℕ) (l : Link) → link_in net st s i ≡ Some l → (j : ℕ) × (slice_get net.links j ≡ Some l) × (q : Strand) × (strand_at net st l.to ≡ Some q)
  to_there s i l e =
      let r = found_at (λ k. same k.to s && k.input == i) net.links e in
      let joined = formed.joined r.1.0 l r.1.1 in
      (r.1.0, r.1.1, joined.consumer, joined.to_strand)

  -- Of one strand

  -- how far a strand went through the commit levels
  data FarAt (s : Who) : Type 0 where
    at_first : want_at net st none_left s ≡ Some (Commit (negsuc 0)) → FarAt s
    at_second : want_at net st none_left s ≡ Some (Commit (pos 0)) → has_reached (negsuc 0) (past st s) ≡ true → FarAt s
    past_both : Went (past st s) → FarAt s

  module _ (s : Who) (p : Strand) (here : strand_at net st s ≡ Some p) (going : has_ended (past st s) ≡ false) where
    wanted : (want : Want) → next p (past st s) ≡ Some want → want_at net st none_left s ≡ Some want
    wanted want is = ap (λ z. want_after z (past st s)) here ∙ is

    unanswered : (want : Want) → next p (past st s) ≡ Some want → (k : ℕ) (e : Event) → answer (sight_of net st none_left s) k (Some want) ≢ Some e
    unanswered want is k e may = halted.none s k e (ap (answer (sight_of net st none_left s) k) (wanted want is) ∙ may)

    -- an end and a taking are never waited for
    never_done : (code : ℤ) → next p (past st s) ≡ Some (Done code) → ⊥
    never_done code is = unanswered (Done code) is 0 (Ended code) refl

    never_takes : (i : ℕ) → next p (past st s) ≡ Some (Take i) → ⊥
    never_takes i is = unanswered (Take i) is i (Took i) (ap (λ b. cond b (Some (Took i)) None) (test_same i))

    -- whoever ends before the commit levels would end
    late : (form p).row.early ≡ None
    late = by_early (form p).row.early refl
      where
        by_early : (m : Option ℤ) → (form p).row.early ≡ m → (form p).row.early ≡ None
        by_early None early = early
        by_early (Some code) early = elim (early_history p code early (past st s) (halted.reached.own s p here)) [
          | inl nothing ↦ absurd (never_done code (ap (next p) nothing ∙ ap (λ m. want_in (first_phase m)) early))
          | inr over ↦ (let ended : has_ended (past st s) ≡ true = ap has_ended over in cc)
        ]

    far : UpTo (past_of p (past st s)).phase (past st s)
    far = up_to p late (past st s) (halted.reached.own s p here)

    -- where it stands by what it wants
    some_want : (w : Want) × (next p (past st s) ≡ Some w)
    some_want = wants_on p (past st s) (halted.reached.own s p here) going

    stands : (w : Want) → next p (past st s) ≡ Some w → StandsFor p (past st s) w
    stands w is = stands_for p (past st s) (halted.reached.own s p here) w is

    -- how far it went through the commit levels
    how_far : FarAt s
    how_far = by_want some_want.0 some_want.1 (stands some_want.0 some_want.1)
      where
        asked : (want : Want) → IsAsker p (past st s) want → FarAt s
        asked want asker = past_both (subst (λ f. UpTo f (past st s)) asker.stands far)

        by_want : (want : Want) → next p (past st s) ≡ Some want → StandsFor p (past st s) want → FarAt s
        by_want (Commit level) is (at, known, which) = elim which [
          | inl first ↦ at_first (wanted (Commit level) is ∙ ap (λ l. Some (Commit l)) first)
          | inr second ↦ at_second (wanted (Commit level) is ∙ ap (λ l. Some (Commit l)) second)
              (reached_up (negsuc 0) (pos 0) (past st s) (subst (λ f. UpTo f (past st s)) (at ∙ ap Starting second) far))
        ]
        by_want (Take i) is at = absurd (never_takes i is)
        by_want (Done code) is at = absurd (never_done code is)
        by_want (Write o rec) is (inl writer) = elim writer.stands [
          | inl at ↦ past_both (subst (λ f. UpTo f (past st s)) at far)
          | inr at ↦ past_both (subst (λ f. UpTo f (past st s)) at far)
        ]
        by_want (Write o rec) is (inr asker) = asked (Write o rec) asker
        by_want (Read i) is asker = asked (Read i) asker
        by_want Any is asker = asked Any asker
        by_want Gate is asker = asked Gate asker
        by_want Prime is asker = asked Prime asker
        by_want (Issue text) is asker = asked (Issue text) asker
        by_want (Join u) is asker = asked (Join u) asker
        by_want (Sever u) is asker = asked (Sever u) asker

  -- The commit levels

  -- whoever hasn't ended stands at the first
  stands_first : (u : Who) → u < length net.strands → stands_at net st none_left (negsuc 0) u ≡ true
  stands_first u lt = by_end (has_ended (past st u)) refl
    where
      at_level : FarAt u → (has_reached (negsuc 0) (past st u) || commits_to (negsuc 0) (want_at net st none_left u)) ≡ true
      at_level (at_first want) = or_second (has_reached (negsuc 0) (past st u)) (commits_to (negsuc 0) (want_at net st none_left u)) (ap (commits_to (negsuc 0)) want ∙ same_level (negsuc 0))
      at_level (at_second want reached) = ap (λ b. b || commits_to (negsuc 0) (want_at net st none_left u)) reached
      at_level (past_both went) = ap (λ b. b || commits_to (negsuc 0) (want_at net st none_left u)) (reached_up (negsuc 0) (pos 0) (past st u) went.1)

      by_end : (b : Bool) → has_ended (past st u) ≡ b → stands_at net st none_left (negsuc 0) u ≡ true
      by_end true is = ap (λ b. b || (has_reached (negsuc 0) (past st u) || commits_to (negsuc 0) (want_at net st none_left u))) is
      by_end false is = (let p = at_some net.strands u lt in or_second (has_ended (past st u)) (has_reached (negsuc 0) (past st u) || commits_to (negsuc 0) (want_at net st none_left u)) (at_level (how_far u p.0 p.1 is)))

  -- where all stand at a level nobody wants it
  none_wants : (level : ℤ) → ((u : Who) → u < length net.strands → stands_at net st none_left level u ≡ true) → (s : Who) → want_at net st none_left s ≢ Some (Commit level)
  none_wants level all s want =
      let code = worst_early st level (members net st s) in
      let answered : level_of net st none_left s level ≡ Some code = ap (λ b. cond b (Some code) None) (all_below (stands_at net st none_left level) (length net.strands) all) in
      halted.none s 0 (Up level code) (ap (answer (sight_of net st none_left s) 0) want ∙ ap (up_answer level) answered)

  -- so whoever hasn't ended stands at the second
  stands_second : (u : Who) → u < length net.strands → stands_at net st none_left (pos 0) u ≡ true
  stands_second u lt = by_end (has_ended (past st u)) refl
    where
      at_level : FarAt u → (has_reached (pos 0) (past st u) || commits_to (pos 0) (want_at net st none_left u)) ≡ true
      at_level (at_first want) = absurd (none_wants (negsuc 0) stands_first u want)
      at_level (at_second want reached) = or_second (has_reached (pos 0) (past st u)) (commits_to (pos 0) (want_at net st none_left u)) (ap (commits_to (pos 0)) want ∙ same_level (pos 0))
      at_level (past_both went) = ap (λ b. b || commits_to (pos 0) (want_at net st none_left u)) (reached_up (pos 0) (pos 0) (past st u) went.0)

      by_end : (b : Bool) → has_ended (past st u) ≡ b → stands_at net st none_left (pos 0) u ≡ true
      by_end true is = ap (λ b. b || (has_reached (pos 0) (past st u) || commits_to (pos 0) (want_at net st none_left u))) is
      by_end false is = (let p = at_some net.strands u lt in or_second (has_ended (past st u)) (has_reached (pos 0) (past st u) || commits_to (pos 0) (want_at net st none_left u)) (at_level (how_far u p.0 p.1 is)))

  -- no strand waits for a commit level
  pub never_commits : (s : Who) → GoesOn net st s → (level : ℤ) → want_at net st none_left s ≢ Some (Commit level)
  never_commits s on level want = elim (stands_for on.strand (past st s) (halted.reached.own s on.strand on.there) (Commit level) (ap (λ z. want_after z (past st s)) (sym on.there) ∙ want)).2 [
    | inl first ↦ none_wants (negsuc 0) stands_first s (want ∙ ap (λ l. Some (Commit l)) first)
    | inr second ↦ none_wants (pos 0) stands_second s (want ∙ ap (λ l. Some (Commit l)) second)
  ]

  -- A link that leads to a strand

  -- what is written there is at hand
  shown_there : (l : Link) (rec : List ℕ) (i : ℕ) (s : Who) → link_in net st s i ≡ Some l → l.queue ≡ false → want_at net st none_left l.from ≡ Some (Write l.output rec) → at_hand net st none_left (link_in net st s i) ≡ Some rec
  shown_there l rec i s e plain want =
      ap (at_hand net st none_left) e
      ∙ ap (λ b. cond b (slice_get (records_on l.output (past st l.from)) (tooks st l)) (cond (is_level st l) (offered l.output (want_at net st none_left l.from)) None)) plain
      ∙ ap (λ b. cond b (offered l.output (want_at net st none_left l.from)) None) (level_there s i l e plain)
      ∙ ap (offered l.output) want
      ∙ ap (λ b. cond b (Some rec) None) (test_same l.output)

  -- Whom a strand waits for

  module _ (s : Who) (on : GoesOn net st s) where
    abbrev h : List Event
    h = past st s

    as_next : (want : Want) → want_at net st none_left s ≡ Some want → next on.strand h ≡ Some want
    as_next want is = ap (λ z. want_after z h) (sym on.there) ∙ is

    refused : (want : Want) → want_at net st none_left s ≡ Some want → (k : ℕ) (e : Event) → answer (sight_of net st none_left s) k (Some want) ≢ Some e
    refused want is k e may = halted.none s k e (ap (answer (sight_of net st none_left s) k) is ∙ may)

    -- what it asks for
    asked : (want : Want) → want_at net st none_left s ≡ Some want → IsAsker on.strand h want → asked_by on.strand (past_of on.strand h).known want
    asked want is asker = asker.asked

    -- who writes waits for the consumer
    writing : (o : ℕ) (rec : List ℕ) → want_at net st none_left s ≡ Some (Write o rec) → IsWaiting net st s
    writing o rec is = by_link (the_event (link_out net st s o) connected)
      where
        connected : is_some (link_out net st s o) ≡ true
        connected = sym ((formed.told s on.strand on.there).has_output o) ∙ wants_output on.strand h (halted.reached.own s on.strand on.there) o rec (as_next (Write o rec) is)

        stuck : (e : Event) → write_answer o rec (may_put st (link_out net st s o)) (may_refuse st (link_out net st s o)) ≢ Some e
        stuck e may = refused (Write o rec) is o e (ap (λ b. cond b (write_answer o rec (may_put st (link_out net st s o)) (may_refuse st (link_out net st s o))) None) (test_same o) ∙ may)

        by_tests : (a b : Bool) → ((e : Event) → write_answer o rec a b ≢ Some e) → (a ≡ false) × (b ≡ false)
        by_tests true b never = absurd (never (Put o rec) refl)
        by_tests false true never = absurd (never (Refused o) refl)
        by_tests false false never = (refl, refl)

        by_link : (l : Link) × (link_out net st s o ≡ Some l) → IsWaiting net st s
        by_link (l, e) =
            let ends = from_out net formed st s o l e in
            let tests = by_tests (may_put st (link_out net st s o)) (may_refuse st (link_out net st s o)) stuck in
            let plain : l.queue ≡ false = (neither l.queue (nat_lt (puts st l) (tooks st l)) (ap (may_put st) (sym e) ∙ tests.0)).0 in
            let there = to_there l.to l.input l ends.2 in
            let level = level_there l.to l.input l ends.2 plain in
            let refuses : (not l.queue && (has_ended (past st l.to) && is_level st l)) ≡ false = ap (may_refuse st) (sym e) ∙ tests.1 in
            let open_end : (has_ended (past st l.to) && true) ≡ false =
            ap (λ b. has_ended (past st l.to) && b) (sym level) ∙ ap (λ b. not b && (has_ended (past st l.to) && is_level st l)) (sym plain) ∙ refuses in
            record {
              place = there.0;
              link = l;
              at = there.1;
              other = l.to;
              waits = to_write o rec is e plain refl;
              goes_on = record { strand = there.2; there = there.3; going = and_true (has_ended (past st l.to)) open_end };
            }

    -- who looks waits for a producer
    module _ (i : ℕ) (l : Link) (e : link_in net st s i ≡ Some l) (nothing : at_hand net st none_left (link_in net st s i) ≡ None) (not_over : is_over st (Some l) ≡ false) where
      producer_on : GoesOn net st l.from
      producer_on =
          let there = from_there s i l e in
          record { strand = there.2; there = there.3; going = producer_goes s i l e (ap (at_hand net st none_left) (sym e) ∙ nothing) not_over }

      looking : Waits net st s l l.from → IsWaiting net st s
      looking waits = let there = from_there s i l e in record { place = there.0; link = l; at = there.1; other = l.from; waits = waits; goes_on = producer_on }

    -- a record that could be read would be
    reading : (i : ℕ) → want_at net st none_left s ≡ Some (Read i) → IsWaiting net st s
    reading i is = by_link (link_in net st s i) refl
      where
        by_tests : (hand : Option (List ℕ)) (over : Bool) → ((e : Event) → read_answer i hand over ≢ Some e) → (hand ≡ None) × (over ≡ false)
        by_tests (Some rec) over never = absurd (never (Saw i rec) refl)
        by_tests None true never = absurd (never (SawEnd i) refl)
        by_tests None false never = (refl, refl)

        tests : (at_hand net st none_left (link_in net st s i) ≡ None) × (is_over st (link_in net st s i) ≡ false)
        tests = by_tests (at_hand net st none_left (link_in net st s i)) (is_over st (link_in net st s i)) (λ e may.
            refused (Read i) is i e (ap (λ b. cond b (read_answer i (at_hand net st none_left (link_in net st s i)) (is_over st (link_in net st s i))) None) (test_same i) ∙ may))

        by_link : (m : Option Link) → link_in net st s i ≡ m → IsWaiting net st s
        by_link None e = (let over : true ≡ false = ap (is_over st) (sym e) ∙ tests.1 in cc)
        by_link (Some l) e = looking i l e tests.0 (ap (is_over st) (sym e) ∙ tests.1) (to_read i is e refl)

    seeing : want_at net st none_left s ≡ Some Any → IsWaiting net st s
    seeing is =
        let all = by_tests 0 (at_hand net st none_left (link_in net st s 0)) (all_over net st s) (refused Any is 0) in
        let fails = one_fails (λ (link : Link). not (same link.to s) || is_over st (Some link)) net.links all.1 in
        let parts = neither (not (same fails.1.to s)) (is_over st (Some fails.1)) fails.3 in
        let to : fails.1.to ≡ s = eqb-true fails.1.to s (not_not (same fails.1.to s) parts.0) in
        let e : link_in net st s fails.1.input ≡ Some fails.1 = subst (λ z. link_in net nothing_yet z fails.1.input ≡ Some fails.1) to (link_there net formed fails.0 fails.1 fails.2) in
        let hand = by_tests fails.1.input (at_hand net st none_left (link_in net st s fails.1.input)) (fails.1.input == 0 && all_over net st s) (refused Any is fails.1.input) in
        looking fails.1.input fails.1 e hand.0 parts.1 (to_see fails.1.input is e refl)
      where
        by_tests : (i : ℕ) (hand : Option (List ℕ)) (over : Bool) → ((e : Event) → any_answer i hand over ≢ Some e) → (hand ≡ None) × (over ≡ false)
        by_tests i (Some rec) over never = absurd (never (Saw i rec) refl)
        by_tests i None true never = absurd (never SawAllEnd refl)
        by_tests i None false never = (refl, refl)

        not_not : (b : Bool) → not b ≡ false → b ≡ true
        not_not true is = refl
        not_not false is = cc

    -- a strand that goes on waits for one that goes on
    pub waits_there : IsWaiting net st s
    waits_there = let w = wants_on on.strand h (halted.reached.own s on.strand on.there) on.going in by_want w.0 (ap (λ z. want_after z h) on.there ∙ w.1)
      where
        no_issue : (want : Want) → want_at net st none_left s ≡ Some want → IsAsker on.strand h want → IsNoIssue want
        no_issue want is asker = (sound_line on.strand).issues (calm.issues s on.strand on.there) (past_of on.strand h).known want asker.asked

        stands : (want : Want) → want_at net st none_left s ≡ Some want → StandsFor on.strand h want
        stands want is = stands_for on.strand h (halted.reached.own s on.strand on.there) want (as_next want is)

        by_want : (want : Want) → want_at net st none_left s ≡ Some want → IsWaiting net st s
        by_want (Commit level) is = absurd (never_commits s on level is)
        by_want (Read i) is = reading i is
        by_want Any is = seeing is
        by_want Gate is =
            let asker = stands Gate is in
            absurd (calm.strict s on.strand on.there (gate_loose (form on.strand).meeting ((sound_line on.strand).allows (past_of on.strand h).known Gate asker.asked)))
        by_want (Take i) is = absurd (refused (Take i) is i (Took i) (ap (λ b. cond b (Some (Took i)) None) (test_same i)))
        by_want (Write o rec) is = writing o rec is
        by_want Prime is = (let asker = stands Prime is in absurd (calm.whole s on.strand on.there (prime_streamed on.strand (past_of on.strand h).known (line_of on.strand.kind).shape asker.asked)))
        by_want (Issue text) is = absurd (no_issue (Issue text) is (stands (Issue text) is))
        by_want (Join u) is = absurd (no_issue (Join u) is (stands (Join u) is))
        by_want (Sever u) is = absurd (no_issue (Sever u) is (stands (Sever u) is))
        by_want (Done code) is = absurd (refused (Done code) is 0 (Ended code) refl)

  -- Two ends of one link

  -- a record that is written is seen by whoever reads there
  pub read_shows : (l : Link) (rec : List ℕ) (s : Who) (i : ℕ) → link_in net st s i ≡ Some l → l.queue ≡ false → want_at net st none_left l.from ≡ Some (Write l.output rec) → want_at net st none_left s ≢ Some (Read i)
  read_shows l rec s i e plain want reads =
      let hand = shown_there l rec i s e plain want in
      halted.none s i (Saw i rec) (
      ap (answer (sight_of net st none_left s) i) reads
      ∙ ap (λ b. cond b (read_answer i (at_hand net st none_left (link_in net st s i)) (is_over st (link_in net st s i))) None) (test_same i)
      ∙ ap (λ m. read_answer i m (is_over st (link_in net st s i))) hand
      )

  -- and by whoever looks at any input
  pub any_shows : (l : Link) (rec : List ℕ) (s : Who) (i : ℕ) → link_in net st s i ≡ Some l → l.queue ≡ false → want_at net st none_left l.from ≡ Some (Write l.output rec) → want_at net st none_left s ≢ Some Any
  any_shows l rec s i e plain want looks =
      let hand = shown_there l rec i s e plain want in
      halted.none s i (Saw i rec) (ap (answer (sight_of net st none_left s) i) looks ∙ ap (λ m. any_answer i m (i == 0 && all_over net st s)) hand)

  -- of a strand that waits to write
  pub written_on : (s t : Who) (l : Link) (o : ℕ) (rec : List ℕ) → want_at net st none_left s ≡ Some (Write o rec) → link_out net st s o ≡ Some l → want_at net st none_left l.from ≡ Some (Write l.output rec)
  written_on s t l o rec want e =
      let ends = from_out net formed st s o l e in
      ap (want_at net st none_left) ends.0 ∙ want ∙ ap (λ z. Some (Write z rec)) (sym ends.1)

  -- a producer doesn't read its own output
  one_end : (s t : Who) (i j : ℕ) (l : Link) → link_in net st s i ≡ Some l → l.from ≡ t → link_in net st t j ≡ Some l → ⊥
  one_end s t i j l e from e' = calm.apart s i l e (from ∙ sym (from_in net formed st t j l e').0)

  -- two strands never wait for each other over one link
  pub never_back : (s t u : Who) (l : Link) → Waits net st s l t → Waits net st t l u → ⊥
  never_back s t u l (to_write o rec want e plain to) (to_write o' rec' want' e' plain' to') =
      let a = from_out net formed st s o l e in
      let b = from_out net formed st t o' l e' in
      calm.apart l.to l.input l a.2 (b.0 ∙ sym to)
  never_back s t u l (to_write o rec want e plain to) (to_read i want' e' from) = read_shows l rec t i e' plain (written_on s t l o rec want e) want'
  never_back s t u l (to_write o rec want e plain to) (to_see i want' e' from) = any_shows l rec t i e' plain (written_on s t l o rec want e) want'
  never_back s t u l (to_read i want e from) (to_write o rec want' e' plain to) = read_shows l rec s i e plain (written_on t u l o rec want' e') want
  never_back s t u l (to_see i want e from) (to_write o rec want' e' plain to) = any_shows l rec s i e plain (written_on t u l o rec want' e') want
  never_back s t u l (to_read i want e from) (to_read j want' e' from') = one_end s t i j l e from e'
  never_back s t u l (to_read i want e from) (to_see j want' e' from') = one_end s t i j l e from e'
  never_back s t u l (to_see i want e from) (to_read j want' e' from') = one_end s t i j l e from e'
  never_back s t u l (to_see i want e from) (to_see j want' e' from') = one_end s t i j l e from e'
