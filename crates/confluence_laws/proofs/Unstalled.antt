-- A net without cycles and queues whose strands ask for a record of any of their inputs never stalls: where no strand can go on, each has ended.
use Rattle.std.proofs.Common.{◌≡◌, ◌≢◌, inl, inr, ℕ, zero, suc, ◌+◌, ◌<◌, ◌≤◌, Bool, true, false, cond, ◌&&◌, ◌||◌, not, ◌==◌, List, length, refl, sym, ◌∙◌, ap, arith, Some, None, slice_get, is_some, ℤ, pos, negsuc, eq-eqb}
use Rattle.std.specs.Ordering.{int_eq}
use Rattle.std.specs.Prelude.{nat_lt}
use Rattle.std.proofs.lemmas.Bool.{lt-ltb}
use Rattle.std.proofs.lemmas.Option.{slice_get_within}
use Rattle.pipe_model.specs.declared.net.Net.{Net}
use Rattle.pipe_model.specs.declared.net.Link.{Link}
use Rattle.pipe_model.specs.declared.net.Strand.{Strand}
use Rattle.pipe_model.specs.declared.step.Entry.{Entry}
use Rattle.pipe_model.specs.Event.{Event, has_ended, has_reached, records_on}
use Rattle.pipe_model.specs.Event.Event.{Put, Refused, Up}
use Rattle.pipe_model.specs.Event.Want.{Commit, Write}
use Rattle.pipe_model.specs.Licence.{answer, commits_to, is_level, is_over, level_of, licence, may_put, may_refuse, none_left, offered, puts, shown, sight_of, stands_at, tooks, up_answer, want_after, want_at, worst_early, write_answer}
use Rattle.pipe_model.specs.Plain.{IsAcyclic}
use Rattle.pipe_model.specs.Play.{HasEnded, IsComplete, IsLegal, play}
use Rattle.pipe_model.specs.State.{State, Who, link_in, link_out, members, nothing_yet, past, same, strand_at}
use Rattle.pipe_model.specs.WellFormed.{IsWellFormed}
use Rattle.pipe_model.proofs.Lists.{all_below, at_some, found_at}
use Rattle.pipe_model.proofs.Numbers.{equal_or_not, test_same}
use Rattle.pipe_model.proofs.Truths.{or_second}
use Rattle.confluence_laws.proofs.Basics.{from_out, not_ended, the_event}
use Rattle.confluence_laws.proofs.Fitting.{wants_output}
use Rattle.confluence_laws.proofs.Owed.{AreEven, IsEven, play_even, writes_it}
use Rattle.confluence_laws.proofs.Reached.{IsReached, play_reached}
use Rattle.confluence_laws.proofs.Standstill.{AsksForAny, IsLooking, WaitsFor, waits_for}
use Rattle.confluence_laws.proofs.Standstill.WaitsFor.{first_level, record_comes, record_goes, second_level}
use Rattle.confluence_laws.proofs.Sums.{over}
use Rattle.confluence_laws.proofs.Total.{link_there}
use Rattle.confluence_laws.proofs.Went.{reached_up}

-- each strand asks for a record of any of its inputs, and nothing leads back to a strand or into a queue
pub record WaitsOnward (net : Net) : Type 0 where
  pub asks : (s : Who) (p : Strand) → strand_at net nothing_yet s ≡ Some p → AsksForAny p
  pub meets : (j : ℕ) (link : Link) → slice_get net.links j ≡ Some link → link.queue ≡ false
  pub acyclic : IsAcyclic net

-- no term is above the sum
below_sum : (f : ℕ → ℕ) (n i : ℕ) → i < n → f i ≤ over f n
below_sum f zero i lt = absurd (omega (arith, lt))
below_sum f (suc n) i lt = elim (equal_or_not i n) [
  | inl is ↦ (let same_one = ap f is in omega (arith, same_one))
  | inr other ↦ (let below = below_sum f n i (omega (arith, lt, other)) in omega (arith, below))
]

module _ (net : Net) (formed : IsWellFormed net) (onward : WaitsOnward net) (st : State) (reached : IsReached net st) (even : AreEven net st) (none : (s k : ℕ) (e : Event) → licence net st none_left s k ≢ Some e) where
  -- whoever hasn't ended waits for something
  waits : (s : Who) (p : Strand) → strand_at net st s ≡ Some p → has_ended (past st s) ≡ false → WaitsFor net st s
  waits s p here going = waits_for net formed st reached none s p here (onward.asks s p here) going

  -- the numbers of strands that rise along each link
  abbrev rank : Who → ℕ
  rank = onward.acyclic.rank

  apart : (j : ℕ) (link : Link) → slice_get net.links j ≡ Some link → link.from ≢ link.to
  apart j link at is = (let rises = onward.acyclic.along j link at in let same_rank = ap rank is in omega (arith, rises, same_rank))

  -- Commit levels

  -- a level at which all stand is reached
  never_at : (level : ℤ) → ((t : Who) → t < length net.strands → stands_at net st none_left level t ≡ true) → (s : Who) → want_at net st none_left s ≢ Some (Commit level)
  never_at level all s is =
      let answered : up_answer level (level_of net st none_left s level) ≡ Some (Up level (worst_early st level (members net st s))) =
      ap (λ b. up_answer level (cond b (Some (worst_early st level (members net st s))) None)) (all_below (stands_at net st none_left level) (length net.strands) all) in
      none s 0 (Up level (worst_early st level (members net st s))) (ap (answer (sight_of net st none_left s) 0) is ∙ answered)

  -- a strand stands at a level that it has reached or waits for
  abbrev Stands : ℤ → Who → Type 0
  Stands level t = (has_reached level (past st t) || commits_to level (want_at net st none_left t)) ≡ true

  stands_by : (level : ℤ) → ((t : Who) → WaitsFor net st t → Stands level t) → (t : Who) → t < length net.strands → stands_at net st none_left level t ≡ true
  stands_by level stands t lt = by_end (has_ended (past st t)) refl
    where
      by_end : (b : Bool) → has_ended (past st t) ≡ b → stands_at net st none_left level t ≡ true
      by_end true ended = ap (λ b. b || (has_reached level (past st t) || commits_to level (want_at net st none_left t))) ended
      by_end false going =
          let p = at_some net.strands t lt in
          or_second (has_ended (past st t)) (has_reached level (past st t) || commits_to level (want_at net st none_left t)) (stands t (waits t p.0 p.1 going))

  by_reaching : (level : ℤ) (t : Who) → has_reached level (past st t) ≡ true → Stands level t
  by_reaching level t there = ap (λ b. b || commits_to level (want_at net st none_left t)) there

  by_wanting : (level : ℤ) (t : Who) → int_eq level level ≡ true → want_at net st none_left t ≡ Some (Commit level) → Stands level t
  by_wanting level t same is = or_second (has_reached level (past st t)) (commits_to level (want_at net st none_left t)) (ap (commits_to level) is ∙ same)

  -- so nobody waits for the first level
  never_first : (s : Who) → want_at net st none_left s ≢ Some (Commit (negsuc 0))
  never_first = never_at (negsuc 0) (stands_by (negsuc 0) stands)
    where
      stands : (t : Who) → WaitsFor net st t → Stands (negsuc 0) t
      stands t (first_level is) = by_wanting (negsuc 0) t refl is
      stands t (second_level is there) = by_reaching (negsuc 0) t there
      stands t (record_comes went looking) = by_reaching (negsuc 0) t (reached_up (negsuc 0) (pos 0) (past st t) went.1)
      stands t (record_goes went o rec is) = by_reaching (negsuc 0) t (reached_up (negsuc 0) (pos 0) (past st t) went.1)

  -- nor for the second
  never_second : (s : Who) → want_at net st none_left s ≢ Some (Commit (pos 0))
  never_second = never_at (pos 0) (stands_by (pos 0) stands)
    where
      stands : (t : Who) → WaitsFor net st t → Stands (pos 0) t
      stands t (first_level is) = absurd (never_first t is)
      stands t (second_level is there) = by_wanting (pos 0) t refl is
      stands t (record_comes went looking) = by_reaching (pos 0) t (reached_up (pos 0) (pos 0) (past st t) went.0)
      stands t (record_goes went o rec is) = by_reaching (pos 0) t (reached_up (pos 0) (pos 0) (past st t) went.0)

  -- Writers: each waits for one further on, and the last for nobody

  -- the reader of a link hasn't ended where its writer waits
  pub record IsHeldUp (s : Who) (rec : List ℕ) : Type 0 where
    pub place : ℕ
    pub link : Link
    pub at : slice_get net.links place ≡ Some link
    pub from : link.from ≡ s
    pub in_link : link_in net st link.to link.input ≡ Some link
    pub going : has_ended (past st link.to) ≡ false
    pub offers : shown net st none_left link ≡ Some rec

  module _ (s : Who) (p : Strand) (here : strand_at net st s ≡ Some p) (o : ℕ) (rec : List ℕ) (want : want_at net st none_left s ≡ Some (Write o rec)) where
    some_link : (l : Link) × (link_out net st s o ≡ Some l)
    some_link =
        let own : _ = ap (λ z. want_after z (past st s)) (sym here) ∙ want in
        let flag = wants_output p (past st s) (reached.own s p here) o rec own in
        the_event (link_out net st s o) (sym ((formed.told s p here).has_output o) ∙ flag)

    neither : (a b : Bool) → ((e : Event) → write_answer o rec a b ≢ Some e) → (a ≡ false) × (b ≡ false)
    neither true b never = absurd (never (Put o rec) refl)
    neither false true never = absurd (never (Refused o) refl)
    neither false false never = (refl, refl)

    unanswered : (may_put st (link_out net st s o) ≡ false) × (may_refuse st (link_out net st s o) ≡ false)
    unanswered = neither (may_put st (link_out net st s o)) (may_refuse st (link_out net st s o))
        (λ e may. none s o e (ap (answer (sight_of net st none_left s) o) want ∙ ap (λ b. cond b (write_answer o rec (may_put st (link_out net st s o)) (may_refuse st (link_out net st s o))) None) (test_same o) ∙ may))

    held_up : IsHeldUp s rec
    held_up =
        let l = some_link.0 in
        let ends = from_out net formed st s o l some_link.1 in
        let place = found_at (λ k. same k.from s && k.output == o) net.links some_link.1 in
        let plain = onward.meets place.1.0 l place.1.1 in
        let level = by_pace l plain some_link.1 (even l.to l.input l ends.2 plain (apart place.1.0 l place.1.1)) in
        record {
          place = place.1.0;
          link = l;
          at = place.1.1;
          from = ends.0;
          in_link = ends.2;
          going = (
              let held : may_refuse st (Some l) ≡ false = ap (may_refuse st) (sym some_link.1) ∙ unanswered.1 in
              let ended : (has_ended (past st l.to) && true) ≡ false = ap (λ b. has_ended (past st l.to) && b) (sym level) ∙ ap (λ b. not b && (has_ended (past st l.to) && is_level st l)) (sym plain) ∙ held in
              first_false (has_ended (past st l.to)) ended
              );
          offers =
              ap (λ b. cond b (slice_get (records_on l.output (past st l.from)) (tooks st l)) (cond (is_level st l) (offered l.output (want_at net st none_left l.from)) None)) plain
              ∙ ap (λ b. cond b (offered l.output (want_at net st none_left l.from)) None) level
              ∙ ap (λ z. offered l.output (want_at net st none_left z)) ends.0
              ∙ ap (offered l.output) want
              ∙ ap (λ z. offered z (Some (Write o rec))) ends.1
              ∙ ap (λ b. cond b (Some rec) None) (test_same o);
        }
      where
        first_false : (a : Bool) → (a && true) ≡ false → a ≡ false
        first_false true is = is
        first_false false is = refl

        not_ahead : (l : Link) → l.queue ≡ false → link_out net st s o ≡ Some l → nat_lt (puts st l) (tooks st l) ≡ false
        not_ahead l plain linked = ap (λ b. b || nat_lt (puts st l) (tooks st l)) (sym plain) ∙ ap (may_put st) (sym linked) ∙ unanswered.0

        by_pace : (l : Link) → l.queue ≡ false → link_out net st s o ≡ Some l → IsEven net st l → is_level st l ≡ true
        by_pace l plain linked (inl level) = eq-eqb (puts st l) (tooks st l) level
        by_pace l plain linked (inr owed) =
            let more = owed.more in
            let ahead = lt-ltb (puts st l) (tooks st l) (omega (arith, more)) in
            let behind = not_ahead l plain linked in
            cc

  -- so nobody waits to write
  never_writes : (n : ℕ) (s : Who) (p : Strand) → strand_at net st s ≡ Some p → over rank (length net.strands) < n + rank s → (o : ℕ) (rec : List ℕ) → want_at net st none_left s ≢ Some (Write o rec)
  never_writes zero s p here high o rec want = (let low = below_sum rank (length net.strands) s (slice_get_within net.strands s p here) in omega (arith, high, low))
  never_writes (suc n) s p here high o rec want =
      let held = held_up s p here o rec want in
      let joined = formed.joined held.place held.link held.at in
      let rises = onward.acyclic.along held.place held.link held.at in
      let from = ap rank held.from in
      by_wait held (λ o' rec' is. never_writes n held.link.to joined.consumer joined.to_strand (omega (arith, high, rises, from)) o' rec' is)
      (waits held.link.to joined.consumer joined.to_strand held.going)
    where
      by_wait : (held : IsHeldUp s rec) → ((o : ℕ) (rec : List ℕ) → want_at net st none_left held.link.to ≢ Some (Write o rec)) → WaitsFor net st held.link.to → ⊥
      by_wait held never (first_level is) = never_first held.link.to is
      by_wait held never (second_level is reached_first) = never_second held.link.to is
      by_wait held never (record_comes went looking) = (let nothing = looking.nothing held.link.input held.link held.in_link in let offers = held.offers in cc)
      by_wait held never (record_goes went o' rec' is) = never o' rec' is

  -- Readers: each waits for one further back, and the first for nobody

  never_looks : (n : ℕ) (s : Who) → rank s < n → IsLooking net st s → ⊥
  never_looks zero s low looking = omega (arith, low)
  never_looks (suc n) s low looking =
      let joined = formed.joined looking.place looking.link looking.at in
      let rises = onward.acyclic.along looking.place looking.link looking.at in
      let to = ap rank looking.to in
      by_end joined.producer joined.from_strand (λ before. never_looks n looking.link.from (omega (arith, low, rises, to)) before) (has_ended (past st looking.link.from)) refl
    where
      by_wait : (p : Strand) → strand_at net st looking.link.from ≡ Some p → (IsLooking net st looking.link.from → ⊥) → WaitsFor net st looking.link.from → ⊥
      by_wait p there never (first_level is) = never_first looking.link.from is
      by_wait p there never (second_level is reached_first) = never_second looking.link.from is
      by_wait p there never (record_comes went before) = never before
      by_wait p there never (record_goes went o rec is) = never_writes (suc (over rank (length net.strands))) looking.link.from p there (omega arith) o rec is

      -- its producer has put all that was taken
      over_there : has_ended (past st looking.link.from) ≡ true → IsEven net st looking.link → ⊥
      over_there ended (inl level) =
          let over_now : is_over st (Some looking.link) ≡ true = ap (λ b. b && is_level st looking.link) ended ∙ eq-eqb (puts st looking.link) (tooks st looking.link) level in
          let goes_on = looking.goes_on in
          cc
      over_there ended (inr owed) =
          let want = writes_it (want_at net st none_left looking.link.from) looking.link.output owed.rec owed.offers in
          let going = not_ended (strand_at net st looking.link.from) (past st looking.link.from) (Write looking.link.output want.0) want.1 in
          cc

      by_end : (p : Strand) → strand_at net st looking.link.from ≡ Some p → (IsLooking net st looking.link.from → ⊥) → (b : Bool) → has_ended (past st looking.link.from) ≡ b → ⊥
      by_end p there never true ended =
          over_there ended (even looking.link.to looking.link.input looking.link (link_there net formed looking.place looking.link looking.at) (onward.meets looking.place looking.link looking.at) (apart looking.place looking.link looking.at))
      by_end p there never false going = by_wait p there never (waits looking.link.from p there going)

  -- so each strand has ended
  pub all_ended : (s : Who) (p : Strand) → strand_at net st s ≡ Some p → has_ended (past st s) ≡ true
  all_ended s p here = by_end (has_ended (past st s)) refl
    where
      by_wait : WaitsFor net st s → ⊥
      by_wait (first_level is) = never_first s is
      by_wait (second_level is reached_first) = never_second s is
      by_wait (record_comes went looking) = never_looks (suc (rank s)) s (omega arith) looking
      by_wait (record_goes went o rec is) = never_writes (suc (over rank (length net.strands))) s p here (omega arith) o rec is

      by_end : (b : Bool) → has_ended (past st s) ≡ b → has_ended (past st s) ≡ true
      by_end true ended = ended
      by_end false going = absurd (by_wait (waits s p here going))

-- a complete dispatch of such a net has ended everywhere
pub never_stalls : (net : Net) → IsWellFormed net → WaitsOnward net → (es : List Entry) → IsLegal net es → IsComplete net es → HasEnded net (play net es)
never_stalls net formed onward es legal complete s there =
    let p = the_event (strand_at net (play net es) s) there in
    all_ended net formed onward (play net es) (play_reached net formed es legal) (play_even net formed es legal) (λ t k e may. complete (record { strand = t; stream = k }) (ap is_some may)) s p.0 p.1
