-- A job that is run on its bytes may be finished.
use Rattle.std.proofs.Common.{◌≡◌, ℕ, ◌<◌, arith, true, false, ◌==◌, List, [], ◌∷◌, ◌++◌, length, refl, sym, ◌∙◌, ap, subst, Option, Some, None, slice_get}
use Rattle.std.proofs.Math.Seq.{take-length}
use Rattle.std.specs.Prelude.{take, Result, Ok, Err, IfOk}
use Rattle.std.specs.Option.{option_map_or}
use Rattle.pipe_model.specs.declared.net.Net.{Net}
use Rattle.pipe_model.specs.declared.net.Strand.{Strand}
use Rattle.pipe_model.specs.declared.step.Entry.{Entry}
use Rattle.pipe_model.specs.declared.step.Seen.TheVariants.{Saw as Sees}
use Rattle.pipe_model.specs.declared.step.Want.{Want as Asked}
use Rattle.pipe_model.specs.Event.{Event, answers, has_ended}
use Rattle.pipe_model.specs.Event.Event.{Up, Saw, SawEnd, SawAllEnd, Took, Put, Refused, Primed, Opened, Joined, Severed, Ended}
use Rattle.pipe_model.specs.Next.{next}
use Rattle.pipe_model.specs.Table.{form}
use Rattle.pipe_model.specs.State.{Who, past, nothing_yet, with_some_event, strand_at}
use Rattle.pipe_model.specs.Licence.{none_left, want_after, licence}
use Rattle.pipe_model.specs.Play.{play}
use Rattle.pipe_model.proofs.Numbers.{test_same}
use Rattle.pipe_model.proofs.Lists.{get_seam, length_more}
use Rattle.stage_steps.specs.Coroutine.{bytes_with, meaning, last_seen, owed, IsSeenBefore, IsTold, CanResume, Resumes}
use Rattle.stage_steps.specs.Replies.{CanSee}
use Rattle.confluence_laws.proofs.Basics.{at_same}
use Rattle.confluence_laws.proofs.Owns.{answers_it}
use Rattle.confluence_laws.proofs.Lengths.{play_last}
use Rattle.core_machine.specs.Jobs.{JobState, JobStands, HasGoneOn}
use Rattle.core_machine.specs.Machine.{is_of, is_at, looks_at}
use Rattle.core_machine.proofs.Plays.{play_length}

module _ {S : Type 0} (stands : S → Strand → List Event → Type 0) (net : Net) (journal : List Entry) (job : JobState S) (given : JobStands stands net journal job) where
  abbrev s : Who
  s = job.strand

  -- the strand's history is now one event longer
  pub job_past : past (play net journal) s ≡ given.event ∷ past (play net given.before) s
  job_past = ap (λ z. past (play net z) s) given.journal_is
      ∙ ap (λ z. past z s) (play_last net nothing_yet given.before given.entry)
      ∙ ap (λ z. past (with_some_event (play net given.before) z (licence net (play net given.before) none_left z given.entry.stream)) s) given.entry_is
      ∙ ap (λ z. past (with_some_event (play net given.before) s z) s) given.licensed
      ∙ at_same (play net given.before) s given.event

  pub job_strand : (q : Strand) × (strand_at net nothing_yet s ≡ Some q)
  job_strand = go (strand_at net nothing_yet s) refl (answers_it net (play net given.before) none_left s given.entry.stream given.event given.licensed)
    where
      go : (x : Option Strand) → strand_at net nothing_yet s ≡ x → answers (want_after (strand_at net nothing_yet s) (past (play net given.before) s)) given.event ≡ true → (q : Strand) × (strand_at net nothing_yet s ≡ Some q)
      go None is ans = let z : false ≡ true = ap (λ y. answers (want_after y (past (play net given.before) s)) given.event) (sym is) ∙ ans in cc
      go (Some q) is ans = (q, is)

  told_it : (bytes : List ℕ) → bytes_with (looks_at net s) given.event ≡ bytes → (q : Strand) → strand_at net nothing_yet s ≡ Some q → IsTold stands job.stage job.seen bytes q (past (play net given.before) s) given.event
  told_it bytes right q is = record {
    stood = given.stood q is;
    answer = ap (λ z. answers (want_after z (past (play net given.before) s)) given.event) (sym is) ∙ answers_it net (play net given.before) none_left s given.entry.stream given.event given.licensed;
    seen_is = given.seen_is;
    bytes_are = ap (λ x. bytes_with (option_map_or (λ (p : Strand). (form p).looks) x false) given.event) (sym is) ∙ right;
    room = given.room;
  }

  pub can_run : (bytes : List ℕ) → bytes_with (looks_at net s) given.event ≡ bytes → CanResume stands job.stage job.seen bytes
  can_run bytes right = (job_strand.0, past (play net given.before) s, given.event, told_it bytes right job_strand.0 job_strand.1)

  -- where it sees a record, and the journal is shorter than any may be, its coroutine has room for one event more
  pub can_see : (i : ℕ) → job.seen ≡ Sees i → length journal < 50000000 → (bytes : List ℕ) → bytes_with (looks_at net s) given.event ≡ bytes → CanSee stands job.stage i bytes
  can_see i sees few bytes right =
      let h = past (play net given.before) s in
      let no_longer = play_length net nothing_yet given.before s in
      let longer : length journal ≡ length (given.before ++ given.entry ∷ []) = ap length given.journal_is in
      let one = length_more given.before given.entry in
      (job_strand.0, h, given.event, subst (λ z. IsTold stands job.stage z bytes job_strand.0 h given.event) sees (told_it bytes right job_strand.0 job_strand.1), omega (arith, no_longer, longer, one, few))

  its_place : is_at journal s job.place ≡ true
  its_place = subst (λ z. is_at journal s z ≡ true) (sym (given.place_is ∙ ap length given.journal_is ∙ length_more given.before given.entry))
      (ap (λ z. is_of s (slice_get z (length given.before))) given.journal_is ∙ ap (is_of s) (get_seam given.before given.entry []) ∙ ap (λ z. z == s) given.entry_is ∙ test_same s)

  owes_next : (q : Strand) (e : Event) (h : List Event) → has_ended (e ∷ h) ≡ false → owed q (e ∷ h) ≡ next q (e ∷ h)
  owes_next q (Ended c) h going = cc
  owes_next q (Up l c) h going = refl
  owes_next q (Saw i r) h going = refl
  owes_next q (SawEnd i) h going = refl
  owes_next q SawAllEnd h going = refl
  owes_next q (Took i) h going = refl
  owes_next q (Put o r) h going = refl
  owes_next q (Refused o) h going = refl
  owes_next q (Primed b) h going = refl
  owes_next q (Opened k) h going = refl
  owes_next q (Joined k c) h going = refl
  owes_next q (Severed k) h going = refl

  pub done_stands : (bytes : List ℕ) → bytes_with (looks_at net s) given.event ≡ bytes → (stage' : S) (want : Asked) → Resumes stands job.stage stage' job.seen bytes want →
      HasGoneOn stands net journal s job.place stage' want
  done_stands bytes right stage' want resumed = record {
    place_is = given.place_is;
    mine = its_place;
    stood = λ q is. subst (stands stage' q) (sym job_past) (resumed q (past (play net given.before) s) given.event (told_it bytes right q is)).0;
    asks = λ q is. subst (λ z. has_ended z ≡ false → Some (meaning want (last_seen z)) ≡ next q z) (sym job_past)
        (λ going. (resumed q (past (play net given.before) s) given.event (told_it bytes right q is)).1 ∙ owes_next q given.event (past (play net given.before) s) going);
    seen = λ q is. subst (IsSeenBefore want) (sym job_past) (resumed q (past (play net given.before) s) given.event (told_it bytes right q is)).2;
  }

  pub done_take : (bytes : List ℕ) → bytes_with (looks_at net s) given.event ≡ bytes → (stage' : S) (want : Asked) → Resumes stands job.stage stage' job.seen bytes want →
      HasGoneOn stands net (take job.place journal) s job.place stage' want
  done_take bytes right stage' want resumed = subst (λ z. HasGoneOn stands net z s job.place stage' want) (sym (ap (λ n. take n journal) given.place_is ∙ take-length journal)) (done_stands bytes right stage' want resumed)

-- a result that is Ok with one fact is Ok with another
pub if_ok : {A E : Type 0} {P Q : A → Type 0} (r : Result A E) → ((w : A) → P w → Q w) → IfOk r P → IfOk r Q
if_ok (Ok w) f p = f w p
if_ok (Err e) f p = p
