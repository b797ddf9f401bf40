-- Lists of actors and plays of journals, on which a sound core rests.
use Rattle.std.proofs.Common.{◌≡◌, ℕ, zero, suc, ◌+◌, ◌≤◌, ◌<◌, Bool, true, false, cond, ◌||◌, ◌==◌, List, [], ◌∷◌, length, refl, sym, ◌∙◌, ap, subst, arith, Option, Some, None, slice_get}
use Rattle.std.proofs.lemmas.Option.{slice_get_within}
use Rattle.std.proofs.Math.Bool.{or-false}
use Rattle.std.specs.Prelude.{take}
use Rattle.std.specs.Option.{option_map_or}
use Rattle.pipe_model.specs.declared.net.Net.{Net}
use Rattle.pipe_model.specs.declared.net.Strand.{Strand}
use Rattle.pipe_model.specs.declared.step.Entry.{Entry}
use Rattle.pipe_model.specs.declared.step.Want.{Want as Asked}
use Rattle.pipe_model.specs.declared.step.Want.TheVariants as To
use Rattle.pipe_model.specs.declared.step.Out.TheVariants.{Same, Fresh}
use Rattle.pipe_model.specs.Event.{Event, Want, has_seen_end}
use Rattle.pipe_model.specs.Event.Event.{Up, Saw, SawEnd, SawAllEnd, Took, Put, Refused, Primed, Opened, Joined, Severed, Ended}
use Rattle.pipe_model.specs.Event.Want.{Commit, Read, Any, Gate, Take, Write, Prime, Issue, Join, Sever, Done}
use Rattle.pipe_model.specs.Next.{IsOwn}
use Rattle.pipe_model.specs.State.{Who, State, past, with_some_event, strand_at}
use Rattle.pipe_model.specs.Licence.{Left, none_left, want_at, licence}
use Rattle.pipe_model.specs.Play.{step, play_from}
use Rattle.pipe_model.specs.WellFormed.{IsWellFormed}
use Rattle.stage_steps.specs.Coroutine.{told, bytes_with, meaning, last_seen}
use Rattle.run_desk.specs.Desk.{DeskState}
use Rattle.run_desk.specs.declared.seat.Ask.TheVariants as Now
use Rattle.run_desk.specs.Standing.{asked, DeskStands}
use Rattle.run_desk.proofs.Early.{wants_early}
use Rattle.run_desk.proofs.Sees.{ask_is}
use Rattle.core_machine.specs.declared.actor.Actor.{Actor}
use Rattle.run_desk.specs.Turns.{bare}
use Rattle.core_machine.specs.Actors.{is_end, looks_in}
use Rattle.pipe_model.specs.Table.{form}
use Rattle.core_machine.specs.Answered.{Shows}
use Rattle.core_machine.specs.Floor.{IsInUse}
use Rattle.core_machine.specs.Machine.{looks_at}
use Rattle.core_machine.specs.Woken.{AsksEarly, AreInside}

-- Lists

pub get_take : {A : Type 0} (xs : List A) (q : ℕ) → slice_get (take (suc q) xs) q ≡ slice_get xs q
get_take [] q = refl
get_take (x ∷ xs) zero = refl
get_take (x ∷ xs) (suc q) = get_take xs q

-- which strands look
pub looks_here : {S : Type 0} (actors : List (Actor S)) (s : ℕ) (a : Actor S) → slice_get actors s ≡ Some a → looks_in actors s ≡ a.looks
looks_here [] s a at = cc
looks_here (x ∷ xs) zero a at = let is : x ≡ a = cc in ap (λ z. z.looks) is
looks_here (x ∷ xs) (suc s) a at = looks_here xs s a at

pub looks_nowhere : {S : Type 0} (actors : List (Actor S)) (s : ℕ) → slice_get actors s ≡ None → looks_in actors s ≡ false
looks_nowhere [] s off = refl
looks_nowhere (x ∷ xs) zero off = cc
looks_nowhere (x ∷ xs) (suc s) off = looks_nowhere xs s off

-- a strand that looks is one of the net
pub who_looks : (net : Net) (s : Who) → looks_at net s ≡ true → s < length net.strands
who_looks net s looks = go (slice_get net.strands s) refl looks
  where
    go : (x : Option Strand) → slice_get net.strands s ≡ x → option_map_or (λ (p : Strand). (form p).looks) x false ≡ true → s < length net.strands
    go None at is = cc
    go (Some p) at is = slice_get_within net.strands s p at

-- and each strand has a seat
pub has_seat : (net : Net) (d : DeskState) (s : ℕ) → IsInUse net d → s < length net.strands → s < length d.seats
has_seat net d s used within = subst (λ n. s < n) (sym used.kept.laid.seat_count) within

-- an event that brings bytes, more of them than nothing, is a look
pub look_of : (b : Bool) (e : Event) (n room : ℕ) → n ≡ length (bytes_with b e) → room < n → (b ≡ true) × ((i : ℕ) × (rec : List ℕ) × (e ≡ Saw i rec) × (length rec ≡ n))
look_of true (Saw i rec) n room is more = (refl, (i, rec, refl, sym is))
look_of false (Saw i rec) n room is more = absurd (omega (arith, is, more))
look_of true (Up l c) n room is more = absurd (omega (arith, is, more))
look_of false (Up l c) n room is more = absurd (omega (arith, is, more))
look_of true (SawEnd i) n room is more = absurd (omega (arith, is, more))
look_of false (SawEnd i) n room is more = absurd (omega (arith, is, more))
look_of true SawAllEnd n room is more = absurd (omega (arith, is, more))
look_of false SawAllEnd n room is more = absurd (omega (arith, is, more))
look_of true (Took i) n room is more = absurd (omega (arith, is, more))
look_of false (Took i) n room is more = absurd (omega (arith, is, more))
look_of true (Put o r) n room is more = absurd (omega (arith, is, more))
look_of false (Put o r) n room is more = absurd (omega (arith, is, more))
look_of true (Refused o) n room is more = absurd (omega (arith, is, more))
look_of false (Refused o) n room is more = absurd (omega (arith, is, more))
look_of true (Primed p) n room is more = absurd (omega (arith, is, more))
look_of false (Primed p) n room is more = absurd (omega (arith, is, more))
look_of true (Opened k) n room is more = absurd (omega (arith, is, more))
look_of false (Opened k) n room is more = absurd (omega (arith, is, more))
look_of true (Joined k c) n room is more = absurd (omega (arith, is, more))
look_of false (Joined k c) n room is more = absurd (omega (arith, is, more))
look_of true (Severed s) n room is more = absurd (omega (arith, is, more))
look_of false (Severed s) n room is more = absurd (omega (arith, is, more))
look_of true (Ended c) n room is more = absurd (omega (arith, is, more))
look_of false (Ended c) n room is more = absurd (omega (arith, is, more))

-- Plays

-- a history is no longer than its journal
step_length : (net : Net) (st : State) (e : Entry) (s : Who) → length (past (step net st e) s) ≤ suc (length (past st s))
step_length net st e s = go (licence net st none_left e.strand e.stream)
  where
    longer : (f : Event) (b : Bool) → length (cond b (f ∷ past st s) (past st s)) ≤ suc (length (past st s))
    longer f true = omega arith
    longer f false = omega arith

    go : (x : Option Event) → length (past (with_some_event st e.strand x) s) ≤ suc (length (past st s))
    go None = omega arith
    go (Some f) = longer f (s == e.strand)

pub play_length : (net : Net) (st : State) (es : List Entry) (s : Who) → length (past (play_from net st es) s) ≤ length (past st s) + length es
play_length net st [] s = omega arith
play_length net st (e ∷ es) s = let a = step_length net st e s in let b = play_length net (step net st e) es s in omega (arith, a, b)

-- Ends

or_turn : (a b : Bool) → (a || b) ≡ (b || a)
or_turn true true = refl
or_turn true false = refl
or_turn false true = refl
or_turn false false = refl

pub end_seen : (e : Event) (h : List Event) (b : Bool) → b ≡ has_seen_end 0 h → (b || is_end (told e)) ≡ has_seen_end 0 (e ∷ h)
end_seen (SawEnd i) h b is = or_turn b (i == 0) ∙ ap (λ z. (i == 0) || z) is
end_seen (Up l c) h b is = or-false b ∙ is
end_seen (Saw i r) h b is = or-false b ∙ is
end_seen SawAllEnd h b is = or-false b ∙ is
end_seen (Took i) h b is = or-false b ∙ is
end_seen (Put o r) h b is = or-false b ∙ is
end_seen (Refused o) h b is = or-false b ∙ is
end_seen (Primed p) h b is = or-false b ∙ is
end_seen (Opened k) h b is = or-false b ∙ is
end_seen (Joined k c) h b is = or-false b ∙ is
end_seen (Severed s) h b is = or-false b ∙ is
end_seen (Ended c) h b is = or-false b ∙ is

-- a new record is shown as an empty one
pub shows_bare : (h : List Event) (w : Asked) (want : Want) → want ≡ meaning w (last_seen h) → Shows h (bare w) want
shows_bare h (To.Write o (Fresh rec)) want is = (refl, (rec, is))
shows_bare h (To.Write o (Same i)) want is = is
shows_bare h (To.Commit l) want is = is
shows_bare h (To.Read i) want is = is
shows_bare h To.Any want is = is
shows_bare h To.Gate want is = is
shows_bare h (To.Take i) want is = is
shows_bare h To.Primed want is = is
shows_bare h (To.Issue text) want is = is
shows_bare h (To.Join k) want is = is
shows_bare h (To.Cut i) want is = is
shows_bare h (To.Done c) want is = is

-- no strand of a desk that stands for a state asks for another level than the early ones
pub early_on : (net : Net) (st : State) → IsWellFormed net → ((t : Who) (q : Strand) → strand_at net st t ≡ Some q → IsOwn q (past st t)) → (texts : ℕ → List ℕ) (l : Left) (x : DeskState) → DeskStands net texts st l x → AsksEarly x
early_on net st formed own texts l x kept t level is = wants_early net st l own t level (commit_back (want_at net st l t) (sym (ask_is net texts st l x formed kept t) ∙ is))
  where
    commit_back : (w : Option Want) → asked w ≡ Now.Commit level → w ≡ Some (Commit level)
    commit_back (Some (Commit l)) e = let same : l ≡ level = cc in ap (λ z. Some (Commit z)) same
    commit_back None e = cc
    commit_back (Some (Read i)) e = cc
    commit_back (Some Any) e = cc
    commit_back (Some Gate) e = cc
    commit_back (Some (Take i)) e = cc
    commit_back (Some (Write o r)) e = cc
    commit_back (Some Prime) e = cc
    commit_back (Some (Issue text)) e = cc
    commit_back (Some (Join k)) e = cc
    commit_back (Some (Sever i)) e = cc
    commit_back (Some (Done c)) e = cc

-- the links join strands below their number
pub links_inside : (net : Net) (size : ℕ) → IsWellFormed net → size ≡ length net.strands → AreInside net.links size
links_inside net size formed is j link at =
    let joined = formed.joined j link at in
    let from = slice_get_within net.strands link.from _ joined.from_strand in
    let to = slice_get_within net.strands link.to _ joined.to_strand in
    (omega (arith, from, is), omega (arith, to, is))
