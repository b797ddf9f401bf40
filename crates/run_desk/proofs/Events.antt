-- What one event does to counts and facts of a history, and to a want that it answers.
use Rattle.std.proofs.Common.{◌≡◌, ℕ, Bool, true, false, cond, ◌||◌, ◌==◌, List, [], ◌∷◌, ◌++◌, refl, sym, ◌∙◌, ap, Option, Some, None}
use Rattle.std.proofs.lemmas.Bool.{eqb-true}
use Rattle.std.proofs.Math.Bool.{or-false, or-true}
use Rattle.pipe_model.specs.Event.{Event, Want, answers, is_put, records_on, has_ended, has_seen}
use Rattle.pipe_model.specs.Event.Event.{Up, Saw, SawEnd, SawAllEnd, Took, Put, Refused, Primed, Opened, Joined, Severed, Ended}
use Rattle.pipe_model.specs.Event.Want.{Commit, Write}
use Rattle.pipe_model.specs.Licence.{offered}
use Rattle.commit_levels.specs.Licensed.{WantsNoLevel}
use Rattle.stage_steps.specs.Coroutine.{told, record_seen_on}
use Rattle.run_desk.specs.Turns.{ends, sees}

-- the event settles or withdraws an offer on the output
abbrev pub writes_on : ℕ → Event → Bool
writes_on o (Put o' rec) = o' == o
writes_on o (Refused o') = o' == o
writes_on o _ = false

-- the event is a look at a record of the input
abbrev pub looks_at : ℕ → Event → Bool
looks_at i (Saw i' rec) = i' == i
looks_at i _ = false

-- the event reaches a commit level
abbrev pub rises : Event → Bool
rises (Up level code) = true
rises _ = false

-- one that writes nothing on an output puts nothing there
pub no_put : (o : ℕ) (e : Event) → writes_on o e ≡ false → is_put o e ≡ false
no_put o (Put o' rec) off = off
no_put o _ off = refl

-- so the records there stay
pub no_record : (o : ℕ) (e : Event) (h : List Event) → writes_on o e ≡ false → records_on o (e ∷ h) ≡ records_on o h
no_record o (Put o' rec) h off = ap (λ b. cond b (records_on o h ++ rec ∷ []) (records_on o h)) off
no_record o _ h off = refl

-- one that doesn't look at an input leaves what was seen there last
pub last_stays : (i : ℕ) (e : Event) (h : List Event) → looks_at i e ≡ false → record_seen_on i (e ∷ h) ≡ record_seen_on i h
last_stays i (Saw i' rec) h off = ap (λ b. cond b (Some rec) (record_seen_on i h)) off
last_stays i _ h off = refl

-- a strand has ended where it had, or is told so now
pub ended_on : (e : Event) (h : List Event) → has_ended (e ∷ h) ≡ (has_ended h || ends (told e))
ended_on (Up level code) h = sym (or-false (has_ended h))
ended_on (Saw i rec) h = sym (or-false (has_ended h))
ended_on (SawEnd i) h = sym (or-false (has_ended h))
ended_on SawAllEnd h = sym (or-false (has_ended h))
ended_on (Took i) h = sym (or-false (has_ended h))
ended_on (Put o rec) h = sym (or-false (has_ended h))
ended_on (Refused o) h = sym (or-false (has_ended h))
ended_on (Primed b) h = sym (or-false (has_ended h))
ended_on (Opened k) h = sym (or-false (has_ended h))
ended_on (Joined k code) h = sym (or-false (has_ended h))
ended_on (Severed s) h = sym (or-false (has_ended h))
ended_on (Ended code) h = sym (or-true (has_ended h))

-- an event that isn't an end ends nothing
pub ended_stays : (e : Event) (h : List Event) → ends (told e) ≡ false → has_ended (e ∷ h) ≡ has_ended h
ended_stays e h off = ended_on e h ∙ ap (λ b. has_ended h || b) off ∙ or-false (has_ended h)

-- it has seen a record where it had, or is told of one now
pub seen_on : (e : Event) (h : List Event) → has_seen (e ∷ h) ≡ (has_seen h || sees (told e))
seen_on (Up level code) h = sym (or-false (has_seen h))
seen_on (Saw i rec) h = sym (or-true (has_seen h))
seen_on (SawEnd i) h = sym (or-false (has_seen h))
seen_on SawAllEnd h = sym (or-false (has_seen h))
seen_on (Took i) h = sym (or-false (has_seen h))
seen_on (Put o rec) h = sym (or-false (has_seen h))
seen_on (Refused o) h = sym (or-false (has_seen h))
seen_on (Primed b) h = sym (or-false (has_seen h))
seen_on (Opened k) h = sym (or-false (has_seen h))
seen_on (Joined k code) h = sym (or-false (has_seen h))
seen_on (Severed s) h = sym (or-false (has_seen h))
seen_on (Ended code) h = sym (or-false (has_seen h))

-- a want that is answered elsewhere than on an output offers nothing there
pub no_offer : (o : ℕ) (want : Option Want) (e : Event) → answers want e ≡ true → writes_on o e ≡ false → offered o want ≡ None
no_offer o (Some (Write o' rec)) (Put o'' rec') it off = ap (λ b. cond b (Some rec) None) (sym (ap (λ z. z == o) (eqb-true o'' o' it)) ∙ off)
no_offer o (Some (Write o' rec)) (Refused o'') it off = ap (λ b. cond b (Some rec) None) (sym (ap (λ z. z == o) (eqb-true o'' o' it)) ∙ off)
no_offer o (Some (Write o' rec)) _ it off = cc
no_offer o None e it off = refl
no_offer o (Some _) e it off = refl

-- a want that is answered otherwise than by a level wants none
pub no_level : (want : Option Want) (e : Event) → answers want e ≡ true → rises e ≡ false → WantsNoLevel want
no_level (Some (Commit l)) (Up a b) it off level = cc
no_level (Some (Commit l)) _ it off level = cc
no_level None e it off level = refl
no_level (Some _) e it off level = refl
