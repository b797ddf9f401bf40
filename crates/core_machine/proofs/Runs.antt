-- A run is made of its steps, each of an event that it makes.
use Rattle.std.proofs.Common.{◌≡◌, ◌≢◌, ◌≤◌, ◌<◌, ℕ, ◌+◌, Bool, false, true, not, List, [], ◌∷◌, ◌++◌, ◌⊎◌, inl, inr, length, length-append, refl, sym, ◌∙◌, ap, subst, arith, Some, None, Option, cond}
use Rattle.std.specs.Prelude.{Result, Ok, Err, IfOk, OnOk, OnErr}
use Rattle.pipe_model.specs.declared.step.Entry.{Entry}
use Rattle.pipe_model.specs.declared.step.Seen.{Seen}
use Rattle.pipe_model.specs.declared.step.Seen.TheVariants as Told
use Rattle.pipe_model.specs.Event.{Event}
use Rattle.pipe_model.specs.Licence.{Left, answer, licence, sight_of, want_after}
use Rattle.pipe_model.specs.State.{State, past, strand_at}
use Rattle.pipe_model.specs.declared.net.Net.{Net}
use Rattle.pipe_model.specs.declared.net.Strand.{Strand}
use Rattle.pipe_model.proofs.Lists.{length_more}
use Rattle.std.proofs.lemmas.Option.{slice_get_within}
use Rattle.core_machine.specs.declared.floor.Ahead.{Ahead}
use Rattle.core_machine.specs.declared.floor.Ahead.TheVariants as Known
use Rattle.core_machine.specs.declared.run.Which.{Which}
use Rattle.core_machine.specs.declared.run.Which.TheVariants.{All, OfRecords, Quiet}
use Rattle.core_machine.specs.Ahead.{event_ahead, IsAhead}
use Rattle.core_machine.specs.Answered.{LeastReady, LeastEvent, AreLeast, HasRun, AreOnRecords, HasRunOnRecords, IsEndOnRecords, HasMade, is_of_record}
use Rattle.core_machine.specs.Machine.{Machine, left_by, state_of}
use Rattle.core_machine.specs.Runs.{AreSteps, HasRunBy, IsEndBy, is_made, may_end}
use Rattle.core_machine.proofs.Steps.{append_none, append_twice, append_three}

-- the search for an event makes no entry, and comes before one that is not known ahead
abbrev pub searches : Ahead → ℕ
searches Known.Search = 1
searches _ = 0

pub searches_once : (ahead : Ahead) → searches ahead ≤ 1
searches_once Known.Search = omega arith
searches_once (Known.Saw s i) = omega arith
searches_once (Known.Took s i) = omega arith
searches_once (Known.Put s o at_once) = omega arith

-- what is of a record without sights is made by every run
pub makes_quiet : (which : Which) (seen : Seen) → is_of_record false seen ≡ true → is_made which seen ≡ true
makes_quiet All seen is = refl
makes_quiet Quiet seen is = is
makes_quiet OfRecords seen is = of_record seen is
  where
    of_record : (seen : Seen) → is_of_record false seen ≡ true → is_of_record true seen ≡ true
    of_record (Told.Took i) is = refl
    of_record (Told.Put o) is = refl
    of_record (Told.Saw i) is = refl
    of_record (Told.Up level code) is = cc
    of_record (Told.SawEnd i) is = cc
    of_record Told.SawAllEnd is = cc
    of_record (Told.Refused o) is = cc
    of_record (Told.Cut i) is = cc
    of_record (Told.Primed b) is = cc
    of_record (Told.Opened unit) is = cc
    of_record (Told.Joined unit code) is = cc
    of_record (Told.Ended code) is = cc

-- it begins where nothing was done
pub runs_begin : (made : Seen → Bool) (m : Machine) → HasRunBy made m m
runs_begin made m = record { more = []; steps = tt; after = ap (λ j. record m { journal = j }) (sym (append_none m.journal)) }

-- one more step
pub steps_more : (made : Seen → Bool) (m : Machine) (es : List Entry) (e : Entry) → AreSteps made m es →
    (seen : Seen) → LeastEvent (record m { journal = m.journal ++ es }) (Some (e.strand, e.stream, seen)) → made seen ≡ true → AreSteps made m (es ++ e ∷ [])
steps_more made m [] e steps seen next is = ((seen, subst (λ j. LeastEvent (record m { journal = j }) (Some (e.strand, e.stream, seen))) (append_none m.journal) next, is), tt)
steps_more made m (x ∷ es) e steps seen next is = (
  steps.0,
  steps_more made (record m { journal = m.journal ++ x ∷ [] }) es e steps.1 seen (subst (λ j. LeastEvent (record m { journal = j }) (Some (e.strand, e.stream, seen))) (sym (append_twice m.journal x es)) next) is,
)

-- how far a run has come: it may go on, within the limit, which is within the budget
abbrev pub IsUnderWay : (Seen → Bool) → Machine → ℕ → Machine → Type 0
IsUnderWay made m limit n = HasRunBy made m n × (n.is_broken ≡ false) × (length n.journal ≤ limit) × (limit ≤ n.budget)

-- it goes on by a step, where another may be made
pub runs_go : (made : Seen → Bool) (m n k : Machine) (s i limit : ℕ) (seen : Seen) → IsUnderWay made m limit n → length n.journal < limit → LeastEvent n (Some (s, i, seen)) →
    made seen ≡ true → k ≡ record n { journal = n.journal ++ (record { strand = s; stream = i }) ∷ [] } → IsUnderWay made m limit k
runs_go made m n k s i limit seen on few least is step =
    let run : HasRunBy made m n = on.0 in
    let e : Entry = record { strand = s; stream = i } in
    let next : LeastEvent (record m { journal = m.journal ++ run.more }) (Some (s, i, seen)) = subst (λ (z : Machine). LeastEvent z (Some (s, i, seen))) run.after least in
    let now : k ≡ record m { journal = m.journal ++ (run.more ++ e ∷ []) } =
    step ∙ ap (λ (z : Machine). record z { journal = z.journal ++ e ∷ [] }) run.after ∙ ap (λ j. record m { journal = j }) (append_three m.journal run.more (e ∷ [])) in
    let long : length k.journal ≡ length (n.journal ++ e ∷ []) = ap (λ (z : Machine). length z.journal) step in
    let budget : k.budget ≡ n.budget = ap (λ (z : Machine). z.budget) step in (
      record { more = run.more ++ e ∷ []; steps = steps_more made m run.more e run.steps seen next is; after = now },
      ap (λ (z : Machine). z.is_broken) step ∙ on.1,
      let a = length_more n.journal e in omega (arith, a, long, few),
      let a = on.3 in omega (arith, a, budget),
    )

-- it goes on by an event and maybe a second, by which the strand took a record, where both have room
pub runs_make : (made : Seen → Bool) (m n k : Machine) (s i limit : ℕ) (seen : Seen) → IsUnderWay made m limit n → length n.journal + 1 < limit → LeastEvent n (Some (s, i, seen)) →
    made seen ≡ true → ((j : ℕ) → made (Told.Took j) ≡ true) → HasMade n (record { strand = s; stream = i }) k → IsUnderWay made m limit k
runs_make made m n k s i limit seen on few least is takes (inl one) = runs_go made m n k s i limit seen on (omega (arith, few)) least is one
runs_make made m n k s i limit seen on few least is takes (inr two) =
    let e : Entry = record { strand = s; stream = i } in
    let first : Machine = record n { journal = n.journal ++ e ∷ [] } in
    let next = runs_go made m n first s i limit seen on (omega (arith, few)) least is refl in
    let more : length first.journal < limit = (let a = length_more n.journal e in omega (arith, a, few)) in
    runs_go made m first k s two.0 limit (Told.Took two.0) next more two.1 (takes two.0) two.2

-- two runs, one after the other, are one
pub steps_join : (made : Seen → Bool) (m : Machine) (es fs : List Entry) → AreSteps made m es → AreSteps made (record m { journal = m.journal ++ es }) fs → AreSteps made m (es ++ fs)
steps_join made m [] fs one two = subst (λ j. AreSteps made (record m { journal = j }) fs) (append_none m.journal) two
steps_join made m (e ∷ es) fs one two =
    (one.0, steps_join made (record m { journal = m.journal ++ e ∷ [] }) es fs one.1 (subst (λ j. AreSteps made (record m { journal = j }) fs) (sym (append_twice m.journal e es)) two))

pub runs_join : (made : Seen → Bool) (m n k : Machine) → HasRunBy made m n → HasRunBy made n k → HasRunBy made m k
runs_join made m n k one two = record {
  more = one.more ++ two.more;
  steps = steps_join made m one.more two.more one.steps (subst (λ (z : Machine). AreSteps made z two.more) one.after two.steps);
  after = two.after ∙ ap (λ (z : Machine). record z { journal = z.journal ++ two.more }) one.after ∙ ap (λ j. record m { journal = j }) (append_three m.journal one.more two.more);
}

-- it goes on by a run
pub runs_on : (made : Seen → Bool) (m n k : Machine) (limit : ℕ) → IsUnderWay made m limit n → HasRunBy made n k → length k.journal ≤ limit → IsUnderWay made m limit k
runs_on made m n k limit on run within =
    (runs_join made m n k on.0 run, ap (λ (z : Machine). z.is_broken) run.after ∙ on.1, within, subst (λ b. limit ≤ b) (sym (ap (λ (z : Machine). z.budget) run.after)) on.3)

-- a run that makes events of one kind is one that makes events of a wider kind
pub steps_wider : (made wider : Seen → Bool) → ((seen : Seen) → made seen ≡ true → wider seen ≡ true) → (m : Machine) (es : List Entry) → AreSteps made m es → AreSteps wider m es
steps_wider made wider more m [] steps = tt
steps_wider made wider more m (e ∷ es) steps = ((steps.0.0, steps.0.1, more steps.0.0 steps.0.2), steps_wider made wider more (record m { journal = m.journal ++ e ∷ [] }) es steps.1)

pub runs_wider : (made wider : Seen → Bool) → ((seen : Seen) → made seen ≡ true → wider seen ≡ true) → (m n : Machine) → HasRunBy made m n → HasRunBy wider m n
runs_wider made wider more m n run = record { more = run.more; steps = steps_wider made wider more m run.more run.steps; after = run.after }

-- the journal has no fewer entries after a run
pub run_longer : (made : Seen → Bool) (m n : Machine) → HasRunBy made m n → length m.journal ≤ length n.journal
run_longer made m n run =
    let long : length n.journal ≡ length m.journal + length run.more = ap (λ (z : Machine). length z.journal) run.after ∙ length-append m.journal run.more in
    omega (arith, long)

-- Runs of one thread

pub least_steps : (made : Seen → Bool) (m : Machine) (es : List Entry) → AreSteps made m es → AreLeast m es
least_steps made m [] steps = tt
least_steps made m (e ∷ es) steps = (steps.0.1.0, least_steps made (record m { journal = m.journal ++ e ∷ [] }) es steps.1)

-- a run by some events is a run
pub run_by_all : (made : Seen → Bool) (m n : Machine) → HasRunBy made m n → HasRun m n
run_by_all made m n run = record { more = run.more; least = least_steps made m run.more run.steps; after = run.after }

-- one that makes all events, and ends where one may be made, is at the limit
pub spent_where_ready : (limit : ℕ) (m : Machine) (r : ℕ × ℕ) → IsEndBy (may_end All) limit m → LeastReady m (Some r) → length m.journal ≡ limit
spent_where_ready limit m r (inl full) ready = full
spent_where_ready limit m r (inr (inl none)) ready = let a = none r.0 r.1 in let b = ready.0 in cc (a, b)
spent_where_ready limit m r (inr (inr other)) ready = let a = other.2 in cc a

-- Runs on records

pub record_steps : (made : Seen → Bool) (sights : Bool) → ((seen : Seen) → made seen ≡ true → is_of_record sights seen ≡ true) → (m : Machine) (es : List Entry) → AreSteps made m es → AreOnRecords sights m es
record_steps made sights is m [] steps = tt
record_steps made sights is m (e ∷ es) steps = (
  (steps.0.0, steps.0.1, is steps.0.0 steps.0.2),
  record_steps made sights is (record m { journal = m.journal ++ e ∷ [] }) es steps.1,
)

-- a run by such events is one on records
pub run_by_records : (made : Seen → Bool) (sights : Bool) → ((seen : Seen) → made seen ≡ true → is_of_record sights seen ≡ true) → (m n : Machine) (count : ℕ) → HasRunBy made m n →
    length m.journal + count ≡ length n.journal → HasRunOnRecords sights m count n
run_by_records made sights is m n count run counts =
    let long : length n.journal ≡ length m.journal + length run.more = ap (λ (z : Machine). length z.journal) run.after ∙ length-append m.journal run.more in
    record {
      more = run.more;
      steps = record_steps made sights is m run.more run.steps;
      after = run.after;
      made_is = omega (arith, long, counts);
    }

pub not_true : (b : Bool) → not b ≡ true → b ≡ false
not_true true is = let no : false ≡ true = is in cc no
not_true false is = refl

-- and ends as one
pub end_by_records : (ends : Seen → Bool) (limit most made : ℕ) (m : Machine) → ((seen : Seen) → ends seen ≡ true → is_of_record false seen ≡ false) →
    (length m.journal ≡ limit → (made ≡ most) ⊎ (length m.journal ≡ m.budget)) → IsEndBy ends limit m → IsEndOnRecords most made m
end_by_records ends limit most made m other at (inl full) = elim (at full) [ inl all ↦ inl all | inr spent ↦ inr (inl spent) ]
end_by_records ends limit most made m other at (inr (inl none)) = inr (inr (inl none))
end_by_records ends limit most made m other at (inr (inr is)) = inr (inr (inr (is.0, is.1, other is.0.2 is.2)))

-- What is known ahead

-- what was searched for is known ahead as the event that it is
pub ahead_known : (n k : Machine) (ahead : Ahead) (e : ℕ × ℕ × Seen) → k ≡ n → LeastEvent n (Some e) → ((r : ℕ × ℕ × Seen) → event_ahead ahead ≡ Some r → r ≡ e) → IsAhead k ahead
ahead_known n k ahead e same least known r at = subst (λ (z : Machine). LeastEvent z (Some r)) (sym same) (subst (λ z. LeastEvent n (Some z)) (sym (known r at)) least)

-- and the search is over then
pub search_over : (ahead : Ahead) → ahead ≢ Known.Search → searches ahead ≡ 0
search_over Known.Search other = absurd (other refl)
search_over (Known.Saw s i) other = refl
search_over (Known.Took s i) other = refl
search_over (Known.Put s o at_once) other = refl

-- what is known is the least event
pub least_ahead : (n : Machine) (ahead known : Ahead) (e : ℕ × ℕ × Seen) → IsAhead n ahead → ahead ≡ known → event_ahead known ≡ Some e → LeastEvent n (Some e)
least_ahead n ahead known e is same event = is e (ap event_ahead same ∙ event)

-- What is told of an answer

pub ok_so : {A E : Type 0} (P Q : Type 0) (r : Result A E) → (P → Q) → OnOk r P → OnOk r Q
ok_so P Q (Ok x) f p = f p
ok_so P Q (Err e) f p = tt

pub err_so : {A E : Type 0} (P Q : Type 0) (r : Result A E) → (P → Q) → OnErr r P → OnErr r Q
err_so P Q (Ok x) f p = tt
err_so P Q (Err e) f p = f p

pub ok_both : {A E : Type 0} (P Q R : Type 0) (r : Result A E) → (P → Q → R) → IfOk r (λ x. P) → OnOk r Q → OnOk r R
ok_both P Q R (Ok x) f p q = f p q
ok_both P Q R (Err e) f p q = tt

pub ok_once : {A E : Type 0} (P : A → Type 0) (Q : Type 0) (r : Result A E) → ((x : A) → P x → Q) → IfOk r P → OnOk r Q
ok_once P Q (Ok x) f p = f x p
ok_once P Q (Err e) f p = tt

pub ok_each : {A E : Type 0} (P Q : A → Type 0) (r : Result A E) → ((x : A) → P x → Q x) → IfOk r P → IfOk r Q
ok_each P Q (Ok x) f p = f x p
ok_each P Q (Err e) f p = tt

-- after a run an event is made, and maybe a second, by which its strand took a record
pub run_then : (made : Seen → Bool) (m n k : Machine) (s i limit : ℕ) (seen : Seen) → m.is_broken ≡ false → limit ≤ m.budget → HasRunBy made m n → length n.journal + 1 < limit →
    LeastEvent n (Some (s, i, seen)) → made seen ≡ true → ((j : ℕ) → made (Told.Took j) ≡ true) → HasMade n (record { strand = s; stream = i }) k → IsUnderWay made m limit k
run_then made m n k s i limit seen whole budget run few least is takes does =
    runs_make made m n k s i limit seen
    (run, ap (λ (z : Machine). z.is_broken) run.after ∙ whole, (omega (arith, few)), subst (λ b. limit ≤ b) (sym (ap (λ (z : Machine). z.budget) run.after)) budget) few least is takes does

-- a strand that may have an event is one of the net
pub licensed_inside : (net : Net) (st : State) (left : Left) (s k : ℕ) (e : Event) → licence net st left s k ≡ Some e → s < length net.strands
licensed_inside net st left s k e may = go (strand_at net st s) refl
  where
    nothing : (b : Bool) → cond b None (want_after None (past st s)) ≡ None
    nothing true = refl
    nothing false = refl

    go : (x : Option Strand) → strand_at net st s ≡ x → s < length net.strands
    go None is = let none : licence net st left s k ≡ None = ap (λ x. answer (sight_of net st left s) k (cond (left s) None (want_after x (past st s)))) is ∙ ap (answer (sight_of net st left s) k) (nothing (left s)) in cc
    go (Some p) is = slice_get_within net.strands s _ is

-- so is that of the least event
pub least_inside : (m : Machine) (s k : ℕ) (seen : Seen) → LeastEvent m (Some (s, k, seen)) → s < length m.net.strands
least_inside m s k seen least = licensed_inside m.net (state_of m) (left_by m.journal m.out) s k least.1.0 least.1.1
