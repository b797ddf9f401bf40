-- The wait lines of a reply are those of the strands that haven't ended, each of which wants something.
use Rattle.std.proofs.Common.{◌≡◌, ◌≢◌, ℕ, zero, suc, ◌+◌, ◌<◌, Bool, true, false, cond, not, ◌&&◌, List, [], ◌∷◌, length, map, refl, sym, ◌∙◌, ap, subst, arith, add-one, Option, Some, None, is_some, slice_get, ℤ, pos, negsuc}
use Rattle.std.specs.Prelude.{IsSome, filter}
use Rattle.std.specs.Ordering.{int_eq}
use Rattle.std.specs.List.{range_with_len, All, AllByRecursion}
use Rattle.std.proofs.lemmas.List.Elements.{All-from_recursion}
use Rattle.std.proofs.lemmas.Option.{slice_get_within}
use Rattle.pipe_model.specs.declared.net.Net.{Net}
use Rattle.pipe_model.specs.declared.net.Strand.{Strand}
use Rattle.pipe_model.specs.declared.step.Entry.{Entry}
use Rattle.pipe_model.specs.Event.{Event, Want, has_ended, answers}
use Rattle.pipe_model.specs.Event.Event.{Up, Took, Put, Refused, Ended}
use Rattle.pipe_model.specs.Licence.{want_after}
use Rattle.pipe_model.specs.Next.{Phase, next, want_in, first_phase, phase_after, after_level, after_answer, after_refusal, begins_plan, doing, gives_up, is_refused, IsOwn}
use Rattle.pipe_model.specs.Next.Phase.{Starting, Doing, Lost}
use Rattle.pipe_model.specs.Play.{play, IsLegal, HasEnded}
use Rattle.pipe_model.specs.Reply.{WaitLine, reply, replied, waits_from}
use Rattle.pipe_model.specs.Row.{Act, Goal, Known, Row}
use Rattle.pipe_model.specs.Row.Act.{Writes, Repeats, Takes}
use Rattle.pipe_model.specs.Row.Goal.{Asks, Ends}
use Rattle.pipe_model.specs.State.{State, Who, past, strand_at}
use Rattle.pipe_model.specs.Table.{form}
use Rattle.pipe_model.specs.WellFormed.{IsWellFormed}
use Rattle.pipe_model.proofs.Lists.{at_some}
use Rattle.confluence_laws.specs.Waits.{waiters}
use Rattle.confluence_laws.proofs.Asked.{wants_in}
use Rattle.confluence_laws.proofs.Basics.{the_event}
use Rattle.confluence_laws.proofs.Fitting.{past_of, still_wants}
use Rattle.confluence_laws.proofs.Reached.{play_reached}

-- A strand that goes on wants something

-- in this phase it wants something
abbrev IsAsking : Phase → Type 0
IsAsking (Starting level) = Unit {0}
IsAsking (Doing acts goal) = Unit {0}
IsAsking Lost = ⊥

wanting : (f : Phase) → IsAsking f → (w : Want) × (want_in f ≡ Some w)
wanting (Starting level) is = (_, refl)
wanting (Doing [] (Asks want)) is = (_, refl)
wanting (Doing [] (Ends code)) is = (_, refl)
wanting (Doing (Writes o rec ∷ acts) goal) is = (_, refl)
wanting (Doing (Repeats o rec ∷ acts) goal) is = (_, refl)
wanting (Doing (Takes i ∷ acts) goal) is = (_, refl)
wanting Lost is = absurd is

either : (b : Bool) (f g : Phase) → IsAsking f → IsAsking g → IsAsking (cond b f g)
either true f g in_f in_g = in_f
either false f g in_f in_g = in_g

module _ (w : Row) (outputs : List Bool) (k : Known) (refused : List ℕ) (h : List Event) where
  at_level : (level code : ℤ) → IsAsking (after_level w outputs k refused level code)
  at_level (pos n) code = either (int_eq code (pos 0)) (begins_plan outputs refused (w.plan k)) (Doing [] (Ends (pos 0))) tt tt
  at_level (negsuc n) code = either (int_eq code (pos 0)) (Starting (pos 0)) (Doing [] (Ends (pos 0))) tt tt

  at_refusal : (acts : List Act) (goal : Goal) → IsAsking (after_refusal w outputs refused acts goal)
  at_refusal acts goal = either (w.yields && is_refused outputs refused) (Doing [] (Ends (pos 0))) (doing outputs refused acts goal) tt tt

  -- after what it wanted, and not its end, it wants something again
  goes_on : (f : Phase) (e : Event) → answers (want_in f) e ≡ true → has_ended (e ∷ h) ≡ false → IsAsking (phase_after w outputs k refused f e)
  goes_on (Starting level') (Up level code) it going = at_level level' code
  goes_on (Starting level') _ it going = cc
  goes_on (Doing [] (Asks want)) e it going =
      subst (λ b. IsAsking (cond b (after_answer w outputs k refused e) Lost)) (sym it) (either (gives_up w outputs refused e) (Doing [] (Ends (pos 0))) (begins_plan outputs refused (w.plan k)) tt tt)
  goes_on (Doing [] (Ends code)) (Ended code') it going = cc
  goes_on (Doing [] (Ends code)) _ it going = cc
  goes_on (Doing (Writes o rec ∷ acts) goal) (Put o' rec') it going = tt
  goes_on (Doing (Writes o rec ∷ acts) goal) (Refused o') it going = at_refusal acts goal
  goes_on (Doing (Writes o rec ∷ acts) goal) _ it going = cc
  goes_on (Doing (Repeats o rec ∷ acts) goal) (Put o' rec') it going = tt
  goes_on (Doing (Repeats o rec ∷ acts) goal) (Refused o') it going = at_refusal acts goal
  goes_on (Doing (Repeats o rec ∷ acts) goal) _ it going = cc
  goes_on (Doing (Takes i ∷ acts) goal) (Took j) it going = tt
  goes_on (Doing (Takes i ∷ acts) goal) _ it going = cc
  goes_on Lost e it going = cc

is_asking : (s : Strand) (h : List Event) → IsOwn s h → has_ended h ≡ false → IsAsking (past_of s h).phase
is_asking s [] own going = elim (form s).row.early as (λ m. IsAsking (first_phase m)) [ None ↦ tt | Some code ↦ tt ]
is_asking s (e ∷ h) own going = goes_on (form s).row s.ports.has_output _ _ h (past_of s h).phase e (still_wants s h e own.0) going

pub wants_on : (s : Strand) (h : List Event) → IsOwn s h → has_ended h ≡ false → (w : Want) × (next s h ≡ Some w)
wants_on s h own going =
    let w = wanting (past_of s h).phase (is_asking s h own going) in
    (w.0, wants_in s h (past_of s h) going refl ∙ w.1)

-- The lines from a strand on

module _ (st : State) where
  -- a number counted from the next one on
  next_on : (s j : ℕ) → suc s + j ≡ s + suc j
  next_on s j = omega arith

  first_on : (s : ℕ) → s + 0 ≡ s
  first_on s = omega arith

  module _ (at : Who → Option Strand) where
    -- whether a strand waits, and its line
    abbrev waits : Who → Bool
    waits t = not (has_ended (past st t))

    abbrev line : Who → WaitLine
    line t = (t, want_after (at t) (past st t))

    lines_from : (s : Who) (ps : List Strand) → ((j : ℕ) (p : Strand) → slice_get ps j ≡ Some p → at (s + j) ≡ Some p) →
        waits_from st s ps ≡ map line (filter waits (range_with_len s (length ps)))
    lines_from s [] there = refl
    lines_from s (p ∷ ps) there = by (has_ended (past st s)) (lines_from (suc s) ps (λ j q got. ap at (next_on s j) ∙ there (suc j) q got))
      where
        others : List WaitLine
        others = waits_from st (suc s) ps

        behind : List Who
        behind = filter waits (range_with_len (s + 1) (length ps))

        here : at s ≡ Some p
        here = ap at (sym (first_on s)) ∙ there 0 p refl

        same : others ≡ map line (filter waits (range_with_len (suc s) (length ps))) → others ≡ map line behind
        same rest = rest ∙ ap (λ n. map line (filter waits (range_with_len n (length ps)))) (sym (add-one s))

        by : (b : Bool) → others ≡ map line (filter waits (range_with_len (suc s) (length ps))) → cond b others ((s, next p (past st s)) ∷ others) ≡ map line (cond (not b) (s ∷ behind) behind)
        by true rest = same rest
        by false rest = ap (λ w. (s, w) ∷ others) (sym (ap (λ x. want_after x (past st s)) here)) ∙ ap (λ ls. line s ∷ ls) (same rest)

  -- no strand waits where all have ended
  pub none_wait : (s : Who) (ps : List Strand) → ((j : ℕ) → j < length ps → has_ended (past st (s + j)) ≡ true) → waits_from st s ps ≡ []
  none_wait s [] ended = refl
  none_wait s (p ∷ ps) ended =
      let here : has_ended (past st s) ≡ true = subst (λ z. has_ended (past st z) ≡ true) (first_on s) (ended 0 (omega arith)) in
      rw here (none_wait (suc s) ps (λ j lt. subst (λ z. has_ended (past st z) ≡ true) (sym (next_on s j)) (ended (suc j) (omega (arith, lt)))))

  -- and all have ended where none waits
  all_ended : (s : Who) (ps : List Strand) → waits_from st s ps ≡ [] → (j : ℕ) → j < length ps → has_ended (past st (s + j)) ≡ true
  all_ended s [] none j lt = absurd (omega (arith, lt))
  all_ended s (p ∷ ps) none j lt = by (has_ended (past st s)) refl none (λ over. all_ended (suc s) ps over)
    where
      Others : Type 0
      Others = (i : ℕ) → i < length ps → has_ended (past st (suc s + i)) ≡ true

      reach : (j : ℕ) → j < suc (length ps) → has_ended (past st s) ≡ true → Others → has_ended (past st (s + j)) ≡ true
      reach zero lt here others = subst (λ z. has_ended (past st z) ≡ true) (sym (first_on s)) here
      reach (suc i) lt here others = subst (λ z. has_ended (past st z) ≡ true) (next_on s i) (others i (omega (arith, lt)))

      by : (b : Bool) → has_ended (past st s) ≡ b → cond b (waits_from st (suc s) ps) ((s, next p (past st s)) ∷ waits_from st (suc s) ps) ≡ [] → (waits_from st (suc s) ps ≡ [] → Others) → has_ended (past st (s + j)) ≡ true
      by true is over others = reach j lt is (others over)
      by false is over others = cc

  -- who waits wants something
  all_want : (s : Who) (ps : List Strand) → ((j : ℕ) (p : Strand) → slice_get ps j ≡ Some p → IsOwn p (past st (s + j))) → AllByRecursion (λ (l : WaitLine). IsSome l.1) (waits_from st s ps)
  all_want s [] own = tt
  all_want s (p ∷ ps) own = by (has_ended (past st s)) refl (all_want (suc s) ps (λ j q got. subst (λ z. IsOwn q (past st z)) (sym (next_on s j)) (own (suc j) q got)))
    where
      WantAll : List WaitLine → Type 0
      WantAll = AllByRecursion (λ (l : WaitLine). IsSome l.1)

      by : (b : Bool) → has_ended (past st s) ≡ b → WantAll (waits_from st (suc s) ps) → WantAll (cond b (waits_from st (suc s) ps) ((s, next p (past st s)) ∷ waits_from st (suc s) ps))
      by true is others = others
      by false is others =
          let w = wants_on p (past st s) (subst (λ z. IsOwn p (past st z)) (first_on s) (own 0 p refl)) is in
          (ap is_some w.1, others)

-- The reply

replied_waits : (st : State) (ps : List Strand) (lines : List WaitLine) → (replied st ps lines).waits ≡ lines
replied_waits st ps [] = refl
replied_waits st ps (l ∷ lines) = refl

stalled_code : (st : State) (ps : List Strand) (lines : List WaitLine) → lines ≢ [] → (replied st ps lines).code ≡ negsuc 4094
stalled_code st ps [] some = absurd (some refl)
stalled_code st ps (l ∷ lines) some = refl

none_or_some : (lines : List WaitLine) → (lines ≢ [] → ⊥) → lines ≡ []
none_or_some [] never = refl
none_or_some (l ∷ lines) never = absurd (never (λ none. cc))

module _ (net : Net) (st : State) where
  abbrev told : List WaitLine
  told = waits_from st 0 net.strands

  waits_are : (reply net st).waits ≡ told
  waits_are = replied_waits st net.strands told

  -- the lines are those of the strands that wait
  pub lines_are : (reply net st).waits ≡ waiters net st
  lines_are = waits_are ∙ lines_from st (strand_at net st) 0 net.strands (λ j p got. ap (slice_get net.strands) (let e : 0 + j ≡ j = omega arith in e) ∙ got)

  -- all have ended exactly where there is none
  pub ended_none : HasEnded net st → (reply net st).waits ≡ []
  ended_none ended = waits_are ∙ none_wait st 0 net.strands (λ j lt.
      let p = at_some net.strands j lt in
      subst (λ z. has_ended (past st z) ≡ true) (let e : j ≡ 0 + j = omega arith in e) (ended j (ap is_some p.1)))

  pub none_ended : (reply net st).waits ≡ [] → HasEnded net st
  none_ended none s there =
      let p = the_event (strand_at net st s) there in
      subst (λ z. has_ended (past st z) ≡ true) (let e : 0 + s ≡ s = omega arith in e) (all_ended st 0 net.strands (sym waits_are ∙ none) s (slice_get_within net.strands s p.0 p.1))

  pub code_is : (reply net st).waits ≢ [] → (reply net st).code ≡ negsuc 4094
  code_is some = stalled_code st net.strands told (λ none. some (waits_are ∙ none))

  pub unended_some : ¬ HasEnded net st → (reply net st).waits ≢ []
  unended_some unended none = unended (none_ended none)

  pub some_unended : (reply net st).waits ≢ [] → ¬ HasEnded net st
  some_unended some ended = some (ended_none ended)

  pub none_where : ¬ ¬ HasEnded net st → (reply net st).waits ≡ []
  none_where over = none_or_some (reply net st).waits (λ some. over (some_unended some))

-- each strand that waits in a legal dispatch wants something
pub waits_want : (net : Net) → IsWellFormed net → (es : List Entry) → IsLegal net es → All (λ (l : WaitLine). IsSome l.1) (reply net (play net es)).waits
waits_want net formed es legal =
    let own = (play_reached net formed es legal).own in
    subst (All (λ (l : WaitLine). IsSome l.1)) (sym (waits_are net (play net es)))
    (All-from_recursion (λ (l : WaitLine). IsSome l.1) (waits_from (play net es) 0 net.strands)
    (all_want (play net es) 0 net.strands (λ j p got. subst (λ z. IsOwn p (past (play net es) z)) (let e : j ≡ 0 + j = omega arith in e) (own j p got))))
