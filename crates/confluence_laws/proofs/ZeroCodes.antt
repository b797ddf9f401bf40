-- Where each strand's plans end with code 0, if they do, each strand that has ended did so with code 0.
use Rattle.std.proofs.Common.{◌≡◌, ℕ, suc, Bool, true, false, cond, ◌&&◌, ◌+◌, List, [], ◌∷◌, refl, sym, ◌∙◌, ap, subst, arith, Option, Some, None, slice_get, ℤ, pos, negsuc}
use Rattle.std.specs.Ordering.{int_eq}
use Rattle.pipe_model.specs.declared.net.Net.{Net}
use Rattle.pipe_model.specs.declared.net.Strand.{Strand}
use Rattle.pipe_model.specs.declared.step.Entry.{Entry}
use Rattle.pipe_model.specs.Code.{worst_of}
use Rattle.pipe_model.specs.Event.{Event, answers, code_of}
use Rattle.pipe_model.specs.Event.Event.{Ended, Put, Refused, Took, Up}
use Rattle.pipe_model.specs.Event.Want.{Done}
use Rattle.pipe_model.specs.Next.{IsOwn, Phase, after_answer, after_level, after_refusal, begins_plan, doing, first_phase, gives_up, is_refused, next, phase_after}
use Rattle.pipe_model.specs.Next.Phase.{Doing, Lost, Starting}
use Rattle.pipe_model.specs.Play.{HasEnded, IsLegal, play}
use Rattle.pipe_model.specs.Reply.{WaitLine, code_from, replied, reply, waits_from}
use Rattle.pipe_model.specs.Row.{Act, Goal, Known, Row}
use Rattle.pipe_model.specs.Row.Act.{Repeats, Takes, Writes}
use Rattle.pipe_model.specs.Row.Goal.{Asks, Ends}
use Rattle.pipe_model.specs.State.{State, Who, nothing_yet, past, strand_at}
use Rattle.pipe_model.specs.Table.{form}
use Rattle.pipe_model.specs.WellFormed.{IsWellFormed}
use Rattle.confluence_laws.proofs.Basics.{done_asked}
use Rattle.confluence_laws.proofs.Fitting.{past_of, stands_for}
use Rattle.confluence_laws.proofs.Reached.{play_reached}
use Rattle.confluence_laws.proofs.WaitLines.{ended_none}

-- if this is the end, the code is 0
abbrev pub IsZeroGoal : Goal → Type 0
IsZeroGoal (Asks want) = Unit {0}
IsZeroGoal (Ends code) = code ≡ pos 0

abbrev IsZeroPhase : Phase → Type 0
IsZeroPhase (Starting level) = Unit {0}
IsZeroPhase (Doing acts goal) = IsZeroGoal goal
IsZeroPhase Lost = Unit {0}

-- no plan of the row ends with another code, and it doesn't end before its first commit
pub record EndsWithZero (w : Row) : Type 0 where
  pub late : w.early ≡ None
  pub plans : (k : Known) → IsZeroGoal (w.plan k).goal

either : (b : Bool) (f g : Phase) → IsZeroPhase f → IsZeroPhase g → IsZeroPhase (cond b f g)
either true f g x y = x
either false f g x y = y

module _ (w : Row) (zero_row : EndsWithZero w) (outputs : List Bool) (k : Known) (refused : List ℕ) where
  at_level : (level code : ℤ) → IsZeroPhase (after_level w outputs k refused level code)
  at_level (pos n) code = either (int_eq code (pos 0)) (begins_plan outputs refused (w.plan k)) (Doing [] (Ends (pos 0))) (zero_row.plans k) refl
  at_level (negsuc n) code = either (int_eq code (pos 0)) (Starting (pos 0)) (Doing [] (Ends (pos 0))) tt refl

  at_refusal : (acts : List Act) (goal : Goal) → IsZeroGoal goal → IsZeroPhase (after_refusal w outputs refused acts goal)
  at_refusal acts goal is = either (w.yields && is_refused outputs refused) (Doing [] (Ends (pos 0))) (doing outputs refused acts goal) refl is

  at_answer : (e : Event) → IsZeroPhase (after_answer w outputs k refused e)
  at_answer e = either (gives_up w outputs refused e) (Doing [] (Ends (pos 0))) (begins_plan outputs refused (w.plan k)) refl (zero_row.plans k)

  -- an event leaves the strand where its end, if it comes, is with code 0
  zero_after : (f : Phase) (e : Event) → IsZeroPhase f → IsZeroPhase (phase_after w outputs k refused f e)
  zero_after (Starting level') (Up level code) is = at_level level' code
  zero_after (Starting level') _ is = tt
  zero_after (Doing [] (Asks want)) e is = either (answers (Some want) e) (after_answer w outputs k refused e) Lost (at_answer e) tt
  zero_after (Doing [] (Ends code)) e is = tt
  zero_after (Doing (Writes o rec ∷ acts) goal) (Put o' rec') is = is
  zero_after (Doing (Writes o rec ∷ acts) goal) (Refused o') is = at_refusal acts goal is
  zero_after (Doing (Writes o rec ∷ acts) goal) _ is = tt
  zero_after (Doing (Repeats o rec ∷ acts) goal) (Put o' rec') is = is
  zero_after (Doing (Repeats o rec ∷ acts) goal) (Refused o') is = at_refusal acts goal is
  zero_after (Doing (Repeats o rec ∷ acts) goal) _ is = tt
  zero_after (Doing (Takes i ∷ acts) goal) (Took j) is = is
  zero_after (Doing (Takes i ∷ acts) goal) _ is = tt
  zero_after Lost e is = tt

module _ (p : Strand) (zero_row : EndsWithZero (form p).row) where
  zero_phase : (h : List Event) → IsZeroPhase (past_of p h).phase
  zero_phase [] = subst (λ (m : Option ℤ). IsZeroPhase (first_phase m)) (sym zero_row.late) tt
  zero_phase (e ∷ h) = zero_after (form p).row zero_row p.ports.has_output _ _ (past_of p h).phase e (zero_phase h)

  -- so it ends with code 0
  pub zero_code : (h : List Event) → IsOwn p h → code_of h ≡ pos 0
  zero_code [] own = refl
  zero_code (Ended code ∷ h) own =
      let at : (past_of p h).phase ≡ Doing [] (Ends code) = stands_for p h own.1 (Done code) (done_asked (next p h) code own.0) in
      subst IsZeroPhase at (zero_phase h)
  zero_code (_ ∷ h) own = zero_code h own.1

-- The code of a reply

module _ (st : State) where
  all_zero : (s : Who) (ps : List Strand) → ((j : ℕ) (p : Strand) → slice_get ps j ≡ Some p → code_of (past st (s + j)) ≡ pos 0) → code_from st s ps ≡ pos 0
  all_zero s [] each = refl
  all_zero s (p ∷ ps) each =
      let first : code_of (past st s) ≡ pos 0 = subst (λ z. code_of (past st z) ≡ pos 0) (let e : s + 0 ≡ s = omega arith in e) (each 0 p refl) in
      let rest = all_zero (suc s) ps (λ j q at. subst (λ z. code_of (past st z) ≡ pos 0) (let e : s + suc j ≡ suc s + j = omega arith in e) (each (suc j) q at)) in
      ap (λ c. worst_of c (code_from st (suc s) ps)) first ∙ ap (worst_of (pos 0)) rest

  unwaited : (ps : List Strand) (lines : List WaitLine) → (replied st ps lines).waits ≡ [] → (replied st ps lines).code ≡ code_from st 0 ps
  unwaited ps [] is = refl
  unwaited ps (line ∷ lines) is = cc

-- the reply's code is 0 where all have ended
pub zero_reply : (net : Net) → IsWellFormed net → ((s : Who) (p : Strand) → strand_at net nothing_yet s ≡ Some p → EndsWithZero (form p).row) → (es : List Entry) → IsLegal net es → HasEnded net (play net es) →
    (reply net (play net es)).code ≡ pos 0
zero_reply net formed zero_rows es legal ended =
    let st = play net es in
    let own = (play_reached net formed es legal).own in
    unwaited st net.strands (waits_from st 0 net.strands) (ended_none net st ended)
    ∙ all_zero st 0 net.strands (λ j p at. subst (λ z. code_of (past st z) ≡ pos 0) (let e : j ≡ 0 + j = omega arith in e) (zero_code p (zero_rows j p at) (past st j) (own j p at)))
