-- What a strand wants that hasn't ended, in a complete dispatch: something that waits.
use Rattle.std.proofs.Common.{◌≡◌, ℕ, Bool, true, false, cond, ◌&&◌, ◌==◌, List, [], ◌∷◌, refl, sym, ◌∙◌, ap, subst, Some, None, pos, negsuc}
use Rattle.std.specs.Prelude.{option_map}
use Rattle.std.specs.Ordering.{int_eq}
use Rattle.pipe_model.specs.declared.net.Net.{Net}
use Rattle.pipe_model.specs.declared.net.Strand.{Strand}
use Rattle.pipe_model.specs.declared.step.Entry.{Entry}
use Rattle.pipe_model.specs.Event.{Event, Want, answers, has_ended}
use Rattle.pipe_model.specs.Event.Event.{Up, Took, Put, Refused, Ended, Severed}
use Rattle.pipe_model.specs.Event.Want.{Commit, Read, Any, Gate, Take, Write, Prime, Issue, Join, Sever, Done}
use Rattle.pipe_model.specs.Licence.{Sight, answer, licence, none_left, sight_of, want_after}
use Rattle.pipe_model.specs.Next.{IsOwn, Past, Phase, begins_plan, doing, first_phase, gives_up, hears, is_refused, next, refused_after, want_in}
use Rattle.pipe_model.specs.Next.Phase.{Starting, Doing, Lost}
use Rattle.pipe_model.specs.Play.{IsLegal, play}
use Rattle.pipe_model.specs.Row.{Row}
use Rattle.pipe_model.specs.Row.Act.{Writes, Repeats, Takes}
use Rattle.pipe_model.specs.Row.Goal.{Asks, Ends}
use Rattle.pipe_model.specs.State.{State, Who, nothing_yet, past, strand_at}
use Rattle.pipe_model.specs.Table.{form}
use Rattle.pipe_model.specs.WellFormed.{IsWellFormed}
use Rattle.pipe_model.proofs.Numbers.{test_same}
use Rattle.pipe_model.proofs.Pasts.{after, when_asked}
use Rattle.confluence_laws.proofs.Fitting.{past_of, stands_for, still_wants}
use Rattle.confluence_laws.proofs.Reached.{play_reached}
use Rattle.confluence_laws.proofs.Sound.{sound_line}
use Rattle.stall_report.specs.Waits.{waited, wait_line}
use Rattle.stall_report.specs.declared.lines.WaitLine.{WaitLine}
use Rattle.stall_report.specs.declared.lines.WaitWant.{WaitWant}
use Rattle.stall_report.specs.declared.lines.WaitWant.TheVariants as For

-- Nobody is lost

abbrev IsGoing : Phase → Type 0
IsGoing (Starting level) = Unit {0}
IsGoing (Doing acts goal) = Unit {0}
IsGoing Lost = ⊥

abbrev is_end : Event → Bool
is_end (Ended code) = true
is_end _ = false

-- whichever it is, it goes on
either_goes : (b : Bool) (f g : Phase) → IsGoing f → IsGoing g → IsGoing (cond b f g)
either_goes true f g one other = one
either_goes false f g one other = other

module _ (w : Row) (outputs : List Bool) where
  -- what answers a want leads on, but for an end
  going_step : (p : Past) (f : Phase) (e : Event) → answers (want_in f) e ≡ true → is_end e ≡ false → IsGoing (after w outputs p f e).phase
  going_step p (Starting (negsuc n)) (Up level code) it going = either_goes (int_eq code (pos 0)) (Starting (pos 0)) (Doing [] (Ends (pos 0))) tt tt
  going_step p (Starting (pos n)) (Up level code) it going = either_goes (int_eq code (pos 0)) (begins_plan outputs p.refused (w.plan p.known)) (Doing [] (Ends (pos 0))) tt tt
  going_step p (Starting _) _ it going = cc
  going_step p (Doing [] (Asks want)) e it going =
      let refused = refused_after p.refused e in
      subst (λ b. IsGoing (when_asked w outputs p e b).phase) (sym it)
      (either_goes (gives_up w outputs refused e) (Doing [] (Ends (pos 0))) (begins_plan outputs refused (w.plan (hears p.known e))) tt tt)
  going_step p (Doing [] (Ends code)) e it going = at_end e it going
    where
      at_end : (e : Event) → answers (Some (Done code)) e ≡ true → is_end e ≡ false → IsGoing (after w outputs p (Doing [] (Ends code)) e).phase
      at_end (Ended c) it going = cc
      at_end _ it going = cc
  going_step p (Doing (Writes o rec ∷ acts) goal) (Put o' rec') it going = tt
  going_step p (Doing (Writes o rec ∷ acts) goal) (Refused o') it going = either_goes (w.yields && is_refused outputs (o' ∷ p.refused)) (Doing [] (Ends (pos 0))) (doing outputs (o' ∷ p.refused) acts goal) tt tt
  going_step p (Doing (Writes o rec ∷ acts) goal) _ it going = cc
  going_step p (Doing (Repeats o rec ∷ acts) goal) (Put o' rec') it going = tt
  going_step p (Doing (Repeats o rec ∷ acts) goal) (Refused o') it going = either_goes (w.yields && is_refused outputs (o' ∷ p.refused)) (Doing [] (Ends (pos 0))) (doing outputs (o' ∷ p.refused) acts goal) tt tt
  going_step p (Doing (Repeats o rec ∷ acts) goal) _ it going = cc
  going_step p (Doing (Takes i ∷ acts) goal) (Took j) it going = tt
  going_step p (Doing (Takes i ∷ acts) goal) _ it going = cc
  going_step p Lost e it going = cc

no_end : (e : Event) (h : List Event) → has_ended (e ∷ h) ≡ false → is_end e ≡ false
no_end (Ended code) h going = cc
no_end _ h going = refl

-- a strand that hasn't ended isn't lost
own_going : (s : Strand) (h : List Event) → IsOwn s h → has_ended h ≡ false → IsGoing (past_of s h).phase
own_going s [] own going = elim (form s).row.early as (λ m. IsGoing (first_phase m)) [ None ↦ tt | Some code ↦ tt ]
own_going s (e ∷ h) own going = going_step (form s).row s.ports.has_output (past_of s h) (past_of s h).phase e (still_wants s h e own.0) (no_end e h going)

-- and so it wants something
wants_some : (s : Strand) (h : List Event) → IsOwn s h → has_ended h ≡ false → (want : Want) × (next s h ≡ Some want)
wants_some s h own going = let x = in_phase (past_of s h).phase (own_going s h own going) in (x.0, ap (λ b. cond b None (want_in (past_of s h).phase)) going ∙ x.1)
  where
    in_phase : (f : Phase) → IsGoing f → (want : Want) × (want_in f ≡ Some want)
    in_phase (Starting level) going = (Commit level, refl)
    in_phase (Doing [] (Asks want)) going = (want, refl)
    in_phase (Doing [] (Ends code)) going = (Done code, refl)
    in_phase (Doing (Writes o rec ∷ acts) goal) going = (Write o rec, refl)
    in_phase (Doing (Repeats o rec ∷ acts) goal) going = (Write o rec, refl)
    in_phase (Doing (Takes i ∷ acts) goal) going = (Take i, refl)
    in_phase Lost going = absurd going

-- Nobody issues

never_issues : (s : Strand) (h : List Event) → IsOwn s h → (text : List ℕ) → next s h ≡ Some (Issue text) → ⊥
never_issues s h own text want = (sound_line s).issues refl (past_of s h).known (Issue text) (stands_for s h own (Issue text) want).asked

-- What can't go on waits

-- what is allowed on its own stream goes on
goes : (k : ℕ) (e : Event) → cond (k == k) (Some e) None ≡ None → ⊥
goes k e none = let some : cond (k == k) (Some e) None ≡ Some e = ap (λ b. cond b (Some e) None) (test_same k) in cc

waits_if : (v : Sight) (want : Want) → ((k : ℕ) → answer v k (Some want) ≡ None) → ((text : List ℕ) → want ≡ Issue text → ⊥) → (wait : WaitWant) × (waited want ≡ Some wait)
waits_if v (Commit level) none plain = (For.Commit level, refl)
waits_if v (Read i) none plain = (For.Read i, refl)
waits_if v Any none plain = (For.Any, refl)
waits_if v Gate none plain = (For.Gate, refl)
waits_if v (Write o rec) none plain = (For.Write o, refl)
waits_if v Prime none plain = (For.Primed, refl)
waits_if v (Join k) none plain = (For.Join k, refl)
waits_if v (Take i) none plain = absurd (goes i (Took i) (none i))
waits_if v (Issue text) none plain = absurd (plain text refl)
waits_if v (Sever s) none plain = absurd (goes s (Severed s) (none s))
waits_if v (Done code) none plain = absurd (goes 0 (Ended code) (none 0))

-- the strand has a wait line
abbrev pub IsWaiting : State → Who → Strand → Type 0
IsWaiting st s p = (line : WaitLine) × (wait_line (s, next p (past st s)) ≡ Some line)

module _ (net : Net) (formed : IsWellFormed net) (es : List Entry) (legal : IsLegal net es) (none : (s k : ℕ) → licence net (play net es) none_left s k ≡ None) where
  -- every strand that hasn't ended has one
  pub waits_for : (s : Who) (p : Strand) → strand_at net nothing_yet s ≡ Some p → has_ended (past (play net es) s) ≡ false → IsWaiting (play net es) s p
  waits_for s p at going =
      let h = past (play net es) s in
      let own : IsOwn p h = (play_reached net formed es legal).own s p at in
      let want = wants_some p h own going in
      let stuck : (k : ℕ) → answer (sight_of net (play net es) none_left s) k (Some want.0) ≡ None =
      subst (λ o. (k : ℕ) → answer (sight_of net (play net es) none_left s) k o ≡ None) (ap (λ x. want_after x h) at ∙ want.1) (none s) in
      let wait = waits_if (sight_of net (play net es) none_left s) want.0 stuck (λ text is. never_issues p h own text (want.1 ∙ ap Some is)) in (
        record { strand = s; want = wait.0 },
        ap (λ o. wait_line (s, o)) want.1 ∙ ap (option_map (λ (w : WaitWant). record { strand = s; want = w })) wait.1,
      )
