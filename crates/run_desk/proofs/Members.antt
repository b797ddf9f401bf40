-- The members of a desk's unit after a turn are the strands still.
use Rattle.std.proofs.Common.{◌≡◌, ◌≢◌, inl, inr, ℕ, ℤ, false, cond, List, ◌∷◌, length, refl, sym, ◌∙◌, ap, subst, Option, Some, None, slice_get, slice_set, length-set}
use Rattle.std.specs.Option.{option_map_or}
use Rattle.pipe_model.specs.declared.net.Net.{Net}
use Rattle.pipe_model.specs.Event.{Event, Want, answers, has_ended, code_of}
use Rattle.pipe_model.specs.Event as event
use Rattle.pipe_model.specs.Event.Event.{Up, Saw, SawEnd, SawAllEnd, Took, Put, Refused, Primed, Opened, Joined, Severed, Ended}
use Rattle.pipe_model.specs.Event.Want.{Commit}
use Rattle.pipe_model.specs.State.{Who, State, past, with_event}
use Rattle.pipe_model.specs.Licence.{Left, want_at, licence}
use Rattle.pipe_model.proofs.Numbers.{equal_or_not}
use Rattle.pipe_model.proofs.Lists.{get_set_same, get_set_other}
use Rattle.confluence_laws.proofs.Basics.{at_same, at_other}
use Rattle.stage_steps.specs.Coroutine.{told}
use Rattle.commit_levels.specs.declared.member.Progress.TheVariants.{NotAsked, Asked, Reached}
use Rattle.commit_levels.specs.UnitState.{Member, IsLevel, place_of}
use Rattle.commit_levels.specs.UnitState as units
use Rattle.commit_levels.specs.Licensed.{IsStrand, WantsNoLevel}
use Rattle.commit_levels.proofs.Agreement.{reaches_as, ends_as}
use Rattle.run_desk.specs.Desk.{DeskState}
use Rattle.run_desk.specs.Standing.{DeskStands, left_out}
use Rattle.run_desk.specs.Turns.{rest_after_turn}
use Rattle.run_desk.proofs.Events.{rises, no_level}
use Rattle.run_desk.proofs.Acts.{answered, want_here, want_other, up_wanted}

-- One member of a unit changed

-- as many members as before
pub unit_length : (unit : List Member) (s : ℕ) (f : Member → Member) → length (units.changed unit s f) ≡ length unit
unit_length unit s f = go (slice_get unit s)
  where
    go : (x : Option Member) → length (option_map_or (λ m. slice_set unit s (f m)) x unit) ≡ length unit
    go None = refl
    go (Some m) = length-set unit s (f m)

-- the member that changed
pub unit_here : (unit : List Member) (s : ℕ) (f : Member → Member) (after : Member) → slice_get (units.changed unit s f) s ≡ Some after → (m : Member) × (slice_get unit s ≡ Some m) × (after ≡ f m)
unit_here unit s f after got = go (slice_get unit s) refl got
  where
    go : (x : Option Member) → slice_get unit s ≡ x → slice_get (option_map_or (λ m. slice_set unit s (f m)) x unit) s ≡ Some after → (m : Member) × (slice_get unit s ≡ Some m) × (after ≡ f m)
    go None is got = let none : None ≡ Some after = sym is ∙ got in cc
    go (Some m) is got = let it : Some (f m) ≡ Some after = sym (get_set_same unit s (f m) m is) ∙ got in (m, is, cc)

-- the others
pub unit_there : (unit : List Member) (s : ℕ) (f : Member → Member) (u : ℕ) → u ≢ s → slice_get (units.changed unit s f) u ≡ slice_get unit u
unit_there unit s f u apart = go (slice_get unit s)
  where
    go : (x : Option Member) → slice_get (option_map_or (λ m. slice_set unit s (f m)) x unit) u ≡ slice_get unit u
    go None = refl
    go (Some m) = get_set_other unit s u (f m) apart

-- Members and strands

-- where nothing is wanted, no level is
pub nothing_wanted : WantsNoLevel None
nothing_wanted level = refl

-- an event that reaches no level and is no end leaves a member as it is
stays_as : (h : List Event) (want : Option Want) (m : Member) (e : Event) → WantsNoLevel want → ((level : ℤ) → event.has_reached level (e ∷ h) ≡ event.has_reached level h) → has_ended (e ∷ h) ≡ has_ended h →
    code_of (e ∷ h) ≡ code_of h → IsStrand h want m → IsStrand (e ∷ h) None m
stays_as h want m e no_commit reached ended code s = record {
  count = s.count;
  progress = λ level is. s.progress level is
      ∙ ap (λ b. cond (event.has_reached level h) Reached (cond b Asked NotAsked)) (no_commit level)
      ∙ ap (λ b. cond b Reached NotAsked) (sym (reached level));
  ended = s.ended ∙ ap (λ b. cond b (Some (code_of h)) None) (sym ended) ∙ ap (λ c. cond (has_ended (e ∷ h)) (Some c) None) (sym code);
}

module _ (net : Net) (texts : ℕ → List ℕ) (st : State) (left : Left) (s : Who) (k : ℕ) (e : Event) (may : licence net st left s k ≡ Some e) (d : DeskState) (kept : DeskStands net texts st left d) where
  abbrev now : State
  now = with_event st s e

  abbrev out : Left
  out = left_out left s

  -- the strand's member, after the event
  here : (m : Member) → IsStrand (e ∷ past st s) None m → IsStrand (past now s) (want_at net now out s) m
  here m is = subst (λ h. IsStrand h (want_at net now out s) m) (sym (at_same st s e)) (subst (λ w. IsStrand (e ∷ past st s) w m) (sym (want_here net st left s k e may)) is)

  -- another strand's
  there : (u : Who) (m : Member) → u ≢ s → IsStrand (past st u) (want_at net st left u) m → IsStrand (past now u) (want_at net now out u) m
  there u m other is = subst (λ h. IsStrand h (want_at net now out u) m) (sym (at_other st s e u other)) (subst (λ w. IsStrand (past st u) w m) (sym (want_other net st left s k e may u other)) is)

  -- where the strand's member is changed
  at_member : (f : Member → Member) → ((m : Member) → slice_get d.unit s ≡ Some m → IsStrand (e ∷ past st s) None (f m)) →
      (u : Who) (m : Member) → slice_get (units.changed d.unit s f) u ≡ Some m → IsStrand (past now u) (want_at net now out u) m
  at_member f move u m got = elim (equal_or_not u s) [
    | inl it ↦
        let b = unit_here d.unit s f m (ap (slice_get (units.changed d.unit s f)) (sym it) ∙ got) in
        subst (λ z. IsStrand (past now z) (want_at net now out z) m) (sym it) (here m (subst (IsStrand (e ∷ past st s) None) (sym b.2) (move b.0 b.1)))
    | inr other ↦ there u m other (kept.members u m (sym (unit_there d.unit s f u other) ∙ got))
  ]

  -- where no member is
  alone : ((m : Member) → IsStrand (past st s) (want_at net st left s) m → IsStrand (e ∷ past st s) None m) →
      (u : Who) (m : Member) → slice_get d.unit u ≡ Some m → IsStrand (past now u) (want_at net now out u) m
  alone stays u m got = elim (equal_or_not u s) [
    | inl it ↦ subst (λ z. IsStrand (past now z) (want_at net now out z) m) (sym it) (here m (stays m (kept.members s m (ap (slice_get d.unit) (sym it) ∙ got))))
    | inr other ↦ there u m other (kept.members u m got)
  ]

  -- each member is its strand after the turn
  pub members_made : (u : Who) (m : Member) → slice_get (rest_after_turn d s (told e)).unit u ≡ Some m → IsStrand (past now u) (want_at net now out u) m
  members_made u m got = by e refl got
    where
      want : Option Want
      want = want_at net st left s

      quiet : (f : Event) → e ≡ f → ((level : ℤ) → event.has_reached level (f ∷ past st s) ≡ event.has_reached level (past st s)) → has_ended (f ∷ past st s) ≡ has_ended (past st s) →
          code_of (f ∷ past st s) ≡ code_of (past st s) → WantsNoLevel want → slice_get d.unit u ≡ Some m → IsStrand (past now u) (want_at net now out u) m
      quiet f is reached ended code no_commit got =
          alone (λ n strand. subst (λ z. IsStrand (z ∷ past st s) None n) (sym is) (stays_as (past st s) want n f no_commit reached ended code strand)) u m got

      no_commit : (f : Event) → e ≡ f → rises f ≡ false → WantsNoLevel want
      no_commit f is low = no_level want f (ap (answers want) (sym is) ∙ answered net st left s k e may) low

      by : (f : Event) → e ≡ f → slice_get (rest_after_turn d s (told f)).unit u ≡ Some m → IsStrand (past now u) (want_at net now out u) m
      by (Up level code) is got =
          let wanted : want_at net st left s ≡ Some (Commit level) = up_wanted net st left s k level code (may ∙ ap Some is) in
          at_member (units.moved (place_of level) Reached)
          (λ n at. subst (λ z. IsStrand (z ∷ past st s) None (units.moved (place_of level) Reached n)) (sym is)
          (reaches_as (past st s) n level (kept.early s level wanted) code None nothing_wanted (subst (λ w. IsStrand (past st s) w n) wanted (kept.members s n at))))
          u m got
      by (Ended code) is got =
          at_member (units.ended_with code)
          (λ n at. subst (λ z. IsStrand (z ∷ past st s) None (units.ended_with code n)) (sym is)
          (ends_as (past st s) n code want None (no_commit (Ended code) is refl) nothing_wanted (kept.members s n at)))
          u m got
      by (Saw i rec) is got = quiet (Saw i rec) is (λ l. refl) refl refl (no_commit (Saw i rec) is refl) got
      by (SawEnd i) is got = quiet (SawEnd i) is (λ l. refl) refl refl (no_commit (SawEnd i) is refl) got
      by SawAllEnd is got = quiet SawAllEnd is (λ l. refl) refl refl (no_commit SawAllEnd is refl) got
      by (Took i) is got = quiet (Took i) is (λ l. refl) refl refl (no_commit (Took i) is refl) got
      by (Put o rec) is got = quiet (Put o rec) is (λ l. refl) refl refl (no_commit (Put o rec) is refl) got
      by (Refused o) is got = quiet (Refused o) is (λ l. refl) refl refl (no_commit (Refused o) is refl) got
      by (Primed b) is got = quiet (Primed b) is (λ l. refl) refl refl (no_commit (Primed b) is refl) got
      by (Opened n) is got = quiet (Opened n) is (λ l. refl) refl refl (no_commit (Opened n) is refl) got
      by (Joined n code) is got = quiet (Joined n code) is (λ l. refl) refl refl (no_commit (Joined n code) is refl) got
      by (Severed i) is got = quiet (Severed i) is (λ l. refl) refl refl (no_commit (Severed i) is refl) got
