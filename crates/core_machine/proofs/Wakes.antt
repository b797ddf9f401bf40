-- The set goes on covering the strands that may go on.
use Rattle.std.proofs.Common.{◌≡◌, ◌≢◌, ◌⊎◌, inl, inr, ℕ, ◌<◌, Bool, true, false, length, refl, sym, ◌∙◌, ap, subst, arith, Option, Some, None, is_some, slice_get, ℤ, pos, negsuc}
use Rattle.std.proofs.lemmas.Option.{slice_get_within}
use Rattle.pipe_model.specs.declared.net.Net.{Net}
use Rattle.pipe_model.specs.State.{State}
use Rattle.pipe_model.specs.WellFormed.{IsWellFormed}
use Rattle.pipe_model.proofs.Numbers.{equal_or_not}
use Rattle.run_desk.specs.declared.seat.Ask.TheVariants as Ask
use Rattle.run_desk.specs.declared.seat.Seat.{Seat}
use Rattle.run_desk.specs.Desk.{DeskState}
use Rattle.run_desk.specs.Standing.{IsLaid}
use Rattle.run_desk.specs.Telling as Telling
use Rattle.core_machine.specs.Members.{Members, is_member}
use Rattle.core_machine.specs.Woken.{IsCovering, IsWhole, IsStageIn}
use Rattle.core_machine.proofs.Quiet.{IsQuiet, quiet_seen}
use Rattle.core_machine.proofs.Stills.{IsStill, still_in, still_out}
use Rattle.core_machine.proofs.Followers.{follows}

-- the new desk differs from the old one by what happened at strand s, and whom that concerns is in the set
pub record IsAround (net : Net) (d n : DeskState) (s : ℕ) (new : Members) : Type 0 where
  pub seats : (u : ℕ) → u ≢ s → slice_get n.seats u ≡ slice_get d.seats u
  pub doors : n.doors ≡ d.doors
  pub still : (u : ℕ) → u ≢ s → is_member new u ≡ false → IsStill net.links u d.wires n.wires
  pub levels : (u : ℕ) → u < new.size → is_member new u ≡ false → (level : ℤ) → (level ≡ negsuc 0) ⊎ (level ≡ pos 0) →
      is_some (Telling.level_code n level) ≡ true → is_some (Telling.level_code d level) ≡ true
  pub primer : is_some (Telling.primed_of (slice_get n.seats s)) ≡ true → (is_some (Telling.primed_of (slice_get d.seats s)) ≡ true) ⊎ IsStageIn n s new
  pub here : (k : ℕ) → is_some (Telling.seen_at n s k) ≡ true → is_member new s ≡ true

-- a strand that is not in the set is none that is
pub clash : {A : Type 0} (set : Members) (u : ℕ) → is_member set u ≡ true → is_member set u ≡ false → A
clash set u held off = let z : true ≡ false = sym held ∙ off in absurd (let r : ⊥ = cc in r)

module _ (net : Net) (st : State) (formed : IsWellFormed net) (d n : DeskState) (laid : IsLaid net st d) (s : ℕ) (new : Members)
    (size : new.size ≡ length net.strands) (around : IsAround net d n s new) where
  module _ (u : ℕ) (apart : u ≢ s) (off : is_member new u ≡ false) where
    -- who may go on is a strand of the net
    seated : (k : ℕ) → is_some (Telling.seen_at n u k) ≡ true → u < new.size
    seated k p = go (slice_get d.seats u) refl
      where
        go : (x : Option Seat) → slice_get d.seats u ≡ x → u < new.size
        go (Some seat) at = let m = slice_get_within d.seats u _ at in (let e = laid.seat_count in omega (arith, m, e, size))
        go None at =
            let nobody : is_some (Telling.seen_by n u k (Telling.ask_of None)) ≡ true = subst (λ z. is_some (Telling.seen_by n u k (Telling.ask_of z)) ≡ true) (around.seats u apart ∙ at) p in
            absurd (let r : ⊥ = cc in r)

    in_door : (i : ℕ) → Telling.wire_in n u i ≡ Telling.through n.wires (Telling.in_door d u i)
    in_door i = ap (λ z. Telling.through n.wires (Telling.joined (slice_get (Telling.inputs_of (slice_get z u)) i))) around.doors

    out_door : (o : ℕ) → Telling.wire_out n u o ≡ Telling.through n.wires (Telling.out_door d u o)
    out_door o = ap (λ z. Telling.through n.wires (Telling.joined (slice_get (Telling.outputs_of (slice_get z u)) o))) around.doors

    still : IsStill net.links u d.wires n.wires
    still = around.still u apart off

    primed : u < new.size → is_some (Telling.primed_at n u) ≡ true → is_some (Telling.primed_at d u) ≡ true
    primed inside p = elim (equal_or_not first s) [
      | inr other ↦ ap (λ z. is_some (Telling.primed_of z)) (sym (around.seats first other)) ∙ now
      | inl e ↦ elim (around.primer (ap (λ z. is_some (Telling.primed_of (slice_get n.seats z))) (sym e) ∙ now)) [
        | inl was ↦ ap (λ z. is_some (Telling.primed_of (slice_get d.seats z))) e ∙ was
        | inr stage ↦ (let f = follows net st formed d laid s u apart e in
            clash new u (stage u f.0 inside (λ t less most. ap (λ z. Telling.first_of t (slice_get z t)) around.doors ∙ f.1 t less most)) off)
      ]
    ]
      where
        first : ℕ
        first = Telling.first_of u (slice_get d.doors u)

        now : is_some (Telling.primed_of (slice_get n.seats first)) ≡ true
        now = ap (λ z. is_some (Telling.primed_of (slice_get n.seats (Telling.first_of u (slice_get z u))))) (sym around.doors) ∙ p

    quiet : ((level : ℤ) → Telling.ask_at d u ≡ Ask.Commit level → (level ≡ negsuc 0) ⊎ (level ≡ pos 0)) → u < new.size → IsQuiet d n u
    quiet early inside = record {
      ask = ap Telling.ask_of (around.seats u apart);
      doors = around.doors;
      hand = λ i p. (still_in net st d laid u n.wires still i).0 (ap Telling.shows (sym (in_door i)) ∙ p);
      over = λ i p. (still_in net st d laid u n.wires still i).1 (ap Telling.is_over (sym (in_door i)) ∙ p);
      put = λ o p. (still_out net st d laid u n.wires still o).0 (ap Telling.can_put (sym (out_door o)) ∙ p);
      refuse = λ o p. (still_out net st d laid u n.wires still o).1 (ap Telling.can_refuse (sym (out_door o)) ∙ p);
      level = λ level asks p. around.levels u inside off level (early level asks) p;
      primed = primed inside;
    }

  -- who may go on is in the set, if it was before where it might before
  pub covers_on : (old : Members) → ((t : ℕ) → is_member old t ≡ true → is_member new t ≡ true) → IsCovering d old →
      ((u : ℕ) → u ≢ s → (level : ℤ) → Telling.ask_at d u ≡ Ask.Commit level → (level ≡ negsuc 0) ⊎ (level ≡ pos 0)) → IsCovering n new
  covers_on old more covers early u k p = by_strand (equal_or_not u s)
    where
      by_test : (b : Bool) → is_member new u ≡ b → u ≢ s → is_member new u ≡ true
      by_test true held apart = held
      by_test false off apart = more u (covers u k (quiet_seen d n u (quiet u apart off (early u apart) (seated u apart off k p)) k p))

      by_strand : (u ≡ s) ⊎ (u ≢ s) → is_member new u ≡ true
      by_strand (inl e) = ap (is_member new) e ∙ around.here k (ap (λ z. is_some (Telling.seen_at n z k)) (sym e) ∙ p)
      by_strand (inr apart) = by_test (is_member new u) refl apart

-- Levels

-- a level that was not full before and is now has woken all
pub full_levels : (d n : DeskState) (new : Members) (low zero : Bool) → low ≡ is_some (Telling.level_code d (negsuc 0)) → zero ≡ is_some (Telling.level_code d (pos 0)) →
    (low ≡ false → is_some (Telling.level_code n (negsuc 0)) ≡ true → IsWhole new) → (zero ≡ false → is_some (Telling.level_code n (pos 0)) ≡ true → IsWhole new) →
    (u : ℕ) → u < new.size → is_member new u ≡ false → (level : ℤ) → (level ≡ negsuc 0) ⊎ (level ≡ pos 0) →
    is_some (Telling.level_code n level) ≡ true → is_some (Telling.level_code d level) ≡ true
full_levels d n new low zero low_is zero_is fills_low fills_zero u inside off level early p = by early
  where
    go : (l : ℤ) (b : Bool) → b ≡ is_some (Telling.level_code d l) → (b ≡ false → is_some (Telling.level_code n l) ≡ true → IsWhole new) → is_some (Telling.level_code n l) ≡ true → is_some (Telling.level_code d l) ≡ true
    go l true is fills now = sym is
    go l false is fills now = clash new u (fills refl now u inside) off

    by : (level ≡ negsuc 0) ⊎ (level ≡ pos 0) → is_some (Telling.level_code d level) ≡ true
    by (inl e) = ap (λ z. is_some (Telling.level_code d z)) e ∙ go (negsuc 0) low low_is fills_low (ap (λ z. is_some (Telling.level_code n z)) (sym e) ∙ p)
    by (inr e) = ap (λ z. is_some (Telling.level_code d z)) e ∙ go (pos 0) zero zero_is fills_zero (ap (λ z. is_some (Telling.level_code n z)) (sym e) ∙ p)
