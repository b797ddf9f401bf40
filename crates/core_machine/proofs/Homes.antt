-- Whom a strand that comes home concerns is woken.
use Rattle.std.proofs.Common.{◌≡◌, ◌⊎◌, inl, ℕ, ◌<◌, Bool, true, false, cond, ◌==◌, ◌||◌, not, List, length, refl, sym, ◌∙◌, ap, subst, Option, Some, None, is_some, slice_get, ℤ, pos, negsuc}
use Rattle.std.specs.Option.{option_map}
use Rattle.pipe_model.specs.declared.net.Net.{Net}
use Rattle.pipe_model.specs.declared.net.Link.{Link}
use Rattle.pipe_model.specs.declared.step.Out.{Out}
use Rattle.pipe_model.specs.declared.step.Want.{Want}
use Rattle.pipe_model.specs.declared.step.Want.TheVariants as want
use Rattle.pipe_model.specs.WellFormed.{IsWellFormed}
use Rattle.record_pool.specs.PoolState.{PoolState}
use Rattle.run_desk.specs.declared.seat.Ask.{Ask}
use Rattle.run_desk.specs.declared.seat.Ask.TheVariants as Now
use Rattle.run_desk.specs.declared.seat.Seat.{Seat}
use Rattle.run_desk.specs.Desk.{DeskState}
use Rattle.run_desk.specs.Standing.{link_through}
use Rattle.run_desk.specs.Turns.{HasCome, desk_at_home, desk_at_home_writing, asking, list_changed_behind, offers}
use Rattle.run_desk.specs.Telling as Telling
use Rattle.run_desk.proofs.Lists.{changed_here, changed_there, changed_length}
use Rattle.core_machine.specs.Floor.{IsInUse}
use Rattle.core_machine.specs.Members.{Members, is_member}
use Rattle.core_machine.specs.Woken.{IsCovering, AsksEarly, IsWhole, IsLarger, IsReaderIn, commits}
use Rattle.core_machine.proofs.Fulls.{same_code}
use Rattle.core_machine.proofs.Stills.{IsStill, still_same, still_changed}
use Rattle.core_machine.proofs.Wakes.{IsAround, clash, covers_on, full_levels}

-- who asks for something has seen and ended as much as before
asking_seat : (ask : Ask) (x : Option Seat) → Telling.primed_of (option_map (asking ask) x) ≡ Telling.primed_of x
asking_seat ask None = refl
asking_seat ask (Some seat) = refl

-- there are as many seats as before
seats_asking : (d n : DeskState) (s : ℕ) (ask : Ask) → n ≡ desk_at_home d s ask → length n.seats ≡ length d.seats
seats_asking d n s ask is = ap (λ (z : DeskState). length z.seats) is ∙ changed_length d.seats (asking ask) (Some s)

pub seats_home : (d : DeskState) (pool : PoolState) (s : ℕ) (w : Want) (n : DeskState) (after : PoolState) → HasCome d pool s w n after → length n.seats ≡ length d.seats
seats_home d pool s (want.Write o out) n after come = ap (λ (z : DeskState). length z.seats) come.home ∙ changed_length d.seats (asking (Now.Write o)) (Some s)
seats_home d pool s (want.Commit level) n after come = seats_asking d n s (Now.Commit level) come.0
seats_home d pool s (want.Read i) n after come = seats_asking d n s (Now.Read i) come.0
seats_home d pool s want.Any n after come = seats_asking d n s Now.Any come.0
seats_home d pool s want.Gate n after come = seats_asking d n s Now.Gate come.0
seats_home d pool s (want.Take i) n after come = seats_asking d n s (Now.Take i) come.0
seats_home d pool s want.Primed n after come = seats_asking d n s Now.Primed come.0
seats_home d pool s (want.Issue text) n after come = seats_asking d n s Now.Issue come.0
seats_home d pool s (want.Join unit) n after come = seats_asking d n s (Now.Join unit) come.0
seats_home d pool s (want.Cut i) n after come = seats_asking d n s (Now.Cut i) come.0
seats_home d pool s (want.Done code) n after come = seats_asking d n s (Now.Done code) come.0

module _ (net : Net) (d n : DeskState) (s : ℕ) (new : Members) (low zero : Bool) (here : is_member new s ≡ true)
    (fills_low : low ≡ false → is_some (Telling.level_code n (negsuc 0)) ≡ true → IsWhole new) (fills_zero : zero ≡ false → is_some (Telling.level_code n (pos 0)) ≡ true → IsWhole new) where
  around_home : (ask : Ask) → n.seats ≡ list_changed_behind d.seats (asking ask) (Some s) → n.doors ≡ d.doors → ((u : ℕ) → is_member new u ≡ false → IsStill net.links u d.wires n.wires) →
      ((u : ℕ) → u < new.size → is_member new u ≡ false → (level : ℤ) → (level ≡ negsuc 0) ⊎ (level ≡ pos 0) → is_some (Telling.level_code n level) ≡ true → is_some (Telling.level_code d level) ≡ true) →
      IsAround net d n s new
  around_home ask seats doors still levels = record {
    seats = λ u apart. ap (λ z. slice_get z u) seats ∙ changed_there d.seats (asking ask) s u apart;
    doors = doors;
    still = λ u apart off. still u off;
    levels = levels;
    primer = λ now. inl (ap is_some (sym (ap (λ z. Telling.primed_of (slice_get z s)) seats ∙ ap Telling.primed_of (changed_here d.seats (asking ask) s) ∙ asking_seat ask (slice_get d.seats s))) ∙ now);
    here = λ k p. here;
  }

  -- who neither writes nor asks for a level
  around_plain : (ask : Ask) → n ≡ desk_at_home d s ask → (desk_at_home d s ask).unit ≡ d.unit → IsAround net d n s new
  around_plain ask is unit = around_home ask (ap (λ (z : DeskState). z.seats) is) (ap (λ (z : DeskState). z.doors) is)
      (λ u off. subst (IsStill net.links u d.wires) (sym (ap (λ (z : DeskState). z.wires) is)) (still_same net.links u d.wires))
      (λ u inside off level early. same_code d n level (ap (λ (z : DeskState). z.unit) is ∙ unit))

  around_want : (pool after : PoolState) (w : Want) → HasCome d pool s w n after → IsReaderIn d net.links s w new →
      low ≡ (not (commits w) || is_some (Telling.level_code d (negsuc 0))) → zero ≡ (not (commits w) || is_some (Telling.level_code d (pos 0))) → IsAround net d n s new
  around_want pool after (want.Write o out) come reader low_is zero_is =
      around_home (Now.Write o) (ap (λ (z : DeskState). z.seats) come.home) (ap (λ (z : DeskState). z.doors) come.home)
      (λ u off. subst (IsStill net.links u d.wires) (sym (ap (λ (z : DeskState). z.wires) come.home))
      (still_changed net.links u d.wires (offers come.grip) (Telling.out_door d s o)
      (λ j link wire door l to at. clash new u (ap (is_member new) (sym to) ∙ reader link (ap (link_through net.links) door ∙ l)) off)
      (λ j link wire door l from at. (λ p. p, λ p. p))))
      (λ u inside off level early. same_code d n level (ap (λ (z : DeskState). z.unit) come.home))
  around_want pool after (want.Commit l) come reader low_is zero_is =
      around_home (Now.Commit l) (ap (λ (z : DeskState). z.seats) come.0) (ap (λ (z : DeskState). z.doors) come.0)
      (λ u off. subst (IsStill net.links u d.wires) (sym (ap (λ (z : DeskState). z.wires) come.0)) (still_same net.links u d.wires))
      (full_levels d n new low zero low_is zero_is fills_low fills_zero)
  around_want pool after (want.Read i) come reader low_is zero_is = around_plain (Now.Read i) come.0 refl
  around_want pool after want.Any come reader low_is zero_is = around_plain Now.Any come.0 refl
  around_want pool after want.Gate come reader low_is zero_is = around_plain Now.Gate come.0 refl
  around_want pool after (want.Take i) come reader low_is zero_is = around_plain (Now.Take i) come.0 refl
  around_want pool after want.Primed come reader low_is zero_is = around_plain Now.Primed come.0 refl
  around_want pool after (want.Issue text) come reader low_is zero_is = around_plain Now.Issue come.0 refl
  around_want pool after (want.Join unit) come reader low_is zero_is = around_plain (Now.Join unit) come.0 refl
  around_want pool after (want.Cut i) come reader low_is zero_is = around_plain (Now.Cut i) come.0 refl
  around_want pool after (want.Done code) come reader low_is zero_is = around_plain (Now.Done code) come.0 refl

more_readers : (d : DeskState) (links : List Link) (s : ℕ) (w : Want) (set more : Members) → ((t : ℕ) → is_member set t ≡ true → is_member more t ≡ true) → IsReaderIn d links s w set → IsReaderIn d links s w more
more_readers d links s (want.Write o out) set more larger reader = λ link l. larger link.to (reader link l)
more_readers d links s (want.Commit l) set more larger reader = reader
more_readers d links s (want.Read i) set more larger reader = reader
more_readers d links s want.Any set more larger reader = reader
more_readers d links s want.Gate set more larger reader = reader
more_readers d links s (want.Take i) set more larger reader = reader
more_readers d links s want.Primed set more larger reader = reader
more_readers d links s (want.Issue text) set more larger reader = reader
more_readers d links s (want.Join unit) set more larger reader = reader
more_readers d links s (want.Cut i) set more larger reader = reader
more_readers d links s (want.Done code) set more larger reader = reader

-- nobody reads what isn't written
pub no_reader : (d : DeskState) (links : List Link) (s : ℕ) (w : Want) (set : Members) → ((o : ℕ) (out : Out) → w ≡ want.Write o out → ⊥) → IsReaderIn d links s w set
no_reader d links s (want.Write o out) set other = absurd (other o out refl)
no_reader d links s (want.Commit l) set other = tt
no_reader d links s (want.Read i) set other = tt
no_reader d links s want.Any set other = tt
no_reader d links s want.Gate set other = tt
no_reader d links s (want.Take i) set other = tt
no_reader d links s want.Primed set other = tt
no_reader d links s (want.Issue text) set other = tt
no_reader d links s (want.Join unit) set other = tt
no_reader d links s (want.Cut i) set other = tt
no_reader d links s (want.Done code) set other = tt

-- nothing but the want of a commit level commits
pub no_commit : (w : Want) → ((l : ℤ) → w ≡ want.Commit l → ⊥) → commits w ≡ false
no_commit (want.Write o out) other = refl
no_commit (want.Commit l) other = absurd (other l refl)
no_commit (want.Read i) other = refl
no_commit want.Any other = refl
no_commit want.Gate other = refl
no_commit (want.Take i) other = refl
no_commit want.Primed other = refl
no_commit (want.Issue text) other = refl
no_commit (want.Join unit) other = refl
no_commit (want.Cut i) other = refl
no_commit (want.Done code) other = refl

-- after a strand came home the set covers the strands that may go on, where it, who reads what it writes and those for whom it settled something were woken
pub covers_home : (net : Net) (d n : DeskState) → IsWellFormed net → IsInUse net d → AsksEarly n →
    (pool after : PoolState) (s : ℕ) (w : Want) (old set new : Members) (low zero : Bool) → old.size ≡ length net.strands → HasCome d pool s w n after →
    IsLarger old set → is_member set s ≡ true → IsReaderIn d net.links s w set → IsLarger set new →
    low ≡ (not (commits w) || is_some (Telling.level_code d (negsuc 0))) → zero ≡ (not (commits w) || is_some (Telling.level_code d (pos 0))) →
    (low ≡ false → is_some (Telling.level_code n (negsuc 0)) ≡ true → IsWhole new) → (zero ≡ false → is_some (Telling.level_code n (pos 0)) ≡ true → IsWhole new) →
    IsCovering d old → IsCovering n new
covers_home net d n formed used early pool after s w old set new low zero size come larger here reader larger' low_is zero_is fills_low fills_zero covers =
    covers_on net used.st formed d n used.kept.laid s new (larger'.0 ∙ larger.0 ∙ size) around
    old (λ t held. larger'.1 t (larger.1 t held)) covers
    (λ u apart level asks. early u level (ap Telling.ask_of (around.seats u apart) ∙ asks))
  where
    around : IsAround net d n s new
    around = around_want net d n s new low zero (larger'.1 s here) fills_low fills_zero pool after w come
        (more_readers d net.links s w set new larger'.1 reader) low_is zero_is

-- who came home to write may go on only where the record that it offered may be put, or refused
pub may_write : (d : DeskState) (s o grip : ℕ) (n : DeskState) → n ≡ desk_at_home_writing d s o grip → (door : Option ℕ) → door ≡ Telling.out_door d s o →
    (k : ℕ) → is_some (Telling.seen_at n s k) ≡ true → (Telling.can_put (Telling.through n.wires door) || Telling.can_refuse (Telling.through n.wires door)) ≡ true
may_write d s o grip n is door door_is k may =
    subst (λ z. (Telling.can_put (Telling.through n.wires z) || Telling.can_refuse (Telling.through n.wires z)) ≡ true) (ap (λ (z : DeskState). Telling.out_door z s o) is ∙ sym door_is)
    (by_seat (slice_get d.seats s) (sym (ap (λ x. is_some (Telling.seen_by n s k (Telling.ask_of x))) (ap (λ (z : DeskState). slice_get z.seats s) is ∙ changed_here d.seats (asking (Now.Write o)) s)) ∙ may))
  where
    by_test : (b p r : Bool) → is_some (cond b (Telling.write_seen o p r) None) ≡ true → (p || r) ≡ true
    by_test true true r so = refl
    by_test true false true so = refl
    by_test true false false so = cc
    by_test false p r so = cc

    by_seat : (x : Option Seat) → is_some (Telling.seen_by n s k (Telling.ask_of (option_map (asking (Now.Write o)) x))) ≡ true → (Telling.can_put (Telling.wire_out n s o) || Telling.can_refuse (Telling.wire_out n s o)) ≡ true
    by_seat None so = cc
    by_seat (Some seat) so = by_test (k == o) (Telling.can_put (Telling.wire_out n s o)) (Telling.can_refuse (Telling.wire_out n s o)) so
