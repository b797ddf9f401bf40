-- What a strand is told tells of the desk.
use Rattle.std.proofs.Common.{◌≡◌, ℕ, Bool, true, false, ◌&&◌, ◌==◌, ℤ, refl, subst, Option, Some, None}
use Rattle.pipe_model.specs.declared.step.Seen.{Seen}
use Rattle.pipe_model.specs.declared.step.Seen.TheVariants as Told
use Rattle.pipe_model.specs.State.{Who}
use Rattle.pipe_model.proofs.Truths.{cond_some}
use Rattle.run_desk.specs.declared.seat.Ask.{Ask}
use Rattle.run_desk.specs.declared.seat.Ask.TheVariants as Now
use Rattle.run_desk.specs.Desk.{DeskState}
use Rattle.run_desk.specs.Telling as Telling

module _ (d : DeskState) (s : Who) where
  -- what has to be so where a strand is told this
  abbrev pub Fact : Seen → Type 0
  Fact (Told.Saw i) = Telling.shows (Telling.wire_in d s i) ≡ true
  Fact (Told.Put o) = Telling.can_put (Telling.wire_out d s o) ≡ true
  Fact (Told.Refused o) = Telling.can_refuse (Telling.wire_out d s o) ≡ true
  Fact _ = Unit {0}

  told_plain : (now seen : Seen) → Some now ≡ Some seen → Fact now → Fact seen
  told_plain now seen e is = subst Fact (let same : now ≡ seen = cc in same) is

  read_tells : (j : ℕ) (seen : Seen) (hand over : Bool) → Telling.shows (Telling.wire_in d s j) ≡ hand → Telling.read_seen j hand over ≡ Some seen → Fact seen
  read_tells j seen true over is e = told_plain (Told.Saw j) seen e is
  read_tells j seen false true is e = told_plain (Told.SawEnd j) seen e tt
  read_tells j seen false false is e = cc

  any_tells : (j : ℕ) (seen : Seen) (hand over : Bool) → Telling.shows (Telling.wire_in d s j) ≡ hand → Telling.any_seen j hand over ≡ Some seen → Fact seen
  any_tells j seen true over is e = told_plain (Told.Saw j) seen e is
  any_tells j seen false true is e = told_plain Told.SawAllEnd seen e tt
  any_tells j seen false false is e = cc

  write_tells : (o : ℕ) (seen : Seen) (put refuse : Bool) → Telling.can_put (Telling.wire_out d s o) ≡ put → Telling.can_refuse (Telling.wire_out d s o) ≡ refuse → Telling.write_seen o put refuse ≡ Some seen → Fact seen
  write_tells o seen true refuse may must e = told_plain (Told.Put o) seen e may
  write_tells o seen false true may must e = told_plain (Told.Refused o) seen e must
  write_tells o seen false false may must e = cc

  up_tells : (level : ℤ) (seen : Seen) (code : Option ℤ) → Telling.up_seen level code ≡ Some seen → Fact seen
  up_tells level seen None e = cc
  up_tells level seen (Some code) e = told_plain (Told.Up level code) seen e tt

  primed_tells : (seen : Seen) (primed : Option Bool) → Telling.primed_seen primed ≡ Some seen → Fact seen
  primed_tells seen None e = cc
  primed_tells seen (Some b) e = told_plain (Told.Primed b) seen e tt

  -- and it is so
  pub tells : (k : ℕ) (seen : Seen) (ask : Ask) → Telling.seen_by d s k ask ≡ Some seen → Fact seen
  tells k seen Now.Nothing e = cc
  tells k seen (Now.Commit level) e = up_tells level seen (Telling.level_code d level) (cond_some (k == 0) (Telling.up_seen level (Telling.level_code d level)) e).1
  tells k seen (Now.Read i) e =
      read_tells i seen (Telling.shows (Telling.wire_in d s i)) (Telling.is_over (Telling.wire_in d s i)) refl (cond_some (k == i) (Telling.read_seen i (Telling.shows (Telling.wire_in d s i)) (Telling.is_over (Telling.wire_in d s i))) e).1
  tells k seen Now.Any e = any_tells k seen (Telling.shows (Telling.wire_in d s k)) ((k == 0) && Telling.all_over d s) refl e
  tells k seen Now.Gate e = read_tells k seen (Telling.shows (Telling.wire_in d s k)) ((k == 0) && Telling.is_over (Telling.wire_in d s k)) refl e
  tells k seen (Now.Take i) e = told_plain (Told.Took i) seen (cond_some (k == i) (Some (Told.Took i)) e).1 tt
  tells k seen (Now.Write o) e =
      write_tells o seen (Telling.can_put (Telling.wire_out d s o)) (Telling.can_refuse (Telling.wire_out d s o)) refl refl
      (cond_some (k == o) (Telling.write_seen o (Telling.can_put (Telling.wire_out d s o)) (Telling.can_refuse (Telling.wire_out d s o))) e).1
  tells k seen Now.Primed e = primed_tells seen (Telling.primed_at d s) (cond_some (k == 0) (Telling.primed_seen (Telling.primed_at d s)) e).1
  tells k seen Now.Issue e = cc
  tells k seen (Now.Join u) e = cc
  tells k seen (Now.Cut i) e = told_plain (Told.Cut i) seen (cond_some (k == i) (Some (Told.Cut i)) e).1 tt
  tells k seen (Now.Done code) e = told_plain (Told.Ended code) seen (cond_some (k == 0) (Some (Told.Ended code)) e).1 tt
