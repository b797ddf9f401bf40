-- The rows of stages that read one input at a time are sound: they read only inputs that they have and that haven't ended.
use Rattle.std.proofs.Common.{◌≡◌, ℕ, true, false, not, List, [], ◌∷◌, ◌++◌, refl, sym, ap, subst, arith, Option, Some, None, pos}
use Rattle.std.specs.Prelude.{find, nat_lt}
use Rattle.std.proofs.lemmas.Bool.Decides.{nat_tests}
use Rattle.std.proofs.lemmas.Bool.{not-true}
use Rattle.pipe_model.specs.Event.{Event, answers}
use Rattle.pipe_model.specs.Event.Event.{Saw, SawEnd}
use Rattle.pipe_model.specs.Event.Want.{Read}
use Rattle.pipe_model.specs.Row.{Pair, Act, Known, Row, sees, without}
use Rattle.pipe_model.specs.Row.Act.{Takes}
use Rattle.pipe_model.specs.Row.Goal.{Asks, Ends}
use Rattle.pipe_model.specs.Shape.{Turning, row, writes, can_read, read_next, turn_plan}
use Rattle.pipe_model.specs.Next.{hears, nothing_known}
use Rattle.pipe_model.specs.Members.{has}
use Rattle.pipe_model.proofs.Truths.{both}
use Rattle.pipe_model.proofs.Lists.{found_at}
use Rattle.confluence_laws.proofs.Facts.{Fits, IsLook, IsSound, IsFiniteRow, IsFiniteLook, NoRepeats, ReadsInTurn, has_all, taken}
use Rattle.confluence_laws.proofs.SoundActs.{fits_writes, fits_only, fits_then, no_repeats, only_writes, both_repeats, sees_new, without_new}

module _ (inputs : ℕ) (t : Turning) where
  -- its row
  abbrev pub turn_row : Row
  turn_row = row (λ k. turn_plan inputs t k k.told)

  -- the input that it reads is one that it has and that hasn't ended
  reads : (k : Known) (i : ℕ) → k.sight ≡ [] → has_all k.told ≡ false → find (can_read inputs k.ends) (t.order inputs k.seen) ≡ Some i → ReadsInTurn inputs k (Read i)
  reads k i none on found =
      let able = both (nat_lt i inputs) (not (has k.ends i)) (found_at (can_read inputs k.ends) (t.order inputs k.seen) found).0 in
      record { input = i; want_is = refl; within = let p = able.0 in grind (arith, nat_tests); sight = none; unended = not-true (has k.ends i) able.1; goes_on = on }

  -- what it does where nothing is in sight fits
  fits_reading : (k : Known) (next : Option ℕ) → k.sight ≡ [] → has_all k.told ≡ false → find (can_read inputs k.ends) (t.order inputs k.seen) ≡ next →
      Fits (ReadsInTurn inputs) k (read_next [] (t.last k.seen) next).acts (read_next [] (t.last k.seen) next).goal
  fits_reading k (Some i) none on found = reads k i none on found
  fits_reading k None none on found = fits_only (ReadsInTurn inputs) k (t.last k.seen) (Ends (pos 0)) tt

  -- and so does what it does with a record at hand
  fits_taking : (k : Known) (i : ℕ) (rec : List ℕ) (next : Option ℕ) → k.sight ≡ [] → has_all k.told ≡ false → find (can_read inputs k.ends) (t.order inputs (k.seen ++ (i, rec) ∷ [])) ≡ next →
      (λ (now : Known) (acts : List Act). Fits (ReadsInTurn inputs) now (read_next acts (t.last now.seen) next).acts (read_next acts (t.last now.seen) next).goal)
      (hears k (Saw i rec)) (writes (t.outs (k.seen ++ (i, rec) ∷ [])) ++ Takes i ∷ [])
  fits_taking k i rec (Some j) none on found =
      let now = hears k (Saw i rec) in
      fits_writes (ReadsInTurn inputs) now (t.outs now.seen) (Takes i ∷ []) (Asks (Read j)) (sees_new (without i k.sight) i rec, reads (taken i now) j (without_new k.sight i rec none) on found)
  fits_taking k i rec None none on found =
      let now = hears k (Saw i rec) in
      fits_then (ReadsInTurn inputs) now (t.outs now.seen) i (writes (t.last now.seen)) (Ends (pos 0)) (sees_new (without i k.sight) i rec) (fits_only (ReadsInTurn inputs) (taken i now) (t.last now.seen) (Ends (pos 0)) tt)

  -- what it does by an answer fits
  goes_on : (k : Known) (i : ℕ) (e : Event) → k.sight ≡ [] → has_all k.told ≡ false → answers (Some (Read i)) e ≡ true → Fits (ReadsInTurn inputs) (hears k e) (turn_row.plan (hears k e)).acts (turn_row.plan (hears k e)).goal
  goes_on k i (Saw j rec) none on it = fits_taking k j rec (find (can_read inputs k.ends) (t.order inputs (k.seen ++ (j, rec) ∷ []))) none on refl
  goes_on k i (SawEnd j) none on it = fits_reading (hears k (SawEnd j)) (find (can_read inputs (j ∷ k.ends)) (t.order inputs k.seen)) none on refl
  goes_on k i _ none on it = cc

  -- so the row is sound
  pub turn_sound : IsSound (ReadsInTurn inputs) turn_row inputs
  turn_sound = record {
    looks = λ k want a. subst (IsLook inputs k) (sym a.want_is) a.within;
    starts = fits_reading nothing_known (find (can_read inputs []) (t.order inputs [])) refl refl refl;
    goes = λ k want e a it. goes_on k a.input e a.sight a.goes_on (subst (λ z. answers (Some z) e ≡ true) a.want_is it);
  }

  -- its last acts are no endless pairs
  finite_next : (acts : List Act) (last : List Pair) (next : Option ℕ) → NoRepeats acts → NoRepeats (read_next acts last next).acts
  finite_next acts last (Some i) none = none
  finite_next acts last None none = both_repeats acts (writes last) none (only_writes last)

  -- nor is any other
  pub turn_finite : IsFiniteRow (ReadsInTurn inputs) turn_row
  turn_finite = record {
    looks = λ k want a. subst (IsFiniteLook k) (sym a.want_is) (ap (sees a.input) a.sight, a.unended);
    starts = finite_next [] (t.last []) (find (can_read inputs []) (t.order inputs [])) tt;
    goes = λ k want e a it. goes k e;
  }
    where
      quiet : (k : Known) → NoRepeats (read_next [] (t.last k.seen) (find (can_read inputs k.ends) (t.order inputs k.seen))).acts
      quiet k = finite_next [] (t.last k.seen) (find (can_read inputs k.ends) (t.order inputs k.seen)) tt

      goes : (k : Known) (e : Event) → NoRepeats (turn_row.plan (hears k e)).acts
      goes k (Saw i rec) =
          let now = hears k (Saw i rec) in
          finite_next (writes (t.outs now.seen) ++ Takes i ∷ []) (t.last now.seen) (find (can_read inputs now.ends) (t.order inputs now.seen)) (no_repeats (t.outs now.seen) (Takes i ∷ []) tt)
      goes k (SawEnd i) = quiet (hears k (SawEnd i))
      goes k _ = quiet k
