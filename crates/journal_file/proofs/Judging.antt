-- A journal is judged by making its entries in a core.
use Rattle.std.proofs.Common.{◌≡◌, ℕ, suc, ◌+◌, ◌<◌, ◌≤◌, Bool, true, false, List, ◌++◌, length, drop, refl, sym, ◌∙◌, ap, subst, arith, Option, Some, None, is_some, slice_index_or}
use Rattle.std.specs.Prelude.{take}
use Rattle.std.proofs.Math.Seq.{drop-cons}
use Rattle.std.proofs.lemmas.List.{take-append-drop, take_all}
use Rattle.pipe_model.specs.declared.net.Net.{Net}
use Rattle.pipe_model.specs.declared.step.Entry.{Entry}
use Rattle.pipe_model.specs.Event.{Event}
use Rattle.pipe_model.specs.Licence.{licence, none_left}
use Rattle.pipe_model.specs.Play.{play, IsLegal, IsComplete}
use Rattle.core_machine.specs.Machine.{Machine, started, licence_of, HasStopped}
use Rattle.journal_file.specs.declared.checking.Checked.TheVariants.{Legal}
use Rattle.journal_file.specs.Judged.{IsFirstIllegal, Judges}
use Rattle.journal_file.specs.Made.{HasMade}

-- the core has made so many of the entries, and nothing else
pub record IsPlayed (net : Net) (entries : List Entry) (count : ℕ) (core : Machine) : Type 0 where
  pub after : core ≡ record (started net (length entries)) { journal = take count entries }
  pub legal : IsLegal net (take count entries)

none_if : (may : Option Event) → ¬ (is_some may ≡ true) → may ≡ None
none_if None never = refl
none_if (Some e) never = absurd (never refl)

module _ (net : Net) (entries : List Entry) (count : ℕ) (core : Machine) (played : IsPlayed net entries count core) where
  may_is : (s k : ℕ) → licence_of core s k ≡ licence net (play net (take count entries)) none_left s k
  may_is s k = ap (λ (m : Machine). licence_of m s k) played.after

  -- an entry that may not be is the first that isn't legal
  pub first_illegal : (other : Entry) (new : Machine) (place : ℕ) → HasMade core (slice_index_or entries count other) false new → count < length entries → place ≡ length new.journal → IsFirstIllegal net entries (place + 1)
  first_illegal other new place made below at =
      let e = slice_index_or entries count other in
      let size : length core.journal ≡ length (take count entries) = ap (λ (m : Machine). length m.journal) played.after in
      let same : length new.journal ≡ length core.journal = ap (λ (m : Machine). length m.journal) made.1 in
      record {
        before = take count entries;
        entry = e;
        more = drop (suc count) entries;
        journal_is = sym (take-append-drop count entries) ∙ ap (λ z. take count entries ++ z) (drop-cons entries count other below);
        place_is = omega (arith, at, same, size);
        legal = played.legal;
        unlicensed = λ may. let z : false ≡ true = sym (ap is_some (sym (may_is e.strand e.stream) ∙ made.0)) ∙ may in cc;
      }

  module _ (all : length entries ≤ count) where
    whole : take count entries ≡ entries
    whole = take_all count entries all

    complete_if : HasStopped core → IsComplete net entries
    complete_if stopped = subst (IsComplete net) whole (λ e may. let z : false ≡ true = sym (ap is_some (sym (may_is e.strand e.stream) ∙ stopped.1 e.strand e.stream)) ∙ may in cc)

    stopped_if : IsComplete net entries → HasStopped core
    stopped_if complete =
        let none : IsComplete net (take count entries) = subst (IsComplete net) (sym whole) complete in
        (ap (λ (m : Machine). m.out) played.after, λ s k. may_is s k ∙ none_if (licence net (play net (take count entries)) none_left s k) (none (record { strand = s; stream = k })))

    -- a core that has made all entries tells whether they are complete
    pub judged : (complete : Bool) → (complete ≡ true → HasStopped core) → (complete ≡ false → ¬ HasStopped core) → Judges net entries (Legal complete)
    judged true stops goes_on = (subst (IsLegal net) whole played.legal, (λ is. complete_if (stops refl), λ complete. refl))
    judged false stops goes_on = (subst (IsLegal net) whole played.legal, (λ is. cc, λ complete. absurd (goes_on refl (stopped_if complete))))
