-- What a journal is to a net: legal, and then complete or not; or legal up to an entry that has no licence.
use Rattle.std.specs.Prelude.{◌≡◌, ℕ, suc, true, List, ◌∷◌, ◌++◌, ◌↔◌, length}
use Rattle.pipe_model.specs.declared.net.Net.{Net}
use Rattle.pipe_model.specs.declared.step.Entry.{Entry}
use Rattle.pipe_model.specs.Play.{play, IsLegal, IsLicensed, IsComplete}
use Rattle.journal_file.specs.declared.checking.Checked.{Checked}
use Rattle.journal_file.specs.declared.checking.Checked.TheVariants.{Legal, Illegal}

-- the entry at this place, counted from 1, has no licence after those before it, each of which has one
pub record IsFirstIllegal (net : Net) (journal : List Entry) (place : ℕ) : Type 0 where
  pub before : List Entry
  pub entry : Entry
  pub more : List Entry
  pub journal_is : journal ≡ before ++ entry ∷ more
  pub place_is : place ≡ suc (length before)
  pub legal : IsLegal net before
  pub unlicensed : ¬ IsLicensed net (play net before) entry

-- what is told of the journal is so
abbrev pub Judges : Net → List Entry → Checked → Type 0
Judges net journal (Legal complete) = IsLegal net journal × ((complete ≡ true) ↔ IsComplete net journal)
Judges net journal (Illegal entry) = IsFirstIllegal net journal entry
