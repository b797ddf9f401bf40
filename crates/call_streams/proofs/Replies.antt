-- From what the parts of a call did to what the call decides.
use Rattle.std.proofs.Common.{◌≡◌, ◌⊎◌, inl, inr, ⊎_elim, ℕ, true, false, List, [], refl, sym, subst, Option, Some, None}
use Rattle.std.proofs.KnownBytes.{Consumes-nil, Appends-nil}
use Rattle.std.specs.Option.{IfSome}
use Rattle.std.specs.Result.{MatchResult, is_err}
use Rattle.std.specs.declared.result.Result.{Result}
use Rattle.std.specs.declared.result.Result.TheVariants.{Ok, Err}
use Rattle.outside.specs.Device.{Device}
use Rattle.outside.specs.Files.{Files}
use Rattle.call_meaning.specs.declared.status.Outcome.{Outcome}
use Rattle.call_meaning.specs.declared.status.Outcome.TheVariants.{NoMemory}
use Rattle.call_meaning.specs.Effects.{Before, no_effect, output_of, AreReplaced}
use Rattle.call_meaning.specs.Devices.{Outside, Store, AllSteady, outside}
use Rattle.call_meaning.specs.Answer.{Decides, HasUsed}
use Rattle.call_meaning.specs.Answer.HasCause.{came, unrun, no_memory, write_failed}
use Rattle.call_meaning.specs.Answer.HasDone.{whole}
use Rattle.call_meaning.specs.Answer.MayRead.{nothing_read}
use Rattle.call_meaning.specs.Meaning.{ComesTo}
use Rattle.call_meaning.specs.Calls.{StopsWords}
use Rattle.call_streams.specs.Texts.{wants_memory}
use Rattle.call_streams.specs.Written.{HasGiven}
use Rattle.call_streams.specs.Written.HasGiven.{gave, gave_part}
use Rattle.call_streams.proofs.Replacements.{none_replaced}

-- the files that there are, or none where they aren't told
abbrev pub files_in : Option Files → Files
files_in None = λ name. None
files_in (Some files) = files

pub found_in : (told : Option Files) → IfSome told (λ files. files_in told ≡ files)
found_in None = tt
found_in (Some files) = refl

-- nothing was replaced where the files are the same
pub unreplaced : (old new : Option Files) → new ≡ old → AreReplaced [] old new
unreplaced old new kept = subst (λ z. AreReplaced [] old z) (sym kept) (none_replaced old)

-- a write that was no error wrote all
pub written_whole : (wrote : Result (Unit {0}) Outcome) (P : Type 0) (Q : Outcome → Type 0) → is_err wrote ≡ false → MatchResult wrote (λ _. P) Q → P
written_whole (Ok _) P Q all did = did
written_whole (Err outcome) P Q all did = cc

module _ (words : List (List ℕ)) (input output : Device) (shelf : Store) where
  abbrev old : Outside
  old = outside input output shelf

  -- the outcome is told as it is, or memory was wanted for its text
  pub decides_told : (new : Outside) (outcome told : Outcome) → ((told ≡ outcome) ⊎ ((wants_memory outcome ≡ true) × (told ≡ NoMemory))) → Decides words old new outcome → (wants_memory outcome ≡ true → Decides words old new NoMemory) →
      Decides words old new told
  decides_told new outcome told (inl same) decides lacks = subst (λ o. Decides words old new o) (sym same) decides
  decides_told new outcome told (inr wants) decides lacks = subst (λ o. Decides words old new o) (sym wants.1) (lacks wants.0)

  -- the same by an equation
  pub decides_as : (new : Outside) (outcome told : Outcome) → told ≡ outcome → Decides words old new outcome → Decides words old new told
  decides_as new outcome told is decides = subst (λ o. Decides words old new o) (sym is) decides

  -- nothing was read
  abbrev pub unread : Before
  unread = record { input = []; files = files_in shelf.files }

  -- the text of words that read nothing was given to the output, or couldn't be whole
  pub decides_text : (text : List ℕ) (outcome : Outcome) (comes : ComesTo words unread outcome (output_of text)) → HasUsed words unread outcome (output_of text) comes input → (output' : Device) (decided : Outcome) →
      HasGiven text outcome output output' decided → Decides words old (outside input output' shelf) decided
  decides_text text outcome comes used output' decided (gave wrote is) = decides_as (outside input output' shelf) outcome decided is (record {
    given = unread;
    effect = output_of text;
    gave = Consumes-nil input.bytes;
    found = found_in shelf.files;
    done = whole (record { output = wrote.gained; files = none_replaced shelf.files }) (came comes used (record { input = refl; output = wrote.steady; shelf = refl }));
  })
  decides_text text outcome comes used output' decided (gave_part part) = record {
    given = unread;
    effect = output_of part.wrote;
    gave = Consumes-nil input.bytes;
    found = found_in shelf.files;
    done = whole (record { output = part.gained; files = none_replaced shelf.files })
        (write_failed (record { outcome = outcome; whole = output_of text; comes = comes; used = used; wrote = part.wrote; cut = part.cut; effect_is = refl }) part.fault refl part.failed refl);
  }

  -- the words alone decide the outcome
  pub decides_words : (outcome : Outcome) → StopsWords words outcome → Decides words old old outcome
  decides_words outcome stops = record {
    given = unread;
    effect = no_effect;
    gave = Consumes-nil input.bytes;
    found = found_in shelf.files;
    done = whole (record { output = Appends-nil output.bytes; files = none_replaced shelf.files })
        (⊎_elim (λ memory. no_memory memory refl (nothing_read refl) untouched) (λ why. unrun why refl refl untouched) stops);
  }
    where
      untouched : AllSteady (outside input output shelf) (outside input output shelf)
      untouched = record { input = refl; output = refl; shelf = refl }
