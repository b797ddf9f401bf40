-- Replacements, one after the other, on the files that a shelf tells.
use Rattle.std.proofs.Common.{◌≡◌, ℕ, Bool, true, false, cond, List, [], ◌∷◌, ◌++◌, refl, sym, ◌∙◌, ap, append_assoc, Option, Some, None}
use Rattle.std.proofs.lemmas.Bool.{both_ways}
use Rattle.std.proofs.lemmas.Slice.Eq.{bytes_eq-Decides}
use Rattle.std.specs.Str.{bytes_eq}
use Rattle.outside.specs.declared.shelf.Replaced.{Replaced}
use Rattle.outside.specs.declared.shelf.Replaced.TheVariants.{Stored}
use Rattle.outside.specs.Files.{Files}
use Rattle.outside.specs.Shelf.{Replaces}
use Rattle.pipe_model.specs.Reply.{FileText}
use Rattle.call_meaning.specs.Effects.{ArePartReplaced, AreReplaced, AreReplacedBut, files_after}
use Rattle.call_streams.proofs.Orders.{after_append, after_at}

-- nothing is replaced at first
pub none_replaced : (told : Option Files) → AreReplaced [] told told
none_replaced None = refl
none_replaced (Some files) = λ name. refl

-- one file more was replaced
pub replaced_more : (done : List FileText) (file : FileText) (old now new : Option Files) → AreReplaced done old now → Replaces now new file.0 file.1 Stored → AreReplaced (done ++ file ∷ []) old new
replaced_more done file None None new replaced stores = stores
replaced_more done file None (Some now) new replaced stores = cc
replaced_more done file (Some old) None new replaced stores = absurd replaced
replaced_more done file (Some old) (Some now) None replaced stores = absurd stores
replaced_more done file (Some old) (Some now) (Some new) replaced stores = λ name. by name (bytes_eq name file.0) refl
  where
    left : (name : List ℕ) (t : Bool) → bytes_eq name file.0 ≡ t → cond t (Some file.1) (files_after done old name) ≡ files_after (done ++ file ∷ []) old name
    left name t is = ap (λ b. cond b (Some file.1) (files_after done old name)) (sym is) ∙ ap (λ (f : Files). f name) (sym (after_append done (file ∷ []) old))

    by : (name : List ℕ) (t : Bool) → bytes_eq name file.0 ≡ t → new name ≡ files_after (done ++ file ∷ []) old name
    by name true is = ap new ((bytes_eq-Decides name file.0).0 is) ∙ stores.0 ∙ left name true is
    by name false is = stores.1 name (λ same. both_ways (bytes_eq name file.0) is ((bytes_eq-Decides name file.0).1 same)) ∙ replaced name ∙ left name false is

-- One replacement after another

-- these and then those were replaced
pub replaced_after : (files later : List FileText) (old now new : Option Files) → AreReplaced files old now → AreReplaced later now new → AreReplaced (files ++ later) old new
replaced_after files later None None new first next = next
replaced_after files later None (Some now) new first next = cc
replaced_after files later (Some old) None new first next = absurd first
replaced_after files later (Some old) (Some now) None first next = absurd next
replaced_after files later (Some old) (Some now) (Some new) first next = λ name.
    next name ∙ after_at later now (files_after files old) name (first name) ∙ ap (λ (f : Files). f name) (sym (after_append files later old))

-- these were, and then at most one name changed
pub replaced_but : (files : List FileText) (name : List ℕ) (old now new : Option Files) → AreReplaced files old now → AreReplacedBut name [] now new → AreReplacedBut name files old new
replaced_but files name None None new first others = others
replaced_but files name None (Some now) new first others = cc
replaced_but files name (Some old) None new first others = absurd first
replaced_but files name (Some old) (Some now) None first others = absurd others
replaced_but files name (Some old) (Some now) (Some new) first others = λ other differs. others other differs ∙ first other

-- Up to one that wasn't carried out

-- a replacement changes at most its own name
one_changed : (name bytes : List ℕ) (answer : Replaced) (now new : Option Files) → Replaces now new name bytes answer → AreReplacedBut name [] now new
one_changed name bytes answer None new leaves = leaves
one_changed name bytes answer (Some now) None leaves = absurd leaves
one_changed name bytes answer (Some now) (Some new) leaves = leaves.1

-- those before it were replaced
pub replaced_part : (files done later : List FileText) (file : FileText) → done ++ file ∷ later ≡ files → (bytes : List ℕ) (answer : Replaced) (old now new : Option Files) → AreReplaced done old now → Replaces now new file.0 bytes answer →
    ArePartReplaced file.0 files old new
replaced_part files done later file is bytes answer old now new replaced leaves = record {
  before = done;
  text = file.1;
  behind = later;
  order = sym is;
  others = replaced_but done file.0 old now new replaced (one_changed file.0 bytes answer now new leaves);
}

-- also where more stand behind
pub part_further : (name : List ℕ) (files more : List FileText) (old new : Option Files) → ArePartReplaced name files old new → ArePartReplaced name (files ++ more) old new
part_further name files more old new part = record {
  before = part.before;
  text = part.text;
  behind = part.behind ++ more;
  order = ap (λ z. z ++ more) part.order ∙ append_assoc part.before ((name, part.text) ∷ part.behind) more;
  others = part.others;
}

-- and where all but the last were
pub part_last : (files : List FileText) (name text : List ℕ) (old now new : Option Files) → AreReplaced files old now → AreReplacedBut name [] now new → ArePartReplaced name (files ++ (name, text) ∷ []) old new
part_last files name text old now new replaced others = record {
  before = files;
  text = text;
  behind = [];
  order = refl;
  others = replaced_but files name old now new replaced others;
}
