-- What a call finds, and what it does.
use Rattle.std.specs.Prelude.{◌≡◌, ◌≢◌, ℕ, if◌then◌else◌, List, [], ◌∷◌, ◌++◌}
use Rattle.std.specs.Str.{bytes_eq}
use Rattle.std.specs.declared.option.Option.{Option}
use Rattle.std.specs.declared.option.Option.TheVariants.{Some, None}
use Rattle.outside.specs.Files.{Files}
use Rattle.journal_file.specs.Text.{journal_text}
use Rattle.pipe_model.specs.declared.step.Entry.{Entry}
use Rattle.pipe_model.specs.Keys.{is_less}
use Rattle.pipe_model.specs.Reply.{FileText, Reply}

-- the bytes of standard input, and the files by their names
pub record Before : Type 0 where
  pub input : List ℕ
  pub files : Files

-- the bytes for standard output, the files that are replaced, in that order, and the journal's file, which is replaced last where it is asked for
pub record Effect : Type 0 where
  pub output : List ℕ
  pub files : List FileText
  pub trace : Option FileText

-- nothing is written
abbrev pub no_effect : Effect
no_effect = record { output = []; files = []; trace = None }

-- these bytes are written on standard output, and nothing else is
abbrev pub output_of : List ℕ → Effect
output_of bytes = record no_effect { output = bytes }

-- files in the order of their names, of two of one name the earlier one first
abbrev pub inserted : FileText → List FileText → List FileText
inserted file [] = file ∷ []
inserted file (other ∷ rest) = if is_less file.0 other.0 then file ∷ (other ∷ rest) else other ∷ inserted file rest

abbrev pub in_order_after : List FileText → List FileText → List FileText
in_order_after sorted [] = sorted
in_order_after sorted (file ∷ files) = in_order_after (inserted file sorted) files

abbrev pub in_order : List FileText → List FileText
in_order files = in_order_after [] files

-- the effect of a run with this reply
abbrev pub effect_of : Reply → Effect
effect_of answer = record { output = answer.console; files = in_order answer.files; trace = None }

-- the same with the text of a journal for the file of this name, if one is named
abbrev pub traced : Option (List ℕ) → List Entry → Effect → Effect
traced None journal effect = effect
traced (Some name) journal effect = record effect { trace = Some (name, journal_text journal) }

-- the same but for the journal's file
abbrev pub untraced : Effect → Effect
untraced effect = record effect { trace = None }

abbrev pub as_files : Option FileText → List FileText
as_files None = []
as_files (Some file) = file ∷ []

-- all files that are replaced, in their order
abbrev pub replaced_by : Effect → List FileText
replaced_by effect = effect.files ++ as_files effect.trace

-- the files after these replacements, one after the other
abbrev pub files_after : List FileText → Files → Files
files_after [] files = files
files_after (file ∷ later) files = files_after later (λ name. if bytes_eq name file.0 then Some file.1 else files name)

-- these files were replaced and no others, where the files are told, but for the one of this name: what it holds is open
abbrev pub AreReplacedBut : List ℕ → List FileText → Option Files → Option Files → Type 0
AreReplacedBut name replaced None new = new ≡ None
AreReplacedBut name replaced (Some old) None = ⊥
AreReplacedBut name replaced (Some old) (Some new) = (other : List ℕ) → other ≢ name → new other ≡ files_after replaced old other

-- these files were replaced and no others, where the files are told
abbrev pub AreReplaced : List FileText → Option Files → Option Files → Type 0
AreReplaced replaced None new = new ≡ None
AreReplaced replaced (Some old) None = ⊥
AreReplaced replaced (Some old) (Some new) = (name : List ℕ) → new name ≡ files_after replaced old name

-- of these files those before the one of this name were replaced and no others: what that one holds is open
pub record ArePartReplaced (name : List ℕ) (replaced : List FileText) (old new : Option Files) : Type 0 where
  pub before : List FileText
  pub text : List ℕ
  pub behind : List FileText
  pub order : replaced ≡ before ++ (name, text) ∷ behind
  pub others : AreReplacedBut name before old new
