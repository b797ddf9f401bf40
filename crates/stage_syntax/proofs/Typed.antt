-- What is known of a kind that can be typed.
use Rattle.std.proofs.Common.{◌≡◌, Bool, true, false, not, ◌&&◌, refl}
use Rattle.std.proofs.lemmas.Bool.{not-true}
use Rattle.pipe_model.specs.declared.kind.Kind.{Kind}
use Rattle.pipe_model.specs.declared.kind.Kind.TheVariants.{FileIn}
use Rattle.pipe_model.specs.Table.{line_of}
use Rattle.pipe_model.proofs.Truths.{both}
use Rattle.stage_syntax.proofs.PlainLines.{IsPlain, is_plain, plain_line}
use Rattle.stage_syntax.specs.Files.{is_of_file, is_unfiled}

-- what is known of a kind that was read
pub record IsTyped (first : Bool) (kind : Kind) : Type 0 where
  pub plain : IsPlain first (line_of kind)
  pub proper : (line_of kind).proper ≡ true
  pub unfiled : is_unfiled kind ≡ true

-- what is known of one that is fed no file
pub record IsOther (first : Bool) (kind : Kind) : Type 0 where
  pub typed : IsTyped first kind
  pub fileless : is_of_file (line_of kind).feed ≡ false

-- as a test
abbrev pub is_other : Bool → Kind → Bool
is_other first kind = not (is_of_file (line_of kind).feed) && is_plain first (line_of kind)

unfiled_other : (kind : Kind) → is_of_file (line_of kind).feed ≡ false → is_unfiled kind ≡ true
unfiled_other (FileIn name bytes) other = cc
unfiled_other _ other = refl

-- what is to be shown of it
pub known : (first : Bool) (kind : Kind) → is_other first kind ≡ true → (line_of kind).proper ≡ true → IsOther first kind
known first kind other proper =
    let tests = both (not (is_of_file (line_of kind).feed)) (is_plain first (line_of kind)) other in
    let fileless = not-true (is_of_file (line_of kind).feed) tests.0 in
    record {
      typed = record { plain = plain_line first (line_of kind) tests.1; proper = proper; unfiled = unfiled_other kind fileless };
      fileless = fileless;
    }
