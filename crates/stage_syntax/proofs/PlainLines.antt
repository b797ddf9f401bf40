-- What the line of a kind that can be typed says: an output, and an input where it isn't first and is fed no file.
use Rattle.std.proofs.Common.{◌≡◌, ℕ, zero, suc, ◌<◌, Bool, true, false, ◌&&◌, ◌||◌, nat_lt, arith}
use Rattle.pipe_model.specs.Form.{inputs_by}
use Rattle.pipe_model.specs.Table.{Line, outputs_by}
use Rattle.pipe_model.proofs.Truths.{both}
use Rattle.stage_syntax.specs.Files.{is_of_file}

-- as a test
abbrev pub is_plain : Bool → Line → Bool
is_plain first l = nat_lt 0 (outputs_by l) && (nat_lt 0 (inputs_by l.shape) || (is_of_file l.feed || first))

pub record IsPlain (first : Bool) (l : Line) : Type 0 where
  pub output : 0 < outputs_by l
  pub input : first ≡ false → is_of_file l.feed ≡ false → 0 < inputs_by l.shape

some : (n : ℕ) → nat_lt 0 n ≡ true → 0 < n
some zero is = cc
some (suc n) is = omega arith

fed : (first file : Bool) (n : ℕ) → (nat_lt 0 n || (file || first)) ≡ true → first ≡ false → file ≡ false → 0 < n
fed first file zero is later none = cc
fed first file (suc n) is later none = omega arith

-- the test says so
pub plain_line : (first : Bool) (l : Line) → is_plain first l ≡ true → IsPlain first l
plain_line first l is =
    let tests = both (nat_lt 0 (outputs_by l)) _ is in
    record {
      output = some (outputs_by l) tests.0;
      input = fed first (is_of_file l.feed) (inputs_by l.shape) tests.1;
    }
