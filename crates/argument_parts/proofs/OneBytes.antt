-- A string of length 1, as it is read without memory.
use Rattle.std.proofs.Common.{◌≡◌, ◌≢◌, ℕ, ◌-◌, ◌*◌, List, [], ◌∷◌, length, drop, get_or, refl, sym, ap, ◌∙◌, arith, subst, inr, Ok, Err}
use Rattle.std.specs.Prelude.{MatchResult}
use Rattle.std.specs.declared.result.Result.{Result}
use Rattle.hex.specs.Hex.{decode_of, decode_sized}
use Rattle.hex.specs.declared.error.FromHexError.{FromHexError}
use Rattle.hex.proofs.HexLemmas.{decode_of-ok, decode_sized-twice}
use Rattle.pipe_model.specs.Words.{IsFirstWord}
use Rattle.argument_parts.proofs.Delimiters.{delimited_read}
use Rattle.argument_parts.specs.Bytes.{IsByte, IsByteFault}
use Rattle.argument_parts.specs.Strings.{IsDelimited, IsHexadecimal}
use Rattle.argument_parts.specs.declared.fault.FaultKind.TheVariants.{OutOfRange}

-- a byte between delimiters
pub between_read : (text string rest : List ℕ) → IsDelimited text string rest → length string ≡ 1 → IsByte text (get_or string 0 0) (drop (length text - length rest) text)
between_read text [] rest is one = absurd (omega (arith, one))
between_read text (byte ∷ []) rest is one = delimited_read text (byte ∷ []) rest is (omega arith)
between_read text (byte ∷ (next ∷ string)) rest is one = absurd (omega (arith, one))

module _ (text word rest digits : List ℕ) (first : IsFirstWord text word rest) (read : (string : List ℕ) × (is : IsHexadecimal word string) × (is.digits ≡ digits)) where
  -- more digits than two
  pub digits_long : ((string : List ℕ) → decode_of digits ≡ Ok string → length string ≢ 1) → IsByteFault text (record { left = length text; kind = OutOfRange })
  digits_long none = inr (record {
    string = read.0;
    rest = rest;
    read = inr (record { word = word; first = first; worth = read.1 });
    other = none read.0 (ap decode_of (sym read.2) ∙ read.1.worth);
    fault_is = refl;
  })

-- digits that are no byte
module _ (digits out : List ℕ) (result : Result Unit FromHexError) (told : MatchResult (decode_sized digits 1) (λ bytes. (result ≡ Ok tt) × (out ≡ bytes)) (λ e. result ≡ Err e)) where
  pub decoded_other : (e : FromHexError) → result ≡ Err e → (string : List ℕ) → decode_of digits ≡ Ok string → length string ≢ 1
  decoded_other e failed string worth one =
      let long = (decode_of-ok digits string worth).2 in
      let twice : length digits ≡ 2 * 1 = omega (arith, long, one) in
      let told_ok = subst (λ (answer : Result (List ℕ) FromHexError). MatchResult answer (λ bytes. (result ≡ Ok tt) × (out ≡ bytes)) (λ e. result ≡ Err e)) (decode_sized-twice digits 1 twice ∙ worth) told in
      let clash : ◌≡◌ {A = Result Unit FromHexError} (Ok tt) (Err e) = sym told_ok.0 ∙ failed in
      cc
