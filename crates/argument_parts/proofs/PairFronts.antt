-- How a text begins with two strings.
use Rattle.std.proofs.Common.{◌≡◌, ℕ, suc, ◌+◌, ◌-◌, ◌<◌, List, ◌∷◌, ◌++◌, length, take, drop, get_or, sym, ap, ◌∙◌, arith, subst, None, Some, inl, inr}
use borrow.Author.Tests.{eqb-true}
use Rattle.std.specs.List.{Contains}
use Rattle.std.proofs.Math.Seq.{split_at}
use Rattle.std.proofs.lemmas.List.{append_assoc, drop-drop}
use Rattle.bstr.specs.Find.{IsFirstByte, is_byte}
use Rattle.argument_parts.proofs.Delimiters.{not_before, nowhere_after, rest_after}
use Rattle.argument_parts.proofs.OneStrings.{one_delimited}
use Rattle.argument_parts.proofs.Outcomes.{delimited_front, not_unclosed}
use Rattle.argument_parts.proofs.Passed.{rest_left}
use Rattle.argument_parts.proofs.StringPairs.{first_delimited}
use Rattle.argument_parts.specs.PairsOfStrings.{AreDelimited, AreMisfits, AreStrings, AreUnclosed, IsAnyString, IsAnyStringMisfit}
use Rattle.argument_parts.specs.Refusals.{Refuses}
use Rattle.argument_parts.specs.Strings.{IsDelimited, IsHexadecimalWord, IsUnclosed}
use Rattle.pipe_model.specs.Words.{IsUnblanked}
use Rattle.argument_parts.specs.declared.refusal.Refusal.{Refusal}
use Rattle.argument_parts.specs.declared.refusal.Refusal.TheVariants.{Fault, NoMemory}

-- a string that may be empty was read
pub delimited_any : (text string rest : List ℕ) → IsDelimited text string rest → IsAnyString text string (drop (length text - length rest) text)
delimited_any text string rest delimited = inl (rw (rest_after text string rest delimited) delimited)

-- what is unclosed once is unclosed
pub unclosed_once : (text : List ℕ) → IsUnclosed text → AreUnclosed text
unclosed_once text unclosed = record {
  delimiter = unclosed.delimiter;
  after = unclosed.after;
  chosen = unclosed.chosen;
  spells = unclosed.spells;
  none = λ first second rest are. not_unclosed text first _ (first_delimited text first second rest are) unclosed;
}

module _ (text first after : List ℕ) (delimited : IsDelimited text first after) where
  -- without a third delimiter there is no second string
  pub no_third : IsFirstByte (is_byte (get_or text 0 0)) after None → AreUnclosed text
  no_third nowhere = record {
    delimiter = delimited.delimiter;
    after = first ++ (delimited.delimiter ∷ after);
    chosen = delimited.chosen;
    spells = delimited.spells;
    none = λ other second rest are.
        let whole = first_delimited text other second rest are in
        let same = one_delimited text first other after _ delimited whole in
        let byte : get_or text 0 0 ≡ are.delimiter = delimited_front text other _ whole in
        nowhere_after after second rest (get_or text 0 0) nowhere (same.1 ∙ ap (λ b. second ++ b ∷ rest) (sym byte));
  }

  -- where the delimiter stands a third time, the second string and the rest are around it
  third_at : (at : ℕ) → IsFirstByte (is_byte (get_or text 0 0)) after (Some at) → AreDelimited text first (take at after) (drop (at + 1) after)
  third_at at found =
      let byte : get_or text 0 0 ≡ delimited.delimiter = delimited_front text first after delimited in
      let high = found.0.high in
      let next : suc at ≡ at + 1 = omega arith in
      let stands : get_or after at 0 ≡ delimited.delimiter = eqb-true (get_or after at 0) (get_or text 0 0) found.1 ∙ byte in
      let cut : after ≡ take at after ++ (delimited.delimiter ∷ drop (at + 1) after) =
      split_at after at 0 high ∙ ap (λ b. take at after ++ b ∷ drop (suc at) after) stands ∙ ap (λ n. take at after ++ delimited.delimiter ∷ drop n after) next in
      record {
        delimiter = delimited.delimiter;
        chosen = delimited.chosen;
        first_whole = delimited.whole;
        second_whole = subst (λ b. ¬ Contains (take at after) b) byte (not_before after (get_or text 0 0) at found);
        spells = delimited.spells ∙ ap (λ rest. delimited.delimiter ∷ first ++ (delimited.delimiter ∷ rest)) cut;
      }

  -- what is left after the third delimiter
  pub pair_read : (at : ℕ) → IsFirstByte (is_byte (get_or text 0 0)) after (Some at) → AreStrings text first (take at after) (drop (length text - length after + (at + 1)) text)
  pair_read at found =
      let passed : drop (length text - length after + (at + 1)) text ≡ drop (at + 1) after =
      sym (drop-drop (at + 1) (length text - length after) text) ∙ ap (drop (at + 1)) (rest_after text first after delimited) in
      inl (rw passed (third_at at found))

-- so many bytes before the rest of a rest
pub passed_twice : (text word after blanks front : List ℕ) (more : ℕ) → text ≡ word ++ after → after ≡ blanks ++ front → drop (length text - length front + more) text ≡ drop more front
passed_twice text word after blanks front more cut spells =
    sym (drop-drop more (length text - length front) text)
    ∙ ap (drop more) (rest_left text (word ++ blanks) front (cut ∙ ap (λ rest. word ++ rest) spells ∙ sym (append_assoc word blanks front)))

module _ (text first after : List ℕ) (hexadecimal : IsHexadecimalWord text first after) (front : List ℕ) (unblanked : IsUnblanked after front) where
  -- what comes after a hexadecimal string begins as a string
  pub second_misfit : 0 < length front → (refusal : Refusal) → Refuses (IsAnyStringMisfit front) refusal → Refuses (AreMisfits text) refusal
  second_misfit some (Fault fault) misfit = inr (inr (record {
    first = first;
    front = front;
    before = record { after = after; hexadecimal = hexadecimal; unblanked = unblanked };
    misfit = inr (some, inl misfit);
  }))
  second_misfit some NoMemory misfit = tt

  pub second_read : (second : List ℕ) (more : ℕ) → IsAnyString front second (drop more front) → AreStrings text first second (drop (length text - length front + more) text)
  second_read second more string = inr (record {
    front = front;
    before = record { after = after; hexadecimal = hexadecimal; unblanked = unblanked };
    string = rw (passed_twice text hexadecimal.word after _ front more hexadecimal.first.spells unblanked.spells) string;
  })
