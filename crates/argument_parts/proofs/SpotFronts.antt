-- How a text begins with the place of a field.
use Rattle.std.proofs.Common.{◌≡◌, ◌≢◌, ℕ, ◌+◌, ◌-◌, ◌<◌, ◌≤◌, Bool, true, false, if◌then◌else◌, List, [], ◌∷◌, ◌++◌, length, drop, get_or, sym, ap, ◌∙◌, arith, subst, inl, inr, Option, Some, None, length-append}
use Rattle.std.specs.List.{Contains}
use Rattle.pipe_model.specs.declared.items.Spot.{Spot}
use Rattle.pipe_model.specs.declared.items.Spot.TheVariants.{Column, Next, NextWord}
use Rattle.pipe_model.specs.Words.{IsFirstWord}
use Rattle.pipe_model.proofs.FirstWords.{same_word}
use Rattle.argument_parts.proofs.RangeFronts.{emptied}
use Rattle.argument_parts.proofs.Spellings.{as_many, same_parts}
use Rattle.argument_parts.proofs.SpotParts.{length_stops, name_undotted, one_dotted}
use Rattle.argument_parts.specs.Bounds.{Fits, IsMisfit, IsSecondMisfit, IsReversed}
use Rattle.argument_parts.specs.Numbers.{AreFirstDigits, IsNumber}
use Rattle.argument_parts.specs.PlainRanges.{fault_of}
use Rattle.argument_parts.specs.Ranges.{Ends, IsSpelling}
use Rattle.argument_parts.specs.RangeWords.{fault_in}
use Rattle.argument_parts.specs.Spots.{IsColumn, IsColumnFault, IsColumnLength, IsLength, IsNextFault, IsNextName, IsNextPlace, IsNextSpelling, IsNoSpot, IsSpot, IsSpotMisfit}
use Rattle.argument_parts.specs.declared.bounds.Misfit.{Misfit}
use Rattle.argument_parts.specs.declared.bounds.Misfit.TheVariants.{First, Second, Reversed}
use Rattle.argument_parts.specs.declared.fault.FaultKind.TheVariants.{OutOfRange}
use Rattle.argument_parts.specs.declared.part.TextFault.{TextFault}
use Rattle.argument_parts.specs.declared.ranges.Ending.{Ending}
use Rattle.argument_parts.specs.declared.ranges.Ending.TheVariants.{Alone, To, Open, Long}
use Rattle.argument_parts.specs.declared.ranges.Spelling.{Spelling}
use Rattle.argument_parts.specs.declared.spelled.WordFault.{WordFault}

-- Columns

-- where a second number is wrong, something stands after the first
second_stands : (after : List ℕ) (ending : Ending) → Ends after ending → IsSecondMisfit ending → 0 < length after
second_stands after Alone ends misfit = absurd misfit
second_stands after (To last) ends misfit = omega (arith, ap length ends.1)
second_stands after Open ends misfit = absurd misfit
second_stands after (Long len) ends misfit = omega (arith, ap length ends.1)

reversed_stands : (first : ℕ) (after : List ℕ) (ending : Ending) → Ends after ending → IsReversed first ending → 0 < length after
reversed_stands first after Alone ends misfit = absurd misfit
reversed_stands first after (To last) ends misfit = omega (arith, ap length ends.1)
reversed_stands first after Open ends misfit = absurd misfit
reversed_stands first after (Long len) ends misfit = absurd misfit

module _ (word digits after : List ℕ) (first : AreFirstDigits word digits after) (spelling : Spelling) (spelled : IsSpelling word spelling) where
  -- a fault of a spelled word is within it
  within_word : (misfit : Misfit) → IsMisfit spelling misfit → (fault_of (length digits + 1) misfit).at ≤ length word
  within_word First misfits = omega arith
  within_word Second misfits =
      let some = second_stands spelled.after spelling.ending spelled.ends misfits.1 in
      omega (arith, some, ap length (same_parts word digits after first spelling spelled).1, ap length first.spells, length-append digits after)
  within_word Reversed misfits =
      let some = reversed_stands spelling.first spelled.after spelling.ending spelled.ends misfits.1 in
      omega (arith, some, ap length (same_parts word digits after first spelling spelled).1, ap length first.spells, length-append digits after)

  pub fault_within : (misfit : Misfit) (fault : WordFault) → IsMisfit spelling misfit → fault ≡ fault_of (length digits + 1) misfit → fault.at ≤ length word
  fault_within misfit fault misfits is = omega (arith, within_word misfit misfits, ap (λ (f : WordFault). f.at) is)

  -- where its numbers don't fit, that is a fault of a column
  pub column_fault : (text rest : List ℕ) (left : ℕ) (misfit : Misfit) (fault : WordFault) → spelling.ending ≢ Open → IsMisfit spelling misfit → fault ≡ fault_of (length digits + 1) misfit → IsFirstWord text word rest → length text ≡ left
      → IsColumnFault text (fault_in left fault)
  column_fault text rest left misfit fault closed misfits is first_is same = record {
    word = word;
    rest = rest;
    first_is = first_is;
    spelling = spelling;
    spelled = spelled;
    closed = closed;
    misfit = misfit;
    misfits = misfits;
    fault_is = ap (λ n. fault_in n fault) (sym same) ∙ ap (fault_in (length text)) (is ∙ ap (λ n. fault_of (n + 1) misfit) (as_many word digits after first spelling spelled));
  }

-- NEXT and NEXTWORD

-- a place that comes next, with a gap or without one
next_is : (text rest : List ℕ) (apart : Bool) (len : Option ℕ) → IsNextPlace text apart len rest → IsSpot text (if apart then NextWord len else Next len) rest
next_is text rest false len is = is
next_is text rest true len is = is

-- a word that goes on goes on with a dot
dotted : (after : List ℕ) → 0 < length after → get_or after 0 46 ≡ 46 → after ≡ 46 ∷ drop 1 after
dotted [] some stops = absurd (omega arith)
dotted (byte ∷ after) some stops = ap (λ b. b ∷ after) stops

-- what is no number is no length
no_length : (after digits : List ℕ) (len : Option ℕ) → after ≡ 46 ∷ digits → ((value : ℕ) → ¬ IsNumber digits value) → ¬ IsLength after len
no_length after digits None dot none is = let both = sym is ∙ dot in cc
no_length after digits (Some len) dot none is =
    let both = sym is.1 ∙ dot in
    let same : is.0 ≡ digits = cc in
    none len (subst (λ digits. IsNumber digits len) same is.2)

module _ (word name after : List ℕ) (spells : word ≡ name ++ after) (whole : ¬ Contains name 46) (stops : get_or after 0 46 ≡ 46) where
  -- the name is what stands before the first dot
  name_parts : (apart : Bool) (len : Option ℕ) (is : IsNextSpelling word apart len) → (name ≡ is.name) × (after ≡ is.after)
  name_parts apart len is = one_dotted name is.name after is.after whole (name_undotted is.name apart is.names) stops (length_stops is.after len is.ends) (sym spells ∙ is.spells)

  pub next_unnamed : ((apart : Bool) → ¬ IsNextName name apart) → (apart : Bool) (len : Option ℕ) → ¬ IsNextSpelling word apart len
  next_unnamed none apart len is = none apart (subst (λ name. IsNextName name apart) (sym (name_parts apart len is).0) is.names)

  pub next_unnumbered : (digits : List ℕ) → digits ≡ drop 1 after → 0 < length after → ((value : ℕ) → ¬ IsNumber digits value) → (apart : Bool) (len : Option ℕ) → ¬ IsNextSpelling word apart len
  next_unnumbered digits rest some none apart len is =
      no_length after digits len (dotted after some stops ∙ ap (λ b. 46 ∷ b) (sym rest)) none (subst (λ after. IsLength after len) (sym (name_parts apart len is).1) is.ends)

  module _ (apart : Bool) (names : IsNextName name apart) (text rest : List ℕ) (first : IsFirstWord text word rest) where
    -- the name stands alone
    pub next_alone : length after ≡ 0 → IsSpot text (if apart then NextWord None else Next None) rest
    next_alone none = next_is text rest apart None (record {
      word = word;
      first_is = first;
      spelled = record { name = name; after = after; spells = spells; names = names; ends = emptied after none };
      fits = tt;
    })

    -- a length comes after it
    module _ (digits : List ℕ) (len : ℕ) (left_is : digits ≡ drop 1 after) (some : 0 < length after) (counts : IsNumber digits len) where
      long : IsNextSpelling word apart (Some len)
      long = record { name = name; after = after; spells = spells; names = names; ends = (digits, dotted after some stops ∙ ap (λ b. 46 ∷ b) (sym left_is), counts) }

      pub next_long : (same : ℕ) → Fits len → same ≡ len → IsSpot text (if apart then NextWord (Some same) else Next (Some same)) rest
      next_long same fits is = subst (λ n. IsSpot text (if apart then NextWord (Some n) else Next (Some n)) rest) (sym is) (next_is text rest apart (Some len) (record { word = word; first_is = first; spelled = long; fits = fits }))

      pub next_fault : (left : ℕ) → ¬ Fits len → length text ≡ left → IsNextFault text (record { left = left - (length name + 1); kind = OutOfRange })
      next_fault left outside same = record {
        word = word;
        rest = rest;
        first_is = first;
        apart = apart;
        len = len;
        spelled = record { name = name; after = after; spells = spells; names = names; ends = (digits, dotted after some stops ∙ ap (λ b. 46 ∷ b) (sym left_is), counts) };
        outside = outside;
        fault_is = ap (λ n. record { left = n - (length name + 1); kind = OutOfRange }) (sym same);
      }

-- No place

module _ (text word rest : List ℕ) (first : IsFirstWord text word rest) (open_only : (spelling : Spelling) → IsSpelling word spelling → spelling.ending ≡ Open) (none : (apart : Bool) (len : Option ℕ) → ¬ IsNextSpelling word apart len) where
  -- a range without an end gives no column
  no_end : (ending : Ending) (first : ℕ) (len : Option ℕ) → ending ≡ Open → ¬ IsColumnLength first ending len
  no_end ending first len same ends = subst (λ ending. IsColumnLength first ending len) same ends

  no_column : (first : ℕ) (len : Option ℕ) (more : List ℕ) → ¬ IsColumn text first len more
  no_column begins len more is =
      let spelled = subst (λ word. IsSpelling word is.spelling) (same_word text is.word more word rest is.first_is first) is.spelled in
      no_end is.spelling.ending is.spelling.first len (open_only is.spelling spelled) is.ends

  no_next : (other more : List ℕ) (apart : Bool) (len : Option ℕ) → IsFirstWord text other more → ¬ IsNextSpelling other apart len
  no_next other more apart len also is = none apart len (subst (λ word. IsNextSpelling word apart len) (same_word text other more word rest also first) is)

  no_place : (spot : Spot) (more : List ℕ) → ¬ IsSpot text spot more
  no_place (Column begins len) more is = no_column begins len more is
  no_place (Next len) more is = no_next is.word more false len is.first_is is.spelled
  no_place (NextWord len) more is = no_next is.word more true len is.first_is is.spelled

  no_place_fault : (fault : TextFault) → ¬ IsSpotMisfit text fault
  no_place_fault fault (inl is) = is.closed (open_only is.spelling (subst (λ word. IsSpelling word is.spelling) (same_word text is.word is.rest word rest is.first_is first) is.spelled))
  no_place_fault fault (inr is) = no_next is.word is.rest is.apart (Some is.len) is.first_is is.spelled

  pub no_spot : IsNoSpot text
  no_spot = record { none = no_place; no_misfit = no_place_fault }
