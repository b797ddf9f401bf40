-- Each text begins as the place of a field, has a fault of one, or begins otherwise.
use Rattle.std.proofs.Common.{◌≡◌, ◌≢◌, ℕ, append-nil, suc, ◌+◌, ◌-◌, ◌<◌, ◌⊎◌, ◌∙◌, Bool, true, false, if◌then◌else◌, List, [], ◌∷◌, ◌++◌, length, drop, get_or, codes, Option, Some, None, refl, sym, ap, inl, inr}
use Rattle.std.specs.List.{Contains}
use Rattle.std.specs.Str.{str_to_ascii_lowercase}
use Rattle.pipe_model.specs.declared.items.Spot.{Spot}
use Rattle.pipe_model.specs.declared.items.Spot.TheVariants.{Column, Next, NextWord}
use Rattle.pipe_model.specs.Words.{IsFirstWord}
use Rattle.argument_parts.proofs.EachRange.{each_fit, each_last, each_spelling}
use Rattle.argument_parts.proofs.EachWord.{each_length, each_number, each_until, each_word, same_or_other}
use Rattle.argument_parts.proofs.OneSpellings.{one_spelling}
use Rattle.argument_parts.proofs.SpotFronts.{next_alone, next_fault, next_long, next_unnamed, next_unnumbered, no_spot}
use Rattle.argument_parts.specs.Bounds.{Fits, IsLast, IsMisfit, IsReversed, IsSecondMisfit}
use Rattle.argument_parts.specs.Numbers.{IsNumber}
use Rattle.argument_parts.specs.PlainRanges.{fault_of}
use Rattle.argument_parts.specs.Ranges.{IsSpelling}
use Rattle.argument_parts.specs.RangeWords.{fault_in}
use Rattle.argument_parts.specs.Spots.{IsColumnFault, IsColumnLength, IsNextName, IsNoSpot, IsSpot, IsSpotMisfit}
use Rattle.argument_parts.specs.declared.bounds.Misfit.{Misfit}
use Rattle.argument_parts.specs.declared.bounds.Misfit.TheVariants.{First, Second, Reversed}
use Rattle.argument_parts.specs.declared.fault.FaultKind.TheVariants.{OutOfRange}
use Rattle.argument_parts.specs.declared.part.TextFault.{TextFault}
use Rattle.argument_parts.specs.declared.ranges.Ending.{Ending}
use Rattle.argument_parts.specs.declared.ranges.Ending.TheVariants.{Alone, To, Open, Long}
use Rattle.argument_parts.specs.declared.ranges.Spelling.{Spelling}

abbrev pub SomeSpot : List ℕ → Type 0
SomeSpot text = ((spot : Spot) × (rest : List ℕ) × IsSpot text spot rest) ⊎ (((fault : TextFault) × IsSpotMisfit text fault) ⊎ IsNoSpot text)

-- a range with a last number has a length as a column
column_length : (first : ℕ) (ending : Ending) (last : Option ℕ) → IsLast first ending last → ending ≢ Open → (len : Option ℕ) × IsColumnLength first ending len
column_length first Alone last ends closed = (None, refl)
column_length first (To number) last ends closed = (Some (suc number - first), (ends.0, ends.1, refl))
column_length first Open last ends closed = absurd (closed refl)
column_length first (Long len) last ends closed = (Some len, (ends.0, refl))

-- what follows the first number is `-*`, or not
each_open : (ending : Ending) → (ending ≡ Open) ⊎ (ending ≢ Open)
each_open Alone = inr (λ same. cc)
each_open (To last) = inr (λ same. cc)
each_open Open = inl refl
each_open (Long len) = inr (λ same. cc)

-- a name is NEXT or NEXTWORD, or neither
each_next_name : (name : List ℕ) → ((apart : Bool) × IsNextName name apart) ⊎ ((apart : Bool) → ¬ IsNextName name apart)
each_next_name name = by (same_or_other lower (codes "next")) (same_or_other lower (codes "n")) (same_or_other lower (codes "nextword")) (same_or_other lower (codes "nw"))
  where
    lower : List ℕ
    lower = str_to_ascii_lowercase name

    by : (lower ≡ codes "next") ⊎ (lower ≡ codes "next" → ⊥) → (lower ≡ codes "n") ⊎ (lower ≡ codes "n" → ⊥) → (lower ≡ codes "nextword") ⊎ (lower ≡ codes "nextword" → ⊥) → (lower ≡ codes "nw") ⊎ (lower ≡ codes "nw" → ⊥)
        → ((apart : Bool) × IsNextName name apart) ⊎ ((apart : Bool) → ¬ IsNextName name apart)
    by (inl is) b c d = inl (false, inl is)
    by (inr never) (inl is) c d = inl (false, inr is)
    by (inr never) (inr also) (inl is) d = inl (true, inl is)
    by (inr never) (inr also) (inr nor) (inl is) = inl (true, inr is)
    by (inr never) (inr also) (inr nor) (inr last) = inr none
      where
        none : (apart : Bool) → ¬ IsNextName name apart
        none false (inl is) = never is
        none false (inr is) = also is
        none true (inl is) = nor is
        none true (inr is) = last is

-- what stands before the first dot, and the rest
abbrev Dotted : List ℕ → Type 0
Dotted word = (name : List ℕ) × (after : List ℕ) × (word ≡ name ++ after) × (¬ Contains name 46) × (get_or after 0 46 ≡ 46)

before_dot : (word : List ℕ) → Dotted word
before_dot word = by (each_until 46 word)
  where
    by : ((front : List ℕ) × (rest : List ℕ) × (¬ Contains front 46) × (word ≡ front ++ (46 ∷ rest))) ⊎ (¬ Contains word 46) → Dotted word
    by (inl (name, rest, whole, spells)) = (name, 46 ∷ rest, spells, whole, refl)
    by (inr none) = (word, [], sym (append-nil word), none, refl)

module _ (text word rest : List ℕ) (first : IsFirstWord text word rest) where
  -- NEXT and NEXTWORD
  module _ (open_only : (spelling : Spelling) → IsSpelling word spelling → spelling.ending ≡ Open) where
    module _ (name after : List ℕ) (spells : word ≡ name ++ after) (whole : ¬ Contains name 46) (stops : get_or after 0 46 ≡ 46) where
      next_fits : (apart : Bool) → IsNextName name apart → 0 < length after → (len : ℕ) → IsNumber (drop 1 after) len → Fits len ⊎ ¬ Fits len → SomeSpot text
      next_fits apart names some len counts (inl fits) =
          inl ((if apart then NextWord (Some len) else Next (Some len)), rest, next_long word name after spells whole stops apart names text rest first (drop 1 after) len refl some counts len fits refl)
      next_fits apart names some len counts (inr outside) =
          inr (inl (record { left = length text - (length name + 1); kind = OutOfRange }, inr (next_fault word name after spells whole stops apart names text rest first (drop 1 after) len refl some counts (length text) outside refl)))

      next_number : (apart : Bool) → IsNextName name apart → 0 < length after → ((len : ℕ) × IsNumber (drop 1 after) len) ⊎ ((len : ℕ) → ¬ IsNumber (drop 1 after) len) → SomeSpot text
      next_number apart names some (inl (len, counts)) = next_fits apart names some len counts (each_fit len)
      next_number apart names some (inr none) = inr (inr (no_spot text word rest first open_only (next_unnumbered word name after spells whole stops (drop 1 after) refl some none)))

      next_length : (apart : Bool) → IsNextName name apart → (length after ≡ 0) ⊎ (0 < length after) → SomeSpot text
      next_length apart names (inl empty) = inl ((if apart then NextWord None else Next None), rest, next_alone word name after spells whole stops apart names text rest first empty)
      next_length apart names (inr some) = next_number apart names some (each_number (drop 1 after))

      next_named : ((apart : Bool) × IsNextName name apart) ⊎ ((apart : Bool) → ¬ IsNextName name apart) → SomeSpot text
      next_named (inl (apart, names)) = next_length apart names (each_length after)
      next_named (inr none) = inr (inr (no_spot text word rest first open_only (next_unnamed word name after spells whole stops none)))

    each_next : SomeSpot text
    each_next = let dotted = before_dot word in next_named dotted.0 dotted.1 dotted.2 dotted.3 dotted.4 (each_next_name dotted.0)

  -- columns
  module _ (spelling : Spelling) (spelled : IsSpelling word spelling) where
    column_fault : spelling.ending ≢ Open → (misfit : Misfit) → IsMisfit spelling misfit → SomeSpot text
    column_fault closed misfit misfits =
        let fault : IsColumnFault text (fault_in (length text) (fault_of (length spelled.number + 1) misfit)) = record {
          word = word;
          rest = rest;
          first_is = first;
          spelling = spelling;
          spelled = spelled;
          closed = closed;
          misfit = misfit;
          misfits = misfits;
          fault_is = refl;
        } in
        inr (inl (fault_in (length text) (fault_of (length spelled.number + 1) misfit), inl fault))

    column : spelling.ending ≢ Open → Fits spelling.first ⊎ ¬ Fits spelling.first → ((last : Option ℕ) × IsLast spelling.first spelling.ending last) ⊎ (IsSecondMisfit spelling.ending ⊎ IsReversed spelling.first spelling.ending) → SomeSpot text
    column closed (inr outside) ends = column_fault closed First outside
    column closed (inl fits) (inr (inl second)) = column_fault closed Second (fits, second)
    column closed (inl fits) (inr (inr reversed)) = column_fault closed Reversed (fits, reversed)
    column closed (inl fits) (inl (last, ends)) =
        let len = column_length spelling.first spelling.ending last ends closed in
        inl (Column spelling.first len.0, rest, record { word = word; first_is = first; spelling = spelling; spelled = spelled; fits = fits; begins = refl; ends = len.1 })

    by_ending : (spelling.ending ≡ Open) ⊎ (spelling.ending ≢ Open) → SomeSpot text
    by_ending (inl open_end) = each_next (λ other also. ap (λ (s : Spelling). s.ending) (one_spelling word other spelling also spelled) ∙ open_end)
    by_ending (inr closed) = column closed (each_fit spelling.first) (each_last spelling.first spelling.ending)

  by_word : ((spelling : Spelling) × IsSpelling word spelling) ⊎ ((spelling : Spelling) → ¬ IsSpelling word spelling) → SomeSpot text
  by_word (inl (spelling, spelled)) = by_ending spelling spelled (each_open spelling.ending)
  by_word (inr none) = each_next (λ other also. absurd (none other also))

pub each_spot : (text : List ℕ) → SomeSpot text
each_spot text = let first = each_word text in by_word text first.0 first.1 first.2 (each_spelling first.0)
