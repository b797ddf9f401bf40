-- What FBLOCK, BLOCK and DEBLOCK put of all records together.
use Rattle.std.proofs.Common.{◌≡◌, ℕ, Bool, true, false, cond, ◌||◌, List, [], ◌∷◌, ◌++◌, take, map, refl, sym, ◌∙◌, ap, arith, pos, ◌==◌, Option, Some, ℤ, append_assoc}
use Rattle.std.specs.Prelude.{nat_lt, length, not, suc, ◌+◌}
use Rattle.std.proofs.lemmas.Bool.{cond-true, ne_eqb}
use Rattle.std.specs.List.{concat, list_any, before_first, prefix_len}
use Rattle.std.proofs.lemmas.List.{append-nil, map-append}
use Rattle.std.proofs.lemmas.List.Folds.{concat-append}
use Rattle.pipe_model.specs.declared.kind.Image.{Image}
use Rattle.pipe_model.specs.declared.kind.Image.TheVariants as Images
use Rattle.pipe_model.specs.declared.kind.Cutting.TheVariants as Cuttings
use Rattle.pipe_model.specs.Row.{Pair}
use Rattle.pipe_model.specs.Shape.{Records, never, zero_code, at_hand_of}
use Rattle.pipe_model.specs.Records.{lines, without_empty_last}
use Rattle.pipe_model.specs.Counts.{all_on}
use Rattle.pipe_model.specs.Parts.{without_last, last_part, grown, by_parts, cut_every}
use Rattle.pipe_model.specs.BlockRows.{some_rest, filled, fblock, is_too_long, two_bytes, image_of, block, deblock_sf, cut_at, cut_by_lengths, is_bad_length, deblock}
use Rattle.pipe_model.specs.Listed.{pairs_of, pairs_after, code_after, ending_of}
use Rattle.pipe_model.proofs.Growth.{Grows, grown-all, fblock-grows, block-grows, deblock-grows}
use Rattle.stream_laws.proofs.Streams.{at_hand_last, output_both}
use Rattle.stream_laws.proofs.Together.{all_with, all_after, all_never}
use Rattle.stream_laws.proofs.LastParts.{without_empty}
use Rattle.stream_laws.proofs.AtStrings.{at_line_feeds}
use Rattle.stream_laws.proofs.Measured.{no_more}

module _ (parts : Records → Records) (grows : Grows (λ recs. without_last (parts recs))) where
  -- the complete parts of all records
  abbrev complete : Records → List Pair
  complete recs = all_on 0 (without_last (parts recs))

  abbrev added : Records → List Pair
  added recs = all_on 0 (grown (λ so_far. without_last (parts so_far)) recs)

  complete_grow : (recs : Records) (rec : List ℕ) → complete (recs ++ rec ∷ []) ≡ complete recs ++ added (recs ++ rec ∷ [])
  complete_grow recs rec =
      ap (all_on 0) (grown-all (λ so_far. without_last (parts so_far)) recs rec (grows recs rec)) ∙ output_both 0 (without_last (parts recs)) (grown (λ so_far. without_last (parts so_far)) (recs ++ rec ∷ []))

  -- the complete parts, and what is made of the last
  pub parts_put : (end : List ℕ → Records) → without_last (parts []) ≡ [] → (recs : Records) → pairs_of (by_parts parts end) recs ≡ all_on 0 (without_last (parts recs) ++ end (last_part (parts recs)))
  parts_put end none recs =
      ap (λ z. all_on 0 z ++ pairs_of (by_parts parts end) recs) (sym none)
      ∙ all_after complete added (Some last) never zero_code complete_grow [] recs ∙ all_never complete added (Some last) never zero_code complete_grow (λ all. refl) [] recs
      ∙ sym (output_both 0 (without_last (parts recs)) (end (last_part (parts recs))))
    where
      last : Records → List Pair
      last all = all_on 0 (end (last_part (parts all)))

-- FBLOCK
pub fblock_puts : (size : ℕ) (fill : Option ℕ) (recs : Records) → pairs_of (fblock size fill) recs ≡ all_on 0 (without_last (cut_every size (concat recs)) ++ map (filled size fill) (some_rest (last_part (cut_every size (concat recs)))))
fblock_puts size fill recs = parts_put (λ all. cut_every size (concat all)) (fblock-grows size) (λ rest. map (filled size fill) (some_rest rest)) refl recs

-- BLOCK

-- what stands before the first that passes
before_more : (p : List ℕ → Bool) (rec : List ℕ) (recs : Records) → before_first p (rec ∷ recs) ≡ cond (p rec) [] (rec ∷ before_first p recs)
before_more p rec recs = ap (λ n. take (cond (not (p rec)) n 0) (rec ∷ recs)) (omega arith) ∙ by_test (p rec)
  where
    by_test : (b : Bool) → take (cond (not b) (suc (prefix_len (λ x. not (p x)) recs)) 0) (rec ∷ recs) ≡ cond b [] (rec ∷ before_first p recs)
    by_test true = refl
    by_test false = refl

module _ (size : ℕ) (image : Image) where
  abbrev text : Records → List ℕ
  text recs = concat (map (image_of image) recs)

  abbrev blocks : Records → Records
  blocks recs = cut_every size (text recs)

  abbrev grows : Grows (λ recs. without_last (blocks recs))
  grows = block-grows size image

  abbrev stops : Records → Bool
  stops recs = is_too_long image (at_hand_of recs)

  abbrev code : Records → ℤ
  code recs = (block size image).code recs

  -- a record that is too long adds nothing
  no_image : (image : Image) (rec : List ℕ) → is_too_long image rec ≡ true → image_of image rec ≡ []
  no_image Images.Fixed rec is = cc
  no_image Images.Linend rec is = cc
  no_image (Images.Text string) rec is = cc
  no_image Images.Sf rec is = cond-true (nat_lt 65533 (length rec)) [] (two_bytes (length rec + 2) ++ rec) is

  text_more : (recs : Records) (rec : List ℕ) → is_too_long image rec ≡ true → text (recs ++ rec ∷ []) ≡ text recs
  text_more recs rec is =
      ap concat (map-append (image_of image) recs (rec ∷ [])) ∙ concat-append (map (image_of image) recs) (image_of image rec ∷ [])
      ∙ ap (λ z. text recs ++ (z ++ [])) (no_image image rec is) ∙ append-nil (text recs)

  -- the blocks, and the rest where nothing cuts them short
  abbrev all_blocks : Records → Bool → List Pair
  all_blocks recs cut_short = all_on 0 (without_last (blocks recs) ++ cond cut_short [] (some_rest (last_part (blocks recs))))

  abbrev last : Records → List Pair
  last recs = all_on 0 (some_rest (last_part (blocks recs)))

  abbrev ends_with : Records → Records → List Pair
  ends_with recs rest = all_with (complete blocks grows) (added blocks grows) (Some last) stops code recs rest

  block_all : (recs rest : Records) → ends_with recs rest ≡ all_blocks (recs ++ before_first (is_too_long image) rest) (list_any (is_too_long image) rest)
  block_all recs [] = sym (output_both 0 (without_last (blocks recs)) (some_rest (last_part (blocks recs)))) ∙ ap (λ z. all_blocks z false) (sym (append-nil recs))
  block_all recs (rec ∷ rest) =
      ap (λ r. cond (is_too_long image r) (complete blocks grows (recs ++ rec ∷ [])) (ends_with (recs ++ rec ∷ []) rest)) (at_hand_last recs rec)
      ∙ by_length (is_too_long image rec) refl (block_all (recs ++ rec ∷ []) rest)
      ∙ ap (λ z. all_blocks (recs ++ z) (is_too_long image rec || list_any (is_too_long image) rest)) (sym (before_more (is_too_long image) rec rest))
    where
      before : Records
      before = before_first (is_too_long image) rest

      by_length : (b : Bool) → is_too_long image rec ≡ b → ends_with (recs ++ rec ∷ []) rest ≡ all_blocks ((recs ++ rec ∷ []) ++ before) (list_any (is_too_long image) rest) →
          cond b (complete blocks grows (recs ++ rec ∷ [])) (ends_with (recs ++ rec ∷ []) rest) ≡ all_blocks (recs ++ cond b [] (rec ∷ before)) (b || list_any (is_too_long image) rest)
      by_length true is e =
          ap (λ z. all_on 0 (without_last (cut_every size z))) (text_more recs rec is ∙ ap text (sym (append-nil recs))) ∙ ap (all_on 0) (sym (append-nil (without_last (blocks (recs ++ [])))))
      by_length false is e = e ∙ ap (λ z. all_blocks z (list_any (is_too_long image) rest)) (append_assoc recs (rec ∷ []) before)

  -- no record is none that is too long
  none_yet : (image : Image) → is_too_long image [] ≡ false
  none_yet Images.Fixed = refl
  none_yet Images.Linend = refl
  none_yet (Images.Text string) = refl
  none_yet Images.Sf = refl

  pub block_puts : (recs : Records) → pairs_of (block size image) recs ≡ all_blocks (before_first (is_too_long image) recs) (list_any (is_too_long image) recs)
  block_puts recs =
      ap (λ b. cond b [] (pairs_after (block size image) [] recs)) (none_yet image)
      ∙ all_after (complete blocks grows) (added blocks grows) (Some last) stops code (complete_grow blocks grows) [] recs
      ∙ block_all [] recs

  -- it ends with code 8 for a record that is too long
  code_all : (recs rest : Records) → is_too_long image (at_hand_of recs) ≡ false → code_after (block size image) recs rest ≡ cond (list_any (is_too_long image) rest) (pos 8) (pos 0)
  code_all recs [] short = ap (λ b. cond b (pos 8) (pos 0)) short
  code_all recs (rec ∷ rest) short =
      ap (λ r. cond (is_too_long image r) (cond (is_too_long image r) (pos 8) (pos 0)) (code_after (block size image) (recs ++ rec ∷ []) rest)) (at_hand_last recs rec)
      ∙ by_length (is_too_long image rec) refl (λ now. code_all (recs ++ rec ∷ []) rest now)
    where
      by_length : (b : Bool) → is_too_long image rec ≡ b → (is_too_long image (at_hand_of (recs ++ rec ∷ [])) ≡ false → code_after (block size image) (recs ++ rec ∷ []) rest ≡ cond (list_any (is_too_long image) rest) (pos 8) (pos 0)) →
          cond b (cond b (pos 8) (pos 0)) (code_after (block size image) (recs ++ rec ∷ []) rest) ≡ cond (b || list_any (is_too_long image) rest) (pos 8) (pos 0)
      by_length true is later = refl
      by_length false is later = later (ap (is_too_long image) (at_hand_last recs rec) ∙ is)

  pub block_ends : (recs : Records) → ending_of (block size image) recs ≡ cond (list_any (is_too_long image) recs) (pos 8) (pos 0)
  block_ends recs = ap (λ b. cond b ((block size image).code []) (code_after (block size image) [] recs)) (none_yet image) ∙ code_all [] recs (none_yet image)

-- DEBLOCK

-- by lengths
abbrev measured : Records → Records
measured recs = cut_by_lengths 0 (concat recs)

abbrev is_over : Records → Bool
is_over recs = is_bad_length (last_part (measured recs))

abbrev sf_code : Records → ℤ
sf_code recs = deblock_sf.code recs

abbrev nothing_last : Records → List Pair
nothing_last recs = []

sf_all : (recs rest : Records) → all_with (complete measured (deblock-grows Cuttings.Sf)) (added measured (deblock-grows Cuttings.Sf)) (Some nothing_last) is_over sf_code recs rest ≡ all_on 0 (without_last (measured (recs ++ rest)))
sf_all recs [] = append-nil (all_on 0 (without_last (measured recs))) ∙ ap (λ z. all_on 0 (without_last (measured z))) (sym (append-nil recs))
sf_all recs (rec ∷ rest) = by_end (is_over (recs ++ rec ∷ [])) refl (sf_all (recs ++ rec ∷ []) rest) ∙ ap (λ z. all_on 0 (without_last (measured z))) (append_assoc recs (rec ∷ []) rest)
  where
    now : Records
    now = recs ++ rec ∷ []

    by_end : (b : Bool) → is_over now ≡ b → all_with (complete measured (deblock-grows Cuttings.Sf)) (added measured (deblock-grows Cuttings.Sf)) (Some nothing_last) is_over sf_code now rest ≡ all_on 0 (without_last (measured (now ++ rest))) →
        cond b (all_on 0 (without_last (measured now))) (all_with (complete measured (deblock-grows Cuttings.Sf)) (added measured (deblock-grows Cuttings.Sf)) (Some nothing_last) is_over sf_code now rest) ≡ all_on 0 (without_last (measured (now ++ rest)))
    by_end true is e = ap (all_on 0) (sym (no_more 0 (concat now) (concat rest) is).0) ∙ ap (λ z. all_on 0 (without_last (cut_by_lengths 0 z))) (sym (concat-append now rest))
    by_end false is e = e

pub deblock_lengths_puts : (recs : Records) → pairs_of (deblock Cuttings.Sf) recs ≡ all_on 0 (without_last (measured recs))
deblock_lengths_puts recs =
    all_after (complete measured (deblock-grows Cuttings.Sf)) (added measured (deblock-grows Cuttings.Sf)) (Some nothing_last) is_over sf_code (complete_grow measured (deblock-grows Cuttings.Sf)) [] recs
    ∙ sf_all [] recs

-- a rest gives code 8
sf_rest : (recs rest : Records) → code_after (deblock Cuttings.Sf) recs rest ≡ sf_code (recs ++ rest)
sf_rest recs [] = ap sf_code (sym (append-nil recs))
sf_rest recs (rec ∷ rest) = by_end (is_over (recs ++ rec ∷ [])) refl (sf_rest (recs ++ rec ∷ []) rest) ∙ ap sf_code (append_assoc recs (rec ∷ []) rest)
  where
    now : Records
    now = recs ++ rec ∷ []

    filled_rest : (last : List ℕ) → is_bad_length last ≡ true → (length last == 0) ≡ false
    filled_rest [] bad = cc
    filled_rest (b ∷ last) bad = ne_eqb (length (b ∷ last)) 0 (λ e. omega (arith, e))

    still_filled : (last more : List ℕ) → (length last == 0) ≡ false → (length (last ++ more) == 0) ≡ false
    still_filled [] more is = cc
    still_filled (b ∷ last) more is = ne_eqb (length (b ∷ last ++ more)) 0 (λ e. omega (arith, e))

    by_end : (b : Bool) → is_over now ≡ b → code_after (deblock Cuttings.Sf) now rest ≡ sf_code (now ++ rest) → cond b (sf_code now) (code_after (deblock Cuttings.Sf) now rest) ≡ sf_code (now ++ rest)
    by_end true is e =
        let filled = filled_rest (last_part (measured now)) is in
        ap (λ b. cond b (pos 0) (pos 8)) (
        filled ∙ sym (
        ap (λ z. length (last_part (cut_by_lengths 0 z)) == 0) (concat-append now rest) ∙ ap (λ z. length z == 0) (no_more 0 (concat now) (concat rest) is).1 ∙ still_filled (last_part (measured now)) (concat rest) filled
        )
        )
    by_end false is e = e

pub deblock_lengths_ends : (recs : Records) → ending_of (deblock Cuttings.Sf) recs ≡ cond (length (last_part (measured recs)) == 0) (pos 0) (pos 8)
deblock_lengths_ends recs = sf_rest [] recs

pub deblock_fixed_puts : (size : ℕ) (recs : Records) → pairs_of (deblock (Cuttings.Fixed size)) recs ≡ all_on 0 (without_last (cut_every size (concat recs)) ++ some_rest (last_part (cut_every size (concat recs))))
deblock_fixed_puts size recs = parts_put (λ all. cut_every size (concat all)) (deblock-grows (Cuttings.Fixed size)) some_rest refl recs

pub deblock_text_puts : (string : List ℕ) (recs : Records) → pairs_of (deblock (Cuttings.Text string)) recs ≡ all_on 0 (without_last (cut_at string 0 (concat recs)) ++ some_rest (last_part (cut_at string 0 (concat recs))))
deblock_text_puts string recs = parts_put (λ all. cut_at string 0 (concat all)) (deblock-grows (Cuttings.Text string)) some_rest refl recs

pub deblock_lines_puts : (recs : Records) → pairs_of (deblock Cuttings.Linend) recs ≡ all_on 0 (lines (concat recs))
deblock_lines_puts recs =
    parts_put (λ all. cut_at (10 ∷ []) 0 (concat all)) (deblock-grows Cuttings.Linend) some_rest refl recs
    ∙ ap (all_on 0) (without_empty (cut_at (10 ∷ []) 0 (concat recs)) ∙ ap without_empty_last (at_line_feeds (concat recs)))
