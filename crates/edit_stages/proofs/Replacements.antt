-- How occurrences of a string are replaced from the left.
use Rattle.std.proofs.Common.{◌≡◌, ℕ, zero, suc, ◌+◌, ◌-◌, ◌<◌, ◌≤◌, true, cond, List, [], ◌∷◌, ◌++◌, length, take, drop, refl, sym, ◌∙◌, ap, arith, Option, Some, None}
use Rattle.std.proofs.lemmas.Bool.{false_from_ne_true}
use Rattle.std.proofs.lemmas.List.{take-append-drop, drop-drop, append-nil, append_assoc}
use Rattle.std.proofs.Math.Seq.{drop-length}
use Rattle.pipe_model.specs.declared.kind.Times.{Times}
use Rattle.pipe_model.specs.declared.range.Range.{Range}
use Rattle.pipe_model.specs.declared.range.Span.TheVariants.{Columns}
use Rattle.pipe_model.specs.Counts.{of_all}
use Rattle.pipe_model.specs.EditingRows.{replaced, changed}
use Rattle.pipe_model.specs.Ranges.{between, cut_by, part_of}
use Rattle.pipe_model.specs.Search.{begins}
use Rattle.stage_steps.specs.Strings.{StandsAt, IsFirstPlace}
use Rattle.edit_stages.specs.Replacing.{IsNext}

module _ (x : ℕ) (tail put : List ℕ) where
  abbrev string : List ℕ
  string = x ∷ tail

  passed : (n p : ℕ) (text : List ℕ) → replaced string put n p text ≡ replaced string put n 0 (drop p text)
  passed n zero text = refl
  passed n (suc p) [] = refl
  passed n (suc p) (r ∷ text) = passed n p text

  -- one place further on
  later : (r : ℕ) (text : List ℕ) (k : ℕ) → StandsAt string text k → StandsAt string (r ∷ text) (suc k)
  later r text k at = (let low = at.0 in omega (arith, low), at.1)

  stands_first : (r : ℕ) (text : List ℕ) → begins string (r ∷ text) ≡ true → StandsAt string (r ∷ text) 0
  stands_first r text is = (omega arith, is)

  no_more : (text : List ℕ) → replaced string put 0 0 text ≡ text
  no_more [] = refl
  no_more (r ∷ text) = refl

  nowhere : (n : ℕ) (text : List ℕ) → ((k : ℕ) → ¬ StandsAt string text k) → replaced string put n 0 text ≡ text
  nowhere n [] never = refl
  nowhere zero (r ∷ text) never = refl
  nowhere (suc n) (r ∷ text) never =
      let here = false_from_ne_true (begins string (r ∷ text)) (λ is. never 0 (stands_first r text is)) in
      ap (λ b. cond b (put ++ replaced string put n (length string - 1) text) (r ∷ replaced string put (suc n) 0 text)) here
      ∙ ap (λ l. r ∷ l) (nowhere (suc n) text (λ k at. never (suc k) (later r text k at)))

  first : (n k : ℕ) (text : List ℕ) → StandsAt string text k → ((j : ℕ) → j < k → ¬ StandsAt string text j) →
      replaced string put (suc n) 0 text ≡ take k text ++ (put ++ replaced string put n 0 (drop (k + length string) text))
  first n zero [] at before = absurd cc
  first n zero (r ∷ text) at before =
      let short : length string - 1 ≡ length tail = omega arith in
      let long : 0 + length string ≡ suc (length tail) = omega arith in
      ap (λ b. cond b (put ++ replaced string put n (length string - 1) text) (r ∷ replaced string put (suc n) 0 text)) at.1
      ∙ ap (λ l. put ++ l) (ap (λ m. replaced string put n m text) short ∙ passed n (length tail) text ∙ ap (λ m. replaced string put n 0 (drop m (r ∷ text))) (sym long))
  first n (suc k) [] at before = absurd (let low = at.0 in omega (arith, low))
  first n (suc k) (r ∷ text) at before =
      let here = false_from_ne_true (begins string (r ∷ text)) (λ is. before 0 (omega arith) (stands_first r text is)) in
      let far : suc k + length string ≡ suc (k + length string) = omega arith in
      ap (λ b. cond b (put ++ replaced string put n (length string - 1) text) (r ∷ replaced string put (suc n) 0 text)) here
      ∙ ap (λ l. r ∷ l) (first n k text (let low = at.0 in omega (arith, low), at.1) (λ j below there. before (suc j) (omega (arith, below)) (later r text j there)))
      ∙ ap (λ m. r ∷ (take k text ++ (put ++ replaced string put n 0 (drop m (r ∷ text))))) (sym far)

-- where none is left to be replaced, nothing is
pub next_none_left : (string text : List ℕ) → 0 < length string → IsNext string 0 text None
next_none_left [] text filled = absurd (omega (arith, filled))
next_none_left (x ∷ tail) text filled = λ put. no_more x tail put text

-- where one is, the first place counts
pub next_first : (string : List ℕ) (left : ℕ) (text : List ℕ) (place : Option ℕ) → 0 < length string → 0 < left → IsFirstPlace string text place → ((k : ℕ) → place ≡ Some k → k + length string ≤ length text) → IsNext string left text place
next_first [] left text place filled some is within = absurd (omega (arith, filled))
next_first (x ∷ tail) zero text place filled some is within = absurd (omega (arith, some))
next_first (x ∷ tail) (suc left) text None filled some is within = λ put. nowhere x tail put (suc left) text is
next_first (x ∷ tail) (suc left) text (Some k) filled some is within = (
  some,
  within k refl,
  λ put.
      let less : suc left - 1 ≡ left = omega arith in
      first x tail put left k text is.0 is.1 ∙ ap (λ n. take k text ++ (put ++ replaced (x ∷ tail) put n 0 (drop (k + length (x ∷ tail)) text))) (sym less),
)

-- A record in whose part nothing is replaced

-- the first members, and those behind as many, are all
behind_first : (m : ℕ) (l : List ℕ) → take m l ++ drop (length (take m l)) l ≡ l
behind_first zero l = refl
behind_first (suc m) [] = refl
behind_first (suc m) (x ∷ l) = ap (λ l. x ∷ l) (behind_first m l)

-- columns, and what stands behind as many bytes, are all from the first of them on
behind_columns : (from : ℕ) (to : Option ℕ) (rec : List ℕ) → between from to rec ++ drop (length (between from to rec)) (drop (from - 1) rec) ≡ drop (from - 1) rec
behind_columns from None rec = let l = drop (from - 1) rec in ap (λ rest. l ++ rest) (drop-length l) ∙ append-nil l
behind_columns from (Some to) rec = behind_first (to + 1 - from) (drop (from - 1) rec)

-- so with what stands before them they are the record
whole_again : (n : ℕ) (part rec : List ℕ) → part ++ drop (length part) (drop n rec) ≡ drop n rec → take n rec ++ part ++ drop (n + length part) rec ≡ rec
whole_again n part rec is =
    append_assoc (take n rec) part (drop (n + length part) rec) ∙ ap (λ rest. take n rec ++ (part ++ rest)) (sym (drop-drop (length part) n rec)) ∙ ap (λ rest. take n rec ++ rest) is ∙ take-append-drop n rec

-- where none is replaced in its columns, the record stays as it is
pub stays : (range : Range) (string put : List ℕ) (times : Times) (count : ℕ) (part rec : List ℕ) →
    0 < length string → range.span ≡ Columns → count ≡ of_all times (length rec) → part ≡ part_of range rec → IsNext string count part None → changed range string put times rec ≡ rec
stays range [] put times count part rec filled columns count_is part_is never = absurd (omega (arith, filled))
stays range (x ∷ tail) put times count part rec filled columns count_is part_is never =
    let n = range.first - 1 in
    ap (λ count. take n rec ++ replaced (x ∷ tail) put count 0 (part_of range rec) ++ drop (n + length (part_of range rec)) rec) (sym count_is)
    ∙ ap (λ part. take n rec ++ replaced (x ∷ tail) put count 0 part ++ drop (n + length part) rec) (sym part_is)
    ∙ ap (λ made. take n rec ++ made ++ drop (n + length part) rec) (never put)
    ∙ ap (λ part. take n rec ++ part ++ drop (n + length part) rec) (part_is ∙ ap (λ span. cut_by span range.first range.last rec) columns)
    ∙ whole_again n (between range.first range.last rec) rec (behind_columns range.first range.last rec)
