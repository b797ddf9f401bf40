-- A string that doesn't stand in a record doesn't stand in a range of it.
use Rattle.std.proofs.Common.{◌≡◌, ℕ, zero, suc, ◌+◌, ◌-◌, false, List, [], ◌∷◌, ◌++◌, take, drop, Some, None, Option, refl, sym, ◌∙◌, ap, append_assoc, take-append-drop}
use Rattle.std.proofs.lemmas.List.{append-nil}
use Rattle.std.proofs.lemmas.List.Splits.{join_with_byte-slice_split}
use Rattle.std.specs.Prelude.{◌==◌}
use Rattle.std.specs.List.{slice_split, join_with_byte}
use Rattle.pipe_model.specs.declared.range.Range.{Range}
use Rattle.pipe_model.specs.declared.range.Span.{Span}
use Rattle.pipe_model.specs.declared.range.Span.TheVariants.{Columns, Words, Fields}
use Rattle.pipe_model.specs.Ranges.{Place, between, words_from, spanned, words_spanned, cut_by, part_of}
use Rattle.pipe_model.specs.Search.{holds}
use Rattle.stage_steps.proofs.Aheads.{holds_within}

-- some fields are the first ones and what stands behind
front_fields : (n : ℕ) (fields : List (List ℕ)) → (rest : List ℕ) × (join_with_byte 9 fields ≡ join_with_byte 9 (take n fields) ++ rest)
front_fields zero fields = (join_with_byte 9 fields, refl)
front_fields (suc n) [] = ([], refl)
front_fields (suc zero) (x ∷ []) = ([], sym (append-nil x))
front_fields (suc (suc n)) (x ∷ []) = ([], sym (append-nil x))
front_fields (suc zero) (x ∷ y ∷ fields) = (9 ∷ join_with_byte 9 (y ∷ fields), refl)
front_fields (suc (suc n)) (x ∷ y ∷ fields) =
    let more = front_fields (suc n) (y ∷ fields) in
    (more.0, ap (λ l. x ++ (9 ∷ l)) more.1 ∙ sym (append_assoc x (9 ∷ join_with_byte 9 (y ∷ take n fields)) more.0))

module _ (string : List ℕ) where
  abbrev Lacks : List ℕ → Type 0
  Lacks rec = holds string rec ≡ false

  -- a front lacks the string where the whole does
  lacks_front : (front rest : List ℕ) → Lacks (front ++ rest) → Lacks front
  lacks_front front rest lacks = holds_within string [] front rest lacks

  -- and so does what stands behind a front
  lacks_behind : (front rest : List ℕ) → Lacks (front ++ rest) → Lacks rest
  lacks_behind front rest lacks = holds_within string front rest [] (ap (λ l. holds string (front ++ l)) (append-nil rest) ∙ lacks)

  lacks_take : (n : ℕ) (rec : List ℕ) → Lacks rec → Lacks (take n rec)
  lacks_take n rec lacks = lacks_front (take n rec) (drop n rec) (ap (holds string) (take-append-drop n rec) ∙ lacks)

  lacks_drop : (n : ℕ) (rec : List ℕ) → Lacks rec → Lacks (drop n rec)
  lacks_drop n rec lacks = lacks_behind (take n rec) (drop n rec) (ap (holds string) (take-append-drop n rec) ∙ lacks)

  -- from one of some places to the end of the last of them
  lacks_spanned : (from : ℕ) (places : List Place) (rec : List ℕ) → Lacks rec → Lacks (spanned from places rec)
  lacks_spanned from [] rec lacks = lacks_take 0 rec lacks
  lacks_spanned from (w ∷ []) rec lacks = lacks_take (w.1 - from) (drop from rec) (lacks_drop from rec lacks)
  lacks_spanned from (w ∷ v ∷ ws) rec lacks = lacks_spanned from (v ∷ ws) rec lacks

  -- the words at some places
  lacks_words : (places : List Place) (rec : List ℕ) → Lacks rec → Lacks (words_spanned places rec)
  lacks_words [] rec lacks = lacks_take 0 rec lacks
  lacks_words (w ∷ ws) rec lacks = lacks_spanned w.0 (w ∷ ws) rec lacks

  -- the first of some fields
  lacks_first : (n : ℕ) (fields : List (List ℕ)) → Lacks (join_with_byte 9 fields) → Lacks (join_with_byte 9 (take n fields))
  lacks_first n fields lacks =
      let front = front_fields n fields in
      lacks_front (join_with_byte 9 (take n fields)) front.0 (ap (holds string) (sym front.1) ∙ lacks)

  -- the fields behind the first ones
  lacks_others : (n : ℕ) (fields : List (List ℕ)) → Lacks (join_with_byte 9 fields) → Lacks (join_with_byte 9 (drop n fields))
  lacks_others zero fields lacks = lacks
  lacks_others (suc n) [] lacks = lacks
  lacks_others (suc zero) (x ∷ []) lacks = lacks_take 0 x lacks
  lacks_others (suc (suc n)) (x ∷ []) lacks = lacks_take 0 x lacks
  lacks_others (suc n) (x ∷ y ∷ fields) lacks =
      let rest = join_with_byte 9 (y ∷ fields) in
      lacks_others n (y ∷ fields) (lacks_behind (9 ∷ []) rest (lacks_behind x (9 ∷ rest) lacks))

  -- the fields from the first to the last one named
  lacks_fields : (first : ℕ) (last : Option ℕ) (fields : List (List ℕ)) → Lacks (join_with_byte 9 fields) → Lacks (join_with_byte 9 (between first last fields))
  lacks_fields first None fields lacks = lacks_others (first - 1) fields lacks
  lacks_fields first (Some last) fields lacks = lacks_first (last + 1 - first) (drop (first - 1) fields) (lacks_others (first - 1) fields lacks)

  lacks_cut : (span : Span) (first : ℕ) (last : Option ℕ) (rec : List ℕ) → Lacks rec → Lacks (cut_by span first last rec)
  lacks_cut Columns first None rec lacks = lacks_drop (first - 1) rec lacks
  lacks_cut Columns first (Some last) rec lacks = lacks_take (last + 1 - first) (drop (first - 1) rec) (lacks_drop (first - 1) rec lacks)
  lacks_cut Words first last rec lacks = lacks_words (between first last (words_from 0 rec)) rec lacks
  lacks_cut Fields first last rec lacks =
      lacks_fields first last (slice_split (λ b. b == 9) rec) (ap (holds string) (join_with_byte-slice_split 9 rec) ∙ lacks)

  -- the range of a record lacks the string where the record does
  pub lacks_part : (range : Range) (rec : List ℕ) → Lacks rec → Lacks (part_of range rec)
  lacks_part range rec lacks = lacks_cut range.span range.first range.last rec lacks
