-- The kinds of Order and counting, and of Blocks, as they are typed.
use Rattle.std.proofs.Common.{◌≡◌, inl, inr, ℕ, suc, ◌+◌, ◌≤◌, ◌<◌, Bool, true, false, ◌||◌, cond, not, List, [], ◌∷◌, ◌++◌, length, refl, sym, ◌∙◌, ap, subst, arith, append-nil, append_assoc, option_map, Option, Some, None, le-leb, length-append}
use Rattle.std.specs.Prelude.{nat_lt, filter}
use Rattle.std.specs.List.{list_all}
use Rattle.std.specs.Option.{IfSome}
use Rattle.std.proofs.lemmas.Bool.Decides.{nat_tests}
use Rattle.std.proofs.lemmas.List.Elements.{filter-append}
use Rattle.pipe_model.specs.declared.keys.SortKey.{SortKey}
use Rattle.pipe_model.specs.declared.keys.Total.{Total}
use Rattle.pipe_model.specs.declared.keys.Total.TheVariants as Totals
use Rattle.pipe_model.specs.declared.kind.Cutting.{Cutting}
use Rattle.pipe_model.specs.declared.kind.Cutting.TheVariants as Cuttings
use Rattle.pipe_model.specs.declared.kind.Image.{Image}
use Rattle.pipe_model.specs.declared.kind.Image.TheVariants as Images
use Rattle.pipe_model.specs.declared.kind.Keep.{Keep}
use Rattle.pipe_model.specs.declared.kind.Keep.TheVariants as Keeps
use Rattle.pipe_model.specs.declared.kind.Kind.{Kind}
use Rattle.pipe_model.specs.declared.kind.Kind.TheVariants as Kinds
use Rattle.pipe_model.specs.declared.range.Range.{Range}
use Rattle.pipe_model.specs.Proper.{are_totals, greatest, is_cutting, is_image, is_range, is_size, may_count}
use Rattle.pipe_model.specs.Straight.{all_columns}
use Rattle.pipe_model.proofs.Truths.{both}
use Rattle.stage_syntax.proofs.ReadValues.{AreOfRow, IsOfOne, range_of_one, right_of_row, string_of_one}
use Rattle.stage_syntax.proofs.Typed.{IsOther, known}
use Rattle.stage_syntax.specs.Forms.{row}
use Rattle.stage_syntax.specs.OrderForms.{before_unique, of_unique, wrong_unique, keep_of, is_last, before_sort, of_sort, sort_of, key_of, keys_of, is_range_value, ranges_in, ends_with_range, before_count, count_of, totals_of, before_fblock, of_fblock, before_block, of_block, before_deblock, of_deblock}
use Rattle.stage_syntax.specs.Rows.{Makes, Row}
use Rattle.argument_parts.specs.declared.part.Part.TheVariants as Asked
use Rattle.argument_parts.specs.declared.part.Value.{Value}
use Rattle.argument_parts.specs.declared.part.Value.TheVariants as Read
use Rattle.argument_parts.specs.declared.part.Word.{Word}
use Rattle.argument_parts.specs.declared.part.Word.TheVariants.{Ascending, Bytes, Count, Descending, Fixed, Last, Linend, Lines, Sf, String, Words}

-- UNIQUE's arguments
abbrev unique_row : Row
unique_row = record { next = before_unique; wrong = wrong_unique; kind = of_unique }

may_keep : (word : Word) → is_last word ≡ true → may_count (keep_of word) ≡ true
may_keep Last is = refl
may_keep _ is = cc

-- where no fault is told, the word is LAST
is_right : {A : Type 0} (right : Bool) (fault : A) → cond right None (Some fault) ≡ None → right ≡ true
is_right true fault none = refl
is_right false fault none = cc

-- SORT's ranges

-- words alone give no range
in_words : (ends : Bool) (range : Range) → ¬ IsOfOne (cond ends (Asked.Word Ascending ∷ (Asked.Word Descending ∷ [])) []) (Read.Range range)
in_words true range (inl is) = cc
in_words true range (inr (inl is)) = cc
in_words true range (inr (inr is)) = is
in_words false range is = is

few_before : (room ends : Bool) (range : Range) → IsOfOne (cond room (Asked.Range ∷ []) [] ++ cond ends (Asked.Word Ascending ∷ (Asked.Word Descending ∷ [])) []) (Read.Range range) → room ≡ true
few_before true ends range is = refl
few_before false ends range is = absurd (in_words ends range is)

-- one range more, where the argument is one
abbrev one_by : Bool → ℕ
one_by true = 1
one_by false = 0

ranges_alone : (value : Value) (is : Bool) → is_range_value value ≡ is → ranges_in (value ∷ []) ≡ one_by is
ranges_alone value true is = ap (λ b. length (cond b (value ∷ []) [])) is
ranges_alone value false is = ap (λ b. length (cond b (value ∷ []) [])) is

ranges_more : (before : List Value) (value : Value) → ranges_in (before ++ value ∷ []) ≡ ranges_in before + one_by (is_range_value value)
ranges_more before value =
    ap (λ (ranges : List Value). length ranges) (filter-append is_range_value before (value ∷ [])) ∙ length-append (filter is_range_value before) (filter is_range_value (value ∷ []))
    ∙ ap (λ n. ranges_in before + n) (ranges_alone value (is_range_value value) refl)

-- it is proper, where it is a range
abbrev is_sound : Value → Bool
is_sound (Read.Range range) = is_range range
is_sound _ = true

-- a key for each range, and each range proper
abbrev AreKeysOf : List Value → List SortKey → Type 0
AreKeysOf values keys = (length keys ≡ ranges_in values) × (list_all is_sound values ≡ true → list_all (λ (key : SortKey). is_range key.range) keys ≡ true)

key_more : (range : Range) (descending : Bool) (values : List Value) (keys : Option (List SortKey)) → IfSome keys (AreKeysOf values) → IfSome (option_map (λ keys. key_of range descending ∷ keys) keys) (AreKeysOf (Read.Range range ∷ values))
key_more range descending values None are = tt
key_more range descending values (Some keys) are = (ap suc are.0, λ right. let each = both (is_range range) (list_all is_sound values) right in rw (each.0, are.1 each.1) refl)

keys_are : (values : List Value) → IfSome (keys_of values) (AreKeysOf values)
keys_are [] = (refl, λ right. refl)
keys_are (Read.Range range ∷ (Read.Word Descending ∷ values)) = key_more range true (Read.Word Descending ∷ values) (keys_of values) (keys_are values)
keys_are (Read.Range range ∷ (Read.Word word ∷ values)) = key_more range false (Read.Word word ∷ values) (keys_of values) (keys_are values)
keys_are (Read.Range range ∷ []) = key_more range false [] (Some []) (refl, λ right. refl)
keys_are (Read.Range range ∷ (Read.Range other ∷ values)) = key_more range false (Read.Range other ∷ values) (keys_of (Read.Range other ∷ values)) (keys_are (Read.Range other ∷ values))
keys_are _ = tt

module _ (first : Bool) where
  -- UNIQUE

  unique_known : (count : Bool) (range : Range) (keep : Keep) → is_range range ≡ true → (not count || may_count keep) ≡ true → IsOther first (Kinds.Unique count range keep)
  unique_known count range keep proper may = known first (Kinds.Unique count range keep) refl (rw (proper, may) refl)

  uniquing : (values : List Value) → AreOfRow unique_row [] values → (lefts : List ℕ) → length lefts ≡ length values → wrong_unique values lefts ≡ None → IfSome (of_unique values) (IsOther first)
  uniquing [] are lefts each right = unique_known false all_columns Keeps.Last refl refl
  uniquing (Read.Word Count ∷ []) are lefts each right = unique_known true all_columns Keeps.Last refl refl
  uniquing (Read.Word Count ∷ (Read.Word word ∷ [])) are (left ∷ lefts) each right = unique_known true all_columns (keep_of word) refl (may_keep word (is_right (is_last word) _ right))
  uniquing (Read.Word Count ∷ (Read.Range range ∷ [])) are lefts each right = unique_known true range Keeps.Last (range_of_one (before_unique (Read.Word Count ∷ [])) range are.1.0) refl
  uniquing (Read.Word Count ∷ (Read.Range range ∷ (Read.Word word ∷ []))) are (left ∷ lefts) each right =
      unique_known true range (keep_of word) (range_of_one (before_unique (Read.Word Count ∷ [])) range are.1.0) (may_keep word (is_right (is_last word) _ right))
  uniquing (Read.Word word ∷ []) are lefts each right = unique_known false all_columns (keep_of word) refl refl
  uniquing (Read.Range range ∷ []) are lefts each right = unique_known false range Keeps.Last (range_of_one (before_unique []) range are.0) refl
  uniquing (Read.Range range ∷ (Read.Word word ∷ [])) are lefts each right = unique_known false range (keep_of word) (range_of_one (before_unique []) range are.0) refl
  uniquing (Read.Word Count ∷ (Read.Word key ∷ [])) are [] each right = absurd (omega (arith, each))
  uniquing (Read.Word Count ∷ (Read.Range range ∷ (Read.Word key ∷ []))) are [] each right = absurd (omega (arith, each))
  uniquing _ are lefts each right = tt

  pub of_unique_row : (text : List ℕ) (kind : Kind) → Makes unique_row [] [] text kind → IsOther first kind
  of_unique_row text kind makes =
      let made = right_of_row unique_row text kind refl makes in
      subst (λ (o : Option Kind). IfSome o (IsOther first)) made.2 (uniquing made.0 made.3 made.1 made.4 made.5)

  -- Blocks

  size_of : (n : ℕ) → IsOfOne (Asked.Number 1 greatest ∷ []) (Read.Number n) → is_size n ≡ true
  size_of n (inl is) = let value = is.1 in let same : is.0 ≡ n = cc in subst (λ (n : ℕ). is_size n ≡ true) same (rw (le-leb 1 is.0 is.2, le-leb is.0 greatest is.3) refl)
  size_of n (inr is) = absurd is

  pub filling : (values : List Value) → AreOfRow (row before_fblock of_fblock) [] values → IfSome (of_fblock values) (IsOther first)
  filling (Read.Number n ∷ []) are = known first (Kinds.Fblock n None) refl (size_of n are.0)
  filling (Read.Number n ∷ (Read.Byte byte ∷ [])) are = known first (Kinds.Fblock n (Some byte)) refl (size_of n are.0)
  filling _ are = tt

  block_known : (n : ℕ) (image : Image) → is_size n ≡ true → is_image image ≡ true → IsOther first (Kinds.Block n image)
  block_known n image size proper = known first (Kinds.Block n image) refl (rw (size, proper) refl)

  pub blocking : (values : List Value) → AreOfRow (row before_block of_block) [] values → IfSome (of_block values) (IsOther first)
  blocking (Read.Number n ∷ (Read.Word Fixed ∷ [])) are = block_known n Images.Fixed (size_of n are.0) refl
  blocking (Read.Number n ∷ (Read.Word Linend ∷ [])) are = block_known n Images.Linend (size_of n are.0) refl
  blocking (Read.Number n ∷ (Read.Word Sf ∷ [])) are = block_known n Images.Sf (size_of n are.0) refl
  blocking (Read.Number n ∷ (Read.Word String ∷ (Read.String string ∷ []))) are = block_known n (Images.Text string) (size_of n are.0) (string_of_one (Asked.String ∷ []) string refl are.1.1.0)
  blocking _ are = tt

  deblock_known : (cutting : Cutting) → is_cutting cutting ≡ true → IsOther first (Kinds.Deblock cutting)
  deblock_known cutting proper = known first (Kinds.Deblock cutting) refl proper

  pub deblocking : (values : List Value) → AreOfRow (row before_deblock of_deblock) [] values → IfSome (of_deblock values) (IsOther first)
  deblocking (Read.Word Fixed ∷ (Read.Number n ∷ [])) are = deblock_known (Cuttings.Fixed n) (size_of n are.1.0)
  deblocking (Read.Word Linend ∷ []) are = deblock_known Cuttings.Linend refl
  deblocking (Read.Word Sf ∷ []) are = deblock_known Cuttings.Sf refl
  deblocking (Read.Word String ∷ (Read.String string ∷ [])) are = deblock_known (Cuttings.Text string) (string_of_one (Asked.String ∷ []) string refl are.1.0)
  deblocking _ are = tt

  -- COUNT

  abbrev count_row : Row
  count_row = row before_count (λ values. count_of (totals_of values))

  -- whatever comes behind these arguments
  abbrev Goes : List Value → Type 0
  Goes before = (values : List Value) → AreOfRow count_row before values → IfSome (count_of (totals_of (before ++ values))) (IsOther first)

  goes : (before : List Value) → IfSome (count_of (totals_of (before ++ []))) (IsOther first) → ((value : Value) → IsOfOne (before_count before) value → Goes (before ++ value ∷ [])) → Goes before
  goes before here more [] are = here
  goes before here more (value ∷ values) are =
      subst (λ (all : List Value). IfSome (count_of (totals_of all)) (IsOther first)) (append_assoc before (value ∷ []) values) (more value are.0 values are.1)

  by_word : (before : List Value) (key : Word) (value : Value) → value ≡ Read.Word key → Goes (before ++ Read.Word key ∷ []) → Goes (before ++ value ∷ [])
  by_word before key value is then = subst (λ (value : Value). Goes (before ++ value ∷ [])) (sym is) then

  abbrev asked : Word → List Value → List Value
  asked key values = Read.Word key ∷ values

  count_known : (totals : List Total) → are_totals totals ≡ true → IsOther first (Kinds.Count totals)
  count_known totals proper = known first (Kinds.Count totals) refl proper

  goes_lines_words_bytes : Goes (asked Lines (asked Words (asked Bytes [])))
  goes_lines_words_bytes = goes (asked Lines (asked Words (asked Bytes []))) (count_known (Totals.Lines ∷ Totals.Words ∷ Totals.Bytes ∷ []) refl) (λ value is. absurd is)

  goes_lines_bytes_words : Goes (asked Lines (asked Bytes (asked Words [])))
  goes_lines_bytes_words = goes (asked Lines (asked Bytes (asked Words []))) (count_known (Totals.Lines ∷ Totals.Bytes ∷ Totals.Words ∷ []) refl) (λ value is. absurd is)

  goes_words_lines_bytes : Goes (asked Words (asked Lines (asked Bytes [])))
  goes_words_lines_bytes = goes (asked Words (asked Lines (asked Bytes []))) (count_known (Totals.Words ∷ Totals.Lines ∷ Totals.Bytes ∷ []) refl) (λ value is. absurd is)

  goes_words_bytes_lines : Goes (asked Words (asked Bytes (asked Lines [])))
  goes_words_bytes_lines = goes (asked Words (asked Bytes (asked Lines []))) (count_known (Totals.Words ∷ Totals.Bytes ∷ Totals.Lines ∷ []) refl) (λ value is. absurd is)

  goes_bytes_lines_words : Goes (asked Bytes (asked Lines (asked Words [])))
  goes_bytes_lines_words = goes (asked Bytes (asked Lines (asked Words []))) (count_known (Totals.Bytes ∷ Totals.Lines ∷ Totals.Words ∷ []) refl) (λ value is. absurd is)

  goes_bytes_words_lines : Goes (asked Bytes (asked Words (asked Lines [])))
  goes_bytes_words_lines = goes (asked Bytes (asked Words (asked Lines []))) (count_known (Totals.Bytes ∷ Totals.Words ∷ Totals.Lines ∷ []) refl) (λ value is. absurd is)

  goes_lines_words : Goes (asked Lines (asked Words []))
  goes_lines_words = goes (asked Lines (asked Words [])) (count_known (Totals.Lines ∷ Totals.Words ∷ []) refl) next
    where
      next : (value : Value) → IsOfOne (before_count (asked Lines (asked Words []))) value → Goes ((asked Lines (asked Words [])) ++ value ∷ [])
      next value (inl is) = by_word (asked Lines (asked Words [])) Bytes value is goes_lines_words_bytes
      next value (inr is) = absurd is

  goes_lines_bytes : Goes (asked Lines (asked Bytes []))
  goes_lines_bytes = goes (asked Lines (asked Bytes [])) (count_known (Totals.Lines ∷ Totals.Bytes ∷ []) refl) next
    where
      next : (value : Value) → IsOfOne (before_count (asked Lines (asked Bytes []))) value → Goes ((asked Lines (asked Bytes [])) ++ value ∷ [])
      next value (inl is) = by_word (asked Lines (asked Bytes [])) Words value is goes_lines_bytes_words
      next value (inr is) = absurd is

  goes_words_lines : Goes (asked Words (asked Lines []))
  goes_words_lines = goes (asked Words (asked Lines [])) (count_known (Totals.Words ∷ Totals.Lines ∷ []) refl) next
    where
      next : (value : Value) → IsOfOne (before_count (asked Words (asked Lines []))) value → Goes ((asked Words (asked Lines [])) ++ value ∷ [])
      next value (inl is) = by_word (asked Words (asked Lines [])) Bytes value is goes_words_lines_bytes
      next value (inr is) = absurd is

  goes_words_bytes : Goes (asked Words (asked Bytes []))
  goes_words_bytes = goes (asked Words (asked Bytes [])) (count_known (Totals.Words ∷ Totals.Bytes ∷ []) refl) next
    where
      next : (value : Value) → IsOfOne (before_count (asked Words (asked Bytes []))) value → Goes ((asked Words (asked Bytes [])) ++ value ∷ [])
      next value (inl is) = by_word (asked Words (asked Bytes [])) Lines value is goes_words_bytes_lines
      next value (inr is) = absurd is

  goes_bytes_lines : Goes (asked Bytes (asked Lines []))
  goes_bytes_lines = goes (asked Bytes (asked Lines [])) (count_known (Totals.Bytes ∷ Totals.Lines ∷ []) refl) next
    where
      next : (value : Value) → IsOfOne (before_count (asked Bytes (asked Lines []))) value → Goes ((asked Bytes (asked Lines [])) ++ value ∷ [])
      next value (inl is) = by_word (asked Bytes (asked Lines [])) Words value is goes_bytes_lines_words
      next value (inr is) = absurd is

  goes_bytes_words : Goes (asked Bytes (asked Words []))
  goes_bytes_words = goes (asked Bytes (asked Words [])) (count_known (Totals.Bytes ∷ Totals.Words ∷ []) refl) next
    where
      next : (value : Value) → IsOfOne (before_count (asked Bytes (asked Words []))) value → Goes ((asked Bytes (asked Words [])) ++ value ∷ [])
      next value (inl is) = by_word (asked Bytes (asked Words [])) Lines value is goes_bytes_words_lines
      next value (inr is) = absurd is

  goes_lines : Goes (asked Lines [])
  goes_lines = goes (asked Lines []) (count_known (Totals.Lines ∷ []) refl) next
    where
      next : (value : Value) → IsOfOne (before_count (asked Lines [])) value → Goes ((asked Lines []) ++ value ∷ [])
      next value (inl is) = by_word (asked Lines []) Words value is goes_lines_words
      next value (inr (inl is)) = by_word (asked Lines []) Bytes value is goes_lines_bytes
      next value (inr (inr is)) = absurd is

  goes_words : Goes (asked Words [])
  goes_words = goes (asked Words []) (count_known (Totals.Words ∷ []) refl) next
    where
      next : (value : Value) → IsOfOne (before_count (asked Words [])) value → Goes ((asked Words []) ++ value ∷ [])
      next value (inl is) = by_word (asked Words []) Lines value is goes_words_lines
      next value (inr (inl is)) = by_word (asked Words []) Bytes value is goes_words_bytes
      next value (inr (inr is)) = absurd is

  goes_bytes : Goes (asked Bytes [])
  goes_bytes = goes (asked Bytes []) (count_known (Totals.Bytes ∷ []) refl) next
    where
      next : (value : Value) → IsOfOne (before_count (asked Bytes [])) value → Goes ((asked Bytes []) ++ value ∷ [])
      next value (inl is) = by_word (asked Bytes []) Lines value is goes_bytes_lines
      next value (inr (inl is)) = by_word (asked Bytes []) Words value is goes_bytes_words
      next value (inr (inr is)) = absurd is

  counting_all : Goes []
  counting_all = goes [] tt next
    where
      next : (value : Value) → IsOfOne (before_count []) value → Goes ([] ++ value ∷ [])
      next value (inl is) = by_word [] Lines value is goes_lines
      next value (inr (inl is)) = by_word [] Words value is goes_words
      next value (inr (inr (inl is))) = by_word [] Bytes value is goes_bytes
      next value (inr (inr (inr is))) = absurd is

  pub counting : (values : List Value) → AreOfRow count_row [] values → IfSome (count_of (totals_of values)) (IsOther first)
  counting values are = counting_all values are

  -- SORT

  abbrev sort_row : Row
  sort_row = row before_sort of_sort

  few_ranges : (before values : List Value) → ranges_in before ≤ 10 → AreOfRow sort_row before values → ranges_in (before ++ values) ≤ 10
  few_ranges before [] low are = subst (λ (all : List Value). ranges_in all ≤ 10) (sym (append-nil before)) low
  few_ranges before (Read.Range range ∷ values) low are =
      let less = few_before (nat_lt (ranges_in before) 10) (ends_with_range before) range are.0 in
      let room : ranges_in before < 10 = grind (arith, nat_tests) in
      let all = few_ranges (before ++ Read.Range range ∷ []) values (omega (arith, ranges_more before (Read.Range range), room)) are.1 in
      subst (λ (all : List Value). ranges_in all ≤ 10) (append_assoc before (Read.Range range ∷ []) values) all
  few_ranges before (value ∷ values) low are =
      let all = few_ranges (before ++ value ∷ []) values (omega (arith, ranges_more before value, low)) are.1 in
      subst (λ (all : List Value). ranges_in all ≤ 10) (append_assoc before (value ∷ []) values) all

  right_ranges : (before values : List Value) → AreOfRow sort_row before values → list_all is_sound values ≡ true
  right_ranges before [] are = refl
  right_ranges before (Read.Range range ∷ values) are = rw (range_of_one (before_sort before) range are.0, right_ranges (before ++ Read.Range range ∷ []) values are.1) refl
  right_ranges before (value ∷ values) are = right_ranges (before ++ value ∷ []) values are.1

  sort_known : (values : List Value) → ranges_in values ≤ 10 → list_all is_sound values ≡ true → (keys : Option (List SortKey)) → IfSome keys (AreKeysOf values) → IfSome (option_map sort_of keys) (IsOther first)
  sort_known values few right None are = tt
  sort_known values few right (Some []) are = known first (Kinds.Sort (key_of all_columns false ∷ [])) refl refl
  sort_known values few right (Some (key ∷ keys)) are =
      let size : length (key ∷ keys) ≤ 10 = omega (arith, are.0, few) in
      known first (Kinds.Sort (key ∷ keys)) refl (rw (le-leb 1 (length (key ∷ keys)) (omega arith), le-leb (length (key ∷ keys)) 10 size, are.1 right) refl)

  pub sorting : (values : List Value) → AreOfRow sort_row [] values → IfSome (of_sort values) (IsOther first)
  sorting values are = sort_known values (few_ranges [] values (omega arith) are) (right_ranges [] values are) (keys_of values) (keys_are values)
