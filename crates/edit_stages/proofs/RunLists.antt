-- The runs of a record, from the first on.
use Rattle.std.proofs.Common.{◌≡◌, ℕ, zero, suc, ◌+◌, ◌-◌, ◌<◌, ◌≤◌, ◌==◌, Bool, true, false, cond, not, List, [], ◌∷◌, length, take, drop, get_or, refl, sym, ◌∙◌, ap, arith, ⊎_elim, Some}
use Rattle.std.specs.List.{prefix_len, position_or_len, slice_split, filter}
use Rattle.std.proofs.lemmas.Bool.{cases_lt, ne_eqb}
use Rattle.std.proofs.lemmas.List.{nil_from_length, take_all, drop_all, drop_more, drop-drop, length-drop, length-take-le, get_or-drop}
use Rattle.std.proofs.lemmas.List.Elements.{All-from_get_or}
use Rattle.std.proofs.lemmas.List.Splits.{slice_split-cons_yes, slice_split_first, slice_split_none}
use Rattle.std.proofs.lemmas.List.Sums.{prefix_len-le-length, prefix_len_stops, passes_at_first, fails_before_first}
use Rattle.pipe_model.specs.EditingRows.{runs, front_stripped}
use Rattle.pipe_model.specs.Members.{has}
use Rattle.edit_stages.specs.Runs.{IsFirstRun}

abbrev is_filled : List ℕ → Bool
is_filled part = not (length part == 0)

-- bytes of the set at the front are in no run
pub front_in_none : (set text : List ℕ) → runs set (drop (prefix_len (has set) text) text) ≡ runs set text
front_in_none set [] = refl
front_in_none set (b ∷ text) = by (has set b) refl (front_in_none set text)
  where
    by : (t : Bool) → has set b ≡ t → runs set (drop (prefix_len (has set) text) text) ≡ runs set text → runs set (drop (prefix_len (has set) (b ∷ text)) (b ∷ text)) ≡ runs set (b ∷ text)
    by true is rest =
        let one : 1 + prefix_len (has set) text ≡ suc (prefix_len (has set) text) = omega arith in
        ap (λ t. runs set (drop (cond t (1 + prefix_len (has set) text) 0) (b ∷ text))) is ∙ ap (λ n. runs set (drop n (b ∷ text))) one ∙ rest
        ∙ sym (ap (filter is_filled) (slice_split-cons_yes (has set) b text is))
    by false is rest = ap (λ t. runs set (drop (cond t (1 + prefix_len (has set) text) 0) (b ∷ text))) is

-- a part that isn't empty is one
filled_first : (part : List ℕ) (parts : List (List ℕ)) → 0 < length part → filter is_filled (part ∷ parts) ≡ part ∷ filter is_filled parts
filled_first part parts some = ap (λ t. cond (not t) (part ∷ filter is_filled parts) (filter is_filled parts)) (ne_eqb (length part) 0 (λ none. omega (arith, some, none)))

module _ (set text : List ℕ) where
  abbrev end : ℕ
  end = position_or_len (has set) text

  ends_before : 0 < end → end < length text → runs set text ≡ take end text ∷ runs set (drop end text)
  ends_before some within =
      let size : length (take end text) ≡ end = length-take-le end text (omega (arith, within)) in
      let behind : runs set (drop end text) ≡ filter is_filled (slice_split (has set) (drop (end + 1) text)) =
      ap (runs set) (drop_more text end 0 within) ∙ ap (filter is_filled) (slice_split-cons_yes (has set) (get_or text end 0) (drop (end + 1) text) (passes_at_first (has set) text 0 within)) in
      ap (filter is_filled) (slice_split_first (has set) text 0 within) ∙ filled_first (take end text) (slice_split (has set) (drop (end + 1) text)) (omega (arith, size, some)) ∙ ap (λ l. take end text ∷ l) (sym behind)

  ends_with : 0 < end → length text ≤ end → runs set text ≡ take end text ∷ runs set (drop end text)
  ends_with some beyond =
      let whole : slice_split (has set) text ≡ text ∷ [] = slice_split_none (has set) text (All-from_get_or (λ b. has set b ≡ false) text 0 (λ k below. fails_before_first (has set) text k 0 (omega (arith, beyond, below)))) in
      let size = prefix_len-le-length (λ b. not (has set b)) text in
      let all : take end text ≡ text = take_all end text beyond in
      let none : drop end text ≡ [] = drop_all end text beyond in
      ap (filter is_filled) whole ∙ filled_first text [] (omega (arith, some, size)) ∙ ap (λ l. l ∷ []) (sym all) ∙ ap (λ l. take end text ∷ runs set l) (sym none)

  -- a run at the front is the first
  pub run_first : 0 < end → runs set text ≡ take end text ∷ runs set (drop end text)
  run_first some = ⊎_elim (ends_before some) (ends_with some) (cases_lt end (length text))

module _ (set text rest : List ℕ) (rest_is : rest ≡ front_stripped set text) where
  all_runs : runs set text ≡ runs set rest
  all_runs = sym (front_in_none set text) ∙ ap (runs set) (sym rest_is)

  -- nothing but bytes of the set
  pub no_run : length rest ≡ 0 → runs set text ≡ []
  no_run none = all_runs ∙ ap (runs set) (nil_from_length rest none)

  abbrev skipped : ℕ
  skipped = prefix_len (has set) text

  few_skipped : 0 < length rest → skipped < length text
  few_skipped some = omega (arith, some, ap length rest_is, length-drop skipped text)

  front_outside : 0 < length rest → has set (get_or rest 0 0) ≡ false
  front_outside some =
      let none : skipped + 0 ≡ skipped = omega arith in
      ap (λ l. has set (get_or l 0 0)) rest_is ∙ ap (has set) (get_or-drop skipped text 0 0) ∙ ap (λ n. has set (get_or text n 0)) none ∙ prefix_len_stops (has set) text 0 (few_skipped some)

  filled_run : 0 < length rest → 0 < position_or_len (has set) rest
  filled_run some = by (position_or_len (has set) rest) refl
    where
      by : (n : ℕ) → position_or_len (has set) rest ≡ n → 0 < position_or_len (has set) rest
      by zero is =
          let inside : has set (get_or rest 0 0) ≡ true = ap (λ k. has set (get_or rest k 0)) (sym is) ∙ passes_at_first (has set) rest 0 (omega (arith, is, some)) in
          absurd (cc (inside, front_outside some))
      by (suc n) is = omega (arith, is)

  -- a run behind bytes of the set
  pub a_run : (gap size : ℕ) → 0 < length rest → gap ≡ length text - length rest → size ≡ position_or_len (has set) rest → IsFirstRun set text (Some (gap, size))
  a_run gap size some gap_is size_is =
      let cut = length-drop skipped text in
      let long = ap length rest_is in
      let few = few_skipped some in
      let here : gap ≡ skipped = omega (arith, gap_is, cut, long, few) in
      let rest_at : rest ≡ drop gap text = rest_is ∙ ap (λ n. drop n text) (sym here) in
      let short = prefix_len-le-length (λ b. not (has set b)) rest in (
        all_runs ∙ run_first set rest (filled_run some)
            ∙ ap (λ n. take n rest ∷ runs set (drop n rest)) (sym size_is)
            ∙ ap (λ l. take size l ∷ runs set (drop size l)) rest_at
            ∙ ap (λ l. take size (drop gap text) ∷ runs set l) (drop-drop size gap text),
        (let filled = filled_run some in omega (arith, size_is, filled)),
        omega (arith, size_is, short, here, cut, long, few),
      )
