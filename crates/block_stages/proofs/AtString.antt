-- A text cut at the occurrences of a string, from its front.
use Rattle.std.proofs.Common.{◌≡◌, ℕ, zero, suc, ◌+◌, ◌-◌, ◌<◌, ◌≤◌, ◌==◌, true, false, cond, ◌&&◌, Bool, List, [], ◌∷◌, ◌++◌, length, take, drop, refl, sym, ◌∙◌, ap, subst, arith, Option, Some, None, ⊎_elim}
use Rattle.std.specs.Prelude.{option_map}
use Rattle.std.specs.List.{onto_first}
use Rattle.std.proofs.lemmas.Bool.{ne_eqb, false_from_ne_true, and_parts, cases_Bool, cases_lt}
use Rattle.std.proofs.lemmas.List.{append-nil, drop-drop, length-drop}
use Rattle.pipe_model.specs.BlockRows.{at_cut, cut_at}
use Rattle.pipe_model.specs.Search.{begins}
use Rattle.pipe_model.specs.Shape.{Records}
use Rattle.stage_steps.specs.Strings.{StandsAt, IsFirstPlace}
use Rattle.block_stages.specs.Delimiting.{width_of, IsCutAt, IsSearchedFor}

-- Where a string begins a text

-- what comes behind a text that is long enough doesn't matter
pub begins_stays : (string text more : List ℕ) → length string ≤ length text → begins string (text ++ more) ≡ begins string text
begins_stays [] text more within = refl
begins_stays (s ∷ string) [] more within = absurd (omega (arith, within))
begins_stays (s ∷ string) (b ∷ text) more within = ap (λ rest. s == b && rest) (begins_stays string text more (omega (arith, within)))

begins_fits : (string text : List ℕ) → begins string text ≡ true → length string ≤ length text
begins_fits [] text is = omega arith
begins_fits (s ∷ string) [] is = cc
begins_fits (s ∷ string) (b ∷ text) is = let fits = begins_fits string text (and_parts (s == b) (begins string text) is).1 in omega (arith, fits)

width_is : (string : List ℕ) → width_of string ≡ suc (length string - 1)
width_is [] = refl
width_is (s ∷ string) = omega arith

module _ (string : List ℕ) where
  -- The first byte

  passed : (skip b : ℕ) (text : List ℕ) → cut_at string (suc skip) (b ∷ text) ≡ cut_at string skip text
  passed skip b text =
      ap (λ is. cut_at string (cond (is && begins string (b ∷ text)) (length string - 1) (suc skip - 1)) text) (ne_eqb (suc skip) 0 (λ same. omega (arith, same)))
      ∙ ap (λ n. cut_at string n text) (omega arith)

  skipped : (skip : ℕ) (text more : List ℕ) → skip ≤ length text → cut_at string skip (text ++ more) ≡ cut_at string 0 (drop skip text ++ more)
  skipped zero text more within = refl
  skipped (suc skip) [] more within = absurd (omega (arith, within))
  skipped (suc skip) (b ∷ text) more within = passed skip b (text ++ more) ∙ skipped skip text more (omega (arith, within))

  by_first : (b : ℕ) (text : List ℕ) (found : Bool) → begins string (b ∷ text) ≡ found → cut_at string 0 (b ∷ text) ≡ at_cut 0 found b (cut_at string (cond found (length string - 1) (0 - 1)) text)
  by_first b text found is = ap (λ found. at_cut 0 found b (cut_at string (cond found (length string - 1) (0 - 1)) text)) is

  not_here : (b : ℕ) (text : List ℕ) → begins string (b ∷ text) ≡ false → cut_at string 0 (b ∷ text) ≡ onto_first b (cut_at string 0 text)
  not_here b text is = by_first b text false is ∙ ap (λ n. onto_first b (cut_at string n text)) (omega arith)

  -- there is a part
  some_first : (b : ℕ) (text : List ℕ) (found : Bool) → begins string (b ∷ text) ≡ found → (p : List ℕ) × (ps : Records) × (cut_at string 0 text ≡ p ∷ ps) → (p : List ℕ) × (ps : Records) × (cut_at string 0 (b ∷ text) ≡ p ∷ ps)
  some_first b text true is rest = ([], cut_at string (length string - 1) text, by_first b text true is)
  some_first b text false is rest = (b ∷ rest.0, rest.1, not_here b text is ∙ ap (onto_first b) rest.2)

  some_part : (skip : ℕ) (text : List ℕ) → (p : List ℕ) × (ps : Records) × (cut_at string skip text ≡ p ∷ ps)
  some_part skip [] = ([], [], refl)
  some_part (suc skip) (b ∷ text) = let rest = some_part skip text in (rest.0, rest.1, passed skip b text ∙ rest.2)
  some_part zero (b ∷ text) = some_first b text (begins string (b ∷ text)) refl (some_part 0 text)

  -- The first place

  later : (b : ℕ) (text : List ℕ) (k : ℕ) → StandsAt string text k → StandsAt string (b ∷ text) (suc k)
  later b text k at = (let low = at.0 in omega (arith, low), at.1)

  cut_nowhere : (text : List ℕ) → ((k : ℕ) → ¬ StandsAt string text k) → cut_at string 0 text ≡ text ∷ []
  cut_nowhere [] never = refl
  cut_nowhere (b ∷ text) never =
      not_here b text (false_from_ne_true (begins string (b ∷ text)) (λ is. never 0 (omega arith, is)))
      ∙ ap (onto_first b) (cut_nowhere text (λ k at. never (suc k) (later b text k at)))

  cut_here : (text : List ℕ) (k : ℕ) → StandsAt string text k → ((j : ℕ) → j < k → ¬ StandsAt string text j) → k + width_of string ≤ length text → (more : List ℕ) →
      cut_at string 0 (text ++ more) ≡ take k text ∷ cut_at string 0 (drop (k + width_of string) text ++ more)
  cut_here [] k at before within more = absurd (let wide = width_is string in omega (arith, wide, within))
  cut_here (b ∷ text) zero at before within more =
      let wide = width_is string in
      let all : suc (length string - 1) ≡ 0 + width_of string = omega (arith, wide) in
      by_first b (text ++ more) true (begins_stays string (b ∷ text) more (omega (arith, wide, within)) ∙ at.1)
      ∙ ap (λ parts. [] ∷ parts) (skipped (length string - 1) text more (omega (arith, wide, within)))
      ∙ ap (λ n. [] ∷ cut_at string 0 (drop n (b ∷ text) ++ more)) all
  cut_here (b ∷ text) (suc k) at before within more =
      let wide = width_is string in
      let low = at.0 in
      let none = false_from_ne_true (begins string (b ∷ text)) (λ is. before 0 (omega arith) (omega arith, is)) in
      let further : suc (k + width_of string) ≡ suc k + width_of string = omega arith in
      not_here b (text ++ more) (begins_stays string (b ∷ text) more (omega (arith, wide, within)) ∙ none)
      ∙ ap (onto_first b) (cut_here text k (omega (arith, low), at.1) (λ j below there. before (suc j) (omega (arith, below)) (later b text j there)) (omega (arith, within)) more)
      ∙ ap (λ n. (b ∷ take k text) ∷ cut_at string 0 (drop n (b ∷ text) ++ more)) further

  -- where the string stands there is room for it, and a byte to drop
  room : (text : List ℕ) (k : ℕ) → StandsAt string text k → k + length string ≤ length text
  room text zero at = let fits = begins_fits string text at.1 in omega (arith, fits)
  room [] (suc k) at = absurd (let low = at.0 in omega (arith, low))
  room (b ∷ text) (suc k) at = let low = at.0 in let fits = room text k (omega (arith, low), at.1) in omega (arith, fits)

  wide_room : (text : List ℕ) (k : ℕ) → 0 < length text → StandsAt string text k → ((j : ℕ) → j < k → ¬ StandsAt string text j) → k + width_of string ≤ length text
  wide_room text k some at before = by string refl
    where
      by : (s : List ℕ) → string ≡ s → k + width_of string ≤ length text
      by (x ∷ tail) is = let fits = room text k at in let wide = width_is string in let size = ap length is in omega (arith, fits, wide, size)
      by [] is = front k refl
        where
          front : (j : ℕ) → k ≡ j → k + width_of string ≤ length text
          front zero is_first = let wide = width_is string in let size = ap length is in omega (arith, wide, size, some, is_first)
          front (suc j) is_later = absurd (before 0 (omega (arith, is_later)) (omega arith, ap (λ s. begins s text) is))

  -- a text is cut at the first place
  pub cut_at_place : (text : List ℕ) (place : Option ℕ) → 0 < length text → IsFirstPlace string text place → IsCutAt string text place
  cut_at_place text None some is = cut_nowhere text is
  cut_at_place text (Some k) some is = let wide = wide_room text k some is.0 is.1 in (wide, cut_here text k is.0 is.1 wide)

  -- there is one, or none
  sooner : (b : ℕ) (text : List ℕ) (k : ℕ) → StandsAt string (b ∷ text) (suc k) → StandsAt string text k
  sooner b text k at = (let low = at.0 in omega (arith, low), at.1)

  never_at : (b : ℕ) (text : List ℕ) → begins string (b ∷ text) ≡ false → ((k : ℕ) → ¬ StandsAt string text k) → (k : ℕ) → ¬ StandsAt string (b ∷ text) k
  never_at b text none never zero at = let is = at.1 in cc (is, none)
  never_at b text none never (suc k) at = never k (sooner b text k at)

  none_before : (b : ℕ) (text : List ℕ) (k : ℕ) → begins string (b ∷ text) ≡ false → ((j : ℕ) → j < k → ¬ StandsAt string text j) → (j : ℕ) → j < suc k → ¬ StandsAt string (b ∷ text) j
  none_before b text k none before zero below at = let is = at.1 in cc (is, none)
  none_before b text k none before (suc j) below at = before j (omega (arith, below)) (sooner b text j at)

  further : (b : ℕ) (text : List ℕ) (place : Option ℕ) → begins string (b ∷ text) ≡ false → IsFirstPlace string text place → (place : Option ℕ) × IsFirstPlace string (b ∷ text) place
  further b text None none never = (None, never_at b text none never)
  further b text (Some k) none is = (Some (suc k), (later b text k is.0, none_before b text k none is.1))

  never_in_none : begins string [] ≡ false → (k : ℕ) → ¬ StandsAt string [] k
  never_in_none none zero at = let is = at.1 in cc (is, none)
  never_in_none none (suc k) at = let low = at.0 in absurd (omega (arith, low))

  at_front : (text : List ℕ) → begins string text ≡ true → (place : Option ℕ) × IsFirstPlace string text place
  at_front text is = (Some 0, ((omega arith, is), λ j below. absurd (omega (arith, below))))

  pub first_place : (text : List ℕ) → (place : Option ℕ) × IsFirstPlace string text place
  first_place [] = ⊎_elim (at_front []) (λ none. (None, never_in_none none)) (cases_Bool (begins string []))
  first_place (b ∷ text) = let rest = first_place text in ⊎_elim (at_front (b ∷ text)) (λ none. further b text rest.0 none rest.1) (cases_Bool (begins string (b ∷ text)))

  -- Places that were searched

  module _ (searched : ℕ) (text part : List ℕ) (part_is : part ≡ drop searched text) where
    -- a place in the part behind them is one of the text
    behind_them : (k : ℕ) → StandsAt string text (searched + k) → k ≤ length part → StandsAt string part k
    behind_them k at low = (low, ap (λ rest. begins string (drop k rest)) part_is ∙ ap (begins string) (drop-drop k searched text) ∙ at.1)

    from_behind : (k : ℕ) → StandsAt string part k → searched ≤ length text → StandsAt string text (searched + k)
    from_behind k at within =
        let low = at.0 in
        let size = ap length part_is ∙ length-drop searched text in
        (omega (arith, low, size, within), sym (ap (begins string) (drop-drop k searched text)) ∙ sym (ap (λ rest. begins string (drop k rest)) part_is) ∙ at.1)

    not_searched : IsSearchedFor string searched text → (k : ℕ) → StandsAt string text k → (j : ℕ) × (k ≡ searched + j)
    not_searched vain k at = ⊎_elim (λ below. absurd (let is = at.1 in let isnt = (vain k below).1 in cc (is, isnt))) (λ beyond. (k - searched, omega (arith, beyond))) (cases_lt k searched)

    part_size : searched ≤ length text → length part ≡ length text - searched
    part_size within = ap length part_is ∙ length-drop searched text

    -- the first place in the part is the first in the text
    pub place_behind : searched ≤ length text → IsSearchedFor string searched text → (place : Option ℕ) → IsFirstPlace string part place → IsFirstPlace string text (option_map (λ k. searched + k) place)
    place_behind within vain None never = λ k at.
        let there = not_searched vain k at in
        let low = at.0 in
        never there.0 (behind_them there.0 (subst (StandsAt string text) there.1 at) (omega (arith, low, there.1, part_size within)))
    place_behind within vain (Some k) is = (
      from_behind k is.0 within,
      λ j below at.
          let there = not_searched vain j at in
          let low = at.0 in
          is.1 there.0 (omega (arith, below, there.1)) (behind_them there.0 (subst (StandsAt string text) there.1 at) (omega (arith, low, there.1, part_size within))),
    )

  -- what is cut at the first place behind them
  pub cut_behind : (searched : ℕ) (text part : List ℕ) → part ≡ drop searched text → searched < length text → (place : Option ℕ) → IsFirstPlace string part place → IsSearchedFor string searched text → IsCutAt string text (option_map (λ k. searched + k) place)
  cut_behind searched text part part_is within place is vain =
      cut_at_place text (option_map (λ k. searched + k) place) (omega (arith, within)) (place_behind searched text part part_is (omega (arith, within)) vain place is)

  -- all were searched
  pub all_searched : (searched : ℕ) (text : List ℕ) → length text ≤ searched → IsSearchedFor string searched text → cut_at string 0 text ≡ text ∷ []
  all_searched searched [] beyond vain = refl
  all_searched searched (b ∷ text) beyond vain =
      let first = vain 0 (omega (arith, beyond)) in
      cut_nowhere (b ∷ text) (λ k at.
      let is = at.1 in
      let low = at.0 in
      let short = room (b ∷ text) k at in
      ⊎_elim (λ below. let isnt = (vain k below).1 in cc (is, isnt)) (λ beyond_k. empty_one string refl (omega (arith, short, beyond, beyond_k)) first.1) (cases_lt k searched))
    where
      empty_one : (s : List ℕ) → string ≡ s → length string ≡ 0 → begins string (drop 0 (b ∷ text)) ≡ false → ⊥
      empty_one [] is none isnt = let found = ap (λ s. begins s (b ∷ text)) is in cc (found, isnt)
      empty_one (x ∷ tail) is none isnt = let size = ap length is in omega (arith, size, none)

  -- a text that is cut nowhere was searched up to its last bytes
  pub searched_whole : (text : List ℕ) (searched : ℕ) → searched ≡ (length text + 1) - width_of string → cut_at string 0 text ≡ text ∷ [] → IsSearchedFor string searched text
  searched_whole text searched is whole k below =
      let wide = width_is string in
      let within : k + width_of string ≤ length text = omega (arith, is, below, wide) in
      let first = first_place text in (
        omega (arith, within, wide),
        false_from_ne_true (begins string (drop k text)) (λ found. no_place first.0 first.1 (omega (arith, within), found) within),
      )
    where
      two : (place : ℕ) → cut_at string 0 (text ++ []) ≡ take place text ∷ cut_at string 0 (drop (place + width_of string) text ++ []) → ⊥
      two place cut =
          let some = some_part 0 (drop (place + width_of string) text ++ []) in
          let one : text ∷ [] ≡ take place text ∷ some.0 ∷ some.1 = sym whole ∙ ap (cut_at string 0) (sym (append-nil text)) ∙ cut ∙ ap (λ parts. take place text ∷ parts) some.2 in
          cc one

      no_place : (place : Option ℕ) → IsFirstPlace string text place → StandsAt string text k → k + width_of string ≤ length text → ⊥
      no_place None never at within = never k at
      no_place (Some j) first at within =
          ⊎_elim (λ before. first.1 k before at) (λ early. two j (cut_here text j first.0 first.1 (omega (arith, early, within)) [])) (cases_lt k j)
