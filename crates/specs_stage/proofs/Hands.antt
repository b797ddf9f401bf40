-- The words of a record, each found once.
use Rattle.std.proofs.Common.{◌≡◌, ◌≢◌, ◌⊎◌, ⊎_elim, ℕ, suc, ◌+◌, ◌-◌, ◌<◌, ◌≤◌, Bool, true, false, List, [], ◌∷◌, ◌++◌, length, take, drop, get_or, min, refl, sym, ◌∙◌, ap, subst, arith, length-take, length-drop}
use Rattle.std.specs.Prelude.{◌==◌}
use Rattle.std.specs.declared.option.Option.{Option}
use Rattle.std.specs.declared.option.Option.TheVariants.{Some, None}
use Rattle.std.proofs.lemmas.Bool.{cases_lt, ne_eqb}
use Rattle.std.proofs.lemmas.List.{take_all, drop_all, drop_more, drop-drop, drop-take, take-append-le, append-nil}
use Rattle.pipe_model.specs.Ranges.{Place, between, words_from, spanned, words_spanned}
use Rattle.stage_steps.proofs.Words.{blanks, letters, past_blanks, past_word, is_word, word_len-le, spanned-take, length-words}
use Rattle.specs_stage.specs.Hands.{words_at_end, AreEnough, AreFound, HasNoWord, IsNextWord}

empty_of : {A : Type 0} (xs : List A) (empty : Bool) → empty ≡ (length xs == 0) → empty ≡ true → xs ≡ []
empty_of [] empty e f = refl
empty_of (x ∷ xs) empty e f = let z : (length (x ∷ xs) == 0) ≡ false = ne_eqb (length (x ∷ xs)) 0 (omega arith) in cc

filled_of : {A : Type 0} (xs : List A) (empty : Bool) → empty ≡ (length xs == 0) → empty ≡ false → xs ≢ []
filled_of [] empty e f = cc
filled_of (x ∷ xs) empty e f = λ z. cc

-- Finding a word

-- behind the blanks there is nothing
pub none_found : (len : ℕ) (rest word : List ℕ) (empty : Bool) → word ≡ drop (blanks rest) rest → empty ≡ (length word == 0) → empty ≡ true → HasNoWord len rest
none_found len rest word empty word_is e f =
    let place = len - length rest in
    past_blanks place rest ∙ ap (words_from (place + blanks rest)) (sym word_is ∙ empty_of word empty e f)

-- or a word
pub one_found : (len : ℕ) (rest word behind : List ℕ) (empty : Bool) → length rest ≤ len → word ≡ drop (blanks rest) rest → empty ≡ (length word == 0) → empty ≡ false → behind ≡ drop (letters word) word
    → IsNextWord len rest (len - length word, len - length behind) behind
one_found len rest word behind empty within word_is e f behind_is =
    let n = blanks rest in
    let m = letters word in
    let place = len - length rest in
    let some : 0 < m = ⊎_elim (λ none. absurd (filled_of word empty e f (word_is ∙ none))) (λ l. subst (λ t. 0 < letters t) (sym word_is) l) (is_word rest) in
    let same : m ≡ letters (drop n rest) = ap letters word_is in
    let fits : n + letters (drop n rest) ≤ length rest = word_len-le rest in
    let word_size : length word ≡ length rest - n = ap length word_is ∙ length-drop n rest in
    let behind_size : length behind ≡ length word - m = ap length behind_is ∙ length-drop m word in
    let from : place + n ≡ len - length word = omega arith in
    let to : (place + n) + m ≡ len - length behind = omega arith in
    let far : n + m ≡ length rest - length behind = omega arith in
    record {
      words = past_blanks place rest ∙ ap (words_from (place + n)) (sym word_is) ∙ past_word (place + n) word some
          ∙ ap (λ k. (k, (place + n) + m) ∷ words_from ((place + n) + m) (drop m word)) from
          ∙ ap (λ k. (len - length word, k) ∷ words_from k (drop m word)) to
          ∙ ap (λ l. (len - length word, len - length behind) ∷ words_from (len - length behind) l) (sym behind_is);
      behind_is = behind_is ∙ ap (drop m) word_is ∙ drop-drop m n rest ∙ ap (λ k. drop k rest) far;
      less = omega arith;
    }

-- where there is no word more, all were found
pub no_more : (rec rest : List ℕ) (found : List Place) → AreFound rec rest found → HasNoWord (length rec) rest → AreFound rec [] found
no_more rec rest found are none = record {
  words = ap (λ l. found ++ l) (sym none) ∙ are.words;
  rest_is = sym (drop_all (length rec - 0) rec (omega arith));
  within = omega arith;
}

-- What a range names

-- either there are enough, or there are no more
taken : (count : ℕ) (rec rest : List ℕ) (found : List Place) → AreFound rec rest found → (count ≤ length found) ⊎ (rest ≡ []) → take count found ≡ take count (words_from 0 rec)
taken count rec rest found are enough = ⊎_elim
    (λ le. sym (take-append-le count found (words_at_end (length rec) rest) le) ∙ ap (take count) are.words)
    (λ none. ap (take count) (sym (append-nil found) ∙ ap (λ l. found ++ words_at_end (length rec) l) (sym none) ∙ are.words)) enough

-- all words, which are no more than there are bytes
pub all_enough : (len first : ℕ) → AreEnough len first None len
all_enough len first words short = ap (drop (first - 1)) (take_all len words short)

-- or those up to the last one
pub up_to_last : (len first last : ℕ) → AreEnough len first (Some last) ((first - 1) + (last + 1 - first))
up_to_last len first last words short = drop-take (first - 1) (last + 1 - first) words

-- the end of a list, cut where the list is cut
cut : (skipped begin end : ℕ) (ws : List Place) → begin ≡ min end skipped → take (end - begin) (drop begin ws) ≡ drop skipped (take end ws)
cut skipped begin end ws begin_is =
    let both : begin + (end - begin) ≡ end = omega (arith, begin_is) in
    sym (drop-take begin (end - begin) ws) ∙ ap (λ k. drop begin (take k ws)) both
    ∙ ⊎_elim
    (λ low. let same : begin ≡ skipped = omega (arith, begin_is, low) in ap (λ k. drop k (take end ws)) same)
    (λ high. drop_all begin (take end ws) (omega (arith, begin_is, high, length-take end ws)) ∙ sym (drop_all skipped (take end ws) (omega (arith, high, length-take end ws)))) (cases_lt skipped end)

take_less : (count end : ℕ) (ws : List Place) → end ≡ min count (length ws) → take end ws ≡ take count ws
take_less count end ws end_is = ⊎_elim
    (λ low. let same : end ≡ count = omega (arith, end_is, low) in ap (λ k. take k ws) same)
    (λ high. take_all end ws (omega (arith, end_is, high)) ∙ sym (take_all count ws high)) (cases_lt count (length ws))

pub words_named : (first : ℕ) (last : Option ℕ) (count begin end : ℕ) (rec rest : List ℕ) (found : List Place) → AreFound rec rest found → AreEnough (length rec) first last count
    → (count ≤ length found) ⊎ (rest ≡ []) → end ≡ min count (length found) → begin ≡ min end (first - 1) → take (end - begin) (drop begin found) ≡ between first last (words_from 0 rec)
words_named first last count begin end rec rest found are names enough end_is begin_is =
    cut (first - 1) begin end found begin_is ∙ ap (drop (first - 1)) (take_less count end found end_is ∙ taken count rec rest found are enough)
    ∙ names (words_from 0 rec) (length-words 0 rec)

-- from the first word to the end of the last
spanned_by : (ws : List Place) (rec : List ℕ) (first last : Place) → ws ≢ [] → first ≡ get_or ws 0 first → last ≡ get_or ws (length ws - 1) last → take (last.1 - first.0) (drop first.0 rec) ≡ words_spanned ws rec
spanned_by [] rec first last some first_is last_is = absurd (some refl)
spanned_by (w ∷ ws) rec first last some first_is last_is =
    let all = w ∷ ws in
    let i = length ws in
    let place : length all - 1 ≡ i = omega arith in
    let at_last : drop i all ≡ last ∷ [] =
    drop_more all i last (omega arith) ∙ ap (λ v. v ∷ drop (i + 1) all) (ap (λ k. get_or all k last) (sym place) ∙ sym last_is) ∙ ap (λ l. last ∷ l) (drop_all (i + 1) all (omega arith)) in
    ap (λ (v : Place). take (last.1 - v.0) (drop v.0 rec)) first_is ∙ sym (spanned-take w.0 i last [] all rec at_last) ∙ ap (λ l. spanned w.0 l rec) (take_all (suc i) all (omega arith))

pub span_is : (ws : List Place) (rec : List ℕ) (first last : Place) (from to : ℕ) (empty : Bool) → empty ≡ (length ws == 0) → empty ≡ false → first ≡ get_or ws 0 first → last ≡ get_or ws (length ws - 1) last
    → from ≡ first.0 → to ≡ last.1 → take (to - from) (drop from rec) ≡ words_spanned ws rec
span_is ws rec first last from to empty e f first_is last_is from_is to_is =
    ap (λ k. take (to - k) (drop k rec)) from_is ∙ ap (λ k. take (k - first.0) (drop first.0 rec)) to_is ∙ spanned_by ws rec first last (filled_of ws empty e f) first_is last_is
