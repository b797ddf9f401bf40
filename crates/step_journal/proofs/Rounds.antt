-- What a word more, and three entries that come again, are among the entries of a journal.
use Rattle.std.proofs.Common.{◌≡◌, ℕ, zero, suc, ◌+◌, ◌-◌, ◌*◌, ◌%◌, ◌<◌, ◌≤◌, List, [], ◌∷◌, ◌++◌, length, refl, sym, ◌∙◌, ap, arith, Some, slice_get, slice_index_or, drop, append-nil, append_assoc, length-append}
use Rattle.std.proofs.lemmas.List.{drop_more}
use Rattle.pipe_model.specs.declared.step.Entry.{Entry}
use Rattle.step_journal.specs.declared.journal.Word.{Word}
use Rattle.step_journal.specs.Words.{rounds_of, entry_of, entries_behind, entries_of, nothing}

-- the last entry but one behind these two and the words
abbrev pub second_last : Entry → Entry → List Word → Entry
second_last p q [] = p
second_last p q (w ∷ ws) = second_last q (entry_of w) ws

-- the last entry of a word behind these two and the words
abbrev pub last_of : Entry → Entry → List Word → Entry
last_of p q [] = q
last_of p q (w ∷ ws) = last_of q (entry_of w) ws

-- a word at the end is the last
pub last_more : (p q : Entry) (ws : List Word) (w : Word) → last_of p q (ws ++ w ∷ []) ≡ entry_of w
last_more p q [] w = refl
last_more p q (v ∷ ws) w = last_more q (entry_of v) ws w

-- where a word is added at the end, the one that was the last stands before it
pub second_more : (p q : Entry) (ws : List Word) (w : Word) → second_last p q (ws ++ w ∷ []) ≡ last_of p q ws
second_more p q [] w = refl
second_more p q (v ∷ ws) w = second_more q (entry_of v) ws w

-- a word at the end adds its entry, and it again with the two before it
pub behind_more : (p q : Entry) (ws : List Word) (w : Word)
    → entries_behind p q (ws ++ w ∷ []) ≡ entries_behind p q ws ++ (entry_of w ∷ rounds_of (second_last p q ws) (last_of p q ws) (entry_of w) w.more)
behind_more p q [] w = append-nil (entry_of w ∷ rounds_of p q (entry_of w) w.more)
behind_more p q (v ∷ ws) w =
    let chunk = entry_of v ∷ rounds_of p q (entry_of v) v.more in
    ap (λ (l : List Entry). chunk ++ l) (behind_more q (entry_of v) ws w)
    ∙ sym (append_assoc chunk (entries_behind q (entry_of v) ws) (entry_of w ∷ rounds_of (second_last q (entry_of v) ws) (last_of q (entry_of v) ws) (entry_of w) w.more))

-- a word that does not come again adds its entry
pub one_more : (ws : List Word) (e : Entry) → entries_of (ws ++ (record { strand = e.strand; stream = e.stream; more = 0 }) ∷ []) ≡ entries_of ws ++ e ∷ []
one_more ws e = behind_more nothing nothing ws (record { strand = e.strand; stream = e.stream; more = 0 })

-- rounds of a sum
pub rounds_join : (a b c : Entry) (m n : ℕ) → rounds_of a b c m ++ rounds_of a b c n ≡ rounds_of a b c (m + n)
rounds_join a b c zero n = let same : n ≡ 0 + n = omega arith in ap (rounds_of a b c) same
rounds_join a b c (suc m) n =
    let same : suc (m + n) ≡ suc m + n = omega arith in
    ap (λ (l : List Entry). a ∷ b ∷ c ∷ l) (rounds_join a b c m n) ∙ ap (rounds_of a b c) same

-- each round has three entries
pub rounds_length : (a b c : Entry) (n : ℕ) → length (rounds_of a b c n) ≡ 3 * n
rounds_length a b c zero = refl
rounds_length a b c (suc n) = let i = rounds_length a b c n in omega (arith, i)

-- there are no fewer entries than words
pub words_fewer : (p q : Entry) (ws : List Word) → length ws ≤ length (entries_behind p q ws)
words_fewer p q [] = omega arith
words_fewer p q (w ∷ ws) =
    let i = words_fewer q (entry_of w) ws in
    let n = length-append (rounds_of p q (entry_of w) w.more) (entries_behind q (entry_of w) ws) in
    omega (arith, i, n)

-- nor among all entries
pub room_for_word : (ws : List Word) → length ws ≤ length (entries_of ws)
room_for_word ws = words_fewer nothing nothing ws

-- three words of which the last comes again so often are so many rounds and one
pub three_more : (ws : List Word) (a b c : Entry) (more : ℕ)
    → entries_of (((ws ++ (record { strand = a.strand; stream = a.stream; more = 0 }) ∷ []) ++ (record { strand = b.strand; stream = b.stream; more = 0 }) ∷ []) ++ (record { strand = c.strand; stream = c.stream; more = more }) ∷ [])
    ≡ entries_of ws ++ rounds_of a b c (suc more)
three_more ws a b c more =
    let u : Word = record { strand = a.strand; stream = a.stream; more = 0 } in
    let v : Word = record { strand = b.strand; stream = b.stream; more = 0 } in
    let w : Word = record { strand = c.strand; stream = c.stream; more = more } in
    let one = ws ++ u ∷ [] in
    let two = one ++ v ∷ [] in
    let before = second_more nothing nothing one v ∙ last_more nothing nothing ws u in
    let last = last_more nothing nothing one v in
    let three = behind_more nothing nothing two w in
    let second = one_more one b in
    let first = one_more ws a in
    three
    ∙ ap (λ (x : Entry). entries_of two ++ (c ∷ rounds_of x (last_of nothing nothing two) c more)) before
    ∙ ap (λ (y : Entry). entries_of two ++ (c ∷ rounds_of a y c more)) last
    ∙ ap (λ (l : List Entry). l ++ (c ∷ rounds_of a b c more)) second
    ∙ ap (λ (l : List Entry). (l ++ b ∷ []) ++ (c ∷ rounds_of a b c more)) first
    ∙ append_assoc (entries_of ws ++ a ∷ []) (b ∷ []) (c ∷ rounds_of a b c more)
    ∙ append_assoc (entries_of ws) (a ∷ []) (b ∷ c ∷ rounds_of a b c more)

-- rounds that were added, and those that are left
pub rounds_left : (items : List Entry) (a b c : Entry) (more left : ℕ) → more < left
    → (items ++ rounds_of a b c (suc more)) ++ rounds_of a b c (left - (more + 1)) ≡ items ++ rounds_of a b c left
rounds_left items a b c more left lt =
    let sum : suc more + (left - (more + 1)) ≡ left = omega arith in
    append_assoc items (rounds_of a b c (suc more)) (rounds_of a b c (left - (more + 1)))
    ∙ ap (λ (l : List Entry). items ++ l) (rounds_join a b c (suc more) (left - (more + 1)))
    ∙ ap (λ (n : ℕ). items ++ rounds_of a b c n) sum

-- three entries behind rounds are a round more
pub round_more : (items : List Entry) (a b c : Entry) (n : ℕ)
    → (((items ++ rounds_of a b c n) ++ a ∷ []) ++ b ∷ []) ++ c ∷ [] ≡ items ++ rounds_of a b c (n + 1)
round_more items a b c n =
    append_assoc ((items ++ rounds_of a b c n) ++ a ∷ []) (b ∷ []) (c ∷ [])
    ∙ append_assoc (items ++ rounds_of a b c n) (a ∷ []) (b ∷ c ∷ [])
    ∙ append_assoc items (rounds_of a b c n) (a ∷ b ∷ c ∷ [])
    ∙ ap (λ (l : List Entry). items ++ l) (rounds_join a b c n 1)

-- the first of a round stands at each third place
pub first_at : (a b c : Entry) (n i : ℕ) → i < 3 * n → i % 3 ≡ 0 → slice_get (rounds_of a b c n) i ≡ Some a
first_at a b c zero i lt is = absurd (omega (arith, lt))
first_at a b c (suc n) zero lt is = refl
first_at a b c (suc n) (suc zero) lt is = absurd (omega (arith, is))
first_at a b c (suc n) (suc (suc zero)) lt is = absurd (omega (arith, is))
first_at a b c (suc n) (suc (suc (suc i))) lt is = let before : i % 3 ≡ 0 = omega (arith, is) in first_at a b c n i (omega (arith, lt)) before

-- the second behind it
pub second_at : (a b c : Entry) (n i : ℕ) → i < 3 * n → i % 3 ≡ 1 → slice_get (rounds_of a b c n) i ≡ Some b
second_at a b c zero i lt is = absurd (omega (arith, lt))
second_at a b c (suc n) zero lt is = absurd (omega (arith, is))
second_at a b c (suc n) (suc zero) lt is = refl
second_at a b c (suc n) (suc (suc zero)) lt is = absurd (omega (arith, is))
second_at a b c (suc n) (suc (suc (suc i))) lt is = let before : i % 3 ≡ 1 = omega (arith, is) in second_at a b c n i (omega (arith, lt)) before

-- and the third behind that
pub third_at : (a b c : Entry) (n i : ℕ) → i < 3 * n → i % 3 ≡ 2 → slice_get (rounds_of a b c n) i ≡ Some c
third_at a b c zero i lt is = absurd (omega (arith, lt))
third_at a b c (suc n) zero lt is = absurd (omega (arith, is))
third_at a b c (suc n) (suc zero) lt is = absurd (omega (arith, is))
third_at a b c (suc n) (suc (suc zero)) lt is = refl
third_at a b c (suc n) (suc (suc (suc i))) lt is = let before : i % 3 ≡ 2 = omega (arith, is) in third_at a b c n i (omega (arith, lt)) before

-- what stands within the first of two lists
pub get_within : {A : Type 0} (xs ys : List A) (i : ℕ) → i < length xs → slice_get (xs ++ ys) i ≡ slice_get xs i
get_within [] ys i lt = absurd (omega (arith, lt))
get_within (x ∷ xs) ys zero lt = refl
get_within (x ∷ xs) ys (suc i) lt = get_within xs ys i (omega (arith, lt))

-- what stands behind the first of two lists stands in the second
pub get_behind : {A : Type 0} (xs ys : List A) (i : ℕ) → length xs ≤ i → slice_get (xs ++ ys) i ≡ slice_get ys (i - length xs)
get_behind [] ys i le = let same : i ≡ i - 0 = omega arith in ap (slice_get ys) same
get_behind (x ∷ xs) ys zero le = absurd (omega (arith, le))
get_behind (x ∷ xs) ys (suc i) le =
    let same : suc i - suc (length xs) ≡ i - length xs = omega arith in
    get_behind xs ys i (omega (arith, le)) ∙ ap (slice_get ys) (sym same)

module _ (p q : Entry) (w : Word) (ws : List Word) where
  -- what stands in the rounds of the first of these words, counted behind its own entry
  in_rounds : (i : ℕ) (e : Entry) → i < 3 * w.more → slice_get (rounds_of p q (entry_of w) w.more) i ≡ Some e → slice_get (entries_behind p q (w ∷ ws)) (suc i) ≡ Some e
  in_rounds i e lt at =
      let long = rounds_length p q (entry_of w) w.more in
      get_within (rounds_of p q (entry_of w) w.more) (entries_behind q (entry_of w) ws) i (omega (arith, lt, long)) ∙ at

  -- a third of them is the last entry but one before the word
  pub in_first : (i : ℕ) → i < 3 * w.more → i % 3 ≡ 0 → slice_get (entries_behind p q (w ∷ ws)) (suc i) ≡ Some p
  in_first i lt is = in_rounds i p lt (first_at p q (entry_of w) w.more i lt is)

  -- a third is the last before it
  pub in_second : (i : ℕ) → i < 3 * w.more → i % 3 ≡ 1 → slice_get (entries_behind p q (w ∷ ws)) (suc i) ≡ Some q
  in_second i lt is = in_rounds i q lt (second_at p q (entry_of w) w.more i lt is)

  -- and a third is its own
  pub in_third : (i : ℕ) → i < 3 * w.more → i % 3 ≡ 2 → slice_get (entries_behind p q (w ∷ ws)) (suc i) ≡ Some (entry_of w)
  in_third i lt is = in_rounds i (entry_of w) lt (third_at p q (entry_of w) w.more i lt is)

  -- behind its rounds stands what stands in the words behind it
  pub in_rest : (i : ℕ) → 3 * w.more ≤ i → slice_get (entries_behind p q (w ∷ ws)) (suc i) ≡ slice_get (entries_behind q (entry_of w) ws) (i - 3 * w.more)
  in_rest i le =
      let long = rounds_length p q (entry_of w) w.more in
      get_behind (rounds_of p q (entry_of w) w.more) (entries_behind q (entry_of w) ws) i (omega (arith, le, long))
      ∙ ap (λ (n : ℕ). slice_get (entries_behind q (entry_of w) ws) (i - n)) long

-- what stands in the words from here on stands in this one and those behind it
pub word_here : (p q : Entry) (ws : List Word) (i left : ℕ) → i < length ws → 0 < left
    → slice_get (entries_behind p q (drop i ws)) left
    ≡ slice_get (entries_behind p q (slice_index_or ws i (record { strand = 0; stream = 0; more = 0 }) ∷ drop (i + 1) ws)) (suc (left - 1))
word_here p q ws i left lt some =
    let w : Word = record { strand = 0; stream = 0; more = 0 } in
    let same : left ≡ suc (left - 1) = omega arith in
    ap (λ (z : List Word). slice_get (entries_behind p q z) left) (drop_more ws i w lt)
    ∙ ap (slice_get (entries_behind p q (slice_index_or ws i w ∷ drop (i + 1) ws))) same
