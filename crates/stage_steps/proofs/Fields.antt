-- The first fields of a record, and those behind them.
use Rattle.std.proofs.Common.{◌≡◌, inr, ⊎_elim, ℕ, zero, suc, ◌+◌, ◌-◌, ◌<◌, ◌≤◌, List, [], ◌∷◌, ◌++◌, length, take, drop, refl, sym, ◌∙◌, ap, subst, arith, append_assoc, length-append, length-drop, length-take-le, take-append-drop}
use Rattle.std.specs.Prelude.{◌==◌}
use Rattle.std.specs.List.{slice_split, join_with_byte}
use Rattle.std.proofs.lemmas.List.{take_all, drop_all, drop-drop, take-append-le}
use Rattle.std.proofs.lemmas.List.Splits.{length-slice_split, join_with_byte-slice_split}
use Rattle.std.specs.declared.option.Option.TheVariants.{Some, None}
use Rattle.bstr.specs.Find.{IsFirstByte, is_byte}
use Rattle.pipe_model.proofs.Cuts.{slice_split-first, slice_split-whole, tail_of}
use Rattle.stage_steps.specs.Parts.{AreBehind}

abbrev parts_of : List ℕ → List (List ℕ)
parts_of rec = slice_split (λ b. b == 9) rec

-- one field further on
pub drop_field : (rec rest : List ℕ) (n k : ℕ) → drop n (parts_of rec) ≡ parts_of rest → IsFirstByte (is_byte 9) rest (Some k) → drop (n + 1) (parts_of rec) ≡ parts_of (take (length rest - (k + 1)) (drop (k + 1) rest))
drop_field rec rest n k is first =
    sym (drop-drop 1 n (parts_of rec)) ∙ ap (drop 1) (is ∙ slice_split-first 9 rest k first) ∙ ap parts_of (sym (tail_of rest (k + 1)))

-- no field is left behind the last one
no_more : (rec rest : List ℕ) (n : ℕ) → drop n (parts_of rec) ≡ parts_of rest → IsFirstByte (is_byte 9) rest None → length (parts_of rec) ≤ n + 1
no_more rec rest n is nowhere =
    let size : length (drop n (parts_of rec)) ≡ 1 = ap length (is ∙ slice_split-whole 9 rest nowhere) in
    omega (arith, size, length-drop n (parts_of rec))

pub behind_last : (rec rest : List ℕ) (n count : ℕ) → drop n (parts_of rec) ≡ parts_of rest → IsFirstByte (is_byte 9) rest None → n < count → AreBehind count rec []
behind_last rec rest n count is nowhere within = inr (drop_all count (parts_of rec) (omega (arith, no_more rec rest n is nowhere)), refl)

pub front_last : (rec rest : List ℕ) (n count : ℕ) → drop n (parts_of rec) ≡ parts_of rest → IsFirstByte (is_byte 9) rest None → n < count → rec ≡ join_with_byte 9 (take count (parts_of rec))
front_last rec rest n count is nowhere within =
    sym (join_with_byte-slice_split 9 rec) ∙ ap (join_with_byte 9) (sym (take_all count (parts_of rec) (omega (arith, no_more rec rest n is nowhere))))

join_two : (xs ys : List (List ℕ)) → 0 < length xs → 0 < length ys → join_with_byte 9 (xs ++ ys) ≡ join_with_byte 9 xs ++ (9 ∷ join_with_byte 9 ys)
join_two [] ys some more = absurd (omega arith)
join_two (x ∷ []) [] some more = absurd (omega arith)
join_two (x ∷ []) (y ∷ ys) some more = refl
join_two (x ∷ z ∷ xs) ys some more = ap (λ l. x ++ (9 ∷ l)) (join_two (z ∷ xs) ys (omega arith) more) ∙ sym (append_assoc x (9 ∷ join_with_byte 9 (z ∷ xs)) (9 ∷ join_with_byte 9 ys))

-- a record is its first fields, a tab, and what stands behind them
pub fields_rest : (rec rest : List ℕ) (count : ℕ) → drop count (parts_of rec) ≡ parts_of rest → 0 < count → rec ≡ join_with_byte 9 (take count (parts_of rec)) ++ (9 ∷ rest)
fields_rest rec rest count is some =
    let more : 0 < length (parts_of rest) = omega (arith, length-slice_split (λ b. b == 9) rest) in
    let left : 0 < length (drop count (parts_of rec)) = subst (λ l. 0 < length l) (sym is) more in
    let taken : length (take count (parts_of rec)) ≡ count = length-take-le count (parts_of rec) (omega (arith, left, length-drop count (parts_of rec))) in
    sym (join_with_byte-slice_split 9 rec) ∙ ap (join_with_byte 9) (sym (take-append-drop count (parts_of rec)))
    ∙ join_two (take count (parts_of rec)) (drop count (parts_of rec)) (omega (arith, taken)) left
    ∙ ap (λ l. join_with_byte 9 (take count (parts_of rec)) ++ (9 ∷ l)) (ap (join_with_byte 9) is ∙ join_with_byte-slice_split 9 rest)

pub fields_size : (rec rest : List ℕ) (count : ℕ) → drop count (parts_of rec) ≡ parts_of rest → 0 < count → length rest + 1 + length (join_with_byte 9 (take count (parts_of rec))) ≡ length rec
fields_size rec rest count is some =
    let whole = ap length (fields_rest rec rest count is some) in
    omega (arith, whole, length-append (join_with_byte 9 (take count (parts_of rec))) (9 ∷ rest))

pub front_is : (rec rest : List ℕ) (count : ℕ) → drop count (parts_of rec) ≡ parts_of rest → 0 < count → take (length rec - length rest - 1) rec ≡ join_with_byte 9 (take count (parts_of rec))
front_is rec rest count is some =
    let joined = join_with_byte 9 (take count (parts_of rec)) in
    let size : length rec - length rest - 1 ≡ length joined = omega (arith, fields_size rec rest count is some) in
    ap (λ n. take n rec) size ∙ ap (take (length joined)) (fields_rest rec rest count is some) ∙ take-append-le (length joined) joined (9 ∷ rest) (omega arith) ∙ take_all (length joined) joined (omega arith)

-- what stands behind the first fields, as the fields behind them
pub behind_is : (count : ℕ) (rec rest : List ℕ) → AreBehind count rec rest → rest ≡ join_with_byte 9 (drop count (parts_of rec))
behind_is count rec rest are =
    ⊎_elim (λ is. sym (ap (join_with_byte 9) is ∙ join_with_byte-slice_split 9 rest)) (λ is. is.1 ∙ sym (ap (join_with_byte 9) is.0)) are

one_empty : (n : ℕ) → join_with_byte 9 (take n ([] ∷ [])) ≡ join_with_byte 9 (take n [])
one_empty zero = refl
one_empty (suc zero) = refl
one_empty (suc (suc n)) = refl

pub taken_is : (count n : ℕ) (rec rest : List ℕ) → AreBehind count rec rest → join_with_byte 9 (take n (parts_of rest)) ≡ join_with_byte 9 (take n (drop count (parts_of rec)))
taken_is count n rec rest are =
    ⊎_elim (λ is. ap (λ l. join_with_byte 9 (take n l)) (sym is)) (λ is. ap (λ l. join_with_byte 9 (take n (parts_of l))) is.1 ∙ one_empty n ∙ ap (λ l. join_with_byte 9 (take n l)) (sym is.0)) are
