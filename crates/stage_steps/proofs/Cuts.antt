-- The first line of a text, and the others.
use Rattle.std.proofs.Common.{◌≡◌, ⊎_elim, ℕ, ◌+◌, ◌<◌, ◌≤◌, Bool, true, false, cond, ◌==◌, List, [], ◌∷◌, length, take, drop, refl, sym, ◌∙◌, ap, arith, length-take-le}
use Rattle.std.specs.List.{slice_split, position_or_len}
use Rattle.std.proofs.lemmas.Bool.{cases_lt}
use Rattle.std.proofs.lemmas.List.{drop_all, take_all}
use Rattle.std.proofs.lemmas.List.Elements.{All-from_get_or}
use Rattle.std.proofs.lemmas.List.Splits.{slice_split_first, slice_split_none, length-slice_split}
use Rattle.std.proofs.lemmas.List.Sums.{fails_before_first}
use Rattle.pipe_model.specs.Records.{lines, without_empty_last}
use Rattle.stage_steps.specs.Lines.{IsFirstLine}
use Rattle.pipe_model.proofs.Cuts.{without_empty_last-cons}

abbrev is_feed : ℕ → Bool
is_feed b = b == 10

abbrev IsCut : List ℕ → List ℕ → List (List ℕ) → Type 0
IsCut bytes line more = (more ≡ lines (drop (length line + 1) bytes)) × (length line ≤ length bytes) × (0 < length bytes) × (take (length line) bytes ≡ line)

head_of : {X : Type 0} (x y : X) (xs ys : List X) → x ∷ xs ≡ y ∷ ys → x ≡ y
head_of x y xs ys e = cc

tail_of : {X : Type 0} (x y : X) (xs ys : List X) → x ∷ xs ≡ y ∷ ys → xs ≡ ys
tail_of x y xs ys e = cc

at_feed : (bytes line : List ℕ) (more : List (List ℕ)) → lines bytes ≡ line ∷ more → position_or_len is_feed bytes < length bytes → IsCut bytes line more
at_feed bytes line more e within =
    let k = position_or_len is_feed bytes in
    let filled : 0 < length (slice_split is_feed (drop (k + 1) bytes)) = omega (arith, length-slice_split is_feed (drop (k + 1) bytes)) in
    let first : lines bytes ≡ take k bytes ∷ lines (drop (k + 1) bytes) = ap without_empty_last (slice_split_first is_feed bytes 0 within) ∙ without_empty_last-cons _ _ filled in
    let both = sym e ∙ first in
    let cut : line ≡ take k bytes = head_of _ _ _ _ both in
    let size : length line ≡ k = ap length cut ∙ length-take-le k bytes (omega (arith, within)) in
    (tail_of _ _ _ _ both ∙ ap (λ n. lines (drop (n + 1) bytes)) (sym size), omega (arith, size, within), omega (arith, within), ap (λ n. take n bytes) size ∙ sym cut)

one_line : (bytes line : List ℕ) (more : List (List ℕ)) (empty : Bool) → (length bytes == 0) ≡ empty → cond empty [] (bytes ∷ []) ≡ line ∷ more → (line ≡ bytes) × (more ≡ []) × (0 < length bytes)
one_line bytes line more true is e = cc
one_line [] line more false is e = cc
one_line (b ∷ bs) line more false is e = (sym (head_of _ _ _ _ e), sym (tail_of _ _ _ _ e), omega arith)

no_feed : (bytes line : List ℕ) (more : List (List ℕ)) → lines bytes ≡ line ∷ more → length bytes ≤ position_or_len is_feed bytes → IsCut bytes line more
no_feed bytes line more e beyond =
    let whole : slice_split is_feed bytes ≡ bytes ∷ [] = slice_split_none is_feed bytes (All-from_get_or (λ b. is_feed b ≡ false) bytes 0 (λ k below. fails_before_first is_feed bytes k 0 (omega (arith, beyond, below)))) in
    let is = one_line bytes line more (length bytes == 0) refl (sym (ap without_empty_last whole) ∙ e) in
    let size : length line ≡ length bytes = ap length is.0 in
    (is.1 ∙ sym (ap lines (drop_all (length line + 1) bytes (omega (arith, size)))), omega (arith, size), is.2, take_all (length line) bytes (omega (arith, size)) ∙ sym is.0)

lines_cut : (bytes line : List ℕ) (more : List (List ℕ)) → lines bytes ≡ line ∷ more → IsCut bytes line more
lines_cut bytes line more e = ⊎_elim (at_feed bytes line more e) (no_feed bytes line more e) (cases_lt (position_or_len is_feed bytes) (length bytes))

-- the first of a text's lines, and where it ends
pub first_line : (bytes line : List ℕ) (more : List (List ℕ)) → lines bytes ≡ line ∷ more → IsFirstLine line bytes
first_line bytes line more e =
    let cut = lines_cut bytes line more e in
    record { starts = cut.3; first = e ∙ ap (λ l. line ∷ l) cut.0; within = cut.1; filled = cut.2 }
