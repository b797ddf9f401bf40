use Rattle.std.proofs.Common.{◌≡◌, ◌≤◌, ◌+◌, ◌-◌, ◌/◌, ◌∙◌, ℕ, zero, suc, List, [], ◌∷◌, ◌++◌, length, take, drop, replicate, refl, ap, sym, append_assoc, length-append, length-drop, arith}
use Rattle.std.specs.Prelude.{◌==◌, Bool, false}
use Rattle.std.proofs.lemmas.List.{take_all, drop_all, take_at, take-append-le, drop_at, drop-drop, take-replicate, drop-replicate, length-take, length-replicate, append-nil}
use Rattle.pipe_model.specs.declared.items.Align.{Align}
use Rattle.pipe_model.specs.declared.items.Align.TheVariants.{Left, Center, Right}
use Rattle.pipe_model.specs.declared.items.Spot.{Spot}
use Rattle.pipe_model.specs.declared.items.Spot.TheVariants.{Column, Next, NextWord}
use Rattle.pipe_model.specs.Fields.{aligned, overwritten, start_of}
use Rattle.specs_stage.specs.Output.{share_of, start_behind, over}

-- the front and the back of two texts in one

take_both : (n : ℕ) (xs ys : List ℕ) → take n (xs ++ ys) ≡ take n xs ++ take (n - length xs) ys
take_both zero [] ys = refl
take_both (suc n) [] ys = ap (λ k. take k ys) (let e : suc n ≡ suc n - 0 = omega arith in e)
take_both zero (x ∷ xs) ys = ap (λ k. take k ys) (let e : 0 ≡ 0 - suc (length xs) = omega arith in e)
take_both (suc n) (x ∷ xs) ys = ap (λ l. x ∷ l) (take_both n xs ys) ∙ ap (λ k. x ∷ (take n xs ++ take k ys)) (let e : n - length xs ≡ suc n - suc (length xs) = omega arith in e)

drop_both : (n : ℕ) (xs ys : List ℕ) → drop n (xs ++ ys) ≡ drop n xs ++ drop (n - length xs) ys
drop_both zero [] ys = refl
drop_both (suc n) [] ys = ap (λ k. drop k ys) (let e : suc n ≡ suc n - 0 = omega arith in e)
drop_both zero (x ∷ xs) ys = ap (λ k. (x ∷ xs) ++ drop k ys) (let e : 0 ≡ 0 - suc (length xs) = omega arith in e)
drop_both (suc n) (x ∷ xs) ys = drop_both n xs ys ∙ ap (λ k. drop n xs ++ drop k ys) (let e : n - length xs ≡ suc n - suc (length xs) = omega arith in e)

-- a field within its filling, cut at the right
cut_filled : (len pad before : ℕ) (bytes : List ℕ) → before ≤ len
    → replicate before pad ++ take (len - before) bytes ++ replicate (len - before - length (take (len - before) bytes)) pad ≡ take len (replicate before pad ++ bytes ++ replicate len pad)
cut_filled len pad before bytes within =
    let m = len - before in
    let front : take len (replicate before pad) ≡ replicate before pad = take_all len (replicate before pad) (omega (arith, length-replicate before pad, within)) in
    let left : len - length (replicate before pad) ≡ m = ap (λ k. len - k) (length-replicate before pad) in
    let rest : m - length bytes ≡ m - length (take m bytes) = omega (arith, length-take m bytes) in
    let filling : take (m - length bytes) (replicate len pad) ≡ replicate (m - length (take m bytes)) pad = take-replicate (m - length bytes) len pad (omega arith) ∙ ap (λ k. replicate k pad) rest in
    sym (ap (take len) (append_assoc (replicate before pad) bytes (replicate len pad)) ∙ take_both len (replicate before pad) (bytes ++ replicate len pad)
    ∙ ap (λ l. l ++ take (len - length (replicate before pad)) (bytes ++ replicate len pad)) front
    ∙ ap (λ k. replicate before pad ++ take k (bytes ++ replicate len pad)) left
    ∙ ap (λ l. replicate before pad ++ l) (take_both m bytes (replicate len pad) ∙ ap (λ l. take m bytes ++ l) filling)
    ∙ sym (append_assoc (replicate before pad) (take m bytes) (replicate (m - length (take m bytes)) pad)))

right_filled : (pad len : ℕ) (field : List ℕ) →
    replicate (len - length field) pad ++ take (len - (len - length field)) (drop (length field - len) field)
    ++ replicate (len - (len - length field) - length (take (len - (len - length field)) (drop (length field - len) field))) pad ≡ drop (length field) (replicate len pad ++ field)
right_filled pad len field =
    let before = len - length field in
    let bytes = drop (length field - len) field in
    let size : length bytes ≡ len - before = omega (arith, length-drop (length field - len) field) in
    let whole : take (len - before) bytes ≡ bytes = take_all (len - before) bytes (omega (arith, size)) in
    let none : len - before - length (take (len - before) bytes) ≡ 0 = omega (arith, size, ap length whole) in
    let back : drop (length field - length (replicate len pad)) field ≡ bytes = ap (λ k. drop (length field - k) field) (length-replicate len pad) in
    ap (λ k. replicate before pad ++ take (len - before) bytes ++ replicate k pad) none ∙ append-nil (replicate before pad ++ take (len - before) bytes)
    ∙ ap (λ l. replicate before pad ++ l) whole
    ∙ sym (drop_both (length field) (replicate len pad) field ∙ ap (λ l. l ++ drop (length field - length (replicate len pad)) field) (drop-replicate (length field) len pad) ∙ ap (λ l. replicate before pad ++ l) back)

pub fitted_parts : (align : Align) (pad len : ℕ) (field : List ℕ) →
    replicate (share_of align (len - length field)) pad ++ take (len - share_of align (len - length field)) (drop (share_of align (length field - len)) field)
    ++ replicate (len - share_of align (len - length field) - length (take (len - share_of align (len - length field)) (drop (share_of align (length field - len)) field))) pad ≡ aligned align pad len field
fitted_parts Left pad len field = cut_filled len pad 0 field (omega arith)
fitted_parts Center pad len field = cut_filled len pad ((len - length field) / 2) (drop ((length field - len) / 2) field) (omega arith)
fitted_parts Right pad len field = right_filled pad len field

-- over an output that was made long enough
pub over_grown : (at byte count : ℕ) (output grown : List ℕ) → at ≤ length output → grown ≡ output ++ replicate (at + count - length output) byte → over at (replicate count byte) grown ≡ over at (replicate count byte) output
over_grown at byte count output grown within is =
    let more = replicate (at + count - length output) byte in
    let size : at + length (replicate count byte) ≡ at + count = ap (λ k. at + k) (length-replicate count byte) in
    let front : take at grown ≡ take at output = ap (take at) is ∙ take-append-le at output more within in
    let none : drop (at + count - length output) more ≡ [] = drop_all (at + count - length output) more (omega (arith, length-replicate (at + count - length output) byte)) in
    let back : drop (at + count) grown ≡ drop (at + count) output = ap (drop (at + count)) is ∙ drop_both (at + count) output more ∙ ap (λ l. drop (at + count) output ++ l) none ∙ append-nil (drop (at + count) output) in
    ap (λ k. take at grown ++ replicate count byte ++ drop k grown) size ∙ ap (λ l. l ++ replicate count byte ++ drop (at + count) grown) front
    ∙ ap (λ l. take at output ++ replicate count byte ++ l) back ∙ sym (ap (λ k. take at output ++ replicate count byte ++ drop k output) size)

-- one behind the other
pub over_twice : (at : ℕ) (first second output : List ℕ) → at ≤ length output → over (at + length first) second (over at first output) ≡ over at (first ++ second) output
over_twice at first second output within =
    let kept = take at output ++ first in
    let rest = drop (at + length first) output in
    let size : length kept ≡ at + length first = omega (arith, length-append (take at output) first, length-take at output, within) in
    let back : drop (at + length first + length second) (kept ++ rest) ≡ drop (at + length (first ++ second)) output =
    sym (drop-drop (length second) (at + length first) (kept ++ rest)) ∙ ap (drop (length second)) (drop_at kept rest (at + length first) size)
    ∙ drop-drop (length second) (at + length first) output ∙ ap (λ k. drop k output) (let e : at + length first + length second ≡ at + length (first ++ second) = omega (arith, length-append first second) in e) in
    ap (λ l. l ++ second ++ drop (at + length first + length second) (kept ++ rest)) (take_at kept rest (at + length first) size)
    ∙ ap (λ l. l ++ drop (at + length first + length second) (kept ++ rest)) (append_assoc (take at output) first second)
    ∙ ap (λ l. take at output ++ (first ++ second) ++ l) back

-- the output was filled up to the start
pub over_filled : (pad start : ℕ) (field output grown : List ℕ) → 1 ≤ length field → grown ≡ output ++ replicate (start - length output) pad → over start field grown ≡ overwritten pad start field output
over_filled pad start [] output grown some is = absurd (omega (arith, some))
over_filled pad start (byte ∷ bytes) output grown some is =
    let field = byte ∷ bytes in
    let more = replicate (start - length output) pad in
    let front : take start grown ≡ take start output ++ more =
    ap (take start) is ∙ take_both start output more ∙ ap (λ l. take start output ++ l) (take_all (start - length output) more (omega (arith, length-replicate (start - length output) pad))) in
    let none : drop (start + length field - length output) more ≡ [] = drop_all (start + length field - length output) more (omega (arith, length-replicate (start - length output) pad)) in
    let back : drop (start + length field) grown ≡ drop (start + length field) output =
    ap (drop (start + length field)) is ∙ drop_both (start + length field) output more ∙ ap (λ l. drop (start + length field) output ++ l) none ∙ append-nil (drop (start + length field) output) in
    ap (λ l. l ++ field ++ drop (start + length field) grown) front ∙ ap (λ l. take start output ++ more ++ field ++ l) back

-- a field with its filling, part by part
pub over_parts : (at pad before behind : ℕ) (bytes output one two : List ℕ) → at ≤ length output → one ≡ over at (replicate before pad) output → two ≡ over (at + before) bytes one
    → over (at + before + length bytes) (replicate behind pad) two ≡ over at (replicate before pad ++ bytes ++ replicate behind pad) output
over_parts at pad before behind bytes output one two within one_is two_is =
    let filling = replicate before pad in
    let front : two ≡ over at (filling ++ bytes) output =
    two_is ∙ ap (λ k. over (at + k) bytes one) (sym (length-replicate before pad)) ∙ ap (over (at + length filling) bytes) one_is ∙ over_twice at filling bytes output within in
    let place : at + before + length bytes ≡ at + length (filling ++ bytes) = omega (arith, length-append filling bytes, length-replicate before pad) in
    ap (λ k. over k (replicate behind pad) two) place ∙ ap (over (at + length (filling ++ bytes)) (replicate behind pad)) front ∙ over_twice at (filling ++ bytes) (replicate behind pad) output within

pub some_bytes : (n : ℕ) (empty : Bool) → empty ≡ false → empty ≡ (n == 0) → 1 ≤ n
some_bytes zero empty none is = absurd (cc)
some_bytes (suc n) empty none is = omega arith

pub starts : (spot : Spot) (output : List ℕ) → start_behind spot (length output) ≡ start_of spot output
starts (Column first len) output = refl
starts (Next len) output = refl
starts (NextWord len) output = refl
