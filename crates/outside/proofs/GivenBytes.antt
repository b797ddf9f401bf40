-- Bytes that are read or written, one part after another.
use Rattle.std.proofs.Common.{◌≡◌, ℕ, ◌+◌, ◌-◌, ◌≤◌, List, ◌++◌, length, take, drop, sym, ◌∙◌, ap, arith}
use Rattle.std.proofs.Math.Seq.{take-add}
use Rattle.std.proofs.lemmas.Grind.{common_steps}
use Rattle.std.proofs.lemmas.List.{take-append-drop, take-append-le, drop-drop, take_rest}

-- what is left from a place on is the part that was given and what is left from its end on
pub given_and_left : (bytes after : List ℕ) (at count : ℕ) → count ≤ length (drop at bytes) → drop at bytes ≡ take count (take count (drop at bytes) ++ after) ++ drop (at + count) bytes
given_and_left bytes after at count fits = grind (arith, common_steps, take-append-drop count (drop at bytes), drop-drop count at bytes, take-append-le count (take count (drop at bytes)) after)

-- the first bytes and some of those behind them
pub front_grows : (bytes : List ℕ) (at n : ℕ) → at ≤ length bytes → take at bytes ++ take n (take (length bytes - at) (drop at bytes)) ≡ take (at + n) bytes
front_grows bytes at n within = ap (λ rest. take at bytes ++ take n rest) (take_rest bytes at) ∙ sym (take-add at n bytes)
