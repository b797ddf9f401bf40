-- Bytes that are written, one part after another.
use Rattle.std.proofs.Common.{◌≡◌, ℕ, ◌+◌, ◌-◌, ◌≤◌, List, ◌++◌, length, take, drop, sym, ◌∙◌, ap}
use Rattle.std.proofs.Math.Seq.{take-add}
use Rattle.std.proofs.lemmas.List.{take_rest}

-- the first bytes and some of those behind them
pub take-further : (bytes : List ℕ) (at n : ℕ) → at ≤ length bytes → take at bytes ++ take n (take (length bytes - at) (drop at bytes)) ≡ take (at + n) bytes
take-further bytes at n within = ap (λ rest. take at bytes ++ take n rest) (take_rest bytes at) ∙ sym (take-add at n bytes)
