-- Plain facts of the worst of codes.
use Rattle.std.proofs.Common.{rules, ◌≡◌, ℤ, pos}
use Rattle.pipe_model.specs.Code.{worst_of}

-- the order of codes doesn't matter
pub worst_order : (a b : ℤ) → worst_of a b ≡ worst_of b a
worst_order a b = search rules

-- nor does their grouping
pub worst_groups : (a b c : ℤ) → worst_of (worst_of a b) c ≡ worst_of a (worst_of b c)
worst_groups a b c = search rules

-- where the worst of two codes is 0, both are
pub worst_parts : (a b : ℤ) → worst_of a b ≡ pos 0 → (a ≡ pos 0) × (b ≡ pos 0)
worst_parts a b e = search rules
