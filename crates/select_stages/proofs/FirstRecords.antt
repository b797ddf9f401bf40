-- The first records, by how many of them are still to come.
use Rattle.std.proofs.Common.{◌≡◌, ℕ, suc, ◌-◌, not, refl, ap, arith}
use Rattle.std.proofs.lemmas.Bool.Decides.{nat_tests}
use Rattle.pipe_model.specs.declared.kind.Times.{Times}
use Rattle.pipe_model.specs.declared.kind.Times.TheVariants.{Only, All}
use Rattle.pipe_model.specs.Counts.{is_among, is_reached}
use Rattle.stage_steps.specs.Group.{has_more}
use Rattle.select_stages.specs.Choices.{left_behind, one_less}

-- before the first record all are left
pub left_behind-zero : (times : Times) → times ≡ left_behind times 0
left_behind-zero (Only n) = ap Only (let e : n ≡ n - 0 = omega arith in e)
left_behind-zero All = refl

-- one record on, one less is left
pub left_behind-suc : (times : Times) (k : ℕ) → left_behind times (suc k) ≡ one_less (left_behind times k)
left_behind-suc (Only n) k = ap Only (let e : n - suc k ≡ n - k - 1 = omega arith in e)
left_behind-suc All k = refl

-- the next record is one of the first where some are left
pub next_among : (times : Times) (k : ℕ) → has_more (left_behind times k) ≡ is_among times (suc k)
next_among (Only n) k = grind (arith, nat_tests)
next_among All k = refl

-- so many are there where none is left
pub all_reached : (times : Times) (k : ℕ) → not (has_more (left_behind times k)) ≡ is_reached times k
all_reached (Only n) k = grind (arith, nat_tests)
all_reached All k = refl
