use Rattle.std.proofs.Common.{◌≡◌, ◌+◌, ◌-◌, ◌≤◌, drop}
use Rattle.unique_sort.specs.Fronts.{reach}
use Rattle.unique_sort.proofs.keyed.reach.Given as goal

-- the bytes so far are digits below FF
abbrev pub invariant-loop-byte : goal.invariant-loop-byte
invariant-loop-byte l = record {
  value : l.byte-index + reach (7 - l.byte-index) (drop l.byte-index l.key) ≡ reach 7 l.key;
  counted : l.len ≡ l.byte-index;
  within : l.byte-index ≤ 7;
}
