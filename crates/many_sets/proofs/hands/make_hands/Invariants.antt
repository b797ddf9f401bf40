use Rattle.std.proofs.Common.{◌≡◌, ◌≤◌, All, [], vec_len, vec_capacity}
use Rattle.many_sets.proofs.hands.make_hands.Given as goal

abbrev pub invariant-loop-own : goal.invariant-loop-own
invariant-loop-own l = record {
  count : vec_len l.hands ≡ l.own;
  capacity : l.workers ≤ vec_capacity l.hands;
  none : All (λ h. h.passes.items ≡ []) l.hands.items;
  room : All (λ h. l.sets ≤ vec_capacity h.passes) l.hands.items;
}
