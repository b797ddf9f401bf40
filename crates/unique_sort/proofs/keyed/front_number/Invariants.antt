use Rattle.std.proofs.Common.{◌≡◌, ◌-◌, ◌<◌, ◌^◌}
use Rattle.unique_sort.specs.Fronts.{front_on}
use Rattle.unique_sort.proofs.keyed.front_number.Given as goal

-- behind the digits so far, those of the rest are still to come
abbrev pub invariant-loop : goal.invariant-loop
invariant-loop l = record {
  value : front_on (7 - l.counter) l.number l.rest ≡ front_on 7 0 l.key;
  small : l.number < 256 ^ l.counter;
}
