use Rattle.stream_laws.proofs.SortLaws.{sort_pairs, moves_all, in_order, stays, one_list}
use Rattle.stream_laws.proofs.orders.sorting.Goals as goal

pub returns-clause-pairs : goal.returns-clause-pairs
returns-clause-pairs c = sort_pairs

pub returns-clause-permutation : goal.returns-clause-permutation
returns-clause-permutation c = moves_all

pub returns-clause-in_order : goal.returns-clause-in_order
returns-clause-in_order c = in_order

pub returns-clause-stable : goal.returns-clause-stable
returns-clause-stable c = stays

pub returns-clause-one : goal.returns-clause-one
returns-clause-one c = one_list
