use Rattle.std.proofs.Common.{◌≡◌, ◌+◌, ◌∙◌, true, drop, get_or, ap, arith}
use Rattle.std.specs.Prelude.{◌==◌, if◌then◌else◌, not, ◌&&◌}
use Rattle.std.proofs.lemmas.List.{drop_more, drop_all}
use Rattle.unique_sort.specs.Words.{words_begun}
use Rattle.unique_sort.proofs.Begun.{words_are_begun, few_begun}
use Rattle.unique_sort.proofs.word_count.word_count.Goals as goal

pub overflow_add-count : goal.overflow_add-count
overflow_add-count c =
    let rec = c.args.rec.now in
    let at = c.loop-byte.byte-index in
    let one : (c.loop-byte.is_between && not (get_or rec at 0 == 32)) ≡ true = cc in
    let begins : words_begun c.loop-byte.is_between (drop at rec) ≡ 1 + words_begun (get_or rec at 0 == 32) (drop (at + 1) rec) =
    ap (words_begun c.loop-byte.is_between) (drop_more rec at 0 (omega arith)) ∙ ap (λ t. (if t then 1 else 0) + words_begun (get_or rec at 0 == 32) (drop (at + 1) rec)) one in
    omega (arith, c.loop-byte.invariant, begins, few_begun true rec)

pub returns : goal.returns
returns c =
    let rec = c.args.rec.now in
    let none : words_begun c.loop-byte.is_between (drop c.loop-byte.byte-index rec) ≡ 0 = ap (words_begun c.loop-byte.is_between) (drop_all c.loop-byte.byte-index rec (omega arith)) in
    omega (arith, c.loop-byte.invariant, none, words_are_begun 0 rec)
