-- What is looked for stands in the rounds of this word, or in the words behind it.
use Rattle.std.proofs.Common.{◌≡◌, ◌+◌, ◌-◌, ◌*◌, ◌%◌, ◌<◌, List, Some, drop, length, slice_get, slice_index_or, sym, ◌∙◌, ap, arith, drop_of_length-le}
use Rattle.pipe_model.specs.declared.step.Entry.{Entry}
use Rattle.pipe_model.proofs.Lists.{at_some}
use Rattle.step_journal.specs.Words.{entries_behind}
use Rattle.step_journal.specs.declared.journal.Word.{Word}
use Rattle.step_journal.proofs.Rounds.{in_first, in_second, in_third, in_rest, word_here}
use Rattle.step_journal.proofs.journal.StepJournal.entry.Goals as goal

pub returns-in-0 : goal.returns-in-0
returns-in-0 c =
    let ws = c.deref-word-items.result.now in
    let i = c.loop-word.word-index in
    let w : Word = slice_index_or ws i (record { strand = 0; stream = 0; more = 0 }) in
    let here = word_here c.loop-word.first c.loop-word.second ws i c.loop-word.left c.loop-word-test.true (omega (arith, c.if-left-eq0.false)) in
    sym c.loop-word.invariant ∙ here ∙ in_first c.loop-word.first c.loop-word.second w (drop (i + 1) ws) (c.loop-word.left - 1) c.if-left-again.true c.in-0.is

pub returns-in-1 : goal.returns-in-1
returns-in-1 c =
    let ws = c.deref-word-items.result.now in
    let i = c.loop-word.word-index in
    let w : Word = slice_index_or ws i (record { strand = 0; stream = 0; more = 0 }) in
    let here = word_here c.loop-word.first c.loop-word.second ws i c.loop-word.left c.loop-word-test.true (omega (arith, c.if-left-eq0.false)) in
    sym c.loop-word.invariant ∙ here ∙ in_second c.loop-word.first c.loop-word.second w (drop (i + 1) ws) (c.loop-word.left - 1) c.if-left-again.true c.in-1.is

pub returns-in_default : goal.returns-in_default
returns-in_default c =
    let ws = c.deref-word-items.result.now in
    let i = c.loop-word.word-index in
    let w : Word = slice_index_or ws i (record { strand = 0; stream = 0; more = 0 }) in
    let here = word_here c.loop-word.first c.loop-word.second ws i c.loop-word.left c.loop-word-test.true (omega (arith, c.if-left-eq0.false)) in
    let last : (c.loop-word.left - 1) % 3 ≡ 2 = omega (arith, c.in_default) in
    sym c.loop-word.invariant ∙ here ∙ in_third c.loop-word.first c.loop-word.second w (drop (i + 1) ws) (c.loop-word.left - 1) c.if-left-again.true last
    ∙ ap (λ (e : Entry). Some e) (sym c.entry_of-third.ensures)

pub loop-word-preserved : goal.loop-word-preserved
loop-word-preserved c =
    let ws = c.deref-word-items.result.now in
    let i = c.loop-word.word-index in
    let w : Word = slice_index_or ws i (record { strand = 0; stream = 0; more = 0 }) in
    let here = word_here c.loop-word.first c.loop-word.second ws i c.loop-word.left c.loop-word-test.true (omega (arith, c.if-left-eq0.false)) in
    let rest = in_rest c.loop-word.first c.loop-word.second w (drop (i + 1) ws) (c.loop-word.left - 1) c.if-left-again.false in
    ap (λ (e : Entry). slice_get (entries_behind c.loop-word.second e (drop (i + 1) ws)) (c.loop-word.left - 1 - 3 * w.more)) c.entry_of-third.ensures
    ∙ sym rest ∙ sym here ∙ c.loop-word.invariant

pub unreachable-requires : goal.unreachable-requires
unreachable-requires c =
    let within : c.args.k - 1 < length c.args.self.now.items = omega (arith, c.requires.some, c.requires.within) in
    let there = at_some c.args.self.now.items (c.args.k - 1) within in
    let none = drop_of_length-le c.deref-word-items.result.now c.loop-word-test.false in
    let nothing = ap (λ (z : List Word). slice_get (entries_behind c.loop-word.first c.loop-word.second z) c.loop-word.left) none in
    let found = c.loop-word.invariant ∙ there.1 in
    cc (nothing, found)
