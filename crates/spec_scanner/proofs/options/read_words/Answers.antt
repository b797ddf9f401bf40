use Rattle.std.proofs.Common.{◌+◌, ℕ, arith, length, refl, subst, sym}
use Rattle.spec_scanner.specs.Options.{IsWordAt}
use Rattle.spec_scanner.specs.OptionWords.{word_of}
use Rattle.spec_scanner.proofs.Wording.{WordsRead, word_within, words_end, words_more, words_odd, words_start}
use Rattle.spec_scanner.proofs.options.read_words.Goals as goal
use Rattle.spec_scanner.proofs.options.read_words.Goals.{In-Some-next_word}

pub loop-word-init : goal.loop-word-init
loop-word-init c = words_start c.args.start c.args.inside.now _ c.nothing_read-read.result refl c.nothing_read-read.ensures

pub returns : goal.returns
returns c = words_end c.args.start c.args.inside.now _ _ _ c.loop-word.read c.loop-word.invariant c.in_default.ensures

pub returns-in_default-next_word : goal.returns-in_default-next_word
returns-in_default-next_word c =
    words_odd c.args.start c.args.inside.now c.loop-word.at c.loop-word.rest.now _ c.loop-word.read c.loop-word.invariant (word_of c.in-Some.word) c.in-Some.after_word.now c.in-Some.ensures c.read_pair.result
    c.in_default-next_word.ensures c.read_pair.ensures

-- the value stands after the word
value_there : (c : In-Some-next_word) → IsWordAt (c.in-Some.word.place + length c.in-Some.word.bytes.now) c.in-Some.after_word.now (word_of c.in-Some-next_word.value) c.in-Some-next_word.after_value.now
value_there c = subst (λ (at : ℕ). IsWordAt at c.in-Some.after_word.now (word_of c.in-Some-next_word.value) c.in-Some-next_word.after_value.now) c.after.ensures c.in-Some-next_word.ensures

pub after-at-requires : goal.after-at-requires
after-at-requires c =
    let word = word_within c.loop-word.at c.loop-word.rest.now c.in-Some.after_word.now (word_of c.in-Some.word) c.in-Some.ensures in
    let value = word_within _ c.in-Some.after_word.now c.in-Some-next_word.after_value.now (word_of c.in-Some-next_word.value) (value_there (goal.at.after-at-requires c).In-Some-next_word) in
    omega (arith, word, value, c.loop-word.invariant.within, c.requires)

pub loop-word-preserved : goal.loop-word-preserved
loop-word-preserved c =
    let more = words_more c.args.start c.args.inside.now c.loop-word.at c.loop-word.rest.now _ c.loop-word.read c.loop-word.invariant (word_of c.in-Some.word) c.in-Some.after_word.now c.in-Some.ensures c.read_pair-read.result
    (word_of c.in-Some-next_word.value) c.in-Some-next_word.after_value.now (value_there (goal.at.loop-word-preserved c).In-Some-next_word) c.read_pair-read.ensures in
    subst (λ (at : ℕ). WordsRead c.args.start c.args.inside.now at c.in-Some-next_word.after_value.now (c.args.start + length c.args.inside.now) c.read_pair-read.result) (sym c.after-at.ensures) more
