use Rattle.std.proofs.Common.{rules, ◌≡◌, ◌<◌, ◌/◌, length, slice_set, bit_or, sym, ◌∙◌, ap, subst}
use Rattle.core_machine.specs.Members.{has, word_at}
use Rattle.core_machine.proofs.BitSets.{word_other, insert_here, insert_others}
use Rattle.core_machine.proofs.bits.Bits.insert.Goals as goal

pub returns-clause-here : goal.returns-clause-here
returns-clause-here c =
    let ws = c.self.inside.words.items in
    let k = c.args.s / 64 in
    let word : word_at ws k ≡ c.word_in-word.result = ap (λ y. word_at y k) c.self.view_is ∙ sym c.word_in-word.ensures in
    let inside : k < length ws = search rules in
    subst (λ z. has (slice_set ws k (bit_or z c.bit.result)) c.args.s ≡ 1) word
    (subst (λ z. has (slice_set ws k (bit_or (word_at ws k) z)) c.args.s ≡ 1) (sym c.bit.ensures) (insert_here ws c.args.s inside))

pub returns-clause-others : goal.returns-clause-others
returns-clause-others c = λ t other.
    let ws = c.self.inside.words.items in
    let k = c.args.s / 64 in
    let word : word_at ws k ≡ c.word_in-word.result = ap (λ y. word_at y k) c.self.view_is ∙ sym c.word_in-word.ensures in
    let inside : k < length ws = search rules in
    let v = c.self.view_is in
    subst (λ z. has (slice_set ws k (bit_or z c.bit.result)) t ≡ has c.args.self.now t) word
    (subst (λ z. has (slice_set ws k (bit_or (word_at ws k) z)) t ≡ has c.args.self.now t) (sym c.bit.ensures) (insert_others ws c.args.s inside t other ∙ ap (λ y. has y t) v))

pub returns-clause-apart : goal.returns-clause-apart
returns-clause-apart c = λ k apart. word_other c.self.inside.words.items (c.args.s / 64) k (bit_or c.word_in-word.result c.bit.result) apart ∙ ap (λ y. word_at y k) c.self.view_is
