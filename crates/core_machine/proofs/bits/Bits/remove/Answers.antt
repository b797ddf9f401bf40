use Rattle.std.proofs.Common.{rules, ◌≡◌, ◌≢◌, ◌<◌, ◌/◌, ℕ, length, ◌-◌, ◌%◌, slice_set, bit_and, w64, arith, sym, ◌∙◌, ap, subst}
use Rattle.core_machine.specs.Members.{has, word_at}
use Rattle.std.specs.Int.{bit_at}
use Rattle.std.proofs.lemmas.Nat.Bits.{bit_at_not, bit_at-pow_same, bit_at-pow_other}
use Rattle.core_machine.proofs.BitSets.{word_other, remove_here, remove_others}
use Rattle.core_machine.proofs.bits.Bits.remove.Goals as goal

pub returns-clause-here : goal.returns-clause-here
returns-clause-here c =
    let ws = c.self.inside.words.items in
    let k = c.args.s / 64 in
    let word : word_at ws k ≡ c.word_in-word.result = ap (λ y. word_at y k) c.self.view_is ∙ sym c.word_in-word.ensures in
    let inside : k < length ws = search rules in
    let not_s : bit_at (18446744073709551615 - c.bit.result) (c.args.s % 64) ≡ 0 =
    bit_at_not w64 c.bit.result (c.args.s % 64) (search rules) (omega arith) ∙ ap (λ z. 1 - bit_at z (c.args.s % 64)) c.bit.ensures ∙ ap (λ z. 1 - z) (bit_at-pow_same (c.args.s % 64)) in
    let not_others : (i : ℕ) → i < 64 → i ≢ c.args.s % 64 → bit_at (18446744073709551615 - c.bit.result) i ≡ 1 =
    λ i p q. bit_at_not w64 c.bit.result i (search rules) p ∙ ap (λ z. 1 - bit_at z i) c.bit.ensures ∙ ap (λ z. 1 - z) (bit_at-pow_other (c.args.s % 64) i q) in
    subst (λ z. has (slice_set ws k (bit_and z (18446744073709551615 - c.bit.result))) c.args.s ≡ 0) word (remove_here ws c.args.s inside (18446744073709551615 - c.bit.result) not_s not_others)

pub returns-clause-others : goal.returns-clause-others
returns-clause-others c = λ t other.
    let ws = c.self.inside.words.items in
    let k = c.args.s / 64 in
    let word : word_at ws k ≡ c.word_in-word.result = ap (λ y. word_at y k) c.self.view_is ∙ sym c.word_in-word.ensures in
    let inside : k < length ws = search rules in
    let not_s : bit_at (18446744073709551615 - c.bit.result) (c.args.s % 64) ≡ 0 =
    bit_at_not w64 c.bit.result (c.args.s % 64) (search rules) (omega arith) ∙ ap (λ z. 1 - bit_at z (c.args.s % 64)) c.bit.ensures ∙ ap (λ z. 1 - z) (bit_at-pow_same (c.args.s % 64)) in
    let not_others : (i : ℕ) → i < 64 → i ≢ c.args.s % 64 → bit_at (18446744073709551615 - c.bit.result) i ≡ 1 =
    λ i p q. bit_at_not w64 c.bit.result i (search rules) p ∙ ap (λ z. 1 - bit_at z i) c.bit.ensures ∙ ap (λ z. 1 - z) (bit_at-pow_other (c.args.s % 64) i q) in
    subst (λ z. has (slice_set ws k (bit_and z (18446744073709551615 - c.bit.result))) t ≡ has c.args.self.now t) word
    (remove_others ws c.args.s inside (18446744073709551615 - c.bit.result) not_s not_others t other ∙ ap (λ y. has y t) c.self.view_is)

pub returns-clause-apart : goal.returns-clause-apart
returns-clause-apart c = λ k apart. word_other c.self.inside.words.items (c.args.s / 64) k (bit_and c.word_in-word.result (18446744073709551615 - c.bit.result)) apart ∙ ap (λ y. word_at y k) c.self.view_is
