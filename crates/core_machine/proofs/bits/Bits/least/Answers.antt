use Rattle.std.proofs.Common.{rules, ◌≡◌, ◌<◌, length, ◌+◌, ◌*◌, ◌≤◌, w64, arith, sym, ◌∙◌, ap, subst}
use Rattle.core_machine.specs.Members.{has, word_at, IsLeastBit}
use Rattle.std.specs.Int.{bit_at, bit_not}
use Rattle.core_machine.proofs.BitSets.{insert_here, insert_others, remove_here, remove_others, least_is, none_is}
use Rattle.core_machine.proofs.bits.Bits.least.Goals as goal

pub returns-then-word-ne0-clause-least : goal.returns-then-word-ne0-clause-least
returns-then-word-ne0-clause-least c =
    let ws = c.self.inside.words.items in
    let got : word_at ws c.loop-k.k ≡ c.word-word.result = ap (λ y. word_at y c.loop-k.k) c.self.view_is ∙ sym c.word-word.ensures in
    let some : 0 < c.word-word.result = search rules in
    let fits : c.word-word.result < 18446744073709551616 = search rules in
    let l = least_is ws c.loop-k.k c.word-word.result got some fits c.loop-k.invariant.1 in
    subst (λ z. IsLeastBit z (64 * c.loop-k.k + Rattle.std.specs.Int.trailing_zeros w64 c.word-word.result)) c.self.view_is l

pub loop-k-preserved : goal.loop-k-preserved
loop-k-preserved c =
    let ws = c.self.inside.words.items in
    let got : word_at ws c.loop-k.k ≡ c.word-word.result = ap (λ y. word_at y c.loop-k.k) c.self.view_is ∙ sym c.word-word.ensures in
    let zero_now : c.word-word.result ≡ 0 = search rules in
    let more : c.loop-k.k + 1 ≤ length ws = search rules in
    (more, λ j p. Rattle.core_machine.proofs.BitSets.one_further ws c.loop-k.k (got ∙ zero_now) c.loop-k.invariant.1 j p)

pub returns-clause-least : goal.returns-clause-least
returns-clause-least c =
    let all : length c.self.inside.words.items ≤ c.loop-k.k = search rules in
    λ t. ap (λ y. has y t) (sym c.self.view_is) ∙ none_is c.self.inside.words.items (λ j p. c.loop-k.invariant.1 j (omega (arith, all, p))) t
