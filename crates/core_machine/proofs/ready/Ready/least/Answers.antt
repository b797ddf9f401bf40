use Rattle.std.proofs.Common.{rules, ◌≡◌, ◌<◌, ◌+◌, ◌*◌, w64, sym, subst, arith}
use Rattle.core_machine.specs.Members.{Members, IsLeast, IsLeastBit, word_at}
use Rattle.std.specs.Int.{trailing_zeros}
use Rattle.core_machine.proofs.Summaries.{least_found, least_inside, least_member}
use Rattle.core_machine.proofs.ready.Ready.least.Goals as goal

-- the member is below the size, which fits 32 bits
pub overflow_mul-result : goal.overflow_mul-result
overflow_mul-result c =
    let at : word_at c.self.inside.members c.in_ok-k.k ≡ c.word_in-word.result = sym c.word_in-word.ensures in
    let fits : c.word_in-word.result < 18446744073709551616 = search rules in
    let first : IsLeastBit c.self.inside.summary c.in_ok-k.k = c.in_ok-k.ensures.least in
    let found = least_found c.self.inside.size c.self.inside.members c.self.inside.summary c.in_ok-k.k c.word_in-word.result c.self.invariant at fits first in
    let below = least_inside c.self.inside.size c.self.inside.members c.self.inside.summary (64 * c.in_ok-k.k + trailing_zeros w64 c.word_in-word.result) c.self.invariant found.0 in
    omega (arith, below, c.self.invariant.few)

pub overflow_add-result : goal.overflow_add-result
overflow_add-result c =
    let at : word_at c.self.inside.members c.in_ok-k.k ≡ c.word_in-word.result = sym c.word_in-word.ensures in
    let fits : c.word_in-word.result < 18446744073709551616 = search rules in
    let first : IsLeastBit c.self.inside.summary c.in_ok-k.k = c.in_ok-k.ensures.least in
    let found = least_found c.self.inside.size c.self.inside.members c.self.inside.summary c.in_ok-k.k c.word_in-word.result c.self.invariant at fits first in
    let below = least_inside c.self.inside.size c.self.inside.members c.self.inside.summary (64 * c.in_ok-k.k + trailing_zeros w64 c.word_in-word.result) c.self.invariant found.0 in
    omega (arith, below, c.self.invariant.few)

pub returns-clause-inside : goal.returns-clause-inside
returns-clause-inside c =
    let at : word_at c.self.inside.members c.in_ok-k.k ≡ c.word_in-word.result = sym c.word_in-word.ensures in
    let fits : c.word_in-word.result < 18446744073709551616 = search rules in
    let first : IsLeastBit c.self.inside.summary c.in_ok-k.k = c.in_ok-k.ensures.least in
    let found = least_found c.self.inside.size c.self.inside.members c.self.inside.summary c.in_ok-k.k c.word_in-word.result c.self.invariant at fits first in
    subst (λ (z : Members). 64 * c.in_ok-k.k + trailing_zeros w64 c.word_in-word.result < z.size) c.self.view_is
    (least_inside c.self.inside.size c.self.inside.members c.self.inside.summary (64 * c.in_ok-k.k + trailing_zeros w64 c.word_in-word.result) c.self.invariant found.0)

pub returns-clause-least : goal.returns-clause-least
returns-clause-least c =
    let at : word_at c.self.inside.members c.in_ok-k.k ≡ c.word_in-word.result = sym c.word_in-word.ensures in
    let fits : c.word_in-word.result < 18446744073709551616 = search rules in
    let first : IsLeastBit c.self.inside.summary c.in_ok-k.k = c.in_ok-k.ensures.least in
    let found = least_found c.self.inside.size c.self.inside.members c.self.inside.summary c.in_ok-k.k c.word_in-word.result c.self.invariant at fits first in
    subst (λ (z : Members). IsLeast z (64 * c.in_ok-k.k + trailing_zeros w64 c.word_in-word.result)) c.self.view_is
    (least_member (record { size = c.self.inside.size; words = c.self.inside.members }) (64 * c.in_ok-k.k + trailing_zeros w64 c.word_in-word.result) found)
