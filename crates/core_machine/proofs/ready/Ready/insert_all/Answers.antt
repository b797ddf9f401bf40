-- The words and their summary are filled.
use Rattle.std.proofs.Common.{◌≡◌, ◌<◌, ◌==◌, ◌+◌, ◌-◌, ◌*◌, ◌/◌, sym, ◌∙◌, ap, subst, true}
use Rattle.std.proofs.lemmas.Bool.{eqb-true}
use Rattle.core_machine.specs.Members.{Members, is_member, has, low_word}
use Rattle.core_machine.proofs.Fills.{ceil_is, filled_below, filled_bits}
use Rattle.core_machine.proofs.Summaries.{least_inside}
use Rattle.core_machine.proofs.ready.Ready.insert_all.Goals as goal

pub invariant_of-self : goal.invariant_of-self
invariant_of-self c =
    let words : c.div_ceil.result ≡ (c.self.inside.size + 63) / 64 = c.div_ceil.ensures ∙ ceil_is c.self.inside.size in
    filled_bits c.self.inside.size c.self.inside.members c.self.inside.summary c.fill.new.self c.fill-2.new.self c.self.invariant
    c.fill.ensures.words c.fill.ensures.size (λ k. c.fill-2.ensures.words k ∙ ap (λ n. low_word (n - 64 * k)) words) c.fill-2.ensures.size

-- who was in is below the size
pub returns-clause-more : goal.returns-clause-more
returns-clause-more c = λ t held.
    let before : has c.self.inside.members t ≡ 1 = eqb-true (has c.self.inside.members t) 1 (subst (λ (z : Members). is_member z t ≡ true) (sym c.self.view_is) held) in
    let below : t < c.self.inside.size = least_inside c.self.inside.size c.self.inside.members c.self.inside.summary t c.self.invariant before in
    ap (λ z. z == 1) (filled_below c.fill.new.self c.self.inside.size c.fill.ensures.words t below)

pub returns-clause-all : goal.returns-clause-all
returns-clause-all c = λ t less.
    let below : t < c.self.inside.size = subst (λ (z : Members). t < z.size) (sym c.self.view_is) less in
    ap (λ z. z == 1) (filled_below c.fill.new.self c.self.inside.size c.fill.ensures.words t below)
