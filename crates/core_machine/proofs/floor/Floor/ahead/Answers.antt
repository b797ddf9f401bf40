-- A strand that came home to take takes next, and what is known otherwise is what the take or the offer tells.
use Rattle.std.proofs.Common.{◌≡◌, false, refl, sym, ◌∙◌, subst}
use Rattle.pipe_model.specs.declared.step.Want.TheVariants as want
use Rattle.pipe_model.specs.declared.step.Seen.TheVariants.{Took}
use Rattle.core_machine.specs.Ahead.{HasGoneQuietly, IsWriteOn}
use Rattle.core_machine.specs.Woken.{commits}
use Rattle.core_machine.specs.declared.floor.Ahead.TheVariants as Known
use Rattle.core_machine.proofs.Aheads.{known_of, told_before, take_next, bare_back, no_write}
use Rattle.core_machine.proofs.Homes.{no_commit}
use Rattle.core_machine.proofs.floor.Floor.ahead.Goals as goal

pub returns-in_default-want : goal.returns-in_default-want
returns-in_default-want c = λ d pool k asked gone shown.
    let now = c.args.self.now in
    let came = subst (λ e. HasGoneQuietly now.net d pool c.args.strand k e asked now.desk now.pool) c.in-Took.is gone in
    c.ahead_of_take.ensures d pool k asked came
    (bare_back (λ w. commits w ≡ false) (λ o out is. refl) asked (subst (λ w. commits w ≡ false) shown (no_commit c.args.want.now c.in_default-want.not-Commit)))
    (λ o. bare_back (λ w. IsWriteOn o w → ⊥) (λ q out is. is) asked (subst (λ w. IsWriteOn o w → ⊥) shown (no_write o c.args.want.now c.in_default-want.not-Write)))

pub returns-in-Take : goal.returns-in-Take
returns-in-Take c = λ d pool k asked gone shown.
    let now = c.args.self.now in
    let s = c.args.strand in
    let i = c.in-Take.i in
    let told = told_before now.net d pool s k c.args.seen asked now.desk now.pool gone (c.has_seen_or_put.ensures c.if-has_seen_or_put.true) in
    let wants = bare_back (λ w. w ≡ want.Take i) (λ o out same. cc) asked (sym (sym c.in-Take.is ∙ shown)) in
    known_of now.desk (Known.Took s i) (s, i, Took i) refl (take_next now.net d pool s k c.args.seen asked now.desk now.pool gone told i wants)

pub returns-in-Write : goal.returns-in-Write
returns-in-Write c = λ d pool k asked gone shown.
    let now = c.args.self.now in
    let s = c.args.strand in
    let o = c.in-Write.o in
    let told = told_before now.net d pool s k c.args.seen asked now.desk now.pool gone (c.has_seen_or_put.ensures c.if-has_seen_or_put.true) in
    let writes = bare_back (IsWriteOn o) (λ q out is. is) asked (subst (IsWriteOn o) (sym c.in-Write.is ∙ shown) refl) in
    c.ahead_of_offer.ensures d pool k c.args.seen asked gone told writes
