use Rattle.std.proofs.Common.{rules, ◌≡◌, ◌<◌, ◌/◌, sym}
use Rattle.core_machine.specs.Members.{word_at}
use Rattle.core_machine.proofs.Summaries.{some_before, emptied, lessened}
use Rattle.core_machine.proofs.ready.Ready.remove.Goals as goal

pub invariant_of-self : goal.invariant_of-self
invariant_of-self c =
    let less : c.args.strand < c.self.inside.size = search rules in
    let none : word_at c.remove.new.self (c.args.strand / 64) ≡ 0 = search rules in
    emptied c.self.inside.size c.self.inside.members c.self.inside.summary c.remove.new.self c.remove-then-word_in-eq0.new.self c.args.strand less c.self.invariant
    c.remove.ensures.others c.remove.ensures.apart c.remove.ensures.size c.remove-then-word_in-eq0.ensures.others c.remove-then-word_in-eq0.ensures.size none c.remove-then-word_in-eq0.ensures.here

pub invariant_of-self-else-word_in-eq0 : goal.invariant_of-self-else-word_in-eq0
invariant_of-self-else-word_in-eq0 c =
    let less : c.args.strand < c.self.inside.size = search rules in
    let some : 0 < word_at c.remove.new.self (c.args.strand / 64) = search rules in
    let fits : c.word_in.result < 18446744073709551616 = search rules in
    let some_word : 0 < c.word_in.result = search rules in
    let before = some_before c.self.inside.members c.remove.new.self c.args.strand c.word_in.result (sym c.word_in.ensures) some_word fits c.remove.ensures.here c.remove.ensures.others in
    lessened c.self.inside.size c.self.inside.members c.self.inside.summary c.remove.new.self c.self.inside.summary c.args.strand less c.self.invariant
    c.remove.ensures.others c.remove.ensures.apart c.remove.ensures.size some before
