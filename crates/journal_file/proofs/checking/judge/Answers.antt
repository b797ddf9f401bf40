use Rattle.std.proofs.Common.{subst, slice_index_or}
use Rattle.pipe_model.specs.declared.step.Entry.{Entry}
use Rattle.journal_file.specs.Made.{HasMade}
use Rattle.journal_file.proofs.Judging.{first_illegal, judged}
use Rattle.journal_file.proofs.checking.judge.Goals as goal

pub returns-then-not-branch : goal.returns-then-not-branch
returns-then-not-branch g c =
    let other : Entry = record { strand = 0; stream = 0 } in
    let made = subst (λ b. HasMade c.loop-entry.core (slice_index_or c.args.entries.now c.loop-entry.entry-index other) b c.make.new.core) c.if-not-branch.true c.in_ok-make.ensures.made in
    first_illegal c.args.core.now.net c.args.entries.now c.loop-entry.entry-index c.loop-entry.core c.loop-entry.invariant other c.make.new.core c.len-entry.result made c.loop-entry-test.true c.len-entry.ensures.length

pub returns : goal.returns
returns g c = judged c.args.core.now.net c.args.entries.now c.loop-entry.entry-index c.loop-entry.core c.loop-entry.invariant c.loop-entry-test.false c.is_complete-complete.result c.is_complete-complete.ensures.yes c.is_complete-complete.ensures.no
