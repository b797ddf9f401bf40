-- There is room for a word where there is room for an entry, and the word adds the entry.
use Rattle.std.proofs.Common.{◌++◌, ◌∷◌, [], length, ◌∙◌, ap, arith}
use Rattle.pipe_model.proofs.Lists.{length_more}
use Rattle.step_journal.specs.Steps.{Steps}
use Rattle.step_journal.specs.Words.{entries_of}
use Rattle.step_journal.specs.declared.journal.Word.{Word}
use Rattle.step_journal.proofs.Rounds.{one_more, room_for_word}
use Rattle.step_journal.proofs.journal.StepJournal.push_reserved.Goals as goal

pub push_reserved-requires : goal.push_reserved-requires
push_reserved-requires c =
    let few = room_for_word c.self.inside.words.items in
    let items = ap (λ (z : Steps). length z.items) c.self.view_is in
    let room = ap (λ (z : Steps). z.room) c.self.view_is in
    omega (arith, few, items, room, c.requires, c.self.inside.words.ok.0)

pub invariant_of-self : goal.invariant_of-self
invariant_of-self c =
    let words = c.push_reserved.ensures.items ∙ ap (λ (w : Word). c.self.inside.words.items ++ w ∷ []) c.word_of.ensures in
    let more = ap length (ap entries_of words ∙ one_more c.self.inside.words.items c.args.entry) in
    let long = length_more (entries_of c.self.inside.words.items) c.args.entry in
    omega (arith, more, long, c.self.invariant)

pub returns-clause-items : goal.returns-clause-items
returns-clause-items c =
    let words = c.push_reserved.ensures.items ∙ ap (λ (w : Word). c.self.inside.words.items ++ w ∷ []) c.word_of.ensures in
    ap entries_of words ∙ one_more c.self.inside.words.items c.args.entry ∙ ap (λ (z : Steps). z.items ++ c.args.entry ∷ []) c.self.view_is
