use Rattle.stage_syntax.proofs.item_lists.ItemLists.begin_word.Goals as goal

pub returns-in-Eof : goal.returns-in-Eof
returns-in-Eof c = λ d draft. rw c.in-Eof.is (c.begin_eof.ensures d draft)
