use Rattle.call_meaning.proofs.LintAnswers.{left_alone, line_told, some_status}
use Rattle.call_meaning.proofs.lints.lint_answers.Goals as goal

pub returns-clause-any : goal.returns-clause-any
returns-clause-any c words old new diag diag' status spec command answers = some_status words spec command old new diag diag' status answers

pub returns-clause-untouched : goal.returns-clause-untouched
returns-clause-untouched c words old new diag diag' status spec command answers = left_alone words spec command old new diag diag' status answers

pub returns-clause-told : goal.returns-clause-told
returns-clause-told c words old new diag diag' spec command answers = line_told words spec command old new diag diag' answers
