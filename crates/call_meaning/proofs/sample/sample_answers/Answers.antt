use Rattle.call_meaning.proofs.SampleAnswers.{good_status, some_status}
use Rattle.call_meaning.proofs.sample.sample_answers.Goals as goal

pub returns : goal.returns
returns c = record {
  any = λ words old new diag diag' status count workers steps command answers. some_status words count workers steps command old new diag diag' status answers;
  unhindered = λ words old new diag diag' status count workers steps command answers free. good_status words count workers steps command old new diag diag' status answers free;
}
