use Rattle.call_meaning.proofs.SampleRuns.{fed_code, fed_ends, fed_plain}
use Rattle.call_meaning.proofs.sample.sample_completes.Goals as goal

pub returns : goal.returns
returns c = record {
  plain = λ net input is. fed_plain input net is;
  ended = λ net input order is legal complete. fed_ends input net is order legal complete;
  code = λ net input order is legal complete. fed_code input net is order legal complete;
}
