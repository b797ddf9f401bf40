use Rattle.std.proofs.Common.{[]}
use Rattle.call_meaning.specs.Sample.{sample_spec}
use Rattle.call_meaning.proofs.OneTexts.{net_unrefused}
use Rattle.call_meaning.proofs.SampleNets.{sample_has_net, sample_net}
use Rattle.call_meaning.proofs.sample.sample_reads.Goals as goal

pub returns : goal.returns
returns c = record { net = (sample_net [], sample_has_net); unrefused = λ fault. net_unrefused sample_spec (sample_net []) fault sample_has_net }
