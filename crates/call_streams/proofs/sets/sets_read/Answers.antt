use Rattle.std.proofs.Common.{rules, tests, ◌∙◌}
use Rattle.std.proofs.lemmas.Iterator.{YieldsList-from_slice}
use Rattle.std.proofs.lemmas.Iterator.Search.{any_from_yields_List}
use Rattle.call_streams.specs.Feeding.{set_reads}
use Rattle.call_streams.proofs.FedSets.{all_read}
use Rattle.call_streams.proofs.sets.sets_read.Goals as goal

pub returns : goal.returns
returns c = any_from_yields_List set_reads _ _ c.any.result c.any.ensures.ran (YieldsList-from_slice c.args.sets.now cc) (λ x b q k. search (rules, tests)) ∙ all_read c.args.sets.now
