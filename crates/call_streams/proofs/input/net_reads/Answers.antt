use Rattle.std.proofs.Common.{rules, tests}
use Rattle.std.proofs.lemmas.Iterator.{YieldsList-from_slice}
use Rattle.std.proofs.lemmas.Iterator.Search.{any_from_yields_List}
use Rattle.pipe_model.specs.declared.net.Strand.{Strand}
use Rattle.net_graph.specs.Fed.{reads_input}
use Rattle.call_streams.proofs.input.net_reads.Goals as goal

pub returns : goal.returns
returns c = any_from_yields_List (λ (p : Strand). reads_input p.kind) _ _ c.any.result c.any.ensures.ran (YieldsList-from_slice c.args.net.now.strands cc) (λ x b q k. search (rules, tests))
