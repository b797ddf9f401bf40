use Rattle.std.proofs.Common.{◌≡◌, ◌∙◌, List, ap, ap₂, arith}
use Rattle.pipe_model.specs.declared.net.Link.{Link}
use Rattle.pipe_model.specs.declared.net.Net.{Net}
use Rattle.pipe_model.specs.declared.net.Strand.{Strand}
use Rattle.net_graph.specs.Nets.{links_of}
use Rattle.net_graph.specs.Partings.{sizes_by}
use Rattle.net_graph.specs.Stands.{stands_of}
use Rattle.net_graph.proofs.Assembled.{assembled, few_of_all, joins_laid, joins_made, small_table}
use Rattle.net_graph.proofs.FormedFaults.{few_stages}
use Rattle.net_graph.proofs.Joined.{past_same}
use Rattle.net_graph.proofs.assembly.assemble.Goals as goal

pub joins_of-requires-clause-small : goal.joins_of-requires-clause-small
joins_of-requires-clause-small c = small_table (stands_of c.args.pipelines.now) c.args.table.now c.requires.labelled (few_stages c.args.pipelines.now c.args.kinds.items c.requires.good)

pub joins_of-requires-clause-few : goal.joins_of-requires-clause-few
joins_of-requires-clause-few c = omega (arith, past_same 0 c.args.pipelines.now, few_stages c.args.pipelines.now c.args.kinds.items c.requires.good)

pub layout_of-requires-clause-each : goal.layout_of-requires-clause-each
layout_of-requires-clause-each c =
    let few = few_of_all c.args.pipelines.now c.args.kinds.items c.in_ok-later.later.items c.requires.scanned c.requires.read c.requires.good c.in_ok-later.ensures in
    rw (c.deref.ensures.value, c.deref-2.ensures.value) few.each

pub layout_of-requires-clause-uses : goal.layout_of-requires-clause-uses
layout_of-requires-clause-uses c =
    let few = few_of_all c.args.pipelines.now c.args.kinds.items c.in_ok-later.later.items c.requires.scanned c.requires.read c.requires.good c.in_ok-later.ensures in
    rw c.deref-2.ensures.value few.uses

pub layout_of-requires-clause-few : goal.layout_of-requires-clause-few
layout_of-requires-clause-few c =
    let few = few_of_all c.args.pipelines.now c.args.kinds.items c.in_ok-later.later.items c.requires.scanned c.requires.read c.requires.good c.in_ok-later.ensures in
    rw (c.deref.ensures.value, c.deref-2.ensures.value) few.strands

pub links_between-requires : goal.links_between-requires
links_between-requires c =
    let few = few_of_all c.args.pipelines.now c.args.kinds.items c.in_ok-later.later.items c.requires.scanned c.requires.read c.requires.good c.in_ok-later.ensures in
    let laid = rw (c.deref.ensures.value, c.deref-2.ensures.value) at c.in_ok-layout.ensures.parts in
    let joins = joins_made c.args.pipelines.now c.args.table.now c.requires.labelled c.in_ok-joins.joins.items c.in_ok-joins.ensures in
    rw (c.deref-3.ensures.value, c.deref-4.ensures.value) (joins_laid c.args.pipelines.now c.args.kinds.items c.in_ok-later.later.items c.in_ok-joins.joins.items c.in_ok-layout.layout.parts.items few joins laid)

pub linked_inputs-requires : goal.linked_inputs-requires
linked_inputs-requires c =
    let few = few_of_all c.args.pipelines.now c.args.kinds.items c.in_ok-later.later.items c.requires.scanned c.requires.read c.requires.good c.in_ok-later.ensures in
    let count = rw (c.deref.ensures.value, c.deref-2.ensures.value) at c.in_ok-layout.ensures.count in
    omega (arith, few.strands, count)

pub linked_outputs-requires : goal.linked_outputs-requires
linked_outputs-requires c =
    let few = few_of_all c.args.pipelines.now c.args.kinds.items c.in_ok-later.later.items c.requires.scanned c.requires.read c.requires.good c.in_ok-later.ensures in
    let count = rw (c.deref.ensures.value, c.deref-2.ensures.value) at c.in_ok-layout.ensures.count in
    omega (arith, few.strands, count)

pub strands_of-requires-clause-few : goal.strands_of-requires-clause-few
strands_of-requires-clause-few c =
    let few = few_of_all c.args.pipelines.now c.args.kinds.items c.in_ok-later.later.items c.requires.scanned c.requires.read c.requires.good c.in_ok-later.ensures in
    rw c.deref-9.ensures.value (omega (arith, few.stages, few.counted))

pub strands_of-requires-clause-each : goal.strands_of-requires-clause-each
strands_of-requires-clause-each c =
    let few = few_of_all c.args.pipelines.now c.args.kinds.items c.in_ok-later.later.items c.requires.scanned c.requires.read c.requires.good c.in_ok-later.ensures in
    rw c.deref-9.ensures.value few.each

pub strands_of-requires-clause-uses : goal.strands_of-requires-clause-uses
strands_of-requires-clause-uses c =
    let few = few_of_all c.args.pipelines.now c.args.kinds.items c.in_ok-later.later.items c.requires.scanned c.requires.read c.requires.good c.in_ok-later.ensures in
    rw c.deref-9.ensures.value few.uses

pub strands_of-requires-clause-below : goal.strands_of-requires-clause-below
strands_of-requires-clause-below c =
    let few = few_of_all c.args.pipelines.now c.args.kinds.items c.in_ok-later.later.items c.requires.scanned c.requires.read c.requires.good c.in_ok-later.ensures in
    rw c.deref-9.ensures.value few.strands

pub returns : goal.returns
returns c =
    let count = rw (c.deref.ensures.value, c.deref-2.ensures.value) at c.in_ok-layout.ensures.count in
    let laid = rw (c.deref.ensures.value, c.deref-2.ensures.value) at c.in_ok-layout.ensures.parts in
    let joins = joins_made c.args.pipelines.now c.args.table.now c.requires.labelled c.in_ok-joins.joins.items c.in_ok-joins.ensures in
    let links : c.in_ok-links.links.items ≡ links_of (sizes_by c.in_ok-later.later.items c.args.kinds.items) c.in_ok-joins.joins.items =
    c.in_ok-links.ensures (sizes_by c.in_ok-later.later.items c.args.kinds.items) (rw c.deref-3.ensures.value laid) ∙ ap (links_of (sizes_by c.in_ok-later.later.items c.args.kinds.items)) c.deref-4.ensures.value in
    let inputs = rw c.deref-5.ensures.value at c.in_ok-inputs.ensures in
    let outputs = rw c.deref-6.ensures.value at c.in_ok-outputs.ensures in
    let strands = rw (c.deref-7.ensures.value, c.deref-8.ensures.value, c.deref-9.ensures.value) at c.in_ok-strands.ensures in
    ap₂ (λ (strands : List Strand) (links : List Link). let net : Net = record { strands = strands; links = links } in net) c.new.ensures.strands c.new.ensures.links
    ∙ assembled c.args.pipelines.now c.args.kinds.items c.in_ok-joins.joins.items c.in_ok-links.links.items c.in_ok-later.later.items c.in_ok-inputs.inputs.items c.in_ok-outputs.outputs.items
    c.in_ok-layout.layout.strands c.in_ok-strands.strands.items joins c.in_ok-later.ensures links count inputs outputs strands
