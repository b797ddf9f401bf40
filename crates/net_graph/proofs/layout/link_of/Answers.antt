use Rattle.std.proofs.Common.{◌∙◌}
use Rattle.net_graph.proofs.Laid.{link_laid}
use Rattle.net_graph.proofs.layout.link_of.Goals as goal

pub returns : goal.returns
returns c = λ sizes are.
    c.rendezvous.ensures ∙ rw (c.strand_out.ensures, c.place.ensures, c.strand_in.ensures, c.place-2.ensures) (link_laid c.args.parts.now sizes c.args.join.now _ are c.requires)
