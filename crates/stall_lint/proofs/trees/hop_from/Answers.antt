-- The edge has an end in the group: it goes from there to the other end.
use Rattle.std.proofs.Common.{slice_index_or}
use Rattle.std.proofs.lemmas.Option.{slice_get_within}
use Rattle.stall_lint.proofs.Branches.{leads_back, leads_there}
use Rattle.stall_lint.proofs.Listing.{link_at, no_link}
use Rattle.stall_lint.proofs.trees.hop_from.Goals as goal

pub returns-then-index-group : goal.returns-then-index-group
returns-then-index-group c =
    let net = c.args.net.now in
    let labels = c.args.groups.now.labels.items in
    let j = c.args.number in
    let l = slice_index_or c.as_slice.result.now j no_link in
    let joins = c.requires.1 in
    let at = link_at c.as_slice.result.now net.links j c.as_slice.ensures (slice_get_within net.links j joins.link joins.at) in
    leads_there net labels j c.args.group c.requires l at c.index.result.now c.index.ensures c.if-index-group.true

pub returns-else-index-group : goal.returns-else-index-group
returns-else-index-group c =
    let net = c.args.net.now in
    let labels = c.args.groups.now.labels.items in
    let j = c.args.number in
    let l = slice_index_or c.as_slice.result.now j no_link in
    let joins = c.requires.1 in
    let at = link_at c.as_slice.result.now net.links j c.as_slice.ensures (slice_get_within net.links j joins.link joins.at) in
    leads_back net labels j c.args.group c.requires l at c.index.result.now c.index.ensures c.if-index-group.false
