-- A link that isn't inner is listed for the groups of both its ends.
use Rattle.std.proofs.Common.{◌≡◌, false, true, length, refl, sym, ◌∙◌, ◌+◌, ap, subst, arith, inl, Some, slice_get, slice_index_or}
use Rattle.std.proofs.lemmas.Option.{slice_get_read, slice_get_within}
use Rattle.std.proofs.lemmas.Result.{IfOk-weaker}
use Rattle.pipe_model.proofs.FewLinks.{few_links}
use Rattle.pipe_model.proofs.Lists.{at_some}
use Rattle.stall_lint.specs.Listed.{AreListed, Joins, with_edge}
use Rattle.stall_lint.proofs.Listing.{link_at, no_link, added_count, edge_listed, inner_listed}
use Rattle.stall_lint.proofs.edges.list.Goals as goal

pub returns-then-index : goal.returns-then-index
returns-then-index c =
    let net = c.args.net.now in
    let inner = c.args.groups.now.inner.items in
    let j = c.args.number in
    let l = at_some net.links j c.requires.within in
    let count = c.requires.groups.inner.count in
    let is : slice_get inner j ≡ Some true = slice_get_read inner (length inner) j c.index.result.now refl (let lt = c.requires.within in omega (arith, count, lt)) c.index.ensures ∙ ap Some c.if-index.true in
    inner_listed net c.args.groups.now.labels.items j c.args.edges.now.items l.0 c.requires.listed l.1 (c.requires.groups.inner.marked j l.0 l.1 is)

pub overflow_cast-number : goal.overflow_cast-number
overflow_cast-number c = let few = few_links c.args.net.now c.requires.formed in let lt = c.requires.within in record { fits = omega (arith, few, lt) }

pub overflow_cast-number-2 : goal.overflow_cast-number-2
overflow_cast-number-2 c = let few = few_links c.args.net.now c.requires.formed in let lt = c.requires.within in record { fits = omega (arith, few, lt) }

pub index-requires-2 : goal.index-requires-2
index-requires-2 c =
    let net = c.args.net.now in
    let j = c.args.number in
    let l = slice_index_or c.as_slice.result.now j no_link in
    let at = link_at c.as_slice.result.now net.links j c.as_slice.ensures c.requires.within in
    let joined = c.requires.formed.joined j l at in
    let lt = slice_get_within net.strands l.from joined.producer joined.from_strand in
    let count = c.requires.groups.labels.count in
    omega (arith, lt, count, c.args.groups.now.labels.ok.0)

pub index-requires-3 : goal.index-requires-3
index-requires-3 c =
    let net = c.args.net.now in
    let j = c.args.number in
    let l = slice_index_or c.as_slice.result.now j no_link in
    let at = link_at c.as_slice.result.now net.links j c.as_slice.ensures c.requires.within in
    let joined = c.requires.formed.joined j l at in
    let lt = slice_get_within net.strands l.to joined.consumer joined.to_strand in
    let count = c.requires.groups.labels.count in
    omega (arith, lt, count, c.args.groups.now.labels.ok.0)

pub list_for-requires : goal.list_for-requires
list_for-requires c =
    let net = c.args.net.now in
    let labels = c.args.groups.now.labels.items in
    let j = c.args.number in
    let l = slice_index_or c.as_slice.result.now j no_link in
    let at = link_at c.as_slice.result.now net.links j c.as_slice.ensures c.requires.within in
    let joined = c.requires.formed.joined j l at in
    let lt = slice_get_within net.strands l.from joined.producer joined.from_strand in
    let count = c.requires.groups.labels.count in
    let is : slice_get labels l.from ≡ Some c.index-2.result.now = slice_get_read labels (length labels) l.from c.index-2.result.now refl (omega (arith, lt, count)) c.index-2.ensures in
    let small = c.requires.groups.labels.within l.from c.index-2.result.now is in
    let long = c.requires.listed.count in
    omega (arith, small, count, long)

pub list_for-requires-2 : goal.list_for-requires-2
list_for-requires-2 c =
    let net = c.args.net.now in
    let labels = c.args.groups.now.labels.items in
    let edges = c.args.edges.now.items in
    let j = c.args.number in
    let l = slice_index_or c.as_slice.result.now j no_link in
    let at = link_at c.as_slice.result.now net.links j c.as_slice.ensures c.requires.within in
    let joined = c.requires.formed.joined j l at in
    let lt = slice_get_within net.strands l.to joined.consumer joined.to_strand in
    let count = c.requires.groups.labels.count in
    let is : slice_get labels l.to ≡ Some c.index-3.result.now = slice_get_read labels (length labels) l.to c.index-3.result.now refl (omega (arith, lt, count)) c.index-3.ensures in
    let small = c.requires.groups.labels.within l.to c.index-3.result.now is in
    let long = c.requires.listed.count in
    let more : length c.list_for.new.edges.items ≡ length edges = ap length c.in_ok-list_for.ensures ∙ added_count edges c.index-2.result.now j in
    omega (arith, small, count, long, more)

pub returns : goal.returns
returns c =
    let net = c.args.net.now in
    let labels = c.args.groups.now.labels.items in
    let inner = c.args.groups.now.inner.items in
    let edges = c.args.edges.now.items in
    let j = c.args.number in
    let l = slice_index_or c.as_slice.result.now j no_link in
    let at = link_at c.as_slice.result.now net.links j c.as_slice.ensures c.requires.within in
    let joined = c.requires.formed.joined j l at in
    let from_lt = slice_get_within net.strands l.from joined.producer joined.from_strand in
    let to_lt = slice_get_within net.strands l.to joined.consumer joined.to_strand in
    let count = c.requires.groups.labels.count in
    let long = c.requires.listed.count in
    let a = c.index-2.result.now in
    let b = c.index-3.result.now in
    let from : slice_get labels l.from ≡ Some a = slice_get_read labels (length labels) l.from a refl (omega (arith, from_lt, count)) c.index-2.ensures in
    let to : slice_get labels l.to ≡ Some b = slice_get_read labels (length labels) l.to b refl (omega (arith, to_lt, count)) c.index-3.ensures in
    let a_lt = c.requires.groups.labels.within l.from a from in
    let b_lt = c.requires.groups.labels.within l.to b to in
    let outer : slice_get inner j ≡ Some false = slice_get_read inner (length inner) j c.index.result.now refl (let lt = c.requires.within in let all = c.requires.groups.inner.count in omega (arith, all, lt)) c.index.ensures ∙ ap Some c.if-index.false in
    let joins : Joins net labels j a b = record { link = l; at = at; edge = c.requires.groups.inner.unmarked j l at outer; ends = inl (from, to) } in
    let done = edge_listed net labels j edges a b c.requires.listed joins (omega (arith, a_lt, count, long)) (omega (arith, b_lt, count, long)) in
    IfOk-weaker c.list_for-2.result (λ _. c.list_for-2.new.edges.items ≡ with_edge c.list_for.new.edges.items b j) (λ _. AreListed net labels (j + 1) c.list_for-2.new.edges.items)
    (λ x e. subst (AreListed net labels (j + 1)) (sym (e ∙ ap (λ z. with_edge z b j) c.in_ok-list_for.ensures)) done)
    c.list_for-2.ensures
