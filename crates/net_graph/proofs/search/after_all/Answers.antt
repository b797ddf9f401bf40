use Rattle.std.proofs.Common.{◌∙◌, arith, sym, ap, refl, nat_eq}
use Rattle.net_graph.proofs.Walks.{count_on, stands_end, stands_on}
use Rattle.net_graph.specs.Searches.{after_all}
use Rattle.net_graph.proofs.search.after_all.Goals as goal

pub loop-k-init : goal.loop-k-init
loop-k-init c = record { within = c.requires; same = refl }

pub after-search-requires : goal.after-search-requires
after-search-requires c =
    let on = stands_on c.args.pieces.now c.loop-k.k c.index-pieces-k.result c.index-pieces-k.is c.loop-k-test.true in
    omega arith

pub loop-k-preserved : goal.loop-k-preserved
loop-k-preserved c =
    let on = stands_on c.args.pieces.now c.loop-k.k c.index-pieces-k.result c.index-pieces-k.is c.loop-k-test.true in
    let count = count_on c.args.table.now c.args.outcomes.now c.loop-k.search _ _ _ on in
    let step = ap (after_all c.args.table.now c.args.outcomes.now c.loop-k.search) on in
    record {
      within = rw c.after-search.ensures (omega (arith, count));
      same = rw c.after-search.ensures (sym step ∙ c.loop-k.invariant.same);
    }

pub returns : goal.returns
returns c =
    let end = stands_end c.args.pieces.now c.loop-k.k (nat_eq c.loop-k.k 0) c.loop-k-test.false in
    sym (ap (after_all c.args.table.now c.args.outcomes.now c.loop-k.search) end) ∙ c.loop-k.invariant.same
