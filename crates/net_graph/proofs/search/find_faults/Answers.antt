use Rattle.std.proofs.Common.{◌+◌, ◌∙◌, List, true, length, drop, refl, ap, sym, arith}
use Rattle.spec_scanner.specs.declared.piece.Piece.{Piece}
use Rattle.net_graph.proofs.Searched.{after_both, counted_after, outcomes_of_all, searched}
use Rattle.net_graph.proofs.Walks.{no_stands, stands_past}
use Rattle.net_graph.specs.Searches.{after_all}
use Rattle.net_graph.specs.Stands.{Stand, stages_of, stands_in, stands_of}
use Rattle.net_graph.proofs.search.find_faults.Goals as goal

pub loop-pieces-init : goal.loop-pieces-init
loop-pieces-init c =
    let all = outcomes_of_all (stages_of (stands_of c.args.pipelines.now)) c.args.outcomes.now c.requires.read in
    record { within = omega arith; same = refl }

pub loop-pieces-preserved : goal.loop-pieces-preserved
loop-pieces-preserved c =
    let table = c.args.table.now in
    let outcomes = c.args.outcomes.now in
    let pieces = c.pieces-item.result in
    let more = stands_of (drop (c.loop-pieces.pieces-index + 1) c.args.pipelines.now) in
    let on = stands_past c.args.pipelines.now c.loop-pieces.pieces-index pieces c.pieces-item.is c.loop-pieces-test.true in
    let count = counted_after table outcomes c.loop-pieces.search (stands_in true pieces) more in
    let left = ap (λ (stands : List Stand). length (stages_of stands)) on in
    let walk = after_both table outcomes c.loop-pieces.search (stands_in true pieces) more in
    let result = c.after_all-search.ensures ∙ ap (λ (p : List Piece). after_all c.args.table.now c.args.outcomes.now c.loop-pieces.search (stands_in true p)) c.as_slice.ensures in
    record {
      within = rw result (omega (arith, count, left));
      same = rw result (sym walk ∙ (sym (ap (after_all c.args.table.now c.args.outcomes.now c.loop-pieces.search) on) ∙ c.loop-pieces.invariant.same));
    }

pub returns : goal.returns
returns c =
    let end = no_stands c.args.pipelines.now c.loop-pieces.pieces-index c.loop-pieces-test.false in
    let same = sym (ap (after_all c.args.table.now c.args.outcomes.now c.loop-pieces.search) end) ∙ c.loop-pieces.invariant.same in
    rw same (searched (stands_of c.args.pipelines.now) c.args.table.now c.args.outcomes.now c.requires.labelled)
