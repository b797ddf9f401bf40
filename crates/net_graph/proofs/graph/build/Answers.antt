use Rattle.std.proofs.Common.{◌∙◌, ℕ, List, ap, sym, subst, arith, slice_get}
use Rattle.spec_scanner.specs.declared.piece.Piece.{Piece}
use Rattle.net_graph.specs.Faults.{IsGraph, faults_of}
use Rattle.net_graph.specs.Nets.{AreOutcomes}
use Rattle.net_graph.specs.Numbered.{AreScanned}
use Rattle.net_graph.specs.Stands.{stages_of, stands_of}
use Rattle.net_graph.proofs.Goods.{graph_of, kinds_known, whole_graph}
use Rattle.net_graph.proofs.Joined.{past_same}
use Rattle.net_graph.proofs.Numberings.{numbered}
use Rattle.net_graph.proofs.Searched.{outcomes_of_all}
use Rattle.net_graph.proofs.Tables.{table_is_of}
use Rattle.net_graph.proofs.graph.build.Goals as goal

pub table_of-requires : goal.table_of-requires
table_of-requires c =
    let all = outcomes_of_all (stages_of (stands_of c.pipelines-pipelines.result.now)) c.in_ok-outcomes.outcomes.items c.in_ok-outcomes.ensures in
    let past = past_same 0 c.pipelines-pipelines.result.now in
    omega (arith, all, past, c.in_ok-outcomes.outcomes.ok, c.in_ok-outcomes.outcomes.small)

pub find_faults-requires-clause-labelled : goal.find_faults-requires-clause-labelled
find_faults-requires-clause-labelled c = λ label.
    let scanned = subst AreScanned (sym c.pipelines-pipelines.ensures.pipelines) (numbered c.pipelines-pipelines.ensures.read.0 _ c.pipelines-pipelines.ensures.read.1) in
    ap (λ (table : List ℕ). slice_get table label) (c.deref-2.ensures.value ∙ c.in_ok-table.ensures) ∙ table_is_of c.pipelines-pipelines.result.now scanned label

pub assemble-requires-clause-scanned : goal.assemble-requires-clause-scanned
assemble-requires-clause-scanned c = subst AreScanned (sym c.pipelines-pipelines.ensures.pipelines) (numbered c.pipelines-pipelines.ensures.read.0 _ c.pipelines-pipelines.ensures.read.1)

pub assemble-requires-clause-read : goal.assemble-requires-clause-read
assemble-requires-clause-read c =
    let good = ap (faults_of c.pipelines-pipelines.result.now) (sym c.deref.ensures.value) ∙ c.in-None.ensures in
    let known = kinds_known c.pipelines-pipelines.result.now c.in_ok-outcomes.outcomes.items c.in_ok-kinds-in-None.kinds.items c.in_ok-outcomes.ensures good c.in_ok-kinds-in-None.ensures in
    subst (AreOutcomes (stages_of (stands_of c.pipelines-pipelines.result.now))) (sym known) c.in_ok-outcomes.ensures

pub assemble-requires-clause-good : goal.assemble-requires-clause-good
assemble-requires-clause-good c =
    let good = ap (faults_of c.pipelines-pipelines.result.now) (sym c.deref.ensures.value) ∙ c.in-None.ensures in
    let known = kinds_known c.pipelines-pipelines.result.now c.in_ok-outcomes.outcomes.items c.in_ok-kinds-in-None.kinds.items c.in_ok-outcomes.ensures good c.in_ok-kinds-in-None.ensures in
    ap (faults_of c.pipelines-pipelines.result.now) known ∙ good

pub assemble-requires-clause-labelled : goal.assemble-requires-clause-labelled
assemble-requires-clause-labelled c = λ label.
    let scanned = subst AreScanned (sym c.pipelines-pipelines.ensures.pipelines) (numbered c.pipelines-pipelines.ensures.read.0 _ c.pipelines-pipelines.ensures.read.1) in
    ap (λ (table : List ℕ). slice_get table label) (c.deref-in-None.ensures.value ∙ c.in_ok-table.ensures) ∙ table_is_of c.pipelines-pipelines.result.now scanned label

pub returns-clause-read : goal.returns-clause-read
returns-clause-read c =
    let good = ap (faults_of c.pipelines-pipelines.result.now) (sym c.deref.ensures.value) ∙ c.in-None.ensures in
    let known = kinds_known c.pipelines-pipelines.result.now c.in_ok-outcomes.outcomes.items c.in_ok-kinds-in-None.kinds.items c.in_ok-outcomes.ensures good c.in_ok-kinds-in-None.ensures in
    subst (λ (pipelines : List (List Piece)). IsGraph pipelines c.in_ok-assemble-in-None.field-0) c.pipelines-pipelines.ensures.pipelines
    (graph_of c.pipelines-pipelines.result.now c.in_ok-kinds-in-None.kinds.items c.in_ok-assemble-in-None.field-0
    (subst (AreOutcomes (stages_of (stands_of c.pipelines-pipelines.result.now))) (sym known) c.in_ok-outcomes.ensures)
    (ap (faults_of c.pipelines-pipelines.result.now) known ∙ good) c.in_ok-assemble-in-None.ensures)

pub returns-clause-whole : goal.returns-clause-whole
returns-clause-whole c =
    let scanned = subst AreScanned (sym c.pipelines-pipelines.ensures.pipelines) (numbered c.pipelines-pipelines.ensures.read.0 _ c.pipelines-pipelines.ensures.read.1) in
    let good = ap (faults_of c.pipelines-pipelines.result.now) (sym c.deref.ensures.value) ∙ c.in-None.ensures in
    let known = kinds_known c.pipelines-pipelines.result.now c.in_ok-outcomes.outcomes.items c.in_ok-kinds-in-None.kinds.items c.in_ok-outcomes.ensures good c.in_ok-kinds-in-None.ensures in
    whole_graph c.pipelines-pipelines.result.now c.in_ok-assemble-in-None.field-0 scanned
    (graph_of c.pipelines-pipelines.result.now c.in_ok-kinds-in-None.kinds.items c.in_ok-assemble-in-None.field-0
    (subst (AreOutcomes (stages_of (stands_of c.pipelines-pipelines.result.now))) (sym known) c.in_ok-outcomes.ensures)
    (ap (faults_of c.pipelines-pipelines.result.now) known ∙ good) c.in_ok-assemble-in-None.ensures)
