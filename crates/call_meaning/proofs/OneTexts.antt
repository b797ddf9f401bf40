-- A text has one net or one least fault at most.
use Rattle.std.proofs.Common.{◌≡◌, inl, inr, ℕ, List, subst}
use Rattle.pipe_model.specs.declared.net.Net.{Net}
use Rattle.pipe_model.specs.WellFormed.{IsWellFormed}
use Rattle.spec_scanner.specs.declared.fault.Fault.{Fault}
use Rattle.spec_scanner.proofs.OneReadings.{reads_one, reads_unrefused}
use Rattle.spec_scanner.proofs.OneRefusals.{refusals_same as text_refusals_same}
use Rattle.net_graph.specs.Faults.{IsGraph, IsRefused}
use Rattle.net_graph.proofs.Goods.{whole_graph}
use Rattle.net_graph.proofs.Numberings.{numbered}
use Rattle.net_graph.proofs.OneNets.{nets_same, net_unrefused as graph_unrefused, refusals_same as graph_refusals_same}
use Rattle.call_meaning.specs.Meaning.{IsNetOf}
use Rattle.call_meaning.specs.Refusals.{HasLeastFault}

-- a text has one net
pub one_net : (spec : List ℕ) (a b : Net) → IsNetOf spec a → IsNetOf spec b → a ≡ b
one_net spec a b first second =
    let same = reads_one spec first.pipelines second.pipelines first.reads second.reads in
    nets_same second.pipelines a b (subst (λ z. IsGraph z a) same first.graph) second.graph

-- which is well formed
pub net_formed : (spec : List ℕ) (net : Net) → IsNetOf spec net → IsWellFormed net
net_formed spec net is = whole_graph is.pipelines net (numbered spec is.pipelines is.reads) is.graph

-- and then it isn't refused
pub net_unrefused : (spec : List ℕ) (net : Net) (fault : Fault) → IsNetOf spec net → HasLeastFault spec fault → ⊥
net_unrefused spec net fault is (inl refused) = reads_unrefused spec is.pipelines fault is.reads refused
net_unrefused spec net fault is (inr refused) =
    let same = reads_one spec is.pipelines refused.0 is.reads refused.1 in
    graph_unrefused refused.0 net fault (subst (λ z. IsGraph z net) same is.graph) refused.2

-- a text has one least fault
pub one_least : (spec : List ℕ) (a b : Fault) → HasLeastFault spec a → HasLeastFault spec b → a ≡ b
one_least spec a b (inl first) (inl second) = text_refusals_same spec a b first second
one_least spec a b (inl first) (inr second) = absurd (reads_unrefused spec second.0 a second.1 first)
one_least spec a b (inr first) (inl second) = absurd (reads_unrefused spec first.0 b first.1 second)
one_least spec a b (inr first) (inr second) =
    let same = reads_one spec first.0 second.0 first.1 second.1 in
    graph_refusals_same spec second.0 a b second.1 (subst (λ z. IsRefused z a) same first.2) second.2
