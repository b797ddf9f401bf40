-- A specification has one net and no refusal, or one refusal at most.
use Rattle.std.proofs.Common.{◌≡◌, ℕ, List, [], refl, sym, ap, ◌∙◌, subst, arith}
use Rattle.pipe_model.specs.declared.net.Net.{Net}
use Rattle.spec_scanner.specs.declared.fault.Fault.{Fault}
use Rattle.spec_scanner.specs.declared.piece.Piece.{Piece}
use Rattle.spec_scanner.specs.Faults.{IsLeast}
use Rattle.spec_scanner.specs.Reads.{Reads}
use Rattle.net_graph.specs.Faults.{IsGraph, IsRefused, faults_of}
use Rattle.net_graph.specs.Nets.{net_of}
use Rattle.net_graph.specs.Stands.{stages_of, stands_of}
use Rattle.net_graph.proofs.FaultRanks.{Ranked, all_ranked}
use Rattle.net_graph.proofs.FormedLabels.{pieces_are}
use Rattle.net_graph.proofs.OneFaults.{one_least}
use Rattle.net_graph.proofs.OneOutcomes.{kinds_of_outcomes, one_outcomes}
use Rattle.net_graph.proofs.PieceSpreads.{Spread, read_spread}

-- pipelines make one net
pub nets_same : (pipelines : List (List Piece)) (a b : Net) → IsGraph pipelines a → IsGraph pipelines b → a ≡ b
nets_same pipelines a b is too =
    let kinds = kinds_of_outcomes is.kinds too.kinds (one_outcomes (stages_of (stands_of pipelines)) _ _ is.read too.read) in
    is.net_is ∙ ap (net_of pipelines) kinds ∙ sym too.net_is

-- no fault is the least of none
none_least : (fault : Fault) → ¬ IsLeast fault []
none_least fault is = let below = is.among.1 in omega (arith, below)

-- pipelines that make a net aren't refused
pub net_unrefused : (pipelines : List (List Piece)) (net : Net) (fault : Fault) → IsGraph pipelines net → ¬ IsRefused pipelines fault
net_unrefused pipelines net fault is refused =
    let same = one_outcomes (stages_of (stands_of pipelines)) _ _ refused.read is.read in
    none_least fault (subst (IsLeast fault) (ap (faults_of pipelines) same ∙ is.good) refused.least_is)

-- the faults of arguments of pieces that were read stand one after another
refused_ranked : (text : List ℕ) (pipelines : List (List Piece)) → Reads text pipelines → (fault : Fault) → (refused : IsRefused pipelines fault)
    → (at : ℕ) × (end : ℕ) × Ranked at (faults_of pipelines refused.outcomes) end
refused_ranked text pipelines reads fault refused =
    let read = read_spread text pipelines reads in (
      read.start,
      read.end,
      all_ranked (stands_of pipelines) refused.outcomes read.start read.end [] (stands_of pipelines)
          (subst (λ (pieces : List Piece). Spread read.start pieces read.end) (sym (pieces_are pipelines)) read.spread)
          (record { passed = []; left = refused.outcomes; all = refl; size = refl; are = refused.read }),
    )

-- the pieces that a text reads as are refused in one way
pub refusals_same : (text : List ℕ) (pipelines : List (List Piece)) (a b : Fault) → Reads text pipelines → IsRefused pipelines a → IsRefused pipelines b → a ≡ b
refusals_same text pipelines a b reads is too =
    let ranked = refused_ranked text pipelines reads a is in
    let same = one_outcomes (stages_of (stands_of pipelines)) too.outcomes is.outcomes too.read is.read in
    one_least ranked.0 (faults_of pipelines is.outcomes) ranked.1 a b ranked.2 is.least_is (subst (IsLeast b) (ap (faults_of pipelines) same) too.least_is)
