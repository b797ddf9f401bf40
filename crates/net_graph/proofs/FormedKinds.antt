-- The kind of each stage.
use Rattle.std.proofs.Common.{◌≡◌, ℕ, zero, suc, List, [], ◌∷◌, refl, subst, Some, slice_get, map}
use Rattle.std.specs.Prelude.{Ok}
use Rattle.pipe_model.specs.declared.kind.Kind.{Kind}
use Rattle.stage_syntax.specs.Kinds.{IsKind}
use Rattle.net_graph.specs.Stands.{Stand}
use Rattle.net_graph.specs.Nets.{AreOutcomes}

-- the stage at a number is of the kind at that number
pub kind_here : (stages : List Stand) (kinds : List Kind) (k : ℕ) (stand : Stand) → AreOutcomes stages (map (λ (kind : Kind). Ok kind) kinds) → slice_get stages k ≡ Some stand
    → (kind : Kind) × (slice_get kinds k ≡ Some kind) × IsKind stand.piece.name stand.piece.arg stand.first kind
kind_here [] kinds k stand read here = cc
kind_here (s ∷ stages) [] k stand read here = absurd read
kind_here (s ∷ stages) (kind ∷ kinds) zero stand read here =
    let same : s ≡ stand = cc in
    (kind, refl, subst (λ (x : Stand). IsKind x.piece.name x.piece.arg x.first kind) same read.0)
kind_here (s ∷ stages) (kind ∷ kinds) (suc k) stand read here = kind_here stages kinds k stand read.1 here
