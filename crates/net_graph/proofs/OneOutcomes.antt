-- The stages of a specification have one list of outcomes.
use Rattle.std.proofs.Common.{◌≡◌, List, [], ◌∷◌, map, refl, ap, Ok, Err}
use Rattle.std.specs.declared.result.Result.{Result}
use Rattle.pipe_model.specs.declared.kind.Kind.{Kind}
use Rattle.stage_syntax.proofs.OneKinds.{faults_same, kind_faultless, kind_known, kinds_same}
use Rattle.stage_syntax.specs.declared.fault.KindFault.{KindFault}
use Rattle.stage_syntax.specs.declared.fault.KindFault.TheVariants.{Unknown, Argument, NoMemory}
use Rattle.argument_parts.specs.declared.fault.ArgFault.{ArgFault}
use Rattle.net_graph.specs.Nets.{AreOutcomes, IsOutcome}
use Rattle.net_graph.specs.Stands.{Stand}

-- a name that is unknown has no fault of its arguments
unknown_alone : (stand : Stand) (fault : ArgFault) → IsOutcome stand (Err Unknown) → ¬ IsOutcome stand (Err (Argument fault))
unknown_alone stand fault is too = let unknown = is.1 in let named = too.1.named in cc

-- a stage has one outcome
pub one_outcome : (stand : Stand) (a b : Result Kind KindFault) → IsOutcome stand a → IsOutcome stand b → a ≡ b
one_outcome stand (Ok a) (Ok b) is too = ap (λ kind. Ok kind) (kinds_same stand.piece.name stand.piece.arg stand.first a b is too)
one_outcome stand (Ok a) (Err Unknown) is too = absurd (kind_known stand.piece.name stand.piece.arg stand.first a is too.1)
one_outcome stand (Ok a) (Err (Argument b)) is too = absurd (kind_faultless stand.piece.name stand.piece.arg stand.first a b is too.1)
one_outcome stand (Ok a) (Err NoMemory) is too = absurd (too.0 refl)
one_outcome stand (Err Unknown) (Ok b) is too = absurd (kind_known stand.piece.name stand.piece.arg stand.first b too is.1)
one_outcome stand (Err Unknown) (Err Unknown) is too = refl
one_outcome stand (Err Unknown) (Err (Argument b)) is too = absurd (unknown_alone stand b is too)
one_outcome stand (Err Unknown) (Err NoMemory) is too = absurd (too.0 refl)
one_outcome stand (Err (Argument a)) (Ok b) is too = absurd (kind_faultless stand.piece.name stand.piece.arg stand.first b a too is.1)
one_outcome stand (Err (Argument a)) (Err Unknown) is too = absurd (unknown_alone stand a too is)
one_outcome stand (Err (Argument a)) (Err (Argument b)) is too = ap (λ fault. Err (Argument fault)) (faults_same stand.piece.name stand.piece.arg stand.first a b is.1 too.1)
one_outcome stand (Err (Argument a)) (Err NoMemory) is too = absurd (too.0 refl)
one_outcome stand (Err NoMemory) b is too = absurd (is.0 refl)

-- stages have one list of outcomes
pub one_outcomes : (stands : List Stand) (a b : List (Result Kind KindFault)) → AreOutcomes stands a → AreOutcomes stands b → a ≡ b
one_outcomes [] [] [] is too = refl
one_outcomes [] [] (other ∷ b) is too = absurd too
one_outcomes [] (outcome ∷ a) b is too = absurd is
one_outcomes (stand ∷ stands) [] b is too = absurd is
one_outcomes (stand ∷ stands) (outcome ∷ a) [] is too = absurd too
one_outcomes (stand ∷ stands) (outcome ∷ a) (other ∷ b) is too =
    let here = one_outcome stand outcome other is.0 too.0 in
    let later = one_outcomes stands a b is.1 too.1 in
    cc

-- kinds are told by their outcomes
pub kinds_of_outcomes : (a b : List Kind) → map {B = Result Kind KindFault} (λ kind. Ok kind) a ≡ map (λ kind. Ok kind) b → a ≡ b
kinds_of_outcomes [] [] same = refl
kinds_of_outcomes [] (other ∷ b) same = absurd (cc)
kinds_of_outcomes (kind ∷ a) [] same = absurd (cc)
kinds_of_outcomes (kind ∷ a) (other ∷ b) same =
    let here : kind ≡ other = cc in
    let maps : map {B = Result Kind KindFault} (λ kind. Ok kind) a ≡ map (λ kind. Ok kind) b = cc in
    let later = kinds_of_outcomes a b maps in
    cc
