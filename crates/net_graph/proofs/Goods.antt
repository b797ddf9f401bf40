-- Where there is no fault each stage has its kind.
use Rattle.std.proofs.Common.{◌≡◌, if◌then◌else◌, List, [], ◌∷◌, ◌++◌, ◌∙◌, length, length-append, map, slice_get, refl, ap, sym, subst, arith, append_assoc, Some, Ok, Err}
use Rattle.std.specs.declared.result.Result.{Result}
use Rattle.pipe_model.specs.declared.kind.Kind.{Kind}
use Rattle.stage_syntax.specs.declared.fault.KindFault.{KindFault}
use Rattle.stage_syntax.specs.declared.fault.KindFault.TheVariants.{Unknown, Argument, NoMemory}
use Rattle.spec_scanner.specs.declared.piece.PieceKind.{PieceKind}
use Rattle.spec_scanner.specs.declared.piece.PieceKind.TheVariants.{Stage, Reference, Connector}
use Rattle.pipe_model.specs.declared.net.Net.{Net}
use Rattle.pipe_model.specs.WellFormed.{IsWellFormed}
use Rattle.pipe_model.proofs.Lists.{get_seam}
use Rattle.spec_scanner.specs.declared.piece.Piece.{Piece}
use Rattle.net_graph.specs.Numbered.{AreScanned}
use Rattle.net_graph.proofs.Formed.{formed}
use Rattle.net_graph.specs.Faults.{IsGraph, faults_from, faults_of, faults_of_kind, kind_faults, stage_faults}
use Rattle.net_graph.specs.Kept.{kinds_in}
use Rattle.net_graph.specs.Nets.{AreOutcomes, IsOutcome, net_of}
use Rattle.net_graph.specs.Stands.{Stand, is_of_stage, is_stage, stages_of, stands_of}
use Rattle.net_graph.proofs.FormedLists.{nothing_joined}

abbrev pub known : Kind → Result Kind KindFault
known kind = Ok kind

has_kind : (s : Stand) (outcome : Result Kind KindFault) → IsOutcome s outcome → kind_faults s (Some outcome) ≡ [] → (kind : Kind) × (outcome ≡ Ok kind)
has_kind s (Ok kind) is none = (kind, refl)
has_kind s (Err Unknown) is none = cc
has_kind s (Err (Argument fault)) is none = cc
has_kind s (Err NoMemory) is none = absurd (is.0 refl)

module _ (stands : List Stand) (outcomes : List (Result Kind KindFault)) where
  kind_here : (front left : List (Result Kind KindFault)) (earlier : List Stand) (s : Stand) (outcome : Result Kind KindFault) → outcomes ≡ front ++ outcome ∷ left → length front ≡ length earlier →
      faults_of_kind stands outcomes earlier s Stage ≡ [] → IsOutcome s outcome → (kind : Kind) × (outcome ≡ Ok kind)
  kind_here front left earlier s outcome all size none is =
      let two = nothing_joined (stage_faults (length earlier) s) _ none in
      let here = nothing_joined (kind_faults s (slice_get outcomes (length earlier))) _ two.1 in
      let found : slice_get outcomes (length earlier) ≡ Some outcome = rw (← size, all) (get_seam front outcome left) in
      has_kind s outcome is (sym (ap (kind_faults s) found) ∙ here.0)

  one_on : (front : List (Result Kind KindFault)) (earlier rest : List Stand) (s : Stand) → length front ≡ length earlier →
      ((front left : List (Result Kind KindFault)) (earlier : List Stand) → outcomes ≡ front ++ left → length front ≡ length earlier → faults_from stands outcomes earlier rest ≡ [] →
      AreOutcomes (stages_of rest) left → map known (kinds_in left) ≡ left) →
      (kind : PieceKind) (left : List (Result Kind KindFault)) → outcomes ≡ front ++ left → faults_of_kind stands outcomes earlier s kind ≡ [] →
      faults_from stands outcomes (if is_of_stage kind then earlier ++ s ∷ [] else earlier) rest ≡ [] → AreOutcomes (if is_of_stage kind then s ∷ stages_of rest else stages_of rest) left →
      map known (kinds_in left) ≡ left
  one_on front earlier rest s size next Stage [] all first second are = absurd are
  one_on front earlier rest s size next Stage (outcome ∷ left) all first second are =
      let k = kind_here front left earlier s outcome all size first are.0 in
      let more = next (front ++ outcome ∷ []) left (earlier ++ s ∷ []) (all ∙ sym (append_assoc front (outcome ∷ []) left))
      (omega (arith, length-append front (outcome ∷ []), length-append earlier (s ∷ []), size)) second are.1 in
      subst (λ (o : Result Kind KindFault). map known (kinds_in (o ∷ left)) ≡ o ∷ left) (sym k.1) (ap (λ (xs : List (Result Kind KindFault)). known k.0 ∷ xs) more)
  one_on front earlier rest s size next Reference left all first second are = next front left earlier all size second are
  one_on front earlier rest s size next Connector left all first second are = next front left earlier all size second are

  all_known : (rest : List Stand) (front left : List (Result Kind KindFault)) (earlier : List Stand) → outcomes ≡ front ++ left → length front ≡ length earlier →
      faults_from stands outcomes earlier rest ≡ [] → AreOutcomes (stages_of rest) left → map known (kinds_in left) ≡ left
  all_known [] front [] earlier all size none are = refl
  all_known [] front (outcome ∷ left) earlier all size none are = absurd are
  all_known (s ∷ rest) front left earlier all size none are =
      let two = nothing_joined (faults_of_kind stands outcomes earlier s s.piece.kind) (faults_from stands outcomes (if is_stage s then earlier ++ s ∷ [] else earlier) rest) none in
      one_on front earlier rest s size (λ f l e a si n ar. all_known rest f l e a si n ar) s.piece.kind left all two.0 two.1 are

pub kinds_known : (pipelines : List (List Piece)) (outcomes : List (Result Kind KindFault)) (kinds : List Kind) → AreOutcomes (stages_of (stands_of pipelines)) outcomes →
    faults_of pipelines outcomes ≡ [] → kinds ≡ kinds_in outcomes → map (λ (kind : Kind). Ok kind) kinds ≡ outcomes
kinds_known pipelines outcomes kinds read good is =
    ap (map known) is ∙ all_known (stands_of pipelines) outcomes (stands_of pipelines) [] outcomes [] refl refl good read

pub graph_of : (pipelines : List (List Piece)) (kinds : List Kind) (net : Net) → AreOutcomes (stages_of (stands_of pipelines)) (map (λ (kind : Kind). Ok kind) kinds) →
    faults_of pipelines (map (λ (kind : Kind). Ok kind) kinds) ≡ [] → net ≡ net_of pipelines kinds → IsGraph pipelines net
graph_of pipelines kinds net read good is = record { kinds = kinds; read = read; good = good; net_is = is }

pub whole_graph : (pipelines : List (List Piece)) (net : Net) → AreScanned pipelines → IsGraph pipelines net → IsWellFormed net
whole_graph pipelines net scanned graph = subst IsWellFormed (sym graph.net_is) (formed pipelines graph.kinds scanned graph.read graph.good)
