-- The stages that a join leads between are there.
use Rattle.std.proofs.Common.{◌≡◌, ℕ, suc, ◌<◌, List, [], ◌∷◌, ◌∙◌, refl, sym, ap, arith, Option, Some, None, length, length-append}
use Rattle.std.specs.Prelude.{All}
use Rattle.std.specs.Option.{option_map}
use Rattle.std.proofs.lemmas.List.Elements.{All-cons, All-nil}
use Rattle.std.proofs.lemmas.Option.{slice_get_within}
use Rattle.pipe_model.specs.declared.net.Link.{Link}
use Rattle.spec_scanner.specs.declared.piece.Piece.{Piece}
use Rattle.spec_scanner.specs.declared.piece.PieceKind.{PieceKind}
use Rattle.spec_scanner.specs.declared.piece.PieceKind.TheVariants.{Stage, Reference, Connector}
use Rattle.net_graph.specs.Nets.{joins_of}
use Rattle.net_graph.specs.Partings.{IsWithin}
use Rattle.net_graph.specs.Stands.{Spot, Stand, is_label, stage_of, stages_of, stands_of}
use Rattle.net_graph.proofs.FormedLabels.{stage_is, stages_with}
use Rattle.net_graph.proofs.FormedLinks.{AreLeads, leads_of}
use Rattle.net_graph.proofs.FormedPositions.{position_finds}
use Rattle.net_graph.proofs.FormedSpots.{StandsFor, spot_at}

abbrev used : Piece → ℕ → Spot
used piece stage = record { stage = stage; stream = piece.uses }

-- the stand of a stream is of a stage that is there
pub spot_within : (whole : List Stand) (at : ℕ) (stand : Stand) (spot : Spot) → StandsFor whole at stand spot → spot.stage < length (stages_of whole)
spot_within whole at stand spot stands = by_kind stand.piece.kind refl
  where
    before : stand.piece.kind ≡ Stage → length (stages_of stands.done) < length (stages_of whole)
    before kind = omega (
      arith,
      ap length (ap stages_of stands.cut ∙ stages_with stands.done stands.rest stand (stage_is stand kind)),
      length-append (stages_of stands.done) (stand ∷ stages_of stands.rest),
    )

    by_label : (found : Option ℕ) → stage_of whole stand.piece.label ≡ found → option_map (used stand.piece) found ≡ Some spot → spot.stage < length (stages_of whole)
    by_label None found is = cc
    by_label (Some stage) found is =
        let same : used stand.piece stage ≡ spot = cc in
        let there = position_finds (λ (s : Stand). is_label stand.piece.label s.piece.label) (stages_of whole) stage found in
        omega (arith, ap (λ (s : Spot). s.stage) same, slice_get_within (stages_of whole) stage there.0 there.1)

    by_kind : (kind : PieceKind) → stand.piece.kind ≡ kind → spot.stage < length (stages_of whole)
    by_kind Stage kind =
        let found : Some (record { stage = length (stages_of stands.done); stream = 0 }) ≡ Some spot = sym (spot_at whole (length (stages_of stands.done)) stand.piece Stage kind) ∙ stands.spot_is in
        let same : record { stage = length (stages_of stands.done); stream = 0 } ≡ spot = cc in
        omega (arith, ap (λ (s : Spot). s.stage) same, before kind)
    by_kind Reference kind = by_label (stage_of whole stand.piece.label) refl (sym (spot_at whole (length (stages_of stands.done)) stand.piece Reference kind) ∙ stands.spot_is)
    by_kind Connector kind = let none : None ≡ Some spot = sym (spot_at whole (length (stages_of stands.done)) stand.piece Connector kind) ∙ stands.spot_is in cc

leads_within : (whole : List Stand) (from : ℕ) (joins : List Link) → AreLeads whole from joins → All (IsWithin (length (stages_of whole))) joins
leads_within whole from [] leads = All-nil (IsWithin (length (stages_of whole)))
leads_within whole from (join ∷ joins) leads =
    let lead = leads.0 in
    All-cons (IsWithin (length (stages_of whole))) join joins (
      spot_within whole lead.at lead.source (record { stage = join.from; stream = join.output }) lead.source_for,
      spot_within whole (suc lead.at) lead.target (record { stage = join.to; stream = join.input }) lead.target_for,
    ) (leads_within whole (suc lead.at) joins leads.1)

-- so it is for each join of pipelines
pub joins_within : (pipelines : List (List Piece)) → All (IsWithin (length (stages_of (stands_of pipelines)))) (joins_of pipelines)
joins_within pipelines = leads_within (stands_of pipelines) 0 (joins_of pipelines) (leads_of pipelines)
