-- The streams that stands are for: no two stand for one stream.
use Rattle.std.proofs.Common.{◌≡◌, ◌⊎◌, inl, inr, ℕ, suc, ◌<◌, true, List, ◌∷◌, ◌++◌, refl, sym, ◌∙◌, ap, subst, arith, Option, Some, None, length, length-append}
use Rattle.std.specs.List.{count_by, position}
use Rattle.std.specs.Option.{option_map}
use Rattle.std.proofs.lemmas.List.Elements.{filter-append}
use Rattle.std.proofs.lemmas.Bool.{eqb-true}
use Rattle.spec_scanner.specs.declared.piece.Piece.{Piece}
use Rattle.spec_scanner.specs.declared.piece.PieceKind.{PieceKind}
use Rattle.spec_scanner.specs.declared.piece.PieceKind.TheVariants.{Stage, Reference, Connector}
use Rattle.net_graph.specs.Stands.{Spot, Stand, is_label, is_stage, refers_to, spot_of, stage_of, stages_of, stands_of}
use Rattle.net_graph.specs.Numbered.{AreScanned, IsNumbered}
use Rattle.net_graph.proofs.FormedLists.{further_right}
use Rattle.net_graph.proofs.FormedPositions.{position_finds, position_stays}
use Rattle.net_graph.proofs.FormedLabels.{Told, counted_with, numbered_at, reference_is, stage_is, stages_with}

-- the stand at a place is for this stream
pub record StandsFor (whole : List Stand) (at : ℕ) (stand : Stand) (spot : Spot) : Type 0 where
  pub done : List Stand
  pub rest : List Stand
  pub cut : whole ≡ done ++ stand ∷ rest
  pub at_is : length done ≡ at
  pub spot_is : spot_of whole (length (stages_of done)) stand.piece ≡ Some spot

-- it defines the stage
pub record Defines (done : List Stand) (stand : Stand) (spot : Spot) : Type 0 where
  pub kind : stand.piece.kind ≡ Stage
  pub stage : spot.stage ≡ length (stages_of done)
  pub stream : spot.stream ≡ 0

-- it is a later use of the stage
pub record Refers (whole done : List Stand) (stand : Stand) (spot : Spot) : Type 0 where
  pub kind : stand.piece.kind ≡ Reference
  pub label : ℕ
  pub label_is : stand.piece.label ≡ Some label
  pub stage : stage_of whole (Some label) ≡ Some spot.stage
  pub uses : spot.stream ≡ stand.piece.uses
  pub stream : spot.stream ≡ suc (count_by (refers_to (Some label)) done)

pub spot_at : (stands : List Stand) (before : ℕ) (piece : Piece) (kind : PieceKind) → piece.kind ≡ kind → spot_of stands before piece ≡ spot_of stands before (record piece { kind = kind })
spot_at stands before piece kind is = ap (λ kind. spot_of stands before (record piece { kind = kind })) is

module _ (pipelines : List (List Piece)) (scanned : AreScanned pipelines) where
  abbrev whole : List Stand
  whole = stands_of pipelines

  -- a stage found so far is the one that is found in the whole
  pub found_whole : (done rest : List Stand) (l k : ℕ) → whole ≡ done ++ rest → stage_of done (Some l) ≡ Some k → stage_of whole (Some l) ≡ Some k
  found_whole done rest l k cut found =
      ap (λ stands. stage_of stands (Some l)) cut
      ∙ ap (position (λ (s : Stand). is_label (Some l) s.piece.label)) (filter-append is_stage done rest)
      ∙ position_stays (λ (s : Stand). is_label (Some l) s.piece.label) (stages_of done) (stages_of rest) k found

  module _ (at : ℕ) (stand : Stand) (spot : Spot) (stands : StandsFor whole at stand spot) where
    -- a stand is for a stream as a stage or as a later use
    pub told_of : Defines stands.done stand spot ⊎ Refers whole stands.done stand spot
    told_of =
        let r = numbered_at pipelines stands.done stands.rest stand scanned stands.cut in
        go stand.piece.kind refl r.0 r.1 r.2
      where
        go : (kind : PieceKind) → stand.piece.kind ≡ kind → (uses : List ℕ) → Told stands.done uses → IsNumbered uses stand.piece kind → Defines stands.done stand spot ⊎ Refers whole stands.done stand spot
        go Stage kind uses told numbered =
            let same : Some (record { stage = length (stages_of stands.done); stream = 0 }) ≡ Some spot = sym (spot_at whole (length (stages_of stands.done)) stand.piece Stage kind) ∙ stands.spot_is in
            let spot_is : record { stage = length (stages_of stands.done); stream = 0 } ≡ spot = cc in
            inl (record { kind = kind; stage = ap (λ (s : Spot). s.stage) (sym spot_is); stream = ap (λ (s : Spot). s.stream) (sym spot_is) })
        go Reference kind uses told numbered =
            let defined = told.defined numbered.label numbered.count numbered.defined in
            let found = found_whole stands.done (stand ∷ stands.rest) numbered.label defined.0 stands.cut defined.1 in
            let here : stage_of whole stand.piece.label ≡ Some defined.0 = ap (stage_of whole) numbered.label_is ∙ found in
            let same : Some (record { stage = defined.0; stream = stand.piece.uses }) ≡ Some spot =
            ap (option_map (λ stage. record { stage = stage; stream = stand.piece.uses })) (sym here)
            ∙ sym (spot_at whole (length (stages_of stands.done)) stand.piece Reference kind) ∙ stands.spot_is in
            let spot_is : record { stage = defined.0; stream = stand.piece.uses } ≡ spot = cc in
            let stream : spot.stream ≡ stand.piece.uses = ap (λ (s : Spot). s.stream) (sym spot_is) in
            inr (record {
              kind = kind;
              label = numbered.label;
              label_is = numbered.label_is;
              stage = found ∙ ap (λ (s : Spot). Some s.stage) spot_is;
              uses = stream;
              stream = stream ∙ numbered.uses_is ∙ ap suc (sym (told.counted numbered.label numbered.count numbered.defined));
            })
        go Connector kind uses told numbered =
            let none : None ≡ Some spot = sym (spot_at whole (length (stages_of stands.done)) stand.piece Connector kind) ∙ stands.spot_is in
            cc

  -- a stage has one label
  one_label : (l m k : ℕ) → stage_of whole (Some l) ≡ Some k → stage_of whole (Some m) ≡ Some k → l ≡ m
  one_label l m k first second =
      let a = position_finds (λ (s : Stand). is_label (Some l) s.piece.label) (stages_of whole) k first in
      let b = position_finds (λ (s : Stand). is_label (Some m) s.piece.label) (stages_of whole) k second in
      let same : a.0 ≡ b.0 = cc in
      one a.0.piece.label a.2 (subst (λ (s : Stand). is_label (Some m) s.piece.label ≡ true) (sym same) b.2)
    where
      one : (label : Option ℕ) → is_label (Some l) label ≡ true → is_label (Some m) label ≡ true → l ≡ m
      one None p q = cc
      one (Some n) p q = eqb-true l n p ∙ sym (eqb-true m n q)

  -- two stands of which one is further right are for different streams
  apart : (at later : ℕ) (p q : Stand) (a b : Spot) → StandsFor whole at p a → StandsFor whole later q b → at < later → a.stage ≡ b.stage → a.stream ≡ b.stream → ⊥
  apart at later p q a b first second further stage stream =
      go (further_right first.done first.rest second.done second.rest p q (sym first.cut ∙ second.cut) (omega (arith, first.at_is, second.at_is, further)))
      (told_of at p a first) (told_of later q b second)
    where
      go : ((between : List Stand) × (second.done ≡ first.done ++ p ∷ between)) → Defines first.done p a ⊎ Refers whole first.done p a → Defines second.done q b ⊎ Refers whole second.done q b → ⊥
      go between (inl here) (inl there) =
          omega (arith, here.stage, there.stage, stage, ap (λ stands. length (stages_of stands)) between.1 ∙ ap length (stages_with first.done between.0 p (stage_is p here.kind)), length-append (stages_of first.done) (p ∷ stages_of between.0))
      go between (inl here) (inr there) = omega (arith, here.stream, there.stream, stream)
      go between (inr here) (inl there) = omega (arith, here.stream, there.stream, stream)
      go between (inr here) (inr there) =
          let same = one_label here.label there.label b.stage (here.stage ∙ ap Some stage) there.stage in
          let second_count : b.stream ≡ suc (count_by (refers_to (Some here.label)) second.done) = there.stream ∙ ap (λ l. suc (count_by (refers_to (Some l)) second.done)) (sym same) in
          omega (arith, here.stream, second_count, stream, ap (count_by (refers_to (Some here.label))) between.1, counted_with (refers_to (Some here.label)) first.done between.0 p (reference_is p here.label here.kind here.label_is))

  -- so a stream has one stand
  pub one_stand : (at later : ℕ) (p q : Stand) (a b : Spot) → StandsFor whole at p a → StandsFor whole later q b → a.stage ≡ b.stage → a.stream ≡ b.stream → at ≡ later
  one_stand at later p q a b first second stage stream = go (order at later)
    where
      order : (m n : ℕ) → (m ≡ n) ⊎ ((m < n) ⊎ (n < m))
      order m n = grind arith

      go : (at ≡ later) ⊎ ((at < later) ⊎ (later < at)) → at ≡ later
      go (inl same) = same
      go (inr (inl further)) = absurd (apart at later p q a b first second further stage stream)
      go (inr (inr before)) = absurd (apart later at q p b a second first before (sym stage) (sym stream))
