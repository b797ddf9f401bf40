-- The places of the arguments of pieces rise through the text that they were read from.
use Rattle.std.proofs.Common.{ℕ, zero, suc, ◌+◌, ◌≤◌, Bool, true, false, if◌then◌else◌, List, [], ◌∷◌, ◌++◌, length, map, take, drop, get_or, arith, subst, sym, Option, Some, None}
use Rattle.std.specs.List.{last_or}
use Rattle.std.specs.Option.{option_map_or}
use Rattle.stage_syntax.specs.Arg.{ArgText}
use Rattle.spec_scanner.specs.declared.piece.Piece.{Piece}
use Rattle.spec_scanner.specs.declared.piece.PieceKind.{PieceKind}
use Rattle.spec_scanner.specs.declared.piece.PieceKind.TheVariants.{Connector, Stage}
use Rattle.spec_scanner.specs.Labels.{Label, bad_label, define, good_label, labelled, number_of, read_pipelines, read_stage, read_stages, read_text, refer, uses_of}
use Rattle.spec_scanner.specs.Pieces.{after_word, bytes_of, colon_of, end_of, first_word, from_word, is_connector, is_good_label, named_piece, place_of, reference_piece}
use Rattle.spec_scanner.specs.Reads.{Reads}
use Rattle.spec_scanner.specs.Stretches.{Stretch, cut, is_end, is_ignored, is_separator, trimmed, without_front}
use Rattle.spec_scanner.proofs.ItemRuns.{AreIn, BodyItem, Parted, cut_parted, in_drop, in_trimmed, run_follow, run_in, run_within}
use Rattle.spec_scanner.proofs.Rising.{follow}
use Rattle.net_graph.specs.Numbered.{pieces_of}

-- a place stands between two others
abbrev pub IsBetween : ℕ → ℕ → ℕ → Type 0
IsBetween low high place = (low ≤ place) × (place ≤ high)

-- the places of an argument's bytes and of its end stand between two places
abbrev pub IsPlaced : ℕ → ℕ → ArgText → Type 0
IsPlaced low high arg = (k : ℕ) → IsBetween low high (get_or arg.places k arg.end)

-- the arguments of pieces stand from a place on, each before the next, all below an end
abbrev pub Spread : ℕ → List Piece → ℕ → Type 0
Spread at [] end = at ≤ end
Spread at (piece ∷ pieces) end = (last : ℕ) × (at ≤ last) × IsPlaced at last piece.arg × Spread (suc last) pieces end

placed_lower : (lower at high : ℕ) (arg : ArgText) → lower ≤ at → IsPlaced at high arg → IsPlaced lower high arg
placed_lower lower at high arg below is = λ k. let here = is k in (omega (arith, here.0), here.1)

spread_lower : (lower at : ℕ) (pieces : List Piece) (end : ℕ) → lower ≤ at → Spread at pieces end → Spread lower pieces end
spread_lower lower at [] end below are = omega (arith, are)
spread_lower lower at (piece ∷ pieces) end below are = (are.0, omega (arith, are.1), placed_lower lower at are.0 piece.arg below are.2, are.3)

spread_joined : (at : ℕ) (pieces : List Piece) (middle : ℕ) (others : List Piece) (end : ℕ) → Spread at pieces middle → Spread middle others end → Spread at (pieces ++ others) end
spread_joined at [] middle others end are later = spread_lower at middle others end are later
spread_joined at (piece ∷ pieces) middle others end are later = (are.0, are.1, are.2, spread_joined (suc are.0) pieces middle others end are.3 later)

module _ (low high : ℕ) where
  place_between : (items : List BodyItem) (place : ℕ) → AreIn low high items → IsBetween low high place → IsBetween low high (place_of items place)
  place_between [] place are is = is
  place_between (item ∷ items) place are is = (are.0, omega (arith, are.1, are.2))

  last_between : (found : Option BodyItem) (items : List BodyItem) (place : ℕ) → AreIn low high items → IsBetween low high (option_map_or (λ (item : BodyItem). item.after) found place)
      → IsBetween low high (option_map_or (λ (item : BodyItem). item.after) (last_or found items) place)
  last_between found [] place are is = is
  last_between found (item ∷ items) place are is = last_between (Some item) items place are.3 (omega (arith, are.0, are.1), are.2)

  end_between : (items : List BodyItem) (place : ℕ) → AreIn low high items → IsBetween low high place → IsBetween low high (end_of items place)
  end_between items place are is = last_between None items place are is

  argument_placed : (items : List BodyItem) (end : ℕ) → AreIn low high items → IsBetween low high end → (k : ℕ) → IsBetween low high (get_or (map (λ (item : BodyItem). item.place) items) k end)
  argument_placed [] end are is k = is
  argument_placed (item ∷ items) end are is zero = (are.0, omega (arith, are.1, are.2))
  argument_placed (item ∷ items) end are is (suc k) = argument_placed items end are.3 is k

  one_spread : (piece : Piece) → IsPlaced low high piece.arg → low ≤ high → Spread low (piece ∷ []) (suc high)
  one_spread piece is within = (high, within, is, omega arith)

  named_spread : (kind : PieceKind) (label : Option ℕ) (place : ℕ) (items : List BodyItem) → AreIn low high items → IsBetween low high place
      → Spread low (named_piece kind label place items ∷ []) (suc high)
  named_spread kind label place items are is =
      one_spread (named_piece kind label place items)
      (argument_placed (after_word items) (end_of items place) (in_drop low high _ (from_word items) (in_drop low high _ items are)) (end_between items place are is))
      (omega (arith, is.0, is.1))

  reference_spread : (label : Option ℕ) (uses place end : ℕ) → IsBetween low high end → Spread low (reference_piece label uses place end ∷ []) (suc high)
  reference_spread label uses place end is = one_spread (reference_piece label uses place end) (λ k. is) (omega (arith, is.0, is.1))

  module _ (labels : List Label) (name : List ℕ) (place end : ℕ) (place_is : IsBetween low high place) (end_is : IsBetween low high end) where
    refer_spread : (number : Option ℕ) → Spread low (refer labels name place end number).pieces (suc high)
    refer_spread None = reference_spread None 0 place end end_is
    refer_spread (Some number) = reference_spread (Some number) (suc (uses_of labels number)) place end end_is

    define_spread : (items : List BodyItem) (number : Option ℕ) → AreIn low high items → Spread low (define labels name place items number).pieces (suc high)
    define_spread items (Some number) are = named_spread Stage None place items are place_is
    define_spread items None are = named_spread Stage (Some (length labels)) place items are place_is

    bad_spread : (items : List BodyItem) → AreIn low high items → Spread low (bad_label labels place end items).pieces (suc high)
    bad_spread [] are = reference_spread None 0 place end end_is
    bad_spread (item ∷ items) are = named_spread Stage None place (item ∷ items) are place_is

    good_spread : (items : List BodyItem) → AreIn low high items → Spread low (good_label labels name place end items).pieces (suc high)
    good_spread [] are = refer_spread (number_of labels name)
    good_spread (item ∷ items) are = define_spread (item ∷ items) (number_of labels name) are

    labelled_spread : (items : List BodyItem) → AreIn low high items → Spread low (labelled labels name place end items).pieces (suc high)
    labelled_spread items are = by (is_good_label name) where
      by : (good : Bool) → Spread low (if good then good_label labels name place end items else bad_label labels place end items).pieces (suc high)
      by true = good_spread items are
      by false = bad_spread items are

  text_spread : (labels : List Label) (item : BodyItem) (items : List BodyItem) (colon : Option ℕ) → AreIn low high (item ∷ items) → Spread low (read_text labels (item ∷ items) colon).pieces (suc high)
  text_spread labels item items None are = named_spread (if is_connector (first_word (item ∷ items)) then Connector else Stage) None item.place (item ∷ items) are (are.0, omega (arith, are.1, are.2))
  text_spread labels item items (Some colon) are =
      labelled_spread labels (bytes_of (take colon (item ∷ items))) item.place (end_of (item ∷ items) 0) (are.0, omega (arith, are.1, are.2))
      (last_between (Some item) items 0 are.3 (omega (arith, are.0, are.1), are.2))
      (without_front (drop (suc colon) (item ∷ items))) (in_drop low high _ (drop colon items) (in_drop low high colon items are.3))

  stage_spread : (labels : List Label) (closed : ℕ) (items : List BodyItem) → low ≤ high → AreIn low high items → Spread low (read_stage labels closed items).pieces (suc high)
  stage_spread labels closed [] within are = omega arith
  stage_spread labels closed (item ∷ items) within are = text_spread labels item items (colon_of (item ∷ items)) are

-- the pieces of a pipeline's stages are spread
stages_spread : (labels : List Label) (at : ℕ) (stretches : List Stretch) (end : ℕ) → Parted at stretches end → Spread at (read_stages labels stretches).pieces end
stages_spread labels at [] end parted = parted
stages_spread labels at (stretch ∷ stretches) end parted =
    let first = read_stage labels stretch.closed (trimmed stretch.inside) in
    spread_joined at first.pieces (suc parted.0) (read_stages first.labels stretches).pieces end
    (stage_spread at parted.0 labels stretch.closed (trimmed stretch.inside) (run_within at stretch.inside parted.0 parted.1)
    (in_trimmed at parted.0 stretch.inside (run_in at at stretch.inside parted.0 (omega arith) parted.1)))
    (stages_spread first.labels (suc parted.0) stretches end parted.2)

pipelines_spread : (labels : List Label) (at : ℕ) (stretches : List Stretch) (end : ℕ) → Parted at stretches end → Spread at (pieces_of (read_pipelines labels stretches).pipelines) end
pipelines_spread labels at [] end parted = parted
pipelines_spread labels at (pipeline ∷ pipelines) end parted =
    by (is_ignored pipeline) (λ labels. pipelines_spread labels (suc parted.0) pipelines end parted.2) where
      by : (ignored : Bool) → ((labels : List Label) → Spread (suc parted.0) (pieces_of (read_pipelines labels pipelines).pipelines) end)
          → Spread at (pieces_of (if ignored then read_pipelines labels pipelines else
          let first = read_stages labels (cut is_separator pipeline.inside pipeline.closed) in
          let rest = read_pipelines first.labels pipelines in
          record { pipelines = first.pieces ∷ rest.pipelines; labels = rest.labels; faults = first.faults ++ rest.faults }).pipelines) end
      by true later = spread_lower at (suc parted.0) _ end (let within = run_within at pipeline.inside parted.0 parted.1 in omega (arith, within)) (later labels)
      by false later =
          let first = read_stages labels (cut is_separator pipeline.inside pipeline.closed) in
          spread_joined at first.pieces (suc parted.0) (pieces_of (read_pipelines first.labels pipelines).pipelines) end
          (stages_spread labels at (cut is_separator pipeline.inside pipeline.closed) (suc parted.0) (cut_parted is_separator at pipeline.inside parted.0 pipeline.closed parted.1))
          (later first.labels)

-- the pieces that a text reads as are spread
pub record AreSpread (pieces : List Piece) : Type 0 where
  pub start : ℕ
  pub end : ℕ
  pub spread : Spread start pieces end

pub read_spread : (text : List ℕ) (pipelines : List (List Piece)) → Reads text pipelines → AreSpread (pieces_of pipelines)
read_spread text pipelines read =
    let start = read.has_body.outset.start in
    let whole = start + length (drop start text) in
    let run = run_follow start read.items whole (follow read.has_body.outset.signs start (drop start text) read.items read.tail read.has_body.body) in
    subst (λ (found : List (List Piece)). AreSpread (pieces_of found)) (sym read.pipelines_are) (record {
      start = start;
      end = suc whole;
      spread = pipelines_spread [] start (cut is_end read.items (length text)) (suc whole) (cut_parted is_end start read.items whole (length text) run);
    })
