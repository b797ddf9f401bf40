-- Where a stream of a stage comes in and goes out: at which of its strands, and at which place there.
use Rattle.std.proofs.Common.{◌≡◌, ℕ, ◌+◌, ◌<◌, refl, sym, ◌∙◌, ap, arith, List, Some, None, slice_get}
use Rattle.std.specs.Option.{option_map_or}
use Rattle.pipe_model.specs.declared.kind.Kind.{Kind}
use Rattle.pipe_model.specs.declared.kind.Kind.TheVariants.{Elastic, FileIn}
use Rattle.pipe_model.specs.Form.{Parting, inputs_by, parting_by}
use Rattle.pipe_model.specs.Form.Parting.{Whole, Queued, Streamed}
use Rattle.pipe_model.specs.Shape.{Shape}
use Rattle.pipe_model.specs.Shape.Shape.{Queues}
use Rattle.pipe_model.specs.Table.{line_of}
use Rattle.pipe_model.specs.WellFormed.{places_of, strands_of}
use Rattle.net_graph.specs.Nets.{StageSize, first_number, inputs_of, outputs_of, part_in, part_out, parting_at, parting_of, stream_place, width_of}
use Rattle.net_graph.proofs.Parted.{one_part}

-- By the parting

-- the part at which a stream of a stage comes in, or goes out, and the greatest number of such streams:
-- the part is there, with the place it tells the stream, and a stage of two strands has one stream
pub record IsSide (part : Parting → ℕ → ℕ) (greatest : Kind → ℕ) : Type 0 where
  pub below : (parting : Parting) (streams stream : ℕ) → stream < streams → part parting stream < strands_of parting streams
  pub alike : (parting : Parting) (a b : ℕ) → part parting a ≡ part parting b → stream_place parting a ≡ stream_place parting b → a ≡ b
  pub single : (kind : Kind) → parting_by (line_of kind).shape ≡ Queued → greatest kind ≡ 1

pub in_side : IsSide part_in inputs_of
in_side = record { below = below; alike = alike; single = λ kind is. single (line_of kind).shape is } where
  below : (parting : Parting) (streams stream : ℕ) → stream < streams → part_in parting stream < strands_of parting streams
  below Whole streams stream less = omega arith
  below Queued streams stream less = omega arith
  below Streamed streams stream less = less

  alike : (parting : Parting) (a b : ℕ) → part_in parting a ≡ part_in parting b → stream_place parting a ≡ stream_place parting b → a ≡ b
  alike Whole a b part place = place
  alike Queued a b part place = place
  alike Streamed a b part place = part

  single : (shape : Shape) → parting_by shape ≡ Queued → inputs_by shape ≡ 1
  single Queues is = refl
  single _ is = cc

pub out_side : IsSide part_out outputs_of
out_side = record { below = below; alike = alike; single = single } where
  below : (parting : Parting) (streams stream : ℕ) → stream < streams → part_out parting stream < strands_of parting streams
  below Whole streams stream less = omega arith
  below Queued streams stream less = omega arith
  below Streamed streams stream less = less

  alike : (parting : Parting) (a b : ℕ) → part_out parting a ≡ part_out parting b → stream_place parting a ≡ stream_place parting b → a ≡ b
  alike Whole a b part place = place
  alike Queued a b part place = place
  alike Streamed a b part place = part

  single : (kind : Kind) → parting_by (line_of kind).shape ≡ Queued → outputs_of kind ≡ 1
  single (FileIn name None) is = cc
  single (FileIn name (Some bytes)) is = cc
  single Elastic is = refl
  single _ is = cc

-- the place is there, where a stage of two strands has one stream at most
pub place_below : (parting : Parting) (greatest streams stream : ℕ) → stream < streams → stream < greatest → (parting ≡ Queued → greatest ≡ 1) → stream_place parting stream < places_of parting greatest streams
place_below Whole greatest streams stream less within single = omega (arith, less, within)
place_below Queued greatest streams stream less within single = omega (arith, within, single refl)
place_below Streamed greatest streams stream less within single = omega arith

-- By the numbers of strands

-- the stage has the stream, and its kind allows it
pub record HasStream (greatest : Kind → ℕ) (sizes : List StageSize) (stage stream : ℕ) : Type 0 where
  pub size : StageSize
  pub stage_there : slice_get sizes stage ≡ Some size
  pub stream_there : stream < size.streams
  pub within : stream < greatest size.kind

module _ (part : Parting → ℕ → ℕ) (greatest : Kind → ℕ) (side : IsSide part greatest) (sizes : List StageSize) where
  -- the stream of a stage is at this place of the strand of this number
  pub record IsEnd (stage stream number place : ℕ) : Type 0 where
    pub size : StageSize
    pub stage_there : slice_get sizes stage ≡ Some size
    pub below : part (parting_of size) stream < width_of size
    pub number_is : first_number sizes stage + part (parting_of size) stream ≡ number
    pub place_is : stream_place (parting_of size) stream ≡ place
    pub place_there : place < places_of (parting_of size) (greatest size.kind) size.streams

  -- it is there for each stream
  pub end_at : (stage stream number place : ℕ) → HasStream greatest sizes stage stream → number ≡ first_number sizes stage + part (parting_at sizes stage) stream
      → place ≡ stream_place (parting_at sizes stage) stream → IsEnd stage stream number place
  end_at stage stream number place has number_is place_is =
      let parting : parting_of has.size ≡ parting_at sizes stage = ap (λ o. option_map_or parting_of o Whole) (sym has.stage_there) in
      let place_found : stream_place (parting_of has.size) stream ≡ place = ap (λ p. stream_place p stream) parting ∙ sym place_is in
      record {
        size = has.size;
        stage_there = has.stage_there;
        below = side.below (parting_of has.size) has.size.streams stream has.stream_there;
        number_is = ap (λ p. first_number sizes stage + part p stream) parting ∙ sym number_is;
        place_is = place_found;
        place_there = omega (arith, place_found, place_below (parting_of has.size) (greatest has.size.kind) has.size.streams stream has.stream_there has.within (side.single has.size.kind));
      }

  module _ (stage stream number place : ℕ) (end : IsEnd stage stream number place) where
    -- a strand of this number is of this stage, and its part is that of the stream
    pub end_part : (other : ℕ) (size : StageSize) (k : ℕ) → slice_get sizes other ≡ Some size → k < width_of size → first_number sizes other + k ≡ number
        → (stage ≡ other) × (end.size ≡ size) × (part (parting_of size) stream ≡ k)
    end_part other size k there below is =
        let same = one_part sizes stage other end.size size (part (parting_of end.size) stream) k end.stage_there there end.below below (end.number_is ∙ sym is) in
        let sizes_same : Some end.size ≡ Some size = sym end.stage_there ∙ ap (slice_get sizes) same.0 ∙ there in
        let size_same : end.size ≡ size = cc in
        (same.0, size_same, ap (λ (x : StageSize). part (parting_of x) stream) (sym size_same) ∙ same.1)

    -- two streams at one place of one strand are one
    pub one_end : (other its : ℕ) → IsEnd other its number place → (stage ≡ other) × (stream ≡ its)
    one_end other its second =
        let same = end_part other second.size (part (parting_of second.size) its) second.stage_there second.below second.number_is in (
          same.0,
          side.alike (parting_of second.size) stream its same.2 (ap (λ (x : StageSize). stream_place (parting_of x) stream) (sym same.1) ∙ end.place_is ∙ sym second.place_is),
        )
