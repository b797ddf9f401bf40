-- The kinds of Joining as they are typed, and OVERLAY.
use Rattle.std.proofs.Common.{◌≡◌, Bool, true, ◌&&◌, List, [], ◌∷◌, refl}
use Rattle.std.specs.Option.{IfSome}
use Rattle.pipe_model.specs.declared.kind.Kind.{Kind}
use Rattle.pipe_model.specs.declared.kind.Kind.TheVariants as Kinds
use Rattle.pipe_model.specs.declared.range.Range.{Range}
use Rattle.pipe_model.specs.Proper.{is_range}
use Rattle.pipe_model.specs.Straight.{all_columns}
use Rattle.stage_syntax.proofs.ReadValues.{AreOfRow, range_of_one}
use Rattle.stage_syntax.proofs.Typed.{IsOther, known}
use Rattle.stage_syntax.specs.Forms.{row, before_range, of_range, before_ranges, of_ranges}
use Rattle.stage_syntax.specs.Names.{before_overlay, of_overlay}
use Rattle.argument_parts.specs.declared.part.Value.{Value}
use Rattle.argument_parts.specs.declared.part.Value.TheVariants as Read

module _ (first : Bool) where
  pub merging : (values : List Value) → AreOfRow (row before_range (of_range Kinds.Merge)) [] values → IfSome (of_range Kinds.Merge values) (IsOther first)
  merging [] are = known first (Kinds.Merge all_columns) refl refl
  merging (Read.Range range ∷ []) are = known first (Kinds.Merge range) refl (range_of_one (before_range []) range are.0)
  merging _ are = tt

  -- a kind of two ranges
  pub pairing : (kind : Range → Range → Kind) → ((one other : Range) → (is_range one && is_range other) ≡ true → IsOther first (kind one other))
      → (values : List Value) → AreOfRow (row before_ranges (of_ranges kind)) [] values → IfSome (of_ranges kind values) (IsOther first)
  pairing kind each [] are = each all_columns all_columns refl
  pairing kind each (Read.Range one ∷ []) are =
      let proper = range_of_one (before_ranges []) one are.0 in
      each one one (rw proper refl)
  pairing kind each (Read.Range one ∷ (Read.Range other ∷ [])) are =
      each one other (rw (range_of_one (before_ranges []) one are.0, range_of_one (before_ranges (Read.Range one ∷ [])) other are.1.0) refl)
  pairing kind each _ are = tt

  pub overlaid : (values : List Value) → AreOfRow (row before_overlay of_overlay) [] values → IfSome (of_overlay values) (IsOther first)
  overlaid [] are = known first (Kinds.Overlay 32) refl refl
  overlaid (Read.Byte byte ∷ []) are = known first (Kinds.Overlay byte) refl refl
  overlaid _ are = tt
