-- A range that is all of a record.
use Rattle.std.proofs.Common.{◌≡◌, ◌≤◌, ◌-◌, ℕ, List, drop, ◌∙◌, ap, arith}
use Rattle.pipe_model.specs.declared.range.Range.{Range}
use Rattle.pipe_model.specs.declared.range.Span.{Span}
use Rattle.pipe_model.specs.declared.range.Span.TheVariants.{Columns}
use Rattle.pipe_model.specs.Ranges.{cut_by, part_of}
use Rattle.select_stages.specs.Located.{IsWhole}

none_before : (first : ℕ) → first ≤ 1 → first - 1 ≡ 0
none_before first small = omega (arith, small)

-- cuts nothing away
pub whole_part : (range : Range) → IsWhole range → (rec : List ℕ) → part_of range rec ≡ rec
whole_part range whole rec =
    ap (λ (span : Span). cut_by span range.first range.last rec) whole.0
    ∙ ap (λ last. cut_by Columns range.first last rec) whole.2
    ∙ ap (λ n. drop n rec) (none_before range.first whole.1)
