-- What is read of the stages of a pipeline, and of pipelines, after so many of them.
use Rattle.std.proofs.Common.{◌≡◌, ℕ, ◌+◌, ◌*◌, ◌-◌, ◌≤◌, true, false, if◌then◌else◌, List, [], ◌∷◌, ◌++◌, length, refl, ap, ◌∙◌, sym, subst, arith, append_assoc, length-drop, length-take}
use Rattle.std.proofs.lemmas.List.{append-nil}
use Rattle.std.specs.List.{prefix_len, suffix_len}
use Rattle.spec_scanner.specs.declared.fault.Fault.{Fault}
use Rattle.spec_scanner.specs.declared.findings.Findings.{Findings}
use Rattle.spec_scanner.specs.declared.item.Item.{Item}
use Rattle.spec_scanner.specs.declared.piece.Piece.{Piece}
use Rattle.spec_scanner.specs.Additions.{Adds, AddsFound, AddsRead, load}
use Rattle.spec_scanner.specs.Cuts.{IsCut, IsWhole}
use Rattle.spec_scanner.specs.Faults.{IsLeastSo}
use Rattle.spec_scanner.specs.Labels.{Label, Read, read_pipelines, read_stage, read_stages}
use Rattle.spec_scanner.specs.Stretches.{Stretch, cut, is_end, is_ignored, is_plain_blank, is_separator, trimmed, without_front}
use Rattle.spec_scanner.proofs.Adds.{nothing_added}

-- one addition and another
pub added_both : {X : Type 0} (old now new : Findings) (before between after first second : List X) (labels more : List Label) (faults others : List Fault)
    → Adds old now before between first labels faults → Adds now new between after second more others → Adds old new before after (first ++ second) more (faults ++ others)
added_both old now new before between after first second labels more faults others a b = record {
  labels_are = b.labels_are;
  all_are = b.all_are ∙ ap (λ xs. xs ++ second) a.all_are ∙ append_assoc before first second;
  least = λ earlier so. subst (IsLeastSo new.fault) (append_assoc earlier faults others) (b.least (earlier ++ faults) (a.least earlier so));
}

-- the trimmed text isn't longer
pub trimmed_length : (items : List Item) → length (trimmed items) ≤ length items
trimmed_length items =
    let front = without_front items in
    omega (arith, length-take (length front - suffix_len is_plain_blank front) front, length-drop (prefix_len is_plain_blank items) items)

-- the stages before the rest are read
pub record StagesSoFar (closed : ℕ) (old now : Findings) (before so_far : List Piece) (items rest : List Item) : Type 0 where
  pub few : 2 * load now.labels + length rest ≤ 2 * load old.labels + length items
  pub goes_on : (new : Findings) (after : List Piece) → AddsFound now new so_far after (read_stages now.labels (cut is_separator rest closed))
      → AddsFound old new before after (read_stages old.labels (cut is_separator items closed))

module _ (closed : ℕ) (old now next : Findings) (before so_far then_far : List Piece) (items rest : List Item) (read : StagesSoFar closed old now before so_far items rest) where
  pub one_stage_more : (front : List Item) (place : ℕ) (back : List Item) → IsCut is_separator rest front place back
      → AddsFound now next so_far then_far (read_stage now.labels place (trimmed front)) → 2 * load next.labels ≤ 2 * load now.labels + length (trimmed front)
      → StagesSoFar closed old next before then_far items back
  one_stage_more front place back parted added few = record {
    few = omega (arith, read.few, few, parted.shorter, trimmed_length front);
    goes_on = λ new after others. read.goes_on new after
        (subst (λ stretches. AddsFound now new so_far after (read_stages now.labels stretches)) (sym (parted.stretches closed))
        (added_both now next new so_far then_far after _ _ _ _ _ _ added
        (subst (λ labels. AddsFound next new then_far after (read_stages labels (cut is_separator back closed))) added.labels_are others)));
  }

  pub last_stage : IsWhole is_separator rest → AddsFound now next so_far then_far (read_stage now.labels closed (trimmed rest))
      → AddsFound old next before then_far (read_stages old.labels (cut is_separator items closed))
  last_stage whole added = read.goes_on next then_far
      (subst (λ stretches. AddsFound now next so_far then_far (read_stages now.labels stretches)) (sym (whole closed))
      (added_both now next next so_far then_far then_far _ _ _ _ _ _ added
      (subst (λ labels. Adds next next then_far then_far [] labels []) added.labels_are (nothing_added next then_far))))

-- a pipeline and the ones after it
abbrev pub pipelines_both : Read → Read → Read
pipelines_both one rest = record { pipelines = one.pipelines ++ rest.pipelines; labels = rest.labels; faults = one.faults ++ rest.faults }

pub pipelines_more : (labels : List Label) (pipeline : Stretch) (pipelines : List Stretch) → read_pipelines labels (pipeline ∷ pipelines)
    ≡ pipelines_both (read_pipelines labels (pipeline ∷ [])) (read_pipelines (read_pipelines labels (pipeline ∷ [])).labels pipelines)
pipelines_more labels pipeline pipelines =
    elim (is_ignored pipeline) as (λ b.
    let first = read_stages labels (cut is_separator pipeline.inside pipeline.closed) in
    let one : Read = if b then record { pipelines = []; labels = labels; faults = [] } else record { pipelines = first.pieces ∷ []; labels = first.labels; faults = first.faults ++ [] } in
    let rest : Read = read_pipelines first.labels pipelines in
    (if b then read_pipelines labels pipelines else record { pipelines = first.pieces ∷ rest.pipelines; labels = rest.labels; faults = first.faults ++ rest.faults })
    ≡ pipelines_both one (read_pipelines one.labels pipelines)) [
      | true ↦ refl
      | false ↦
          let first = read_stages labels (cut is_separator pipeline.inside pipeline.closed) in
          let rest : Read = read_pipelines first.labels pipelines in
          let read : List Fault → Read = λ faults. record { pipelines = first.pieces ∷ rest.pipelines; labels = rest.labels; faults = faults ++ rest.faults } in
          ap read (sym (append-nil first.faults))
    ]

-- the pipelines before the rest are read
pub record PipelinesSoFar (closed : ℕ) (old now : Findings) (before so_far : List (List Piece)) (items rest : List Item) : Type 0 where
  pub few : 2 * load now.labels + length rest ≤ 2 * load old.labels + length items
  pub goes_on : (new : Findings) (after : List (List Piece)) → AddsRead now new so_far after (read_pipelines now.labels (cut is_end rest closed))
      → AddsRead old new before after (read_pipelines old.labels (cut is_end items closed))

module _ (closed : ℕ) (old now next : Findings) (before so_far then_far : List (List Piece)) (items rest : List Item) (read : PipelinesSoFar closed old now before so_far items rest) where
  pub one_pipeline_more : (front : List Item) (place : ℕ) (back : List Item) → IsCut is_end rest front place back
      → AddsRead now next so_far then_far (read_pipelines now.labels (record { inside = front; closed = place } ∷ [])) → 2 * load next.labels ≤ 2 * load now.labels + length front
      → PipelinesSoFar closed old next before then_far items back
  one_pipeline_more front place back parted added few = record {
    few = omega (arith, read.few, few, parted.shorter);
    goes_on = λ new after others. read.goes_on new after
        (subst (λ stretches. AddsRead now new so_far after (read_pipelines now.labels stretches)) (sym (parted.stretches closed))
        (subst (AddsRead now new so_far after) (sym (pipelines_more now.labels (record { inside = front; closed = place }) (cut is_end back closed)))
        (added_both now next new so_far then_far after _ _ _ _ _ _ added
        (subst (λ labels. AddsRead next new then_far after (read_pipelines labels (cut is_end back closed))) added.labels_are others))));
  }

  pub last_pipeline : IsWhole is_end rest → AddsRead now next so_far then_far (read_pipelines now.labels (record { inside = rest; closed = closed } ∷ []))
      → AddsRead old next before then_far (read_pipelines old.labels (cut is_end items closed))
  last_pipeline whole added = read.goes_on next then_far
      (subst (λ stretches. AddsRead now next so_far then_far (read_pipelines now.labels stretches)) (sym (whole closed)) added)
