use Rattle.std.proofs.Common.{◌≡◌, length}
use Rattle.stage_syntax.proofs.RowSteps.{IsReadTo}
use Rattle.stage_syntax.specs.ItemForms.{draft_of, progress_of}
use Rattle.stage_syntax.specs.StageForms.{arguments_by, row_in}
use Rattle.stage_syntax.proofs.rows.read_parts.Given as goal

abbrev pub invariant-loop-lefts : goal.invariant-loop-lefts
invariant-loop-lefts l = record {
  read : IsReadTo (row_in (arguments_by l.form l.first)) l.text l.values.items l.lefts.items l.rest;
  progress : l.progress ≡ progress_of (draft_of l.values.items);
}

abbrev pub decreases-loop-lefts : goal.decreases-loop-lefts
decreases-loop-lefts l = length l.rest
