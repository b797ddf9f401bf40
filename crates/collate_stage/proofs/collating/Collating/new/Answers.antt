use Rattle.std.proofs.Common.{length, sym, ap, subst}
use Rattle.pipe_model.specs.Form.{keeping_by}
use Rattle.pipe_model.specs.JoiningRows.{merging}
use Rattle.pipe_model.specs.Next.{nothing_known}
use Rattle.pipe_model.specs.Shape.{round_plan, row_of}
use Rattle.pipe_model.specs.Table.{line_of}
use Rattle.collate_stage.specs.Merging.{MergeIs}
use Rattle.collate_stage.proofs.collating.Collating.new.Goals as goal

pub returns-in_ok-new-in-Merge : goal.returns-in_ok-new-in-Merge
returns-in_ok-new-in-Merge c =
    let s = c.args.strand.now in
    let range = c.in-Merge.range in
    let plans = c.in_ok-new-in-Merge.field-0 in
    record {
      plan = round_plan (length s.ports.has_input) (merging range);
      row_is = ap (λ kind. row_of s (line_of kind).shape) c.in-Merge.is;
      keeps_nothing = ap (λ kind. keeping_by (line_of kind).shape) c.in-Merge.is;
      looks_are = sym (ap (λ kind. (line_of kind).looks) c.in-Merge.is);
      begins = subst (λ n. MergeIs plans (round_plan n (merging range)) nothing_known (round_plan n (merging range) nothing_known)) c.inputs_of-count.ensures c.in_ok-new-in-Merge.ensures;
    }
