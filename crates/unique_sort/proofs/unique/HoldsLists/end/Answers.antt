use Rattle.std.proofs.Common.{◌∙◌, ap, refl, true, arith, Some}
use Rattle.unique_sort.specs.Runs.{output_in, written_in}
use Rattle.unique_sort.proofs.UniqueSteps.{ends_some, ends_none}
use Rattle.unique_sort.proofs.unique.HoldsLists.end.Goals as goal

pub returns-in_ok-self-clause-finishes : goal.returns-in_ok-self-clause-finishes
returns-in_ok-self-clause-finishes c =
    let x = c.args.self.now in
    let y = record x { last = c.replace-rec.new.dest; new = c.in_ok-self.field-0; due = Some c.output_in.result } in
    let k_is = c.count-k.ensures in
    ends_some x y refl refl refl (omega (arith, k_is, c.if-k-gt0.true)) (
      c.in_ok-self.ensures ∙ ap (λ k. written_in x.is_counting x.keep k true c.replace-rec.result) k_is ∙ ap (written_in x.is_counting x.keep x.run.count true) c.replace-rec.ensures.value,
      ap Some (c.output_in.ensures ∙ ap (λ k. output_in x.keep k true) k_is),
    )

pub returns-else-k-gt0-clause-finishes : goal.returns-else-k-gt0-clause-finishes
returns-else-k-gt0-clause-finishes c = ends_none c.args.self.now c.args.self.now refl refl refl (omega (arith, c.count-k.ensures, c.if-k-gt0.false)) refl refl
