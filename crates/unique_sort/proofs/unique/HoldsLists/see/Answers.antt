use Rattle.std.proofs.Common.{◌∙◌, ap, refl, not, arith, Some}
use Rattle.unique_sort.specs.Runs.{output_in, written_in}
use Rattle.unique_sort.proofs.UniqueSteps.{IsNextRun, sees_next, sees_one}
use Rattle.unique_sort.proofs.unique.HoldsLists.see.Goals as goal

pub returns-in_ok-self-clause-sees : goal.returns-in_ok-self-clause-sees
returns-in_ok-self-clause-sees c =
    let x = c.args.self.now in
    let y = record x { run = c.add.new.self; last = c.replace-rec.new.dest; new = c.in_ok-self.field-0; due = Some c.output_in.result } in
    let belongs = c.in_ok-goes_on.goes_on in
    let next : IsNextRun x.run y.run c.args.bytes.now belongs = record { range = c.in_ok-goes_on.ensures.range; added = c.in_ok-goes_on.ensures.added } in
    let k_is = c.count-k.ensures in
    sees_next x y refl refl c.in_ok-goes_on.ensures.range c.args.bytes.now belongs next (c.replace-rec.ensures.after ∙ c.in_ok-next.ensures) (omega (arith, k_is, c.if-k-gt0.true)) (
      c.in_ok-self.ensures ∙ ap (λ k. written_in x.is_counting x.keep k (not belongs) c.replace-rec.result) k_is ∙ ap (written_in x.is_counting x.keep x.run.count (not belongs)) c.replace-rec.ensures.value,
      ap Some (c.output_in.ensures ∙ ap (λ k. output_in x.keep k (not belongs)) k_is),
    )

pub returns-else-k-gt0-clause-sees : goal.returns-else-k-gt0-clause-sees
returns-else-k-gt0-clause-sees c =
    let x = c.args.self.now in
    let y = record x { run = c.add.new.self; last = c.replace-rec.new.dest } in
    let next : IsNextRun x.run y.run c.args.bytes.now c.in_ok-goes_on.goes_on = record { range = c.in_ok-goes_on.ensures.range; added = c.in_ok-goes_on.ensures.added } in
    sees_one x y refl refl c.in_ok-goes_on.ensures.range c.args.bytes.now c.in_ok-goes_on.goes_on next (c.replace-rec.ensures.after ∙ c.in_ok-next.ensures) (omega (arith, c.count-k.ensures, c.if-k-gt0.false)) refl refl
