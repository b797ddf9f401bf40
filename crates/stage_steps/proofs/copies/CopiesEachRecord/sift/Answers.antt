use Rattle.std.proofs.Common.{◌≡◌, ◌<◌, ◌+◌, [], ◌∷◌, ◌++◌, length, Some, refl, ap, arith}
use Rattle.std.proofs.lemmas.List.{length-append}
use Rattle.pipe_model.specs.Shape.{Outs, acts_of}
use Rattle.stage_steps.specs.declared.copies.Copies.{Copies}
use Rattle.stage_steps.proofs.copies.CopiesEachRecord.sift.Goals as goal

pub returns-clause-sifts : goal.returns-clause-sifts
returns-clause-sifts c =
    let between : Copies = record c.args.self.now { waiting = Some 0 } in (
      between,
      λ outs recs rec is room came.
          let n : length (recs ++ rec ∷ []) ≡ length recs + 1 = length-append recs (rec ∷ []) in
          let some : 0 < length (recs ++ rec ∷ []) = omega (arith, n) in
          (is.0, ap (λ (o : Outs). acts_of o (recs ++ rec ∷ [])) is.0, some),
      (tt, λ over outs recs acts is. ([], is.1, (is.0, refl, tt), is.2)),
      λ outs recs acts is. is.1,
    )
