use Rattle.std.proofs.Common.{◌≡◌, List, [], ◌∷◌, ◌++◌, length, drop, sym, ap, ◌∙◌, subst, arith, rules}
use Rattle.std.proofs.lemmas.Result.{err_from_is_err_and}
use Rattle.pipe_model.proofs.Cuts.{tail_of}
use Rattle.stage_syntax.proofs.Consumed.{next_takes}
use Rattle.stage_syntax.proofs.Drafts.{progress_more}
use Rattle.stage_syntax.proofs.RowSteps.{lacks_at_end, made_at_end, one_more, stops_there, wrong_there}
use Rattle.stage_syntax.specs.ItemForms.{draft_of, progress_of}
use Rattle.argument_parts.specs.Parts.{IsNext, IsNoNext}
use Rattle.argument_parts.specs.Refusals.{Refuses}
use Rattle.stage_syntax.specs.StageForms.{arguments_by, row_in}
use Rattle.argument_parts.specs.declared.part.Part.{Part}
use Rattle.stage_syntax.proofs.rows.read_parts.Goals as goal

pub parts_after-requires : goal.parts_after-requires
parts_after-requires c = c.loop-lefts.invariant.progress ∙ ap (λ values. progress_of (draft_of values)) (sym c.deref.ensures.value)

pub returns-in_err-value-clause-refused : goal.returns-in_err-value-clause-refused
returns-in_err-value-clause-refused c =
    let row = row_in (arguments_by c.args.form c.args.first) in
    let parts : c.parts_after.result.now ≡ row.next c.loop-lefts.values.items = c.parts_after.ensures c.args.first ∙ ap row.next c.deref.ensures.value in
    let p = err_from_is_err_and c.from_residual.result c.from_residual.ensures.1 in
    let refused = subst (λ (parts : List Part). Refuses (IsNoNext parts c.loop-lefts.rest.now) c.in_err-value.field-0.0) parts c.in_err-value.ensures.refused in
    rw (p.1, p.2) (stops_there row c.args.text.now c.loop-lefts.values.items c.loop-lefts.lefts.items c.loop-lefts.rest.now c.loop-lefts.invariant.read c.in_err-value.field-0.0 refused)

pub returns-in-Some-wrong_of-clause-refused : goal.returns-in-Some-wrong_of-clause-refused
returns-in-Some-wrong_of-clause-refused c =
    let row = row_in (arguments_by c.args.form c.args.first) in
    let parts : c.parts_after.result.now ≡ row.next c.loop-lefts.values.items = c.parts_after.ensures c.args.first ∙ ap row.next c.deref.ensures.value in
    let value = c.in-Some.field-0.value in
    let left = c.in-Some.field-0.left in
    let len = c.in-Some.field-0.len in
    let rest = c.loop-lefts.rest.now in
    let read = subst (λ (parts : List Part). (next : IsNext parts rest value (drop len rest)) × (left ≡ length next.front)) parts (rw c.in-Some.is at c.in_ok-value.ensures.read) in
    let values : c.keep.new.values.items ≡ c.loop-lefts.values.items ++ value ∷ [] = search (rules, c.in_ok-keep.ensures.value) in
    let lefts : c.keep.new.lefts.items ≡ c.loop-lefts.lefts.items ++ left ∷ [] = search (rules, c.in_ok-keep.ensures.left) in
    let checked : c.wrong_of.result ≡ row.wrong (c.loop-lefts.values.items ++ value ∷ []) (c.loop-lefts.lefts.items ++ left ∷ []) =
    c.wrong_of.ensures c.args.first
    ∙ ap (λ values. row.wrong values c.deref-in-Some-2.result.now) (c.deref-in-Some.ensures.value ∙ values)
    ∙ ap (row.wrong (c.loop-lefts.values.items ++ value ∷ [])) (c.deref-in-Some-2.ensures.value ∙ lefts) in
    wrong_there row c.args.text.now c.loop-lefts.values.items c.loop-lefts.lefts.items rest c.loop-lefts.invariant.read value left len read c.in-Some-wrong_of.fault (sym c.in-Some-wrong_of.is ∙ checked)

pub loop-lefts-smaller : goal.loop-lefts-smaller
loop-lefts-smaller c =
    let read = rw c.in-Some.is at c.in_ok-value.ensures.read in
    let rest = c.loop-lefts.rest.now in
    let less = next_takes c.parts_after.result.now rest c.in-Some.field-0.value (drop c.in-Some.field-0.len rest) read.0 in
    let whole = ap length (tail_of rest c.in-Some.field-0.len) in
    omega (arith, less, whole)

pub loop-lefts-preserved : goal.loop-lefts-preserved
loop-lefts-preserved c =
    let row = row_in (arguments_by c.args.form c.args.first) in
    let parts : c.parts_after.result.now ≡ row.next c.loop-lefts.values.items = c.parts_after.ensures c.args.first ∙ ap row.next c.deref.ensures.value in
    let value = c.in-Some.field-0.value in
    let left = c.in-Some.field-0.left in
    let len = c.in-Some.field-0.len in
    let rest = c.loop-lefts.rest.now in
    let read = subst (λ (parts : List Part). (next : IsNext parts rest value (drop len rest)) × (left ≡ length next.front)) parts (rw c.in-Some.is at c.in_ok-value.ensures.read) in
    let values : c.keep.new.values.items ≡ c.loop-lefts.values.items ++ value ∷ [] = search (rules, c.in_ok-keep.ensures.value) in
    let lefts : c.keep.new.lefts.items ≡ c.loop-lefts.lefts.items ++ left ∷ [] = search (rules, c.in_ok-keep.ensures.left) in
    let checked : c.wrong_of.result ≡ row.wrong (c.loop-lefts.values.items ++ value ∷ []) (c.loop-lefts.lefts.items ++ left ∷ []) =
    c.wrong_of.ensures c.args.first
    ∙ ap (λ values. row.wrong values c.deref-in-Some-2.result.now) (c.deref-in-Some.ensures.value ∙ values)
    ∙ ap (row.wrong (c.loop-lefts.values.items ++ value ∷ [])) (c.deref-in-Some-2.ensures.value ∙ lefts) in
    record {
      read = rw (values, lefts) (one_more row c.args.text.now c.loop-lefts.values.items c.loop-lefts.lefts.items rest c.loop-lefts.invariant.read value left len read (sym c.in_default-wrong_of.is ∙ checked));
      progress = rw values (progress_more c.loop-lefts.values.items value c.loop-lefts.progress c.after-progress.result c.loop-lefts.invariant.progress c.after-progress.ensures);
    }

pub returns-in-Some-2-clause-read : goal.returns-in-Some-2-clause-read
returns-in-Some-2-clause-read c =
    let row = row_in (arguments_by c.args.form c.args.first) in
    made_at_end row c.args.text.now c.loop-lefts.values.items c.loop-lefts.lefts.items c.loop-lefts.rest.now c.loop-lefts.invariant.read c.in-Some-2.kind (rw c.in_default.is at c.in_ok-value.ensures.read)
    (sym c.in-Some-2.is ∙ c.in_ok-kind.ensures ∙ ap row.kind c.deref-2.ensures.value)

pub returns-clause-refused : goal.returns-clause-refused
returns-clause-refused c =
    let row = row_in (arguments_by c.args.form c.args.first) in
    rw c.missing.ensures
    (lacks_at_end row c.args.text.now c.loop-lefts.values.items c.loop-lefts.lefts.items c.loop-lefts.rest.now c.loop-lefts.invariant.read (rw c.in_default.is at c.in_ok-value.ensures.read)
    (sym c.in-None.is ∙ c.in_ok-kind.ensures ∙ ap row.kind c.deref-2.ensures.value))
