use Rattle.std.proofs.Common.{◌≡◌, [], ◌∷◌, ◌++◌, append_assoc, sym, ◌∙◌, ap, subst}
use Rattle.std.specs.List.{All, AllZip}
use Rattle.std.proofs.lemmas.List.Elements.{All-push}
use Rattle.call_meaning.specs.Calls.{IsSetOf, IsSoundSet}
use Rattle.call_meaning.proofs.Zips.{zip_more}
use Rattle.call_meaning.proofs.nets.sets_of.Goals as goal

pub loop-spec-preserved : goal.loop-spec-preserved
loop-spec-preserved c =
    let before = c.loop-spec.invariant in
    let done = before.sets.0 in
    let spec = c.in-Some.spec.now in
    let set = c.in_ok-set_of.field-0 in
    let more : c.push.new.self.items ≡ c.loop-spec.sets.items ++ set ∷ [] = c.in_ok-push.ensures.items in
    record {
      sets = (
        done ++ spec ∷ [],
        append_assoc done (spec ∷ []) c.next.new.self ∙ ap (λ z. done ++ z) (sym c.in-Some.ensures.steps) ∙ before.sets.1,
        subst (λ z. AllZip IsSetOf (done ++ spec ∷ []) z) (sym more) (zip_more IsSetOf done c.loop-spec.sets.items spec set before.sets.2 c.in_ok-set_of.ensures.set),
      );
      whole = subst (λ z. All IsSoundSet z) (sym more) (All-push IsSoundSet c.loop-spec.sets.items set before.whole c.in_ok-set_of.ensures.whole);
    }
