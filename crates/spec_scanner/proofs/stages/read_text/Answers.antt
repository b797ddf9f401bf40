use Rattle.std.proofs.Common.{◌∙◌, ◌∷◌, [], ◌+◌, IfOk, add-one, ap, drop, subst, sym}
use Rattle.spec_scanner.specs.Additions.{AddsFound}
use Rattle.spec_scanner.specs.Pieces.{colon_of}
use Rattle.spec_scanner.specs.Stretches.{without_front}
use Rattle.spec_scanner.proofs.Adds.{text_parts}
use Rattle.spec_scanner.proofs.Prefixes.{rest_of}
use Rattle.spec_scanner.proofs.stages.read_text.Goals as goal

pub returns : goal.returns
returns c =
    let items = c.args.items.now in
    let colon = c.in-Some.colon in
    let rest = c.without_front-rest.ensures ∙ ap without_front (rest_of items (colon + 1) ∙ ap (λ n. drop n items) (add-one colon)) in
    subst (λ read. IfOk c.labelled.result (λ piece. AddsFound c.args.findings.now c.labelled.new.findings [] (piece ∷ []) read))
    (text_parts c.args.findings.now.labels items colon (colon_of items) c.in_ok-name.name.items c.place_of.result c.end_of.result c.without_front-rest.result.now
    (sym c.in-Some.ensures.count) c.in_ok-name.ensures c.place_of.ensures c.end_of.ensures rest)
    c.labelled.ensures
