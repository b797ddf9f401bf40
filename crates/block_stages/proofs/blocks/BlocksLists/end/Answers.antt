use Rattle.std.proofs.Common.{◌≡◌, ◌<◌, [], ◌∷◌, length, drop, refl, sym, ◌∙◌, ap, arith}
use Rattle.std.proofs.lemmas.List.{drop_all, length-drop}
use Rattle.pipe_model.specs.Counts.{all_on}
use Rattle.pipe_model.specs.Row.Act.{Writes}
use Rattle.pipe_model.specs.Shape.{writes}
use Rattle.block_stages.specs.Blocks.{text_by}
use Rattle.block_stages.specs.Cutting.{rest_by}
use Rattle.block_stages.proofs.Holding.{tells_end, tells_every, last_acts, no_rest, rest_filled, rest_at, rest_of_lengths}
use Rattle.block_stages.proofs.blocks.BlocksLists.end.Goals as goal

pub returns-then-as_slice-self-clause-finishes : goal.returns-then-as_slice-self-clause-finishes
returns-then-as_slice-self-clause-finishes c = λ t recs is.
    let x = c.args.self.now in
    let text = drop x.at x.text.items in
    let low = c.if-as_slice-self.true in
    let all_is = c.as_slice.ensures.value in
    let none : text ≡ [] = drop_all x.at x.text.items (omega (arith, low, ap length all_is)) in
    (is.0, is.1, refl, (tells_end x.cuts (text_by x.image recs) text [] is.3.0, last_acts x.image x.cuts t recs text is.0 is.3.0 ∙ ap (λ s. writes (all_on 0 (rest_by x.cuts s))) none ∙ ap (λ ps. writes (all_on 0 ps)) (no_rest x.cuts)))

pub returns-in_ok-fill_rest-in-Every-clause-finishes : goal.returns-in_ok-fill_rest-in-Every-clause-finishes
returns-in_ok-fill_rest-in-Every-clause-finishes c = λ t recs is.
    let x = c.args.self.now in
    let text = drop x.at x.text.items in
    let low = c.if-as_slice-self.false in
    let all_is = c.as_slice.ensures.value in
    let some : 0 < length text = omega (arith, low, ap length all_is, length-drop x.at x.text.items) in
    let size = c.in-Every.size in
    let fill = c.in-Every.fill in (
      is.0,
      is.1,
      refl,
      (
        tells_every x.cuts size fill (text_by x.image recs) (drop x.at c.fill_rest.new.text.items) c.in-Every.is,
        last_acts x.image x.cuts t recs text is.0 is.3.0
            ∙ ap (λ ps. writes (all_on 0 ps)) (rest_filled x.cuts size fill text c.in-Every.is some)
            ∙ ap (λ s. Writes 0 s ∷ []) (sym c.in_ok-fill_rest-in-Every.ensures),
      ),
    )

pub returns-in-At-clause-finishes : goal.returns-in-At-clause-finishes
returns-in-At-clause-finishes c = λ t recs is.
    let x = c.args.self.now in
    let text = drop x.at x.text.items in
    let low = c.if-as_slice-self.false in
    let all_is = c.as_slice.ensures.value in
    let some : 0 < length text = omega (arith, low, ap length all_is, length-drop x.at x.text.items) in (
      is.0,
      is.1,
      refl,
      (
        tells_end x.cuts (text_by x.image recs) text [] is.3.0,
        last_acts x.image x.cuts t recs text is.0 is.3.0 ∙ ap (λ ps. writes (all_on 0 ps)) (rest_at x.cuts c.in-At.field-0 text c.in-At.is some),
      ),
    )

pub returns-in-ByLengths-clause-finishes : goal.returns-in-ByLengths-clause-finishes
returns-in-ByLengths-clause-finishes c = λ t recs is.
    let x = c.args.self.now in
    let text = drop x.at x.text.items in (
      is.0,
      is.1,
      refl,
      (
        tells_end x.cuts (text_by x.image recs) text [] is.3.0,
        last_acts x.image x.cuts t recs text is.0 is.3.0 ∙ ap (λ ps. writes (all_on 0 ps)) (rest_of_lengths x.cuts text c.in-ByLengths.is),
      ),
    )
