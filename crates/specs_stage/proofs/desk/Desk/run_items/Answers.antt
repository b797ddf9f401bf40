use Rattle.std.proofs.Common.{◌≡◌, ◌∙◌, ℕ, List, sym, ap, subst, arith}
use Rattle.std.specs.Prelude.{if◌then◌else◌}
use Rattle.std.specs.declared.option.Option.TheVariants.{Some, None}
use Rattle.pipe_model.specs.Shape.{Records}
use Rattle.pipe_model.specs.SpecsRows.{effect}
use Rattle.specs_stage.specs.Desks.{desk_of}
use Rattle.specs_stage.proofs.Running.{not_read, item_done, item_fails, one_less}
use Rattle.specs_stage.proofs.desk.Desk.run_items.Goals as goal

pub returns-then-not-branch : goal.returns-then-not-branch
returns-then-not-branch c =
    let hand = c.args.hand.now in
    let item = c.item-item.result in
    let other = not_read item c.in_default.not-Read in
    let done = subst (λ (hand : List ℕ). (coming : Records) → effect item (desk_of c.loop-item.self hand coming) ≡ (if c.in_ok-effect.field-0 then Some (desk_of c.effect.new.self hand coming) else None)) c.loop-item.invariant.stays
    (c.in_ok-effect.ensures.effect other) in record {
      stays = c.effect.ensures.stays ∙ c.loop-item.invariant.stays;
      ran = λ coming. sym (c.loop-item.invariant.ran coming)
          ∙ item_fails c.args.items.now c.loop-item.item-index item (desk_of c.loop-item.self hand coming) c.loop-item-test.true c.item-item.is other
          (done coming ∙ ap (λ good. if good then Some (desk_of c.effect.new.self hand coming) else None) c.if-not-branch.true);
      count = tt;
    }

pub overflow_add-count : goal.overflow_add-count
overflow_add-count c =
    omega (arith, c.loop-item.invariant.few)

pub loop-item-preserved : goal.loop-item-preserved
loop-item-preserved c =
    let hand = c.args.hand.now in
    let item = c.item-item.result in
    let other = not_read item c.in_default.not-Read in
    let done = subst (λ (hand : List ℕ). (coming : Records) → effect item (desk_of c.loop-item.self hand coming) ≡ (if c.in_ok-effect.field-0 then Some (desk_of c.effect.new.self hand coming) else None)) c.loop-item.invariant.stays
    (c.in_ok-effect.ensures.effect other) in
    let less = one_less c.args.items.now c.loop-item.item-index item c.loop-item-test.true c.item-item.is other in record {
      stays = c.effect.ensures.stays ∙ c.loop-item.invariant.stays;
      ran = λ coming. item_done c.args.items.now c.loop-item.item-index item (desk_of c.loop-item.self hand coming) (desk_of c.effect.new.self hand coming) c.loop-item-test.true c.item-item.is other
          (done coming ∙ ap (λ good. if good then Some (desk_of c.effect.new.self hand coming) else None) c.if-not-branch.false)
          ∙ c.loop-item.invariant.ran coming;
      few = omega (arith, c.loop-item.invariant.few);
      count = omega (arith, less, c.loop-item.invariant.count);
    }
