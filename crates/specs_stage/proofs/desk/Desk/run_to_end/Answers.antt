use Rattle.std.proofs.Common.{◌≡◌, ◌∙◌, ℕ, List, sym, ap, subst, []}
use Rattle.std.specs.Prelude.{if◌then◌else◌}
use Rattle.std.specs.declared.option.Option.TheVariants.{Some, None}
use Rattle.pipe_model.specs.SpecsRows.{effect}
use Rattle.specs_stage.specs.Desks.{desk_of}
use Rattle.specs_stage.proofs.Running.{not_read, fails_here}
use Rattle.specs_stage.proofs.desk.Desk.run_to_end.Goals as goal

pub returns-then-not-branch : goal.returns-then-not-branch
returns-then-not-branch c =
    let item = c.item-item.result in
    let done = subst (λ (hand : List ℕ). effect item (desk_of c.loop-item.self hand []) ≡ (if c.in_ok-effect.field-0 then Some (desk_of c.effect.new.self hand []) else None)) c.loop-item.invariant.stays
    (c.in_ok-effect.ensures.effect (not_read item c.in_default.not-Read) []) in
    sym c.loop-item.invariant.ran ∙ fails_here c.args.items.now c.loop-item.item-index item (desk_of c.loop-item.self [] []) c.loop-item-test.true c.item-item.is
    (done ∙ ap (λ good. if good then Some (desk_of c.effect.new.self [] []) else None) c.if-not-branch.true)
