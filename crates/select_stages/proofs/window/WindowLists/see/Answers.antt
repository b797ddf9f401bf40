use Rattle.std.proofs.Common.{◌≡◌, true, length, refl}
use Rattle.std.proofs.lemmas.Result.{IfOk-weaker}
use Rattle.pipe_model.specs.Counts.{is_reached}
use Rattle.select_stages.specs.declared.window.Due.TheVariants.{AtHand, Gone}
use Rattle.select_stages.proofs.WindowSteps.{sees_popped, sees_empty}
use Rattle.select_stages.proofs.window.WindowLists.see.Goals as goal

pub returns-then-is_none-clause-sees : goal.returns-then-is_none-clause-sees
returns-then-is_none-clause-sees c =
    let x = c.args.self.now in
    let y = record x { records = c.shift.new.records; gone = c.shift.new.gone; due = AtHand } in
    let full : is_reached x.times (length x.records.items) ≡ true = cc in
    sees_empty x y c.args.bytes.now refl refl refl c.shift.new.gone c.shift.new.records.items full c.shift.ensures.items c.shift.ensures.rest
    c.if-is_none.ensures refl refl

pub returns-clause-sees : goal.returns-clause-sees
returns-clause-sees c =
    let x = c.args.self.now in
    let y = record x { records = c.add-2.new.records; gone = c.shift.new.gone; due = Gone } in
    let full : is_reached x.times (length x.records.items) ≡ true = cc in
    IfOk-weaker c.add-2.result _ _ (λ done added. sees_popped x y c.args.bytes.now refl refl refl c.shift.new.gone c.shift.new.records.items full c.shift.ensures.items
    c.if-is_none.ensures refl refl added) c.add-2.ensures
