use Rattle.std.proofs.Common.{not, refl, sym, ◌∙◌, ap, subst, inl}
use Rattle.stage_steps.specs.Lists.{Sifts}
use Rattle.stage_steps.specs.Walk.{IsGivenBy}
use Rattle.stage_steps.proofs.Sifting.{drops, closed, passes_on, asks_on}
use Rattle.stage_steps.proofs.walk.sift.Goals as goal

pub returns-in-Drops-clause-sifts : goal.returns-in-Drops-clause-sifts
returns-in-Drops-clause-sifts g c =
    let x = c.args.lists.now in
    let y = c.sift_by.new.lists in
    let looks = g.L.Lists.is_looking x in
    let first = subst (IsGivenBy c.args.walk.now.order) c.in-Drops.is c.in_ok-sift_by.ensures.given in
    let sifts = subst (Sifts g.L.Lists.stands g.L.Lists.made looks x y c.args.bytes.now) c.in-Drops.is c.in_ok-sift_by.ensures.sifts in
    inl (drops g.L.Lists.stands g.L.Lists.made looks x c.args.walk.now c.requires.plain first c.args.bytes.now sifts.0 y sifts.1 sifts.3 sifts.2 c.take_on.new.walk c.args.asked.now c.take_on.ensures.walk c.take_on.result c.take_on.ensures.takes)

pub returns-then-not-is_open-clause-sifts : goal.returns-then-not-is_open-clause-sifts
returns-then-not-is_open-clause-sifts g c =
    let x = c.args.lists.now in
    let y = c.sift_by.new.lists in
    let looks = g.L.Lists.is_looking x in
    let first = subst (IsGivenBy c.args.walk.now.order) c.in-Passes.is c.in_ok-sift_by.ensures.given in
    let sifts = subst (Sifts g.L.Lists.stands g.L.Lists.made looks x y c.args.bytes.now) c.in-Passes.is c.in_ok-sift_by.ensures.sifts in
    inl (closed g.L.Lists.stands g.L.Lists.made looks x c.args.walk.now c.requires.plain first c.args.bytes.now sifts.0 y sifts.1 sifts.3 c.in-Passes.output sifts.2 (sym c.is_open.ensures ∙ c.if-not-is_open.true) c.take_on-then-not-is_open.new.walk c.args.asked.now c.take_on-then-not-is_open.ensures.walk c.take_on-then-not-is_open.result c.take_on-then-not-is_open.ensures.takes)

pub returns-then-is_none-clause-sifts : goal.returns-then-is_none-clause-sifts
returns-then-is_none-clause-sifts g c =
    let x = c.args.lists.now in
    let y = c.sift_by.new.lists in
    let looks = g.L.Lists.is_looking x in
    let first = subst (IsGivenBy c.args.walk.now.order) c.in-Passes.is c.in_ok-sift_by.ensures.given in
    let sifts = subst (Sifts g.L.Lists.stands g.L.Lists.made looks x y c.args.bytes.now) c.in-Passes.is c.in_ok-sift_by.ensures.sifts in
    inl (passes_on g.L.Lists.stands g.L.Lists.made looks x c.args.walk.now c.requires.plain first c.args.bytes.now sifts.0 y sifts.1 sifts.3 c.in-Passes.output sifts.2 (sym c.is_open.ensures ∙ c.if-not-is_open.false) (c.is_none.ensures ∙ ap not c.if-is_none.true) _ _ refl c.leave.ensures)

pub returns-else-is_none-clause-sifts : goal.returns-else-is_none-clause-sifts
returns-else-is_none-clause-sifts g c =
    let x = c.args.lists.now in
    let y = c.sift_by.new.lists in
    let looks = g.L.Lists.is_looking x in
    let first = subst (IsGivenBy c.args.walk.now.order) c.in-Passes.is c.in_ok-sift_by.ensures.given in
    let sifts = subst (Sifts g.L.Lists.stands g.L.Lists.made looks x y c.args.bytes.now) c.in-Passes.is c.in_ok-sift_by.ensures.sifts in
    inl (asks_on g.L.Lists.stands g.L.Lists.made looks x c.args.walk.now c.requires.plain first c.args.bytes.now sifts.0 y sifts.1 sifts.3 c.in-Passes.output sifts.2 (sym c.is_open.ensures ∙ c.if-not-is_open.false) _ _ refl c.leave.ensures)
