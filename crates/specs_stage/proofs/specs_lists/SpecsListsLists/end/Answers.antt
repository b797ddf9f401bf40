use Rattle.std.proofs.Common.{◌∙◌, refl, ap, sym, Some}
use Rattle.specs_stage.proofs.Giving.{finishes_without, finishes_with}
use Rattle.specs_stage.proofs.specs_lists.SpecsListsLists.end.Goals as goal

pub returns-in_ok-run_eof-clause-finishes : goal.returns-in_ok-run_eof-clause-finishes
returns-in_ok-run_eof-clause-finishes c = λ t recs is.
    let x = c.args.self.now in
    let y = record x { cycle = c.run_eof.new.self; due = c.run_eof.new.due; given = 0 } in
    finishes_with x y c.end.new.self c.end.new.due.items c.as_slice.result.now t recs is c.in_ok-end.ensures.items c.in_ok-run_eof.ensures.items (refl {a = x.eof}) (refl {a = x.has_read}) (refl {a = x.was_faulty}) (refl {a = 0})
    (c.in-Some.is ∙ ap Some (sym c.as_slice.ensures)) (c.in_ok-end.ensures.ended recs is.running.0 is.running.1) (c.in_ok-end.ensures.due recs is.running.0 is.running.1)
    c.in_ok-run_eof.ensures.faulty c.in_ok-run_eof.ensures.due

pub returns-in_default-clause-finishes : goal.returns-in_default-clause-finishes
returns-in_default-clause-finishes c = λ t recs is.
    let x = c.args.self.now in
    let y = record x { cycle = c.end.new.self; due = c.end.new.due; given = 0 } in
    finishes_without x y t recs is c.in_ok-end.ensures.items (refl {a = x.eof}) (refl {a = x.has_read}) (refl {a = x.was_faulty}) (refl {a = 0}) c.in_default.is
    (c.in_ok-end.ensures.ended recs is.running.0 is.running.1) (c.in_ok-end.ensures.due recs is.running.0 is.running.1)
