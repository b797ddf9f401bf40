use Rattle.std.proofs.Common.{◌∙◌, [], ◌++◌, refl, sym, ap, subst, arith}
use Rattle.std.specs.Prelude.{Bool, true, false, is_none, if◌then◌else◌}
use Rattle.std.specs.declared.option.Option.TheVariants.{Some, None}
use Rattle.std.proofs.lemmas.List.{append-nil, map-append}
use Rattle.pipe_model.specs.Counts.{all_on}
use Rattle.pipe_model.specs.SpecsRows.{written_by}
use Rattle.specs_stage.specs.Desks.{desk_of}
use Rattle.specs_stage.specs.Cycles.{IsEnded}
use Rattle.specs_stage.proofs.CycleSteps.{eof_faulty, eof_ran}
use Rattle.specs_stage.proofs.cycle.Cycle.run_eof.Goals as goal

pub returns-then-self-clause-faulty : goal.returns-then-self-clause-faulty
returns-then-self-clause-faulty c = λ items recs few is. let x = c.args.self.now in
    c.if-self.true ∙ ap is_none (sym (eof_faulty items c.args.eof.now recs x.desk (subst (λ (b : Bool). IsEnded items x.desk b recs) c.if-self.true is)))

pub returns-then-self-clause-due : goal.returns-then-self-clause-due
returns-then-self-clause-due c = λ items recs few is. let x = c.args.self.now in
    sym (ap (λ o. all_on 0 c.args.due.now.items ++ all_on 0 (written_by o)) (eof_faulty items c.args.eof.now recs x.desk (subst (λ (b : Bool). IsEnded items x.desk b recs) c.if-self.true is))
    ∙ append-nil (all_on 0 c.args.due.now.items))

pub returns-in_ok-give_behind-clause-faulty : goal.returns-in_ok-give_behind-clause-faulty
returns-in_ok-give_behind-clause-faulty c = λ items recs few is. let x = c.args.self.now in
    let ended = subst (λ (b : Bool). IsEnded items x.desk b recs) c.if-self.false is in
    c.if-self.false
    ∙ ap is_none (sym (eof_ran items c.args.eof.now recs x.desk c.begin.new.self c.run_to_end.new.self c.close.new.self false ended
    (λ hand coming. c.begin.ensures (omega (arith, ended.number refl, few)) hand coming [])
    (c.in_ok-run_to_end.ensures ∙ ap (λ good. if good then Some (desk_of c.run_to_end.new.self [] []) else None) c.if-branch.true)
    (λ _. c.in_ok-close.ensures [] [])))

pub returns-in_ok-give_behind-clause-due : goal.returns-in_ok-give_behind-clause-due
returns-in_ok-give_behind-clause-due c = λ items recs few is. let x = c.args.self.now in
    let ended = subst (λ (b : Bool). IsEnded items x.desk b recs) c.if-self.false is in
    ap (all_on 0) c.in_ok-give_behind.ensures
    ∙ map-append (λ rec. (0, rec)) c.args.due.now.items c.close.new.self.written.items
    ∙ ap (λ o. all_on 0 c.args.due.now.items ++ all_on 0 (written_by o))
    (sym (eof_ran items c.args.eof.now recs x.desk c.begin.new.self c.run_to_end.new.self c.close.new.self false ended
    (λ hand coming. c.begin.ensures (omega (arith, ended.number refl, few)) hand coming [])
    (c.in_ok-run_to_end.ensures ∙ ap (λ good. if good then Some (desk_of c.run_to_end.new.self [] []) else None) c.if-branch.true)
    (λ _. c.in_ok-close.ensures [] [])))

pub returns-else-branch-clause-faulty : goal.returns-else-branch-clause-faulty
returns-else-branch-clause-faulty c = λ items recs few is. let x = c.args.self.now in
    let ended = subst (λ (b : Bool). IsEnded items x.desk b recs) c.if-self.false is in
    ap is_none (sym (eof_ran items c.args.eof.now recs x.desk c.begin.new.self c.run_to_end.new.self c.run_to_end.new.self true ended
    (λ hand coming. c.begin.ensures (omega (arith, ended.number refl, few)) hand coming [])
    (c.in_ok-run_to_end.ensures ∙ ap (λ good. if good then Some (desk_of c.run_to_end.new.self [] []) else None) c.if-branch.false)
    (λ no. absurd (cc))))

pub returns-else-branch-clause-due : goal.returns-else-branch-clause-due
returns-else-branch-clause-due c = λ items recs few is. let x = c.args.self.now in
    let ended = subst (λ (b : Bool). IsEnded items x.desk b recs) c.if-self.false is in
    sym (ap (λ o. all_on 0 c.args.due.now.items ++ all_on 0 (written_by o))
    (eof_ran items c.args.eof.now recs x.desk c.begin.new.self c.run_to_end.new.self c.run_to_end.new.self true ended
    (λ hand coming. c.begin.ensures (omega (arith, ended.number refl, few)) hand coming [])
    (c.in_ok-run_to_end.ensures ∙ ap (λ good. if good then Some (desk_of c.run_to_end.new.self [] []) else None) c.if-branch.false)
    (λ no. absurd (cc)))
    ∙ append-nil (all_on 0 c.args.due.now.items))
