use Rattle.std.proofs.Common.{refl, sym, ◌∙◌, ap, subst}
use Rattle.pipe_model.specs.Event.Event.{Saw}
use Rattle.pipe_model.specs.Ranges.{part_of}
use Rattle.stage_steps.specs.Plans.{Plans}
use Rattle.lookup_stage.specs.declared.lookup.Due.{Due}
use Rattle.lookup_stage.specs.Lookup.{LookupIs}
use Rattle.lookup_stage.specs.Masters.{kept, matched, record_of}
use Rattle.lookup_stage.proofs.Turns.{sees_master, sees_detail}
use Rattle.lookup_stage.proofs.lookup.LookupPlans.see.Goals as goal

pub returns-in_ok-keep-in-Masters-clause-plans : goal.returns-in_ok-keep-in-Masters-clause-plans
returns-in_ok-keep-in-Masters-clause-plans c = λ rec came.
    let x = c.args.self.now in
    sees_master x c.keep.new.self rec c.in-Masters.is
    (c.in_ok-keep-in-Masters.ensures ∙ ap (λ key. kept key c.args.bytes.now x.masters) c.part_of-key.ensures ∙ ap (λ b. kept (part_of x.of_master b) b x.masters) (came refl)) c.args._input

pub returns-in_ok-match_key-in-Details : goal.returns-in_ok-match_key-in-Details
returns-in_ok-match_key-in-Details c = record {
  looks_same = refl;
  plans = λ rec came.
      let x = c.args.self.now in
      let key = c.part_of-key-in-Details.ensures ∙ ap (part_of x.of_detail) (came refl) in
      let found = c.in_ok-match_key-in-Details.field-0 in
      subst (λ (d : Due). Plans LookupIs x (record x { masters = c.match_key.new.self; due = d }) (Saw c.args._input rec)) (sym c.due_for.ensures)
      (sees_detail x c.match_key.new.self found rec
      (c.in_ok-match_key-in-Details.ensures.found ∙ ap (λ k. record_of k x.masters) key)
      (c.in_ok-match_key-in-Details.ensures.matches ∙ ap (λ k. matched k x.masters) key)
      c.in-Details.is c.args._input);
}
