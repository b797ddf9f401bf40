use Rattle.std.proofs.Common.{ap, ◌∙◌, sym, Some}
use Rattle.std.specs.Prelude.{option_map}
use Rattle.lookup_stage.specs.declared.masters.Master.{Master}
use Rattle.lookup_stage.specs.Masters.{record_of, matched}
use Rattle.lookup_stage.proofs.Entries.{any_is, record_is, none_matched, matched_at, none_there}
use Rattle.lookup_stage.proofs.masters.Masters.match_key.Goals as goal

pub returns-in_default-clause-found : goal.returns-in_default-clause-found
returns-in_default-clause-found c =
    sym (sym (ap (record_of c.args.key.now) c.self.view_is) ∙ record_is (λ k. k.items) c.args.key.now c.self.inside.by_key.entries
    ∙ ap (option_map (λ (m : Master). m.rec)) (none_there _ (sym c.in_default.ensures.found)))

pub returns-in_default-clause-matches : goal.returns-in_default-clause-matches
returns-in_default-clause-matches c =
    sym c.self.view_is
    ∙ none_matched c.args.key.now _ (sym (any_is (λ k. k.items) c.args.key.now c.self.inside.by_key.entries) ∙ sym c.in_default.ensures.found)
    ∙ ap (matched c.args.key.now) c.self.view_is

pub returns-clause-found : goal.returns-clause-found
returns-clause-found c =
    ap Some c.in_ok-rec.ensures
    ∙ sym (sym (ap (record_of c.args.key.now) c.self.view_is) ∙ record_is (λ k. k.items) c.args.key.now c.self.inside.by_key.entries
    ∙ ap (option_map (λ (m : Master). m.rec)) (sym c.in-Some.ensures.value ∙ c.index_mut-master.ensures.value))

pub returns-clause-matches : goal.returns-clause-matches
returns-clause-matches c =
    matched_at (λ k. k.items) c.args.key.now c.self.inside.by_key.entries c.in-Some.number c.index_mut-master.result.now (sym c.in-Some.ensures.index) c.index_mut-master.ensures.value
    ∙ ap (matched c.args.key.now) c.self.view_is
