use Rattle.std.proofs.Common.{ap, ◌∙◌, map, filter, not}
use Rattle.lookup_stage.specs.declared.masters.Master.{Master}
use Rattle.lookup_stage.specs.Masters.{not_matched}
use Rattle.lookup_stage.proofs.Entries.{left_among}
use Rattle.lookup_stage.proofs.masters.Masters.into_unmatched.Goals as goal

pub returns : goal.returns
returns c = ap (λ ms. map (λ (m : Master). m.rec) (filter (λ m. not m.is_matched) ms)) c.into_values.ensures.rest ∙ left_among (λ k. k.items) c.self.inside.by_key.entries ∙ ap not_matched c.self.view_is
