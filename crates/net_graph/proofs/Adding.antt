-- Outcomes are added stage by stage.
use Rattle.std.proofs.Common.{◌≡◌, Bool, true, false, List, [], ◌∷◌, ◌++◌, ◌∙◌, ap, sym, subst, append_assoc, if◌then◌else◌}
use Rattle.std.specs.declared.result.Result.{Result}
use Rattle.std.proofs.lemmas.List.Elements.{filter-append}
use Rattle.pipe_model.specs.declared.kind.Kind.{Kind}
use Rattle.stage_syntax.specs.declared.fault.KindFault.{KindFault}
use Rattle.net_graph.specs.Nets.{AreOutcomes, IsOutcome}
use Rattle.net_graph.specs.Outcomes.{AddsOutcomes}
use Rattle.net_graph.specs.Stands.{Stand, is_stage, stages_of}

outcomes_both : (stages more : List Stand) (a b : List (Result Kind KindFault)) → AreOutcomes stages a → AreOutcomes more b → AreOutcomes (stages ++ more) (a ++ b)
outcomes_both [] more [] b first second = second
outcomes_both [] more (outcome ∷ a) b first second = absurd first
outcomes_both (s ∷ stages) more [] b first second = absurd first
outcomes_both (s ∷ stages) more (outcome ∷ a) b first second = (first.0, outcomes_both stages more a b first.1 second)

module _ (all left rest : List Stand) (s : Stand) (old items new : List (Result Kind KindFault)) (left_is : left ≡ s ∷ rest)
    (so_far : (more : List (Result Kind KindFault)) → AreOutcomes (stages_of left) more → AddsOutcomes all old (items ++ more)) where
  -- a stage's outcome
  pub one_outcome : (outcome : Result Kind KindFault) → is_stage s ≡ true → IsOutcome s outcome → new ≡ items ++ outcome ∷ [] →
      (more : List (Result Kind KindFault)) → AreOutcomes (stages_of rest) more → AddsOutcomes all old (new ++ more)
  one_outcome outcome kind is new_is more are =
      let stages : stages_of left ≡ s ∷ stages_of rest = ap stages_of left_is ∙ ap (λ (b : Bool). if b then s ∷ stages_of rest else stages_of rest) kind in
      let added = so_far (outcome ∷ more) (subst (λ (st : List Stand). AreOutcomes st (outcome ∷ more)) (sym stages) (is, are)) in
      subst (AddsOutcomes all old) (sym (ap (λ (n : List (Result Kind KindFault)). n ++ more) new_is ∙ append_assoc items (outcome ∷ []) more)) added

  -- no stage
  pub no_outcome : is_stage s ≡ false → new ≡ items → (more : List (Result Kind KindFault)) → AreOutcomes (stages_of rest) more → AddsOutcomes all old (new ++ more)
  no_outcome kind new_is more are =
      let stages : stages_of left ≡ stages_of rest = ap stages_of left_is ∙ ap (λ (b : Bool). if b then s ∷ stages_of rest else stages_of rest) kind in
      subst (λ (n : List (Result Kind KindFault)). AddsOutcomes all old (n ++ more)) (sym new_is) (so_far more (subst (λ (st : List Stand). AreOutcomes st more) (sym stages) are))

-- the outcomes of a pipeline
pub more_outcomes : (all left stands rest : List Stand) (items new : List (Result Kind KindFault)) → left ≡ stands ++ rest →
    ((more : List (Result Kind KindFault)) → AreOutcomes (stages_of left) more → AreOutcomes (stages_of all) (items ++ more)) → AddsOutcomes stands items new →
    (more : List (Result Kind KindFault)) → AreOutcomes (stages_of rest) more → AreOutcomes (stages_of all) (new ++ more)
more_outcomes all left stands rest items new left_is so_far adds more are =
    let stages = ap stages_of left_is ∙ filter-append is_stage stands rest in
    let both = so_far (adds.more ++ more) (subst (λ (st : List Stand). AreOutcomes st (adds.more ++ more)) (sym stages) (outcomes_both (stages_of stands) (stages_of rest) adds.more more adds.are are)) in
    subst (AreOutcomes (stages_of all)) (sym (ap (λ (n : List (Result Kind KindFault)). n ++ more) adds.new_is ∙ append_assoc items adds.more more)) both
