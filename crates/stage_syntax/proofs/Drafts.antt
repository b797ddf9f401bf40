-- The items of SPECS while they are read.
use Rattle.std.proofs.Common.{◌≡◌, List, [], ◌∷◌, ◌++◌, sym, ap, ◌∙◌}
use Rattle.std.proofs.lemmas.List.Sums.{fold-append}
use Rattle.stage_syntax.specs.ItemForms.{Draft, draft_after, draft_of, more, nothing_read, progress_of}
use Rattle.stage_syntax.specs.declared.item_lists.ItemState.{ItemState}
use Rattle.stage_syntax.specs.declared.item_parts.Progress.{Progress}
use Rattle.argument_parts.specs.declared.part.Value.{Value}

-- what an argument makes of them, by their state
pub after_by : (d : Draft) (state : ItemState) (value read : Value) → d.state ≡ state → value ≡ read → draft_after d value ≡ more state read d
after_by d state value read stands is = ap (λ state. more state value d) stands ∙ ap (λ value. more state value d) is

-- how far they are with one more argument
pub progress_more : (values : List Value) (value : Value) (before after : Progress) → before ≡ progress_of (draft_of values) → ((d : Draft) → progress_of d ≡ before → progress_of (draft_after d value) ≡ after)
    → after ≡ progress_of (draft_of (values ++ value ∷ []))
progress_more values value before after is step = sym (ap progress_of (fold-append draft_after nothing_read values (value ∷ [])) ∙ step (draft_of values) (sym is))
