-- An effect but for the file of its journal.
use Rattle.std.proofs.Common.{◌≡◌, ◌⊎◌, ℕ, List, length, refl, ◌∙◌, ap, Option, Some, None}
use Rattle.pipe_model.specs.declared.net.Net.{Net}
use Rattle.pipe_model.specs.declared.step.Entry.{Entry}
use Rattle.pipe_model.specs.Play.{IsComplete, IsLegal}
use Rattle.call_meaning.specs.Effects.{Effect, traced, untraced}
use Rattle.call_meaning.specs.Headline.{IsTraced}
use Rattle.call_meaning.specs.Meaning.{AreLeast}

module _ (journal : List Entry) where
  traced_bare : (trace : Option (List ℕ)) (bare : Effect) → untraced (traced trace journal bare) ≡ untraced bare
  traced_bare None bare = refl
  traced_bare (Some name) bare = refl

  -- is what it was before the file was added
  pub untraced_is : (trace : Option (List ℕ)) (effect bare : Effect) → effect ≡ traced trace journal bare → untraced effect ≡ untraced bare
  untraced_is trace effect bare is = ap untraced is ∙ traced_bare trace bare

  -- and the file has the text of the journal
  pub traced_by : (net : Net) (steps workers : ℕ) → IsLegal net journal → IsComplete net journal ⊎ (length journal ≡ steps) → (workers ≡ 1 → AreLeast net journal) →
      (trace : Option (List ℕ)) (effect bare : Effect) → bare.trace ≡ None → effect ≡ traced trace journal bare → IsTraced net steps workers trace effect.trace
  traced_by net steps workers legal ends least None effect bare none is = ap (λ (e : Effect). e.trace) is ∙ none
  traced_by net steps workers legal ends least (Some name) effect bare none is = (journal, legal, ends, least, ap (λ (e : Effect). e.trace) is)
