-- Groups that are passed over.
use Rattle.std.proofs.Common.{◌≡◌, ℕ, Bool, true, false, List, ◌++◌, refl, ◌∙◌, ap, Some, None, Option}
use Rattle.pipe_model.specs.Row.{Act}
use Rattle.pipe_model.specs.Shape.{Records, Stream, at_hand_of}
use Rattle.stage_steps.specs.declared.group.Group.{Group}
use Rattle.stage_steps.specs.declared.group.Group.TheVariants.{AtHand}
use Rattle.stage_steps.specs.declared.group.Repeat.{Repeat}
use Rattle.stage_steps.specs.Group.{held_acts, is_due}
use Rattle.stage_steps.specs.Lists.{GivesNext}
use Rattle.stage_steps.specs.Outputs.{live}
use Rattle.stage_steps.specs.Walk.{Fetches}
use Rattle.stage_steps.proofs.Acts.{not_due}

-- what is left to write on open outputs is the same, though some groups were passed over
abbrev pub Passes : {L : Type 0} → (L → Bool → Stream → Records → List Act → Type 0) → List Bool → L → Option Repeat → L → Type 0
Passes stands flags x hand y = (over : Bool) (t : Stream) (recs : Records) (acts : List Act) → stands x over t recs acts → (rest : List Act) × (live flags (held_acts (at_hand_of recs) hand ++ acts) ≡ live flags rest) × stands y over t recs rest

module _ {L : Type 0} (stands : L → Bool → Stream → Records → List Act → Type 0) (made : L → Option (List ℕ)) (flags : List Bool) where
  -- at first none
  pub passes_none : (x : L) → Passes stands flags x None x
  passes_none x over t recs acts is = (acts, refl, is)

  -- one more
  pub passes_one : (x y z : L) (hand : Option Repeat) (g : Group) → Passes stands flags x hand y → GivesNext stands made y z (Some g) → is_due flags g ≡ false → Passes stands flags x hand z
  passes_one x y z hand g passes gives due over t recs acts is =
      let p = passes over t recs acts is in
      let n = gives.1 over t recs p.0 p.2 in
      (n.0, p.1 ∙ ap (live flags) n.1 ∙ not_due g (at_hand_of recs) (made z) flags n.0 due, n.2)

  -- then comes one that is due
  pub fetches_one : (x y z : L) (hand : Option Repeat) (g : Group) → Passes stands flags x hand y → GivesNext stands made y z (Some g) → is_due flags g ≡ true → Fetches stands made flags x hand z (Some g)
  fetches_one x y z hand g passes gives due =
      (due, gives.0, λ over t recs acts is. let p = passes over t recs acts is in let n = gives.1 over t recs p.0 p.2 in (n.0, p.1 ∙ ap (live flags) n.1, n.2, λ left. n.3))

  -- or none
  pub fetches_none : (x y z : L) (hand : Option Repeat) → Passes stands flags x hand y → GivesNext stands made y z None → Fetches stands made flags x hand z None
  fetches_none x y z hand passes gives = λ over t recs acts is. let p = passes over t recs acts is in let n = gives over t recs p.0 p.2 in (p.1 ∙ ap (live flags) n.0, n.1)

  -- the record in hand is due
  pub fetches_hand : (x : L) (r : Repeat) → is_due flags (AtHand r) ≡ true → Fetches stands made flags x (Some r) x (Some (AtHand r))
  fetches_hand x r due = (due, tt, λ over t recs acts is. (acts, refl, is, λ left. left))

  -- the record in hand isn't, and what comes next is fetched
  pub fetches_behind : (x y : L) (r : Repeat) (given : Option Group) → is_due flags (AtHand r) ≡ false → Fetches stands made flags x None y given → Fetches stands made flags x (Some r) y given
  fetches_behind x y r None due fetches = λ over t recs acts is. let f = fetches over t recs acts is in (not_due (AtHand r) (at_hand_of recs) None flags acts due ∙ f.0, f.1)
  fetches_behind x y r (Some n) due fetches =
      (fetches.0, fetches.1, λ over t recs acts is. let f = fetches.2 over t recs acts is in (f.0, not_due (AtHand r) (at_hand_of recs) None flags acts due ∙ f.1, f.2, λ left. f.3 tt))
