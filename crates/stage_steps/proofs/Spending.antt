-- What is left to write is left out where it is for one output and that isn't open.
use Rattle.std.proofs.Common.{◌≡◌, ℕ, Bool, false, List, sym, ◌∙◌, ap, Some, None, Option}
use Rattle.pipe_model.specs.Members.{flag_at}
use Rattle.pipe_model.specs.Row.{Act}
use Rattle.pipe_model.specs.Shape.{Records, Stream, at_hand_of}
use Rattle.stage_steps.specs.declared.group.Group.{Group}
use Rattle.stage_steps.specs.declared.place.Follow.TheVariants.{Look}
use Rattle.stage_steps.specs.Listed.{first_write}
use Rattle.stage_steps.specs.Lists.{IsAllFor}
use Rattle.stage_steps.specs.Walk.{Fetches, HasSpent}
use Rattle.stage_steps.proofs.Acts.{comes}

-- no group comes then whose output is open
pub spent_closed : {L : Type 0} (stands : L → Bool → Stream → Records → List Act → Type 0) (made : L → Option (List ℕ)) (flags : List Bool) (x y : L) (output : ℕ) (given : Option Group)
    → IsAllFor stands x output → flag_at flags output ≡ false → Fetches stands made flags x None y given → HasSpent stands flags x y
spent_closed stands made flags x y output None all closed fetches = fetches
spent_closed stands made flags x y output (Some g) all closed fetches = λ over t recs acts is.
    let f = fetches.2 over t recs acts is in
    let first = (comes g (at_hand_of recs) (made y) flags Look f.0 fetches.0).0 in
    let none = sym f.1 ∙ all over t recs acts is flags closed in
    let no = sym (ap first_write none) ∙ first in cc
