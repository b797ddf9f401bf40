-- What holds of a strand that stands alone.
use Rattle.std.proofs.Common.{◌≡◌, ℕ, zero, suc, [], ◌∷◌, subst, Some, slice_get}
use Rattle.pipe_model.specs.declared.net.Strand.{Strand}
use Rattle.stage_table.specs.BuiltIn.{HasFewPlaces}

pub lone_few : (x : Strand) → HasFewPlaces x → (j : ℕ) (p : Strand) → slice_get (x ∷ []) j ≡ Some p → HasFewPlaces p
lone_few x few zero p here = subst HasFewPlaces (let e : x ≡ p = cc in e) few
lone_few x few (suc j) p here = cc
