-- Groups of records that are joined.
use Rattle.std.specs.Prelude.{◌≡◌, ℕ, Bool, false, nat_lt, List, [], ◌∷◌, ◌++◌, length}
use Rattle.std.specs.List.{join_by}
use Rattle.pipe_model.specs.declared.kind.Times.{Times}
use Rattle.pipe_model.specs.declared.kind.Times.TheVariants.{Only, All}
use Rattle.pipe_model.specs.EditingRows.{group_of, unfinished}
use Rattle.pipe_model.specs.Shape.{Records}

-- the records of the group that hasn't ended
abbrev pub left_over : Times → Records → Records
left_over more recs = unfinished (group_of more (length recs)) recs

-- so many records are a group
abbrev pub is_full : Times → ℕ → Bool
is_full (Only n) count = nat_lt n count
is_full All count = false

-- the records in one, with the string between
abbrev pub in_one : List ℕ → Records → List ℕ
in_one string recs = join_by (λ part. part) string recs

-- one more record is added to so many in one
abbrev pub Adds : List ℕ → ℕ → List ℕ → List ℕ → List ℕ → Type 0
Adds string count rec group grown = (recs : Records) → count ≡ length recs → group ≡ in_one string recs → grown ≡ in_one string (recs ++ rec ∷ [])
