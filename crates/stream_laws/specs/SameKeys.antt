-- Records that SORT leaves as they came.
use Rattle.std.specs.Prelude.{ℕ, Bool, List}
use Rattle.std.specs.List.{list_all}
use Rattle.pipe_model.specs.declared.keys.SortKey.{SortKey}
use Rattle.pipe_model.specs.Keys.{is_same}
use Rattle.pipe_model.specs.Ranges.{part_of}

-- the records have the same part by each of the keys
abbrev pub have_same_keys : List SortKey → List ℕ → List ℕ → Bool
have_same_keys keys rec other = list_all (λ key. is_same (part_of key.range rec) (part_of key.range other)) keys
