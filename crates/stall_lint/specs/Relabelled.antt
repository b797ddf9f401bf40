-- The inside: one label in place of another.
use Rattle.std.specs.Prelude.{ℕ, ◌==◌, if◌then◌else◌}

-- the label kept in place of the one that is lost
abbrev pub relabelled : ℕ → ℕ → ℕ → ℕ
relabelled lost kept label = if label == lost then kept else label
