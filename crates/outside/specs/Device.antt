-- A source or a sink, as its callers see it.
use Rattle.std.specs.Prelude.{ℕ, List}
use Rattle.std.specs.declared.option.Option.{Option}

-- a source or a sink: the bytes left or written, where they are told, and the count of its faults
pub record Device : Type 0 where
  pub bytes : Option (List ℕ)
  pub faults : ℕ

abbrev pub device : Option (List ℕ) → ℕ → Device
device bytes faults = record { bytes = bytes; faults = faults }
