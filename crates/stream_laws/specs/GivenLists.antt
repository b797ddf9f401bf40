-- What a strand by itself is given, where whole lists of records are all that it asks for.
use Rattle.std.specs.Prelude.{false, List, [], slice_get, unwrap_or}
use Rattle.std.specs.declared.option.Option.TheVariants.{None}
use Rattle.pipe_model.specs.Shape.{Records}
use Rattle.pipe_model.specs.Alone.{Given}

-- each input is the list of its number, or empty where there are no more lists, and its outputs take all
abbrev pub given_by : List Records → Given
given_by lists = record { inputs = λ i. unwrap_or (slice_get lists i) []; picks = λ taken. None; primed = false; limits = λ o. None }
