-- The kinds among outcomes.
use Rattle.std.specs.Prelude.{List, [], ◌∷◌, Ok, Err}
use Rattle.std.specs.declared.result.Result.{Result}
use Rattle.pipe_model.specs.declared.kind.Kind.{Kind}
use Rattle.stage_syntax.specs.declared.fault.KindFault.{KindFault}

abbrev pub kinds_in : List (Result Kind KindFault) → List Kind
kinds_in [] = []
kinds_in (Ok kind ∷ outcomes) = kind ∷ kinds_in outcomes
kinds_in (Err fault ∷ outcomes) = kinds_in outcomes
