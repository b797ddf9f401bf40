-- The arguments of devices.
use Rattle.std.specs.Prelude.{ℕ, Bool, if◌then◌else◌, List, [], ◌∷◌}
use Rattle.std.specs.declared.option.Option.{Option}
use Rattle.std.specs.declared.option.Option.TheVariants.{Some, None}
use Rattle.pipe_model.specs.declared.kind.Kind.{Kind}
use Rattle.pipe_model.specs.declared.kind.Kind.TheVariants as Kinds
use Rattle.argument_parts.specs.declared.part.Part.{Part}
use Rattle.argument_parts.specs.declared.part.Part.TheVariants as Asked
use Rattle.argument_parts.specs.declared.part.Value.{Value}
use Rattle.argument_parts.specs.declared.part.Value.TheVariants as Read
use Rattle.stage_syntax.specs.Rows.{Arguments}
use Rattle.stage_syntax.specs.Rows.Arguments.{OfText, OfParts}
use Rattle.stage_syntax.specs.Forms.{row, no_arguments}

-- CONSOLE: it is first in its pipeline and has no bytes yet, or it isn't first
abbrev pub console : Bool → Arguments
console first = no_arguments (if first then Kinds.ConsoleIn [] else Kinds.ConsoleOut)

-- NAME
abbrev pub before_name : List Value → List Part
before_name [] = Asked.Name ∷ []
before_name _ = []

abbrev pub of_name : (List ℕ → Kind) → List Value → Option Kind
of_name kind (Read.String name ∷ []) = Some (kind name)
of_name kind _ = None

-- `<`, whose file hasn't been fetched yet, and `>`
abbrev pub file_in : Arguments
file_in = OfParts (row before_name (of_name (λ name. Kinds.FileIn name None)))

abbrev pub file_out : Arguments
file_out = OfParts (row before_name (of_name Kinds.FileOut))

-- LITERAL [TEXT]
abbrev pub literal_of : Option (List ℕ) → Option Kind
literal_of None = Some (Kinds.Literal [])
literal_of (Some text) = Some (Kinds.Literal text)

abbrev pub literal : Arguments
literal = OfText literal_of
