-- Words that the arguments of several stages share.
use Rattle.std.specs.Prelude.{ℕ, List, [], ◌∷◌}
use Rattle.std.specs.declared.option.Option.{Option}
use Rattle.std.specs.declared.option.Option.TheVariants.{Some, None}
use Rattle.pipe_model.specs.declared.kind.Kind.{Kind}
use Rattle.pipe_model.specs.declared.kind.Times.{Times}
use Rattle.pipe_model.specs.declared.kind.Times.TheVariants.{Only}
use Rattle.pipe_model.specs.declared.range.Range.{Range}
use Rattle.pipe_model.specs.Straight.{all_columns}
use Rattle.argument_parts.specs.declared.part.Part.{Part}
use Rattle.argument_parts.specs.declared.part.Part.TheVariants as Asked
use Rattle.argument_parts.specs.declared.part.TextFault.{TextFault}
use Rattle.argument_parts.specs.declared.part.Value.{Value}
use Rattle.argument_parts.specs.declared.part.Value.TheVariants as Read
use Rattle.stage_syntax.specs.Rows.{Row, Arguments}
use Rattle.stage_syntax.specs.Rows.Arguments.{OfParts}

abbrev pub nothing_wrong : List Value → List ℕ → Option TextFault
nothing_wrong values lefts = None

-- arguments that are faultless wherever each is
abbrev pub row : (List Value → List Part) → (List Value → Option Kind) → Row
row next kind = record { next = next; wrong = nothing_wrong; kind = kind }

abbrev pub none_next : List Value → List Part
none_next values = []

-- no arguments
abbrev pub no_arguments : Kind → Arguments
no_arguments kind = OfParts (row none_next (λ values. Some kind))

-- [n or *], 1 where it isn't given
abbrev pub before_times : List Value → List Part
before_times [] = Asked.Times ∷ []
before_times _ = []

abbrev pub of_times : (Times → Kind) → List Value → Option Kind
of_times kind [] = Some (kind (Only 1))
of_times kind (Read.Times times ∷ []) = Some (kind times)
of_times kind _ = None

-- [range], all columns where it isn't given
abbrev pub before_range : List Value → List Part
before_range [] = Asked.Range ∷ []
before_range _ = []

abbrev pub of_range : (Range → Kind) → List Value → Option Kind
of_range kind [] = Some (kind all_columns)
of_range kind (Read.Range range ∷ []) = Some (kind range)
of_range kind _ = None

-- [range [range]], of which the second is the first where it isn't given
abbrev pub before_ranges : List Value → List Part
before_ranges [] = Asked.Range ∷ []
before_ranges (Read.Range first ∷ []) = Asked.Range ∷ []
before_ranges _ = []

abbrev pub of_ranges : (Range → Range → Kind) → List Value → Option Kind
of_ranges kind [] = Some (kind all_columns all_columns)
of_ranges kind (Read.Range first ∷ []) = Some (kind first first)
of_ranges kind (Read.Range first ∷ (Read.Range second ∷ [])) = Some (kind first second)
of_ranges kind _ = None

-- TEXT, which has to be there
abbrev pub of_text : (List ℕ → Kind) → Option (List ℕ) → Option Kind
of_text kind None = None
of_text kind (Some text) = Some (kind text)

-- the greatest number of columns, bytes and sizes
abbrev pub greatest : ℕ
greatest = 1048576
