-- The arguments of Selection.
use Rattle.std.specs.Prelude.{ℕ, List, [], ◌∷◌}
use Rattle.std.specs.declared.option.Option.{Option}
use Rattle.std.specs.declared.option.Option.TheVariants.{Some, None}
use Rattle.pipe_model.specs.declared.kind.Kind.{Kind}
use Rattle.pipe_model.specs.declared.kind.Kind.TheVariants as Kinds
use Rattle.pipe_model.specs.declared.kind.Times.{Times}
use Rattle.pipe_model.specs.declared.kind.Times.TheVariants.{Only}
use Rattle.pipe_model.specs.declared.range.Range.{Range}
use Rattle.pipe_model.specs.Straight.{all_columns}
use Rattle.argument_parts.specs.declared.part.Part.{Part}
use Rattle.argument_parts.specs.declared.part.Part.TheVariants as Asked
use Rattle.argument_parts.specs.declared.part.Value.{Value}
use Rattle.argument_parts.specs.declared.part.Value.TheVariants as Read
use Rattle.argument_parts.specs.declared.part.Word.TheVariants.{First, Last}
use Rattle.stage_syntax.specs.Rows.{Arguments}
use Rattle.stage_syntax.specs.Rows.Arguments.{OfText, OfParts}
use Rattle.stage_syntax.specs.Forms.{row, of_text}

-- LOCATE and NLOCATE: [range] [string], of which one is required
abbrev pub before_locate : List Value → List Part
before_locate [] = Asked.Range ∷ (Asked.String ∷ [])
before_locate (Read.Range range ∷ []) = Asked.String ∷ []
before_locate _ = []

abbrev pub of_locate : (Range → Option (List ℕ) → Kind) → List Value → Option Kind
of_locate kind (Read.Range range ∷ []) = Some (kind range None)
of_locate kind (Read.String string ∷ []) = Some (kind all_columns (Some string))
of_locate kind (Read.Range range ∷ (Read.String string ∷ [])) = Some (kind range (Some string))
of_locate kind _ = None

abbrev pub locate : Arguments
locate = OfParts (row before_locate (of_locate Kinds.Locate))

abbrev pub nlocate : Arguments
nlocate = OfParts (row before_locate (of_locate Kinds.Nlocate))

-- FIND and NFIND: TEXT, which isn't empty
abbrev pub of_some_text : (List ℕ → Kind) → Option (List ℕ) → Option Kind
of_some_text kind None = None
of_some_text kind (Some []) = None
of_some_text kind (Some (byte ∷ text)) = Some (kind (byte ∷ text))

abbrev pub find : Arguments
find = OfText (of_some_text Kinds.Find)

abbrev pub nfind : Arguments
nfind = OfText (of_some_text Kinds.Nfind)

-- TAKE and DROP: [FIRST or LAST] [n or *]
abbrev pub before_end : List Value → List Part
before_end [] = Asked.Word First ∷ (Asked.Word Last ∷ (Asked.Times ∷ []))
before_end (Read.Word _ ∷ []) = Asked.Times ∷ []
before_end _ = []

abbrev pub of_end : (Times → Kind) → (Times → Kind) → List Value → Option Kind
of_end first last [] = Some (first (Only 1))
of_end first last (Read.Times times ∷ []) = Some (first times)
of_end first last (Read.Word First ∷ []) = Some (first (Only 1))
of_end first last (Read.Word Last ∷ []) = Some (last (Only 1))
of_end first last (Read.Word First ∷ (Read.Times times ∷ [])) = Some (first times)
of_end first last (Read.Word Last ∷ (Read.Times times ∷ [])) = Some (last times)
of_end first last _ = None

abbrev pub takes : Arguments
takes = OfParts (row before_end (of_end Kinds.TakeFirst Kinds.TakeLast))

abbrev pub drops : Arguments
drops = OfParts (row before_end (of_end Kinds.DropFirst Kinds.DropLast))

-- BETWEEN and INSIDE: string string
abbrev pub before_two : List Value → List Part
before_two [] = Asked.String ∷ []
before_two (Read.String first ∷ []) = Asked.String ∷ []
before_two _ = []

abbrev pub of_two : (List ℕ → List ℕ → Kind) → List Value → Option Kind
of_two kind (Read.String first ∷ (Read.String second ∷ [])) = Some (kind first second)
of_two kind _ = None

abbrev pub between : Arguments
between = OfParts (row before_two (of_two Kinds.Between))

abbrev pub inside : Arguments
inside = OfParts (row before_two (of_two Kinds.Inside))

-- TOLABEL and FRLABEL: TEXT, which may be empty
abbrev pub to_label : Arguments
to_label = OfText (of_text Kinds.ToLabel)

abbrev pub fr_label : Arguments
fr_label = OfText (of_text Kinds.FrLabel)
