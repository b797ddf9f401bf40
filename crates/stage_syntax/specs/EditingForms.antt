-- The arguments of Editing.
use Rattle.std.specs.Prelude.{ℕ, true, false, ◌==◌, if◌then◌else◌, List, [], ◌∷◌, length}
use Rattle.std.specs.declared.option.Option.{Option}
use Rattle.std.specs.declared.option.Option.TheVariants.{Some, None}
use Rattle.pipe_model.specs.declared.kind.Kind.{Kind}
use Rattle.pipe_model.specs.declared.kind.Kind.TheVariants as Kinds
use Rattle.pipe_model.specs.declared.kind.Mapping.TheVariants as Maps
use Rattle.pipe_model.specs.declared.kind.Times.TheVariants.{Only, All}
use Rattle.pipe_model.specs.Straight.{all_columns}
use Rattle.argument_parts.specs.declared.fault.FaultKind.TheVariants.{OutOfRange}
use Rattle.argument_parts.specs.declared.part.Part.{Part}
use Rattle.argument_parts.specs.declared.part.Part.TheVariants as Asked
use Rattle.argument_parts.specs.declared.part.TextFault.{TextFault}
use Rattle.argument_parts.specs.declared.part.Value.{Value}
use Rattle.argument_parts.specs.declared.part.Value.TheVariants as Read
use Rattle.argument_parts.specs.declared.part.Word.TheVariants.{Both, Leading, Trailing, Left, Right, Upper, Lower}
use Rattle.stage_syntax.specs.Rows.{Arguments}
use Rattle.stage_syntax.specs.Rows.Arguments.{OfParts}
use Rattle.stage_syntax.specs.Forms.{row, no_arguments, before_times, of_times, greatest}

-- a blank, where no byte is given
abbrev pub blank : List ℕ
blank = 32 ∷ []

-- CHANGE: [column range] two strings [n or *]
abbrev pub before_change : List Value → List Part
before_change [] = Asked.Columns ∷ (Asked.Strings ∷ [])
before_change (Read.Range range ∷ []) = Asked.Strings ∷ []
before_change (Read.Strings sought put ∷ []) = Asked.Times ∷ []
before_change (Read.Range range ∷ (Read.Strings sought put ∷ [])) = Asked.Times ∷ []
before_change _ = []

abbrev pub of_change : List Value → Option Kind
of_change (Read.Strings sought put ∷ []) = Some (Kinds.Change all_columns sought put All)
of_change (Read.Strings sought put ∷ (Read.Times times ∷ [])) = Some (Kinds.Change all_columns sought put times)
of_change (Read.Range range ∷ (Read.Strings sought put ∷ [])) = Some (Kinds.Change range sought put All)
of_change (Read.Range range ∷ (Read.Strings sought put ∷ (Read.Times times ∷ []))) = Some (Kinds.Change range sought put times)
of_change _ = None

abbrev pub change : Arguments
change = OfParts (row before_change of_change)

-- STRIP: [BOTH, LEADING or TRAILING] [string]
abbrev pub before_strip : List Value → List Part
before_strip [] = Asked.Word Both ∷ (Asked.Word Leading ∷ (Asked.Word Trailing ∷ (Asked.String ∷ [])))
before_strip (Read.Word _ ∷ []) = Asked.String ∷ []
before_strip _ = []

abbrev pub of_strip : List Value → Option Kind
of_strip [] = Some (Kinds.Strip true true blank)
of_strip (Read.String set ∷ []) = Some (Kinds.Strip true true set)
of_strip (Read.Word Both ∷ []) = Some (Kinds.Strip true true blank)
of_strip (Read.Word Leading ∷ []) = Some (Kinds.Strip true false blank)
of_strip (Read.Word Trailing ∷ []) = Some (Kinds.Strip false true blank)
of_strip (Read.Word Both ∷ (Read.String set ∷ [])) = Some (Kinds.Strip true true set)
of_strip (Read.Word Leading ∷ (Read.String set ∷ [])) = Some (Kinds.Strip true false set)
of_strip (Read.Word Trailing ∷ (Read.String set ∷ [])) = Some (Kinds.Strip false true set)
of_strip _ = None

abbrev pub strip : Arguments
strip = OfParts (row before_strip of_strip)

-- CHOP: [n], 80 where it isn't given
abbrev pub before_chop : List Value → List Part
before_chop [] = Asked.Number 0 greatest ∷ []
before_chop _ = []

abbrev pub of_chop : List Value → Option Kind
of_chop [] = Some (Kinds.Chop 80)
of_chop (Read.Number n ∷ []) = Some (Kinds.Chop n)
of_chop _ = None

abbrev pub chop : Arguments
chop = OfParts (row before_chop of_chop)

-- PAD: [LEFT or RIGHT] n [byte]
abbrev pub before_pad : List Value → List Part
before_pad [] = Asked.Word Left ∷ (Asked.Word Right ∷ (Asked.Number 0 greatest ∷ []))
before_pad (Read.Word side ∷ []) = Asked.Number 0 greatest ∷ []
before_pad (Read.Number n ∷ []) = Asked.Byte ∷ []
before_pad (Read.Word side ∷ (Read.Number n ∷ [])) = Asked.Byte ∷ []
before_pad _ = []

abbrev pub of_pad : List Value → Option Kind
of_pad (Read.Number n ∷ []) = Some (Kinds.Pad false n 32)
of_pad (Read.Number n ∷ (Read.Byte byte ∷ [])) = Some (Kinds.Pad false n byte)
of_pad (Read.Word Left ∷ (Read.Number n ∷ [])) = Some (Kinds.Pad true n 32)
of_pad (Read.Word Right ∷ (Read.Number n ∷ [])) = Some (Kinds.Pad false n 32)
of_pad (Read.Word Left ∷ (Read.Number n ∷ (Read.Byte byte ∷ []))) = Some (Kinds.Pad true n byte)
of_pad (Read.Word Right ∷ (Read.Number n ∷ (Read.Byte byte ∷ []))) = Some (Kinds.Pad false n byte)
of_pad _ = None

abbrev pub pad : Arguments
pad = OfParts (row before_pad of_pad)

-- SPLIT: [string]
abbrev pub before_split : List Value → List Part
before_split [] = Asked.String ∷ []
before_split _ = []

abbrev pub of_split : List Value → Option Kind
of_split [] = Some (Kinds.Split blank)
of_split (Read.String set ∷ []) = Some (Kinds.Split set)
of_split _ = None

abbrev pub split : Arguments
split = OfParts (row before_split of_split)

-- JOIN: [n or *] [string], which may be empty
abbrev pub before_join : List Value → List Part
before_join [] = Asked.Times ∷ (Asked.AnyString ∷ [])
before_join (Read.Times more ∷ []) = Asked.AnyString ∷ []
before_join _ = []

abbrev pub of_join : List Value → Option Kind
of_join [] = Some (Kinds.Join (Only 1) [])
of_join (Read.Times more ∷ []) = Some (Kinds.Join more [])
of_join (Read.String between ∷ []) = Some (Kinds.Join (Only 1) between)
of_join (Read.Times more ∷ (Read.String between ∷ [])) = Some (Kinds.Join more between)
of_join _ = None

abbrev pub join : Arguments
join = OfParts (row before_join of_join)

-- XLATE: [UPPER or LOWER], or string string, equally long
abbrev pub before_xlate : List Value → List Part
before_xlate [] = Asked.Word Upper ∷ (Asked.Word Lower ∷ (Asked.String ∷ []))
before_xlate (Read.String first ∷ []) = Asked.String ∷ []
before_xlate _ = []

abbrev pub wrong_xlate : List Value → List ℕ → Option TextFault
wrong_xlate (Read.String first ∷ (Read.String second ∷ [])) (left ∷ (second_left ∷ [])) =
    if length first == length second then None else Some (record { left = second_left; kind = OutOfRange })
wrong_xlate _ lefts = None

abbrev pub of_xlate : List Value → Option Kind
of_xlate [] = Some (Kinds.Xlate Maps.Upper)
of_xlate (Read.Word Upper ∷ []) = Some (Kinds.Xlate Maps.Upper)
of_xlate (Read.Word Lower ∷ []) = Some (Kinds.Xlate Maps.Lower)
of_xlate (Read.String first ∷ (Read.String second ∷ [])) = Some (Kinds.Xlate (Maps.Bytes first second))
of_xlate _ = None

abbrev pub xlate : Arguments
xlate = OfParts (record { next = before_xlate; wrong = wrong_xlate; kind = of_xlate })

-- REVERSE, and DUPLICATE [n or *]
abbrev pub reversed : Arguments
reversed = no_arguments Kinds.Reverse

abbrev pub duplicate : Arguments
duplicate = OfParts (row before_times (of_times Kinds.Duplicate))
