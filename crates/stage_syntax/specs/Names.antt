-- The names of stages, and the arguments of each.
use Rattle.std.specs.Prelude.{ℕ, Bool, if◌then◌else◌, List, [], ◌∷◌, codes}
use Rattle.std.specs.Str.{bytes_eq, str_to_ascii_lowercase}
use Rattle.std.specs.declared.option.Option.{Option}
use Rattle.std.specs.declared.option.Option.TheVariants.{Some, None}
use Rattle.pipe_model.specs.declared.kind.Kind.TheVariants as Kinds
use Rattle.argument_parts.specs.declared.part.Part.TheVariants as Asked
use Rattle.argument_parts.specs.declared.part.Value.{Value}
use Rattle.argument_parts.specs.declared.part.Value.TheVariants as Read
use Rattle.pipe_model.specs.declared.kind.Kind.{Kind}
use Rattle.argument_parts.specs.declared.part.Part.{Part}
use Rattle.stage_syntax.specs.Rows.{Arguments}
use Rattle.stage_syntax.specs.Rows.Arguments.{OfParts}
use Rattle.stage_syntax.specs.Forms.{row, no_arguments, before_range, of_range, before_ranges, of_ranges}
use Rattle.stage_syntax.specs.DeviceForms.{console, file_in, file_out, literal}
use Rattle.stage_syntax.specs.SelectionForms.{locate, nlocate, find, nfind, takes, drops, between, inside, to_label, fr_label}
use Rattle.stage_syntax.specs.EditingForms.{change, strip, chop, pad, split, join, xlate, reversed, duplicate}
use Rattle.stage_syntax.specs.ItemForms.{specs}
use Rattle.stage_syntax.specs.OrderForms.{unique, sort, count, fblock, block, deblock}

-- OVERLAY: [byte], a blank where it isn't given
abbrev pub before_overlay : List Value → List Part
before_overlay [] = Asked.Byte ∷ []
before_overlay _ = []

abbrev pub of_overlay : List Value → Option Kind
of_overlay [] = Some (Kinds.Overlay 32)
of_overlay (Read.Byte byte ∷ []) = Some (Kinds.Overlay byte)
of_overlay _ = None

-- a stage by its name
pub record Named : Type 0 where
  pub name : List ℕ
  pub arguments : Arguments

abbrev pub called : List ℕ → Arguments → Named
called name arguments = record { name = name; arguments = arguments }

-- all stages; `first` says that the stage stands first in its pipeline
abbrev pub stages : Bool → List Named
stages first =
    called (codes "console") (console first)
    ∷ (called (codes "<") file_in
    ∷ (called (codes ">") file_out
    ∷ (called (codes "literal") literal
    ∷ (called (codes "hole") (no_arguments Kinds.Hole)
    ∷ (called (codes "locate") locate
    ∷ (called (codes "nlocate") nlocate
    ∷ (called (codes "find") find
    ∷ (called (codes "nfind") nfind
    ∷ (called (codes "take") takes
    ∷ (called (codes "drop") drops
    ∷ (called (codes "between") between
    ∷ (called (codes "inside") inside
    ∷ (called (codes "tolabel") to_label
    ∷ (called (codes "frlabel") fr_label
    ∷ (called (codes "change") change
    ∷ (called (codes "strip") strip
    ∷ (called (codes "chop") chop
    ∷ (called (codes "pad") pad
    ∷ (called (codes "split") split
    ∷ (called (codes "join") join
    ∷ (called (codes "xlate") xlate
    ∷ (called (codes "reverse") reversed
    ∷ (called (codes "duplicate") duplicate
    ∷ (called (codes "unique") unique
    ∷ (called (codes "sort") sort
    ∷ (called (codes "count") count
    ∷ (called (codes "lookup") (OfParts (row before_ranges (of_ranges Kinds.Lookup)))
    ∷ (called (codes "collate") (OfParts (row before_ranges (of_ranges Kinds.Collate)))
    ∷ (called (codes "merge") (OfParts (row before_range (of_range Kinds.Merge)))
    ∷ (called (codes "fanout") (no_arguments Kinds.FanOut)
    ∷ (called (codes "fanin") (no_arguments Kinds.FanIn)
    ∷ (called (codes "faninany") (no_arguments Kinds.FanInAny)
    ∷ (called (codes "deal") (no_arguments Kinds.Deal)
    ∷ (called (codes "gather") (no_arguments Kinds.Gather)
    ∷ (called (codes "overlay") (OfParts (row before_overlay of_overlay))
    ∷ (called (codes "synchronise") (no_arguments Kinds.Synchronise)
    ∷ (called (codes "synchronize") (no_arguments Kinds.Synchronise)
    ∷ (called (codes "juxtapose") (no_arguments Kinds.Juxtapose)
    ∷ (called (codes "gate") (no_arguments Kinds.Gate)
    ∷ (called (codes "dam") (no_arguments Kinds.Dam)
    ∷ (called (codes "elastic") (no_arguments Kinds.Elastic)
    ∷ (called (codes "buffer") (no_arguments Kinds.Buffer)
    ∷ (called (codes "copy") (no_arguments Kinds.Copy)
    ∷ (called (codes "fblock") fblock
    ∷ (called (codes "block") block
    ∷ (called (codes "deblock") deblock
    ∷ (called (codes "specs") specs
    ∷ [])))))))))))))))))))))))))))))))))))))))))))))))

-- the arguments of the first stage of a list that has the name, in any case
abbrev pub named_in : List Named → List ℕ → Option Arguments
named_in [] name = None
named_in (stage ∷ stages) name = if bytes_eq (str_to_ascii_lowercase name) stage.name then Some stage.arguments else named_in stages name

abbrev pub arguments_of : List ℕ → Bool → Option Arguments
arguments_of name first = named_in (stages first) name
