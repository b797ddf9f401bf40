-- The arguments of stages by their forms in code.
use Rattle.std.specs.Prelude.{ℕ, Bool, true, false, List}
use Rattle.std.specs.Borrow.{Bor}
use Rattle.std.specs.Str.{str_to_ascii_lowercase}
use Rattle.std.specs.declared.option.Option.{Option}
use Rattle.std.specs.declared.option.Option.TheVariants.{None}
use Rattle.pipe_model.specs.declared.kind.Kind.{Kind}
use Rattle.pipe_model.specs.declared.kind.Kind.TheVariants as Kinds
use Rattle.stage_syntax.specs.declared.form.Form.{Form}
use Rattle.stage_syntax.specs.declared.form.Form.TheVariants as Code
use Rattle.stage_syntax.specs.Rows.{Arguments, Row}
use Rattle.stage_syntax.specs.Rows.Arguments.{OfText, OfParts}
use Rattle.stage_syntax.specs.Forms.{row, no_arguments, none_next, before_range, of_range, before_ranges, of_ranges}
use Rattle.stage_syntax.specs.DeviceForms.{console, file_in, file_out, literal}
use Rattle.stage_syntax.specs.SelectionForms.{locate, nlocate, find, nfind, takes, drops, between, inside, to_label, fr_label}
use Rattle.stage_syntax.specs.EditingForms.{change, strip, chop, pad, split, join, xlate, reversed, duplicate}
use Rattle.stage_syntax.specs.OrderForms.{unique, sort, count, fblock, block, deblock}
use Rattle.stage_syntax.specs.ItemForms.{specs}
use Rattle.stage_syntax.specs.Names.{Named, before_overlay, of_overlay}

-- the arguments of this form; `first` says that the stage stands first in its pipeline
abbrev pub arguments_by : Form → Bool → Arguments
arguments_by Code.Console first = console first
arguments_by Code.FileIn first = file_in
arguments_by Code.FileOut first = file_out
arguments_by Code.Literal first = literal
arguments_by Code.Hole first = no_arguments Kinds.Hole
arguments_by Code.Locate first = locate
arguments_by Code.Nlocate first = nlocate
arguments_by Code.Find first = find
arguments_by Code.Nfind first = nfind
arguments_by Code.Take first = takes
arguments_by Code.Drop first = drops
arguments_by Code.Between first = between
arguments_by Code.Inside first = inside
arguments_by Code.ToLabel first = to_label
arguments_by Code.FrLabel first = fr_label
arguments_by Code.Change first = change
arguments_by Code.Strip first = strip
arguments_by Code.Chop first = chop
arguments_by Code.Pad first = pad
arguments_by Code.Split first = split
arguments_by Code.Join first = join
arguments_by Code.Xlate first = xlate
arguments_by Code.Reverse first = reversed
arguments_by Code.Duplicate first = duplicate
arguments_by Code.Unique first = unique
arguments_by Code.Sort first = sort
arguments_by Code.Count first = count
arguments_by Code.Lookup first = OfParts (row before_ranges (of_ranges Kinds.Lookup))
arguments_by Code.Collate first = OfParts (row before_ranges (of_ranges Kinds.Collate))
arguments_by Code.Merge first = OfParts (row before_range (of_range Kinds.Merge))
arguments_by Code.FanOut first = no_arguments Kinds.FanOut
arguments_by Code.FanIn first = no_arguments Kinds.FanIn
arguments_by Code.FanInAny first = no_arguments Kinds.FanInAny
arguments_by Code.Deal first = no_arguments Kinds.Deal
arguments_by Code.Gather first = no_arguments Kinds.Gather
arguments_by Code.Overlay first = OfParts (row before_overlay of_overlay)
arguments_by Code.Synchronise first = no_arguments Kinds.Synchronise
arguments_by Code.Juxtapose first = no_arguments Kinds.Juxtapose
arguments_by Code.Gate first = no_arguments Kinds.Gate
arguments_by Code.Dam first = no_arguments Kinds.Dam
arguments_by Code.Elastic first = no_arguments Kinds.Elastic
arguments_by Code.Buffer first = no_arguments Kinds.Buffer
arguments_by Code.Copy first = no_arguments Kinds.Copy
arguments_by Code.Fblock first = fblock
arguments_by Code.Block first = block
arguments_by Code.Deblock first = deblock
arguments_by Code.Specs first = specs

-- TEXT is all that the stage has
abbrev pub is_text : Arguments → Bool
is_text (OfText make) = true
is_text (OfParts row) = false

-- what TEXT makes, where the stage has it
abbrev pub make_in : Arguments → Option (List ℕ) → Option Kind
make_in (OfText make) text = make text
make_in (OfParts row) text = None

-- the row of parts, where the stage has it
abbrev pub row_in : Arguments → Row
row_in (OfText make) = row none_next (λ values. None)
row_in (OfParts row) = row

-- a stage as the list in code has it, by its name in any case
abbrev pub named_as : Bool → Bor (List ℕ) × Form → Named
named_as first stage = record { name = str_to_ascii_lowercase stage.0.now; arguments = arguments_by stage.1 first }
