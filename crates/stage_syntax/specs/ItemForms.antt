-- The arguments of SPECS: a list of items, and with EOF another. They are read one after another; what was read so far says what may come next.
use Rattle.std.specs.Prelude.{ℕ, Bool, true, false, List, [], ◌∷◌, ◌++◌, fold, is_some}
use Rattle.std.specs.declared.option.Option.{Option}
use Rattle.std.specs.declared.option.Option.TheVariants.{Some, None}
use Rattle.pipe_model.specs.declared.items.Align.{Align}
use Rattle.pipe_model.specs.declared.items.Align.TheVariants as Aligns
use Rattle.pipe_model.specs.declared.items.Amount.TheVariants as Amounts
use Rattle.pipe_model.specs.declared.items.Convert.{Convert}
use Rattle.pipe_model.specs.declared.items.Convert.TheVariants as Converts
use Rattle.pipe_model.specs.declared.items.Item.{Item}
use Rattle.pipe_model.specs.declared.items.Item.TheVariants as Items
use Rattle.pipe_model.specs.declared.items.Origin.{Origin}
use Rattle.pipe_model.specs.declared.items.Origin.TheVariants as Origins
use Rattle.pipe_model.specs.declared.items.SetOp.{SetOp}
use Rattle.pipe_model.specs.declared.items.SetOp.TheVariants as Ops
use Rattle.pipe_model.specs.declared.kind.Kind.{Kind}
use Rattle.pipe_model.specs.declared.kind.Kind.TheVariants.{Specs}
use Rattle.stage_syntax.specs.declared.item_lists.ItemState.{ItemState}
use Rattle.stage_syntax.specs.declared.item_lists.ItemState.TheVariants.{Front, Between, Printing, Putting, Placing, Padding, Setting, Counting, Giving, Numbering}
use Rattle.stage_syntax.specs.declared.item_parts.Due.{Due}
use Rattle.stage_syntax.specs.declared.item_parts.Due.TheVariants as Comes
use Rattle.stage_syntax.specs.declared.item_parts.Progress.{Progress}
use Rattle.argument_parts.specs.declared.part.Part.{Part}
use Rattle.argument_parts.specs.declared.part.Part.TheVariants as Asked
use Rattle.argument_parts.specs.declared.part.Value.{Value}
use Rattle.argument_parts.specs.declared.part.Value.TheVariants as Read
use Rattle.argument_parts.specs.declared.part.Word.TheVariants as Words
use Rattle.stage_syntax.specs.Forms.{row}
use Rattle.stage_syntax.specs.Rows.{Arguments}
use Rattle.stage_syntax.specs.Rows.Arguments.{OfParts}

-- What was read

pub record Draft : Type 0 where
  -- the whole items of the list that is read
  pub items : List Item
  -- the list before EOF, where that came
  pub before : Option (List Item)
  -- the item that isn't whole yet
  pub state : ItemState

abbrev pub nothing_read : Draft
nothing_read = record { items = []; before = None; state = Front }

abbrev pub with_state : ItemState → Draft → Draft
with_state state d = record d { state = state }

-- an item is whole
abbrev pub with_item : Item → Draft → Draft
with_item item d = record d { items = d.items ++ item ∷ []; state = Between }

-- the first argument of an item, or EOF
abbrev pub begun : Value → Draft → Draft
begun (Read.Range range) d = with_state (Putting (Origins.Cut range) false None) d
begun (Read.String string) d = with_state (Putting (Origins.Text string) false None) d
begun (Read.Word Words.Number) d = with_state (Putting Origins.Number false None) d
begun (Read.Word Words.Print) d = with_state Printing d
begun (Read.Word Words.Read) d = with_item Items.Read d
begun (Read.Word Words.Write) d = with_item Items.Write d
begun (Read.Word Words.Pad) d = with_state Padding d
begun (Read.Word Words.Set) d = with_state Setting d
begun (Read.Word Words.Eof) d = record { items = []; before = Some d.items; state = Between }
begun value d = d

-- what is to be made of a field, or its place
abbrev pub put : Origin → Bool → Option Convert → Value → Draft → Draft
put origin strip convert (Read.Word Words.Strip) d = with_state (Putting origin true convert) d
put origin strip convert (Read.Word Words.C2x) d = with_state (Putting origin strip (Some Converts.C2x)) d
put origin strip convert (Read.Word Words.X2c) d = with_state (Putting origin strip (Some Converts.X2c)) d
put origin strip convert (Read.Spot spot) d = with_state (Placing origin strip convert spot) d
put origin strip convert value d = d

-- how a field is aligned, at the left where that isn't given
abbrev pub align_of : Value → Option Align
align_of (Read.Word Words.Left) = Some Aligns.Left
align_of (Read.Word Words.Center) = Some Aligns.Center
align_of (Read.Word Words.Right) = Some Aligns.Right
align_of value = None

-- the field is whole, and the next item begins where it isn't aligned
abbrev pub with_field : (Align → Item) → Option Align → Value → Draft → Draft
with_field field (Some align) value d = with_item (field align) d
with_field field None value d = begun value (with_item (field Aligns.Left) d)

abbrev pub op_of : Value → Option SetOp
op_of (Read.Word Words.Put) = Some Ops.Put
op_of (Read.Word Words.Add) = Some Ops.Add
op_of (Read.Word Words.Subtract) = Some Ops.Subtract
op_of value = None

abbrev pub with_op : ℕ → Option SetOp → Draft → Draft
with_op k (Some op) d = with_state (Giving k op) d
with_op k None d = d

-- a value for a counter, or NUM
abbrev pub given : ℕ → SetOp → Value → Draft → Draft
given k op (Read.Whole number) d = with_item (Items.Set k op (Amounts.Whole number)) d
given k op (Read.Counter other) d = with_item (Items.Set k op (Amounts.Counter other)) d
given k op (Read.Word Words.Num) d = with_state (Numbering k op) d
given k op value d = d

-- one more argument
abbrev pub more : ItemState → Value → Draft → Draft
more Front value d = begun value d
more Between value d = begun value d
more Printing (Read.Counter k) d = with_state (Putting (Origins.Print k) false None) d
more (Putting origin strip convert) value d = put origin strip convert value d
more (Placing origin strip convert spot) value d = with_field (Items.Field origin strip convert spot) (align_of value) value d
more Padding (Read.Byte byte) d = with_item (Items.Pad byte) d
more Setting (Read.Counter k) d = with_state (Counting k) d
more (Counting k) value d = with_op k (op_of value) d
more (Giving k op) value d = given k op value d
more (Numbering k op) (Read.Range range) d = with_item (Items.Set k op (Amounts.Number range)) d
more _ value d = d

abbrev pub draft_after : Draft → Value → Draft
draft_after d value = more d.state value d

-- what these arguments make
abbrev pub draft_of : List Value → Draft
draft_of values = fold draft_after nothing_read values

-- What may come next

abbrev pub due_of : ItemState → Due
due_of Front = Comes.First
due_of Between = Comes.Item
due_of Printing = Comes.Printed
due_of (Putting origin false None) = Comes.Strip
due_of (Putting origin true None) = Comes.Convert
due_of (Putting origin strip (Some convert)) = Comes.Place
due_of (Placing origin strip convert spot) = Comes.Align
due_of Padding = Comes.Byte
due_of Setting = Comes.Counter
due_of (Counting k) = Comes.Op
due_of (Giving k op) = Comes.Amount
due_of (Numbering k op) = Comes.Range

abbrev pub progress_of : Draft → Progress
progress_of d = record { due = due_of d.state; in_eof = is_some d.before }

abbrev pub sources : List Part
sources = Asked.Range ∷ (Asked.Word Words.Number ∷ (Asked.AnyString ∷ (Asked.Word Words.Print ∷ [])))

abbrev pub others : List Part
others = Asked.Word Words.Write ∷ (Asked.Word Words.Pad ∷ (Asked.Word Words.Set ∷ []))

-- an item of the first list, or of the list behind EOF, which has no READ
abbrev pub items_before : Bool → List Part
items_before false = sources ++ Asked.Word Words.Read ∷ (others ++ Asked.Word Words.Eof ∷ [])
items_before true = sources ++ others

abbrev pub parts_of : Due → Bool → List Part
parts_of Comes.First in_eof = sources ++ Asked.Word Words.Read ∷ others
parts_of Comes.Item in_eof = items_before in_eof
parts_of Comes.Printed in_eof = Asked.Counter ∷ []
parts_of Comes.Strip in_eof = Asked.Word Words.Strip ∷ (Asked.Word Words.C2x ∷ (Asked.Word Words.X2c ∷ (Asked.Spot ∷ [])))
parts_of Comes.Convert in_eof = Asked.Word Words.C2x ∷ (Asked.Word Words.X2c ∷ (Asked.Spot ∷ []))
parts_of Comes.Place in_eof = Asked.Spot ∷ []
parts_of Comes.Align in_eof = Asked.Word Words.Left ∷ (Asked.Word Words.Center ∷ (Asked.Word Words.Right ∷ items_before in_eof))
parts_of Comes.Byte in_eof = Asked.Byte ∷ []
parts_of Comes.Counter in_eof = Asked.Counter ∷ []
parts_of Comes.Op in_eof = Asked.Word Words.Put ∷ (Asked.Word Words.Add ∷ (Asked.Word Words.Subtract ∷ []))
parts_of Comes.Amount in_eof = Asked.Whole ∷ (Asked.Counter ∷ (Asked.Word Words.Num ∷ []))
parts_of Comes.Range in_eof = Asked.Range ∷ []

abbrev pub parts_at : Progress → List Part
parts_at p = parts_of p.due p.in_eof

abbrev pub before_specs : List Value → List Part
before_specs values = parts_at (progress_of (draft_of values))

-- What the arguments make

abbrev pub lists_of : Option (List Item) → List Item → Kind
lists_of None items = Specs items None
lists_of (Some before) items = Specs before (Some items)

-- where no item lacks anything
abbrev pub made_by : ItemState → Draft → Option Kind
made_by Between d = Some (lists_of d.before d.items)
made_by (Placing origin strip convert spot) d = Some (lists_of d.before (d.items ++ Items.Field origin strip convert spot Aligns.Left ∷ []))
made_by _ d = None

abbrev pub of_specs : List Value → Option Kind
of_specs values = made_by (draft_of values).state (draft_of values)

abbrev pub specs : Arguments
specs = OfParts (row before_specs of_specs)
