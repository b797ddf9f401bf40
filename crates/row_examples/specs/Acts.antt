-- What a stage that reads at most one input does over all its records, where every write is taken.
use Rattle.std.specs.Prelude.{ℕ, Bool, true, false, ◌==◌, List, [], ◌∷◌, ◌++◌, ℤ, pos, codes, filter, length}
use Prim.Native.String.{String}
use Rattle.std.specs.List.{slice_split}
use Rattle.std.specs.declared.option.Option.TheVariants.{Some, None}
use Rattle.pipe_model.specs.declared.kind.Kind.{Kind}
use Rattle.pipe_model.specs.declared.net.Strand.{Strand}
use Rattle.pipe_model.specs.declared.range.Range.{Range}
use Rattle.pipe_model.specs.declared.range.Span.TheVariants.{Columns, Words, Fields}
use Rattle.pipe_model.specs.Event.Event.{Saw, SawEnd}
use Rattle.pipe_model.specs.Next.{is_live, hears, nothing_known}
use Rattle.pipe_model.specs.Row.{Act, Goal, Plan, Known, Row}
use Rattle.pipe_model.specs.Row.Act.{Writes, Takes}
use Rattle.pipe_model.specs.Row.Goal.{Asks, Ends}
use Rattle.pipe_model.specs.Shape.{Records}
use Rattle.pipe_model.specs.Table.{form}

-- a strand of this kind with one input and these outputs, of which some are connected
abbrev pub strand : Kind → List Bool → Strand
strand kind outputs = record { name = []; kind = kind; part = 0; unit = 0; ports = record { inputs = 1; outputs = length outputs; has_input = true ∷ []; has_output = outputs } }

-- these plans, where it reads on
abbrev pub if_reads : Goal → List Plan → List Plan
if_reads (Asks want) plans = plans
if_reads (Ends code) plans = []

-- its plans from what it knows: one at each of the records, and one at their end
abbrev pub plans_from : Row → Known → Records → List Plan
plans_from row k [] = row.plan k ∷ if_reads (row.plan k).goal (row.plan (hears k (SawEnd 0)) ∷ [])
plans_from row k (rec ∷ recs) = row.plan k ∷ if_reads (row.plan k).goal (plans_from row (hears k (Saw 0 rec)) recs)

abbrev pub plans_over : Kind → List Bool → Records → List Plan
plans_over kind outputs recs = plans_from (form (strand kind outputs)).row nothing_known recs

-- the acts of some plans that can be done
abbrev pub acts_in : List Bool → List Plan → List Act
acts_in outputs [] = []
acts_in outputs (plan ∷ plans) = filter (is_live outputs []) plan.acts ++ acts_in outputs plans

-- the acts of a stage with these outputs over these records and their end, in order
abbrev pub acts_over : Kind → List Bool → Records → List Act
acts_over kind outputs recs = acts_in outputs (plans_over kind outputs recs)

abbrev pub code_of : Goal → ℤ
code_of (Asks want) = pos 0
code_of (Ends code) = code

abbrev pub last_code : List Plan → ℤ
last_code [] = pos 0
last_code (plan ∷ []) = code_of plan.goal
last_code (plan ∷ next ∷ plans) = last_code (next ∷ plans)

-- the code with which it ends
abbrev pub code_over : Kind → List Bool → Records → ℤ
code_over kind outputs recs = last_code (plans_over kind outputs recs)

-- Words for examples

-- the records that stand between bars
abbrev pub records : String → Records
records text = slice_split (λ b. b == 124) (codes text)

-- one output, which is connected
abbrev pub one : List Bool
one = true ∷ []

-- two outputs, both connected
abbrev pub both : List Bool
both = true ∷ true ∷ []

-- two outputs, of which only the second is connected
abbrev pub second : List Bool
second = false ∷ true ∷ []

-- one output, which isn't connected
abbrev pub none : List Bool
none = false ∷ []

-- parts of a record from a first one to a last one
abbrev pub columns : ℕ → ℕ → Range
columns first last = record { span = Columns; first = first; last = Some last }

abbrev pub words : ℕ → ℕ → Range
words first last = record { span = Words; first = first; last = Some last }

abbrev pub fields : ℕ → ℕ → Range
fields first last = record { span = Fields; first = first; last = Some last }

-- columns from one on
abbrev pub columns_from : ℕ → Range
columns_from first = record { span = Columns; first = first; last = None }

-- it writes the text on the output
abbrev pub to : ℕ → String → Act
to output text = Writes output (codes text)

-- it takes the record at hand
abbrev pub takes : Act
takes = Takes 0
