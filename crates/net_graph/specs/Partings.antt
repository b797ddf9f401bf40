-- Where the strands of stages stand, as the code has it.
use Rattle.std.specs.Prelude.{◌≡◌, ◌<◌, ℕ, suc, List, [], ◌∷◌, length, slice_get}
use Rattle.std.specs.declared.option.Option.TheVariants.{Some}
use Rattle.pipe_model.specs.declared.kind.Kind.{Kind}
use Rattle.pipe_model.specs.declared.net.Link.{Link}
use Rattle.pipe_model.specs.Form.{Parting as Table}
use Rattle.net_graph.specs.declared.parting.Parting.{Parting}
use Rattle.net_graph.specs.declared.parting.Parting.TheVariants.{Whole, Queued, Streamed}
use Rattle.net_graph.specs.declared.layout.Parts.{Parts}
use Rattle.net_graph.specs.Nets.{StageSize, first_number, parting_at}

-- the parting of the table
abbrev pub parting_is : Parting → Table
parting_is Whole = Table.Whole
parting_is Queued = Table.Queued
parting_is Streamed = Table.Streamed

-- the sizes of stages with so many later uses each, which are of these kinds
abbrev pub sizes_by : List ℕ → List Kind → List StageSize
sizes_by [] kinds = []
sizes_by (later ∷ more) [] = []
sizes_by (later ∷ more) (kind ∷ kinds) = record { kind = kind; streams = suc later } ∷ sizes_by more kinds

-- they say where the strands of the stage of this number stand
pub record AreOfStage (sizes : List StageSize) (stage : ℕ) (parts : Parts) : Type 0 where
  pub first : parts.first ≡ first_number sizes stage
  pub parting : parting_is parts.parting ≡ parting_at sizes stage

-- they are those of the stages of these sizes, one after another
pub record AreParts (parts : List Parts) (sizes : List StageSize) : Type 0 where
  pub count : length parts ≡ length sizes
  pub each : (stage : ℕ) (part : Parts) → slice_get parts stage ≡ Some part → AreOfStage sizes stage part

-- the stages of a join are among so many
abbrev pub IsWithin : ℕ → Link → Type 0
IsWithin count join = (join.from < count) × (join.to < count)
