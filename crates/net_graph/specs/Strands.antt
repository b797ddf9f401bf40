-- The strands of kinds, where the flags of the linked places and the numbers of later uses stand in lists.
use Rattle.std.specs.Prelude.{ℕ, suc, ◌+◌, ◌*◌, min, Bool, List, [], ◌∷◌, ◌++◌, map, take, drop}
use Rattle.std.specs.List.{range_with_len}
use Rattle.pipe_model.specs.declared.kind.Kind.{Kind}
use Rattle.pipe_model.specs.declared.net.Strand.{Strand}
use Rattle.pipe_model.specs.Nets.{part_strand, strand}
use Rattle.pipe_model.specs.WellFormed.{places_of}
use Rattle.net_graph.specs.Nets.{StageSize, inputs_of, outputs_of, parting_of, width_of}

-- the flags of the first places of a strand
abbrev pub row_by : List Bool → ℕ → ℕ → List Bool
row_by flags number places = take places (drop (64 * number) flags)

-- the only strand of a stage with so many later uses, which has this number
abbrev pub whole_by : List Bool → List Bool → ℕ → ℕ → Kind → ℕ → Strand
whole_by inputs outputs stage number kind later = strand stage kind (row_by inputs number (min (suc later) (inputs_of kind))) (row_by outputs number (min (suc later) (outputs_of kind)))

-- a strand of a stage that has several, the first of which has this number
abbrev pub part_by : List Bool → List Bool → ℕ → ℕ → Kind → ℕ → Strand
part_by inputs outputs stage first kind part = part_strand stage part kind (row_by inputs (first + part) 1) (row_by outputs (first + part) 1)

-- a strand of a stage, the first of which has this number
abbrev pub strand_by : List Bool → List Bool → ℕ → ℕ → StageSize → ℕ → Strand
strand_by inputs outputs stage first size part =
    part_strand stage part size.kind
    (row_by inputs (first + part) (places_of (parting_of size) (inputs_of size.kind) size.streams))
    (row_by outputs (first + part) (places_of (parting_of size) (outputs_of size.kind) size.streams))

-- the strands of a stage, the first of which has this number
abbrev pub parts_by : List Bool → List Bool → ℕ → ℕ → StageSize → List Strand
parts_by inputs outputs stage first size = map (strand_by inputs outputs stage first size) (range_with_len 0 (width_of size))

-- the strands of the stages from a number on, of which the first strand has this number
abbrev pub strands_by : List Bool → List Bool → ℕ → ℕ → List StageSize → List Strand
strands_by inputs outputs stage first [] = []
strands_by inputs outputs stage first (size ∷ more) = parts_by inputs outputs stage first size ++ strands_by inputs outputs (suc stage) (first + width_of size) more
