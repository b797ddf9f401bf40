-- The strands of stages one by one.
use Rattle.std.proofs.Common.{◌≡◌, ◌≢◌, ℕ, suc, ◌+◌, ◌<◌, Bool, List, [], ◌∷◌, ◌++◌, ◌∙◌, length, length-append, map, get_or, drop, refl, ap, ap₂, sym, arith, append_assoc, add-one}
use Rattle.std.specs.Prelude.{sum_by}
use Rattle.std.specs.List.{range_with_len}
use Rattle.std.proofs.lemmas.List.{drop_more}
use Rattle.std.proofs.lemmas.List.FromFn.{length-map-range_with_len, map-range_with_len_more}
use Rattle.std.proofs.lemmas.List.Sums.{sum_by-cons}
use Rattle.pipe_model.specs.declared.kind.Kind.{Kind}
use Rattle.pipe_model.specs.declared.net.Strand.{Strand}
use Rattle.pipe_model.specs.Form.{Parting as Table, parting_by}
use Rattle.pipe_model.specs.Nets.{part_strand}
use Rattle.pipe_model.specs.Table.{line_of}
use Rattle.pipe_model.specs.WellFormed.{places_of, strands_of}
use Rattle.net_graph.specs.declared.parting.Parting.{Parting}
use Rattle.net_graph.specs.declared.parting.Parting.TheVariants.{Whole, Queued, Streamed}
use Rattle.net_graph.specs.Nets.{StageSize, inputs_of, outputs_of, width_of}
use Rattle.net_graph.specs.Partings.{parting_is, sizes_by}
use Rattle.net_graph.specs.Strands.{part_by, parts_by, row_by, strand_by, strands_by}

module _ (inputs outputs : List Bool) (stage : ℕ) where
  -- The strands of a stage that has several

  module _ (kind : Kind) (old new : List Strand) (count : ℕ) (same : new ≡ old ++ map (part_by inputs outputs stage (length old) kind) (range_with_len 0 count)) where
    pub parts_size : length new ≡ length old + count
    parts_size =
        ap length same
        ∙ (length-append old (map (part_by inputs outputs stage (length old) kind) (range_with_len 0 count))
        ∙ ap (λ (n : ℕ). length old + n) (length-map-range_with_len (part_by inputs outputs stage (length old) kind) 0 count))

    -- one more
    pub one_part : (next : List Strand) (strand : Strand) (number : ℕ) → number ≡ length new → next ≡ new ++ strand ∷ [] → strand ≡ part_strand stage count kind (row_by inputs number 1) (row_by outputs number 1) →
        next ≡ old ++ map (part_by inputs outputs stage (length old) kind) (range_with_len 0 (count + 1))
    one_part next strand number number_is next_is strand_is =
        let part = part_by inputs outputs stage (length old) kind in
        let here : strand ≡ part count = strand_is ∙ ap (λ (n : ℕ). part_strand stage count kind (row_by inputs n 1) (row_by outputs n 1)) (number_is ∙ parts_size) in
        next_is
        ∙ (ap₂ (λ (front : List Strand) (last : Strand). front ++ last ∷ []) same here
        ∙ (append_assoc old (map part (range_with_len 0 count)) (part count ∷ [])
        ∙ ap (λ (parts : List Strand). old ++ parts) (sym (map-range_with_len_more part 0 count count (omega arith)))))

  module _ (first : ℕ) (kind : Kind) (later : ℕ) where
    abbrev size : StageSize
    size = record { kind = kind; streams = suc later }

    abbrev parts_as : Table → List Strand
    parts_as parting = map (λ (part : ℕ). part_strand stage part kind (row_by inputs (first + part) (places_of parting (inputs_of kind) (suc later))) (row_by outputs (first + part) (places_of parting (outputs_of kind) (suc later)))) (range_with_len 0 (strands_of parting (suc later)))

    several : (parting : Parting) → parting ≢ Whole → map (part_by inputs outputs stage first kind) (range_with_len 0 (strands_of (parting_is parting) (suc later))) ≡ parts_as (parting_is parting)
    several Whole other = absurd (other refl)
    several Queued other = refl
    several Streamed other = refl

    -- they are those of the stage
    pub several_parts : (parting : Parting) → parting_is parting ≡ parting_by (line_of kind).shape → parting ≢ Whole → (count : ℕ) → count ≡ strands_of (parting_is parting) (later + 1) →
        map (part_by inputs outputs stage first kind) (range_with_len 0 count) ≡ parts_by inputs outputs stage first size
    several_parts parting is other count count_is =
        ap (λ (n : ℕ). map (part_by inputs outputs stage first kind) (range_with_len 0 n)) (count_is ∙ ap (strands_of (parting_is parting)) (add-one later))
        ∙ (several parting other ∙ ap parts_as is)

-- Stages one after another

module _ (inputs outputs : List Bool) (later : List ℕ) (stage : ℕ) (below : stage < length later) (kind : Kind) (kinds left : List Kind) (left_is : left ≡ kind ∷ kinds) where
  abbrev here : StageSize
  here = record { kind = kind; streams = suc (get_or later stage 0) }

  -- the sizes of the stages that are left begin with that of the next
  pub sizes_left : sizes_by (drop stage later) left ≡ here ∷ sizes_by (drop (stage + 1) later) kinds
  sizes_left = ap₂ (λ (counts : List ℕ) (kinds : List Kind). sizes_by counts kinds) (drop_more later stage 0 below) left_is

  pub width_left : sum_by width_of (sizes_by (drop stage later) left) ≡ width_of here + sum_by width_of (sizes_by (drop (stage + 1) later) kinds)
  width_left = ap (sum_by width_of) sizes_left ∙ sum_by-cons width_of here (sizes_by (drop (stage + 1) later) kinds)

  module _ (old new : List Strand) (new_is : new ≡ old ++ parts_by inputs outputs stage (length old) here) where
    pub one_longer : length new ≡ length old + width_of here
    one_longer =
        ap length new_is
        ∙ (length-append old (parts_by inputs outputs stage (length old) here)
        ∙ ap (λ (n : ℕ). length old + n) (length-map-range_with_len (strand_by inputs outputs stage (length old) here) 0 (width_of here)))

    pub one_stage : new ++ strands_by inputs outputs (stage + 1) (length new) (sizes_by (drop (stage + 1) later) kinds) ≡ old ++ strands_by inputs outputs stage (length old) (sizes_by (drop stage later) left)
    one_stage =
        let more = sizes_by (drop (stage + 1) later) kinds in
        ap₂ (λ (strands : List Strand) (first : ℕ). strands ++ strands_by inputs outputs (stage + 1) first more) new_is one_longer
        ∙ (append_assoc old (parts_by inputs outputs stage (length old) here) (strands_by inputs outputs (stage + 1) (length old + width_of here) more)
        ∙ (ap (λ (n : ℕ). old ++ (parts_by inputs outputs stage (length old) here ++ strands_by inputs outputs n (length old + width_of here) more)) (add-one stage)
        ∙ ap (λ (sizes : List StageSize). old ++ strands_by inputs outputs stage (length old) sizes) (sym sizes_left)))
