-- Where the strands of stages stand, as the code lays them out.
use Rattle.std.proofs.Common.{◌≡◌, ◌≢◌, ℕ, zero, suc, ◌+◌, ◌≤◌, ◌<◌, List, [], ◌∷◌, ◌++◌, ◌∙◌, length, drop, get_or, refl, ap, ap₂, sym, subst, arith, append_assoc, add-one, Option, Some, slice_get, inl, inr}
use Rattle.std.specs.Prelude.{sum_by}
use Rattle.std.specs.Option.{option_map_or}
use Rattle.std.proofs.lemmas.List.{drop_more}
use Rattle.std.proofs.lemmas.Option.{get_or_from_slice_get, slice_get-get_or}
use Rattle.pipe_model.specs.declared.kind.Kind.{Kind}
use Rattle.pipe_model.specs.declared.net.Link.{Link}
use Rattle.pipe_model.specs.Nets.{rendezvous}
use Rattle.pipe_model.specs.Form.{Parting as Table, parting_by}
use Rattle.pipe_model.specs.Form.Parting.{Whole, Queued, Streamed}
use Rattle.pipe_model.specs.Table.{line_of}
use Rattle.pipe_model.specs.WellFormed.{strands_of}
use Rattle.pipe_model.proofs.Lists.{at_some}
use Rattle.net_graph.specs.declared.layout.Parts.{Parts}
use Rattle.net_graph.specs.declared.parting.Parting.{Parting}
use Rattle.net_graph.specs.declared.parting.Parting.TheVariants as Has
use Rattle.net_graph.specs.Nets.{StageSize, first_number, link_of, parting_at, parting_of, part_in, part_out, queue_of, queues_from, stream_place, width_of}
use Rattle.net_graph.specs.Partings.{AreOfStage, AreParts, IsWithin, parting_is, sizes_by}
use Rattle.net_graph.proofs.FormedLists.{get_more}
use Rattle.net_graph.proofs.Widths.{first_next, first_within}

-- The sizes of stages

size_at : (later : List ℕ) (kinds : List Kind) → length later ≡ length kinds → (stage : ℕ) (kind : Kind) → slice_get kinds stage ≡ Some kind →
    slice_get (sizes_by later kinds) stage ≡ Some (record { kind = kind; streams = suc (get_or later stage 0) })
size_at [] [] each stage kind there = cc
size_at [] (other ∷ kinds) each stage kind there = absurd (omega (arith, each))
size_at (count ∷ later) [] each stage kind there = cc
size_at (count ∷ later) (other ∷ kinds) each zero kind there =
    let same : other ≡ kind = cc in
    ap (λ (kind : Kind). let size : StageSize = record { kind = kind; streams = suc count } in Some size) same
size_at (count ∷ later) (other ∷ kinds) each (suc stage) kind there = size_at later kinds (omega (arith, each)) stage kind there

-- each stage has its size
pub sizes_count : (later : List ℕ) (kinds : List Kind) → length later ≡ length kinds → length (sizes_by later kinds) ≡ length kinds
sizes_count [] [] each = refl
sizes_count [] (kind ∷ kinds) each = each
sizes_count (count ∷ later) [] each = refl
sizes_count (count ∷ later) (kind ∷ kinds) each = ap suc (sizes_count later kinds (omega (arith, each)))

-- a stage with a stream has a strand
some_parts : (parting : Table) (more : ℕ) → 1 ≤ strands_of parting (suc more)
some_parts Whole more = omega arith
some_parts Queued more = omega arith
some_parts Streamed more = omega arith

module _ (later : List ℕ) (kinds : List Kind) (each : length later ≡ length kinds) where
  abbrev all_sizes : List StageSize
  all_sizes = sizes_by later kinds

  module _ (stage : ℕ) (kind : Kind) (there : slice_get kinds stage ≡ Some kind) where
    abbrev size : StageSize
    size = record { kind = kind; streams = suc (get_or later stage 0) }

    pub size_there : slice_get all_sizes stage ≡ Some size
    size_there = size_at later kinds each stage kind there

    next : first_number all_sizes (suc stage) ≡ first_number all_sizes stage + width_of size
    next = first_next all_sizes stage size size_there

    -- the stage begins at a number that is small
    pub small_first : sum_by width_of all_sizes ≤ 65536 → first_number all_sizes stage < 65536
    small_first few = omega (arith, next, first_within all_sizes (suc stage), some_parts (parting_of size) (get_or later stage 0))

    -- where its strands stand
    pub part_is : (parting : Parting) → parting_is parting ≡ parting_by (line_of kind).shape → (first : ℕ) → first ≡ first_number all_sizes stage → AreOfStage all_sizes stage (record { first = first; parting = parting })
    part_is parting is first first_is = record { first = first_is; parting = is ∙ sym (ap (λ (found : Option StageSize). option_map_or parting_of found Whole) size_there) }

    -- and where those of the next stage begin
    pub next_first : (parting : Parting) → parting_is parting ≡ parting_by (line_of kind).shape → (first : ℕ) → first ≡ first_number all_sizes stage →
        first + strands_of (parting_is parting) (get_or later stage 0 + 1) ≡ first_number all_sizes (stage + 1)
    next_first parting is first first_is =
        ap₂ (λ (first : ℕ) (parting : Table). first + strands_of parting (get_or later stage 0 + 1)) first_is is
        ∙ (ap (λ (streams : ℕ). first_number all_sizes stage + strands_of (parting_by (line_of kind).shape) streams) (add-one (get_or later stage 0)) ∙ (sym next ∙ ap (first_number all_sizes) (sym (add-one stage))))

-- Parts

-- the stage of a number among parts
part_at : (parts : List Parts) (sizes : List StageSize) (stage : ℕ) (d : Parts) → AreParts parts sizes → stage < length parts → AreOfStage sizes stage (get_or parts stage d)
part_at parts sizes stage d are below = are.each stage (get_or parts stage d) (slice_get-get_or parts stage d below)

-- one stage more
pub each_pushed : (sizes : List StageSize) (parts new : List Parts) (part : Parts) (stage : ℕ) → length parts ≡ stage → ((k : ℕ) (p : Parts) → slice_get parts k ≡ Some p → AreOfStage sizes k p) →
    new ≡ parts ++ part ∷ [] → AreOfStage sizes stage part → (k : ℕ) (p : Parts) → slice_get new k ≡ Some p → AreOfStage sizes k p
each_pushed sizes parts new part stage count each new_is is k p there =
    elim (get_more parts part k p (ap (λ (ps : List Parts). slice_get ps k) (sym new_is) ∙ there)) [
      | inl before ↦ each k p before
      | inr last ↦ (let number : stage ≡ k = omega arith in subst (AreOfStage sizes k) (sym last.1) (subst (λ (n : ℕ). AreOfStage sizes n part) number is))
    ]

-- the link of a join
pub link_laid : (parts : List Parts) (sizes : List StageSize) (join : Link) (d : Parts) → AreParts parts sizes → IsWithin (length parts) join →
    let source = get_or parts join.from d in
    let target = get_or parts join.to d in
    rendezvous (source.first + part_out (parting_is source.parting) join.output) (stream_place (parting_is source.parting) join.output) (target.first + part_in (parting_is target.parting) join.input) (stream_place (parting_is target.parting) join.input) ≡ link_of sizes join
link_laid parts sizes join d are within =
    let source = part_at parts sizes join.from d are within.0 in
    let target = part_at parts sizes join.to d are within.1 in
    rw (source.first, source.parting, target.first, target.parting) refl

-- the queues from a stage on
queues_next : (parts : List Parts) (sizes : List StageSize) (stage : ℕ) (d : Parts) → AreParts parts sizes → stage < length parts →
    queues_from sizes stage (drop stage sizes) ≡ queue_of (parting_is (get_or parts stage d).parting) (get_or parts stage d).first ++ queues_from sizes (stage + 1) (drop (stage + 1) sizes)
queues_next parts sizes stage d are below =
    let here = part_at parts sizes stage d are below in
    let found = at_some sizes stage (omega (arith, are.count)) in
    let size : get_or sizes stage found.0 ≡ found.0 = get_or_from_slice_get sizes stage found.0 found.0 found.1 in
    let left : drop stage sizes ≡ found.0 ∷ drop (stage + 1) sizes = drop_more sizes stage found.0 (omega (arith, are.count)) ∙ ap (λ (s : StageSize). s ∷ drop (stage + 1) sizes) size in
    let parting : parting_at sizes stage ≡ parting_of found.0 = ap (λ (found : Option StageSize). option_map_or parting_of found Whole) found.1 in
    ap (queues_from sizes stage) left
    ∙ (ap₂ (λ (parting : Table) (first : ℕ). queue_of parting first ++ queues_from sizes (suc stage) (drop (stage + 1) sizes)) (sym (here.parting ∙ parting)) (sym here.first)
    ∙ ap (λ (n : ℕ). queue_of (parting_is (get_or parts stage d).parting) (get_or parts stage d).first ++ queues_from sizes n (drop (stage + 1) sizes)) (sym (add-one stage)))

-- with the queue of a stage, those from the next one on are left
pub queues_on : (parts : List Parts) (sizes : List StageSize) (stage : ℕ) (d : Parts) → AreParts parts sizes → stage < length parts → (old new queue : List Link) →
    queue ≡ queue_of (parting_is (get_or parts stage d).parting) (get_or parts stage d).first → new ≡ old ++ queue →
    new ++ queues_from sizes (stage + 1) (drop (stage + 1) sizes) ≡ old ++ queues_from sizes stage (drop stage sizes)
queues_on parts sizes stage d are below old new queue queue_is new_is =
    let left = queues_from sizes (stage + 1) (drop (stage + 1) sizes) in
    ap (λ (links : List Link). links ++ left) new_is
    ∙ (append_assoc old queue left
    ∙ ap (λ (links : List Link). old ++ links) (ap (λ (links : List Link). links ++ left) queue_is ∙ sym (queues_next parts sizes stage d are below)))

pub none_queued : (parting : Parting) (first : ℕ) → parting ≢ Has.Queued → queue_of (parting_is parting) first ≡ []
none_queued Has.Whole first other = refl
none_queued Has.Queued first other = absurd (other refl)
none_queued Has.Streamed first other = refl

pub one_queued : (parting : Parting) (first : ℕ) (link : Link) → link ∷ [] ≡ queue_of Queued first → parting ≡ Has.Queued → link ∷ [] ≡ queue_of (parting_is parting) first
one_queued parting first link link_is is = link_is ∙ sym (ap (λ (parting : Parting). queue_of (parting_is parting) first) is)
