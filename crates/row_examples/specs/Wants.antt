-- What a stage wants from the start of its work to its end, where records come to its inputs in some order.
use Rattle.std.specs.Prelude.{ℕ, zero, suc, Bool, true, false, ◌==◌, if◌then◌else◌, List, [], ◌∷◌, pos, negsuc, codes, find, length, map, replicate}
use Prim.Native.String.{String}
use Rattle.std.specs.declared.option.Option.{Option}
use Rattle.std.specs.declared.option.Option.TheVariants.{Some, None}
use Rattle.pipe_model.specs.declared.kind.Kind.{Kind}
use Rattle.pipe_model.specs.declared.net.Strand.{Strand}
use Rattle.pipe_model.specs.Event.{Event, Want}
use Rattle.pipe_model.specs.Event.Event.{Up, Saw, SawEnd, SawAllEnd, Took, Put, Refused, Primed, Ended}
use Rattle.pipe_model.specs.Event.Want.{Commit, Read, Any, Gate, Take, Write, Prime, Done}
use Rattle.pipe_model.specs.Members.{has}
use Rattle.pipe_model.specs.Next.{next}
use Rattle.pipe_model.specs.Row.{Pair, without}
use Rattle.row_examples.specs.Acts.{records}

-- a strand of a stage of this kind, by which of its inputs and outputs are connected
abbrev pub part_of_stage : Kind → ℕ → List Bool → List Bool → Strand
part_of_stage kind part ins outs = record { name = []; kind = kind; part = part; unit = 0; ports = record { inputs = length ins; outputs = length outs; has_input = ins; has_output = outs } }

-- a look at an input sees its first record of those that come, or its end
abbrev pub seen_on : ℕ → Option Pair → Event
seen_on i None = SawEnd i
seen_on i (Some p) = Saw i p.1

-- a look at any input sees the first record that comes, or that none comes
abbrev pub seen_first : Event → List Pair → Event
seen_first at_end [] = at_end
seen_first at_end (p ∷ coming) = Saw p.0 p.1

abbrev pub comes_any : List Pair → Bool
comes_any [] = false
comes_any (p ∷ coming) = true

-- the answer to a want, by the outputs that refuse and the records that still come
abbrev pub answer_to : List ℕ → List Pair → Want → Event
answer_to refusing coming (Commit level) = Up level (pos 0)
answer_to refusing coming (Read i) = seen_on i (find (λ p. p.0 == i) coming)
answer_to refusing coming Any = seen_first SawAllEnd coming
answer_to refusing coming Gate = seen_first (SawEnd 0) coming
answer_to refusing coming (Take i) = Took i
answer_to refusing coming (Write o rec) = if has refusing o then Refused o else Put o rec
answer_to refusing coming Prime = Primed (comes_any coming)
answer_to refusing coming (Done code) = Ended code
answer_to refusing coming _ = Ended (pos 0)

-- what comes after it
abbrev pub left_by : Event → List Pair → List Pair
left_by (Took i) coming = without i coming
left_by _ coming = coming

-- a want, and those behind it, by how they go on after its answer
abbrev pub and_then : (Event → List Want) → (Want → Event) → Option Want → List Want
and_then more answer None = []
and_then more answer (Some want) = want ∷ more (answer want)

-- the next n wants behind a history
abbrev pub wants_behind : ℕ → Strand → List ℕ → List Pair → List Event → List Want
wants_behind zero s refusing coming h = []
wants_behind (suc n) s refusing coming h = and_then (λ e. wants_behind n s refusing (left_by e coming) (e ∷ h)) (answer_to refusing coming) (next s h)

-- the wants of a strand that has reached both commit levels, at most 99
abbrev pub wants_of_part : Strand → List ℕ → List Pair → List Want
wants_of_part s refusing coming = wants_behind 99 s refusing coming (Up (pos 0) (pos 0) ∷ Up (negsuc 0) (pos 0) ∷ [])

-- the wants of a stage of one strand, by which of its inputs and outputs are connected
abbrev pub wants_of : Kind → List Bool → List Bool → List Pair → List Want
wants_of kind ins outs coming = wants_of_part (part_of_stage kind 0 ins outs) [] coming

-- the same where some outputs refuse
abbrev pub wants_refused : List ℕ → Kind → List Bool → List Bool → List Pair → List Want
wants_refused refusing kind ins outs coming = wants_of_part (part_of_stage kind 0 ins outs) refusing coming

-- the pairs among the wants
abbrev pub written : List Want → List Pair
written [] = []
written (Write o rec ∷ wants) = (o, rec) ∷ written wants
written (_ ∷ wants) = written wants

-- the pairs that a stage writes
abbrev pub written_by : Kind → List Bool → List Bool → List Pair → List Pair
written_by kind ins outs coming = written (wants_of kind ins outs coming)

-- Words for examples

-- so many connected inputs or outputs
abbrev pub all : ℕ → List Bool
all n = replicate n true

-- the records between bars, on one stream
abbrev pub on : ℕ → String → List Pair
on stream text = map (λ rec. (stream, rec)) (records text)

abbrev pub writes : ℕ → String → Want
writes output text = Write output (codes text)

abbrev pub ends : Want
ends = Done (pos 0)
