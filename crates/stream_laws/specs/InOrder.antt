-- What a strand by itself puts on all its outputs together, in the order in which it puts it.
use Rattle.std.specs.Prelude.{◌≡◌, ◌==◌, ◌||◌, if◌then◌else◌, ℕ, Bool, true, List, [], ◌∷◌, ◌++◌, filter}
use Rattle.pipe_model.specs.declared.net.Strand.{Strand}
use Rattle.pipe_model.specs.declared.range.Range.{Range}
use Rattle.pipe_model.specs.Event.{Event}
use Rattle.pipe_model.specs.Event.Event.{Put}
use Rattle.pipe_model.specs.Row.{Pair}
use Rattle.pipe_model.specs.Shape.{Records, Shape}
use Rattle.pipe_model.specs.Shape.Shape.{Absent, Sources, Lists, Sinks, Dams, Queues}
use Rattle.pipe_model.specs.Form.{are_finite}
use Rattle.pipe_model.specs.Members.{flag_at}
use Rattle.pipe_model.specs.Ranges.{part_of}
use Rattle.pipe_model.specs.Keys.{is_less}
use Rattle.pipe_model.specs.Counts.{all_on}
use Rattle.pipe_model.specs.JoiningRows.{agree}
use Rattle.pipe_model.specs.Alone.{Given}
use Rattle.pipe_model.specs.Listed.{pairs_of}

-- the pairs that were put, the oldest first
abbrev pub puts_of : List Event → List Pair
puts_of [] = []
puts_of (Put o rec ∷ h) = puts_of h ++ (o, rec) ∷ []
puts_of (_ ∷ h) = puts_of h

-- of some pairs those to outputs that are connected
abbrev pub connected : List Bool → List Pair → List Pair
connected outputs pairs = filter (λ p. flag_at outputs p.0) pairs

-- it put these pairs in this order, but those to outputs that aren't connected
abbrev pub PutsInOrder : Strand → List Event → List Pair → Type 0
PutsInOrder s h pairs = puts_of h ≡ connected s.ports.has_output pairs

-- what a strand of the shape puts by itself, where one list of records decides it and each of them causes a finite list of pairs;
-- a later strand of a DAM puts nothing where the first one sees no record
abbrev pub IsListedInOrder : Strand → Shape → Given → List Event → Type 0
IsListedInOrder s Absent g h = PutsInOrder s h []
IsListedInOrder s (Sources pairs) g h = PutsInOrder s h pairs
IsListedInOrder s (Lists order t) g h = are_finite (t s.ports.has_output).outs ≡ true → PutsInOrder s h (pairs_of (t s.ports.has_output) (g.inputs 0))
IsListedInOrder s (Sinks keeping) g h = PutsInOrder s h (all_on 0 (g.inputs 0))
IsListedInOrder s Queues g h = PutsInOrder s h (all_on 0 (g.inputs 0))
IsListedInOrder s Dams g h = PutsInOrder s h (if s.part == 0 || g.primed then all_on 0 (g.inputs 0) else [])
IsListedInOrder s _ g h = Unit {0}

-- a master before the details of its key, or alone where there are none
abbrev pub with_its_details : List ℕ → Records → List Pair
with_its_details master [] = all_on 1 (master ∷ [])
with_its_details master (detail ∷ details) = all_on 0 (master ∷ detail ∷ details)

-- COLLATE, where the details are sorted: before each master the details of lesser keys, and then it with those of its key;
-- last the details that are left
abbrev pub collated_in_order : Range → Range → Records → Records → List Pair
collated_in_order of_master of_detail [] details = all_on 2 details
collated_in_order of_master of_detail (master ∷ masters) details =
    all_on 2 (filter (λ detail. is_less (part_of of_detail detail) (part_of of_master master)) details)
    ++ (with_its_details master (filter (agree of_master of_detail master) details)
    ++ collated_in_order of_master of_detail masters (filter (λ detail. is_less (part_of of_master master) (part_of of_detail detail)) details))
