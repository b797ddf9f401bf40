-- MERGE.
use Rattle.std.specs.Prelude.{◌≡◌, [], ◌∷◌, ◌++◌, true, false, refl}
use Rattle.pipe_model.specs.declared.kind.Kind.TheVariants.{Merge}
use Rattle.pipe_model.specs.Event.Want.{Read, Take}
use Rattle.pipe_model.specs.Straight.{all_columns}
use Rattle.pipe_model.specs.Table.{line_of}
use Rattle.row_examples.specs.Wants.{wants_of, wants_refused, written_by, all, on, writes, ends}
use Rattle.row_examples.specs.Acts.{columns}

two_inputs : written_by (Merge all_columns) (all 2) (all 1) (on 0 "a1|c1" ++ on 1 "b1") ≡ on 0 "a1|b1|c1"
two_inputs = refl

-- a record of each input is in sight; the least is written and taken, and the next one of its input is read
in_turns : wants_of (Merge all_columns) (all 2) (all 1) (on 0 "a|c" ++ on 1 "b") ≡
    Read 0 ∷ Read 1 ∷ writes 0 "a" ∷ Take 0 ∷ Read 0 ∷ writes 0 "b" ∷ Take 1 ∷ Read 1 ∷ writes 0 "c" ∷ Take 0 ∷ Read 0 ∷ ends ∷ []
in_turns = refl

-- of equal keys the lowest input's record is first, though it came later
ties : written_by (Merge (columns 1 1)) (all 3) (all 1) (on 0 "a0|c0" ++ on 1 "c1|c1+" ++ on 2 "b2|c2") ≡ on 0 "a0|b2|c0|c1|c1+|c2"
ties = refl

-- the key is the range, and the rest of the record doesn't matter
by_the_range : written_by (Merge (columns 1 1)) (all 2) (all 1) (on 0 "az|by" ++ on 1 "aa|bb") ≡ on 0 "az|aa|by|bb"
by_the_range = refl

-- a proper prefix is less, and the empty record is the least
prefixes : written_by (Merge all_columns) (all 3) (all 1) (on 0 "ab" ++ on 1 "a" ++ on 2 "") ≡ on 0 "|a|ab"
prefixes = refl

-- inputs out of order keep their own order
out_of_order : written_by (Merge all_columns) (all 2) (all 1) (on 0 "b|a" ++ on 1 "c|a") ≡ on 0 "b|a|c|a"
out_of_order = refl

-- an input that isn't connected has ended
not_connected : wants_of (Merge all_columns) (false ∷ true ∷ []) (all 1) (on 1 "a") ≡ Read 0 ∷ Read 1 ∷ writes 0 "a" ∷ Take 1 ∷ Read 1 ∷ ends ∷ []
not_connected = refl

-- a refusal ends it, with records in sight
refused : wants_refused (0 ∷ []) (Merge all_columns) (all 2) (all 1) (on 0 "b" ++ on 1 "a") ≡ Read 0 ∷ Read 1 ∷ writes 0 "a" ∷ ends ∷ []
refused = refl

-- its range is such as can be named
proper : (line_of (Merge all_columns)).proper ≡ true
proper = refl

column_0 : (line_of (Merge (columns 0 1))).proper ≡ false
column_0 = refl
