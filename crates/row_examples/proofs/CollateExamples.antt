-- COLLATE: masters come on input 0, details on input 1.
use Rattle.std.specs.Prelude.{◌≡◌, [], ◌∷◌, ◌++◌, true, false, refl}
use Rattle.pipe_model.specs.declared.kind.Kind.TheVariants.{Collate}
use Rattle.pipe_model.specs.Event.Want.{Read, Take}
use Rattle.pipe_model.specs.Straight.{all_columns}
use Rattle.pipe_model.specs.Table.{line_of}
use Rattle.row_examples.specs.Wants.{wants_of, wants_refused, written_by, all, on, writes, ends}
use Rattle.row_examples.specs.Acts.{columns}

-- a master before its details on output 0, other masters on output 1, other details on output 2
sorts_out : written_by (Collate (columns 1 1) (columns 1 1)) (all 2) (all 3) (on 0 "a1|b1" ++ on 1 "a-|a+|c-") ≡ on 0 "a1|a-|a+" ++ on 1 "b1" ++ on 2 "c-"
sorts_out = refl

-- at most one record of each input is in sight, and what was taken is read again
in_turns : wants_of (Collate (columns 1 1) (columns 1 1)) (all 2) (all 3) (on 0 "a1|b1" ++ on 1 "a-|c-") ≡
    Read 0 ∷ Read 1 ∷ writes 0 "a1" ∷ writes 0 "a-" ∷ Take 1 ∷ Read 1 ∷ Take 0 ∷ Read 0 ∷ writes 1 "b1" ∷ Take 0 ∷ Read 0 ∷ writes 2 "c-" ∷ Take 1 ∷ Read 1 ∷ ends ∷ []
in_turns = refl

-- a detail that was in sight before its master came
detail_waits : written_by (Collate (columns 1 1) (columns 1 1)) (all 2) (all 3) (on 0 "a1|b1|c1" ++ on 1 "c-|c+") ≡ on 1 "a1|b1" ++ on 0 "c1|c-|c+"
detail_waits = refl

-- of masters with one key the first has all the details
same_masters : written_by (Collate (columns 1 1) (columns 1 1)) (all 2) (all 3) (on 0 "a1|a2" ++ on 1 "a-|a+") ≡ on 0 "a1|a-|a+" ++ on 1 "a2"
same_masters = refl

-- the same where another detail follows: the second master's key is that of a detail that was taken, and it had no match
same_masters_again : written_by (Collate (columns 1 1) (columns 1 1)) (all 2) (all 3) (on 0 "a1|a2" ++ on 1 "a-|b-") ≡ on 0 "a1|a-" ++ on 1 "a2" ++ on 2 "b-"
same_masters_again = refl

-- records out of order: a master stays matched while details with lesser keys pass
stays_matched : written_by (Collate (columns 1 1) (columns 1 1)) (all 2) (all 3) (on 0 "b1" ++ on 1 "b-|a-|b+|c-") ≡ on 0 "b1|b-" ++ on 2 "a-" ++ on 0 "b+" ++ on 2 "c-"
stays_matched = refl

-- records out of order: a lesser master after a greater one
out_of_order : written_by (Collate (columns 1 1) (columns 1 1)) (all 2) (all 3) (on 0 "b1|a1" ++ on 1 "a-|b-") ≡ on 2 "a-" ++ on 0 "b1|b-" ++ on 1 "a1"
out_of_order = refl

-- the first range is the masters', the second the details'
two_ranges : written_by (Collate (columns 1 1) (columns 2 2)) (all 2) (all 3) (on 0 "a1|b1" ++ on 1 "1a|1c") ≡ on 0 "a1|1a" ++ on 1 "b1" ++ on 2 "1c"
two_ranges = refl

-- a proper prefix is less
prefixes : written_by (Collate all_columns all_columns) (all 2) (all 3) (on 0 "|ab" ++ on 1 "a|ab|abc") ≡ on 1 "" ++ on 2 "a" ++ on 0 "ab|ab" ++ on 2 "abc"
prefixes = refl

no_masters : wants_of (Collate (columns 1 1) (columns 1 1)) (false ∷ true ∷ []) (all 3) (on 1 "a") ≡ Read 0 ∷ Read 1 ∷ writes 2 "a" ∷ Take 1 ∷ Read 1 ∷ ends ∷ []
no_masters = refl

no_details : wants_of (Collate (columns 1 1) (columns 1 1)) (all 1) (all 3) (on 0 "a") ≡ Read 0 ∷ Read 1 ∷ writes 1 "a" ∷ Take 0 ∷ Read 0 ∷ ends ∷ []
no_details = refl

nothing : wants_of (Collate (columns 1 1) (columns 1 1)) (all 2) (all 3) [] ≡ Read 0 ∷ Read 1 ∷ ends ∷ []
nothing = refl

-- the first match is that of the first detail, though its pairs weren't written
refused_match : wants_refused (0 ∷ []) (Collate (columns 1 1) (columns 1 1)) (all 2) (all 3) (on 0 "a1" ++ on 1 "a-|b-") ≡
    Read 0 ∷ Read 1 ∷ writes 0 "a1" ∷ Take 1 ∷ Read 1 ∷ Take 0 ∷ Read 0 ∷ writes 2 "b-" ∷ Take 1 ∷ Read 1 ∷ ends ∷ []
refused_match = refl

-- both ranges are such as can be named
proper : (line_of (Collate (columns 1 1) all_columns)).proper ≡ true
proper = refl

column_0 : (line_of (Collate (columns 0 1) (columns 1 1))).proper ≡ false
column_0 = refl

turned : (line_of (Collate (columns 1 1) (columns 3 2))).proper ≡ false
turned = refl
