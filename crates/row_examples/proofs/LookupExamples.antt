-- LOOKUP: details come on input 0, masters on input 1.
use Rattle.std.specs.Prelude.{◌≡◌, [], ◌∷◌, ◌++◌, true, false, refl}
use Rattle.pipe_model.specs.declared.kind.Kind.TheVariants.{Lookup}
use Rattle.pipe_model.specs.Event.Want.{Read, Take}
use Rattle.pipe_model.specs.Straight.{all_columns}
use Rattle.pipe_model.specs.Table.{line_of}
use Rattle.row_examples.specs.Wants.{wants_of, wants_refused, written_by, all, on, writes, ends}
use Rattle.row_examples.specs.Acts.{columns, words}

-- each detail with its master, on output 1 without one, and at the end the masters that had no detail
joins : written_by (Lookup (columns 1 1) (columns 1 1)) (all 2) (all 3) (on 1 "a1|b1|a2|c1" ++ on 0 "a-|x-|a+|b-") ≡ on 0 "a-|a1" ++ on 1 "x-" ++ on 0 "a+|a1|b-|b1" ++ on 2 "c1"
joins = refl

-- the masters are read to their end before the first detail; a detail is taken when its pairs are written
masters_first : wants_of (Lookup (columns 1 1) (columns 1 1)) (all 2) (all 3) (on 0 "a-" ++ on 1 "a1|b1") ≡
    Read 1 ∷ Take 1 ∷ Read 1 ∷ Take 1 ∷ Read 1 ∷ Read 0 ∷ writes 0 "a-" ∷ writes 0 "a1" ∷ Take 0 ∷ Read 0 ∷ writes 2 "b1" ∷ ends ∷ []
masters_first = refl

-- of masters with one key the later ones are dropped, also at the end
later_masters : written_by (Lookup (columns 1 1) (columns 1 1)) (all 2) (all 3) (on 1 "c1|b1|c2|b2|c3") ≡ on 2 "c1|b1"
later_masters = refl

-- the first range is the details', the second the masters'
two_ranges : written_by (Lookup (columns 1 1) (columns 2 2)) (all 2) (all 3) (on 1 "1a|a1|2a" ++ on 0 "a-|1-|2-") ≡ on 0 "a-|1a|1-|a1" ++ on 1 "2-"
two_ranges = refl

-- a key is the bytes of the range, whatever stands before it
by_words : written_by (Lookup (words 2 2) (columns 1 1)) (all 2) (all 3) (on 1 "k" ++ on 0 "x k|xx   k y|k x") ≡ on 0 "x k|k|xx   k y|k" ++ on 1 "k x"
by_words = refl

-- where the range isn't there the key is empty, which is a key like others
empty_keys : written_by (Lookup (columns 2 2) (columns 2 2)) (all 2) (all 3) (on 1 "a|b" ++ on 0 "|c|d1") ≡ on 0 "|a|c|a" ++ on 1 "d1"
empty_keys = refl

-- a longer key is another key
whole_records : written_by (Lookup all_columns all_columns) (all 2) (all 3) (on 1 "ab" ++ on 0 "a|ab|abc") ≡ on 1 "a" ++ on 0 "ab|ab" ++ on 1 "abc"
whole_records = refl

-- without masters each detail is alone
without_masters : wants_of (Lookup (columns 1 1) (columns 1 1)) (true ∷ false ∷ []) (all 3) (on 0 "a") ≡ Read 1 ∷ Read 0 ∷ writes 1 "a" ∷ Take 0 ∷ Read 0 ∷ ends ∷ []
without_masters = refl

-- a master has matched also where output 0 isn't connected
matched_unseen : written_by (Lookup (columns 1 1) (columns 1 1)) (all 2) (false ∷ true ∷ true ∷ []) (on 1 "a1|b1" ++ on 0 "a-|x-") ≡ on 1 "x-" ++ on 2 "b1"
matched_unseen = refl

-- after a refusal it goes on with the other outputs, and the master isn't written where the detail was refused
refused_once : wants_refused (0 ∷ []) (Lookup (columns 1 1) (columns 1 1)) (all 2) (all 3) (on 1 "a1|b1" ++ on 0 "a-|a+") ≡
    Read 1 ∷ Take 1 ∷ Read 1 ∷ Take 1 ∷ Read 1 ∷ Read 0 ∷ writes 0 "a-" ∷ Take 0 ∷ Read 0 ∷ Take 0 ∷ Read 0 ∷ writes 2 "b1" ∷ ends ∷ []
refused_once = refl

-- when all outputs have refused it ends, with a record in sight
refused_all : wants_refused (0 ∷ []) (Lookup (columns 1 1) (columns 1 1)) (all 2) (all 1) (on 1 "a1" ++ on 0 "a-|a+") ≡ Read 1 ∷ Take 1 ∷ Read 1 ∷ Read 0 ∷ writes 0 "a-" ∷ ends ∷ []
refused_all = refl

-- both ranges are such as can be named
proper : (line_of (Lookup (columns 1 1) all_columns)).proper ≡ true
proper = refl

column_0 : (line_of (Lookup (columns 1 1) (columns 0 1))).proper ≡ false
column_0 = refl

turned : (line_of (Lookup (columns 3 2) (columns 1 1))).proper ≡ false
turned = refl
