-- UNIQUE.
use Rattle.std.specs.Prelude.{◌≡◌, [], ◌∷◌, true, false, refl}
use Rattle.std.specs.Fmt.{digits}
use Rattle.pipe_model.specs.declared.kind.Kind.TheVariants.{Unique}
use Rattle.pipe_model.specs.declared.kind.Keep.TheVariants.{First, Last, Singles, Multiple}
use Rattle.pipe_model.specs.Straight.{all_columns}
use Rattle.pipe_model.specs.Table.{form, line_of}
use Rattle.row_examples.specs.Acts.{strand, acts_over, records, columns, words, one, both, second, to, takes}

-- FIRST writes each record before it takes it: the first of a run on output 0, the others on output 1
first : acts_over (Unique false all_columns First) both (records "a|a|b|a") ≡ to 0 "a" ∷ takes ∷ to 1 "a" ∷ takes ∷ to 0 "b" ∷ takes ∷ to 0 "a" ∷ takes ∷ []
first = refl

-- LAST writes a record when it took the next one, or at the end: the last of a run on output 0, the others on output 1
last : acts_over (Unique false all_columns Last) both (records "a|a|b|a") ≡ takes ∷ takes ∷ to 1 "a" ∷ takes ∷ to 0 "a" ∷ takes ∷ to 0 "b" ∷ to 0 "a" ∷ []
last = refl

-- of two records of one key LAST keeps the second, and FIRST the first
keeps_last : acts_over (Unique false (columns 1 1) Last) one (records "a1|a2|b1") ≡ takes ∷ takes ∷ takes ∷ to 0 "a2" ∷ to 0 "b1" ∷ []
keeps_last = refl

keeps_first : acts_over (Unique false (columns 1 1) First) one (records "a1|a2|b1") ≡ to 0 "a1" ∷ takes ∷ takes ∷ to 0 "b1" ∷ takes ∷ []
keeps_first = refl

-- SINGLES: runs of one on output 0, all other records on output 1
singles : acts_over (Unique false (columns 1 1) Singles) both (records "a1|a2|b1") ≡ takes ∷ takes ∷ to 1 "a1" ∷ takes ∷ to 1 "a2" ∷ to 0 "b1" ∷ []
singles = refl

singles_alone : acts_over (Unique false (columns 1 1) Singles) one (records "a1|a2|b1") ≡ takes ∷ takes ∷ takes ∷ to 0 "b1" ∷ []
singles_alone = refl

-- MULTIPLE: the records of longer runs on output 0, runs of one on output 1
multiple : acts_over (Unique false (columns 1 1) Multiple) both (records "a1|a2|b1|c1|c2|c3") ≡ takes ∷ takes ∷ to 0 "a1" ∷ takes ∷ to 0 "a2" ∷ takes ∷ to 1 "b1" ∷ takes ∷ to 0 "c1" ∷ takes ∷ to 0 "c2" ∷ to 0 "c3" ∷ []
multiple = refl

-- COUNT puts the run's length before the record that is kept
counts : acts_over (Unique true all_columns Last) one (records "a|b|b") ≡ takes ∷ takes ∷ to 0 "         1a" ∷ takes ∷ to 0 "         2b" ∷ []
unfolding digits
counts = refl

-- and before no other
counts_kept : acts_over (Unique true all_columns Last) both (records "b|b") ≡ takes ∷ takes ∷ to 1 "b" ∷ to 0 "         2b" ∷ []
unfolding digits
counts_kept = refl

-- records in which the range is empty have one key
empty_keys : acts_over (Unique false (words 2 2) First) one (records "a|b|c d|") ≡ to 0 "a" ∷ takes ∷ takes ∷ to 0 "c d" ∷ takes ∷ to 0 "" ∷ takes ∷ []
empty_keys = refl

-- a key and a longer one that begins with it differ
longer_key : acts_over (Unique false all_columns First) one (records "a|ab|a") ≡ to 0 "a" ∷ takes ∷ to 0 "ab" ∷ takes ∷ to 0 "a" ∷ takes ∷ []
longer_key = refl

-- output 1 alone
others_alone : acts_over (Unique false all_columns First) second (records "a|a|b") ≡ takes ∷ to 1 "a" ∷ takes ∷ takes ∷ []
others_alone = refl

-- no records, no runs
no_records : acts_over (Unique true all_columns Last) both [] ≡ []
no_records = refl

-- FIRST alone writes only what the record at hand causes
first_thin : (form (strand (Unique false all_columns First) both)).thin ≡ true
first_thin = refl

last_not_thin : (form (strand (Unique false all_columns Last) both)).thin ≡ false
last_not_thin = refl

-- COUNT stands with LAST alone
count_last : (line_of (Unique true all_columns Last)).proper ≡ true
count_last = refl

count_first : (line_of (Unique true all_columns First)).proper ≡ false
count_first = refl

no_column : (line_of (Unique false (columns 0 1) Last)).proper ≡ false
no_column = refl
