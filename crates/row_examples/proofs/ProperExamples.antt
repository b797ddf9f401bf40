-- Arguments that a specification can name, and others.
use Rattle.std.specs.Prelude.{◌≡◌, true, false, replicate, codes, refl}
use Rattle.std.specs.declared.option.Option.TheVariants.{Some, None}
use Rattle.pipe_model.specs.declared.kind.Kind.TheVariants.{FileIn, FileOut, Locate, Nlocate, Find, TakeFirst, DropLast, Between, ToLabel, Change, Strip, Chop, Pad, Join, Xlate, Duplicate}
use Rattle.pipe_model.specs.declared.kind.Times.TheVariants.{Only, All}
use Rattle.pipe_model.specs.declared.kind.Mapping.TheVariants.{Bytes}
use Rattle.pipe_model.specs.Straight.{all_columns}
use Rattle.pipe_model.specs.Table.{line_of}
use Rattle.row_examples.specs.Acts.{columns, words, columns_from}

-- the numbers of a range are 1 to 1,048,576
widest : (line_of (Locate (columns 1 1048576) None)).proper ≡ true
widest = refl

-- and not 0
no_column : (line_of (Locate (columns 0 1) None)).proper ≡ false
no_column = refl

-- nor more
far_column : (line_of (Nlocate (columns_from 1048577) None)).proper ≡ false
far_column = refl

-- the last isn't less than the first
reversed : (line_of (Locate (words 3 2) None)).proper ≡ false
reversed = refl

-- the first and a length may name columns behind the greatest
by_length : (line_of (Locate (columns 1048576 2097151) None)).proper ≡ true
by_length = refl

-- but not more than so many
too_many : (line_of (Locate (columns 2 1048578) None)).proper ≡ false
too_many = refl

-- a string that is sought isn't empty
sought_empty : (line_of (Locate all_columns (Some (codes "")))).proper ≡ false
sought_empty = refl

-- FIND's text isn't empty
find_empty : (line_of (Find (codes ""))).proper ≡ false
find_empty = refl

-- that of TOLABEL may be
label_empty : (line_of (ToLabel (codes ""))).proper ≡ true
label_empty = refl

-- a count is at most 2,147,483,647
greatest_count : (line_of (TakeFirst (Only 2147483647))).proper ≡ true
greatest_count = refl

-- and not more
count_too_great : (line_of (DropLast (Only 2147483648))).proper ≡ false
count_too_great = refl

-- or `*`
count_of_all : (line_of (Duplicate All)).proper ≡ true
count_of_all = refl

-- BETWEEN has two strings, of which none is empty
between_empty : (line_of (Between (codes "a") (codes ""))).proper ≡ false
between_empty = refl

-- CHANGE's strings may both be empty
change_empty : (line_of (Change all_columns (codes "") (codes "") All)).proper ≡ true
change_empty = refl

-- and its range names columns
change_words : (line_of (Change (words 1 2) (codes "a") (codes "b") All)).proper ≡ false
change_words = refl

-- STRIP's string isn't empty
strip_empty : (line_of (Strip true true (codes ""))).proper ≡ false
strip_empty = refl

-- a length may be 0
chop_none : (line_of (Chop 0)).proper ≡ true
chop_none = refl

-- and is at most 1,048,576
pad_too_wide : (line_of (Pad true 1048577 32)).proper ≡ false
pad_too_wide = refl

-- what JOIN puts between may be empty
join_empty : (line_of (Join All (codes ""))).proper ≡ true
join_empty = refl

-- XLATE's strings are equally long
xlate_uneven : (line_of (Xlate (Bytes (codes "ab") (codes "x")))).proper ≡ false
xlate_uneven = refl

-- and not empty
xlate_empty : (line_of (Xlate (Bytes (codes "") (codes "")))).proper ≡ false
xlate_empty = refl

-- a file's name isn't empty
no_name : (line_of (FileOut (codes ""))).proper ≡ false
no_name = refl

-- has no blank
name_of_two : (line_of (FileIn (codes "a b") None)).proper ≡ false
name_of_two = refl

-- and has 255 bytes at most
long_name : (line_of (FileOut (replicate 255 97))).proper ≡ true
long_name = refl

-- not 256
too_long_name : (line_of (FileOut (replicate 256 97))).proper ≡ false
too_long_name = refl
