-- The arguments of Order and counting, and of Blocks.
use Rattle.std.specs.Prelude.{ℕ, Bool, true, false, nat_lt, if◌then◌else◌, List, [], ◌∷◌, ◌++◌, length, filter, option_map}
use Rattle.std.specs.List.{list_any}
use Rattle.std.specs.declared.option.Option.{Option}
use Rattle.std.specs.declared.option.Option.TheVariants.{Some, None}
use Rattle.pipe_model.specs.declared.keys.SortKey.{SortKey}
use Rattle.pipe_model.specs.declared.keys.Total.{Total}
use Rattle.pipe_model.specs.declared.keys.Total.TheVariants as Totals
use Rattle.pipe_model.specs.declared.kind.Cutting.TheVariants as Cuttings
use Rattle.pipe_model.specs.declared.kind.Image.TheVariants as Images
use Rattle.pipe_model.specs.declared.kind.Keep.{Keep}
use Rattle.pipe_model.specs.declared.kind.Keep.TheVariants as Keeps
use Rattle.pipe_model.specs.declared.kind.Kind.{Kind}
use Rattle.pipe_model.specs.declared.kind.Kind.TheVariants as Kinds
use Rattle.pipe_model.specs.declared.range.Range.{Range}
use Rattle.pipe_model.specs.Straight.{all_columns}
use Rattle.argument_parts.specs.declared.fault.FaultKind.TheVariants.{UnknownWord}
use Rattle.argument_parts.specs.declared.part.Part.{Part}
use Rattle.argument_parts.specs.declared.part.Part.TheVariants as Asked
use Rattle.argument_parts.specs.declared.part.TextFault.{TextFault}
use Rattle.argument_parts.specs.declared.part.Value.{Value}
use Rattle.argument_parts.specs.declared.part.Value.TheVariants as Read
use Rattle.argument_parts.specs.declared.part.Word.{Word}
use Rattle.argument_parts.specs.declared.part.Word.TheVariants.{First, Last, Count, Singles, Multiple, Ascending, Descending, Lines, Words, Bytes, Fixed, Linend, String, Sf}
use Rattle.stage_syntax.specs.Rows.{Arguments}
use Rattle.stage_syntax.specs.Rows.Arguments.{OfParts}
use Rattle.stage_syntax.specs.Forms.{row, greatest}

-- UNIQUE: [COUNT] [range] [FIRST, LAST, SINGLES or MULTIPLE]; COUNT stands with LAST alone

abbrev pub keeps : List Part
keeps = Asked.Word First ∷ (Asked.Word Last ∷ (Asked.Word Singles ∷ (Asked.Word Multiple ∷ [])))

abbrev pub before_unique : List Value → List Part
before_unique [] = Asked.Word Count ∷ (Asked.Range ∷ keeps)
before_unique (Read.Word Count ∷ []) = Asked.Range ∷ keeps
before_unique (Read.Range range ∷ []) = keeps
before_unique (Read.Word Count ∷ (Read.Range range ∷ [])) = keeps
before_unique _ = []

-- the last of the words that say what is kept
abbrev pub keep_of : Word → Keep
keep_of First = Keeps.First
keep_of Singles = Keeps.Singles
keep_of Multiple = Keeps.Multiple
keep_of _ = Keeps.Last

abbrev pub is_last : Word → Bool
is_last Last = true
is_last _ = false

-- COUNT before a word that isn't LAST
abbrev pub count_fault : Word → ℕ → Option TextFault
count_fault word left = if is_last word then None else Some (record { left = left; kind = UnknownWord })

abbrev pub wrong_unique : List Value → List ℕ → Option TextFault
wrong_unique (Read.Word Count ∷ (Read.Word word ∷ [])) (left ∷ lefts) = count_fault word left
wrong_unique (Read.Word Count ∷ (Read.Range range ∷ (Read.Word word ∷ []))) (left ∷ lefts) = count_fault word left
wrong_unique _ lefts = None

abbrev pub of_unique : List Value → Option Kind
of_unique [] = Some (Kinds.Unique false all_columns Keeps.Last)
of_unique (Read.Word Count ∷ []) = Some (Kinds.Unique true all_columns Keeps.Last)
of_unique (Read.Word Count ∷ (Read.Word word ∷ [])) = Some (Kinds.Unique true all_columns (keep_of word))
of_unique (Read.Word Count ∷ (Read.Range range ∷ [])) = Some (Kinds.Unique true range Keeps.Last)
of_unique (Read.Word Count ∷ (Read.Range range ∷ (Read.Word word ∷ []))) = Some (Kinds.Unique true range (keep_of word))
of_unique (Read.Word word ∷ []) = Some (Kinds.Unique false all_columns (keep_of word))
of_unique (Read.Range range ∷ []) = Some (Kinds.Unique false range Keeps.Last)
of_unique (Read.Range range ∷ (Read.Word word ∷ [])) = Some (Kinds.Unique false range (keep_of word))
of_unique _ = None

abbrev pub unique : Arguments
unique = OfParts (record { next = before_unique; wrong = wrong_unique; kind = of_unique })

-- SORT: [range [A or D]], up to ten

-- the keys of these arguments, behind some others
abbrev pub key_of : Range → Bool → SortKey
key_of range descending = record { range = range; descending = descending }

abbrev pub keys_of : List Value → Option (List SortKey)
keys_of [] = Some []
keys_of (Read.Range range ∷ (Read.Word Descending ∷ values)) = option_map (λ keys. key_of range true ∷ keys) (keys_of values)
keys_of (Read.Range range ∷ (Read.Word _ ∷ values)) = option_map (λ keys. key_of range false ∷ keys) (keys_of values)
keys_of (Read.Range range ∷ values) = option_map (λ keys. key_of range false ∷ keys) (keys_of values)
keys_of _ = None

abbrev pub is_range_value : Value → Bool
is_range_value (Read.Range range) = true
is_range_value _ = false

-- how many ranges there are
abbrev pub ranges_in : List Value → ℕ
ranges_in values = length (filter is_range_value values)

abbrev pub ends_with_range : List Value → Bool
ends_with_range [] = false
ends_with_range (value ∷ []) = is_range_value value
ends_with_range (value ∷ (next ∷ values)) = ends_with_range (next ∷ values)

abbrev pub before_sort : List Value → List Part
before_sort values =
    (if nat_lt (ranges_in values) 10 then Asked.Range ∷ [] else [])
    ++ (if ends_with_range values then Asked.Word Ascending ∷ (Asked.Word Descending ∷ []) else [])

-- all columns, where no range is given
abbrev pub sort_of : List SortKey → Kind
sort_of [] = Kinds.Sort (key_of all_columns false ∷ [])
sort_of (key ∷ keys) = Kinds.Sort (key ∷ keys)

abbrev pub of_sort : List Value → Option Kind
of_sort values = option_map sort_of (keys_of values)

abbrev pub sort : Arguments
sort = OfParts (row before_sort of_sort)

-- COUNT: LINES, WORDS, BYTES, one to three, each once

abbrev pub is_word : Word → Value → Bool
is_word Lines (Read.Word Lines) = true
is_word Words (Read.Word Words) = true
is_word Bytes (Read.Word Bytes) = true
is_word _ _ = false

abbrev pub unless_given : List Value → Word → List Part
unless_given values word = if list_any (is_word word) values then [] else Asked.Word word ∷ []

abbrev pub before_count : List Value → List Part
before_count values = unless_given values Lines ++ unless_given values Words ++ unless_given values Bytes

abbrev pub total_of : Value → Option Total
total_of (Read.Word Lines) = Some Totals.Lines
total_of (Read.Word Words) = Some Totals.Words
total_of (Read.Word Bytes) = Some Totals.Bytes
total_of _ = None

abbrev pub onto : Option Total → Option (List Total) → Option (List Total)
onto (Some total) (Some totals) = Some (total ∷ totals)
onto _ _ = None

abbrev pub totals_of : List Value → Option (List Total)
totals_of [] = Some []
totals_of (value ∷ values) = onto (total_of value) (totals_of values)

abbrev pub count_of : Option (List Total) → Option Kind
count_of (Some (total ∷ totals)) = Some (Kinds.Count (total ∷ totals))
count_of _ = None

abbrev pub count : Arguments
count = OfParts (row before_count (λ values. count_of (totals_of values)))

-- FBLOCK: n [byte]
abbrev pub before_fblock : List Value → List Part
before_fblock [] = Asked.Number 1 greatest ∷ []
before_fblock (Read.Number n ∷ []) = Asked.Byte ∷ []
before_fblock _ = []

abbrev pub of_fblock : List Value → Option Kind
of_fblock (Read.Number n ∷ []) = Some (Kinds.Fblock n None)
of_fblock (Read.Number n ∷ (Read.Byte byte ∷ [])) = Some (Kinds.Fblock n (Some byte))
of_fblock _ = None

abbrev pub fblock : Arguments
fblock = OfParts (row before_fblock of_fblock)

-- BLOCK: n, and FIXED, LINEND, STRING string or SF
abbrev pub images : List Part
images = Asked.Word Fixed ∷ (Asked.Word Linend ∷ (Asked.Word String ∷ (Asked.Word Sf ∷ [])))

abbrev pub before_block : List Value → List Part
before_block [] = Asked.Number 1 greatest ∷ []
before_block (Read.Number n ∷ []) = images
before_block (Read.Number n ∷ (Read.Word String ∷ [])) = Asked.String ∷ []
before_block _ = []

abbrev pub of_block : List Value → Option Kind
of_block (Read.Number n ∷ (Read.Word Fixed ∷ [])) = Some (Kinds.Block n Images.Fixed)
of_block (Read.Number n ∷ (Read.Word Linend ∷ [])) = Some (Kinds.Block n Images.Linend)
of_block (Read.Number n ∷ (Read.Word Sf ∷ [])) = Some (Kinds.Block n Images.Sf)
of_block (Read.Number n ∷ (Read.Word String ∷ (Read.String string ∷ []))) = Some (Kinds.Block n (Images.Text string))
of_block _ = None

abbrev pub block : Arguments
block = OfParts (row before_block of_block)

-- DEBLOCK: FIXED n, LINEND, STRING string or SF
abbrev pub before_deblock : List Value → List Part
before_deblock [] = images
before_deblock (Read.Word Fixed ∷ []) = Asked.Number 1 greatest ∷ []
before_deblock (Read.Word String ∷ []) = Asked.String ∷ []
before_deblock _ = []

abbrev pub of_deblock : List Value → Option Kind
of_deblock (Read.Word Fixed ∷ (Read.Number n ∷ [])) = Some (Kinds.Deblock (Cuttings.Fixed n))
of_deblock (Read.Word Linend ∷ []) = Some (Kinds.Deblock Cuttings.Linend)
of_deblock (Read.Word Sf ∷ []) = Some (Kinds.Deblock Cuttings.Sf)
of_deblock (Read.Word String ∷ (Read.String string ∷ [])) = Some (Kinds.Deblock (Cuttings.Text string))
of_deblock _ = None

abbrev pub deblock : Arguments
deblock = OfParts (row before_deblock of_deblock)
