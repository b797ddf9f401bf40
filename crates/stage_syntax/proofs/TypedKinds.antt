-- The kinds that can be typed: what is known of the line that the table has for each, shown once for each row of names.
use Rattle.std.proofs.Common.{◌≡◌, inl, inr, ℕ, Bool, true, false, ◌&&◌, ◌==◌, List, [], ◌∷◌, length, refl, sym, ◌∙◌, ap, ap₂, subst, arith, Option, Some, None}
use Rattle.std.specs.Prelude.{⊤, if◌then◌else◌, codes}
use Rattle.std.specs.Option.{IfSome}
use Rattle.std.specs.Str.{bytes_eq, str_to_ascii_lowercase}
use Rattle.pipe_model.specs.declared.kind.Kind.{Kind}
use Rattle.pipe_model.specs.declared.kind.Kind.TheVariants as Kinds
use Rattle.pipe_model.specs.declared.kind.Times.{Times}
use Rattle.pipe_model.specs.declared.kind.Times.TheVariants.{Only, All}
use Rattle.pipe_model.specs.declared.kind.Mapping.{Mapping}
use Rattle.pipe_model.specs.declared.kind.Mapping.TheVariants as Maps
use Rattle.pipe_model.specs.declared.range.Range.{Range}
use Rattle.pipe_model.specs.Proper.{are_columns, is_count, is_filled, is_length, is_locate, is_mapping, is_range}
use Rattle.pipe_model.specs.Straight.{all_columns}
use Rattle.pipe_model.specs.Table.{line_of}
use Rattle.std.proofs.lemmas.Slice.Eq.{bytes_eq-Decides}
use Rattle.stage_syntax.specs.Files.{is_of_file}
use Rattle.stage_syntax.proofs.ReadValues.{AreOfRow, IsOfOne, columns_of, count_of_times, length_of, made_of_row, range_of_one, right_of_row, string_of_one, times_of_one}
use Rattle.stage_syntax.proofs.Typed.{IsOther, IsTyped, known}
use Rattle.stage_syntax.proofs.TypedFiles.{file_typed, one_spelling, replacing}
use Rattle.stage_syntax.proofs.TypedJoins.{merging, overlaid, pairing}
use Rattle.stage_syntax.proofs.TypedOrder.{of_unique_row, sorting, counting, filling, blocking, deblocking}
use Rattle.stage_syntax.proofs.TypedSpecs.{specifying}
use Rattle.stage_syntax.specs.Arg.{ArgText}
use Rattle.stage_syntax.specs.DeviceForms.{file_in, literal_of}
use Rattle.stage_syntax.specs.EditingForms.{before_change, of_change, before_strip, blank, of_strip, before_chop, of_chop, before_pad, of_pad, before_split, of_split, before_join, of_join, before_xlate, wrong_xlate, of_xlate}
use Rattle.stage_syntax.specs.Forms.{row, none_next, before_times, of_times, of_text as of_text_of}
use Rattle.stage_syntax.specs.Kinds.{IsKind}
use Rattle.stage_syntax.specs.Names.{Named, named_in, stages}
use Rattle.stage_syntax.specs.Rows.{Arguments, Makes, Reads, Row, text_in}
use Rattle.stage_syntax.specs.SelectionForms.{before_locate, of_locate, of_some_text, before_end, of_end, before_two, of_two}
use Rattle.argument_parts.specs.declared.part.Value.{Value}
use Rattle.argument_parts.specs.declared.part.Value.TheVariants as Read
use Rattle.argument_parts.specs.declared.part.Word.TheVariants.{Both, First, Last, Leading, Left, Lower, Right, Trailing, Upper}

-- Of each row but that of `<`

-- this of the arguments of a stage, if it isn't the reader, and of the stages after it
abbrev OfOther : Bool → Type 0 → Type 0 → Type 0
OfOther true here rest = rest
OfOther false here rest = here × rest

abbrev is_reader : List ℕ → Bool
is_reader name = bytes_eq name (codes "<")

abbrev OfEach : (Arguments → Type 0) → List Named → Type 0
OfEach P [] = ⊤
OfEach P (stage ∷ more) = OfOther (is_reader stage.name) (P stage.arguments) (OfEach P more)

module _ (P : Arguments → Type 0) (arguments : Arguments) where
  -- it is the stage's own, or comes after it
  found_here : (reader same : Bool) (own : Arguments) (found : Option Arguments) (rest : Type 0) → (same ≡ true → reader ≡ false) → OfOther reader (P own) rest
      → (rest → found ≡ Some arguments → P arguments) → (if same then Some own else found) ≡ Some arguments → P arguments
  found_here false true own found rest apart each later is = let same : own ≡ arguments = cc in subst P same each.0
  found_here true true own found rest apart each later is = let no = apart refl in cc
  found_here true false own found rest apart each later is = later each is
  found_here false false own found rest apart each later is = later each.1 is

  -- what holds of each such row holds of the one that a name finds
  of_named : (named : List Named) (name : List ℕ) → is_reader (str_to_ascii_lowercase name) ≡ false → OfEach P named → named_in named name ≡ Some arguments → P arguments
  of_named [] name other each is = cc
  of_named (stage ∷ more) name other each is =
      found_here (is_reader stage.name) (bytes_eq (str_to_ascii_lowercase name) stage.name) stage.arguments (named_in more name) (OfEach P more)
      (λ same. ap is_reader (sym ((bytes_eq-Decides (str_to_ascii_lowercase name) stage.name).0 same)) ∙ other)
      each (of_named more name other) is

-- names of one spelling find one row
named_same : (named : List Named) (name other : List ℕ) → str_to_ascii_lowercase name ≡ str_to_ascii_lowercase other → named_in named name ≡ named_in named other
named_same [] name other same = refl
named_same (stage ∷ more) name other same =
    ap₂ (λ (lowered : List ℕ) (found : Option Arguments). if bytes_eq lowered stage.name then Some stage.arguments else found) same (named_same more name other same)

-- XLATE's arguments
abbrev xlate_row : Row
xlate_row = record { next = before_xlate; wrong = wrong_xlate; kind = of_xlate }

-- Of what a form makes

module _ (first : Bool) where
  -- the arguments make only kinds that can be typed and are fed no file
  abbrev AreOther : Arguments → Type 0
  AreOther arguments = (text : List ℕ) (kind : Kind) → Reads arguments text kind → IsOther first kind

  of_parts : (row : Row) → ((values : List Value) → AreOfRow row [] values → IfSome (row.kind values) (IsOther first)) → (text : List ℕ) (kind : Kind) → Makes row [] [] text kind → IsOther first kind
  of_parts row each text kind makes =
      let made = made_of_row row text kind makes in
      subst (λ (o : Option Kind). IfSome o (IsOther first)) made.1 (each made.0 made.2)

  of_text : (make : Option (List ℕ) → Option Kind) → ((text : Option (List ℕ)) → IfSome (make text) (IsOther first)) → (text : Option (List ℕ)) (kind : Kind) → make text ≡ Some kind → IsOther first kind
  of_text make each text kind made = subst (λ (o : Option Kind). IfSome o (IsOther first)) made (each text)

  alone : (kind : Kind) → IsOther first kind → (values : List Value) → AreOfRow (row none_next (λ values. Some kind)) [] values → IsOther first kind
  alone kind is values are = is

  counted : (kind : Times → Kind) → ((times : Times) → is_count times ≡ true → IsOther first (kind times))
      → (values : List Value) → AreOfRow (row before_times (of_times kind)) [] values → IfSome (of_times kind values) (IsOther first)
  counted kind each [] are = each (Only 1) refl
  counted kind each (Read.Times times ∷ []) are = each times (count_of_times times are.0)
  counted kind each _ are = tt

  found : (range : Range) (text : Option (List ℕ)) → is_range range ≡ true → IfSome text (λ string. is_filled string ≡ true) → is_locate range text ≡ true
  found range None proper filled = proper
  found range (Some string) proper filled = rw (proper, filled) refl

  located : (kind : Range → Option (List ℕ) → Kind) → ((range : Range) (text : Option (List ℕ)) → is_locate range text ≡ true → IsOther first (kind range text))
      → (values : List Value) → AreOfRow (row before_locate (of_locate kind)) [] values → IfSome (of_locate kind values) (IsOther first)
  located kind each [] are = tt
  located kind each (Read.Range range ∷ []) are = each range None (range_of_one (before_locate []) range are.0)
  located kind each (Read.String string ∷ []) are = each all_columns (Some string) (found all_columns (Some string) refl (string_of_one (before_locate []) string refl are.0))
  located kind each (Read.Range range ∷ (Read.String string ∷ [])) are =
      each range (Some string) (found range (Some string) (range_of_one (before_locate []) range are.0) (string_of_one (before_locate (Read.Range range ∷ [])) string refl are.1.0))
  located kind each _ are = tt

  strip_known : (leading trailing : Bool) (set : List ℕ) → is_filled set ≡ true → IsOther first (Kinds.Strip leading trailing set)
  strip_known leading trailing set filled = known first (Kinds.Strip leading trailing set) refl filled

  stripping : (values : List Value) → AreOfRow (row before_strip of_strip) [] values → IfSome (of_strip values) (IsOther first)
  stripping [] are = strip_known true true blank refl
  stripping (Read.String set ∷ []) are = strip_known true true set (string_of_one (before_strip []) set refl are.0)
  stripping (Read.Word Both ∷ []) are = strip_known true true blank refl
  stripping (Read.Word Leading ∷ []) are = strip_known true false blank refl
  stripping (Read.Word Trailing ∷ []) are = strip_known false true blank refl
  stripping (Read.Word Both ∷ (Read.String set ∷ [])) are = strip_known true true set (string_of_one (before_strip (Read.Word Both ∷ [])) set refl are.1.0)
  stripping (Read.Word Leading ∷ (Read.String set ∷ [])) are = strip_known true false set (string_of_one (before_strip (Read.Word Leading ∷ [])) set refl are.1.0)
  stripping (Read.Word Trailing ∷ (Read.String set ∷ [])) are = strip_known false true set (string_of_one (before_strip (Read.Word Trailing ∷ [])) set refl are.1.0)
  stripping _ are = tt

  -- Selection

  some_text : (kind : List ℕ → Kind) → ((text : List ℕ) → is_filled text ≡ true → IsOther first (kind text)) → (text : Option (List ℕ)) → IfSome (of_some_text kind text) (IsOther first)
  some_text kind each None = tt
  some_text kind each (Some []) = tt
  some_text kind each (Some (byte ∷ text)) = each (byte ∷ text) refl

  any_text : (kind : List ℕ → Kind) → ((text : List ℕ) → IsOther first (kind text)) → (text : Option (List ℕ)) → IfSome (of_text_of kind text) (IsOther first)
  any_text kind each None = tt
  any_text kind each (Some text) = each text

  ending : (one last : Times → Kind) → ((times : Times) → is_count times ≡ true → IsOther first (one times)) → ((times : Times) → is_count times ≡ true → IsOther first (last times))
      → (values : List Value) → AreOfRow (row before_end (of_end one last)) [] values → IfSome (of_end one last values) (IsOther first)
  ending one last ones lasts [] are = ones (Only 1) refl
  ending one last ones lasts (Read.Times times ∷ []) are = ones times (times_of_one (before_end []) times are.0)
  ending one last ones lasts (Read.Word First ∷ []) are = ones (Only 1) refl
  ending one last ones lasts (Read.Word Last ∷ []) are = lasts (Only 1) refl
  ending one last ones lasts (Read.Word First ∷ (Read.Times times ∷ [])) are = ones times (count_of_times times are.1.0)
  ending one last ones lasts (Read.Word Last ∷ (Read.Times times ∷ [])) are = lasts times (count_of_times times are.1.0)
  ending one last ones lasts _ are = tt

  enclosing : (kind : List ℕ → List ℕ → Kind) → ((opening closing : List ℕ) → (is_filled opening && is_filled closing) ≡ true → IsOther first (kind opening closing))
      → (values : List Value) → AreOfRow (row before_two (of_two kind)) [] values → IfSome (of_two kind values) (IsOther first)
  enclosing kind each (Read.String opening ∷ (Read.String closing ∷ [])) are =
      let opens = string_of_one (before_two []) opening refl are.0 in
      let closes = string_of_one (before_two (Read.String opening ∷ [])) closing refl are.1.0 in
      each opening closing (rw (opens, closes) refl)
  enclosing kind each _ are = tt

  -- Editing

  change_known : (range : Range) (sought put : List ℕ) (times : Times) → are_columns range.span ≡ true → is_range range ≡ true → is_count times ≡ true → IsOther first (Kinds.Change range sought put times)
  change_known range sought put times columns proper count = known first (Kinds.Change range sought put times) refl (rw (columns, proper, count) refl)

  changing : (values : List Value) → AreOfRow (row before_change of_change) [] values → IfSome (of_change values) (IsOther first)
  changing (Read.Strings sought put ∷ []) are = change_known all_columns sought put All refl refl refl
  changing (Read.Strings sought put ∷ (Read.Times times ∷ [])) are = change_known all_columns sought put times refl refl (count_of_times times are.1.0)
  changing (Read.Range range ∷ (Read.Strings sought put ∷ [])) are = change_known range sought put All (columns_of range are.0) (range_of_one (before_change []) range are.0) refl
  changing (Read.Range range ∷ (Read.Strings sought put ∷ (Read.Times times ∷ []))) are =
      change_known range sought put times (columns_of range are.0) (range_of_one (before_change []) range are.0) (count_of_times times are.1.1.0)
  changing _ are = tt

  chopping : (values : List Value) → AreOfRow (row before_chop of_chop) [] values → IfSome (of_chop values) (IsOther first)
  chopping [] are = known first (Kinds.Chop 80) refl refl
  chopping (Read.Number n ∷ []) are = known first (Kinds.Chop n) refl (length_of n are.0)
  chopping _ are = tt

  pad_known : (left : Bool) (n byte : ℕ) → is_length n ≡ true → IsOther first (Kinds.Pad left n byte)
  pad_known left n byte proper = known first (Kinds.Pad left n byte) refl proper

  width_of : (n : ℕ) → IsOfOne (before_pad []) (Read.Number n) → is_length n ≡ true
  width_of n (inl is) = cc
  width_of n (inr (inl is)) = cc
  width_of n (inr (inr is)) = length_of n is

  padding : (values : List Value) → AreOfRow (row before_pad of_pad) [] values → IfSome (of_pad values) (IsOther first)
  padding (Read.Number n ∷ []) are = pad_known false n 32 (width_of n are.0)
  padding (Read.Number n ∷ (Read.Byte byte ∷ [])) are = pad_known false n byte (width_of n are.0)
  padding (Read.Word Left ∷ (Read.Number n ∷ [])) are = pad_known true n 32 (length_of n are.1.0)
  padding (Read.Word Right ∷ (Read.Number n ∷ [])) are = pad_known false n 32 (length_of n are.1.0)
  padding (Read.Word Left ∷ (Read.Number n ∷ (Read.Byte byte ∷ []))) are = pad_known true n byte (length_of n are.1.0)
  padding (Read.Word Right ∷ (Read.Number n ∷ (Read.Byte byte ∷ []))) are = pad_known false n byte (length_of n are.1.0)
  padding _ are = tt

  splitting : (values : List Value) → AreOfRow (row before_split of_split) [] values → IfSome (of_split values) (IsOther first)
  splitting [] are = known first (Kinds.Split blank) refl refl
  splitting (Read.String set ∷ []) are = known first (Kinds.Split set) refl (string_of_one (before_split []) set refl are.0)
  splitting _ are = tt

  join_known : (more : Times) (between : List ℕ) → is_count more ≡ true → IsOther first (Kinds.Join more between)
  join_known more between proper = known first (Kinds.Join more between) refl proper

  joining : (values : List Value) → AreOfRow (row before_join of_join) [] values → IfSome (of_join values) (IsOther first)
  joining [] are = join_known (Only 1) [] refl
  joining (Read.Times more ∷ []) are = join_known more [] (times_of_one (before_join []) more are.0)
  joining (Read.String between ∷ []) are = join_known (Only 1) between refl
  joining (Read.Times more ∷ (Read.String between ∷ [])) are = join_known more between (times_of_one (before_join []) more are.0)
  joining _ are = tt

  xlate_known : (mapping : Mapping) → is_mapping mapping ≡ true → IsOther first (Kinds.Xlate mapping)
  xlate_known mapping proper = known first (Kinds.Xlate mapping) refl proper

  -- where it isn't wrong it is what is asked
  is_asked : {A : Type 0} (asked : Bool) (wrong : A) → (if asked then None else Some wrong) ≡ None → asked ≡ true
  is_asked true wrong right = refl
  is_asked false wrong right = cc

  mapping : (values : List Value) → AreOfRow xlate_row [] values → (lefts : List ℕ) → length lefts ≡ length values → wrong_xlate values lefts ≡ None → IfSome (of_xlate values) (IsOther first)
  mapping [] are lefts each right = xlate_known Maps.Upper refl
  mapping (Read.Word Upper ∷ []) are lefts each right = xlate_known Maps.Upper refl
  mapping (Read.Word Lower ∷ []) are lefts each right = xlate_known Maps.Lower refl
  mapping (Read.String from ∷ (Read.String to ∷ [])) are (left ∷ (second_left ∷ [])) each right =
      let filled = string_of_one (before_xlate []) from refl are.0 in
      let same = is_asked (length from == length to) _ right in
      xlate_known (Maps.Bytes from to) (rw (filled, same) refl)
  mapping (Read.String from ∷ (Read.String to ∷ [])) are lefts each right = absurd (omega (arith, each))
  mapping _ are lefts each right = tt

  of_mapping : (text : List ℕ) (kind : Kind) → Makes xlate_row [] [] text kind → IsOther first kind
  of_mapping text kind makes =
      let made = right_of_row xlate_row text kind refl makes in
      subst (λ (o : Option Kind). IfSome o (IsOther first)) made.2 (mapping made.0 made.3 made.1 made.4 made.5)

  literal_typed : (text : Option (List ℕ)) → IfSome (literal_of text) (IsOther first)
  literal_typed None = known first (Kinds.Literal []) refl refl
  literal_typed (Some text) = known first (Kinds.Literal text) refl refl

-- a CONSOLE reads where it is first, and writes where it isn't
console_typed : (first : Bool) → IsOther first (if first then Kinds.ConsoleIn [] else Kinds.ConsoleOut)
console_typed true = known true (Kinds.ConsoleIn []) refl refl
console_typed false = known false Kinds.ConsoleOut refl refl

-- each row but that of `<` in the order of the table
rows_typed : (first : Bool) → OfEach (AreOther first) (stages first)
rows_typed first = (
  of_parts first _ (alone first (if first then Kinds.ConsoleIn [] else Kinds.ConsoleOut) (console_typed first)),
  (
    of_parts first _ (replacing first),
    (
      λ text kind reads. of_text first literal_of (literal_typed first) (text_in text) kind reads,
      (
        of_parts first _ (alone first Kinds.Hole (known first Kinds.Hole refl refl)),
        (
          of_parts first _ (located first Kinds.Locate (λ range text proper. known first (Kinds.Locate range text) refl proper)),
          (
            of_parts first _ (located first Kinds.Nlocate (λ range text proper. known first (Kinds.Nlocate range text) refl proper)),
            (
              λ text kind reads. of_text first (of_some_text Kinds.Find) (some_text first Kinds.Find (λ text filled. known first (Kinds.Find text) refl filled)) (text_in text) kind reads,
              (
                λ text kind reads. of_text first (of_some_text Kinds.Nfind) (some_text first Kinds.Nfind (λ text filled. known first (Kinds.Nfind text) refl filled)) (text_in text) kind reads,
                (
                  of_parts first _ (ending first Kinds.TakeFirst Kinds.TakeLast (λ times proper. known first (Kinds.TakeFirst times) refl proper) (λ times proper. known first (Kinds.TakeLast times) refl proper)),
                  (
                    of_parts first _ (ending first Kinds.DropFirst Kinds.DropLast (λ times proper. known first (Kinds.DropFirst times) refl proper) (λ times proper. known first (Kinds.DropLast times) refl proper)),
                    (
                      of_parts first _ (enclosing first Kinds.Between (λ opening closing filled. known first (Kinds.Between opening closing) refl filled)),
                      (
                        of_parts first _ (enclosing first Kinds.Inside (λ opening closing filled. known first (Kinds.Inside opening closing) refl filled)),
                        (
                          λ text kind reads. of_text first (of_text_of Kinds.ToLabel) (any_text first Kinds.ToLabel (λ text. known first (Kinds.ToLabel text) refl refl)) (text_in text) kind reads,
                          (
                            λ text kind reads. of_text first (of_text_of Kinds.FrLabel) (any_text first Kinds.FrLabel (λ text. known first (Kinds.FrLabel text) refl refl)) (text_in text) kind reads,
                            (
                              of_parts first _ (changing first),
                              (
                                of_parts first _ (stripping first),
                                (
                                  of_parts first _ (chopping first),
                                  (
                                    of_parts first _ (padding first),
                                    (
                                      of_parts first _ (splitting first),
                                      (
                                        of_parts first _ (joining first),
                                        (
                                          of_mapping first,
                                          (
                                            of_parts first _ (alone first Kinds.Reverse (known first Kinds.Reverse refl refl)),
                                            (
                                              of_parts first _ (counted first Kinds.Duplicate (λ times proper. known first (Kinds.Duplicate times) refl proper)),
                                              (
                                                of_unique_row first,
                                                (
                                                  of_parts first _ (sorting first),
                                                  (
                                                    of_parts first _ (counting first),
                                                    (
                                                      of_parts first _ (pairing first Kinds.Lookup (λ details masters proper. known first (Kinds.Lookup details masters) refl proper)),
                                                      (
                                                        of_parts first _ (pairing first Kinds.Collate (λ masters details proper. known first (Kinds.Collate masters details) refl proper)),
                                                        (
                                                          of_parts first _ (merging first),
                                                          (
                                                            of_parts first _ (alone first Kinds.FanOut (known first Kinds.FanOut refl refl)),
                                                            (
                                                              of_parts first _ (alone first Kinds.FanIn (known first Kinds.FanIn refl refl)),
                                                              (
                                                                of_parts first _ (alone first Kinds.FanInAny (known first Kinds.FanInAny refl refl)),
                                                                (
                                                                  of_parts first _ (alone first Kinds.Deal (known first Kinds.Deal refl refl)),
                                                                  (
                                                                    of_parts first _ (alone first Kinds.Gather (known first Kinds.Gather refl refl)),
                                                                    (
                                                                      of_parts first _ (overlaid first),
                                                                      (
                                                                        of_parts first _ (alone first Kinds.Synchronise (known first Kinds.Synchronise refl refl)),
                                                                        (
                                                                          of_parts first _ (alone first Kinds.Synchronise (known first Kinds.Synchronise refl refl)),
                                                                          (
                                                                            of_parts first _ (alone first Kinds.Juxtapose (known first Kinds.Juxtapose refl refl)),
                                                                            (
                                                                              of_parts first _ (alone first Kinds.Gate (known first Kinds.Gate refl refl)),
                                                                              (
                                                                                of_parts first _ (alone first Kinds.Dam (known first Kinds.Dam refl refl)),
                                                                                (
                                                                                  of_parts first _ (alone first Kinds.Elastic (known first Kinds.Elastic refl refl)),
                                                                                  (
                                                                                    of_parts first _ (alone first Kinds.Buffer (known first Kinds.Buffer refl refl)),
                                                                                    (
                                                                                      of_parts first _ (alone first Kinds.Copy (known first Kinds.Copy refl refl)),
                                                                                      (
                                                                                        of_parts first _ (filling first),
                                                                                        (
                                                                                          of_parts first _ (blocking first),
                                                                                          (
                                                                                            of_parts first _ (deblocking first),
                                                                                            (
                                                                                              of_parts first _ (specifying first),
                                                                                              tt,
                                                                                            ),
                                                                                          ),
                                                                                        ),
                                                                                      ),
                                                                                    ),
                                                                                  ),
                                                                                ),
                                                                              ),
                                                                            ),
                                                                          ),
                                                                        ),
                                                                      ),
                                                                    ),
                                                                  ),
                                                                ),
                                                              ),
                                                            ),
                                                          ),
                                                        ),
                                                      ),
                                                    ),
                                                  ),
                                                ),
                                              ),
                                            ),
                                          ),
                                        ),
                                      ),
                                    ),
                                  ),
                                ),
                              ),
                            ),
                          ),
                        ),
                      ),
                    ),
                  ),
                ),
              ),
            ),
          ),
        ),
      ),
    ),
  ),
)

-- what is read can be typed, and only a kind that is named `<` is fed a file
module _ (name : List ℕ) (arg : ArgText) (first : Bool) (kind : Kind) (is : IsKind name arg first kind) where
  record IsRead : Type 0 where
    typed : IsTyped first kind
    named : is_of_file (line_of kind).feed ≡ true → name ≡ codes "<"

  by_name : (reader : Bool) → is_reader (str_to_ascii_lowercase name) ≡ reader → IsRead
  by_name false other =
      let read = of_named (AreOther first) is.arguments (stages first) name other (rows_typed first) is.named arg.bytes kind is.reads in
      record { typed = read.typed; named = λ file. (let no = sym file ∙ read.fileless in cc) }
  by_name true same =
      let lowered = (bytes_eq-Decides (str_to_ascii_lowercase name) (codes "<")).0 same in
      let found : Some file_in ≡ Some is.arguments = sym (named_same (stages first) name (codes "<") lowered) ∙ is.named in
      let own : is.arguments ≡ file_in = cc in
      record {
        typed = file_typed first arg.bytes kind (subst (λ (arguments : Arguments). Reads arguments arg.bytes kind) own is.reads);
        named = λ file. one_spelling name lowered;
      }

  pub typed_kind : IsTyped first kind
  typed_kind = (by_name (is_reader (str_to_ascii_lowercase name)) refl).typed

  pub reader_named : is_of_file (line_of kind).feed ≡ true → name ≡ codes "<"
  reader_named = (by_name (is_reader (str_to_ascii_lowercase name)) refl).named
