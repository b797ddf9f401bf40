-- The global options: words in parentheses at the front of a text, an option and its value in turn.
use Rattle.std.specs.Prelude.{◌≡◌, ◌≢◌, ℕ, suc, ◌+◌, ◌-◌, ◌<◌, ◌==◌, ◌&&◌, ◌||◌, Bool, true, false, not, if◌then◌else◌, List, [], ◌∷◌, ◌++◌, length, replicate, get_or, nat_lt, codes, find, option_map, option_and_then, unwrap_or, ◌⊎◌}
use Rattle.std.specs.Char.{is_ascii_alphanumeric}
use Rattle.std.specs.Str.{bytes_eq, str_to_ascii_lowercase}
use Rattle.std.specs.List.{Contains, flat_map, list_any}
use Rattle.std.specs.declared.option.Option.{Option}
use Rattle.std.specs.declared.option.Option.TheVariants.{Some, None}
use Rattle.pipe_model.specs.Words.{IsFirstWord, IsUnblanked}
use Rattle.spec_scanner.specs.declared.fault.Fault.{Fault}
use Rattle.spec_scanner.specs.declared.signs.Signs.{Signs}
use Rattle.spec_scanner.specs.declared.signs.Choice.{Choice}
use Rattle.spec_scanner.specs.declared.signs.OptionName.{OptionName}
use Rattle.spec_scanner.specs.declared.signs.OptionName.TheVariants.{Separator, End, Escape, Name}
use Rattle.spec_scanner.specs.declared.fault.SpecFaultKind.TheVariants.{BadOption, OpenOptions, BadValue}
use Rattle.spec_scanner.specs.Faults.{fault}

-- a word, and the place of its first byte
pub record Word : Type 0 where
  pub bytes : List ℕ
  pub place : ℕ

-- the text, which begins at a place, is blanks, the word and the rest
pub record IsWordAt (at : ℕ) (text : List ℕ) (word : Word) (rest : List ℕ) : Type 0 where
  pub front : List ℕ
  pub unblanked : IsUnblanked text front
  pub first : IsFirstWord front word.bytes rest
  pub some : 0 < length word.bytes
  pub place_is : word.place ≡ at + unblanked.blanks

-- the text, which begins at a place, is these words, apart by blanks
abbrev pub AreWords : ℕ → List ℕ → List Word → Type 0
AreWords at text [] = IsUnblanked text []
AreWords at text (word ∷ words) = (rest : List ℕ) × IsWordAt at text word rest × AreWords (word.place + length word.bytes) rest words

-- an option's word, and its value if there is one
pub record Pair : Type 0 where
  pub word : Word
  pub value : Option Word

abbrev pub pairs_of : List Word → List Pair
pairs_of [] = []
pairs_of (word ∷ []) = record { word = word; value = None } ∷ []
pairs_of (word ∷ (value ∷ words)) = record { word = word; value = Some value } ∷ pairs_of words

-- the option of a word, in any case
abbrev pub option_of : List ℕ → Option OptionName
option_of word =
    let lower = str_to_ascii_lowercase word in
    if bytes_eq lower (codes "stagesep") || bytes_eq lower (codes "sep") then Some Separator
    else if bytes_eq lower (codes "endchar") || bytes_eq lower (codes "end") then Some End
    else if bytes_eq lower (codes "escape") || bytes_eq lower (codes "esc") then Some Escape
    else if bytes_eq lower (codes "name") then Some Name
    else None

abbrev pub is_same_option : OptionName → OptionName → Bool
is_same_option Separator Separator = true
is_same_option End End = true
is_same_option Escape Escape = true
is_same_option Name Name = true
is_same_option _ _ = false

-- the word is of this option
abbrev pub is_of : Option OptionName → OptionName → Bool
is_of (Some option) wanted = is_same_option option wanted
is_of None wanted = false

-- a byte may be chosen: from 21 to 7E in hexadecimal, no letter, no digit and none of `(`, `)`, `*`, `.` and `:`
abbrev pub may_be_chosen : ℕ → Bool
may_be_chosen byte =
    nat_lt 32 byte && (nat_lt byte 127 && (not (is_ascii_alphanumeric byte)
    && (not (byte == 40) && (not (byte == 41) && (not (byte == 42) && (not (byte == 46) && not (byte == 58)))))))

-- the word is one byte that may be chosen
abbrev pub is_choice : List ℕ → Bool
is_choice (byte ∷ []) = may_be_chosen byte
is_choice _ = false

-- the value of a known option other than `name` must be a choice
abbrev pub must_choose : Option OptionName → Bool
must_choose None = false
must_choose (Some Name) = false
must_choose (Some Separator) = true
must_choose (Some End) = true
must_choose (Some Escape) = true

-- the option is known, and none of these pairs gives it
abbrev pub is_new : List Pair → Option OptionName → Bool
is_new earlier None = false
is_new earlier (Some name) = not (list_any (λ pair. is_of (option_of pair.word.bytes) name) earlier)

-- the option is unknown, or given by an earlier pair
abbrev pub word_faults : List Pair → Pair → List Fault
word_faults earlier pair = if is_new earlier (option_of pair.word.bytes) then [] else fault BadOption pair.word.place ∷ []

-- the value is missing, which is seen at the closing parenthesis, or is none that may be chosen
abbrev pub value_faults : ℕ → Option OptionName → Option Word → List Fault
value_faults close option None = fault BadValue close ∷ []
value_faults close option (Some value) = if must_choose option && not (is_choice value.bytes) then fault BadValue value.place ∷ [] else []

-- the faults of pairs one by one, after earlier ones
abbrev pub pair_faults : ℕ → List Pair → List Pair → List Fault
pair_faults close earlier [] = []
pair_faults close earlier (pair ∷ pairs) =
    word_faults earlier pair ++ (value_faults close (option_of pair.word.bytes) pair.value ++ pair_faults close (earlier ++ pair ∷ []) pairs)

-- the byte of a value, if it may be chosen
abbrev pub chosen : Option Word → Option Choice
chosen None = None
chosen (Some value) = if is_choice value.bytes then Some (record { byte = get_or value.bytes 0 0; place = value.place }) else None

-- what the first pair of an option chooses
abbrev pub choice_of : OptionName → List Pair → Option Choice
choice_of name pairs = option_and_then (λ pair. chosen pair.value) (find (λ pair. is_of (option_of pair.word.bytes) name) pairs)

-- the separator is `|` unless another is chosen; nothing stands before place 0
abbrev pub separator_of : List Pair → Choice
separator_of pairs = unwrap_or (choice_of Separator pairs) (record { byte = 124; place = 0 })

abbrev pub listed : Option Choice → List Choice
listed None = []
listed (Some choice) = choice ∷ []

-- the choices in force
abbrev pub in_force : List Pair → List Choice
in_force pairs = separator_of pairs ∷ (listed (choice_of End pairs) ++ listed (choice_of Escape pairs))

-- a choice of one character by two options is a fault of the later one
abbrev pub clash : List Choice → Choice → List Fault
clash all choice = if list_any (λ other. other.byte == choice.byte && nat_lt other.place choice.place) all then fault BadValue choice.place ∷ [] else []

abbrev pub clashes : List Choice → List Fault
clashes all = flat_map (clash all) all

-- the characters in force
abbrev pub signs_of : List Pair → Signs
signs_of pairs = record {
  separator = (separator_of pairs).byte;
  end = option_map (λ choice. choice.byte) (choice_of End pairs);
  escape = option_map (λ choice. choice.byte) (choice_of Escape pairs);
}

-- the text is so many blanks, the options' text in parentheses and the body
pub record HasOptions (text inside body : List ℕ) (blanks : ℕ) : Type 0 where
  pub spells : text ≡ replicate blanks 32 ++ (40 ∷ inside ++ (41 ∷ body))
  pub whole : ¬ Contains inside 41

-- the text is so many blanks and an opening parenthesis that isn't closed
pub record IsUnclosed (text : List ℕ) (blanks : ℕ) : Type 0 where
  pub after : List ℕ
  pub spells : text ≡ replicate blanks 32 ++ (40 ∷ after)
  pub never : ¬ Contains after 41

-- what the options of a text say: the characters in force, the place where the body begins, and the faults of the options
pub record Outset : Type 0 where
  pub signs : Signs
  pub start : ℕ
  pub faults : List Fault

abbrev pub no_signs : Signs
no_signs = record { separator = 124; end = None; escape = None }

-- the text has no options
pub record HasNone (text : List ℕ) (outset : Outset) : Type 0 where
  pub body : List ℕ
  pub unblanked : IsUnblanked text body
  pub other : get_or body 0 0 ≢ 40
  pub outset_is : outset ≡ record { signs = no_signs; start = unblanked.blanks; faults = [] }

-- the text has options that are not closed
pub record HasUnclosed (text : List ℕ) (outset : Outset) : Type 0 where
  pub blanks : ℕ
  pub unclosed : IsUnclosed text blanks
  pub outset_is : outset ≡ record { signs = no_signs; start = length text; faults = fault OpenOptions blanks ∷ [] }

-- the text has options
pub record HasSome (text : List ℕ) (outset : Outset) : Type 0 where
  pub inside : List ℕ
  pub body : List ℕ
  pub blanks : ℕ
  pub options : HasOptions text inside body blanks
  pub words : List Word
  pub words_are : AreWords (suc blanks) inside words
  pub outset_is : outset ≡ record {
    signs = signs_of (pairs_of words);
    start = length text - length body;
    faults = pair_faults (suc blanks + length inside) [] (pairs_of words) ++ clashes (in_force (pairs_of words));
  }

-- the text begins so
abbrev pub BeginsAs : List ℕ → Outset → Type 0
BeginsAs text outset = HasNone text outset ⊎ (HasUnclosed text outset ⊎ HasSome text outset)
