-- Options without a fault choose different characters.
use Rattle.std.proofs.Common.{if◌then◌else◌, ◌≡◌, ◌≢◌, ℕ, zero, suc, ◌+◌, ◌<◌, ◌≤◌, ◌==◌, ◌&&◌, ◌||◌, Bool, true, false, List, [], ◌∷◌, ◌++◌, length, get_or, nat_lt, refl, sym, ap, ◌∙◌, subst, arith, Option, Some, None, inl, inr, ◌⊎◌}
use Rattle.std.specs.List.{Contains, find, flat_map, list_any}
use Rattle.std.specs.Option.{option_and_then, option_map, unwrap_or}
use Rattle.std.proofs.lemmas.Bool.Decides.{nat_tests}
use Rattle.std.proofs.lemmas.List.Elements.{Contains-append_left, Contains-append_right}
use Rattle.spec_scanner.specs.declared.fault.Fault.{Fault}
use Rattle.spec_scanner.specs.declared.signs.Choice.{Choice}
use Rattle.spec_scanner.specs.declared.signs.OptionName.{OptionName}
use Rattle.spec_scanner.specs.declared.signs.OptionName.TheVariants.{Separator, End, Escape}
use Rattle.spec_scanner.specs.declared.fault.SpecFaultKind.TheVariants.{BadValue}
use Rattle.spec_scanner.specs.Faults.{fault}
use Rattle.spec_scanner.specs.Options.{AreWords, BeginsAs, Outset, Pair, Word, choice_of, chosen, clash, clashes, in_force, is_choice, is_of, listed, no_signs, option_of, pair_faults, pairs_of, separator_of, signs_of}
use Rattle.spec_scanner.proofs.OneBodies.{AreApart}
use Rattle.spec_scanner.proofs.Settling.{gives, same_option}

-- no parts, no part
nothing_left : (a b : List Fault) → a ++ b ≡ [] → (a ≡ []) × (b ≡ [])
nothing_left [] b is = (refl, is)
nothing_left (x ∷ a) b is = cc

-- where all give nothing, each gives nothing
each_none : (f : Choice → List Fault) (xs : List Choice) (x : Choice) → flat_map f xs ≡ [] → Contains xs x → f x ≡ []
each_none f [] x none found = absurd (omega (arith, found.1))
each_none f (y ∷ xs) x none found = by found.0 found.1 found.2 (nothing_left (f y) (flat_map f xs) none) (λ rest later. each_none f xs x rest later) where
  by : (k : ℕ) → k < length (y ∷ xs) → get_or (y ∷ xs) k x ≡ x → (f y ≡ []) × (flat_map f xs ≡ []) → (flat_map f xs ≡ [] → Contains xs x → f x ≡ []) → f x ≡ []
  by zero below is both later = ap f (sym is) ∙ both.0
  by (suc k) below is both later = later both.1 (k, omega arith, is)

-- where one passes, some pass
some_passes : (test : Choice → Bool) (xs : List Choice) (x : Choice) → Contains xs x → test x ≡ true → list_any test xs ≡ true
some_passes test [] x found passes = absurd (omega (arith, found.1))
some_passes test (y ∷ xs) x found passes = by found.0 found.1 found.2 (λ later. some_passes test xs x later passes) where
  or_passes : (a : Bool) → list_any test xs ≡ true → (a || list_any test xs) ≡ true
  or_passes true is = refl
  or_passes false is = is

  by : (k : ℕ) → k < length (y ∷ xs) → get_or (y ∷ xs) k x ≡ x → (Contains xs x → list_any test xs ≡ true) → (test y || list_any test xs) ≡ true
  by zero below is later = let here : test y ≡ true = ap test is ∙ passes in rw here refl
  by (suc k) below is later = or_passes (test y) (later (k, omega arith, is))

-- without a clash no choice stands before another one of its character
none_before : (all : List Choice) (a b : Choice) → clashes all ≡ [] → Contains all a → Contains all b → a.byte ≡ b.byte → ¬ (a.place < b.place)
none_before all a b none has_a has_b same = λ before.
    let passes : ((a.byte == b.byte) && nat_lt a.place b.place) ≡ true = grind (arith, nat_tests) in
    let some = some_passes (λ (other : Choice). (other.byte == b.byte) && nat_lt other.place b.place) all a has_a passes in
    let no : (if list_any (λ (other : Choice). (other.byte == b.byte) && nat_lt other.place b.place) all then fault BadValue b.place ∷ [] else []) ≡ [] = each_none (clash all) all b none has_b in
    let clear = rw some at no in
    cc

one_place : (all : List Choice) (a b : Choice) → clashes all ≡ [] → Contains all a → Contains all b → a.byte ≡ b.byte → a.place ≡ b.place
one_place all a b none has_a has_b same =
    let first = none_before all a b none has_a has_b same in
    let second = none_before all b a none has_b has_a (sym same) in
    grind (arith, first, second)

-- the words stand after a place, each after the one before it
abbrev Stand : ℕ → List Word → Type 0
Stand at [] = Unit {0}
Stand at (word ∷ words) = (at ≤ word.place) × Stand (suc word.place) words

stand_from : (at lower : ℕ) (words : List Word) → lower ≤ at → Stand at words → Stand lower words
stand_from at lower [] below are = tt
stand_from at lower (word ∷ words) below are = (omega (arith, are.0), are.1)

words_stand : (at : ℕ) (text : List ℕ) (words : List Word) → AreWords at text words → Stand at words
words_stand at text [] are = tt
words_stand at text (word ∷ words) are =
    (omega (arith, are.1.place_is), stand_from (word.place + length word.bytes) (suc word.place) words (omega (arith, are.1.some)) (words_stand (word.place + length word.bytes) are.0 words are.2))

-- what the first pair or a later one chooses
choice_front : (option : OptionName) (pair : Pair) (pairs : List Pair) (choice : Choice) → choice_of option (pair ∷ pairs) ≡ Some choice
    → ((gives option pair ≡ true) × (chosen pair.value ≡ Some choice)) ⊎ ((gives option pair ≡ false) × (choice_of option pairs ≡ Some choice))
choice_front option pair pairs choice is = by (gives option pair) refl is where
  by : (given : Bool) → gives option pair ≡ given → option_and_then (λ (p : Pair). chosen p.value) (if given then Some pair else find (gives option) pairs) ≡ Some choice
      → ((gives option pair ≡ true) × (chosen pair.value ≡ Some choice)) ⊎ ((gives option pair ≡ false) × (choice_of option pairs ≡ Some choice))
  by true given found = inl (given, found)
  by false given found = inr (given, found)

-- a choice stands where its value does
chosen_place : (value : Word) (choice : Choice) → chosen (Some value) ≡ Some choice → choice.place ≡ value.place
chosen_place value choice is = by (is_choice value.bytes) is where
  by : (may : Bool) → (if may then Some (record { byte = get_or value.bytes 0 0; place = value.place }) else None) ≡ Some choice → choice.place ≡ value.place
  by true found = let same : record { byte = get_or value.bytes 0 0; place = value.place } ≡ choice = cc in ap (λ (c : Choice). c.place) (sym same)
  by false found = cc

-- a word without a value chooses nothing
no_choice : (option : OptionName) (word : Word) (choice : Choice) → choice_of option (pairs_of (word ∷ [])) ≢ Some choice
no_choice option word choice is = by (choice_front option (record { word = word; value = None }) [] choice is) where
  by : ((gives option (record { word = word; value = None }) ≡ true) × (chosen None ≡ Some choice)) ⊎ ((gives option (record { word = word; value = None }) ≡ false) × (choice_of option [] ≡ Some choice)) → ⊥
  by (inl found) = let no = found.1 in cc
  by (inr found) = let no = found.1 in cc

-- a choice stands after the place where the words begin
choice_within : (option : OptionName) (at : ℕ) (words : List Word) (choice : Choice) → Stand at words → choice_of option (pairs_of words) ≡ Some choice → at < choice.place
choice_within option at [] choice stand is = cc
choice_within option at (word ∷ []) choice stand is = absurd (no_choice option word choice is)
choice_within option at (word ∷ (value ∷ words)) choice stand is =
    by (choice_front option (record { word = word; value = Some value }) (pairs_of words) choice is) (λ found. choice_within option (suc value.place) words choice stand.1.1 found) where
      by : ((gives option (record { word = word; value = Some value }) ≡ true) × (chosen (Some value) ≡ Some choice)) ⊎ ((gives option (record { word = word; value = Some value }) ≡ false) × (choice_of option (pairs_of words) ≡ Some choice))
          → (choice_of option (pairs_of words) ≡ Some choice → suc value.place < choice.place) → at < choice.place
      by (inl found) later = omega (arith, stand.0, stand.1.0, chosen_place value choice found.1)
      by (inr found) later = omega (arith, stand.0, stand.1.0, later found.1)

-- one pair is of one option
both_given : (option : Option OptionName) (a b : OptionName) → is_of option a ≡ true → is_of option b ≡ true → a ≡ b
both_given None a b first second = cc
both_given (Some option) a b first second = sym (same_option option a first) ∙ same_option option b second

-- the choices of two options stand at two places
choices_differ : (a b : OptionName) → a ≢ b → (at : ℕ) (words : List Word) (c d : Choice) → Stand at words → choice_of a (pairs_of words) ≡ Some c → choice_of b (pairs_of words) ≡ Some d → c.place ≢ d.place
choices_differ a b other at [] c d stand first second = cc
choices_differ a b other at (word ∷ []) c d stand first second = absurd (no_choice a word c first)
choices_differ a b other at (word ∷ (value ∷ words)) c d stand first second =
    by (choice_front a (record { word = word; value = Some value }) (pairs_of words) c first) (choice_front b (record { word = word; value = Some value }) (pairs_of words) d second)
    (λ found. choice_within a (suc value.place) words c stand.1.1 found) (λ found. choice_within b (suc value.place) words d stand.1.1 found)
    (λ x y. choices_differ a b other (suc value.place) words c d stand.1.1 x y) where
      by : ((gives a (record { word = word; value = Some value }) ≡ true) × (chosen (Some value) ≡ Some c)) ⊎ ((gives a (record { word = word; value = Some value }) ≡ false) × (choice_of a (pairs_of words) ≡ Some c))
          → ((gives b (record { word = word; value = Some value }) ≡ true) × (chosen (Some value) ≡ Some d)) ⊎ ((gives b (record { word = word; value = Some value }) ≡ false) × (choice_of b (pairs_of words) ≡ Some d))
          → (choice_of a (pairs_of words) ≡ Some c → suc value.place < c.place) → (choice_of b (pairs_of words) ≡ Some d → suc value.place < d.place)
          → (choice_of a (pairs_of words) ≡ Some c → choice_of b (pairs_of words) ≡ Some d → c.place ≢ d.place) → c.place ≢ d.place
      by (inl x) (inl y) c_later d_later later = absurd (other (both_given (option_of word.bytes) a b x.0 y.0))
      by (inl x) (inr y) c_later d_later later = λ same. omega (arith, same, chosen_place value c x.1, d_later y.1)
      by (inr x) (inl y) c_later d_later later = λ same. omega (arith, same, chosen_place value d y.1, c_later x.1)
      by (inr x) (inr y) c_later d_later later = later x.1 y.1

-- options of words that stand after the front have different characters, where nothing clashes
module _ (at : ℕ) (words : List Word) (stand : Stand at words) (none : clashes (in_force (pairs_of words)) ≡ []) where
  has_separator : Contains (in_force (pairs_of words)) (separator_of (pairs_of words))
  has_separator = (0, omega arith, refl)

  listed_one : (found : Option Choice) (choice : Choice) → found ≡ Some choice → Contains (listed found) choice
  listed_one found choice is = rw is (0, omega arith, refl)

  has_end : (choice : Choice) → choice_of End (pairs_of words) ≡ Some choice → Contains (in_force (pairs_of words)) choice
  has_end choice is = Contains-append_right (separator_of (pairs_of words) ∷ []) _ choice (Contains-append_left (listed (choice_of End (pairs_of words))) (listed (choice_of Escape (pairs_of words))) choice (listed_one (choice_of End (pairs_of words)) choice is))

  has_escape : (choice : Choice) → choice_of Escape (pairs_of words) ≡ Some choice → Contains (in_force (pairs_of words)) choice
  has_escape choice is = Contains-append_right (separator_of (pairs_of words) ∷ []) _ choice (Contains-append_right (listed (choice_of End (pairs_of words))) (listed (choice_of Escape (pairs_of words))) choice (listed_one (choice_of Escape (pairs_of words)) choice is))

  -- the separator stands elsewhere
  separator_elsewhere : (option : OptionName) (choice : Choice) → option ≢ Separator → choice_of option (pairs_of words) ≡ Some choice → choice.place ≢ (separator_of (pairs_of words)).place
  separator_elsewhere option choice other is = by (choice_of Separator (pairs_of words)) refl where
    by : (found : Option Choice) → choice_of Separator (pairs_of words) ≡ found → choice.place ≢ (unwrap_or found (record { byte = 124; place = 0 })).place
    by None found = λ same. omega (arith, same, choice_within option at words choice stand is)
    by (Some separator) found = choices_differ option Separator other at words choice separator stand is found

  -- the sign of a choice is its byte
  sign_of : (found : Option Choice) (byte : ℕ) → option_map (λ (choice : Choice). choice.byte) found ≡ Some byte → (choice : Choice) × (found ≡ Some choice) × (choice.byte ≡ byte)
  sign_of None byte is = cc
  sign_of (Some choice) byte is = (choice, refl, cc)

  signs_apart : AreApart (signs_of (pairs_of words))
  signs_apart = record {
    end_apart = λ is. let found = sign_of (choice_of End (pairs_of words)) _ is in
        separator_elsewhere End found.0 (λ same. cc) found.1 (one_place (in_force (pairs_of words)) found.0 (separator_of (pairs_of words)) none (has_end found.0 found.1) has_separator found.2);
    escape_apart = λ is. let found = sign_of (choice_of Escape (pairs_of words)) _ is in
        separator_elsewhere Escape found.0 (λ same. cc) found.1 (one_place (in_force (pairs_of words)) found.0 (separator_of (pairs_of words)) none (has_escape found.0 found.1) has_separator found.2);
    both_apart = λ byte is also. let end = sign_of (choice_of End (pairs_of words)) byte is in
        let escape = sign_of (choice_of Escape (pairs_of words)) byte also in
        choices_differ End Escape (λ same. cc) at words end.0 escape.0 stand end.1 escape.1
        (one_place (in_force (pairs_of words)) end.0 escape.0 none (has_end end.0 end.1) (has_escape escape.0 escape.1) (end.2 ∙ sym escape.2));
  }

-- characters of a text without options
none_apart : AreApart no_signs
none_apart = record { end_apart = λ is. cc; escape_apart = λ is. cc; both_apart = λ byte is also. cc }

-- a text whose options have no fault has different characters in force
pub outset_apart : (text : List ℕ) (outset : Outset) → BeginsAs text outset → outset.faults ≡ [] → AreApart outset.signs
outset_apart text outset (inl begins) none = subst (λ (o : Outset). AreApart o.signs) (sym begins.outset_is) none_apart
outset_apart text outset (inr (inl begins)) none = subst (λ (o : Outset). AreApart o.signs) (sym begins.outset_is) none_apart
outset_apart text outset (inr (inr begins)) none =
    let all = sym (ap (λ (o : Outset). o.faults) begins.outset_is) ∙ none in
    let clear = (nothing_left (pair_faults (suc begins.blanks + length begins.inside) [] (pairs_of begins.words)) (clashes (in_force (pairs_of begins.words))) all).1 in
    subst (λ (o : Outset). AreApart o.signs) (sym begins.outset_is) (signs_apart (suc begins.blanks) begins.words (words_stand (suc begins.blanks) begins.inside begins.words begins.words_are) clear)
