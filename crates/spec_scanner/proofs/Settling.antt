-- What options say, as more pairs of them are read.
use Rattle.std.proofs.Common.{if◌then◌else◌, ◌≡◌, ℕ, ◌||◌, Bool, true, false, not, List, [], ◌∷◌, ◌++◌, refl, sym, ap, ◌∙◌, subst, Option, Some, None}
use Rattle.std.specs.List.{list_any}
use Rattle.std.specs.Option.{option_and_then}
use Rattle.std.proofs.lemmas.List.{append-nil, append_assoc}
use Rattle.std.proofs.Math.Bool.{or-true}
use Rattle.spec_scanner.proofs.Finding.{any_last, find_last, find_stays, stays}
use Rattle.spec_scanner.specs.declared.fault.Fault.{Fault}
use Rattle.spec_scanner.specs.declared.settings.OptionsRead.{OptionsRead}
use Rattle.spec_scanner.specs.declared.settings.Setting.{Setting}
use Rattle.spec_scanner.specs.declared.settings.Settings.{Settings}
use Rattle.spec_scanner.specs.declared.signs.Choice.{Choice}
use Rattle.spec_scanner.specs.declared.signs.OptionName.{OptionName}
use Rattle.spec_scanner.specs.declared.signs.OptionName.TheVariants.{Separator, End, Escape, Name}
use Rattle.spec_scanner.specs.declared.fault.SpecFaultKind.TheVariants.{BadOption}
use Rattle.spec_scanner.specs.Faults.{IsLeastSo, fault}
use Rattle.spec_scanner.specs.Options.{Pair, choice_of, chosen, is_new, is_of, is_same_option, option_of, pair_faults, value_faults, word_faults}
use Rattle.spec_scanner.specs.Settings.{AreSettings, IsReadOf, is_new_in, setting_of, settled, with_setting}

-- the setting of an option after another one was put in
setting_with : (settings : Settings) (name other : OptionName) (setting : Setting) → setting_of (with_setting settings name setting) other ≡ (if is_same_option name other then setting else setting_of settings other)
setting_with settings Separator Separator setting = refl
setting_with settings Separator End setting = refl
setting_with settings Separator Escape setting = refl
setting_with settings Separator Name setting = refl
setting_with settings End Separator setting = refl
setting_with settings End End setting = refl
setting_with settings End Escape setting = refl
setting_with settings End Name setting = refl
setting_with settings Escape Separator setting = refl
setting_with settings Escape End setting = refl
setting_with settings Escape Escape setting = refl
setting_with settings Escape Name setting = refl
setting_with settings Name Separator setting = refl
setting_with settings Name End setting = refl
setting_with settings Name Escape setting = refl
setting_with settings Name Name setting = refl

pub same_option : (name other : OptionName) → is_same_option name other ≡ true → name ≡ other
same_option Separator Separator is = refl
same_option Separator End is = cc
same_option Separator Escape is = cc
same_option Separator Name is = cc
same_option End Separator is = cc
same_option End End is = refl
same_option End Escape is = cc
same_option End Name is = cc
same_option Escape Separator is = cc
same_option Escape End is = cc
same_option Escape Escape is = refl
same_option Escape Name is = cc
same_option Name Separator is = cc
same_option Name End is = cc
same_option Name Escape is = cc
same_option Name Name is = refl

-- whether the pair gives this option
abbrev pub gives : OptionName → Pair → Bool
gives name pair = is_of (option_of pair.word.bytes) name

module _ (pairs : List Pair) (settings : Settings) (are : AreSettings pairs settings) where
  module _ (pair : Pair) (option name : OptionName) (is : option_of pair.word.bytes ≡ Some option) where
    -- whether the pair gives the option
    given_is : gives name pair ≡ is_same_option option name
    given_is = ap (λ o. is_of o name) is

    -- an option that is given is given already
    given_already : (setting_of settings option).is_given ≡ true → gives name pair ≡ true → (setting_of settings name).is_given ≡ true
    given_already given passes = subst (λ o. (setting_of settings o).is_given ≡ true) (same_option option name (sym given_is ∙ passes)) given

    -- the setting of an option that was not given yet
    setting_new : (same : Bool) → is_same_option option name ≡ same → (setting_of settings option).is_given ≡ false
        → ((setting : Setting) × (setting ≡ (if same then record { is_given = true; choice = chosen pair.value } else setting_of settings name))
        × (setting.is_given ≡ list_any (gives name) (pairs ++ pair ∷ [])) × (setting.choice ≡ choice_of name (pairs ++ pair ∷ [])))
    setting_new true same none =
        let other : list_any (gives name) pairs ≡ false = sym (are.given name) ∙ subst (λ o. (setting_of settings o).is_given ≡ false) (same_option option name same) none in
        let passes : gives name pair ≡ true = given_is ∙ same in (
          record { is_given = true; choice = chosen pair.value },
          refl,
          sym (any_last (gives name) pairs pair ∙ ap (λ b. list_any (gives name) pairs || b) passes ∙ or-true (list_any (gives name) pairs)),
          ap (λ found. option_and_then (λ (p : Pair). chosen p.value) found) (sym (find_last (gives name) pairs pair other passes)),
        )
    setting_new false same none =
        let passes : gives name pair ≡ false = given_is ∙ same in (
          setting_of settings name,
          refl,
          stays (setting_of settings name).is_given (list_any (gives name) pairs) (gives name pair) (are.given name) (λ yes. let no : true ≡ false = sym yes ∙ passes in cc) ∙ sym (any_last (gives name) pairs pair),
          are.choice name ∙ ap (λ found. option_and_then (λ (p : Pair). chosen p.value) found) (sym (find_stays (gives name) pairs pair (λ yes. let no : true ≡ false = sym yes ∙ passes in cc))),
        )

  -- where the pair gives nothing new, the settings stay
  settings_stay : (pair : Pair) → ((name : OptionName) → gives name pair ≡ true → (setting_of settings name).is_given ≡ true) → AreSettings (pairs ++ pair ∷ []) settings
  settings_stay pair already = record {
    given = λ name. stays (setting_of settings name).is_given (list_any (gives name) pairs) (gives name pair) (are.given name) (already name) ∙ sym (any_last (gives name) pairs pair);
    choice = λ name. are.choice name ∙ ap (λ found. option_and_then (λ (p : Pair). chosen p.value) found) (sym (find_stays (gives name) pairs pair (λ yes. sym (are.given name) ∙ already name yes)));
  }

  settled_by : (pair : Pair) (option : OptionName) → option_of pair.word.bytes ≡ Some option → (given : Bool) → (setting_of settings option).is_given ≡ given
      → AreSettings (pairs ++ pair ∷ []) (if given then settings else with_setting settings option (record { is_given = true; choice = chosen pair.value }))
  settled_by pair option is true given = settings_stay pair (λ name yes. given_already pair option name is given yes)
  settled_by pair option is false none = record {
    given = λ name. let new = setting_new pair option name is (is_same_option option name) refl none in
        ap (λ (s : Setting). s.is_given) (setting_with settings option name (record { is_given = true; choice = chosen pair.value }) ∙ sym new.1) ∙ new.2;
    choice = λ name. let new = setting_new pair option name is (is_same_option option name) refl none in
        ap (λ (s : Setting). s.choice) (setting_with settings option name (record { is_given = true; choice = chosen pair.value }) ∙ sym new.1) ∙ new.3;
  }

  settled_as : (pair : Pair) (option : Option OptionName) → option_of pair.word.bytes ≡ option → AreSettings (pairs ++ pair ∷ []) (settled settings option (chosen pair.value))
  settled_as pair None is = settings_stay pair (λ name yes. let no : false ≡ true = sym (ap (λ o. is_of o name) is) ∙ yes in cc)
  settled_as pair (Some option) is = settled_by pair option is (setting_of settings option).is_given refl

  -- the settings after one more pair
  pub settled_more : (pair : Pair) → AreSettings (pairs ++ pair ∷ []) (settled settings (option_of pair.word.bytes) (chosen pair.value))
  settled_more pair = settled_as pair (option_of pair.word.bytes) refl

  -- whether an option is new
  new_as : (option : Option OptionName) → is_new_in settings option ≡ is_new pairs option
  new_as None = refl
  new_as (Some option) = ap not (are.given option)

-- the faults of one pair more
regroup : (a b c d : List Fault) → a ++ (b ++ (c ++ d)) ≡ (a ++ (b ++ c)) ++ d
regroup a b c d = simp append_assoc

faults_last : (close : ℕ) (earlier pairs : List Pair) (pair : Pair)
    → pair_faults close earlier (pairs ++ pair ∷ []) ≡ pair_faults close earlier pairs ++ (word_faults (earlier ++ pairs) pair ++ value_faults close (option_of pair.word.bytes) pair.value)
faults_last close earlier [] pair =
    let of_value = value_faults close (option_of pair.word.bytes) pair.value in
    ap (λ (rest : List Fault). word_faults earlier pair ++ rest) (append-nil of_value) ∙ ap (λ (before : List Pair). word_faults before pair ++ of_value) (sym (append-nil earlier))
faults_last close earlier (first ∷ pairs) pair =
    let of_value = value_faults close (option_of pair.word.bytes) pair.value in
    let here = pair_faults close (earlier ++ first ∷ []) pairs in
    let later = faults_last close (earlier ++ first ∷ []) pairs pair ∙ ap (λ (before : List Pair). here ++ (word_faults before pair ++ of_value)) (append_assoc earlier (first ∷ []) pairs) in
    ap (λ (rest : List Fault). word_faults earlier first ++ (value_faults close (option_of first.word.bytes) first.value ++ rest)) later
    ∙ regroup (word_faults earlier first) (value_faults close (option_of first.word.bytes) first.value) here (word_faults (earlier ++ first ∷ pairs) pair ++ of_value)

-- one pair more was read
module _ (close : ℕ) (pairs : List Pair) (pair : Pair) (read : OptionsRead) (is_read : IsReadOf close pairs read) where
  module _ (option : Option OptionName) (option_is : option ≡ option_of pair.word.bytes) where
    pub word_faults_are : (fresh : Bool) (of_word : List Fault) → fresh ≡ is_new_in read.settings option → of_word ≡ (if fresh then [] else fault BadOption pair.word.place ∷ []) → of_word ≡ word_faults pairs pair
    word_faults_are fresh of_word fresh_is of_word_is =
        of_word_is ∙ ap (λ (b : Bool). if b then [] else fault BadOption pair.word.place ∷ []) (fresh_is ∙ new_as pairs read.settings is_read.settings_are option ∙ ap (is_new pairs) option_is)

    pub read_more : (of_word of_value : List Fault) (first second : Option Fault) (settings : Settings) (choice : Option Choice)
        → of_word ≡ word_faults pairs pair → of_value ≡ value_faults close option pair.value → choice ≡ chosen pair.value → settings ≡ settled read.settings option choice
        → ((faults : List Fault) → IsLeastSo read.fault faults → IsLeastSo first (faults ++ of_word)) → ((faults : List Fault) → IsLeastSo first faults → IsLeastSo second (faults ++ of_value))
        → IsReadOf close (pairs ++ pair ∷ []) (record { settings = settings; fault = second })
    read_more of_word of_value first second settings choice of_word_is of_value_is choice_is settings_is least_first least_second =
        let faults = pair_faults close [] pairs in
        let least = least_second (faults ++ of_word) (least_first faults is_read.least_is) in
        let all : (faults ++ of_word) ++ of_value ≡ pair_faults close [] (pairs ++ pair ∷ []) =
        append_assoc faults of_word of_value ∙ ap (λ (fs : List Fault). faults ++ (fs ++ of_value)) of_word_is
        ∙ ap (λ (fs : List Fault). faults ++ (word_faults pairs pair ++ fs)) (of_value_is ∙ ap (λ (o : Option OptionName). value_faults close o pair.value) option_is) ∙ sym (faults_last close [] pairs pair) in
        let same : settings ≡ settled read.settings (option_of pair.word.bytes) (chosen pair.value) = settings_is ∙ ap (settled read.settings option) choice_is ∙ ap (λ (o : Option OptionName). settled read.settings o (chosen pair.value)) option_is in
        record {
          settings_are = subst (AreSettings (pairs ++ pair ∷ [])) (sym same) (settled_more pairs read.settings is_read.settings_are pair);
          least_is = subst (IsLeastSo second) all least;
        }
