-- What the options that were read so far chose.
use Rattle.std.specs.Prelude.{◌≡◌, ℕ, Bool, true, false, not, if◌then◌else◌, List, [], ◌∷◌, ◌++◌, option_map, unwrap_or}
use Rattle.std.specs.List.{list_any}
use Rattle.std.specs.declared.option.Option.{Option}
use Rattle.std.specs.declared.option.Option.TheVariants.{Some, None}
use Rattle.spec_scanner.specs.declared.settings.OptionsRead.{OptionsRead}
use Rattle.spec_scanner.specs.declared.settings.Setting.{Setting}
use Rattle.spec_scanner.specs.declared.settings.Settings.{Settings}
use Rattle.spec_scanner.specs.declared.signs.Choice.{Choice}
use Rattle.spec_scanner.specs.declared.signs.OptionName.{OptionName}
use Rattle.spec_scanner.specs.declared.signs.OptionName.TheVariants.{Separator, End, Escape, Name}
use Rattle.spec_scanner.specs.declared.signs.Signs.{Signs}
use Rattle.spec_scanner.specs.Faults.{IsLeastSo}
use Rattle.spec_scanner.specs.Options.{Pair, choice_of, is_of, listed, option_of, pair_faults}

-- the setting of an option
abbrev pub setting_of : Settings → OptionName → Setting
setting_of settings Separator = settings.separator
setting_of settings End = settings.end
setting_of settings Escape = settings.escape
setting_of settings Name = settings.name

-- the settings with another one of this option
abbrev pub with_setting : Settings → OptionName → Setting → Settings
with_setting settings Separator setting = record settings { separator = setting }
with_setting settings End setting = record settings { end = setting }
with_setting settings Escape setting = record settings { escape = setting }
with_setting settings Name setting = record settings { name = setting }

-- the option is known and not given yet
abbrev pub is_new_in : Settings → Option OptionName → Bool
is_new_in settings None = false
is_new_in settings (Some name) = not (setting_of settings name).is_given

-- the settings after one more pair of this option, whose value chooses this
abbrev pub settled : Settings → Option OptionName → Option Choice → Settings
settled settings None choice = settings
settled settings (Some name) choice =
    if (setting_of settings name).is_given then settings else with_setting settings name (record { is_given = true; choice = choice })

-- the settings are what these pairs say
pub record AreSettings (pairs : List Pair) (settings : Settings) : Type 0 where
  pub given : (name : OptionName) → (setting_of settings name).is_given ≡ list_any (λ pair. is_of (option_of pair.word.bytes) name) pairs
  pub choice : (name : OptionName) → (setting_of settings name).choice ≡ choice_of name pairs

-- this was read of these pairs, which are closed at a place
pub record IsReadOf (close : ℕ) (pairs : List Pair) (read : OptionsRead) : Type 0 where
  pub settings_are : AreSettings pairs read.settings
  pub least_is : IsLeastSo read.fault (pair_faults close [] pairs)

-- the separator that is in force
abbrev pub separator_in : Settings → Choice
separator_in settings = unwrap_or settings.separator.choice (record { byte = 124; place = 0 })

-- the choices that are in force
abbrev pub all_in : Settings → List Choice
all_in settings = separator_in settings ∷ (listed settings.end.choice ++ listed settings.escape.choice)

-- the characters that are in force
abbrev pub signs_in : Settings → Signs
signs_in settings = record {
  separator = (separator_in settings).byte;
  end = option_map (λ choice. choice.byte) settings.end.choice;
  escape = option_map (λ choice. choice.byte) settings.escape.choice;
}
