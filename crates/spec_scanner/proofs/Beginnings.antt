-- How a text begins, from what was read at its front.
use Rattle.std.proofs.Common.{◌≡◌, ◌≢◌, ℕ, suc, ◌+◌, ◌-◌, ◌≤◌, List, [], ◌∷◌, ◌++◌, length, get_or, replicate, take, drop, refl, sym, ap, ◌∙◌, subst, arith, Option, Some, None, inl, inr, length-append, length-drop}
use Rattle.std.proofs.lemmas.List.{length-replicate, take_rest}
use Rattle.bstr.specs.Find.{IsFirstByte, is_byte}
use Rattle.pipe_model.specs.Words.{IsUnblanked}
use Rattle.argument_parts.proofs.Delimiters.{not_nowhere, not_before}
use Rattle.spec_scanner.specs.declared.fault.Fault.{Fault}
use Rattle.spec_scanner.specs.declared.settings.OptionsRead.{OptionsRead}
use Rattle.spec_scanner.specs.declared.settings.Settings.{Settings}
use Rattle.spec_scanner.specs.declared.signs.Choice.{Choice}
use Rattle.spec_scanner.specs.declared.signs.OptionName.TheVariants.{Separator, End, Escape}
use Rattle.spec_scanner.specs.declared.signs.Signs.{Signs}
use Rattle.spec_scanner.specs.declared.fault.SpecFaultKind.TheVariants.{OpenOptions}
use Rattle.spec_scanner.specs.Faults.{IsLeastSo, fault}
use Rattle.spec_scanner.specs.Options.{AreWords, BeginsAs, HasOptions, Outset, Pair, Word, clashes, in_force, no_signs, pair_faults, pairs_of, signs_of}
use Rattle.spec_scanner.specs.Settings.{AreSettings, IsReadOf, all_in, signs_in}
use Rattle.spec_scanner.proofs.Leasts.{least_one}
use Rattle.spec_scanner.proofs.Nowhere.{first_within, split_first}
use Rattle.spec_scanner.proofs.Wording.{Told, blanks_are}

-- what is told of how a text begins
abbrev pub Begins : List ℕ → Signs → ℕ → Option Fault → Type 0
Begins text signs start least = (outset : Outset) × BeginsAs text outset × (outset.signs ≡ signs) × (outset.start ≡ start) × IsLeastSo least outset.faults

-- what options say, from where they stand and their words
abbrev pub outset_of : List ℕ → ℕ → List ℕ → List ℕ → List Word → Outset
outset_of text blanks inside body words = record {
  signs = signs_of (pairs_of words);
  start = length text - length body;
  faults = pair_faults (suc blanks + length inside) [] (pairs_of words) ++ clashes (in_force (pairs_of words));
}

-- the settings say what is in force
three : {X : Type 0} (f : Option Choice → Option Choice → Option Choice → X) (a b c d e g : Option Choice) → a ≡ d → b ≡ e → c ≡ g → f a b c ≡ f d e g
three f a b c d e g first second third = cc

module _ (pairs : List Pair) (settings : Settings) (are : AreSettings pairs settings) where
  signs_are : signs_in settings ≡ signs_of pairs
  signs_are = three (λ separator end escape. signs_in (record settings { separator = record settings.separator { choice = separator }; end = record settings.end { choice = end }; escape = record settings.escape { choice = escape } }))
      _ _ _ _ _ _ (are.choice Separator) (are.choice End) (are.choice Escape)

  all_are : all_in settings ≡ in_force pairs
  all_are = three (λ separator end escape. all_in (record settings { separator = record settings.separator { choice = separator }; end = record settings.end { choice = end }; escape = record settings.escape { choice = escape } }))
      _ _ _ _ _ _ (are.choice Separator) (are.choice End) (are.choice Escape)

module _ (text front : List ℕ) (unblanked : IsUnblanked text front) where
  -- a text without options
  pub begins_without : get_or front 0 0 ≢ 40 → Begins text no_signs (length text - length front) None
  begins_without other =
      (record { signs = no_signs; start = unblanked.blanks; faults = [] }, inl (record { body = front; unblanked = unblanked; other = other; outset_is = refl }), refl, blanks_are text front unblanked, refl)

  module _ (opens : get_or front 0 0 ≡ 40) (some : 1 ≤ length front) where
    -- what stands after the opening parenthesis
    after_open : front ≡ 40 ∷ take (length front - 1) (drop 1 front)
    after_open = by front opens some where
      by : (bytes : List ℕ) → get_or bytes 0 0 ≡ 40 → 1 ≤ length bytes → bytes ≡ 40 ∷ take (length bytes - 1) (drop 1 bytes)
      by [] is long = absurd (omega arith)
      by (byte ∷ bytes) is long = rw (take_rest (byte ∷ bytes) 1) (ap (λ (b : ℕ). b ∷ bytes) is)

    text_is : text ≡ replicate unblanked.blanks 32 ++ (40 ∷ take (length front - 1) (drop 1 front))
    text_is = unblanked.spells ∙ ap (λ (bytes : List ℕ). replicate unblanked.blanks 32 ++ bytes) after_open

    -- options that are not closed
    pub begins_unclosed : IsFirstByte (is_byte 41) (take (length front - 1) (drop 1 front)) None → Begins text no_signs (length text) (Some (fault OpenOptions (length text - length front)))
    begins_unclosed nowhere = (
      record { signs = no_signs; start = length text; faults = fault OpenOptions unblanked.blanks ∷ [] },
      inr (inl (record { blanks = unblanked.blanks; unclosed = record { after = take (length front - 1) (drop 1 front); spells = text_is; never = not_nowhere _ 41 nowhere }; outset_is = refl })),
      refl,
      refl,
      rw (sym (blanks_are text front unblanked)) (least_one (fault OpenOptions unblanked.blanks)),
    )

    -- options
    module _ (size : ℕ) (first : IsFirstByte (is_byte 41) (take (length front - 1) (drop 1 front)) (Some size)) where
      inside : List ℕ
      inside = take size (take (length front - 1) (drop 1 front))

      body : List ℕ
      body = drop (suc size) (take (length front - 1) (drop 1 front))

      options : HasOptions text inside body unblanked.blanks
      unfolding inside body
      options = record {
        spells = text_is ∙ ap (λ (bytes : List ℕ). replicate unblanked.blanks 32 ++ (40 ∷ bytes)) (split_first _ 41 size first);
        whole = not_before _ 41 size first;
      }

      start_is : length text - length body ≡ (((length text - length front) + 1) + size) + 1
      unfolding body
      start_is =
          let long = first_within _ 41 size first in
          omega (
            arith,
            ap length text_is,
            length-append (replicate unblanked.blanks 32) (40 ∷ take (length front - 1) (drop 1 front)),
            length-replicate {A = ℕ} unblanked.blanks 32,
            blanks_are text front unblanked,
            length-drop (suc size) (take (length front - 1) (drop 1 front)),
          )

      some_told : (read : OptionsRead) (signs : Signs) (least : Option Fault) → signs ≡ signs_in read.settings → ((faults : List Fault) → IsLeastSo read.fault faults → IsLeastSo least (faults ++ clashes (all_in read.settings)))
          → (words : List Word) → AreWords (suc unblanked.blanks) inside words → IsReadOf (suc unblanked.blanks + length inside) (pairs_of words) read → Begins text signs ((((length text - length front) + 1) + size) + 1) least
      some_told read signs least signs_is least_is words words_are is_read =
          let faults = pair_faults (suc unblanked.blanks + length inside) [] (pairs_of words) in (
            outset_of text unblanked.blanks inside body words,
            inr (inr (record { inside = inside; body = body; blanks = unblanked.blanks; options = options; words = words; words_are = words_are; outset_is = refl {a = outset_of text unblanked.blanks inside body words} })),
            sym (signs_is ∙ signs_are (pairs_of words) read.settings is_read.settings_are),
            start_is,
            subst (λ (all : List Choice). IsLeastSo least (faults ++ clashes all)) (all_are (pairs_of words) read.settings is_read.settings_are) (least_is faults is_read.least_is),
          )

      pub begins_some : (read : OptionsRead) (signs : Signs) (least : Option Fault) → Told ((length text - length front) + 1) (take size (take (length front - 1) (drop 1 front))) (((length text - length front) + 1) + length (take size (take (length front - 1) (drop 1 front)))) read
          → signs ≡ signs_in read.settings → ((faults : List Fault) → IsLeastSo read.fault faults → IsLeastSo least (faults ++ clashes (all_in read.settings)))
          → Begins text signs ((((length text - length front) + 1) + size) + 1) least
      unfolding inside body
      begins_some read signs least told signs_is least_is =
          let at : (length text - length front) + 1 ≡ suc unblanked.blanks = omega (arith, blanks_are text front unblanked) in
          let here : Told (suc unblanked.blanks) inside (suc unblanked.blanks + length inside) read = subst (λ (n : ℕ). Told n inside (n + length inside) read) at told in
          some_told read signs least signs_is least_is here.0 here.1 here.2
