-- The words of the options, as they are read.
use Rattle.std.proofs.Common.{◌≡◌, ◌≢◌, ℕ, ◌+◌, ◌-◌, ◌<◌, List, [], ◌∷◌, ◌++◌, length, get_or, replicate, refl, sym, ap, ◌∙◌, subst, arith, Some, None, length-append}
use Rattle.std.proofs.lemmas.List.{append-nil, append_assoc, get_or_default, length-replicate}
use Rattle.pipe_model.specs.Words.{IsFirstWord, IsUnblanked}
use Rattle.spec_scanner.specs.declared.settings.OptionsRead.{OptionsRead}
use Rattle.spec_scanner.specs.Options.{AreWords, IsWordAt, Pair, Word, pairs_of}
use Rattle.spec_scanner.specs.Settings.{IsReadOf}

-- blanks are as many as the bytes that they take
pub blanks_are : (text front : List ℕ) (unblanked : IsUnblanked text front) → unblanked.blanks ≡ length text - length front
blanks_are text front unblanked = omega (arith, ap length unblanked.spells, length-append (replicate unblanked.blanks 32) front, length-replicate {A = ℕ} unblanked.blanks 32)

-- a word that is first in a text without blanks at its front isn't empty
some_word : (front word rest : List ℕ) → get_or front 0 0 ≢ 32 → 0 < length front → IsFirstWord front word rest → 0 < length word
some_word front [] rest other some first = absurd (other (get_or_default front 0 0 32 some ∙ ap (λ bytes. get_or bytes 0 32) first.spells ∙ first.stops))
some_word front (byte ∷ word) rest other some first = omega arith

-- a word was read
pub word_read : (text front bytes rest : List ℕ) (at place : ℕ) → IsUnblanked text front → IsFirstWord front bytes rest → 0 < length front → place ≡ at + (length text - length front)
    → IsWordAt at text (record { bytes = bytes; place = place }) rest
word_read text front bytes rest at place unblanked first some is = record {
  front = front;
  unblanked = unblanked;
  first = first;
  some = some_word front bytes rest unblanked.other some first;
  place_is = is ∙ ap (λ n. at + n) (sym (blanks_are text front unblanked));
}

-- a word ends as far from the text's end as its rest is long
pub word_within : (at : ℕ) (text rest : List ℕ) (word : Word) → IsWordAt at text word rest → (word.place + length word.bytes) + length rest ≡ at + length text
word_within at text rest word is =
    omega (arith, is.place_is, ap length is.unblanked.spells, length-append (replicate is.unblanked.blanks 32) is.front, length-replicate {A = ℕ} is.unblanked.blanks 32, ap length is.first.spells, length-append word.bytes rest)

-- pairs were read of the words up to a place
pub record WordsRead (start : ℕ) (inside : List ℕ) (at : ℕ) (rest : List ℕ) (close : ℕ) (read : OptionsRead) : Type 0 where
  pub words : List Word
  pub pairs : List Pair
  pub within : at + length rest ≡ close
  pub words_lead : (more : List Word) → AreWords at rest more → AreWords start inside (words ++ more)
  pub pairs_lead : (more : List Word) → pairs_of (words ++ more) ≡ pairs ++ pairs_of more
  pub is_read : IsReadOf close pairs read

-- what the words say in the end
abbrev pub Told : ℕ → List ℕ → ℕ → OptionsRead → Type 0
Told start inside close read = (words : List Word) × AreWords start inside words × IsReadOf close (pairs_of words) read

pub words_start : (start : ℕ) (inside : List ℕ) (close : ℕ) (read : OptionsRead) → start + length inside ≡ close → IsReadOf close [] read → WordsRead start inside start inside close read
words_start start inside close read within is_read = record { words = []; pairs = []; within = within; words_lead = λ more are. are; pairs_lead = λ more. refl; is_read = is_read }

module _ (start : ℕ) (inside : List ℕ) (at : ℕ) (rest : List ℕ) (close : ℕ) (read : OptionsRead) (so_far : WordsRead start inside at rest close read) where
  pub words_end : IsUnblanked rest [] → Told start inside close read
  words_end none =
      let pairs = so_far.pairs_lead [] ∙ append-nil so_far.pairs in
      (so_far.words ++ [], so_far.words_lead [] none, subst (λ (ps : List Pair). IsReadOf close ps read) (sym pairs) so_far.is_read)

  module _ (word : Word) (after_word : List ℕ) (is_word : IsWordAt at rest word after_word) (next : OptionsRead) where
    pub words_odd : IsUnblanked after_word [] → ((pairs : List Pair) → IsReadOf close pairs read → IsReadOf close (pairs ++ record { word = word; value = None } ∷ []) next) → Told start inside close next
    words_odd none more = (
      so_far.words ++ word ∷ [],
      so_far.words_lead (word ∷ []) (after_word, is_word, none),
      subst (λ (ps : List Pair). IsReadOf close ps next) (sym (so_far.pairs_lead (word ∷ []))) (more so_far.pairs so_far.is_read),
    )

    pub words_more : (value : Word) (after_value : List ℕ) → IsWordAt (word.place + length word.bytes) after_word value after_value
        → ((pairs : List Pair) → IsReadOf close pairs read → IsReadOf close (pairs ++ record { word = word; value = Some value } ∷ []) next)
        → WordsRead start inside (value.place + length value.bytes) after_value close next
    words_more value after_value is_value more = record {
      words = so_far.words ++ word ∷ (value ∷ []);
      pairs = so_far.pairs ++ record { word = word; value = Some value } ∷ [];
      within = omega (arith, word_within at rest after_word word is_word, word_within (word.place + length word.bytes) after_word after_value value is_value, so_far.within);
      words_lead = λ later are. rw append_assoc (so_far.words_lead (word ∷ (value ∷ later)) (after_word, is_word, (after_value, is_value, are)));
      pairs_lead = λ later. ap pairs_of (append_assoc so_far.words (word ∷ (value ∷ [])) later) ∙ so_far.pairs_lead (word ∷ (value ∷ later)) ∙ sym (append_assoc so_far.pairs (record { word = word; value = Some value } ∷ []) (pairs_of later));
      is_read = more so_far.pairs so_far.is_read;
    }
