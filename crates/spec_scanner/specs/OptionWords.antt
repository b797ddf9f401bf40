-- The words of the options, as they are read.
use Rattle.std.specs.Prelude.{option_map}
use Rattle.std.specs.declared.option.Option.{Option}
use Rattle.spec_scanner.specs.declared.option_words.OptionWord.{OptionWord}
use Rattle.spec_scanner.specs.Options.{Pair, Word}

-- the word that is read
abbrev pub word_of : OptionWord → Word
word_of word = record { bytes = word.bytes.now; place = word.place }

-- the pair that is read
abbrev pub pair_of : OptionWord → Option OptionWord → Pair
pair_of word value = record { word = word_of word; value = option_map word_of value }
