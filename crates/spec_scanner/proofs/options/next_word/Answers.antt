use Rattle.std.proofs.Common.{◌≡◌, ◌<◌, ◌==◌, ℕ, false, List, [], ◌∷◌, arith, length, refl}
use Rattle.spec_scanner.proofs.Wording.{word_read}
use Rattle.spec_scanner.proofs.options.next_word.Goals as goal

-- a list that isn't empty has an element
some_from : (bytes : List ℕ) → false ≡ (length bytes == 0) → 0 < length bytes
some_from [] is = cc
some_from (byte ∷ bytes) is = omega arith

pub returns : goal.returns
returns c =
    word_read c.args.text.now c.without_blanks-front.result.now c.first_word.result.0.now c.first_word.result.1.now c.args.at _ c.without_blanks-front.ensures c.first_word.ensures (some_from _ c.if-is_empty.ensures) refl
