-- What is left of a text after bytes at its front.
use Rattle.std.proofs.Common.{◌≡◌, ℕ, ◌+◌, ◌-◌, List, ◌++◌, length, drop, replicate, refl, sym, ap, ◌∙◌, arith, length-append}
use Rattle.std.proofs.lemmas.List.{drop-drop, drop_at}
use Rattle.pipe_model.specs.Words.{IsUnblanked}

-- the rest is what is left after as many bytes as stand before it
pub rest_left : (text front rest : List ℕ) → text ≡ front ++ rest → drop (length text - length rest) text ≡ rest
rest_left text front rest parts =
    let long : length front ≡ length text - length rest = omega (arith, ap length parts, length-append front rest) in
    ap (drop (length text - length rest)) parts ∙ drop_at front rest (length text - length rest) long

-- bytes at the front were passed, and more after them
pub more_passed : (text front rest : List ℕ) (more : ℕ) → text ≡ front ++ rest → drop (length front + more) text ≡ drop more rest
more_passed text front rest more parts = sym (drop-drop more (length front) text) ∙ ap (drop more) (ap (drop (length front)) parts ∙ drop_at front rest (length front) refl)

-- the blanks were passed, and more after them
pub blanks_passed : (text front : List ℕ) (more : ℕ) → IsUnblanked text front → drop (length text - length front + more) text ≡ drop more front
blanks_passed text front more unblanked =
    sym (drop-drop more (length text - length front) text) ∙ ap (drop more) (rest_left text (replicate unblanked.blanks 32) front unblanked.spells)

-- the blanks and a word were passed
pub word_passed : (text front word rest : List ℕ) → IsUnblanked text front → front ≡ word ++ rest → drop (length text - length front + length word) text ≡ rest
word_passed text front word rest unblanked parts = blanks_passed text front (length word) unblanked ∙ ap (drop (length word)) parts ∙ drop_at word rest (length word) refl
