-- A text has one first word.
use Rattle.std.proofs.Common.{◌≡◌, ℕ, List, [], ◌∷◌, ◌++◌, get_or, refl, sym, ap, ◌∙◌, arith}
use Rattle.std.specs.List.{Contains}
use Rattle.std.proofs.lemmas.List.{append_cancel_left}
use Rattle.std.proofs.lemmas.List.Elements.{Contains-append_right}
use Rattle.pipe_model.specs.Words.{IsFirstWord}

-- two words without blanks before a blank or an end are one
one_word : (word other rest more : List ℕ) → ¬ Contains word 32 → ¬ Contains other 32 → get_or rest 0 32 ≡ 32 → get_or more 0 32 ≡ 32 → word ++ rest ≡ other ++ more → word ≡ other
one_word [] [] rest more whole whole_other stops stops_other same = refl
one_word [] (b ∷ other) rest more whole whole_other stops stops_other same =
    let blank : b ≡ 32 = ap (λ bytes. get_or bytes 0 32) (sym same) ∙ stops in
    absurd (whole_other (0, omega arith, blank))
one_word (a ∷ word) [] rest more whole whole_other stops stops_other same =
    let blank : a ≡ 32 = ap (λ bytes. get_or bytes 0 32) same ∙ stops_other in
    absurd (whole (0, omega arith, blank))
one_word (a ∷ word) (b ∷ other) rest more whole whole_other stops stops_other same =
    let tails : word ++ rest ≡ other ++ more = cc in
    let heads : a ≡ b = cc in
    let words = one_word word other rest more (λ found. whole (Contains-append_right (a ∷ []) word 32 found)) (λ found. whole_other (Contains-append_right (b ∷ []) other 32 found)) stops stops_other tails in
    cc

-- a text has one first word
pub same_word : (text word rest other more : List ℕ) → IsFirstWord text word rest → IsFirstWord text other more → word ≡ other
same_word text word rest other more first second = one_word word other rest more first.whole second.whole first.stops second.stops (sym first.spells ∙ second.spells)

-- and one rest after it
pub same_rest : (text word rest other more : List ℕ) → IsFirstWord text word rest → IsFirstWord text other more → rest ≡ more
same_rest text word rest other more first second =
    let words = same_word text word rest other more first second in
    append_cancel_left word rest more (sym first.spells ∙ second.spells ∙ ap (λ b. b ++ more) (sym words))
