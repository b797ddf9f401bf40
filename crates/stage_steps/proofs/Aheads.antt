-- That a string doesn't stand in a part of a text.
use Rattle.std.proofs.Common.{◌≡◌, ℕ, suc, ◌+◌, ◌-◌, ◌<◌, ◌≤◌, min, Bool, true, false, ◌&&◌, ◌||◌, List, [], ◌∷◌, ◌++◌, length, take, drop, arith, refl, sym, ◌∙◌, ap, ⊎_elim, Some, None}
use Rattle.std.proofs.lemmas.Bool.{cases_lt}
use Rattle.std.proofs.lemmas.List.{take-append-drop, take-take, drop-take, take_all, length-take, get_or-take}
use Rattle.bstr.specs.Find.{OccursAt}
use Rattle.pipe_model.specs.Search.{begins, holds}
use Rattle.pipe_model.proofs.Searches.{holds-is}
use Rattle.pipe_model.proofs.Truths.{neither}
use Rattle.stage_steps.specs.Awaits.{IsClear}
use Rattle.stage_steps.specs.Strings.{StandsAt, IsFirstPlace}
use Rattle.stage_steps.proofs.Searching.{is_held, stands}

-- two tests don't both hold where they don't with a second one that holds more often
not_both : (a b c : Bool) → (c ≡ false → b ≡ false) → (a && c) ≡ false → (a && b) ≡ false
not_both true b c less is = less is
not_both false b c less is = refl

-- neither of two tests holds, so one of them doesn't
not_either : (a b : Bool) → a ≡ false → b ≡ false → (a || b) ≡ false
not_either true b no_a no_b = no_a
not_either false b no_a no_b = no_b

-- a front doesn't begin with the string where the whole doesn't
begins_front : (string front behind : List ℕ) → begins string (front ++ behind) ≡ false → begins string front ≡ false
begins_front [] front behind is = is
begins_front (s ∷ string) [] behind is = refl
begins_front (s ∷ string) (r ∷ front) behind is = not_both _ _ _ (begins_front string front behind) is

-- nor does it hold the string where the whole doesn't
holds_front : (string front behind : List ℕ) → holds string (front ++ behind) ≡ false → holds string front ≡ false
holds_front string [] [] is = is
holds_front string [] (r ∷ behind) is = begins_front string [] (r ∷ behind) (neither _ _ is).0
holds_front string (r ∷ front) behind is = let no = neither _ _ is in not_either _ _ (begins_front string (r ∷ front) behind no.0) (holds_front string front behind no.1)

-- nor does what stands behind a front
holds_behind : (string front behind : List ℕ) → holds string (front ++ behind) ≡ false → holds string behind ≡ false
holds_behind string [] behind is = is
holds_behind string (r ∷ front) behind is = holds_behind string front behind (neither _ _ is).1

-- where a text doesn't hold the string, no part of it does
pub holds_within : (string front part behind : List ℕ) → holds string (front ++ (part ++ behind)) ≡ false → holds string part ≡ false
holds_within string front part behind is = holds_front string part behind (holds_behind string front (part ++ behind) is)

-- a shorter front of a text doesn't hold the string where a longer one is known not to
pub clear_front : (string text : List ℕ) (count n : ℕ) → IsClear string text count → n < count → holds string (take n text) ≡ false
clear_front string text count n clear below =
    let cut : take n text ++ drop n (take count text) ≡ take count text = ap (λ l. l ++ drop n (take count text)) (sym (take-take n count text (omega arith))) ∙ take-append-drop n (take count text) in
    holds_front string (take n text) (drop n (take count text)) (ap (holds string) cut ∙ clear (omega arith))

-- nor does what is left of the longer one behind the shorter one and a byte more
pub clear_behind : (string text : List ℕ) (count n : ℕ) → IsClear string text count → n < count → IsClear string (drop (suc n) text) (count - suc n)
clear_behind string text count n clear below some =
    let size : suc n + (count - suc n) ≡ count = omega arith in
    let rest : drop (suc n) (take count text) ≡ take (count - suc n) (drop (suc n) text) = ap (λ k. drop (suc n) (take k text)) (sym size) ∙ drop-take (suc n) (count - suc n) text in
    ap (holds string) (sym rest) ∙ holds_behind string (take (suc n) (take count text)) (drop (suc n) (take count text)) (ap (holds string) (take-append-drop (suc n) (take count text)) ∙ clear (omega arith))

-- no more can be taken than there is
take_least : (most : ℕ) (text : List ℕ) → take (min most (length text)) text ≡ take most text
take_least most text = ⊎_elim (λ some. let is : min most (length text) ≡ most = omega arith in ap (λ n. take n text) is)
    (λ few. let is : min most (length text) ≡ length text = omega arith in ap (λ n. take n text) is ∙ (take_all (length text) text (omega arith) ∙ sym (take_all most text few))) (cases_lt most (length text))

-- a front that ends by the first place
module _ (string text : List ℕ) (place : ℕ) (some : 0 < place) (low : place ≤ length text) (before : (j : ℕ) → j < place → ¬ StandsAt string text j) where
  -- where it occurs in a front it occurs in the whole
  occurs_whole : (k : ℕ) → OccursAt (take place text) string k → OccursAt text string k
  occurs_whole k at =
      let f = at.fits in
      let size = length-take place text in
      record {
        fits = omega arith;
        reads = λ j below. sym (get_or-take place text (k + j) 0 (omega arith)) ∙ at.reads j below;
      }

  -- that doesn't hold the string
  before_place : holds string (take place text) ≡ false
  before_place =
      let size = length-take place text in
      sym (holds-is string (take place text) false (
        (λ no. absurd cc),
        (λ at.
            let f = at.1.fits in
            let whole = occurs_whole at.0 at.1 in
            absurd (⊎_elim (λ early. before at.0 early (stands string text at.0 whole)) (λ late. before 0 some (stands string text 0 (record {
              fits = omega arith;
              reads = λ j below. absurd (omega arith);
            }))) (cases_lt at.0 place))),
      ))

-- the front of a text up to the first place of the string in a longer front doesn't hold it
pub clear_place : (string text near : List ℕ) (most place : ℕ) → near ≡ take most text → IsFirstPlace string near (Some place) → IsClear string text place
clear_place string text near most place is first some =
    let size : length near ≡ min most (length text) = ap length is ∙ length-take most text in
    let low = first.0.0 in
    let same : take place near ≡ take place text = ap (take place) is ∙ take-take place most text (omega arith) in
    ap (holds string) (sym same) ∙ before_place string near place some low first.1

-- nor does a front that has no such place
pub clear_nowhere : (string text near : List ℕ) (most : ℕ) → near ≡ take most text → IsFirstPlace string near None → IsClear string text (length near)
clear_nowhere string text near most is nowhere some =
    let size : length near ≡ min most (length text) = ap length is ∙ length-take most text in
    let same : take (length near) text ≡ near = ap (λ l. take l text) size ∙ (take_least most text ∙ sym is) in
    ap (holds string) same ∙ sym (is_held string near None nowhere)
