-- A string is looked for by its byte at one of its places.
use Rattle.std.proofs.Common.{◌≡◌, ℕ, ◌+◌, ◌-◌, ◌<◌, ◌≤◌, ◌⊎◌, true, false, List, length, drop, slice_index, arith, refl, sym, subst, inl, inr, ◌∙◌, ap, Option, Some, None, is_some, IfSome}
use Rattle.std.proofs.lemmas.Bool.{eqb-true, eq-eqb}
use Rattle.std.proofs.lemmas.List.{get_or-drop, length-drop}
use Rattle.bstr.specs.Find.{OccursAt, Nowhere, NoneBefore, Passes, IsFirstByte, FindsNeedle, is_byte}
use Rattle.pipe_model.specs.Search.{begins, holds}
use Rattle.pipe_model.proofs.Searches.{holds-is, occurs-begins, begins-occurs}
use Rattle.stage_steps.specs.Strings.{StandsAt, IsFirstPlace}

-- the string stands where it occurs
pub stands : (text part : List ℕ) (k : ℕ) → OccursAt part text k → StandsAt text part k
stands text part k at = (let f = at.fits in omega arith, occurs-begins text part k at)

occurs : (text part : List ℕ) (k : ℕ) → StandsAt text part k → OccursAt part text k
occurs text part k at = begins-occurs text part k at.0 at.1

-- the first occurrence is the first place
pub first_place : (text part : List ℕ) (r : Option ℕ) → FindsNeedle part text 0 r → IsFirstPlace text part r
first_place text part None nowhere = λ k at. let low = at.0 in nowhere k (omega arith) (omega arith) (occurs text part k at)
first_place text part (Some k) first = (
  stands text part k first.1,
  λ j below at. first.0.before j (omega arith) below (occurs text part j at),
)

pub fits_within : (text part : List ℕ) (r : Option ℕ) → FindsNeedle part text 0 r → IfSome r (λ k. k + length text ≤ length part)
fits_within text part None nowhere = tt
fits_within text part (Some k) first = first.1.fits

-- a place is found just where the string stands in the part
pub is_held : (text part : List ℕ) (r : Option ℕ) → IsFirstPlace text part r → is_some r ≡ holds text part
is_held text part None nowhere = holds-is text part false ((λ no. absurd cc), (λ at. absurd (nowhere at.0 (stands text part at.0 at.1))))
is_held text part (Some k) first = holds-is text part true ((λ yes. (k, occurs text part k first.0)), (λ at. refl))

-- where the string occurs ahead, its byte stands so far behind that place, in the rest from there on
module _ (part text : List ℕ) (rare from : ℕ) (inside : rare < length text) (rest : List ℕ) (rest_is : rest ≡ drop (from + rare) part) where
  abbrev Here : ℕ → Type 0
  Here = Passes (is_byte (slice_index text rare)) rest

  byte_at : (ahead : ℕ) → OccursAt part text (from + ahead) → (ahead < length rest) × Here ahead
  byte_at ahead at =
      let f = at.fits in
      let same : (from + rare) + ahead ≡ (from + ahead) + rare = omega arith in
      let size : length rest ≡ length part - (from + rare) = ap length rest_is ∙ length-drop (from + rare) part in (
        omega arith,
        eq-eqb _ _ (ap (λ l. slice_index l ahead) rest_is ∙ get_or-drop (from + rare) part ahead 0 ∙ ap (slice_index part) same ∙ at.reads rare inside),
      )

  module _ (before : (k : ℕ) → k < from → OccursAt part text k → ⊥) where
    -- nowhere, where it stands at no place from here on
    nowhere_at : (k : ℕ) → ((ahead : ℕ) → k ≡ from + ahead → ahead < length rest → Here ahead → ⊥) → OccursAt part text k → ⊥
    nowhere_at k passed at =
        let sides : (k < from) ⊎ (from ≤ k) = grind arith in
        elim sides [
          | inl early ↦ before k early at
          | inr late ↦
              let there : k ≡ from + (k - from) = omega arith in
              let byte = byte_at (k - from) (subst (OccursAt part text) there at) in
              passed (k - from) there byte.0 byte.1
        ]

    -- the byte stands nowhere, and so the string doesn't
    pub none_at_all : Nowhere Here 0 (length rest) → FindsNeedle part text 0 None
    none_at_all nowhere = λ k low high at. nowhere_at k (λ ahead is below here. nowhere ahead (omega arith) below here) at

    -- the byte stands first so far ahead, and so the string stands at no place below
    pub none_below : (ahead : ℕ) → NoneBefore Here 0 (length rest) ahead → (k : ℕ) → k < from + ahead → OccursAt part text k → ⊥
    none_below ahead first k below at = nowhere_at k (λ j is within here. first.before j (omega arith) (omega arith) here) at

    -- no byte is left
    pub none_left : length part ≤ from + rare → FindsNeedle part text 0 None
    none_left few =
        let size : length rest ≡ length part - (from + rare) = ap length rest_is ∙ length-drop (from + rare) part in
        none_at_all (λ k low high here. absurd (omega arith))

-- the string begins the rest from a place on just where it occurs there
module _ (part text rest : List ℕ) (place : ℕ) (low : place ≤ length part) (rest_is : rest ≡ drop place part) where
  pub occurs_there : OccursAt rest text 0 → OccursAt part text place
  occurs_there at = begins-occurs text part place low (ap (begins text) (sym rest_is) ∙ occurs-begins text rest 0 at)

  pub begins_there : OccursAt part text place → OccursAt rest text 0
  begins_there at = begins-occurs text rest 0 (omega arith) (ap (begins text) rest_is ∙ occurs-begins text part place at)

-- a string of one byte occurs where the byte stands
module _ (part text : List ℕ) (one : length text ≡ 1) where
  byte_occurs : (k : ℕ) → k < length part → Passes (is_byte (slice_index text 0)) part k → OccursAt part text k
  byte_occurs k below here = record {
    fits = omega arith;
    reads = λ j low.
        let first : j ≡ 0 = omega arith in
        let same : k + j ≡ k = omega arith in
        ap (slice_index part) same ∙ (eqb-true _ _ here ∙ ap (slice_index text) (sym first));
  }

  occurs_byte : (k : ℕ) → OccursAt part text k → (k < length part) × Passes (is_byte (slice_index text 0)) part k
  occurs_byte k at =
      let f = at.fits in
      let same : k ≡ k + 0 = omega arith in
      (omega arith, eq-eqb _ _ (ap (slice_index part) same ∙ at.reads 0 (omega arith)))

  pub one_byte : (r : Option ℕ) → IsFirstByte (is_byte (slice_index text 0)) part r → FindsNeedle part text 0 r
  one_byte None nowhere = λ k low high at. let byte = occurs_byte k at in nowhere k low byte.0 byte.1
  one_byte (Some k) first = (
    record {
      low = omega arith;
      high = let h = first.0.high in omega arith;
      before = λ j low below at. first.0.before j low below (occurs_byte j at).1;
    },
    byte_occurs k first.0.high first.1,
  )
