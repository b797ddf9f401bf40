-- Parts that are whole stay the first parts when more comes.
use Rattle.std.proofs.Common.{◌≡◌, ℕ, zero, suc, ◌+◌, ◌-◌, ◌<◌, ◌≤◌, Bool, true, false, List, [], ◌∷◌, ◌++◌, length, take, drop, map, refl, sym, ◌∙◌, ap, subst, arith, cond, ◌&&◌, ⊎_elim}
use Rattle.std.specs.Prelude.{nat_le, ◌==◌}
use Rattle.std.specs.List.{concat, onto_first}
use Rattle.std.proofs.lemmas.List.Folds.{concat-append}
use Rattle.std.proofs.lemmas.Bool.{and_parts, and_from, and_right, cases_Bool, cond-true, cond-false, ne_eqb, leb-true, le-leb}
use Rattle.std.proofs.lemmas.List.{map-append, length-append, take-append-le}
use Rattle.std.proofs.Math.Seq.{drop-append_seam, take-append_seam}
use Rattle.pipe_model.specs.declared.kind.Image.{Image}
use Rattle.pipe_model.specs.declared.kind.Cutting.{Cutting}
use Rattle.pipe_model.specs.declared.kind.Cutting.TheVariants.{Fixed, Linend, Text, Sf}
use Rattle.pipe_model.specs.Shape.{Records}
use Rattle.pipe_model.specs.Search.{begins}
use Rattle.pipe_model.specs.Counts.{earlier}
use Rattle.pipe_model.specs.Parts.{without_last, grown, onto_part, cut_after, cut_every}
use Rattle.pipe_model.specs.BlockRows.{image_of, parts_of, at_cut, cut_at, sf_length, sf_begins, cut_by_lengths}

-- the second list is the first and more
abbrev pub IsContinuedBy : {X : Type 0} → List X → List X → Type 0
IsContinuedBy {X} xs ys = (more : List X) × (ys ≡ xs ++ more)

-- what is made of records only grows at its end with one more record
abbrev pub Grows : {X : Type 0} → (Records → List X) → Type 0
Grows made = (recs : Records) (rec : List ℕ) → IsContinuedBy (made recs) (made (recs ++ rec ∷ []))

earlier-end : (recs : Records) (rec : List ℕ) → earlier (recs ++ rec ∷ []) ≡ recs
earlier-end recs rec = ap (λ n. take n (recs ++ rec ∷ [])) (omega (arith, length-append recs (rec ∷ []))) ∙ take-append_seam recs (rec ∷ [])

-- what the record at hand adds, behind what was there, is all
pub grown-all : {X : Type 0} (made : Records → List X) (recs : Records) (rec : List ℕ) → IsContinuedBy (made recs) (made (recs ++ rec ∷ [])) → made (recs ++ rec ∷ []) ≡ made recs ++ grown made (recs ++ rec ∷ [])
grown-all made recs rec front =
    let before : length (made (earlier (recs ++ rec ∷ []))) ≡ length (made recs) = ap (λ some. length (made some)) (earlier-end recs rec) in
    let added : grown made (recs ++ rec ∷ []) ≡ front.0 = ap (λ n. drop n (made (recs ++ rec ∷ []))) before ∙ ap (drop (length (made recs))) front.1 ∙ drop-append_seam (made recs) front.0 in
    front.1 ∙ ap (λ more. made recs ++ more) (sym added)

-- Parts

pub nothing_continued : {X : Type 0} (ys : List X) → IsContinuedBy [] ys
nothing_continued ys = (ys, refl)

some_part : {X : Type 0} (b : Bool) (x : X) (parts : List (List X)) → (p : List X) × (ps : List (List X)) × (onto_part b x parts ≡ p ∷ ps)
some_part true x parts = (x ∷ [], parts, refl)
some_part false x [] = (x ∷ [], [], refl)
some_part false x (p ∷ ps) = (x ∷ p, ps, refl)

some_cut : {X : Type 0} (n left : ℕ) (xs : List X) → (p : List X) × (ps : List (List X)) × (cut_after n left xs ≡ p ∷ ps)
some_cut n left [] = ([], [], refl)
some_cut n left (x ∷ xs) = some_part (left == 1) x (cut_after n (cond (left == 1) n (left - 1)) xs)

-- with one more member before both
pub member_stays : {X : Type 0} (x : X) (old new : List X) (y : X) (ys : List X) → new ≡ y ∷ ys → IsContinuedBy (without_last old) (without_last new) → IsContinuedBy (without_last (x ∷ old)) (without_last (x ∷ new))
member_stays x old [] y ys is stays = absurd (let no = is in cc)
member_stays x [] (a ∷ new) y ys is stays = (without_last (x ∷ a ∷ new), refl)
member_stays x (c ∷ old) (a ∷ new) y ys is stays = (stays.0, cc)

-- with a member before the first part of both
first_stays : {X : Type 0} (x : X) (old new : List (List X)) (p : List X) (ps : List (List X)) → new ≡ p ∷ ps → IsContinuedBy (without_last old) (without_last new) → IsContinuedBy (without_last (onto_first x old)) (without_last (onto_first x new))
first_stays x old [] p ps is stays = absurd (let no = is in cc)
first_stays x [] (a ∷ new) p ps is stays = (without_last (onto_first x (a ∷ new)), refl)
first_stays x (c ∷ []) (a ∷ new) p ps is stays = (without_last (onto_first x (a ∷ new)), refl)
first_stays x (c ∷ d ∷ old) (a ∷ []) p ps is stays = (stays.0, let no = stays.1 in cc)
first_stays x (c ∷ d ∷ old) (a ∷ b ∷ new) p ps is stays = (stays.0, let e = stays.1 in cc)

-- Every so many members

onto_stays : {X : Type 0} (b : Bool) (x : X) (old new : List (List X)) (p : List X) (ps : List (List X)) → new ≡ p ∷ ps → IsContinuedBy (without_last old) (without_last new) → IsContinuedBy (without_last (onto_part b x old)) (without_last (onto_part b x new))
onto_stays true x old new p ps is stays = member_stays (x ∷ []) old new p ps is stays
onto_stays false x old new p ps is stays = first_stays x old new p ps is stays

pub cut_after-stays : {X : Type 0} (n left : ℕ) (xs ys : List X) → IsContinuedBy (without_last (cut_after n left xs)) (without_last (cut_after n left (xs ++ ys)))
cut_after-stays n left [] ys = nothing_continued _
cut_after-stays n left (x ∷ xs) ys =
    let then_left : ℕ = cond (left == 1) n (left - 1) in
    let some = some_cut n then_left (xs ++ ys) in
    onto_stays (left == 1) x (cut_after n then_left xs) (cut_after n then_left (xs ++ ys)) some.0 some.1 some.2 (cut_after-stays n then_left xs ys)

-- At a string

begins-more : (string xs ys : List ℕ) → begins string xs ≡ true → begins string (xs ++ ys) ≡ true
begins-more [] xs ys is = refl
begins-more (s ∷ string) [] ys is = cc
begins-more (s ∷ string) (x ∷ xs) ys is =
    let each = and_parts (s == x) (begins string xs) is in
    and_from (s == x) (begins string (xs ++ ys)) each.0 (begins-more string xs ys each.1)

begins-short : (string xs : List ℕ) → length xs < length string → begins string xs ≡ false
begins-short [] xs short = absurd (omega arith)
begins-short (s ∷ string) [] short = refl
begins-short (s ∷ string) (x ∷ xs) short = and_right (s == x) (begins string xs) (begins-short string xs (omega arith))

-- where only what follows makes the string whole, the bytes are too short for it
short_before : (string xs ys : List ℕ) → begins string xs ≡ false → begins string (xs ++ ys) ≡ true → length xs < length string
short_before [] xs ys isnt is = cc
short_before (s ∷ string) [] ys isnt is = omega arith
short_before (s ∷ string) (x ∷ xs) ys isnt is =
    let each = and_parts (s == x) (begins string (xs ++ ys)) is in
    let later : begins string xs ≡ false = subst (λ same. (same && begins string xs) ≡ false) each.0 isnt in
    let shorter = short_before string xs ys later each.1 in
    omega arith

cut_at-zero : (string : List ℕ) (b : ℕ) (bytes : List ℕ) → cut_at string 0 (b ∷ bytes) ≡ cond (begins string (b ∷ bytes)) ([] ∷ cut_at string (length string - 1) bytes) (onto_first b (cut_at string 0 bytes))
cut_at-zero string b bytes =
    elim (begins string (b ∷ bytes)) as (λ is. at_cut 0 is b (cut_at string (cond is (length string - 1) 0) bytes) ≡ cond is ([] ∷ cut_at string (length string - 1) bytes) (onto_first b (cut_at string 0 bytes))) [
      | true ↦ refl
      | false ↦ refl
    ]

cut_at-suc : (string : List ℕ) (skip b : ℕ) (bytes : List ℕ) → cut_at string (suc skip) (b ∷ bytes) ≡ cut_at string skip bytes
cut_at-suc string skip b bytes =
    ap (λ is. cut_at string (cond (is && begins string (b ∷ bytes)) (length string - 1) (suc skip - 1)) bytes) (ne_eqb (suc skip) 0 (λ same. omega arith))
    ∙ ap (λ n. cut_at string n bytes) (omega arith)

some_at : (string : List ℕ) (skip : ℕ) (bytes : List ℕ) → (p : List ℕ) × (ps : Records) × (cut_at string skip bytes ≡ p ∷ ps)
some_at string skip [] = ([], [], refl)
some_at string (suc skip) (b ∷ bytes) = let rest = some_at string skip bytes in (rest.0, rest.1, cut_at-suc string skip b bytes ∙ rest.2)
some_at string zero (b ∷ bytes) =
    let rest = some_at string 0 bytes in
    let zero_is = cut_at-zero string b bytes in
    (elim (begins string (b ∷ bytes)) as (λ is. begins string (b ∷ bytes) ≡ is → (p : List ℕ) × (ps : Records) × (cut_at string 0 (b ∷ bytes) ≡ p ∷ ps)) [
      | true ↦ λ is. ([], cut_at string (length string - 1) bytes, zero_is ∙ cond-true (begins string (b ∷ bytes)) _ _ is)
      | false ↦ λ is. (b ∷ rest.0, rest.1, zero_is ∙ cond-false (begins string (b ∷ bytes)) _ _ is ∙ ap (onto_first b) rest.2)
    ]) refl

-- bytes that are too short for the string are one part
one_part : (string bytes : List ℕ) → length bytes < length string → (p : List ℕ) × (cut_at string 0 bytes ≡ p ∷ [])
one_part string [] short = ([], refl)
one_part string (b ∷ bytes) short =
    let rest = one_part string bytes (omega arith) in
    (b ∷ rest.0, cut_at-zero string b bytes ∙ cond-false (begins string (b ∷ bytes)) _ _ (begins-short string (b ∷ bytes) short) ∙ ap (onto_first b) rest.1)

cut_at_zero-stays : (string : List ℕ) (b : ℕ) (bytes ys : List ℕ)
    → IsContinuedBy (without_last (cut_at string (length string - 1) bytes)) (without_last (cut_at string (length string - 1) (bytes ++ ys)))
    → IsContinuedBy (without_last (cut_at string 0 bytes)) (without_last (cut_at string 0 (bytes ++ ys)))
    → IsContinuedBy (without_last (cut_at string 0 (b ∷ bytes))) (without_last (cut_at string 0 (b ∷ bytes ++ ys)))
cut_at_zero-stays string b bytes ys behind next =
    let old = cut_at-zero string b bytes in
    let new = cut_at-zero string b (bytes ++ ys) in
    let whole : begins string (b ∷ bytes) ≡ true → IsContinuedBy (without_last (cut_at string 0 (b ∷ bytes))) (without_last (cut_at string 0 (b ∷ bytes ++ ys))) = λ is.
    let later = begins-more string (b ∷ bytes) ys is in
    let some = some_at string (length string - 1) (bytes ++ ys) in
    subst (λ (parts : Records). IsContinuedBy (without_last parts) (without_last (cut_at string 0 (b ∷ bytes ++ ys)))) (sym (old ∙ cond-true (begins string (b ∷ bytes)) _ _ is))
    (subst (λ (parts : Records). IsContinuedBy (without_last ([] ∷ cut_at string (length string - 1) bytes)) (without_last parts)) (sym (new ∙ cond-true (begins string (b ∷ bytes ++ ys)) _ _ later))
    (member_stays [] (cut_at string (length string - 1) bytes) (cut_at string (length string - 1) (bytes ++ ys)) some.0 some.1 some.2 behind)) in
    let lacking : begins string (b ∷ bytes) ≡ false → begins string (b ∷ bytes ++ ys) ≡ true → IsContinuedBy (without_last (cut_at string 0 (b ∷ bytes))) (without_last (cut_at string 0 (b ∷ bytes ++ ys))) = λ isnt later.
    let one = one_part string (b ∷ bytes) (short_before string (b ∷ bytes) ys isnt later) in
    subst (λ (parts : Records). IsContinuedBy (without_last parts) (without_last (cut_at string 0 (b ∷ bytes ++ ys)))) (sym one.1) (nothing_continued _) in
    let neither : begins string (b ∷ bytes) ≡ false → begins string (b ∷ bytes ++ ys) ≡ false → IsContinuedBy (without_last (cut_at string 0 (b ∷ bytes))) (without_last (cut_at string 0 (b ∷ bytes ++ ys))) = λ isnt still.
    let some = some_at string 0 (bytes ++ ys) in
    subst (λ (parts : Records). IsContinuedBy (without_last parts) (without_last (cut_at string 0 (b ∷ bytes ++ ys)))) (sym (old ∙ cond-false (begins string (b ∷ bytes)) _ _ isnt))
    (subst (λ (parts : Records). IsContinuedBy (without_last (onto_first b (cut_at string 0 bytes))) (without_last parts)) (sym (new ∙ cond-false (begins string (b ∷ bytes ++ ys)) _ _ still))
    (first_stays b (cut_at string 0 bytes) (cut_at string 0 (bytes ++ ys)) some.0 some.1 some.2 next)) in
    ⊎_elim whole (λ isnt. ⊎_elim (lacking isnt) (neither isnt) (cases_Bool (begins string (b ∷ bytes ++ ys)))) (cases_Bool (begins string (b ∷ bytes)))

pub cut_at-stays : (string : List ℕ) (skip : ℕ) (xs ys : List ℕ) → IsContinuedBy (without_last (cut_at string skip xs)) (without_last (cut_at string skip (xs ++ ys)))
cut_at-stays string skip [] ys = nothing_continued _
cut_at-stays string (suc skip) (b ∷ bytes) ys =
    subst (λ (parts : Records). IsContinuedBy (without_last parts) (without_last (cut_at string (suc skip) (b ∷ bytes ++ ys)))) (sym (cut_at-suc string skip b bytes))
    (subst (λ (parts : Records). IsContinuedBy (without_last (cut_at string skip bytes)) (without_last parts)) (sym (cut_at-suc string skip b (bytes ++ ys)))
    (cut_at-stays string skip bytes ys))
cut_at-stays string zero (b ∷ bytes) ys = cut_at_zero-stays string b bytes ys (cut_at-stays string (length string - 1) bytes ys) (cut_at-stays string 0 bytes ys)

-- By lengths

by_lengths-suc : (skip b : ℕ) (bytes : List ℕ) → cut_by_lengths (suc skip) (b ∷ bytes) ≡ cut_by_lengths skip bytes
by_lengths-suc skip b bytes =
    ap (λ is. cut_by_lengths (cond is (sf_length (b ∷ bytes) - 1) (suc skip - 1)) bytes) (ne_eqb (suc skip) 0 (λ same. omega arith))
    ∙ ap (λ n. cut_by_lengths n bytes) (omega arith)

some_by_lengths : (skip : ℕ) (bytes : List ℕ) → (p : List ℕ) × (ps : Records) × (cut_by_lengths skip bytes ≡ p ∷ ps)
some_by_lengths skip [] = ([], [], refl)
some_by_lengths (suc skip) (b ∷ bytes) = let rest = some_by_lengths skip bytes in (rest.0, rest.1, by_lengths-suc skip b bytes ∙ rest.2)
some_by_lengths zero (b ∷ bytes) =
    elim (sf_begins (b ∷ bytes)) as (λ is. (p : List ℕ) × (ps : Records) × (cond is (drop 2 (take (sf_length (b ∷ bytes)) (b ∷ bytes)) ∷ cut_by_lengths (sf_length (b ∷ bytes) - 1) bytes) ((b ∷ bytes) ∷ []) ≡ p ∷ ps)) [
      | true ↦ (drop 2 (take (sf_length (b ∷ bytes)) (b ∷ bytes)), cut_by_lengths (sf_length (b ∷ bytes) - 1) bytes, refl)
      | false ↦ (b ∷ bytes, [], refl)
    ]

-- a whole record at the front is the same one when more comes
sf_stays : (b c : ℕ) (rest ys : List ℕ) → sf_begins (b ∷ c ∷ rest) ≡ true
    → IsContinuedBy (without_last (cut_by_lengths (sf_length (b ∷ c ∷ rest) - 1) (c ∷ rest))) (without_last (cut_by_lengths (sf_length (b ∷ c ∷ rest) - 1) (c ∷ rest ++ ys)))
    → IsContinuedBy (without_last (cut_by_lengths 0 (b ∷ c ∷ rest))) (without_last (cut_by_lengths 0 (b ∷ c ∷ rest ++ ys)))
sf_stays b c rest ys is behind =
    let n : ℕ = sf_length (b ∷ c ∷ rest) in
    let each = and_parts (nat_le 2 n) (nat_le n (length (b ∷ c ∷ rest))) is in
    let within : n ≤ length (b ∷ c ∷ rest) = leb-true n (length (b ∷ c ∷ rest)) each.1 in
    let more : length (b ∷ c ∷ rest ++ ys) ≡ length (b ∷ c ∷ rest) + length ys = length-append (b ∷ c ∷ rest) ys in
    let later : sf_begins (b ∷ c ∷ rest ++ ys) ≡ true = and_from (nat_le 2 n) (nat_le n (length (b ∷ c ∷ rest ++ ys))) each.0 (le-leb n (length (b ∷ c ∷ rest ++ ys)) (omega arith)) in
    let same : take n (b ∷ c ∷ rest ++ ys) ≡ take n (b ∷ c ∷ rest) = take-append-le n (b ∷ c ∷ rest) ys within in
    let some = some_by_lengths (n - 1) (c ∷ rest ++ ys) in
    let old : cut_by_lengths 0 (b ∷ c ∷ rest) ≡ drop 2 (take n (b ∷ c ∷ rest)) ∷ cut_by_lengths (n - 1) (c ∷ rest) = cond-true (sf_begins (b ∷ c ∷ rest)) _ _ is in
    let new : cut_by_lengths 0 (b ∷ c ∷ rest ++ ys) ≡ drop 2 (take n (b ∷ c ∷ rest)) ∷ cut_by_lengths (n - 1) (c ∷ rest ++ ys) =
    cond-true (sf_begins (b ∷ c ∷ rest ++ ys)) _ _ later ∙ ap (λ rec. drop 2 rec ∷ cut_by_lengths (n - 1) (c ∷ rest ++ ys)) same in
    subst (λ (parts : Records). IsContinuedBy (without_last parts) (without_last (cut_by_lengths 0 (b ∷ c ∷ rest ++ ys)))) (sym old)
    (subst (λ (parts : Records). IsContinuedBy (without_last (drop 2 (take n (b ∷ c ∷ rest)) ∷ cut_by_lengths (n - 1) (c ∷ rest))) (without_last parts)) (sym new)
    (member_stays (drop 2 (take n (b ∷ c ∷ rest))) (cut_by_lengths (n - 1) (c ∷ rest)) (cut_by_lengths (n - 1) (c ∷ rest ++ ys)) some.0 some.1 some.2 behind))

pub cut_by_lengths-stays : (skip : ℕ) (xs ys : List ℕ) → IsContinuedBy (without_last (cut_by_lengths skip xs)) (without_last (cut_by_lengths skip (xs ++ ys)))
cut_by_lengths-stays skip [] ys = nothing_continued _
cut_by_lengths-stays (suc skip) (b ∷ bytes) ys =
    subst (λ (parts : Records). IsContinuedBy (without_last parts) (without_last (cut_by_lengths (suc skip) (b ∷ bytes ++ ys)))) (sym (by_lengths-suc skip b bytes))
    (subst (λ (parts : Records). IsContinuedBy (without_last (cut_by_lengths skip bytes)) (without_last parts)) (sym (by_lengths-suc skip b (bytes ++ ys)))
    (cut_by_lengths-stays skip bytes ys))
cut_by_lengths-stays zero (b ∷ []) ys = nothing_continued _
cut_by_lengths-stays zero (b ∷ c ∷ rest) ys =
    ⊎_elim (λ is. sf_stays b c rest ys is (cut_by_lengths-stays (sf_length (b ∷ c ∷ rest) - 1) (c ∷ rest) ys))
    (λ isnt. subst (λ (parts : Records). IsContinuedBy (without_last parts) (without_last (cut_by_lengths 0 (b ∷ c ∷ rest ++ ys)))) (sym (cond-false (sf_begins (b ∷ c ∷ rest)) _ _ isnt)) (nothing_continued _))
    (cases_Bool (sf_begins (b ∷ c ∷ rest)))

-- By records

-- what is cut from bytes that only grow at their end only grows at its end
cut-grows : (bytes : Records → List ℕ) (cut : List ℕ → Records) → Grows bytes → ((xs ys : List ℕ) → IsContinuedBy (without_last (cut xs)) (without_last (cut (xs ++ ys)))) → Grows (λ recs. without_last (cut (bytes recs)))
cut-grows bytes cut grows stays recs rec =
    let more = grows recs rec in
    subst (λ (all : List ℕ). IsContinuedBy (without_last (cut (bytes recs))) (without_last (cut all))) (sym more.1) (stays (bytes recs) more.0)

images-grow : (image : List ℕ → List ℕ) → Grows (λ recs. concat (map image recs))
images-grow image recs rec = (concat (map image (rec ∷ [])), ap concat (map-append image recs (rec ∷ [])) ∙ concat-append (map image recs) (map image (rec ∷ [])))

-- FBLOCK and DEBLOCK FIXED
pub fblock-grows : (size : ℕ) → Grows (λ recs. without_last (cut_every size (concat recs)))
fblock-grows size = cut-grows concat (cut_every size) (λ recs rec. (concat (rec ∷ []), concat-append recs (rec ∷ []))) (cut_after-stays size size)

pub block-grows : (size : ℕ) (image : Image) → Grows (λ recs. without_last (cut_every size (concat (map (image_of image) recs))))
block-grows size image = cut-grows (λ recs. concat (map (image_of image) recs)) (cut_every size) (images-grow (image_of image)) (cut_after-stays size size)

pub deblock-grows : (cutting : Cutting) → Grows (λ recs. without_last (parts_of cutting recs))
deblock-grows (Fixed size) = fblock-grows size
deblock-grows Linend = cut-grows concat (cut_at (10 ∷ []) 0) (λ recs rec. (concat (rec ∷ []), concat-append recs (rec ∷ []))) (cut_at-stays (10 ∷ []) 0)
deblock-grows (Text string) = cut-grows concat (cut_at string 0) (λ recs rec. (concat (rec ∷ []), concat-append recs (rec ∷ []))) (cut_at-stays string 0)
deblock-grows Sf = cut-grows concat (cut_by_lengths 0) (λ recs rec. (concat (rec ∷ []), concat-append recs (rec ∷ []))) (cut_by_lengths-stays 0)
