-- The strands of stages: which numbers they have, and what stands there.
use Rattle.std.proofs.Common.{◌≡◌, ◌⊎◌, inl, inr, ℕ, zero, suc, ◌+◌, ◌-◌, ◌≤◌, ◌<◌, List, [], ◌∷◌, refl, sym, ◌∙◌, ap, subst, arith, Some, slice_get, length, length-append, map, take}
use Rattle.std.specs.Prelude.{sum_by}
use Rattle.std.specs.List.{range_with_len}
use Rattle.std.proofs.lemmas.Bool.{cases_lt}
use Rattle.std.proofs.lemmas.List.FromFn.{length-map-range_with_len}
use Rattle.std.proofs.lemmas.List.Sums.{sum_by-cons}
use Rattle.std.proofs.lemmas.Option.{slice_get_within}
use Rattle.pipe_model.specs.declared.kind.Kind.{Kind}
use Rattle.pipe_model.specs.declared.net.Link.{Link}
use Rattle.pipe_model.specs.declared.net.Strand.{Strand}
use Rattle.net_graph.specs.Nets.{StageSize, first_number, sizes_of, strand_of, strands_from, width_of}
use Rattle.net_graph.specs.Stands.{Stand, streams_of}
use Rattle.net_graph.proofs.FormedLists.{get_first, get_numbered, get_second}

-- Numbers

-- the numbers after those of the first stage
pub first_more : (size : StageSize) (sizes : List StageSize) (stage : ℕ) → first_number (size ∷ sizes) (suc stage) ≡ width_of size + first_number sizes stage
first_more size sizes stage = sum_by-cons width_of size (take stage sizes)

-- the strand of this number is one of a stage's
pub record IsPart (sizes : List StageSize) (number : ℕ) : Type 0 where
  pub stage : ℕ
  pub size : StageSize
  pub part : ℕ
  pub stage_there : slice_get sizes stage ≡ Some size
  pub below : part < width_of size
  pub number_is : first_number sizes stage + part ≡ number

-- each number of a strand is that of one
pub parts_cover : (sizes : List StageSize) (number : ℕ) → number < sum_by width_of sizes → IsPart sizes number
parts_cover [] number below = absurd (omega (arith, below))
parts_cover (s ∷ sizes) number below = go (cases_lt number (width_of s)) (λ m less. parts_cover sizes m less)
  where
    go : (number < width_of s) ⊎ (width_of s ≤ number) → ((m : ℕ) → m < sum_by width_of sizes → IsPart sizes m) → IsPart (s ∷ sizes) number
    go (inl inside) rest = record { stage = 0; size = s; part = number; stage_there = refl; below = inside; number_is = omega arith }
    go (inr behind) rest =
        let r = rest (number - width_of s) (omega (arith, below, behind, sum_by-cons width_of s sizes)) in
        record { stage = suc r.stage; size = r.size; part = r.part; stage_there = r.stage_there; below = r.below; number_is = omega (arith, behind, r.number_is, first_more s sizes r.stage) }

-- two strands of one number are one
pub one_part : (sizes : List StageSize) (a b : ℕ) (x y : StageSize) (k m : ℕ) → slice_get sizes a ≡ Some x → slice_get sizes b ≡ Some y → k < width_of x → m < width_of y
    → first_number sizes a + k ≡ first_number sizes b + m → (a ≡ b) × (k ≡ m)
one_part [] a b x y k m here there below under is = cc
one_part (s ∷ sizes) zero zero x y k m here there below under is = (refl, omega (arith, is))
one_part (s ∷ sizes) zero (suc b) x y k m here there below under is =
    let same : s ≡ x = cc in
    absurd (omega (arith, below, ap width_of same, first_more s sizes b, is))
one_part (s ∷ sizes) (suc a) zero x y k m here there below under is =
    let same : s ≡ y = cc in
    absurd (omega (arith, under, ap width_of same, first_more s sizes a, is))
one_part (s ∷ sizes) (suc a) (suc b) x y k m here there below under is =
    let rest = one_part sizes a b x y k m here there below under (omega (arith, first_more s sizes a, first_more s sizes b, is)) in
    (ap suc rest.0, rest.1)

-- behind the last strand of a stage another begins
pub begins : (sizes : List StageSize) (a b : ℕ) (x y : StageSize) (part : ℕ) → slice_get sizes a ≡ Some x → slice_get sizes b ≡ Some y → part < width_of y
    → first_number sizes b + part ≡ first_number sizes a + width_of x → part ≡ 0
begins [] a b x y part here there below is = cc
begins (s ∷ sizes) zero zero x y part here there below is =
    let same : x ≡ y = cc in
    absurd (omega (arith, below, ap width_of same, is))
begins (s ∷ sizes) zero (suc b) x y part here there below is =
    let same : s ≡ x = cc in
    omega (arith, ap width_of same, first_more s sizes b, is)
begins (s ∷ sizes) (suc a) zero x y part here there below is =
    let same : s ≡ y = cc in
    absurd (omega (arith, below, ap width_of same, first_more s sizes a, is))
begins (s ∷ sizes) (suc a) (suc b) x y part here there below is =
    begins sizes a b x y part here there below (omega (arith, first_more s sizes a, first_more s sizes b, is))

-- Strands

module _ (sizes : List StageSize) (links : List Link) where
  -- the strands of the stage of this number
  abbrev own : ℕ → StageSize → List Strand
  own stage size = map (strand_of links stage (first_number sizes stage) size) (range_with_len 0 (width_of size))

  own_count : (stage : ℕ) (size : StageSize) → length (own stage size) ≡ width_of size
  own_count stage size = length-map-range_with_len (strand_of links stage (first_number sizes stage) size) 0 (width_of size)

  -- there are as many strands as the stages have
  count_from : (stage : ℕ) (more : List StageSize) → length (strands_from sizes links stage more) ≡ sum_by width_of more
  count_from stage [] = refl
  count_from stage (size ∷ more) =
      omega (arith, length-append (own stage size) (strands_from sizes links (suc stage) more), own_count stage size, count_from (suc stage) more, sum_by-cons width_of size more)

  pub strands_count : length (strands_from sizes links 0 sizes) ≡ sum_by width_of sizes
  strands_count = count_from 0 sizes

  front_there : (stage : ℕ) (size : StageSize) (more : List StageSize) (part number : ℕ) → part ≡ number → part < width_of size
      → slice_get (strands_from sizes links stage (size ∷ more)) number ≡ Some (strand_of links stage (first_number sizes stage) size part)
  front_there stage size more part number is below =
      get_first (own stage size) (strands_from sizes links (suc stage) more) number (omega (arith, is, below, own_count stage size))
      ∙ get_numbered (strand_of links stage (first_number sizes stage) size) 0 (width_of size) number part (omega (arith, is, below)) (omega (arith, is))

  there_from : (from : ℕ) (more : List StageSize) (k part at number : ℕ) (size : StageSize) → from + k ≡ at → first_number more k + part ≡ number → slice_get more k ≡ Some size → part < width_of size
      → slice_get (strands_from sizes links from more) number ≡ Some (strand_of links at (first_number sizes at) size part)
  there_from from [] k part at number size at_is number_is here below = cc
  there_from from (s ∷ more) zero part at number size at_is number_is here below =
      let same : size ≡ s = cc in
      let stage : from ≡ at = omega (arith, at_is) in
      subst (λ (n : ℕ). slice_get (strands_from sizes links from (s ∷ more)) number ≡ Some (strand_of links n (first_number sizes n) size part)) stage
      (subst (λ (x : StageSize). slice_get (strands_from sizes links from (s ∷ more)) number ≡ Some (strand_of links from (first_number sizes from) x part)) (sym same)
      (front_there from s more part number (omega (arith, number_is)) (omega (arith, below, ap width_of same))))
  there_from from (s ∷ more) (suc k) part at number size at_is number_is here below =
      get_second (own from s) (strands_from sizes links (suc from) more) number (first_number more k + part) (omega (arith, own_count from s, first_more s more k, number_is))
      ∙ there_from (suc from) more k part at (first_number more k + part) size (omega (arith, at_is)) refl here below

  -- at the number of a stage's strand it stands
  pub part_there : (stage part number : ℕ) (size : StageSize) → slice_get sizes stage ≡ Some size → part < width_of size → first_number sizes stage + part ≡ number
      → slice_get (strands_from sizes links 0 sizes) number ≡ Some (strand_of links stage (first_number sizes stage) size part)
  part_there stage part number size here below is = there_from 0 sizes stage part stage number size (omega arith) is here below

  -- what stands at a number is a stage's strand
  pub part_was : (number : ℕ) (p : Strand) → slice_get (strands_from sizes links 0 sizes) number ≡ Some p
      → (it : IsPart sizes number) × (p ≡ strand_of links it.stage (first_number sizes it.stage) it.size it.part)
  part_was number p is =
      let it = parts_cover sizes number (omega (arith, slice_get_within (strands_from sizes links 0 sizes) number p is, strands_count)) in
      let here = part_there it.stage it.part number it.size it.stage_there it.below it.number_is in
      (it, cc)

-- The sizes of stages

-- the size of a stage of this kind
abbrev pub size_of : List Stand → Stand → Kind → StageSize
size_of stands stand kind = record { kind = kind; streams = streams_of stands stand.piece.label }

pub size_there : (stands stages : List Stand) (kinds : List Kind) (stage : ℕ) (stand : Stand) (kind : Kind) → slice_get stages stage ≡ Some stand → slice_get kinds stage ≡ Some kind
    → slice_get (sizes_of stands stages kinds) stage ≡ Some (size_of stands stand kind)
size_there stands [] kinds stage stand kind here kind_is = cc
size_there stands (s ∷ stages) [] stage stand kind here kind_is = cc
size_there stands (s ∷ stages) (c ∷ kinds) zero stand kind here kind_is =
    let same : s ≡ stand = cc in
    let same_kind : c ≡ kind = cc in
    ap (λ x. Some (size_of stands x c)) same ∙ ap (λ x. Some (size_of stands stand x)) same_kind
size_there stands (s ∷ stages) (c ∷ kinds) (suc stage) stand kind here kind_is = size_there stands stages kinds stage stand kind here kind_is

pub size_was : (stands stages : List Stand) (kinds : List Kind) (stage : ℕ) (size : StageSize) → slice_get (sizes_of stands stages kinds) stage ≡ Some size
    → (stand : Stand) × (kind : Kind) × (slice_get stages stage ≡ Some stand) × (slice_get kinds stage ≡ Some kind) × (size ≡ size_of stands stand kind)
size_was stands [] kinds stage size is = cc
size_was stands (s ∷ stages) [] stage size is = cc
size_was stands (s ∷ stages) (c ∷ kinds) zero size is = (s, c, refl, refl, (let same : size_of stands s c ≡ size = cc in sym same))
size_was stands (s ∷ stages) (c ∷ kinds) (suc stage) size is = size_was stands stages kinds stage size is
