-- Bytes that are cut every so many are blocks of that size, and a rest of fewer.
use Rattle.std.proofs.Common.{◌≡◌, ℕ, ◌-◌, ◌<◌, ◌==◌, Bool, true, false, cond, List, [], ◌∷◌, length, refl, sym, ◌∙◌, ap, arith}
use Rattle.std.specs.List.{All, concat, onto_first}
use Rattle.std.proofs.lemmas.Bool.{eqb-true}
use Rattle.std.proofs.lemmas.Bool.Decides.{nat_tests}
use Rattle.std.proofs.lemmas.List.Elements.{All-nil, All-cons}
use Rattle.pipe_model.specs.Shape.{Records}
use Rattle.pipe_model.specs.Parts.{without_last, last_part, onto_part, cut_after, cut_every}
use Rattle.stream_laws.specs.AllBytes.{AreBlocks}
use Rattle.stream_laws.proofs.LastParts.{with_rest, first_more}

-- the first has so many bytes, the others n, and the last fewer
abbrev HaveSizes : ℕ → ℕ → Records → Type 0
HaveSizes n left [] = ⊥
HaveSizes n left (last ∷ []) = length last < left
HaveSizes n left (p ∷ q ∷ parts) = (length p ≡ left) × HaveSizes n n (q ∷ parts)

cut_here : (n left b : ℕ) (parts : Records) → left ≡ 1 → HaveSizes n n parts → HaveSizes n left ((b ∷ []) ∷ parts)
cut_here n left b [] is sizes = absurd sizes
cut_here n left b (p ∷ parts) is sizes = (sym is, sizes)

one_longer : (n left b : ℕ) (parts : Records) → HaveSizes n (left - 1) parts → 0 < left → HaveSizes n left (onto_first b parts)
one_longer n left b [] sizes some = absurd sizes
one_longer n left b (p ∷ []) sizes some = omega (arith, sizes, some)
one_longer n left b (p ∷ q ∷ parts) sizes some = (let e = sizes.0 in omega (arith, e, some), sizes.1)

have_sizes : (n left : ℕ) (bytes : List ℕ) → 0 < n → 0 < left → HaveSizes n left (cut_after n left bytes)
have_sizes n left [] some more = more
have_sizes n left (b ∷ bytes) some more = by_test (left == 1) refl (λ next. have_sizes n next bytes some)
  where
    not_one : (left : ℕ) → (left == 1) ≡ false → 0 < left → 0 < left - 1
    not_one left isnt more = grind (arith, nat_tests)

    by_test : (c : Bool) → (left == 1) ≡ c → ((next : ℕ) → 0 < next → HaveSizes n next (cut_after n next bytes)) → HaveSizes n left (onto_part c b (cut_after n (cond c n (left - 1)) bytes))
    by_test true is rest = cut_here n left b (cut_after n n bytes) (eqb-true left 1 is) (rest n some)
    by_test false is rest = one_longer n left b (cut_after n (left - 1) bytes) (rest (left - 1) (not_one left is more)) more

cut_whole : (n left : ℕ) (bytes : List ℕ) → concat (cut_after n left bytes) ≡ bytes
cut_whole n left [] = refl
cut_whole n left (b ∷ bytes) = by_test (left == 1) (λ next. cut_whole n next bytes)
  where
    by_test : (c : Bool) → ((next : ℕ) → concat (cut_after n next bytes) ≡ bytes) → concat (onto_part c b (cut_after n (cond c n (left - 1)) bytes)) ≡ b ∷ bytes
    by_test true rest = ap (λ z. b ∷ z) (rest n)
    by_test false rest = first_more b (cut_after n (left - 1) bytes) ∙ ap (λ z. b ∷ z) (rest (left - 1))

all_full : (n : ℕ) (parts : Records) → HaveSizes n n parts → All (λ block. length block ≡ n) (without_last parts)
all_full n [] sizes = absurd sizes
all_full n (p ∷ []) sizes = All-nil (λ block. length block ≡ n)
all_full n (p ∷ q ∷ parts) sizes = All-cons (λ block. length block ≡ n) p (without_last (q ∷ parts)) sizes.0 (all_full n (q ∷ parts) sizes.1)

last_fewer : (n : ℕ) (parts : Records) → HaveSizes n n parts → length (last_part parts) < n
last_fewer n [] sizes = absurd sizes
last_fewer n (p ∷ []) sizes = sizes
last_fewer n (p ∷ q ∷ parts) sizes = last_fewer n (q ∷ parts) sizes.1

pub are_blocks : (n : ℕ) (bytes : List ℕ) → 0 < n → AreBlocks n bytes (without_last (cut_every n bytes)) (last_part (cut_every n bytes))
are_blocks n bytes some =
    let sizes = have_sizes n n bytes some some in
    record {
      full = all_full n (cut_every n bytes) sizes;
      fewer = last_fewer n (cut_every n bytes) sizes;
      whole = with_rest (cut_every n bytes) ∙ cut_whole n n bytes;
    }
