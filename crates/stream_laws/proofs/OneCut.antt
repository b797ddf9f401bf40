-- Bytes are cut in one way.
use Rattle.std.proofs.Common.{◌≡◌, ◌⊎◌, inl, inr, ℕ, ◌+◌, ◌*◌, ◌<◌, ◌≤◌, ◌==◌, true, false, ◌&&◌, ◌||◌, List, [], ◌∷◌, ◌++◌, length, drop, map, refl, sym, ◌∙◌, ap, subst, arith, append_assoc}
use Rattle.std.specs.Prelude.{nat_le}
use Rattle.std.specs.List.{All, concat}
use Rattle.std.proofs.lemmas.Bool.{and_from, le-leb}
use Rattle.std.proofs.lemmas.Bool.Decides.{nat_tests}
use Rattle.std.proofs.Math.Seq.{drop-append_seam}
use Rattle.std.proofs.lemmas.List.{length-append, length-drop, drop-append-le}
use Rattle.std.proofs.lemmas.List.Elements.{All-tail}
use Rattle.std.proofs.Math.Bool.{or-true}
use Rattle.pipe_model.specs.Shape.{Records}
use Rattle.pipe_model.specs.Search.{begins, holds}
use Rattle.pipe_model.specs.Proper.{is_filled}
use Rattle.pipe_model.specs.BlockRows.{sf_begins}
use Rattle.stream_laws.specs.AllBytes.{AreBlocks, IsFree, ArePartsAt, AreMeasured}

append_same : (xs ys us vs : List ℕ) → length xs ≡ length ys → xs ++ us ≡ ys ++ vs → (xs ≡ ys) × (us ≡ vs)
append_same [] [] us vs size e = (refl, e)
append_same [] (y ∷ ys) us vs size e = absurd (omega (arith, size))
append_same (x ∷ xs) [] us vs size e = absurd (omega (arith, size))
append_same (x ∷ xs) (y ∷ ys) us vs size e =
    let head : x ≡ y = cc in
    let tail : xs ++ us ≡ ys ++ vs = cc in
    let rest = append_same xs ys us vs (omega (arith, size)) tail in
    (ap (λ z. z ∷ xs) head ∙ ap (λ z. y ∷ z) rest.0, rest.1)

-- Blocks

module _ (n : ℕ) where
  abbrev Full : Records → Type 0
  Full blocks = All (λ block. length block ≡ n) blocks

  -- a rest of fewer bytes has no block at its front
  too_few : (p rest more : List ℕ) → length p ≡ n → length rest < n → rest ≡ p ++ more → ⊥
  too_few p rest more size few e = let l = ap length e ∙ length-append p more in omega (arith, l, size, few)

  blocks_same : (blocks others : Records) (rest other : List ℕ) → Full blocks → Full others → length rest < n → length other < n → concat blocks ++ rest ≡ concat others ++ other → (blocks ≡ others) × (rest ≡ other)
  blocks_same [] [] rest other full full' few few' e = (refl, e)
  blocks_same [] (q ∷ others) rest other full full' few few' e = absurd (too_few q rest (concat others ++ other) (full' 0 q (omega arith)) few (e ∙ append_assoc q (concat others) other))
  blocks_same (p ∷ blocks) [] rest other full full' few few' e = absurd (too_few p other (concat blocks ++ rest) (full 0 p (omega arith)) few' (sym e ∙ append_assoc p (concat blocks) rest))
  blocks_same (p ∷ blocks) (q ∷ others) rest other full full' few few' e =
      let a = append_same p q (concat blocks ++ rest) (concat others ++ other) (full 0 p (omega arith) ∙ sym (full' 0 q (omega arith))) (sym (append_assoc p (concat blocks) rest) ∙ e ∙ append_assoc q (concat others) other) in
      let b = blocks_same blocks others rest other (All-tail (λ block. length block ≡ n) p blocks full) (All-tail (λ block. length block ≡ n) q others full') few few' a.1 in
      (ap (λ z. z ∷ blocks) a.0 ∙ ap (λ z. q ∷ z) b.0, b.1)

  pub one_blocks : (bytes : List ℕ) (blocks others : Records) (rest other : List ℕ) → AreBlocks n bytes blocks rest → AreBlocks n bytes others other → (blocks ≡ others) × (rest ≡ other)
  one_blocks bytes blocks others rest other x y = blocks_same blocks others rest other x.full y.full x.fewer y.fewer (x.whole ∙ sym y.whole)

-- By lengths

begins_measured : (high low : ℕ) (rec behind : List ℕ) → 256 * high + low ≡ length rec + 2 → sf_begins (high ∷ low ∷ rec ++ behind) ≡ true
begins_measured high low rec behind size =
    let l = length-append rec behind in
    and_from (nat_le 2 (256 * high + low)) (nat_le (256 * high + low) (length (high ∷ low ∷ rec ++ behind))) (le-leb 2 (256 * high + low) (omega (arith, size))) (le-leb (256 * high + low) (length (high ∷ low ∷ rec ++ behind)) (omega (arith, size, l)))

no_rest : (rest : List ℕ) (high low : ℕ) (rec behind : List ℕ) → sf_begins rest ≡ false → rest ≡ high ∷ low ∷ rec ++ behind → 256 * high + low ≡ length rec + 2 → ⊥
no_rest rest high low rec behind none e size = (let z : true ≡ false = sym (begins_measured high low rec behind size) ∙ ap sf_begins (sym e) ∙ none in cc)

pub one_measured : (bytes : List ℕ) (recs others : Records) (rest other : List ℕ) → AreMeasured bytes recs rest → AreMeasured bytes others other → (recs ≡ others) × (rest ≡ other)
one_measured bytes [] [] rest other x y = (refl, sym x.0 ∙ y.0)
one_measured bytes [] (rec ∷ others) rest other x (high, low, behind, e, size, more) = absurd (no_rest rest high low rec behind x.1 (sym x.0 ∙ e) size)
one_measured bytes (rec ∷ recs) [] rest other (high, low, behind, e, size, more) y = absurd (no_rest other high low rec behind y.1 (sym y.0 ∙ e) size)
one_measured bytes (rec ∷ recs) (rec' ∷ others) rest other (high, low, behind, e, size, more) (high', low', behind', e', size', more') =
    let both : high ∷ low ∷ rec ++ behind ≡ high' ∷ low' ∷ rec' ++ behind' = sym e ∙ e' in
    let highs : high ≡ high' = cc in
    let lows : low ≡ low' = cc in
    let tails : rec ++ behind ≡ rec' ++ behind' = cc in
    let a = append_same rec rec' behind behind' (omega (arith, highs, lows, size, size')) tails in
    let b = one_measured behind recs others rest other more (subst (λ z. AreMeasured z others other) (sym a.1) more') in
    (ap (λ z. z ∷ recs) a.0 ∙ ap (λ z. rec' ∷ z) b.0, b.1)

-- At a string

begins_itself : (string more : List ℕ) → begins string (string ++ more) ≡ true
begins_itself [] more = refl
begins_itself (s ∷ string) more = and_from (s == s) (begins string (string ++ more)) (same s) (begins_itself string more)
  where
    same : (s : ℕ) → (s == s) ≡ true
    same s = grind (arith, nat_tests)

-- what comes behind bytes that are enough doesn't matter
begins_enough : (string bytes more : List ℕ) → length string ≤ length bytes → begins string (bytes ++ more) ≡ begins string bytes
begins_enough [] bytes more within = refl
begins_enough (s ∷ string) [] more within = absurd (omega (arith, within))
begins_enough (s ∷ string) (b ∷ bytes) more within = ap (λ z. s == b && z) (begins_enough string bytes more (omega (arith, within)))

module _ (string : List ℕ) (filled : is_filled string ≡ true) where
  -- no part ends before another one that begins at the same place
  not_before : (p q more other : List ℕ) → IsFree string q → (p ++ string) ++ more ≡ (q ++ string) ++ other → length p < length q → ⊥
  not_before p q more other free e less =
      let size = length-append q string in
      let d = drop-append-le (length p) (q ++ string) other (omega (arith, size, less)) in
      let room : length string ≤ length (drop (length p) (q ++ string)) = omega (arith, length-drop (length p) (q ++ string), size, less) in
      let there : drop (length p) ((q ++ string) ++ other) ≡ string ++ more = ap (drop (length p)) (sym e ∙ append_assoc p string more) ∙ drop-append_seam p (string ++ more) in
      let is : begins string (drop (length p) (q ++ string)) ≡ true = sym (begins_enough string (drop (length p) (q ++ string)) other room) ∙ ap (begins string) (sym d ∙ there) ∙ begins_itself string more in
      (let z : true ≡ false = sym is ∙ free (length p) less in cc)

  same_size : (p q more other : List ℕ) → IsFree string p → IsFree string q → (p ++ string) ++ more ≡ (q ++ string) ++ other → length p ≡ length q
  same_size p q more other free_p free_q e = by_size (sizes (length p) (length q))
    where
      sizes : (a b : ℕ) → (a < b) ⊎ ((b < a) ⊎ (a ≡ b))
      sizes a b = grind (arith, nat_tests)

      by_size : (length p < length q) ⊎ ((length q < length p) ⊎ (length p ≡ length q)) → length p ≡ length q
      by_size (inl less) = absurd (not_before p q more other free_q e less)
      by_size (inr (inl more_there)) = absurd (not_before q p other more free_p (sym e) more_there)
      by_size (inr (inr same)) = same

  -- the string stands in what has it behind a part
  holds_it : (p more : List ℕ) → holds string ((p ++ string) ++ more) ≡ true
  holds_it [] more = by_string string filled
    where
      by_string : (s : List ℕ) → is_filled s ≡ true → holds s (s ++ more) ≡ true
      by_string [] is = cc
      by_string (x ∷ s) is = ap (λ z. z || holds (x ∷ s) (s ++ more)) (begins_itself (x ∷ s) more)
  holds_it (b ∷ p) more = ap (λ z. begins string (b ∷ (p ++ string) ++ more) || z) (holds_it p more) ∙ or-true (begins string (b ∷ (p ++ string) ++ more))

  abbrev Free : Records → Type 0
  Free parts = All (IsFree string) parts

  abbrev ended : Records → List ℕ
  ended parts = concat (map (λ part. part ++ string) parts)

  parts_same : (parts others : Records) (rest other : List ℕ) → Free parts → Free others → holds string rest ≡ false → holds string other ≡ false → ended parts ++ rest ≡ ended others ++ other → (parts ≡ others) × (rest ≡ other)
  parts_same [] [] rest other free free' none none' e = (refl, e)
  parts_same [] (q ∷ others) rest other free free' none none' e =
      (let z : true ≡ false = sym (holds_it q (ended others ++ other)) ∙ ap (holds string) (sym (append_assoc (q ++ string) (ended others) other) ∙ sym e) ∙ none in cc)
  parts_same (p ∷ parts) [] rest other free free' none none' e =
      (let z : true ≡ false = sym (holds_it p (ended parts ++ rest)) ∙ ap (holds string) (sym (append_assoc (p ++ string) (ended parts) rest) ∙ e) ∙ none' in cc)
  parts_same (p ∷ parts) (q ∷ others) rest other free free' none none' e =
      let e' : (p ++ string) ++ (ended parts ++ rest) ≡ (q ++ string) ++ (ended others ++ other) = sym (append_assoc (p ++ string) (ended parts) rest) ∙ e ∙ append_assoc (q ++ string) (ended others) other in
      let size = same_size p q (ended parts ++ rest) (ended others ++ other) (free 0 p (omega arith)) (free' 0 q (omega arith)) e' in
      let a = append_same p q (string ++ (ended parts ++ rest)) (string ++ (ended others ++ other)) size (sym (append_assoc p string (ended parts ++ rest)) ∙ e' ∙ append_assoc q string (ended others ++ other)) in
      let c = append_same string string (ended parts ++ rest) (ended others ++ other) refl a.1 in
      let b = parts_same parts others rest other (All-tail (IsFree string) p parts free) (All-tail (IsFree string) q others free') none none' c.1 in
      (ap (λ z. z ∷ parts) a.0 ∙ ap (λ z. q ∷ z) b.0, b.1)

  pub one_parts : (bytes : List ℕ) (parts others : Records) (rest other : List ℕ) → ArePartsAt string bytes parts rest → ArePartsAt string bytes others other → (parts ≡ others) × (rest ≡ other)
  one_parts bytes parts others rest other x y = parts_same parts others rest other x.each y.each x.none y.none (x.whole ∙ sym y.whole)
