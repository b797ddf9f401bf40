-- The strands and the links of a straight line.
use Rattle.std.proofs.Common.{◌≡◌, ℕ, zero, suc, ◌+◌, ◌≤◌, ◌<◌, List, [], ◌∷◌, ◌++◌, length, refl, sym, ◌∙◌, ap, subst, arith, Some, slice_get, map}
use Rattle.pipe_model.specs.declared.net.Link.{Link}
use Rattle.pipe_model.specs.declared.net.Strand.{Strand}
use Rattle.pipe_model.specs.declared.kind.Kind.TheVariants.{ConsoleIn, ConsoleOut, Locate}
use Rattle.pipe_model.specs.State.{Who, nothing_yet, strand_at}
use Rattle.pipe_model.specs.Straight.{IsStraightNet, all_columns, next_link, chain}
use Rattle.net_graph.specs.Line.{first_strand, locate_strand, last_strand, strands_from, line_net}

-- Strands

-- a fact of each of the strands from a number on
each_from : (P : ℕ → Strand → Type 0) (k : ℕ) (strings : List (List ℕ)) → ((j n : ℕ) (string : List ℕ) → n ≡ k + j → j < length strings → P j (locate_strand n string)) → ((n : ℕ) → n ≡ k + length strings → P (length strings) (last_strand n)) →
    (j : ℕ) (p : Strand) → slice_get (strands_from k strings) j ≡ Some p → P j p
each_from P k [] locates last zero p at = subst (λ z. P 0 z) (let z : last_strand k ≡ p = cc in z) (last k (omega arith))
each_from P k [] locates last (suc j) p at = cc
each_from P k (string ∷ strings) locates last zero p at = subst (λ z. P 0 z) (let z : locate_strand k string ≡ p = cc in z) (locates 0 k string (omega arith) (omega arith))
each_from P k (string ∷ strings) locates last (suc j) p at = each_from (λ j. P (suc j)) (suc k) strings (λ i n string e lt. locates (suc i) n string (omega (arith, e)) (omega (arith, lt))) (λ n e. last n (omega (arith, e))) j p at

-- a fact of each strand, by its number
pub each_strand : (P : ℕ → Strand → Type 0) (bytes : List ℕ) (strings : List (List ℕ)) → P 0 (first_strand bytes) → ((k : ℕ) (string : List ℕ) → 0 < k → k ≤ length strings → P k (locate_strand k string)) → P (suc (length strings)) (last_strand (suc (length strings))) →
    (s : Who) (p : Strand) → strand_at (line_net bytes strings) nothing_yet s ≡ Some p → P s p
each_strand P bytes strings first locates last zero p at = subst (λ z. P 0 z) (let z : first_strand bytes ≡ p = cc in z) first
each_strand P bytes strings first locates last (suc s) p at = each_from (λ j. P (suc j)) 1 strings
    (λ j n string e lt. let is : suc j ≡ n = omega (arith, e) in subst (λ z. P (suc j) (locate_strand z string)) is (locates (suc j) string (omega arith) (omega (arith, lt))))
    (λ n e. let is : suc (length strings) ≡ n = omega (arith, e) in subst (λ z. P (suc (length strings)) (last_strand z)) is last)
    s p at

-- their kinds
kinds_from : (k : ℕ) (strings : List (List ℕ)) → map (λ (p : Strand). p.kind) (strands_from k strings) ≡ map (λ string. Locate all_columns (Some string)) strings ++ ConsoleOut ∷ []
kinds_from k [] = refl
kinds_from k (string ∷ strings) = ap (λ z. Locate all_columns (Some string) ∷ z) (kinds_from (suc k) strings)

-- it is the net of a straight line
pub line_straight : (bytes : List ℕ) (strings : List (List ℕ)) → IsStraightNet (line_net bytes strings) bytes strings
line_straight bytes strings = record { kinds = ap (λ z. ConsoleIn bytes ∷ z) (kinds_from 1 strings); links = refl }

-- Links

-- the link at a place
pub link_at : (a n j : ℕ) (link : Link) → slice_get (chain a n) j ≡ Some link → (link ≡ next_link (a + j)) × (j < n)
link_at a zero j link at = cc
link_at a (suc n) zero link at = ((let z : next_link a ≡ link = cc in sym z) ∙ ap next_link (let e : a ≡ a + 0 = omega arith in e), omega arith)
link_at a (suc n) (suc j) link at =
    let r = link_at (suc a) n j link at in
    (r.0 ∙ ap next_link (let e : suc a + j ≡ a + suc j = omega arith in e), omega (arith, r.1))
