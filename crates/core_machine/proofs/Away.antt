-- The places that are out, and the strands that they leave out.
use Rattle.std.proofs.Common.{◌≡◌, ◌≢◌, inl, inr, ℕ, zero, suc, ◌+◌, ◌≤◌, ◌<◌, Bool, true, false, cond, ◌||◌, not, ◌==◌, List, [], ◌∷◌, ◌++◌, length, refl, sym, ◌∙◌, ap, subst, arith, Option, Some, None, slice_get}
use Rattle.std.proofs.lemmas.Bool.{eqb-true, ne_eqb}
use Rattle.std.proofs.Math.Bool.{or-false, or-true}
use Rattle.std.proofs.Math.Seq.{take-length}
use Rattle.std.specs.Prelude.{take}
use Rattle.std.specs.List.{list_any}
use mathlib.Core.Path.{fun_ext}
use Rattle.pipe_model.specs.declared.net.Net.{Net}
use Rattle.pipe_model.specs.declared.step.Entry.{Entry}
use Rattle.pipe_model.specs.Event.{one_more}
use Rattle.pipe_model.specs.State.{past}
use Rattle.pipe_model.specs.Play.{play}
use Rattle.pipe_model.proofs.Numbers.{equal_or_not, test_same}
use Rattle.pipe_model.proofs.Truths.{neither, or_second}
use Rattle.pipe_model.proofs.Lists.{get_seam, length_more}
use Rattle.run_desk.specs.Standing.{left_out, left_in}
use Rattle.core_machine.specs.Machine.{is_of, is_at, left_by, without, is_among}
use Rattle.core_machine.specs.Sound.{IsLast, AreLast, AreApart}

-- how many of the numbers below n pass the test
abbrev tally : (ℕ → Bool) → ℕ → ℕ
tally p zero = 0
tally p (suc n) = one_more (p n) (tally p n)

pub get_before : {A : Type 0} (xs ys : List A) (i : ℕ) → i < length xs → slice_get (xs ++ ys) i ≡ slice_get xs i
get_before [] ys i p = absurd (omega arith)
get_before (x ∷ xs) ys zero p = refl
get_before (x ∷ xs) ys (suc i) p = get_before xs ys i (omega (arith, p))

any_append : (p : ℕ → Bool) (xs : List ℕ) (y : ℕ) → list_any p (xs ++ y ∷ []) ≡ (list_any p xs || p y)
any_append p [] y = or-false (p y)
any_append p (x ∷ xs) y = ap (λ b. p x || b) (any_append p xs y) ∙ assoc (p x) (list_any p xs) (p y)
  where
    assoc : (a b c : Bool) → (a || (b || c)) ≡ ((a || b) || c)
    assoc true b c = refl
    assoc false b c = refl

-- Going out

module _ (net : Net) (journal : List Entry) (e : Entry) where
  abbrev longer : List Entry
  longer = journal ++ e ∷ []

  at_old : (s p : ℕ) → p ≤ length journal → is_at longer s p ≡ is_at journal s p
  at_old s zero m = refl
  at_old s (suc p) m = ap (is_of s) (get_before journal (e ∷ []) p (omega (arith, m)))

  at_new : (s : ℕ) → is_at longer s (suc (length journal)) ≡ (e.strand == s)
  at_new s = ap (is_of s) (get_seam journal e [])

  pub left_old : (s : ℕ) (out : List ℕ) → AreLast net journal out → left_by longer out s ≡ left_by journal out s
  left_old s [] last = refl
  left_old s (p ∷ ps) last = ap (λ b. b || left_by longer ps s) (at_old s p last.0.there) ∙ ap (λ b. is_at journal s p || b) (left_old s ps last.1)

  pub left_turned : (out : List ℕ) → AreLast net journal out → left_by longer (out ++ suc (length journal) ∷ []) ≡ left_out (left_by journal out) e.strand
  left_turned out last = fun_ext (λ u. each u)
    where
      flip : (u : ℕ) (b : Bool) → (e.strand == u) ≡ b → (left_by journal out u || b) ≡ cond (u == e.strand) true (left_by journal out u)
      flip u true is = or-true (left_by journal out u) ∙ sym (ap (λ b. cond b true (left_by journal out u)) (ap (λ z. u == z) (eqb-true _ _ is) ∙ test_same u))
      flip u false is = or-false (left_by journal out u) ∙ sym (ap (λ b. cond b true (left_by journal out u)) (ne_eqb u e.strand (λ z. absurd (let q : true ≡ false = sym (test_same u) ∙ ap (λ y. y == u) z ∙ is in (let r : ⊥ = cc in r)))))

      each : (u : ℕ) → left_by longer (out ++ suc (length journal) ∷ []) u ≡ left_out (left_by journal out) e.strand u
      each u = any_append (is_at longer u) out (suc (length journal)) ∙ ap (λ b. b || is_at longer u (suc (length journal))) (left_old u out last)
          ∙ ap (λ b. left_by journal out u || b) (at_new u) ∙ flip u (e.strand == u) refl

  take_longer : (xs ys : List Entry) (n : ℕ) → n ≤ length xs → take n (xs ++ ys) ≡ take n xs
  take_longer [] ys zero m = refl
  take_longer [] ys (suc n) m = absurd (omega arith)
  take_longer (x ∷ xs) ys zero m = refl
  take_longer (x ∷ xs) ys (suc n) m = ap (λ z. x ∷ z) (take_longer xs ys n (omega (arith, m)))

  module _ (inside : e.strand < length net.strands) (others : (u : ℕ) → u ≢ e.strand → past (play net longer) u ≡ past (play net journal) u) where
    last_old : (out : List ℕ) → AreLast net journal out → left_by journal out e.strand ≡ false → AreLast net longer out
    last_old [] last home = tt
    last_old (p ∷ ps) last home = (
      record {
        some = last.0.some;
        there = let a = last.0.there in (let b = length_more journal e in omega (arith, a, b));
        whose = (last.0.whose.0, last.0.whose.1, at_old last.0.whose.0 p last.0.there ∙ last.0.whose.2);
        since = λ s at.
            let was : is_at journal s p ≡ true = sym (at_old s p last.0.there) ∙ at in
            others s (λ z. (let no : true ≡ false = sym was ∙ ap (λ y. is_at journal y p) z ∙ (neither (is_at journal e.strand p) (left_by journal ps e.strand) home).0 in (let r : ⊥ = cc in r)))
            ∙ last.0.since s was ∙ ap (λ z. past (play net z) s) (sym (take_longer journal (e ∷ []) p last.0.there));
      },
      last_old ps last.1 (neither (is_at journal e.strand p) (left_by journal ps e.strand) home).1,
    )

    new_last : IsLast net longer (suc (length journal))
    new_last = record {
      some = omega arith;
      there = let b = length_more journal e in omega (arith, b);
      whose = (e.strand, inside, at_new e.strand ∙ test_same e.strand);
      since = λ s at. ap (λ z. past (play net z) s) (sym (ap (λ n. take n longer) (sym (length_more journal e)) ∙ take-length longer));
    }

    append_last : (out : List ℕ) (p : ℕ) → AreLast net longer out → IsLast net longer p → AreLast net longer (out ++ p ∷ [])
    append_last [] p a b = (b, tt)
    append_last (q ∷ qs) p a b = (a.0, append_last qs p a.1 b)

    pub last_turned : (out : List ℕ) → AreLast net journal out → left_by journal out e.strand ≡ false → AreLast net longer (out ++ suc (length journal) ∷ [])
    last_turned out last home = append_last out (suc (length journal)) (last_old out last home) new_last

  pub apart_turned : (out : List ℕ) → AreLast net journal out → AreApart journal out → left_by journal out e.strand ≡ false → AreApart longer (out ++ suc (length journal) ∷ [])
  apart_turned [] last apart home = (λ s at. refl, tt)
  apart_turned (p ∷ ps) last apart home = (
    λ s at.
        let was : is_at journal s p ≡ true = sym (at_old s p last.0.there) ∙ at in
        let n = neither (is_at journal e.strand p) (left_by journal ps e.strand) home in
        any_append (is_at longer s) ps (suc (length journal))
        ∙ ap (λ b. b || is_at longer s (suc (length journal))) (left_old s ps last.1 ∙ apart.0 s was)
        ∙ at_new s ∙ ne_eqb e.strand s (λ z. (let no : true ≡ false = sym was ∙ ap (λ y. is_at journal y p) (sym z) ∙ n.0 in (let r : ⊥ = cc in r))),
    apart_turned ps last.1 apart.1 (neither (is_at journal e.strand p) (left_by journal ps e.strand) home).1,
  )

-- Coming home

module _ (net : Net) (journal : List Entry) (s p : ℕ) (mine : is_at journal s p ≡ true) where
  pub one_strand : (u q : ℕ) → is_at journal s q ≡ true → is_at journal u q ≡ true → u ≡ s
  one_strand u zero a b = cc
  one_strand u (suc q) a b = go (slice_get journal q) a b
    where
      go : (x : Option Entry) → is_of s x ≡ true → is_of u x ≡ true → u ≡ s
      go None a b = cc
      go (Some e) a b = sym (eqb-true _ _ b) ∙ eqb-true _ _ a

  not_mine : (u : ℕ) → u ≢ s → is_at journal u p ≡ false
  not_mine u apart = go (is_at journal u p) refl
    where
      go : (b : Bool) → is_at journal u p ≡ b → is_at journal u p ≡ false
      go true is = absurd (apart (one_strand u p mine is))
      go false is = is

  -- dropping places says nothing new
  fewer : (u : ℕ) (out : List ℕ) → left_by journal out u ≡ false → left_by journal (without p out) u ≡ false
  fewer u [] off = refl
  fewer u (q ∷ qs) off = go (q == p) (fewer u qs (neither (is_at journal u q) (left_by journal qs u) off).1)
    where
      go : (b : Bool) → left_by journal (without p qs) u ≡ false → left_by journal (cond (not b) (q ∷ without p qs) (without p qs)) u ≡ false
      go true rest = rest
      go false rest = ap (λ b. b || left_by journal (without p qs) u) (neither (is_at journal u q) (left_by journal qs u) off).0 ∙ rest

  same_others : (u : ℕ) → u ≢ s → (out : List ℕ) → left_by journal (without p out) u ≡ left_by journal out u
  same_others u apart [] = refl
  same_others u apart (q ∷ qs) = go (same_others u apart qs) (q == p) refl
    where
      go : left_by journal (without p qs) u ≡ left_by journal qs u → (b : Bool) → (q == p) ≡ b → left_by journal (cond (not b) (q ∷ without p qs) (without p qs)) u ≡ (is_at journal u q || left_by journal qs u)
      go rest true is = rest ∙ ap (λ b. b || left_by journal qs u) (sym (ap (is_at journal u) (eqb-true q p is) ∙ not_mine u apart))
      go rest false is = ap (λ b. is_at journal u q || b) rest

  pub among_left : (out : List ℕ) → is_among p out ≡ true → left_by journal out s ≡ true
  among_left [] in' = cc
  among_left (q ∷ qs) in' = go (among_left qs) (q == p) refl in'
    where
      go : (is_among p qs ≡ true → left_by journal qs s ≡ true) → (b : Bool) → (q == p) ≡ b → (b || is_among p qs) ≡ true → (is_at journal s q || left_by journal qs s) ≡ true
      go rest true is in' = ap (λ b. b || left_by journal qs s) (ap (is_at journal s) (eqb-true q p is) ∙ mine)
      go rest false is in' = or_second (is_at journal s q) (left_by journal qs s) (rest in')

  gone : (out : List ℕ) → AreApart journal out → is_among p out ≡ true → left_by journal (without p out) s ≡ false
  gone [] apart in' = cc
  gone (q ∷ qs) apart in' = go (gone qs apart.1) (q == p) refl in'
    where
      by : (is_among p qs ≡ true → left_by journal (without p qs) s ≡ false) → is_among p qs ≡ true → (b : Bool) → is_at journal s q ≡ b → (is_at journal s q || left_by journal (without p qs) s) ≡ false
      by rest in' true at = let no : true ≡ false = sym (among_left qs in') ∙ apart.0 s at in cc
      by rest in' false at = ap (λ b. b || left_by journal (without p qs) s) at ∙ rest in'

      go : (is_among p qs ≡ true → left_by journal (without p qs) s ≡ false) → (b : Bool) → (q == p) ≡ b → (b || is_among p qs) ≡ true → left_by journal (cond (not b) (q ∷ without p qs) (without p qs)) s ≡ false
      go rest true is in' = fewer s qs (apart.0 s (ap (is_at journal s) (eqb-true q p is) ∙ mine))
      go rest false is in' = by rest in' (is_at journal s q) refl

  pub left_home : (out : List ℕ) → AreApart journal out → is_among p out ≡ true → left_by journal (without p out) ≡ left_in (left_by journal out) s
  left_home out apart in' = fun_ext (λ u. each u)
    where
      each : (u : ℕ) → left_by journal (without p out) u ≡ cond (u == s) false (left_by journal out u)
      each u = elim (equal_or_not u s) [
        | inl z ↦ ap (left_by journal (without p out)) z ∙ gone out apart in' ∙ sym (ap (λ b. cond b false (left_by journal out u)) (ap (λ y. y == s) z ∙ test_same s))
        | inr z ↦ same_others u z out ∙ sym (ap (λ b. cond b false (left_by journal out u)) (ne_eqb u s z))
      ]

  pub apart_home : (out : List ℕ) → AreApart journal out → AreApart journal (without p out)
  apart_home [] apart = tt
  apart_home (q ∷ qs) apart = (elim (q == p) as (λ b. AreApart journal (cond (not b) (q ∷ without p qs) (without p qs))) [
    | true ↦ apart_home qs apart.1
    | false ↦ (λ u at. fewer u qs (apart.0 u at), apart_home qs apart.1)
  ])

  pub last_home : (out : List ℕ) → AreLast net journal out → AreLast net journal (without p out)
  last_home [] last = tt
  last_home (q ∷ qs) last = (elim (q == p) as (λ b. AreLast net journal (cond (not b) (q ∷ without p qs) (without p qs))) [
    | true ↦ last_home qs last.1
    | false ↦ (last.0, last_home qs last.1)
  ])

  pub among_last : (out : List ℕ) → is_among p out ≡ true → AreLast net journal out → IsLast net journal p
  among_last [] in' last = cc
  among_last (q ∷ qs) in' last = go (λ z. among_last qs z last.1) (q == p) refl in'
    where
      go : (is_among p qs ≡ true → IsLast net journal p) → (b : Bool) → (q == p) ≡ b → (b || is_among p qs) ≡ true → IsLast net journal p
      go rest true is in' = subst (IsLast net journal) (eqb-true q p is) last.0
      go rest false is in' = rest in'

-- No more jobs are out than there are strands

tally_below : (p q : ℕ → Bool) (s n : ℕ) → ((t : ℕ) → t ≢ s → q t ≡ p t) → n ≤ s → tally q n ≡ tally p n
tally_below p q s zero each m = refl
tally_below p q s (suc n) each m = ap (λ b. one_more b (tally q n)) (each n (λ e. absurd (omega (arith, e)))) ∙ ap (one_more (p n)) (tally_below p q s n each (omega arith))

tally_more : (p q : ℕ → Bool) (s n : ℕ) → ((t : ℕ) → t ≢ s → q t ≡ p t) → p s ≡ false → q s ≡ true → s < n → tally q n ≡ tally p n + 1
tally_more p q s zero each off on m = absurd (omega arith)
tally_more p q s (suc n) each off on m = elim (equal_or_not n s) [
  | inl e ↦
      let t : tally q n ≡ tally p n = tally_below p q s n each (omega (arith, e)) in
      ap (λ b. one_more b (tally q n)) (ap q e ∙ on) ∙ (let z : suc (tally q n) ≡ tally p n + 1 = omega (arith, t) in z)
      ∙ ap (λ b. one_more b (tally p n) + 1) (sym (ap p e ∙ off))
  | inr e ↦
      let t : tally q n ≡ tally p n + 1 = tally_more p q s n each off on (lower n s m e) in
      ap (λ b. one_more b (tally q n)) (each n e) ∙ ap (one_more (p n)) t ∙ more (p n) (tally p n)
]
  where
    lower : (n s : ℕ) → s < suc n → n ≢ s → s < n
    lower n s m e = grind arith

    more : (b : Bool) (x : ℕ) → one_more b (x + 1) ≡ one_more b x + 1
    more true x = omega arith
    more false x = refl

same_strand : (journal : List Entry) (s u q : ℕ) → is_at journal s q ≡ true → is_at journal u q ≡ true → u ≡ s
same_strand journal s u zero a b = cc
same_strand journal s u (suc q) a b = go (slice_get journal q) a b
  where
    go : (x : Option Entry) → is_of s x ≡ true → is_of u x ≡ true → u ≡ s
    go None a b = cc
    go (Some e) a b = sym (eqb-true _ _ b) ∙ eqb-true _ _ a

tally_none : (n : ℕ) → tally (λ s. false) n ≡ 0
tally_none zero = refl
tally_none (suc n) = tally_none n

tally_out : (net : Net) (journal : List Entry) (out : List ℕ) → AreLast net journal out → AreApart journal out → tally (left_by journal out) (length net.strands) ≡ length out
tally_out net journal [] last apart = tally_none (length net.strands)
tally_out net journal (p ∷ ps) last apart =
    let w = last.0.whose in
    tally_more (left_by journal ps) (left_by journal (p ∷ ps)) w.0 (length net.strands)
    (λ t other. ap (λ b. b || left_by journal ps t) (off t other (is_at journal t p) refl)) (apart.0 w.0 w.2) (ap (λ b. b || left_by journal ps w.0) w.2) w.1
    ∙ (let i = tally_out net journal ps last.1 apart.1 in (let z : tally (left_by journal ps) (length net.strands) + 1 ≡ suc (length ps) = omega (arith, i) in z))
  where
    off : (t : ℕ) → t ≢ last.0.whose.0 → (b : Bool) → is_at journal t p ≡ b → is_at journal t p ≡ false
    off t other true is = absurd (other (same_strand journal last.0.whose.0 t p last.0.whose.2 is))
    off t other false is = is

tally_bound : (p : ℕ → Bool) (n : ℕ) → tally p n ≤ n
tally_bound p zero = omega arith
tally_bound p (suc n) = go (p n) (tally_bound p n)
  where
    go : (b : Bool) → tally p n ≤ n → one_more b (tally p n) ≤ suc n
    go true m = omega arith
    go false m = omega arith

tally_less : (p : ℕ → Bool) (s n : ℕ) → s < n → p s ≡ false → tally p n < n
tally_less p s zero m off = absurd (omega arith)
tally_less p s (suc n) m off = elim (equal_or_not n s) [
  | inl e ↦ (let a : tally p (suc n) ≡ tally p n = ap (λ b. one_more b (tally p n)) (ap p e ∙ off) in (let b = tally_bound p n in omega (arith, a, b)))
  | inr e ↦ go (p n) (tally_less p s n (lower n s m e) off)
]
  where
    lower : (n s : ℕ) → s < suc n → n ≢ s → s < n
    lower n s m e = grind arith

    go : (b : Bool) → tally p n < n → one_more b (tally p n) < suc n
    go true m = omega arith
    go false m = omega arith

pub fewer_out : (net : Net) (journal : List Entry) (out : List ℕ) (s : ℕ) → AreLast net journal out → AreApart journal out → s < length net.strands → left_by journal out s ≡ false → length out < length net.strands
fewer_out net journal out s last apart inside home =
    let a = tally_out net journal out last apart in
    let b = tally_less (left_by journal out) s (length net.strands) inside home in
    omega (arith, a, b)
