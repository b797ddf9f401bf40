-- The inputs in turn: those whose turn was, those whose turn is to come, and which of them are open.
use Rattle.std.proofs.Common.{◌≡◌, ◌<◌, ◌≤◌, ◌+◌, ℕ, zero, suc, Bool, true, false, cond, ltb, ◌==◌, ◌||◌, List, [], ◌∷◌, ◌++◌, length, slice_get, refl, sym, ◌∙◌, ap, subst, arith, Some}
use Rattle.std.specs.Prelude.{find, filter, take, min}
use Rattle.std.specs.List.{range_with_len, remove}
use Rattle.std.proofs.Math.Seq.{drop-append_seam, take-append_seam}
use Rattle.std.proofs.lemmas.Bool.Decides.{nat_tests}
use Rattle.std.proofs.lemmas.List.{append-nil, append_assoc, length-append}
use Rattle.std.proofs.lemmas.List.Elements.{filter-append}
use Rattle.std.proofs.lemmas.List.Folds.{list_any-append}
use Rattle.pipe_model.specs.FanRows.{around}
use Rattle.pipe_model.specs.Members.{has}
use Rattle.pipe_model.specs.Shape.{can_read, all_inputs}
use Rattle.pipe_model.proofs.Lists.{get_seam}
use Rattle.pipe_model.proofs.Truths.{neither}
use Rattle.fan_stages.specs.Gather.{turn_of, IsTurn}

-- Ranges

range_grows : (m s : ℕ) → range_with_len s (suc m) ≡ range_with_len s m ++ (s + m) ∷ []
range_grows zero s = let e : s ≡ s + 0 = omega arith in ap (λ n. n ∷ []) e
range_grows (suc m) s = let e : s + 1 + m ≡ s + suc m = omega arith in ap (λ l. s ∷ l) (range_grows m (s + 1) ∙ ap (λ n. range_with_len (s + 1) m ++ n ∷ []) e)

-- one input more
pub one_input_more : (n m : ℕ) → m ≡ n + 1 → all_inputs m ≡ all_inputs n ++ n ∷ []
one_input_more n m is = let e : m ≡ suc n = omega (arith, is) in let z : 0 + n ≡ n = omega arith in ap all_inputs e ∙ range_grows n 0 ∙ ap (λ k. range_with_len 0 n ++ k ∷ []) z

not_behind : (m s t : ℕ) → s < t → has (range_with_len t m) s ≡ false
not_behind zero s t lt = refl
not_behind (suc m) s t lt =
    let other : (t == s) ≡ false = grind (arith, nat_tests) in
    ap (λ b. b || has (range_with_len (t + 1) m) s) other ∙ not_behind m s (t + 1) (omega (arith, lt))

-- a number of a range stands at its place, and nowhere else
pub apart : (s m : ℕ) (xs ys : List ℕ) (i : ℕ) → range_with_len s m ≡ xs ++ i ∷ ys → (i ≡ s + length xs) × (has xs i ≡ false) × (has ys i ≡ false)
apart s zero [] ys i is = cc
apart s zero (x ∷ xs) ys i is = cc
apart s (suc m) [] ys i is =
    let here : s ≡ i = cc in
    let rest : range_with_len (s + 1) m ≡ ys = cc in
    (omega (arith, here), refl, subst (λ n. has ys n ≡ false) here (subst (λ l. has l s ≡ false) rest (not_behind m s (s + 1) (omega arith))))
apart s (suc m) (x ∷ xs) ys i is =
    let here : s ≡ x = cc in
    let rest : range_with_len (s + 1) m ≡ xs ++ i ∷ ys = cc in
    let r = apart (s + 1) m xs ys i rest in
    let place = r.0 in
    let other : (x == i) ≡ false = grind (arith, nat_tests) in
    (omega (arith, r.0), ap (λ b. b || has xs i) other ∙ r.1, r.2)

-- Filters

-- the first that passes, as the first of those that do
pub first_of_all : (p : ℕ → Bool) (xs : List ℕ) → find p xs ≡ slice_get (filter p xs) 0
first_of_all p [] = refl
first_of_all p (x ∷ xs) = (elim (p x) as (λ b. cond b (Some x) (find p xs) ≡ slice_get (cond b (x ∷ filter p xs) (filter p xs)) 0) [ true ↦ refl | false ↦ first_of_all p xs ])

-- where the first that passes stands
pub record IsCut (p : ℕ → Bool) (xs : List ℕ) (i : ℕ) (more : List ℕ) : Type 0 where
  pub skipped : List ℕ
  pub rest : List ℕ
  pub whole : xs ≡ skipped ++ i ∷ rest
  pub none : filter p skipped ≡ []
  pub others : filter p rest ≡ more
  pub passes : p i ≡ true

pub cut : (p : ℕ → Bool) (xs : List ℕ) (i : ℕ) (more : List ℕ) → filter p xs ≡ i ∷ more → IsCut p xs i more
cut p [] i more is = cc
cut p (x ∷ xs) i more is = by (p x) refl is (cut p xs i more)
  where
    by : (b : Bool) → p x ≡ b → cond b (x ∷ filter p xs) (filter p xs) ≡ i ∷ more → (filter p xs ≡ i ∷ more → IsCut p xs i more) → IsCut p (x ∷ xs) i more
    by true e is later =
        let here : x ≡ i = cc in
        record { skipped = []; rest = xs; whole = ap (λ y. y ∷ xs) here; none = refl; others = cc; passes = subst (λ y. p y ≡ true) here e }
    by false e is later =
        let r = later is in
        record { skipped = x ∷ r.skipped; rest = r.rest; whole = ap (λ l. x ∷ l) r.whole; none = ap (λ b. cond b (x ∷ filter p r.skipped) (filter p r.skipped)) e ∙ r.none; others = r.others; passes = r.passes }

module _ (p q : ℕ → Bool) (i : ℕ) (same : (j : ℕ) → (i == j) ≡ false → q j ≡ p j) where
  -- what passes the same but for one number, where that isn't there
  pub without_it : (xs : List ℕ) → has xs i ≡ false → filter q xs ≡ filter p xs
  without_it [] none = refl
  without_it (x ∷ xs) none =
      let r = neither (x == i) (has xs i) none in
      let n = r.0 in
      let apart : (i == x) ≡ false = grind (arith, nat_tests) in
      ap (λ b. cond b (x ∷ filter q xs) (filter q xs)) (same x apart) ∙ ap (λ l. cond (p x) (x ∷ l) l) (without_it xs r.1)

-- one is taken out
pub removes_seam : (xs : List ℕ) (y : ℕ) (ys : List ℕ) → remove (xs ++ y ∷ ys) (length xs) ≡ xs ++ ys
removes_seam [] y ys = refl
removes_seam (x ∷ xs) y ys = ap (λ l. x ∷ l) (removes_seam xs y ys)

-- Turns

-- whose turn it is, by the open ones of both parts
turn_seam : (lows highs : List ℕ) → turn_of (lows ++ highs) (length lows) ≡ slice_get (highs ++ lows) 0
turn_seam lows [] =
    let n : length (lows ++ []) ≡ length lows = ap length (append-nil lows) in
    let past : ltb (length lows) (length (lows ++ [])) ≡ false = grind (arith, nat_tests) in
    ap (λ b. slice_get (lows ++ []) (cond b (length lows) 0)) past ∙ ap (λ l. slice_get l 0) (append-nil lows)
turn_seam lows (h ∷ highs) =
    let n : length (lows ++ h ∷ highs) ≡ length lows + suc (length highs) = length-append lows (h ∷ highs) in
    let within : ltb (length lows) (length (lows ++ h ∷ highs)) ≡ true = grind (arith, nat_tests) in
    ap (λ b. slice_get (lows ++ h ∷ highs) (cond b (length lows) 0)) within ∙ get_seam lows h highs

-- it reads the one whose turn it is
pub turn_found : (p : ℕ → Bool) (all before behind opened : List ℕ) (place last : ℕ) → IsTurn p all before behind opened place → last ≡ length before → find p (around last all) ≡ turn_of opened place
turn_found p all before behind opened place last is last_is =
    ap (find p) (ap (λ n. around n all) last_is ∙ ap (around (length before)) is.all_are ∙ ap (λ l. l ++ take (length before) (before ++ behind)) (drop-append_seam before behind) ∙ ap (λ l. behind ++ l) (take-append_seam before behind))
    ∙ first_of_all p (behind ++ before)
    ∙ ap (λ l. slice_get l 0) (filter-append p behind before)
    ∙ sym (turn_seam (filter p before) (filter p behind))
    ∙ ap (turn_of (filter p before ++ filter p behind)) (sym is.place_is)
    ∙ ap (λ l. turn_of l place) (sym is.open_are)

-- one input more was read, or has ended

-- where it stands, and the parts behind its turn
pub record Moved (p : ℕ → Bool) (all opened : List ℕ) (i place : ℕ) : Type 0 where
  pub before : List ℕ
  pub behind : List ℕ
  pub turn : IsTurn p all before behind opened place
  pub last_is : suc i ≡ length before

module _ (n : ℕ) (p : ℕ → Bool) (before behind opened : List ℕ) (place i : ℕ) (is : IsTurn p (all_inputs n) before behind opened place) where
  -- one of those whose turn is to come
  moved_on : (more : List ℕ) → filter p behind ≡ i ∷ more → Moved p (all_inputs n) opened i (place + 1)
  moved_on more first =
      let c = cut p behind i more first in
      let whole : all_inputs n ≡ (before ++ c.skipped) ++ i ∷ c.rest = is.all_are ∙ ap (λ l. before ++ l) c.whole ∙ sym (append_assoc before c.skipped (i ∷ c.rest)) in
      let at = (apart 0 n (before ++ c.skipped) c.rest i whole).0 in
      let lows : filter p ((before ++ c.skipped) ++ i ∷ []) ≡ filter p before ++ i ∷ [] =
      filter-append p (before ++ c.skipped) (i ∷ [])
      ∙ ap (λ l. l ++ filter p (i ∷ [])) (filter-append p before c.skipped ∙ ap (λ l. filter p before ++ l) c.none ∙ append-nil (filter p before))
      ∙ ap (λ b. filter p before ++ cond b (i ∷ []) []) c.passes in
      record {
        before = (before ++ c.skipped) ++ i ∷ [];
        behind = c.rest;
        turn = record {
          all_are = whole ∙ sym (append_assoc (before ++ c.skipped) (i ∷ []) c.rest);
          open_are = is.open_are ∙ ap (λ l. filter p before ++ l) (first ∙ ap (λ l. i ∷ l) (sym c.others)) ∙ sym (append_assoc (filter p before) (i ∷ []) (filter p c.rest)) ∙ ap (λ l. l ++ filter p c.rest) (sym lows);
          place_is = ap (λ n. n + 1) is.place_is ∙ sym (ap length lows ∙ length-append (filter p before) (i ∷ []));
        };
        last_is = let l = length-append (before ++ c.skipped) (i ∷ []) in omega (arith, at, l);
      }

  -- the first, where each had its turn
  moved_around : (more : List ℕ) → filter p behind ≡ [] → filter p before ≡ i ∷ more → Moved p (all_inputs n) opened i 1
  moved_around more none first =
      let c = cut p before i more first in
      let whole : all_inputs n ≡ c.skipped ++ i ∷ (c.rest ++ behind) = is.all_are ∙ ap (λ l. l ++ behind) c.whole ∙ append_assoc c.skipped (i ∷ c.rest) behind in
      let at = (apart 0 n c.skipped (c.rest ++ behind) i whole).0 in
      let lows : filter p (c.skipped ++ i ∷ []) ≡ i ∷ [] = filter-append p c.skipped (i ∷ []) ∙ ap (λ l. l ++ filter p (i ∷ [])) c.none ∙ ap (λ b. cond b (i ∷ []) []) c.passes in
      record {
        before = c.skipped ++ i ∷ [];
        behind = c.rest ++ behind;
        turn = record {
          all_are = whole ∙ sym (append_assoc c.skipped (i ∷ []) (c.rest ++ behind));
          open_are = is.open_are ∙ ap (λ l. l ++ filter p behind) (first ∙ ap (λ l. i ∷ l) (sym c.others)) ∙ ap (λ l. i ∷ l) (sym (filter-append p c.rest behind)) ∙ ap (λ l. l ++ filter p (c.rest ++ behind)) (sym lows);
          place_is = sym (ap length lows);
        };
        last_is = let l = length-append c.skipped (i ∷ []) in omega (arith, at, l);
      }

  abbrev lows : List ℕ
  lows = filter p before

  abbrev highs : List ℕ
  highs = filter p behind

  first_is : turn_of opened place ≡ Some i → slice_get (highs ++ lows) 0 ≡ Some i
  first_is reads = sym (turn_seam lows highs) ∙ ap (turn_of (lows ++ highs)) (sym is.place_is) ∙ ap (λ l. turn_of l place) (sym is.open_are) ∙ reads

  -- whether one of those whose turn is to come is open
  is_before : (hs : List ℕ) → highs ≡ hs → ltb place (length opened) ≡ ltb 0 (length hs)
  is_before hs same =
      let l : length (lows ++ highs) ≡ length lows + length highs = length-append lows highs in
      let o : length opened ≡ length (lows ++ highs) = ap length is.open_are in
      let h : length highs ≡ length hs = ap length same in
      let at = is.place_is in
      grind (arith, nat_tests)

  -- behind a record
  pub moved : turn_of opened place ≡ Some i → Moved p (all_inputs n) opened i (cond (ltb place (length opened)) (place + 1) 1)
  moved reads = by highs lows refl refl (first_is reads)
    where
      by : (hs ls : List ℕ) → highs ≡ hs → lows ≡ ls → slice_get (hs ++ ls) 0 ≡ Some i → Moved p (all_inputs n) opened i (cond (ltb place (length opened)) (place + 1) 1)
      by (h ∷ hs) ls is_hs is_ls first =
          let it : h ≡ i = cc in
          let b : ltb place (length opened) ≡ true = is_before (h ∷ hs) is_hs ∙ grind (arith, nat_tests) in
          subst (λ b. Moved p (all_inputs n) opened i (cond b (place + 1) 1)) (sym b) (moved_on hs (is_hs ∙ ap (λ j. j ∷ hs) it))
      by [] (l ∷ ls) is_hs is_ls first =
          let it : l ≡ i = cc in
          let b : ltb place (length opened) ≡ false = is_before [] is_hs ∙ grind (arith, nat_tests) in
          subst (λ b. Moved p (all_inputs n) opened i (cond b (place + 1) 1)) (sym b) (moved_around ls is_hs (is_ls ∙ ap (λ j. j ∷ ls) it))
      by [] [] is_hs is_ls first = cc

  -- behind an end
  module _ (q : ℕ → Bool) (same : (j : ℕ) → (i == j) ≡ false → q j ≡ p j) (ended : q i ≡ false) where
    -- what is left of a list where the first that passed ended
    fewer : (xs more : List ℕ) (c : IsCut p xs i more) → has c.skipped i ≡ false → has c.rest i ≡ false → filter q xs ≡ more
    fewer xs more c not_skipped not_rest =
        ap (filter q) c.whole
        ∙ filter-append q c.skipped (i ∷ c.rest)
        ∙ ap (λ b. filter q c.skipped ++ cond b (i ∷ filter q c.rest) (filter q c.rest)) ended
        ∙ ap (λ l. l ++ filter q c.rest) (without_it p q i same c.skipped not_skipped ∙ c.none)
        ∙ without_it p q i same c.rest not_rest
        ∙ c.others

    -- the one whose turn it was is taken out, and no more of them had theirs than are left
    abbrev Removed : ℕ → Type 0
    Removed turn = IsTurn q (all_inputs n) before behind (remove opened turn) (min place (length (remove opened turn)))

    ended_on : (more : List ℕ) → highs ≡ i ∷ more → Removed place
    ended_on more first =
        let c = cut p behind i more first in
        let whole : all_inputs n ≡ (before ++ c.skipped) ++ i ∷ c.rest = is.all_are ∙ ap (λ l. before ++ l) c.whole ∙ sym (append_assoc before c.skipped (i ∷ c.rest)) in
        let a = apart 0 n (before ++ c.skipped) c.rest i whole in
        let none = neither (has before i) (has c.skipped i) (sym (list_any-append (λ y. y == i) before c.skipped) ∙ a.1) in
        let low : filter q before ≡ lows = without_it p q i same before none.0 in
        let high : filter q behind ≡ more = fewer behind more c none.1 a.2 in
        let left : remove opened place ≡ lows ++ more = ap (λ l. remove l place) (is.open_are ∙ ap (λ l. lows ++ l) first) ∙ ap (remove (lows ++ i ∷ more)) is.place_is ∙ removes_seam lows i more in
        let long : length (remove opened place) ≡ length lows + length more = ap length left ∙ length-append lows more in
        let at = is.place_is in
        let here : min place (length (remove opened place)) ≡ length lows = grind arith in
        record {
          all_are = is.all_are;
          open_are = left ∙ ap (λ l. l ++ more) (sym low) ∙ ap (λ l. filter q before ++ l) (sym high);
          place_is = here ∙ ap length (sym low);
        }

    ended_around : (more : List ℕ) → highs ≡ [] → lows ≡ i ∷ more → Removed 0
    ended_around more none first =
        let c = cut p before i more first in
        let whole : all_inputs n ≡ c.skipped ++ i ∷ (c.rest ++ behind) = is.all_are ∙ ap (λ l. l ++ behind) c.whole ∙ append_assoc c.skipped (i ∷ c.rest) behind in
        let a = apart 0 n c.skipped (c.rest ++ behind) i whole in
        let not = neither (has c.rest i) (has behind i) (sym (list_any-append (λ y. y == i) c.rest behind) ∙ a.2) in
        let low : filter q before ≡ more = fewer before more c a.1 not.0 in
        let high : filter q behind ≡ [] = without_it p q i same behind not.1 ∙ none in
        let opened_is : opened ≡ i ∷ more = is.open_are ∙ ap (λ l. lows ++ l) none ∙ append-nil lows ∙ first in
        let left : remove opened 0 ≡ more = ap (λ l. remove l 0) opened_is in
        let long : length (remove opened 0) ≡ length more = ap length left in
        let at : place ≡ suc (length more) = is.place_is ∙ ap length first in
        let here : min place (length (remove opened 0)) ≡ length more = grind arith in
        record {
          all_are = is.all_are;
          open_are = left ∙ sym low ∙ sym (append-nil (filter q before)) ∙ ap (λ l. filter q before ++ l) (sym high);
          place_is = here ∙ ap length (sym low);
        }

    pub removes : turn_of opened place ≡ Some i → Removed (cond (ltb place (length opened)) place 0)
    removes reads = by highs lows refl refl (first_is reads)
      where
        by : (hs ls : List ℕ) → highs ≡ hs → lows ≡ ls → slice_get (hs ++ ls) 0 ≡ Some i → Removed (cond (ltb place (length opened)) place 0)
        by (h ∷ hs) ls is_hs is_ls first =
            let it : h ≡ i = cc in
            let b : ltb place (length opened) ≡ true = is_before (h ∷ hs) is_hs ∙ grind (arith, nat_tests) in
            subst (λ b. Removed (cond b place 0)) (sym b) (ended_on hs (is_hs ∙ ap (λ j. j ∷ hs) it))
        by [] (l ∷ ls) is_hs is_ls first =
            let it : l ≡ i = cc in
            let b : ltb place (length opened) ≡ false = is_before [] is_hs ∙ grind (arith, nat_tests) in
            subst (λ b. Removed (cond b place 0)) (sym b) (ended_around ls is_hs (is_ls ∙ ap (λ j. j ∷ ls) it))
        by [] [] is_hs is_ls first = cc

-- nothing is taken out behind the end
pub removes_none : (xs : List ℕ) (place turn : ℕ) → turn ≡ cond (ltb place (length xs)) place 0 → length xs ≤ turn → remove xs turn ≡ xs
removes_none [] place turn is past = let z : turn ≡ 0 = is ∙ grind (arith, nat_tests) in ap (remove []) z
removes_none (x ∷ xs) place turn is past = absurd (by (ltb place (length (x ∷ xs))) refl is)
  where
    by : (b : Bool) → ltb place (length (x ∷ xs)) ≡ b → turn ≡ cond b place 0 → ⊥
    by true e is = grind (arith, nat_tests)
    by false e is = omega (arith, past, is)

-- before any end all are open
all_open_from : (n m s : ℕ) → s + m ≡ n → filter (can_read n []) (range_with_len s m) ≡ range_with_len s m
all_open_from n zero s all = refl
all_open_from n (suc m) s all =
    let can : can_read n [] s ≡ true = grind (arith, nat_tests) in
    ap (λ b. cond b (s ∷ filter (can_read n []) (range_with_len (s + 1) m)) (filter (can_read n []) (range_with_len (s + 1) m))) can ∙ ap (λ l. s ∷ l) (all_open_from n m (s + 1) (omega (arith, all)))

pub all_open : (n : ℕ) → filter (can_read n []) (all_inputs n) ≡ all_inputs n
all_open n = all_open_from n n 0 (omega arith)
