-- A list that is in order, and has those that tie in the order of another one, is that one sorted.
use Rattle.std.proofs.Common.{◌≡◌, ℕ, suc, ◌+◌, Bool, true, false, cond, not, List, [], ◌∷◌, length, drop, get_or, refl, sym, ◌∙◌, ap, subst, arith}
use Rattle.std.specs.Prelude.{◌&&◌, if◌then◌else◌}
use Rattle.std.specs.Cmp.{IsStrictWeakOrder}
use Rattle.std.specs.List.{filter}
use Rattle.std.specs.List.Sorted.{IsSortedBy, ties}
use Rattle.pipe_model.specs.declared.keys.SortKey.{SortKey}
use Rattle.pipe_model.specs.OrderRows.{goes_before, inserted, sorted}
use Rattle.pipe_model.specs.Shape.{Records}
use Rattle.stream_laws.proofs.KeysInTurn.{goes_before_orders}

module _ {X : Type 0} (lt : X → X → Bool) (o : IsStrictWeakOrder lt) where
  -- none of these goes before x
  abbrev pub NoneBefore : X → List X → Type 0
  NoneBefore x [] = Unit {0}
  NoneBefore x (y ∷ ys) = (lt y x ≡ false) × NoneBefore x ys

  -- none goes before an earlier one
  abbrev pub Ascends : List X → Type 0
  Ascends [] = Unit {0}
  Ascends (x ∷ xs) = NoneBefore x xs × Ascends xs

  none_before_less : (x y : X) (xs : List X) → lt y x ≡ false → NoneBefore y xs → NoneBefore x xs
  none_before_less x y [] less none = tt
  none_before_less x y (z ∷ xs) less none = (o.chain z y x none.0 less, none_before_less x y xs less none.1)

  pub ascends : (xs : List X) → IsSortedBy lt xs → Ascends xs
  ascends [] up = tt
  ascends (x ∷ []) up = (tt, tt)
  ascends (x ∷ y ∷ xs) up =
      let first : lt y x ≡ false = up 0 x (omega arith) (omega arith) in
      let rest = ascends (y ∷ xs) (λ k d from within. let next : suc k + 1 ≡ suc (k + 1) = omega arith in subst (λ n. lt (get_or (x ∷ y ∷ xs) n d) (get_or (y ∷ xs) k d) ≡ false) next (up (suc k) d (omega arith) (omega (arith, within)))) in
      ((first, none_before_less x y xs first rest.0), rest)

  none_before_filter : (p : X → Bool) (x : X) (xs : List X) → NoneBefore x xs → NoneBefore x (filter p xs)
  none_before_filter p x [] none = tt
  none_before_filter p x (y ∷ ys) none =
      let ih = none_before_filter p x ys none.1 in
      (elim (p y) as (λ c. NoneBefore x (cond c (y ∷ filter p ys) (filter p ys))) [ true ↦ (none.0, ih) | false ↦ ih ])

  not_before_itself : (x : X) → lt x x ≡ false
  not_before_itself x = (elim (lt x x) as (λ c. lt x x ≡ c → lt x x ≡ false) [ true ↦ λ e. o.one_way x x e | false ↦ λ e. e ]) refl

  ties_by : (x y : X) → lt x y ≡ false → lt y x ≡ false → ties lt x y ≡ true
  ties_by x y one other = cc

  ties_itself : (x : X) → ties lt x x ≡ true
  ties_itself x = ties_by x x (not_before_itself x) (not_before_itself x)

  tied_parts : (a b : Bool) → (not a && not b) ≡ true → (a ≡ false) × (b ≡ false)
  tied_parts true b is = absurd cc
  tied_parts false true is = absurd cc
  tied_parts false false is = (refl, refl)

  kept : (w x : X) (xs : List X) → ties lt w x ≡ true → filter (ties lt w) (x ∷ xs) ≡ x ∷ filter (ties lt w) xs
  kept w x xs is = ap (λ c. cond c (x ∷ filter (ties lt w) xs) (filter (ties lt w) xs)) is

  some_or_none : (x : X) (xs : List X) → [] ≡ x ∷ xs → ⊥
  some_or_none x xs is = let e : 0 ≡ suc (length xs) = ap length is in omega (arith, e)

  -- of two lists in order, if one has those that tie with its first, the other's first goes not after it
  not_after : (y z : X) (ys zs : List X) → NoneBefore z zs → filter (ties lt y) (y ∷ ys) ≡ filter (ties lt y) (z ∷ zs) → lt y z ≡ false
  not_after y z ys zs none same =
      (subst (NoneBefore z) (sym same ∙ kept y y ys (ties_itself y)) (none_before_filter (ties lt y) z (z ∷ zs) (not_before_itself z, none))).0

  behind : (c : Bool) (x : X) (xs ys : List X) → cond c (x ∷ xs) xs ≡ cond c (x ∷ ys) ys → xs ≡ ys
  behind true x xs ys same = ap (drop 1) same
  behind false x xs ys same = same

  -- two lists in order, in which those that tie are the same, are the same
  pub one_order : (ys zs : List X) → Ascends ys → Ascends zs → ((w : X) → filter (ties lt w) ys ≡ filter (ties lt w) zs) → ys ≡ zs
  one_order [] [] up down same = refl
  one_order [] (z ∷ zs) up down same = absurd (some_or_none z (filter (ties lt z) zs) (same z ∙ kept z z zs (ties_itself z)))
  one_order (y ∷ ys) [] up down same = absurd (some_or_none y (filter (ties lt y) ys) (sym (same y) ∙ kept y y ys (ties_itself y)))
  one_order (y ∷ ys) (z ∷ zs) up down same =
      let yz = not_after y z ys zs down.0 (same y) in
      let zy = not_after z y zs ys up.0 (sym (same z)) in
      let heads : y ∷ filter (ties lt y) ys ≡ z ∷ filter (ties lt y) zs = sym (kept y y ys (ties_itself y)) ∙ same y ∙ kept y z zs (ties_by y z yz zy) in
      let first : y ≡ z = ap (λ l. get_or l 0 y) heads in
      let tails : (w : X) → filter (ties lt w) ys ≡ filter (ties lt w) zs = λ w.
      behind (ties lt w y) y (filter (ties lt w) ys) (filter (ties lt w) zs) (same w ∙ ap (λ x. cond (ties lt w x) (x ∷ filter (ties lt w) zs) (filter (ties lt w) zs)) (sym first)) in
      ap (λ x. x ∷ ys) first ∙ ap (λ l. z ∷ l) (one_order ys zs up.1 down.1 tails)

module _ (keys : List SortKey) where
  abbrev lt : List ℕ → List ℕ → Bool
  lt = goes_before keys

  abbrev o : IsStrictWeakOrder (goes_before keys)
  o = goes_before_orders keys

  none_before_inserted : (x rec : List ℕ) (recs : Records) → lt rec x ≡ false → NoneBefore lt o x recs → NoneBefore lt o x (inserted keys rec recs)
  none_before_inserted x rec [] not_less none = (not_less, tt)
  none_before_inserted x rec (y ∷ ys) not_less none =
      let ih = none_before_inserted x rec ys not_less none.1 in
      (elim (lt y rec) as (λ c. NoneBefore lt o x (if c then y ∷ inserted keys rec ys else rec ∷ y ∷ ys)) [ true ↦ (none.0, ih) | false ↦ (not_less, none) ])

  ascends_inserted : (rec : List ℕ) (recs : Records) → Ascends lt o recs → Ascends lt o (inserted keys rec recs)
  ascends_inserted rec [] up = (tt, tt)
  ascends_inserted rec (y ∷ ys) up =
      let ih = ascends_inserted rec ys up.1 in
      (elim (lt y rec) as (λ c. lt y rec ≡ c → Ascends lt o (if c then y ∷ inserted keys rec ys else rec ∷ y ∷ ys)) [
        | true ↦ λ e. (none_before_inserted y rec ys (o.one_way y rec e) up.0, ih)
        | false ↦ λ e. ((e, none_before_less lt o rec y ys e up.0), up)
      ]) refl

  pub sorted_ascends : (recs : Records) → Ascends lt o (sorted keys recs)
  sorted_ascends [] = tt
  sorted_ascends (rec ∷ recs) = ascends_inserted rec (sorted keys recs) (sorted_ascends recs)

  -- those that tie with one stay in order
  stays_inserted : (w rec : List ℕ) (recs : Records) → filter (ties lt w) (inserted keys rec recs) ≡ filter (ties lt w) (rec ∷ recs)
  stays_inserted w rec [] = refl
  stays_inserted w rec (y ∷ ys) =
      let rest = filter (ties lt w) ys in
      (elim (lt y rec) as (λ c. lt y rec ≡ c → filter (ties lt w) (if c then y ∷ inserted keys rec ys else rec ∷ y ∷ ys) ≡ filter (ties lt w) (rec ∷ y ∷ ys)) [
        | true ↦ λ e. ap (λ l. cond (ties lt w y) (y ∷ l) l) (stays_inserted w rec ys) ∙ passed e rest (ties lt w y) (ties lt w rec) refl refl
        | false ↦ λ e. refl
      ]) refl
    where
      passed : lt y rec ≡ true → (rest : Records) (a b : Bool) → ties lt w y ≡ a → ties lt w rec ≡ b →
          cond a (y ∷ cond b (rec ∷ rest) rest) (cond b (rec ∷ rest) rest) ≡ cond b (rec ∷ cond a (y ∷ rest) rest) (cond a (y ∷ rest) rest)
      passed before rest true true ties_y ties_rec =
          let from_y = tied_parts lt o (lt w y) (lt y w) ties_y in
          let from_rec = tied_parts lt o (lt w rec) (lt rec w) ties_rec in
          let not_before : lt y rec ≡ false = o.chain y w rec from_y.1 from_rec.0 in
          absurd cc
      passed before rest true false ties_y ties_rec = refl
      passed before rest false true ties_y ties_rec = refl
      passed before rest false false ties_y ties_rec = refl

  pub sorted_stays : (w : List ℕ) (recs : Records) → filter (ties lt w) (sorted keys recs) ≡ filter (ties lt w) recs
  sorted_stays w [] = refl
  sorted_stays w (rec ∷ recs) = stays_inserted w rec (sorted keys recs) ∙ ap (λ l. cond (ties lt w rec) (rec ∷ l) l) (sorted_stays w recs)
