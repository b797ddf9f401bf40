-- Of the records in sight one goes before all others.
use Rattle.std.proofs.Common.{◌≡◌, ℕ, Bool, true, false, cond, ◌&&◌, ◌||◌, not, ◌==◌, List, [], ◌∷◌, ◌++◌, refl, sym, ◌∙◌, ap, arith}
use Rattle.std.specs.Prelude.{filter, nat_lt}
use Rattle.std.specs.List.{list_all, list_any}
use Rattle.std.proofs.lemmas.Bool.Decides.{nat_tests}
use Rattle.std.proofs.lemmas.List.Elements.{filter-append}
use Rattle.std.proofs.lemmas.List.Folds.{list_all-append, list_any-append}
use Rattle.std.proofs.lemmas.Bool.{eqb-true, not-true}
use Rattle.std.proofs.Math.Bool.{or-true, and-false}
use Rattle.pipe_model.specs.declared.range.Range.{Range}
use Rattle.pipe_model.specs.Row.{Pair}
use Rattle.pipe_model.specs.Ranges.{part_of}
use Rattle.pipe_model.specs.Keys.{is_less}
use Rattle.pipe_model.specs.JoiningRows.{goes_first, is_least}
use Rattle.pipe_model.specs.Shape.{Records, records_of}
use Rattle.pipe_model.specs.Inputs.{records_from}
use Rattle.pipe_model.proofs.Truths.{both as and_both, or_first}
use Rattle.pipe_model.proofs.Numbers.{test_same}
use Rattle.pipe_model.proofs.Lists.{all_too}
use Rattle.stream_laws.proofs.Streams.{from, on_both}
use Rattle.stream_laws.proofs.KeyOrder.{less_one_way, less_between, same_is}

-- a pair goes before another one: its key is less, or neither is and its number is
abbrev goes : Bool → Bool → Bool → Bool
goes less more lower = less || ((not less && not more) && lower)

one_way_step : (x y u v : Bool) → (x ≡ true → y ≡ false) → (u ≡ true → v ≡ false) → goes x y u ≡ true → goes y x v ≡ false
one_way_step true true u v keys numbers is = (let z : true ≡ false = keys refl in cc)
one_way_step true false u v keys numbers is = refl
one_way_step false true u v keys numbers is = cc
one_way_step false false u v keys numbers is = numbers is

-- x, a and b: the first before the third, the first before the second, the second before the third; and the other way round
between_step : (x x' a a' b b' u v w : Bool) → (x ≡ true → (a || b) ≡ true) → (a' ≡ true → (b || x') ≡ true) → (b' ≡ true → (x' || a) ≡ true) → (u ≡ true → (v || w) ≡ true) →
    goes x x' u ≡ true → (goes a a' v || goes b b' w) ≡ true
between_step x x' true a' b b' u v w f1 f2 f3 f is = refl
between_step x x' false a' true b' u v w f1 f2 f3 f is = or-true (not a' && v)
between_step true x' false a' false b' u v w f1 f2 f3 f is = (let z : false ≡ true = f1 refl in cc)
between_step false true false a' false b' u v w f1 f2 f3 f is = cc
between_step false false false true false b' u v w f1 f2 f3 f is = (let z : false ≡ true = f2 refl in cc)
between_step false false false false false true u v w f1 f2 f3 f is = (let z : false ≡ true = f3 refl in cc)
between_step false false false false false false u v w f1 f2 f3 f is = f is

-- one of two goes first
total_step : (x y u v : Bool) → (u ≡ false → v ≡ true) → (y ≡ true → x ≡ false) → goes x y u ≡ false → goes y x v ≡ true
total_step true y u v numbers keys is = cc
total_step false true u v numbers keys is = refl
total_step false false u v numbers keys is = numbers is

module _ (range : Range) where
  less : Pair → Pair → Bool
  less p q = is_less (part_of range p.1) (part_of range q.1)

  goes_is : (p q : Pair) → goes_first range p q ≡ goes (less p q) (less q p) (nat_lt p.0 q.0)
  unfolding less
  goes_is p q = ap (λ z. is_less (part_of range p.1) (part_of range q.1) || (z && nat_lt p.0 q.0)) (same_is (part_of range p.1) (part_of range q.1))

  -- of two pairs one at most goes first
  pub goes_one_way : (p q : Pair) → goes_first range p q ≡ true → goes_first range q p ≡ false
  unfolding less
  goes_one_way p q is = goes_is q p ∙ one_way_step (less p q) (less q p) (nat_lt p.0 q.0) (nat_lt q.0 p.0) (less_one_way (part_of range p.1) (part_of range q.1)) numbers (sym (goes_is p q) ∙ is)
    where
      numbers : nat_lt p.0 q.0 ≡ true → nat_lt q.0 p.0 ≡ false
      numbers e = lower p.0 q.0 e
        where
          lower : (i j : ℕ) → nat_lt i j ≡ true → nat_lt j i ≡ false
          lower i j e = grind (arith, nat_tests)

  -- and a third is behind the one or before the other
  pub goes_between : (p q r : Pair) → goes_first range p r ≡ true → (goes_first range p q || goes_first range q r) ≡ true
  unfolding less
  goes_between p q r is =
      ap (λ z. z || goes_first range q r) (goes_is p q) ∙ ap (λ z. goes (less p q) (less q p) (nat_lt p.0 q.0) || z) (goes_is q r)
      ∙ between_step (less p r) (less r p) (less p q) (less q p) (less q r) (less r q) (nat_lt p.0 r.0) (nat_lt p.0 q.0) (nat_lt q.0 r.0)
      (less_between (part_of range p.1) (part_of range q.1) (part_of range r.1)) (less_between (part_of range q.1) (part_of range r.1) (part_of range p.1))
      (less_between (part_of range r.1) (part_of range p.1) (part_of range q.1)) (numbers p.0 q.0 r.0) (sym (goes_is p r) ∙ is)
    where
      numbers : (i j k : ℕ) → nat_lt i k ≡ true → (nat_lt i j || nat_lt j k) ≡ true
      numbers i j k e = grind (arith, nat_tests)

  -- and one of two with different numbers
  pub goes_total : (p q : Pair) → (p.0 == q.0) ≡ false → goes_first range p q ≡ false → goes_first range q p ≡ true
  unfolding less
  goes_total p q apart is = goes_is q p ∙ total_step (less p q) (less q p) (nat_lt p.0 q.0) (nat_lt q.0 p.0) (numbers p.0 q.0 apart) (less_one_way (part_of range q.1) (part_of range p.1)) (sym (goes_is p q) ∙ is)
    where
      numbers : (i j : ℕ) → (i == j) ≡ false → nat_lt i j ≡ false → nat_lt j i ≡ true
      numbers i j apart e = grind (arith, nat_tests)

-- Tests of all members

-- one that fails
all_fails : {A : Type 0} (f : A → Bool) (us : List A) (x : A) (vs : List A) → f x ≡ false → list_all f (us ++ x ∷ vs) ≡ false
all_fails f [] x vs is = ap (λ b. b && list_all f vs) is
all_fails f (u ∷ us) x vs is = ap (λ z. f u && z) (all_fails f us x vs is) ∙ and-false (f u)

-- a record of an input passes where all do
pub all_at : (f : Pair → Bool) (ps : List Pair) (j : ℕ) (rec : List ℕ) (more : Records) → list_all f ps ≡ true → records_from j ps ≡ rec ∷ more → f (j, rec) ≡ true
all_at f [] j rec more all is = cc
all_at f (p ∷ ps) j rec more all is = by_test (p.0 == j) refl is (all_at f ps j rec more (and_both (f p) (list_all f ps) all).1)
  where
    by_test : (b : Bool) → (p.0 == j) ≡ b → records_of (cond b (p ∷ from j ps) (from j ps)) ≡ rec ∷ more → (records_from j ps ≡ rec ∷ more → f (j, rec) ≡ true) → f (j, rec) ≡ true
    by_test true same e rest =
        let it : p.1 ≡ rec = cc in
        ap (λ z. f (z, rec)) (sym (eqb-true p.0 j same)) ∙ ap (λ z. f (p.0, z)) (sym it) ∙ (and_both (f p) (list_all f ps) all).0
    by_test false same e rest = rest e

-- The least

module _ (range : Range) where
  -- one that none goes before
  pub record Pick (sight : List Pair) : Type 0 where
    pub least : Pair
    pub before : List Pair
    pub behind : List Pair
    pub whole : sight ≡ before ++ least ∷ behind
    pub none_before : list_all (λ q. not (goes_first range q least)) before ≡ true
    pub none_behind : list_all (λ q. not (goes_first range q least)) behind ≡ true

  not_itself : (p : Pair) → goes_first range p p ≡ false
  not_itself p = by_test (goes_first range p p) refl
    where
      by_test : (b : Bool) → goes_first range p p ≡ b → goes_first range p p ≡ false
      by_test true is = goes_one_way range p p is
      by_test false is = is

  -- all of them
  pub pick_all : (sight : List Pair) (m : Pick sight) → is_least range sight m.least ≡ true
  pick_all sight m =
      ap (λ z. list_all (λ q. not (goes_first range q m.least)) z) m.whole ∙ list_all-append (λ q. not (goes_first range q m.least)) m.before (m.least ∷ m.behind)
      ∙ ap (λ z. z && list_all (λ q. not (goes_first range q m.least)) (m.least ∷ m.behind)) m.none_before
      ∙ ap (λ z. not z && list_all (λ q. not (goes_first range q m.least)) m.behind) (not_itself m.least) ∙ m.none_behind

  pub pick : (p : Pair) (ps : List Pair) → Pick (p ∷ ps)
  pick p [] = record { least = p; before = []; behind = []; whole = refl; none_before = refl; none_behind = refl }
  pick p (q ∷ qs) = by_test (pick q qs)
    where
      by_goes : (m : Pick (q ∷ qs)) (b : Bool) → goes_first range p m.least ≡ b → Pick (p ∷ q ∷ qs)
      by_goes m true is = record {
        least = p;
        before = [];
        behind = q ∷ qs;
        whole = refl;
        none_before = refl;
        none_behind = all_too (λ x. not (goes_first range x m.least)) (λ x. not (goes_first range x p)) (q ∷ qs)
            (λ x e. ap (λ z. not z) (goes_one_way range p x (or_first (goes_first range p x) (goes_first range x m.least) (goes_between range p x m.least is) (not-true (goes_first range x m.least) e)))) (pick_all (q ∷ qs) m);
      }
      by_goes m false is = record {
        least = m.least;
        before = p ∷ m.before;
        behind = m.behind;
        whole = ap (λ z. p ∷ z) m.whole;
        none_before = ap (λ z. not z && list_all (λ x. not (goes_first range x m.least)) m.before) is ∙ m.none_before;
        none_behind = m.none_behind;
      }

      by_test : Pick (q ∷ qs) → Pick (p ∷ q ∷ qs)
      by_test m = by_goes m (goes_first range p m.least) refl

  -- it is the or_first one, where each input has one record in sight at most
  module _ (sight : List Pair) (m : Pick sight) (rec : List ℕ) (alone : records_from m.least.0 sight ≡ rec ∷ []) where
    split : (xs : Records) (y : List ℕ) (ys : Records) → xs ++ y ∷ ys ≡ rec ∷ [] → (xs ≡ []) × (ys ≡ []) × (y ≡ rec)
    split [] y ys e = (refl, cc, cc)
    split (x ∷ []) y ys e = cc
    split (x ∷ z ∷ xs) y ys e = cc

    parts : (records_from m.least.0 m.before ≡ []) × (records_from m.least.0 m.behind ≡ []) × (m.least.1 ≡ rec)
    parts =
        split (records_from m.least.0 m.before) m.least.1 (records_from m.least.0 m.behind) (
        ap (λ z. records_from m.least.0 m.before ++ z) (sym (ap (λ b. records_of (cond b (m.least ∷ from m.least.0 m.behind) (from m.least.0 m.behind))) (test_same m.least.0)))
        ∙ sym (on_both m.least.0 m.before (m.least ∷ m.behind)) ∙ ap (records_from m.least.0) (sym m.whole) ∙ alone
        )

    pub pick_rec : m.least.1 ≡ rec
    pick_rec = parts.2

    -- no other one is
    fails : (r : Pair) → (r.0 == m.least.0) ≡ false → goes_first range r m.least ≡ false → is_least range sight r ≡ false
    fails r apart is =
        ap (λ z. list_all (λ q. not (goes_first range q r)) z) m.whole
        ∙ all_fails (λ q. not (goes_first range q r)) m.before m.least m.behind (ap (λ z. not z) (goes_total range r m.least apart is))

    none_of : (us : List Pair) → records_from m.least.0 us ≡ [] → list_all (λ q. not (goes_first range q m.least)) us ≡ true → filter (is_least range sight) us ≡ []
    none_of [] none all = refl
    none_of (u ∷ us) none all =
        let b = and_both (not (goes_first range u m.least)) (list_all (λ q. not (goes_first range q m.least)) us) all in
        by_test (u.0 == m.least.0) refl none (not-true (goes_first range u m.least) b.0) (λ e. none_of us e b.1)
      where
        by_test : (c : Bool) → (u.0 == m.least.0) ≡ c → records_of (cond c (u ∷ from m.least.0 us) (from m.least.0 us)) ≡ [] → goes_first range u m.least ≡ false → (records_from m.least.0 us ≡ [] → filter (is_least range sight) us ≡ []) →
            cond (is_least range sight u) (u ∷ filter (is_least range sight) us) (filter (is_least range sight) us) ≡ []
        by_test true is e goes_not rest = cc
        by_test false is e goes_not rest = ap (λ z. cond z (u ∷ filter (is_least range sight) us) (filter (is_least range sight) us)) (fails u is goes_not) ∙ rest e

    none_before' : filter (is_least range sight) m.before ≡ []
    none_before' = none_of m.before parts.0 m.none_before

    none_behind' : filter (is_least range sight) m.behind ≡ []
    none_behind' = none_of m.behind parts.1 m.none_behind

    pub pick_only : filter (is_least range sight) sight ≡ m.least ∷ []
    pick_only =
        ap (λ z. filter (is_least range sight) z) m.whole ∙ filter-append (is_least range sight) m.before (m.least ∷ m.behind)
        ∙ ap (λ z. z ++ filter (is_least range sight) (m.least ∷ m.behind)) none_before'
        ∙ ap (λ b. cond b (m.least ∷ filter (is_least range sight) m.behind) (filter (is_least range sight) m.behind)) (pick_all sight m) ∙ ap (λ z. m.least ∷ z) none_behind'

    none_any : (i : ℕ) (us : List Pair) → filter (is_least range sight) us ≡ [] → list_any (λ p. p.0 == i && is_least range sight p) us ≡ false
    none_any i [] none = refl
    none_any i (u ∷ us) none = by_test (is_least range sight u) refl none (λ e. none_any i us e)
      where
        by_test : (b : Bool) → is_least range sight u ≡ b → cond b (u ∷ filter (is_least range sight) us) (filter (is_least range sight) us) ≡ [] → (filter (is_least range sight) us ≡ [] → list_any (λ p. p.0 == i && is_least range sight p) us ≡ false) →
            (u.0 == i && is_least range sight u || list_any (λ p. p.0 == i && is_least range sight p) us) ≡ false
        by_test true is e rest = cc
        by_test false is e rest = ap (λ z. u.0 == i && z || list_any (λ p. p.0 == i && is_least range sight p) us) is ∙ ap (λ z. z || list_any (λ p. p.0 == i && is_least range sight p) us) (and-false (u.0 == i)) ∙ rest e

    -- so or_first its input's record is taken
    pub pick_taken : (i : ℕ) → list_any (λ p. p.0 == i && is_least range sight p) sight ≡ (m.least.0 == i)
    pick_taken i =
        ap (λ z. list_any (λ p. p.0 == i && is_least range sight p) z) m.whole ∙ list_any-append (λ p. p.0 == i && is_least range sight p) m.before (m.least ∷ m.behind)
        ∙ ap (λ z. z || list_any (λ p. p.0 == i && is_least range sight p) (m.least ∷ m.behind)) (none_any i m.before none_before')
        ∙ ap (λ z. m.least.0 == i && is_least range sight m.least || z) (none_any i m.behind none_behind')
        ∙ ap (λ z. m.least.0 == i && z || false) (pick_all sight m) ∙ plain (m.least.0 == i)
      where
        plain : (b : Bool) → (b && true || false) ≡ b
        plain true = refl
        plain false = refl
