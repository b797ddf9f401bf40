-- A round of the open inputs: which is read next, and when all records are in sight and are taken.
use Rattle.std.proofs.Common.{◌≡◌, ◌<◌, ◌≤◌, ◌+◌, ◌-◌, ℕ, zero, suc, Bool, true, false, cond, ltb, not, ◌==◌, ◌&&◌, ◌||◌, List, [], ◌∷◌, ◌++◌, length, map, slice_get, refl, sym, ◌∙◌, ap, subst, arith, Some, None, Option, pos}
use Rattle.std.specs.Prelude.{find, filter, drop}
use Rattle.std.specs.List.{range_with_len, remove}
use Rattle.std.proofs.Math.Seq.{drop-append_seam}
use Rattle.std.proofs.lemmas.Bool.{eqb-true}
use Rattle.std.proofs.lemmas.Bool.Decides.{nat_tests}
use Rattle.std.proofs.lemmas.List.{append-nil, append_assoc, length-append, map-append}
use Rattle.std.proofs.lemmas.List.Elements.{filter-append}
use Rattle.std.proofs.lemmas.List.Folds.{list_any-append}
use Rattle.pipe_model.specs.Event.Event.{Saw, SawEnd}
use Rattle.pipe_model.specs.Inputs.{records_from}
use Rattle.pipe_model.specs.Members.{has}
use Rattle.pipe_model.specs.Next.{hears, nothing_known}
use Rattle.pipe_model.specs.Row.{Pair, Act, Plan, Known, sees, without, without_all}
use Rattle.pipe_model.specs.Row.Act.{Takes}
use Rattle.pipe_model.specs.Shape.{Rounding, all_inputs, act_on, lacks, look, read_or_act, round_of, round_plan, writes, has_any, ends}
use Rattle.pipe_model.proofs.Numbers.{test_same}
use Rattle.pipe_model.proofs.Truths.{neither}
use Rattle.stage_steps.specs.Plans.{known_done, last_from}
use Rattle.fan_stages.specs.declared.round.Round.{Round}
use Rattle.fan_stages.specs.Round.{lasts, takes_by, takes_count, rounds, GivesTake, IsSettled, RoundIs}
use Rattle.fan_stages.proofs.Passes.{came_last, some_came, other_last, other_came}
use Rattle.fan_stages.proofs.Turns.{first_of_all, without_it, removes_seam}

-- Ascending lists

abbrev pub Ascends : ℕ → List ℕ → Type 0
Ascends s [] = Unit {0}
Ascends s (x ∷ xs) = (s ≤ x) × Ascends (suc x) xs

ascends_from : (xs : List ℕ) (s t : ℕ) → s ≤ t → Ascends t xs → Ascends s xs
ascends_from [] s t le up = tt
ascends_from (x ∷ xs) s t le up = let u = up.0 in (omega (arith, le, u), up.1)

ascends_range : (p : ℕ → Bool) (m s : ℕ) → Ascends s (filter p (range_with_len s m))
ascends_range p zero s = tt
ascends_range p (suc m) s = by (p s) (subst (λ n. Ascends n (filter p (range_with_len (s + 1) m))) (let e : s + 1 ≡ suc s = omega arith in e) (ascends_range p m (s + 1)))
  where
    by : (b : Bool) → Ascends (suc s) (filter p (range_with_len (s + 1) m)) → Ascends s (cond b (s ∷ filter p (range_with_len (s + 1) m)) (filter p (range_with_len (s + 1) m)))
    by true later = (omega arith, later)
    by false later = ascends_from (filter p (range_with_len (s + 1) m)) s (suc s) (omega arith) later

-- what is below isn't in it
below_it : (xs : List ℕ) (s i : ℕ) → i < s → Ascends s xs → has xs i ≡ false
below_it [] s i lt up = refl
below_it (x ∷ xs) s i lt up =
    let u = up.0 in
    let other : (x == i) ≡ false = grind (arith, nat_tests) in
    ap (λ b. b || has xs i) other ∙ below_it xs (suc x) i (omega (arith, lt, u)) up.1

-- a number of it stands nowhere else
pub once : (xs ys : List ℕ) (s i : ℕ) → Ascends s (xs ++ i ∷ ys) → (has xs i ≡ false) × (has ys i ≡ false)
once [] ys s i up = (refl, below_it ys (suc i) i (omega arith) up.1)
once (x ∷ xs) ys s i up =
    let r = once xs ys (suc x) i up.1 in
    let higher : x < i = by xs up.1 in
    let other : (x == i) ≡ false = grind (arith, nat_tests) in
    (ap (λ b. b || has xs i) other ∙ r.0, r.1)
  where
    by : (zs : List ℕ) → Ascends (suc x) (zs ++ i ∷ ys) → x < i
    by [] up = let u = up.0 in omega (arith, u)
    by (z ∷ zs) up = let u = up.0 in by zs (ascends_from (zs ++ i ∷ ys) (suc x) (suc z) (omega (arith, u)) up.1)

-- Truths

or_true : (b : Bool) → (b || true) ≡ true
or_true true = refl
or_true false = refl

or_false : (b : Bool) → (b || false) ≡ b
or_false true = refl
or_false false = refl

-- Filters

pub keeps_all : (p : ℕ → Bool) (xs : List ℕ) → ((i : ℕ) → p i ≡ true) → filter p xs ≡ xs
keeps_all p [] all = refl
keeps_all p (x ∷ xs) all = ap (λ b. cond b (x ∷ filter p xs) (filter p xs)) (all x) ∙ ap (λ l. x ∷ l) (keeps_all p xs all)

filter_both : (p q : ℕ → Bool) (xs : List ℕ) → filter (λ i. q i && p i) xs ≡ filter q (filter p xs)
filter_both p q [] = refl
filter_both p q (x ∷ xs) = by (p x) (q x) (filter_both p q xs) refl
  where
    by : (a b : Bool) → filter (λ i. q i && p i) xs ≡ filter q (filter p xs) → q x ≡ b → cond (b && a) (x ∷ filter (λ i. q i && p i) xs) (filter (λ i. q i && p i) xs) ≡ filter q (cond a (x ∷ filter p xs) (filter p xs))
    by true true later is = ap (λ l. x ∷ l) later ∙ ap (λ b. cond b (x ∷ filter q (filter p xs)) (filter q (filter p xs))) (sym is)
    by true false later is = later ∙ ap (λ b. cond b (x ∷ filter q (filter p xs)) (filter q (filter p xs))) (sym is)
    by false true later is = later
    by false false later is = later

-- two tests that agree on a list
filter_alike : (p q : ℕ → Bool) (xs : List ℕ) → ((i : ℕ) → has xs i ≡ true → p i ≡ q i) → filter p xs ≡ filter q xs
filter_alike p q [] same = refl
filter_alike p q (x ∷ xs) same =
    ap (λ b. cond b (x ∷ filter p xs) (filter p xs)) (same x (ap (λ b. b || has xs x) (test_same x)))
    ∙ ap (λ l. cond (q x) (x ∷ l) l) (filter_alike p q xs (λ i there. same i (ap (λ b. (x == i) || b) there ∙ or_true (x == i))))

never_kept : (p : ℕ → Bool) (ys : List ℕ) (i : ℕ) → p i ≡ false → has (filter p ys) i ≡ false
never_kept p [] i fails = refl
never_kept p (y ∷ ys) i fails = one (p y) refl (y == i) refl (never_kept p ys i fails)
  where
    one : (b : Bool) → p y ≡ b → (c : Bool) → (y == i) ≡ c → has (filter p ys) i ≡ false → has (cond b (y ∷ filter p ys) (filter p ys)) i ≡ false
    one true e true is later = (let same : y ≡ i = eqb-true y i is in let wrong : true ≡ false = sym e ∙ ap p same ∙ fails in cc)
    one true e false is later = ap (λ c. c || has (filter p ys) i) is ∙ later
    one false e c is later = later

-- what a filter kept passes
kept_passes : (p : ℕ → Bool) (xs : List ℕ) (i : ℕ) → has xs i ≡ true → has (filter p xs) i ≡ p i
kept_passes p [] i there = cc
kept_passes p (x ∷ xs) i there = by (p x) refl (x == i) refl there (kept_passes p xs i) (never_kept p xs i)
  where
    by : (b : Bool) → p x ≡ b → (c : Bool) → (x == i) ≡ c → (c || has xs i) ≡ true → (has xs i ≡ true → has (filter p xs) i ≡ p i) → (p i ≡ false → has (filter p xs) i ≡ false) → has (cond b (x ∷ filter p xs) (filter p xs)) i ≡ p i
    by true e true is there later none = ap (λ c. c || has (filter p xs) i) is ∙ sym e ∙ ap p (eqb-true x i is)
    by false e true is there later none = let fails : p i ≡ false = ap p (sym (eqb-true x i is)) ∙ e in none fails ∙ sym fails
    by true e false is there later none = ap (λ c. c || has (filter p xs) i) is ∙ later there
    by false e false is there later none = later there

-- Sight

pub sees_lasts : (seen : List Pair) (xs : List ℕ) (i : ℕ) → sees i (lasts seen xs) ≡ has xs i
sees_lasts seen [] i = refl
sees_lasts seen (x ∷ xs) i = ap (λ b. (x == i) || b) (sees_lasts seen xs i)

-- no record of an input is in sight, so none is taken from there
without_none : (i : ℕ) (ps : List Pair) → sees i ps ≡ false → without i ps ≡ ps
without_none i [] none = refl
without_none i (p ∷ ps) none =
    let r = neither (p.0 == i) (sees i ps) none in
    ap (λ b. cond b ps (p ∷ without i ps)) r.0 ∙ ap (λ l. p ∷ l) (without_none i ps r.1)

without_first : (seen : List Pair) (i : ℕ) (xs : List ℕ) → without i (lasts seen (i ∷ xs)) ≡ lasts seen xs
without_first seen i xs = ap (λ b. cond b (lasts seen xs) ((i, last_from seen i) ∷ without i (lasts seen xs))) (test_same i)

cleared : (seen : List Pair) (xs : List ℕ) → without_all xs (lasts seen xs) ≡ []
cleared seen [] = refl
cleared seen (x ∷ xs) = ap (without_all xs) (without_first seen x xs) ∙ cleared seen xs

-- a record of another input leaves their last ones
lasts_same : (seen : List Pair) (i : ℕ) (rec : List ℕ) (xs : List ℕ) → has xs i ≡ false → lasts (seen ++ (i, rec) ∷ []) xs ≡ lasts seen xs
lasts_same seen i rec [] none = refl
lasts_same seen i rec (x ∷ xs) none =
    let r = neither (x == i) (has xs i) none in
    let n = r.0 in
    let other : (i == x) ≡ false = grind (arith, nat_tests) in
    ap (λ l. (x, l) ∷ lasts (seen ++ (i, rec) ∷ []) xs) (other_last seen i x rec other) ∙ ap (λ l. (x, last_from seen x) ∷ l) (lasts_same seen i rec xs r.1)

-- Which is read next

unread : (xs ys : List ℕ) (s : ℕ) → Ascends s (xs ++ ys) → filter (λ i. not (has xs i)) (xs ++ ys) ≡ ys
unread [] ys s up = keeps_all (λ i. true) ys (λ i. refl)
unread (x ∷ xs) ys s up =
    ap (λ b. cond (not (b || has xs x)) (x ∷ filter (λ i. not (has (x ∷ xs) i)) (xs ++ ys)) (filter (λ i. not (has (x ∷ xs) i)) (xs ++ ys))) (test_same x)
    ∙ without_it (λ i. not (has xs i)) (λ i. not (has (x ∷ xs) i)) x (λ j other. ap (λ b. not (b || has xs j)) other) (xs ++ ys) (below_it (xs ++ ys) (suc x) x (omega arith) up.1)
    ∙ unread xs ys (suc x) up.1

abbrev pub still_open : List ℕ → ℕ → Bool
still_open ends i = not (has ends i)

-- what stands just behind a list
at_seam : (xs ys : List ℕ) → slice_get (xs ++ ys) (length xs) ≡ slice_get ys 0
at_seam [] ys = refl
at_seam (x ∷ xs) ys = at_seam xs ys

module _ (n : ℕ) (ends : List ℕ) (seen : List Pair) where
  lacked : (xs ys : List ℕ) → xs ++ ys ≡ filter (still_open ends) (all_inputs n) → find (lacks (lasts seen xs) ends) (all_inputs n) ≡ slice_get ys 0
  lacked xs ys all =
      let up : Ascends 0 (xs ++ ys) = subst (Ascends 0) (sym all) (ascends_range (still_open ends) n 0) in
      first_of_all (lacks (lasts seen xs) ends) (all_inputs n)
      ∙ ap (λ l. slice_get l 0) (filter_both (still_open ends) (λ i. not (sees i (lasts seen xs))) (all_inputs n)
      ∙ ap (filter (λ i. not (sees i (lasts seen xs)))) (sym all)
      ∙ filter_alike (λ i. not (sees i (lasts seen xs))) (λ i. not (has xs i)) (xs ++ ys) (λ i there. ap not (sees_lasts seen xs i))
      ∙ unread xs ys 0 up)

  and_true : (b : Bool) → (b && true) ≡ b
  and_true true = refl
  and_true false = refl

  all_taken : (opened : List ℕ) → opened ≡ filter (still_open ends) (all_inputs n) → filter (λ i. sees i (lasts seen opened) && true) (all_inputs n) ≡ opened
  all_taken opened all =
      filter_alike (λ i. sees i (lasts seen opened) && true) (still_open ends) (all_inputs n)
      (λ i there. and_true (sees i (lasts seen opened)) ∙ sees_lasts seen opened i ∙ ap (λ l. has l i) all ∙ kept_passes (still_open ends) (all_inputs n) i there)
      ∙ sym all

-- A plan that is just made

abbrev pub acts_by : Bool → List Act → List Act
acts_by true acts = acts
acts_by false acts = []

pub record Begun (n : ℕ) (plan : Plan) (acts : List Act) (opened : List ℕ) (place : ℕ) (taking : Bool) (k : Known) : Type 0 where
  pub round : RoundIs n opened place taking k
  pub acts_are : plan.acts ≡ acts_by taking acts ++ takes_by taking place opened
  pub goal_is : plan.goal ≡ look (slice_get opened (cond taking 0 place))

module _ (n : ℕ) (strict : Bool) (outs : Known → List Pair) (k : Known) (goes : (strict && has_any k.ends) ≡ false) where
  abbrev t : Rounding
  t = rounds strict outs

  plan_of : (found : Option ℕ) → find (lacks k.sight k.ends) (all_inputs n) ≡ found → round_plan n t k ≡ read_or_act n t k found
  plan_of found is = ap (λ b. cond b (ends (pos 0)) (read_or_act n t k (find (lacks k.sight k.ends) (all_inputs n)))) goes ∙ ap (read_or_act n t k) is

  abbrev Start : List ℕ → ℕ → Bool → Type 0
  Start opened place taking = Begun n (round_plan n t k) (writes (outs k)) opened place taking k

  begins_by : (opened behind ahead : List ℕ) (place : ℕ) → opened ≡ behind ++ ahead → place ≡ length behind → opened ≡ filter (still_open k.ends) (all_inputs n) → k.sight ≡ lasts k.seen behind →
      ((i : ℕ) → has behind i ≡ true → 0 < length (records_from i k.seen)) → Start opened (cond (ltb place (length opened)) place 0) (not (ltb place (length opened)) && has_any opened)
  begins_by opened behind (a ∷ ahead) place all_are place_is open_are sight_is came =
      let l : length (behind ++ a ∷ ahead) ≡ length behind + suc (length ahead) = length-append behind (a ∷ ahead) in
      let o : length opened ≡ length (behind ++ a ∷ ahead) = ap length all_are in
      let b : ltb place (length opened) ≡ true = grind (arith, nat_tests) in
      let plan = plan_of (Some a) (ap (λ s. find (lacks s k.ends) (all_inputs n)) sight_is ∙ lacked n k.ends k.seen behind (a ∷ ahead) (sym all_are ∙ open_are)) in
      subst (λ b. Start opened (cond b place 0) (not b && has_any opened)) (sym b) (record {
        round = record { behind = behind; ahead = a ∷ ahead; all_are = all_are; place_is = place_is; open_are = open_are; sight_is = sight_is; came = came; takes_some = λ e. cc };
        acts_are = ap (λ (p : Plan). p.acts) plan;
        goal_is = ap (λ (p : Plan). p.goal) plan ∙ ap look (sym (at_seam behind (a ∷ ahead)) ∙ ap (slice_get (behind ++ a ∷ ahead)) (sym place_is) ∙ ap (λ l. slice_get l place) (sym all_are));
      })
  begins_by opened [] [] place all_are place_is open_are sight_is came =
      let o : length opened ≡ 0 = ap length all_are in
      let b : ltb place (length opened) ≡ false = grind (arith, nat_tests) in
      let h : has_any opened ≡ false = ap has_any all_are in
      let plan = plan_of None (ap (λ s. find (lacks s k.ends) (all_inputs n)) sight_is ∙ lacked n k.ends k.seen [] [] (sym all_are ∙ open_are)) ∙ ap (round_of n t k) sight_is in
      subst (λ b. Start opened (cond b place 0) (not b && has_any opened)) (sym b) (subst (Start opened 0) (sym h) (record {
        round = record { behind = []; ahead = []; all_are = all_are; place_is = refl; open_are = open_are; sight_is = sight_is; came = came; takes_some = λ e. cc };
        acts_are = ap (λ (p : Plan). p.acts) plan;
        goal_is = ap (λ (p : Plan). p.goal) plan ∙ ap (λ l. look (slice_get l 0)) (sym all_are);
      }))
  begins_by opened (b ∷ behind) [] place all_are place_is open_are sight_is came =
      let same : b ∷ behind ≡ opened = sym (all_are ∙ append-nil (b ∷ behind)) in
      let o : length opened ≡ suc (length behind) = ap length (sym same) in
      let past : ltb place (length opened) ≡ false = grind (arith, nat_tests) in
      let h : has_any opened ≡ true = ap has_any (sym same) in
      let in_it : k.sight ≡ lasts k.seen opened = sight_is ∙ ap (lasts k.seen) same in
      let taken : filter (λ i. sees i k.sight && true) (all_inputs n) ≡ opened = ap (λ s. filter (λ i. sees i s && true) (all_inputs n)) in_it ∙ all_taken n k.ends k.seen opened open_are in
      let next : find (lacks (without_all opened k.sight) k.ends) (all_inputs n) ≡ slice_get opened 0 =
      ap (λ s. find (lacks s k.ends) (all_inputs n)) (ap (without_all opened) in_it ∙ cleared k.seen opened) ∙ lacked n k.ends k.seen [] opened open_are in
      let plan : round_plan n t k ≡ act_on n t k opened = plan_of None (ap (λ s. find (lacks s k.ends) (all_inputs n)) sight_is ∙ lacked n k.ends k.seen (b ∷ behind) [] (sym all_are ∙ open_are))
      ∙ ap (round_of n t k) sight_is ∙ ap (act_on n t k) taken in
      subst (λ b. Start opened (cond b place 0) (not b && has_any opened)) (sym past) (subst (Start opened 0) (sym h) (record {
        round = record { behind = []; ahead = opened; all_are = refl; place_is = refl; open_are = open_are; sight_is = in_it; came = λ i there. came i (ap (λ l. has l i) same ∙ there); takes_some = λ e. omega (arith, o) };
        acts_are = ap (λ (p : Plan). p.acts) plan;
        goal_is = ap (λ (p : Plan). p.goal) plan ∙ ap look next;
      }))

  -- with so many read
  pub begins : (opened : List ℕ) (place : ℕ) (x : Round) → RoundIs n opened place false k → IsSettled opened place x → Begun n (round_plan n t k) (writes (outs k)) x.open.items x.place x.taking k
  begins opened place x is settled =
      subst (λ o. Start o x.place x.taking) (sym settled.open_are)
      (subst (λ p. Start opened p x.taking) (sym settled.place_is)
      (subst (Start opened (cond (ltb place (length opened)) place 0)) (sym settled.takes)
      (begins_by opened is.behind is.ahead place is.all_are is.place_is is.open_are is.sight_is is.came)))

-- What a round hears and takes

place_of : (ahead : List ℕ) (i : ℕ) → slice_get ahead 0 ≡ Some i → (rest : List ℕ) × (ahead ≡ i ∷ rest)
place_of [] i is = cc
place_of (a ∷ ahead) i is = let it : a ≡ i = cc in (ahead, ap (λ j. j ∷ ahead) it)

ahead_of : (opened behind ahead : List ℕ) (place i : ℕ) → opened ≡ behind ++ ahead → place ≡ length behind → slice_get opened place ≡ Some i → (rest : List ℕ) × (ahead ≡ i ∷ rest)
ahead_of opened behind ahead place i all_are place_is is =
    place_of ahead i (sym (at_seam behind ahead) ∙ ap (slice_get (behind ++ ahead)) (sym place_is) ∙ ap (λ l. slice_get l place) (sym all_are) ∙ is)

not_it : (i : ℕ) (xs : List ℕ) → has xs i ≡ false → filter (λ j. not (i == j)) xs ≡ xs
not_it i xs none = without_it (λ j. true) (λ j. not (i == j)) i (λ j other. ap not other) xs none ∙ keeps_all (λ j. true) xs (λ j. refl)

not_or : (a b : Bool) → not (a || b) ≡ (not a && not b)
not_or true b = refl
not_or false b = refl

module _ (n : ℕ) (opened : List ℕ) (place i : ℕ) (k : Known) (here : slice_get opened place ≡ Some i) where
  pub round_saw : (rec : List ℕ) → RoundIs n opened place false k → RoundIs n opened (place + 1) false (hears k (Saw i rec))
  round_saw rec is =
      let cut = ahead_of opened is.behind is.ahead place i is.all_are is.place_is here in
      let rest = cut.0 in
      let all_are : opened ≡ is.behind ++ i ∷ rest = is.all_are ∙ ap (λ l. is.behind ++ l) cut.1 in
      let up : Ascends 0 (is.behind ++ i ∷ rest) = subst (Ascends 0) (sym is.open_are ∙ all_are) (ascends_range (still_open k.ends) n 0) in
      let none = (once is.behind rest 0 i up).0 in
      let seen' = k.seen ++ (i, rec) ∷ [] in
      let came : (j : ℕ) (b : Bool) → (i == j) ≡ b → (has is.behind j || ((i == j) || false)) ≡ true → 0 < length (records_from j seen') = λ j b. elim b as (λ b. (i == j) ≡ b → (has is.behind j || ((i == j) || false)) ≡ true → 0 < length (records_from j seen')) [
        | true ↦ λ same there. subst (λ m. 0 < length (records_from m seen')) (eqb-true i j same) (some_came k.seen i rec)
        | false ↦ λ other there. other_came k.seen i j rec other (is.came j (sym (or_false (has is.behind j)) ∙ ap (λ b. has is.behind j || (b || false)) (sym other) ∙ there))
      ] in
      record {
        behind = is.behind ++ i ∷ [];
        ahead = rest;
        all_are = all_are ∙ sym (append_assoc is.behind (i ∷ []) rest);
        place_is = let p = is.place_is in let l = length-append is.behind (i ∷ []) in omega (arith, p, l);
        open_are = is.open_are;
        sight_is = ap (λ s. s ++ (i, rec) ∷ []) (without_none i k.sight (ap (sees i) is.sight_is ∙ sees_lasts k.seen is.behind i ∙ none) ∙ is.sight_is ∙ sym (lasts_same k.seen i rec is.behind none))
            ∙ ap (λ r. lasts seen' is.behind ++ (i, r) ∷ []) (sym (came_last k.seen i rec))
            ∙ sym (map-append (λ j. (j, last_from seen' j)) is.behind (i ∷ []));
        came = λ j there. came j (i == j) refl (sym (list_any-append (λ y. y == j) is.behind (i ∷ [])) ∙ there);
        takes_some = λ e. cc;
      }

  pub round_end : RoundIs n opened place false k → RoundIs n (remove opened place) place false (hears k (SawEnd i))
  round_end is =
      let cut = ahead_of opened is.behind is.ahead place i is.all_are is.place_is here in
      let rest = cut.0 in
      let all_are : opened ≡ is.behind ++ i ∷ rest = is.all_are ∙ ap (λ l. is.behind ++ l) cut.1 in
      let up : Ascends 0 (is.behind ++ i ∷ rest) = subst (Ascends 0) (sym is.open_are ∙ all_are) (ascends_range (still_open k.ends) n 0) in
      let none = once is.behind rest 0 i up in
      let left : remove opened place ≡ is.behind ++ rest = ap (λ l. remove l place) all_are ∙ ap (remove (is.behind ++ i ∷ rest)) is.place_is ∙ removes_seam is.behind i rest in
      record {
        behind = is.behind;
        ahead = rest;
        all_are = left;
        place_is = is.place_is;
        open_are = sym (filter_alike (still_open (i ∷ k.ends)) (λ j. not (i == j) && still_open k.ends j) (all_inputs n) (λ j there. not_or (i == j) (has k.ends j))
            ∙ filter_both (still_open k.ends) (λ j. not (i == j)) (all_inputs n)
            ∙ ap (filter (λ j. not (i == j))) (sym is.open_are ∙ all_are)
            ∙ filter-append (λ j. not (i == j)) is.behind (i ∷ rest)
            ∙ ap (λ b. filter (λ j. not (i == j)) is.behind ++ cond (not b) (i ∷ filter (λ j. not (i == j)) rest) (filter (λ j. not (i == j)) rest)) (test_same i)
            ∙ ap (λ l. l ++ filter (λ j. not (i == j)) rest) (not_it i is.behind none.0)
            ∙ ap (λ l. is.behind ++ l) (not_it i rest none.1)
            ∙ sym left);
        sight_is = is.sight_is;
        came = is.came;
        takes_some = λ e. cc;
      }

  abbrev Taken : Bool → Type 0
  Taken last = RoundIs n opened (cond last 0 (place + 1)) (not last) (known_done (Takes i) k)

  round_took_by : (behind rest : List ℕ) → opened ≡ behind ++ i ∷ rest → place ≡ length behind → opened ≡ filter (still_open k.ends) (all_inputs n) → k.sight ≡ lasts k.seen (i ∷ rest) →
      ((j : ℕ) → has (i ∷ rest) j ≡ true → 0 < length (records_from j k.seen)) → Taken (place + 1 == length opened)
  round_took_by behind [] all_are place_is open_are sight_is came =
      let l : length (behind ++ i ∷ []) ≡ length behind + 1 = length-append behind (i ∷ []) in
      let o : length opened ≡ length (behind ++ i ∷ []) = ap length all_are in
      let b : (place + 1 == length opened) ≡ true = grind (arith, nat_tests) in
      subst Taken (sym b) (record {
        behind = [];
        ahead = opened;
        all_are = refl;
        place_is = refl;
        open_are = open_are;
        sight_is = ap (without i) sight_is ∙ without_first k.seen i [];
        came = λ j there. cc;
        takes_some = λ e. cc;
      })
  round_took_by behind (r ∷ rest) all_are place_is open_are sight_is came =
      let l : length (behind ++ i ∷ r ∷ rest) ≡ length behind + suc (suc (length rest)) = length-append behind (i ∷ r ∷ rest) in
      let o : length opened ≡ length (behind ++ i ∷ r ∷ rest) = ap length all_are in
      let b : (place + 1 == length opened) ≡ false = grind (arith, nat_tests) in
      subst Taken (sym b) (record {
        behind = behind ++ i ∷ [];
        ahead = r ∷ rest;
        all_are = all_are ∙ sym (append_assoc behind (i ∷ []) (r ∷ rest));
        place_is = let m = length-append behind (i ∷ []) in omega (arith, place_is, m);
        open_are = open_are;
        sight_is = ap (without i) sight_is ∙ without_first k.seen i (r ∷ rest);
        came = λ j there. came j (ap (λ b. (i == j) || b) there ∙ or_true (i == j));
        takes_some = λ e. omega (arith, o, l, place_is);
      })

  pub round_took : RoundIs n opened place true k → Taken (place + 1 == length opened)
  round_took is =
      let cut = ahead_of opened is.behind is.ahead place i is.all_are is.place_is here in
      round_took_by is.behind cut.0 (is.all_are ∙ ap (λ l. is.behind ++ l) cut.1) is.place_is is.open_are (is.sight_is ∙ ap (lasts k.seen) cut.1)
      (λ j there. is.came j (ap (λ l. has l j) cut.1 ∙ there))

  -- the takes that are left then
  pub takes_more : takes_by true place opened ≡ Takes i ∷ takes_by (not (place + 1 == length opened)) (cond (place + 1 == length opened) 0 (place + 1)) opened
  takes_more = more opened place here
    where
      more : (xs : List ℕ) (p : ℕ) → slice_get xs p ≡ Some i → takes_by true p xs ≡ Takes i ∷ takes_by (not (p + 1 == length xs)) (cond (p + 1 == length xs) 0 (p + 1)) xs
      more [] p is = cc
      more (x ∷ []) zero is = let it : x ≡ i = cc in ap (λ j. Takes j ∷ []) it
      more (x ∷ []) (suc p) is = cc
      more (x ∷ y ∷ xs) zero is =
          let it : x ≡ i = cc in
          let b : (0 + 1 == length (x ∷ y ∷ xs)) ≡ false = grind (arith, nat_tests) in
          ap (λ j. Takes j ∷ map Takes (y ∷ xs)) it ∙ ap (λ b. Takes i ∷ takes_by (not b) (cond b 0 (0 + 1)) (x ∷ y ∷ xs)) (sym b)
      more (x ∷ y ∷ xs) (suc p) is = more (y ∷ xs) p is ∙ ap (λ l. Takes i ∷ l) (same (p + 1 == length (y ∷ xs)) refl)
        where
          same : (b : Bool) → (p + 1 == length (y ∷ xs)) ≡ b → takes_by (not b) (cond b 0 (p + 1)) (y ∷ xs) ≡ takes_by (not (suc p + 1 == length (x ∷ y ∷ xs))) (cond (suc p + 1 == length (x ∷ y ∷ xs)) 0 (suc p + 1)) (x ∷ y ∷ xs)
          same true is =
              let b : (suc p + 1 == length (x ∷ y ∷ xs)) ≡ true = grind (arith, nat_tests) in
              ap (λ b. takes_by (not b) (cond b 0 (suc p + 1)) (x ∷ y ∷ xs)) (sym b)
          same false is =
              let b : (suc p + 1 == length (x ∷ y ∷ xs)) ≡ false = grind (arith, nat_tests) in
              let next : suc p + 1 ≡ suc (p + 1) = omega arith in
              ap (λ q. map Takes (drop q (x ∷ y ∷ xs))) (sym next) ∙ ap (λ b. takes_by (not b) (cond b 0 (suc p + 1)) (x ∷ y ∷ xs)) (sym b)

-- where nothing is left to do it reads
pub not_taking : (n : ℕ) (opened : List ℕ) (place : ℕ) (taking : Bool) (k : Known) (acts : List Act) → RoundIs n opened place taking k → acts ++ takes_by taking place opened ≡ [] → taking ≡ false
not_taking n opened place false k acts is none = refl
not_taking n opened place true k acts is none =
    let ahead : drop place opened ≡ is.ahead = ap (drop place) is.all_are ∙ ap (λ p. drop p (is.behind ++ is.ahead)) is.place_is ∙ drop-append_seam is.behind is.ahead in
    absurd (by is.ahead acts (length-append is.behind is.ahead) (ap length is.all_are) (sym (ap (λ l. acts ++ map Takes l) ahead) ∙ none))
  where
    by : (ahead : List ℕ) (acts : List Act) → length (is.behind ++ ahead) ≡ length is.behind + length ahead → length opened ≡ length (is.behind ++ ahead) → acts ++ map Takes ahead ≡ [] → ⊥
    by [] acts l o none = let p = is.place_is in let some = is.takes_some refl in omega (arith, l, o, p, some)
    by (a ∷ ahead) [] l o none = cc
    by (a ∷ ahead) (act ∷ acts) l o none = cc

-- before the first round
pub round_first : (n : ℕ) → RoundIs n (all_inputs n) 0 false nothing_known
round_first n = record {
  behind = [];
  ahead = all_inputs n;
  all_are = refl;
  place_is = refl;
  open_are = sym (keeps_all (still_open []) (all_inputs n) (λ i. refl));
  sight_is = refl;
  came = λ i e. cc;
  takes_some = λ e. cc;
}

-- where none was taken all are in sight
pub all_ahead : (n : ℕ) (opened : List ℕ) (place : ℕ) (k : Known) → RoundIs n opened place true k → place ≡ 0 → (k.sight ≡ lasts k.seen opened) × ((i : ℕ) → has opened i ≡ true → 0 < length (records_from i k.seen))
all_ahead n opened place k is start = by is.behind is.all_are (sym is.place_is ∙ start)
  where
    by : (behind : List ℕ) → opened ≡ behind ++ is.ahead → length behind ≡ 0 → (k.sight ≡ lasts k.seen opened) × ((i : ℕ) → has opened i ≡ true → 0 < length (records_from i k.seen))
    by [] same none = (is.sight_is ∙ ap (lasts k.seen) (sym same), λ i there. is.came i (ap (λ l. has l i) (sym same) ∙ there))
    by (b ∷ behind) same none = absurd (omega (arith, none))

-- it begins to take with the first
pub takes_first : (opened : List ℕ) (place : ℕ) (x : Round) → IsSettled opened place x → x.taking ≡ true → x.place ≡ 0
takes_first opened place x is takes = by (ltb place (length opened)) is.place_is (sym is.takes ∙ takes)
  where
    by : (b : Bool) → x.place ≡ cond b place 0 → (not b && has_any opened) ≡ true → x.place ≡ 0
    by true at e = cc
    by false at e = at

-- what stands at a place

pub within_it : {A : Type 0} (xs : List A) (p : ℕ) (x : A) → slice_get xs p ≡ Some x → p < length xs
within_it [] p x is = cc
within_it (y ∷ xs) zero x is = omega arith
within_it (y ∷ xs) (suc p) x is = let r = within_it xs p x is in omega (arith, r)

pub has_at : (xs : List ℕ) (p i : ℕ) → slice_get xs p ≡ Some i → has xs i ≡ true
has_at [] p i is = cc
has_at (x ∷ xs) zero i is = let it : x ≡ i = cc in ap (λ b. b || has xs i) (ap (λ j. j == i) it ∙ test_same i)
has_at (x ∷ xs) (suc p) i is = ap (λ b. (x == i) || b) (has_at xs p i is) ∙ or_true (x == i)

pub drop_at : (xs : List ℕ) (p i : ℕ) → slice_get xs p ≡ Some i → drop p xs ≡ i ∷ drop (suc p) xs
drop_at [] p i is = cc
drop_at (x ∷ xs) zero i is = let it : x ≡ i = cc in ap (λ j. j ∷ xs) it
drop_at (x ∷ xs) (suc p) i is = drop_at xs p i is

-- a record of the input that is read isn't in sight
pub not_in_sight : (n : ℕ) (opened : List ℕ) (place i : ℕ) (k : Known) → slice_get opened place ≡ Some i → RoundIs n opened place false k → without i k.sight ≡ k.sight
not_in_sight n opened place i k here is =
    let cut = ahead_of opened is.behind is.ahead place i is.all_are is.place_is here in
    let all_are : opened ≡ is.behind ++ i ∷ cut.0 = is.all_are ∙ ap (λ l. is.behind ++ l) cut.1 in
    let up : Ascends 0 (is.behind ++ i ∷ cut.0) = subst (Ascends 0) (sym is.open_are ∙ all_are) (ascends_range (still_open k.ends) n 0) in
    without_none i k.sight (ap (sees i) is.sight_is ∙ sees_lasts k.seen is.behind i ∙ (once is.behind cut.0 0 i up).0)

-- before a round nothing is in sight
pub nothing_in_sight : (n : ℕ) (opened : List ℕ) (place : ℕ) (k : Known) → RoundIs n opened place false k → place ≡ 0 → k.sight ≡ []
nothing_in_sight n opened place k is start = by is.behind is.sight_is (sym is.place_is ∙ start)
  where
    by : (behind : List ℕ) → k.sight ≡ lasts k.seen behind → length behind ≡ 0 → k.sight ≡ []
    by [] same none = same
    by (b ∷ behind) same none = absurd (omega (arith, none))

-- it begins to read
pub reads_first : (opened : List ℕ) (x : Round) → IsSettled opened 0 x → x.taking ≡ false
reads_first [] x settled = settled.takes
reads_first (o ∷ opened) x settled = settled.takes ∙ (let b : ltb 0 (length (o ∷ opened)) ≡ true = grind (arith, nat_tests) in ap (λ b. not b && true) b)

-- fewer takes are left
pub takes_fall : (x r : Round) (i : ℕ) → GivesTake x r (Some i) → takes_count r < takes_count x
takes_fall x r i gives =
    let low = within_it x.open.items x.place i gives.1 in
    let last = x.place + 1 == length x.open.items in
    subst (λ b. takes_count r < cond b (length x.open.items - x.place) 0) (sym gives.0)
    (subst (λ (o : List ℕ). cond r.taking (length o - r.place) 0 < length x.open.items - x.place) (sym gives.2)
    (subst (λ p. cond r.taking (length x.open.items - p) 0 < length x.open.items - x.place) (sym gives.3)
    (subst (λ t. cond t (length x.open.items - cond last 0 (x.place + 1)) 0 < length x.open.items - x.place) (sym gives.4) (by last low))))
  where
    by : (b : Bool) → x.place < length x.open.items → cond (not b) (length x.open.items - cond b 0 (x.place + 1)) 0 < length x.open.items - x.place
    by true low = omega (arith, low)
    by false low = omega (arith, low)
