-- Boards that are founded, and their passes, which are dealt to the workers.
use Rattle.std.proofs.Common.{◌≡◌, ℕ, suc, ◌+◌, ◌*◌, ◌-◌, ◌<◌, ◌≤◌, All, List, [], ◌∷◌, ◌++◌, length, get_or, set, take, sum_by, vec_capacity, vec_len, refl, sym, ◌∙◌, ap, subst, ◌⊎◌, inl, inr, arith}
use Rattle.std.proofs.lemmas.Bool.{cases_eq, cases_lt}
use Rattle.std.proofs.lemmas.List.{get_or_default, get_or-set_same, get_or-set_other, length-set, length_push, get_or_at, get_or_append_left, get_or-take, length-take-le, take_all, take_at, take-take, take_more_set}
use Rattle.std.proofs.lemmas.List.Sums.{sum_by_push, sum_by-cons}
use Rattle.core_machine.specs.Machine.{Machine}
use Rattle.board.specs.Counts.{all_tries}
use Rattle.board.specs.Names.{view, board_of, board_id}
use Rattle.board.specs.Plays.{founder, given_part, kept_part}
use Rattle.board.specs.declared.board.Board.{Board}
use Rattle.board.specs.declared.pass.Pass.{Pass}
use Rattle.board.specs.declared.view.View.{View}
use Rattle.workers.specs.Hands.{IsWorker, worker_tries}
use Rattle.workers.specs.Work.{IsSettled}
use Rattle.workers.proofs.Dealing.{left_works, right_works, works_self}
use Rattle.many_sets.specs.declared.hands.Hand.{Hand}
use Rattle.many_sets.specs.Hands.{AreDealt, IsFounded, WasGiven, WereGiven, last_pass, last_shares, pass_at}

pub last_of : (xs : List Pass) (p d : Pass) → get_or (xs ++ p ∷ []) (length (xs ++ p ∷ []) - 1) d ≡ p
last_of xs p d = let e = length_push xs p in get_or_at xs p [] d (length (xs ++ p ∷ []) - 1) (omega arith)

-- two sums are equal where each summand is
pub same_sum : (f g : Hand → ℕ) (xs ys : List Hand) → length ys ≡ length xs → ((i : ℕ) (d : Hand) → i < length xs → g (get_or ys i d) ≡ f (get_or xs i d)) → sum_by g ys ≡ sum_by f xs
same_sum f g [] [] len each = refl
same_sum f g [] (y ∷ ys) len each = absurd (omega arith)
same_sum f g (x ∷ xs) [] len each = absurd (omega arith)
same_sum f g (x ∷ xs) (y ∷ ys) len each =
    let first = each 0 x (omega arith) in
    let more = same_sum f g xs ys (omega arith) (λ i d below. each (suc i) d (omega arith)) in
    let a = sum_by-cons f x xs in let b = sum_by-cons g y ys in omega arith

-- One board

module _ {S : Type 0} (b : Board S) (v : View) where
  -- the workers below a place were given their passes
  pub record Dealing (at : ℕ) (old now : List Hand) (rest : Pass) : Type 0 where
    pub len : length now ≡ length old
    pub each : (i : ℕ) (d : Hand) → i < at → WasGiven b v (get_or old i d) (get_or now i d)
    pub same : (i : ℕ) (d : Hand) → at ≤ i → get_or now i d ≡ get_or old i d
    pub works : IsWorker (board_id b) v rest
    pub few : (view rest).shares + at ≡ v.shares
    pub tries : v.tries ≤ (view rest).tries + at * worker_tries
    pub sum : (d : Pass) → last_shares d (take at now) + (view rest).shares ≡ v.shares

  pub deals_none : (old : List Hand) (rest : Pass) → board_of rest ≡ board_id b → 0 < v.tries → IsSettled v → view rest ≡ v → Dealing 0 old old rest
  deals_none old rest board some settled is =
      let shares = ap (λ (x : View). x.shares) is in let tries = ap (λ (x : View). x.tries) is in
      record {
        len = refl;
        each = λ i d below. absurd (omega arith);
        same = λ i d above. refl;
        works = works_self (board_id b) v rest board (omega arith) (subst IsSettled (sym is) settled) is;
        few = omega arith;
        tries = omega arith;
        sum = λ d. omega arith;
      }

  -- one more was given the pass, which is a part of what was left
  module _ (at : ℕ) (old now : List Hand) (rest given : Pass) (r k : Hand) (t : Dealing at old now rest) (here : at < length old)
      (works : IsWorker (board_id b) v given) (tries : worker_tries ≤ (view given).tries) (passes : k.passes.items ≡ (get_or now at r).passes.items ++ given ∷ []) (capacity : vec_capacity k.passes ≡ vec_capacity (get_or now at r).passes) where
    was_given : (d : Hand) → WasGiven b v (get_or old at d) k
    was_given d =
        let len = t.len in
        let from : get_or now at r ≡ get_or old at d = get_or_default now at r d (omega arith) ∙ t.same at d (omega arith) in
        subst (λ (x : Hand). WasGiven b v x k) from (record { given = given; passes = passes; works = works; tries = tries; capacity = capacity })

    each_more : (i : ℕ) (d : Hand) → i < at + 1 → WasGiven b v (get_or old i d) (get_or (set now at k) i d)
    each_more i d below = by (cases_eq i at)
      where
        by : (i ≡ at) ⊎ (i ≡ at → ⊥) → WasGiven b v (get_or old i d) (get_or (set now at k) i d)
        by (inl e) = subst (λ (j : ℕ). WasGiven b v (get_or old j d) (get_or (set now at k) j d)) (sym e)
            (let len = t.len in subst (WasGiven b v (get_or old at d)) (sym (get_or-set_same now at k d (omega arith))) (was_given d))
        by (inr other) = subst (WasGiven b v (get_or old i d)) (sym (get_or-set_other now at i k d other)) (t.each i d (omega arith))

    same_more : (i : ℕ) (d : Hand) → at + 1 ≤ i → get_or (set now at k) i d ≡ get_or old i d
    same_more i d above = get_or-set_other now at i k d (λ e. absurd (omega arith)) ∙ t.same i d (omega arith)

    sum_more : (d : Pass) → last_shares d (take (at + 1) (set now at k)) ≡ last_shares d (take at now) + (view given).shares
    sum_more d =
        let len = t.len in
        let last : last_pass d k ≡ given = ap (λ (l : List Pass). get_or l (length l - 1) d) passes ∙ last_of (get_or now at r).passes.items given d in
        ap (last_shares d) (take_more_set now at k (omega arith)) ∙ sum_by_push (λ (x : Hand). (view (last_pass d x)).shares) (take at now) k
        ∙ ap (λ (p : Pass). last_shares d (take at now) + (view p).shares) last

  pub deals_on : (at : ℕ) (old now : List Hand) (rest left right : Pass) (r k : Hand) → Dealing at old now rest → at + 1 < length old → length old ≤ 64 → all_tries ≤ v.tries → 64 ≤ v.shares
      → board_of left ≡ board_of rest → board_of right ≡ board_of rest → view left ≡ kept_part worker_tries (view rest) → view right ≡ given_part worker_tries (view rest)
      → k.passes.items ≡ (get_or now at r).passes.items ++ right ∷ [] → vec_capacity k.passes ≡ vec_capacity (get_or now at r).passes → Dealing (at + 1) old (set now at k) left
  deals_on at old now rest left right r k t here few all many board_left board_right kept given passes capacity =
      let shares_left = ap (λ (x : View). x.shares) kept in let tries_now = ap (λ (x : View). x.tries) kept in
      let one = ap (λ (x : View). x.shares) given in let tries_given = ap (λ (x : View). x.tries) given in
      let shares = t.few in let tries_left = t.tries in
      let works = right_works (board_id b) v worker_tries rest right t.works board_right given (omega arith) in
      record {
        len = length-set now at k ∙ t.len;
        each = each_more at old now rest right r k t (omega arith) works (omega arith) passes capacity;
        same = same_more at old now rest right r k t (omega arith) works (omega arith) passes capacity;
        works = left_works (board_id b) v worker_tries rest left t.works board_left kept (omega arith);
        few = omega arith;
        tries = omega arith;
        sum = λ d. let before = t.sum d in let more = sum_more at old now rest right r k t (omega arith) works (omega arith) passes capacity d in omega arith;
      }

  pub deals_last : (at : ℕ) (old now : List Hand) (rest : Pass) (r k : Hand) → Dealing at old now rest → at + 1 ≡ length old → length old ≤ 64 → all_tries ≤ v.tries
      → k.passes.items ≡ (get_or now at r).passes.items ++ rest ∷ [] → vec_capacity k.passes ≡ vec_capacity (get_or now at r).passes → WereGiven b v old (set now at k)
  deals_last at old now rest r k t here few all passes capacity =
      let tries_left = t.tries in let len = t.len in
      record {
        len = length-set now at k ∙ t.len;
        each = λ i d below. each_more at old now rest rest r k t (omega arith) t.works (omega arith) passes capacity i d (omega arith);
        shares = λ d.
            let before = t.sum d in let more = sum_more at old now rest rest r k t (omega arith) t.works (omega arith) passes capacity d in
            let same = length-set now at k in
            let whole = ap (last_shares d) (take_all (at + 1) (set now at k) (omega arith)) in omega arith;
      }

-- All boards

-- the core that was the last of the first ones
module _ (all cores less : List Machine) (core : Machine) (n : ℕ) (first : cores ≡ take n all) (few : n ≤ length all) (popped : cores ≡ less ++ core ∷ []) where
  count_is : n ≡ length less + 1
  count_is = sym (length-take-le n all few) ∙ ap length (sym first ∙ popped) ∙ length_push less core

  pub core_is : (e : Machine) → core ≡ get_or all (length less) e
  core_is e = sym (get_or_at less core [] e (length less) refl) ∙ ap (λ (l : List Machine). get_or l (length less) e) (sym popped ∙ first)
      ∙ get_or-take n all (length less) e (let c = count_is in omega arith)

  pub rest_is : less ≡ take (length less) all
  rest_is = sym (take_at less (core ∷ []) (length less) refl) ∙ ap (take (length less)) (sym popped ∙ first) ∙ take-take (length less) n all (let c = count_is in omega arith)

  pub core_within : length less < length all
  core_within = let c = count_is in omega arith

  -- what each is, it is
  pub core_so : (P : Machine → Type 0) → All P all → P core
  core_so P each = subst P (sym (core_is core)) (each (length less) core core_within)

module _ {S : Type 0} (cores : List Machine) where
  pub founds_none : (boards : List (Board S)) (hands : List Hand) → boards ≡ [] → All (λ (h : Hand). h.passes.items ≡ []) hands → IsFounded cores boards hands
  founds_none boards hands none each = let e = ap length none in record {
    few = omega arith;
    long = λ i d below. let empty = ap length (each i d below) in omega arith;
    dealt = λ j b m d below. absurd (omega arith);
  }

  -- what is known of the boards before stays
  kept_dealt : (b : Board S) (m : Machine) (v : View) (next : Board S) (n : ℕ) (old new : List Hand) (j : ℕ) (d : Pass) → WereGiven next v old new → All (λ (h : Hand). length h.passes.items ≡ n) old → j < n
      → AreDealt b m j d old → AreDealt b m j d new
  kept_dealt b m v next n old new j d given long below t = record {
    works = λ i h here. let len = given.len in let there : i < length old = omega arith in
        subst (IsWorker (board_id b) (founder m)) (sym (same i h there)) (t.works i h there);
    shares = same_sum (λ (h : Hand). (view (pass_at j d h)).shares) (λ (h : Hand). (view (pass_at j d h)).shares) old new given.len (λ i h here. ap (λ (p : Pass). (view p).shares) (same i h here)) ∙ t.shares;
  }
    where
      same : (i : ℕ) (h : Hand) → i < length old → pass_at j d (get_or new i h) ≡ pass_at j d (get_or old i h)
      same i h here =
          let g = given.each i h here in let e = long i h here in
          ap (λ (l : List Pass). get_or l j d) g.passes ∙ get_or_append_left (get_or old i h).passes.items (g.given ∷ []) d j (omega arith)

  new_dealt : (b : Board S) (m : Machine) (n : ℕ) (old new : List Hand) (d : Pass) → WereGiven b (founder m) old new → All (λ (h : Hand). length h.passes.items ≡ n) old → AreDealt b m n d new
  new_dealt b m n old new d given long = record {
    works = λ i h here. let len = given.len in let there : i < length old = omega arith in
        subst (IsWorker (board_id b) (founder m)) (sym (taken i h there)) (given.each i h there).works;
    shares = same_sum (λ (h : Hand). (view (last_pass d h)).shares) (λ (h : Hand). (view (pass_at n d h)).shares) new new refl
        (λ i h here. let len = given.len in ap (λ (p : Pass). (view p).shares) (at_last i h (omega arith))) ∙ given.shares d;
  }
    where
      grown : (i : ℕ) (h : Hand) → i < length old → length (get_or new i h).passes.items ≡ n + 1
      grown i h here = let g = given.each i h here in let e = long i h here in let a = ap length g.passes in let p = length_push (get_or old i h).passes.items g.given in omega arith

      at_last : (i : ℕ) (h : Hand) → i < length old → pass_at n d (get_or new i h) ≡ last_pass d (get_or new i h)
      at_last i h here = ap (λ (j : ℕ). pass_at j d (get_or new i h)) (let e = grown i h here in omega arith)

      taken : (i : ℕ) (h : Hand) (here : i < length old) → pass_at n d (get_or new i h) ≡ (given.each i h here).given
      taken i h here = let g = given.each i h here in at_last i h here ∙ ap (λ (l : List Pass). get_or l (length l - 1) d) g.passes ∙ last_of (get_or old i h).passes.items g.given d

  pub founds_on : (boards : List (Board S)) (old new : List Hand) (b : Board S) (m : Machine) → IsFounded cores boards old → length boards < length cores
      → ((e : Machine) → m ≡ get_or cores (length cores - (length boards + 1)) e) → WereGiven b (founder m) old new → IsFounded cores (boards ++ b ∷ []) new
  founds_on boards old new b m t more from given = let len = length_push boards b in record {
    few = omega arith;
    long = λ i h here.
        let same = given.len in let there : i < length old = omega arith in
        let g = given.each i h there in let e = t.long i h there in let a = ap length g.passes in let p = length_push (get_or old i h).passes.items g.given in omega arith;
    dealt = λ j c e d below. by j c e d (omega arith) (cases_lt j (length boards));
  }
    where
      by : (j : ℕ) (c : Board S) (e : Machine) (d : Pass) → j < length boards + 1 → (j < length boards) ⊎ (length boards ≤ j)
          → AreDealt (get_or (boards ++ b ∷ []) j c) (get_or cores (length cores - (j + 1)) e) j d new
      by j c e d below (inl before) = subst (λ (x : Board S). AreDealt x (get_or cores (length cores - (j + 1)) e) j d new) (sym (get_or_append_left boards (b ∷ []) c j before))
          (kept_dealt (get_or boards j c) (get_or cores (length cores - (j + 1)) e) (founder m) b (length boards) old new j d given t.long before (t.dealt j c e d before))
      by j c e d below (inr after) =
          let last : length boards ≡ j = omega arith in
          subst (λ (k : ℕ). AreDealt (get_or (boards ++ b ∷ []) k c) (get_or cores (length cores - (k + 1)) e) k d new) last
          (subst (λ (x : Board S). AreDealt x (get_or cores (length cores - (length boards + 1)) e) (length boards) d new) (sym (get_or_at boards b [] c (length boards) refl))
          (subst (λ (x : Machine). AreDealt b x (length boards) d new) (from e) (new_dealt b m (length boards) old new d given t.long)))

  -- where there is space for a pass of each board, there is space for one more
  pub space_left : (boards : List (Board S)) (hands : List Hand) → IsFounded cores boards hands → length boards < length cores → All (λ (h : Hand). length cores ≤ vec_capacity h.passes) hands
      → All (λ (h : Hand). vec_len h.passes < vec_capacity h.passes) hands
  space_left boards hands t more rooms i h here =
      let room = rooms i h here in let long = t.long i h here in let len = (get_or hands i h).passes.ok.0 in omega arith

  pub same_space : (b : Board S) (v : View) (n : ℕ) (old new : List Hand) → WereGiven b v old new → All (λ (h : Hand). n ≤ vec_capacity h.passes) old → All (λ (h : Hand). n ≤ vec_capacity h.passes) new
  same_space b v n old new given rooms i h here =
      let len = given.len in let there : i < length old = omega arith in
      let room = rooms i h there in let same = (given.each i h there).capacity in omega arith
