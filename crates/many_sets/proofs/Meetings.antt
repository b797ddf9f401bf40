-- Passes that meet after the work, and boards that are closed.
use Rattle.std.proofs.Common.{◌≡◌, ℕ, ◌+◌, ◌-◌, ◌<◌, ◌≤◌, All, List, [], ◌∷◌, ◌++◌, length, get_or, set, take, refl, sym, ◌∙◌, ap, subst, ◌⊎◌, inl, inr, arith}
use Rattle.std.specs.List.{AllZip}
use Rattle.std.proofs.lemmas.Bool.{cases_eq}
use Rattle.std.proofs.lemmas.List.{get_or_default, get_or-set_same, get_or-set_other, get_or-take, get_or_at, get_or_append_left, length-set, length-take-le, length_push, take_at}
use Rattle.std.proofs.lemmas.List.Sums.{sum_by_more}
use mathlib.Core.List.{IsPrefix}
use Rattle.core_machine.specs.Machine.{Machine}
use Rattle.board.specs.Calls.{Ends}
use Rattle.board.specs.Names.{view, board_of, board_id}
use Rattle.board.specs.Plays.{both, founder, blank}
use Rattle.board.specs.Rule.{machine_of}
use Rattle.board.specs.declared.board.Board.{Board}
use Rattle.board.specs.declared.pass.Pass.{Pass}
use Rattle.board.specs.declared.view.View.{View}
use Rattle.board.proofs.Prefixes.{prefix_trans}
use Rattle.workers.specs.Driven.{LeftByWorkers}
use Rattle.workers.specs.Hands.{IsWorker, LeftTo}
use Rattle.workers.proofs.Dealing.{both_works}
use Rattle.workers.proofs.Together.{left_at_end}
use Rattle.many_sets.specs.declared.hands.Hand.{Hand}
use Rattle.many_sets.specs.Hands.{AreDealt, AreLeftTo, IsFounded, MayWorkOn, last_pass, last_shares, pass_at}
use Rattle.many_sets.proofs.Dealt.{last_of, same_sum}
use Rattle.many_sets.proofs.Zips.{zip_more}

-- the worker's passes without the last
abbrev pub without_last : Hand → List Pass
without_last h = take (length h.passes.items - 1) h.passes.items

-- One board

module _ {S : Type 0} (b : Board S) where
  -- the last passes of the workers below a place have met
  pub record Meeting (at : ℕ) (old now : List Hand) (all : Pass) : Type 0 where
    pub len : length now ≡ length old
    pub left : (i : ℕ) (d : Hand) → i < at → (get_or now i d).passes.items ≡ without_last (get_or old i d)
    pub same : (i : ℕ) (d : Hand) → at ≤ i → get_or now i d ≡ get_or old i d
    pub board : board_of all ≡ board_id b
    pub workers : (v : View) → ((d : Pass) → All (λ (h : Hand). IsWorker (board_id b) v (last_pass d h)) old) → IsWorker (board_id b) v all
    pub sum : (d : Pass) → (view all).shares ≡ last_shares d (take at old)

  -- the last pass of the worker at this place was taken
  module _ (at : ℕ) (old now : List Hand) (r k : Hand) (p : Pass) (len : length now ≡ length old) (same : (i : ℕ) (d : Hand) → at ≤ i → get_or now i d ≡ get_or old i d)
      (here : at < length old) (popped : (get_or now at r).passes.items ≡ k.passes.items ++ p ∷ []) where
    from : (d : Hand) → get_or now at r ≡ get_or old at d
    from d = get_or_default now at r d (omega arith) ∙ same at d (omega arith)

    pub last_is : (d : Pass) (e : Hand) → last_pass d (get_or old at e) ≡ p
    last_is d e = ap (last_pass d) (sym (from e)) ∙ ap (λ (l : List Pass). get_or l (length l - 1) d) popped ∙ last_of k.passes.items p d

    rest_is : k.passes.items ≡ without_last (get_or now at r)
    rest_is = sym (ap (λ (l : List Pass). take (length l - 1) l) popped ∙ (let e = length_push k.passes.items p in take_at k.passes.items (p ∷ []) (length (k.passes.items ++ p ∷ []) - 1) (omega arith)))

    left_on : ((i : ℕ) (d : Hand) → i < at → (get_or now i d).passes.items ≡ without_last (get_or old i d)) → (i : ℕ) (d : Hand) → i < at + 1 → (get_or (set now at k) i d).passes.items ≡ without_last (get_or old i d)
    left_on left i d below = by (cases_eq i at)
      where
        by : (i ≡ at) ⊎ (i ≡ at → ⊥) → (get_or (set now at k) i d).passes.items ≡ without_last (get_or old i d)
        by (inl e) = subst (λ (j : ℕ). (get_or (set now at k) j d).passes.items ≡ without_last (get_or old j d)) (sym e)
            (ap (λ (x : Hand). x.passes.items) (get_or-set_same now at k d (omega arith)) ∙ rest_is ∙ ap without_last (from d))
        by (inr other) = ap (λ (x : Hand). x.passes.items) (get_or-set_other now at i k d other) ∙ left i d (omega arith)

    same_on : (i : ℕ) (d : Hand) → at + 1 ≤ i → get_or (set now at k) i d ≡ get_or old i d
    same_on i d above = get_or-set_other now at i k d (λ e. absurd (omega arith)) ∙ same i d (omega arith)

    sum_on : (d : Pass) → last_shares d (take (at + 1) old) ≡ last_shares d (take at old) + (view p).shares
    sum_on d = sum_by_more (λ (x : Hand). (view (last_pass d x)).shares) old at r here ∙ ap (λ (q : Pass). last_shares d (take at old) + (view q).shares) (last_is d r)

    -- it is of the board where each last pass is
    pub of_board : ((d : Pass) → All (λ (x : Hand). board_of (last_pass d x) ≡ board_id b) old) → board_of p ≡ board_id b
    of_board boards = subst (λ (q : Pass). board_of q ≡ board_id b) (last_is p r) (boards p at r here)

    of_worker : (v : View) → ((d : Pass) → All (λ (x : Hand). IsWorker (board_id b) v (last_pass d x)) old) → IsWorker (board_id b) v p
    of_worker v each = subst (IsWorker (board_id b) v) (last_is p r) (each p at r here)

  pub meets_first : (old : List Hand) (r k : Hand) (p : Pass) → 0 < length old → (get_or old 0 r).passes.items ≡ k.passes.items ++ p ∷ []
      → ((d : Pass) → All (λ (x : Hand). board_of (last_pass d x) ≡ board_id b) old) → Meeting 1 old (set old 0 k) p
  meets_first old r k p some popped boards = record {
    len = length-set old 0 k;
    left = left_on 0 old old r k p refl (λ i d above. refl) some popped (λ i d below. absurd (omega arith));
    same = same_on 0 old old r k p refl (λ i d above. refl) some popped;
    board = of_board 0 old old r k p refl (λ i d above. refl) some popped boards;
    workers = of_worker 0 old old r k p refl (λ i d above. refl) some popped;
    sum = λ d. let e = sum_on 0 old old r k p refl (λ i e above. refl) some popped d in omega arith;
  }

  pub meets_on : (at : ℕ) (old now : List Hand) (all next : Pass) (r k : Hand) (p : Pass) → Meeting at old now all → at < length old → (get_or now at r).passes.items ≡ k.passes.items ++ p ∷ []
      → board_of next ≡ board_of all → view next ≡ both (view all) (view p) → IsPrefix (view all).seen (view next).seen → Meeting (at + 1) old (set now at k) next
  meets_on at old now all next r k p t here popped board joined seen = record {
    len = length-set now at k ∙ t.len;
    left = left_on at old now r k p t.len t.same here popped t.left;
    same = same_on at old now r k p t.len t.same here popped;
    board = board ∙ t.board;
    workers = λ v each. both_works (board_id b) v all p next (t.workers v each) (of_worker at old now r k p t.len t.same here popped v each) board joined seen;
    sum = λ d.
        let e = sum_on at old now r k p t.len t.same here popped d in
        let before = t.sum d in let shares = ap (λ (x : View). x.shares) joined in omega arith;
  }

-- All boards

module _ {S : Type 0} (cores : List Machine) (boards : List (Board S)) (hands : List Hand) where
  -- each pass may work on the board at its place
  pub founded_may : IsFounded cores boards hands → All (λ (h : Hand). MayWorkOn boards h.passes.items) hands
  founded_may t i h here = record {
    long = t.long i h here;
    each = λ j b d below. ((t.dealt j b (machine_of blank) d below).works i h here).may;
  }

  -- and after the work it knows what it knew, and more
  pub founded_left : (new : List Hand) → IsFounded cores boards hands → length new ≡ length hands
      → ((i : ℕ) (d : Hand) → i < length hands → AreLeftTo (get_or hands i d).passes.items (get_or new i d).passes.items) → IsFounded cores boards new
  founded_left new t len each = record {
    few = t.few;
    long = λ i h here. let there : i < length hands = omega arith in (each i h there).len ∙ t.long i h there;
    dealt = λ j b m d below.
        let old = t.dealt j b m d below in
        record {
          works = λ i h here. let there : i < length hands = omega arith in goes_on (slice_at j b) (founder (get_or cores (length cores - (j + 1)) m)) (pass_at j d (get_or hands i h)) (pass_at j d (get_or new i h)) (old.works i h there) (left i h j d there below);
          shares = same_sum (λ (h : Hand). (view (pass_at j d h)).shares) (λ (h : Hand). (view (pass_at j d h)).shares) hands new len (λ i h here. (left i h j d here below).worked.shares) ∙ old.shares;
        };
  }
    where
      slice_at : ℕ → Board S → Board S
      slice_at j b = get_or boards j b

      left : (i : ℕ) (h : Hand) (j : ℕ) (d : Pass) → i < length hands → j < length boards → LeftTo (pass_at j d (get_or hands i h)) (pass_at j d (get_or new i h))
      left i h j d here below = let long = t.long i h here in (each i h here).each j d (omega arith)

      goes_on : (b : Board S) (v : View) (p q : Pass) → IsWorker (board_id b) v p → LeftTo p q → IsWorker (board_id b) v q
      goes_on b v p q w l = record {
        may = record { board = l.board ∙ w.may.board; tries = l.tries; settled = l.settled };
        net = (l.worked.net.0 ∙ w.net.0, l.worked.net.1 ∙ w.net.1);
        seen = prefix_trans v.seen (view p).seen (view q).seen w.seen l.worked.seen;
      }

-- The last board is closed

-- a core, where any will do
abbrev pub no_core : Machine
no_core = machine_of blank

module _ {S : Type 0} (cores : List Machine) (less : List (Board S)) (b : Board S) (hands : List Hand) (t : IsFounded cores (less ++ b ∷ []) hands) where
  last_long : (i : ℕ) (h : Hand) → i < length hands → length (get_or hands i h).passes.items ≡ length less + 1
  last_long i h here = t.long i h here ∙ length_push less b

  pub close_some : All (λ (h : Hand). 0 < length h.passes.items) hands
  close_some i h here = let e = last_long i h here in omega arith

  -- its core
  abbrev pub last_core : Machine → Machine
  last_core m = get_or cores (length cores - (length less + 1)) m

  last_dealt : (m : Machine) (d : Pass) → AreDealt b (last_core m) (length less) d hands
  last_dealt m d = subst (λ (x : Board S). AreDealt x (last_core m) (length less) d hands) (get_or_at less b [] b (length less) refl)
      (t.dealt (length less) b m d (let e = length_push less b in omega arith))

  at_last : (d : Pass) (i : ℕ) (h : Hand) → i < length hands → pass_at (length less) d (get_or hands i h) ≡ last_pass d (get_or hands i h)
  at_last d i h here = ap (λ (j : ℕ). pass_at j d (get_or hands i h)) (let e = last_long i h here in omega arith)

  pub close_works : (m : Machine) (d : Pass) → All (λ (h : Hand). IsWorker (board_id b) (founder (last_core m)) (last_pass d h)) hands
  close_works m d i h here = subst (IsWorker (board_id b) (founder (last_core m))) (at_last d i h here) ((last_dealt m d).works i h here)

  pub close_boards : (d : Pass) → All (λ (h : Hand). board_of (last_pass d h) ≡ board_id b) hands
  close_boards d i h here = (close_works (machine_of blank) d i h here).may.board

  close_shares : (m : Machine) (d : Pass) → last_shares d hands ≡ (founder (last_core m)).shares
  close_shares m d = same_sum (λ (h : Hand). (view (pass_at (length less) d h)).shares) (λ (h : Hand). (view (last_pass d h)).shares) hands hands refl
      (λ i h here. ap (λ (p : Pass). (view p).shares) (sym (at_last d i h here))) ∙ (last_dealt m d).shares

  -- the others stay
  pub closes_on : (new : List Hand) → length new ≡ length hands → ((i : ℕ) (h : Hand) → i < length hands → (get_or new i h).passes.items ≡ without_last (get_or hands i h)) → IsFounded cores less new
  closes_on new len each = record {
    few = let f = t.few in let e = length_push less b in omega arith;
    long = λ i h here.
        let there : i < length hands = omega arith in let e = last_long i h there in let a = ap length (each i h there) in
        let c = length-take-le (length (get_or hands i h).passes.items - 1) (get_or hands i h).passes.items (omega arith) in omega arith;
    dealt = λ j c m d below.
        let old = t.dealt j c m d (let e = length_push less b in omega arith) in
        let kept : AreDealt (get_or less j c) (get_or cores (length cores - (j + 1)) m) j d hands =
        subst (λ (x : Board S). AreDealt x (get_or cores (length cores - (j + 1)) m) j d hands) (get_or_append_left less (b ∷ []) c j below) old in
        record {
          works = λ i h here. let there : i < length hands = omega arith in
              subst (IsWorker (board_id (get_or less j c)) (founder (get_or cores (length cores - (j + 1)) m))) (sym (same i h j d there below)) (kept.works i h there);
          shares = same_sum (λ (h : Hand). (view (pass_at j d h)).shares) (λ (h : Hand). (view (pass_at j d h)).shares) hands new len (λ i h here. ap (λ (p : Pass). (view p).shares) (same i h j d here below)) ∙ kept.shares;
        };
  }
    where
      same : (i : ℕ) (h : Hand) (j : ℕ) (d : Pass) → i < length hands → j < length less → pass_at j d (get_or new i h) ≡ pass_at j d (get_or hands i h)
      same i h j d here below = let e = last_long i h here in
          ap (λ (l : List Pass). get_or l j d) (each i h here) ∙ get_or-take (length (get_or hands i h).passes.items - 1) (get_or hands i h).passes.items j d (omega arith)

  -- its core, once its passes have met and it is closed
  pub core_left : (all : Pass) (n : Machine) → ((v : View) → ((d : Pass) → All (λ (h : Hand). IsWorker (board_id b) v (last_pass d h)) hands) → IsWorker (board_id b) v all)
      → ((d : Pass) → (view all).shares ≡ last_shares d hands) → Ends (view all) n → LeftByWorkers (last_core n) n
  core_left all n workers shares ends =
      let m = last_core n in let w = workers (founder m) (close_works n) in
      left_at_end m n (founder m) (view all) refl w.net w.seen (shares all ∙ close_shares n all) w.may.settled ends

  -- it comes behind those before it
  pub cores_left : (left : List Machine) (count : ℕ) (n : Machine) → count + (length less + 1) ≡ length cores → AllZip LeftByWorkers (take count cores) left → LeftByWorkers (last_core n) n
      → AllZip LeftByWorkers (take (count + 1) cores) (left ++ n ∷ [])
  cores_left left count n sum zip last =
      zip_more LeftByWorkers cores left count n n (omega arith) zip
      (subst (λ (k : ℕ). LeftByWorkers (get_or cores k n) n) (let few = t.few in omega arith) last)
