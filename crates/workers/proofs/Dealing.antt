-- Passes that are dealt to workers, and that meet when the work is done.
use Rattle.std.proofs.Common.{◌≡◌, ℕ, suc, ◌+◌, ◌*◌, ◌<◌, ◌≤◌, List, [], ◌∷◌, ◌++◌, length, get_or, sym, refl, ap, ◌∙◌, subst, arith, All, length-append, take, drop, Some}
use mathlib.Core.List.{IsPrefix}
use Rattle.std.proofs.Math.Seq.{take-append_seam}
use Rattle.std.proofs.lemmas.List.Elements.{All-push, All-pop}
use Rattle.std.proofs.lemmas.List.Sums.{sum_by_push, sum_by-cons}
use Rattle.atomic_table.specs.Seated.{TableId}
use Rattle.board.specs.Counts.{all_tries}
use Rattle.board.specs.Names.{view, board_of}
use Rattle.board.specs.Plays.{kept_part, given_part, both}
use Rattle.board.specs.declared.view.View.{View}
use Rattle.board.specs.declared.pass.Pass.{Pass}
use Rattle.board.proofs.Sums.{times-append}
use Rattle.board.proofs.Prefixes.{prefix_self, prefix_trans}
use Rattle.workers.specs.declared.hands.Hand.{Hand}
use Rattle.workers.specs.Work.{IsSettled}
use Rattle.workers.specs.Hands.{LeftTo, IsWorker, shares_of, tries_of, worker_tries}

-- a part of the passes was dealt
pub record Dealing (z : TableId) (v : View) (counter : ℕ) (hands : List Hand) (rest : Pass) : Type 0 where
  pub passes : All (λ (h : Hand). IsWorker z v h.pass) hands
  pub works : IsWorker z v rest
  pub sum : shares_of hands + (view rest).shares ≡ v.shares
  pub few : (view rest).shares + counter ≡ v.shares + 1
  pub dealt : All (λ (h : Hand). worker_tries ≤ (view h.pass).tries) hands
  pub tries_sum : tries_of hands + (view rest).tries ≡ v.tries
  pub tries_left : v.tries + worker_tries ≤ (view rest).tries + counter * worker_tries
  pub room : length hands + 1 ≡ counter

-- a part of the passes has met in one
pub record Meeting (z : TableId) (all left : List Hand) (pass : Pass) : Type 0 where
  pub board : board_of pass ≡ z
  pub boards : All (λ (h : Hand). board_of h.pass ≡ z) left
  pub workers : (v : View) → All (λ (h : Hand). IsWorker z v h.pass) all → All (λ (h : Hand). IsWorker z v h.pass) left × IsWorker z v pass
  pub sum : shares_of left + (view pass).shares ≡ shares_of all

same_shares : (xs ys : List Hand) → length ys ≡ length xs → ((i : ℕ) (d : Hand) → i < length xs → (view (get_or ys i d).pass).shares ≡ (view (get_or xs i d).pass).shares) → shares_of ys ≡ shares_of xs
same_shares [] [] len each = refl
same_shares [] (y ∷ ys) len each = absurd (omega arith)
same_shares (x ∷ xs) [] len each = absurd (omega arith)
same_shares (x ∷ xs) (y ∷ ys) len each =
    let first = each 0 x (omega arith) in
    let more = same_shares xs ys (omega arith) (λ i d h. each (suc i) d (omega arith)) in
    let a = sum_by-cons (λ (h : Hand). (view h.pass).shares) x xs in let b = sum_by-cons (λ (h : Hand). (view h.pass).shares) y ys in omega arith

All-last : (P : Hand → Type 0) (less : List Hand) (h : Hand) → All P (less ++ h ∷ []) → All P less × P h
All-last P less h all = let t = All-pop P (less ++ h ∷ []) less (Some h) refl all in (t.0, t.1)

module _ (z : TableId) (v : View) where
  pub works_self : (p : Pass) → board_of p ≡ z → 0 < (view p).tries → IsSettled (view p) → view p ≡ v → IsWorker z v p
  works_self p board tries settled is = record {
    may = record { board = board; tries = tries; settled = settled };
    net = (ap (λ (x : View). x.net) is, ap (λ (x : View). x.budget) is);
    seen = subst (λ (x : View). IsPrefix v.seen x.seen) (sym is) (prefix_self v.seen);
  }

  pub left_works : (n : ℕ) (p q : Pass) → IsWorker z v p → board_of q ≡ board_of p → view q ≡ kept_part n (view p) → n < (view p).tries → IsWorker z v q
  left_works n p q m board is enough = record {
    may = record {
      board = board ∙ m.may.board;
      tries = let a = ap (λ (x : View). x.tries) is in omega arith;
      settled = subst IsSettled (sym is) m.may.settled;
    };
    net = (ap (λ (x : View). x.net) is ∙ m.net.0, ap (λ (x : View). x.budget) is ∙ m.net.1);
    seen = subst (λ (x : View). IsPrefix v.seen x.seen) (sym is) m.seen;
  }

  pub right_works : (n : ℕ) (p q : Pass) → IsWorker z v p → board_of q ≡ board_of p → view q ≡ given_part n (view p) → 0 < n → IsWorker z v q
  right_works n p q m board is some_tries = record {
    may = record {
      board = board ∙ m.may.board;
      tries = let a = ap (λ (x : View). x.tries) is in omega arith;
      settled = subst IsSettled (sym is) (λ p. refl);
    };
    net = (ap (λ (x : View). x.net) is ∙ m.net.0, ap (λ (x : View). x.budget) is ∙ m.net.1);
    seen = subst (λ (x : View). IsPrefix v.seen x.seen) (sym is) m.seen;
  }

  pub both_works : (a b q : Pass) → IsWorker z v a → IsWorker z v b → board_of q ≡ board_of a → view q ≡ both (view a) (view b) → IsPrefix (view a).seen (view q).seen → IsWorker z v q
  both_works a b q m n board is seen = record {
    may = record {
      board = board ∙ m.may.board;
      tries = let e = ap (λ (x : View). x.tries) is in let x = m.may.tries in omega arith;
      settled = subst IsSettled (sym is) (λ p.
          let x = m.may.settled p in let y = n.may.settled p in
          let i = times-append p (view a).mine (view b).mine in let j = times-append p (view a).home (view b).home in let k = times-append p (view a).lost (view b).lost in omega arith);
    };
    net = (ap (λ (x : View). x.net) is ∙ m.net.0, ap (λ (x : View). x.budget) is ∙ m.net.1);
    seen = prefix_trans v.seen (view a).seen (view q).seen m.seen seen;
  }

  pub deals_none : (p : Pass) → board_of p ≡ z → 0 < (view p).tries → IsSettled (view p) → view p ≡ v → Dealing z v 1 [] p
  deals_none p board tries settled is = record {
    passes = λ i d h. absurd (omega arith);
    works = works_self p board tries settled is;
    sum = let a = ap (λ (x : View). x.shares) is in omega arith;
    few = let a = ap (λ (x : View). x.shares) is in omega arith;
    dealt = λ i d h. absurd (omega arith);
    tries_sum = let a = ap (λ (x : View). x.tries) is in omega arith;
    tries_left = let a = ap (λ (x : View). x.tries) is in omega arith;
    room = refl;
  }

  pub deals_on : (counter : ℕ) (hands more : List Hand) (rest left right : Pass) (h : Hand) → Dealing z v counter hands rest → counter ≤ 63 → all_tries ≤ v.tries → 64 ≤ v.shares
      → board_of left ≡ board_of rest → board_of right ≡ board_of rest → view left ≡ kept_part worker_tries (view rest) → view right ≡ given_part worker_tries (view rest)
      → h.pass ≡ right → more ≡ hands ++ h ∷ [] → Dealing z v (counter + 1) more left
  deals_on counter hands more rest left right h d near many some_more bl br l r is grown =
      let sum = sum_by_push (λ (x : Hand). (view x.pass).shares) hands h in let sum' = ap shares_of grown in
      let one : (view h.pass).shares ≡ 1 = ap (λ (p : Pass). (view p).shares) is ∙ ap (λ (x : View). x.shares) r in
      let few = d.few in let all = d.sum in let tries_left = d.tries_left in
      let given : (view h.pass).tries ≡ worker_tries = ap (λ (p : Pass). (view p).tries) is ∙ ap (λ (x : View). x.tries) r in
      let tries_added = sum_by_push (λ (x : Hand). (view x.pass).tries) hands h in let tries_added' = ap tries_of grown in
      let shares_left = ap (λ (x : View). x.shares) l in let tries_now = ap (λ (x : View). x.tries) l in
      record {
        passes = subst (All (λ (x : Hand). IsWorker z v x.pass)) (sym grown)
            (All-push (λ (x : Hand). IsWorker z v x.pass) hands h d.passes (subst (IsWorker z v) (sym is) (right_works worker_tries rest right d.works br r (omega arith))));
        works = left_works worker_tries rest left d.works bl l (omega arith);
        sum = omega arith;
        few = omega arith;
        dealt = subst (All (λ (x : Hand). worker_tries ≤ (view x.pass).tries)) (sym grown)
            (All-push (λ (x : Hand). worker_tries ≤ (view x.pass).tries) hands h d.dealt (omega arith));
        tries_sum = let before = d.tries_sum in omega arith;
        tries_left = omega arith;
        room = let old = d.room in let a = ap length grown in let b = length-append hands (h ∷ []) in omega arith;
      }

  pub deals_last : (counter : ℕ) (hands more : List Hand) (rest : Pass) (h : Hand) → Dealing z v counter hands rest → h.pass ≡ rest → more ≡ hands ++ h ∷ []
      → All (λ (x : Hand). IsWorker z v x.pass) more × (shares_of more ≡ v.shares) × (length more ≡ counter)
  deals_last counter hands more rest h d is grown = (
    subst (All (λ (x : Hand). IsWorker z v x.pass)) (sym grown) (All-push (λ (x : Hand). IsWorker z v x.pass) hands h d.passes (subst (IsWorker z v) (sym is) d.works)),
    (let sum = sum_by_push (λ (x : Hand). (view x.pass).shares) hands h in let sum' = ap shares_of grown in let one = ap (λ (p : Pass). (view p).shares) is in let all = d.sum in omega arith),
    (let old = d.room in let a = ap length grown in let b = length-append hands (h ∷ []) in omega arith),
  )

  -- and what there was to deal is dealt
  pub deals_all : (counter : ℕ) (hands more : List Hand) (rest : Pass) (h : Hand) → Dealing z v counter hands rest → counter ≤ 64 → all_tries ≤ v.tries → h.pass ≡ rest → more ≡ hands ++ h ∷ []
      → All (λ (x : Hand). worker_tries ≤ (view x.pass).tries) more × (tries_of more ≡ v.tries)
  deals_all counter hands more rest h d many some is grown =
      let one : (view h.pass).tries ≡ (view rest).tries = ap (λ (p : Pass). (view p).tries) is in let left = d.tries_left in (
        subst (All (λ (x : Hand). worker_tries ≤ (view x.pass).tries)) (sym grown) (All-push (λ (x : Hand). worker_tries ≤ (view x.pass).tries) hands h d.dealt (omega arith)),
        (let sum = sum_by_push (λ (x : Hand). (view x.pass).tries) hands h in let sum' = ap tries_of grown in let all = d.tries_sum in omega arith),
      )

  -- after the workers
  pub worked_all : (xs ys : List Hand) → length ys ≡ length xs → ((i : ℕ) (d : Hand) → i < length xs → LeftTo (get_or xs i d).pass (get_or ys i d).pass)
      → All (λ (x : Hand). IsWorker z v x.pass) xs → All (λ (x : Hand). IsWorker z v x.pass) ys × (shares_of ys ≡ shares_of xs)
  worked_all xs ys len each all = (
    (λ i d h.
        let l = each i d (omega arith) in let w = all i d (omega arith) in record {
          may = record { board = l.board ∙ w.may.board; tries = l.tries; settled = l.settled };
          net = (l.worked.net.0 ∙ w.net.0, l.worked.net.1 ∙ w.net.1);
          seen = prefix_trans _ _ _ w.seen l.worked.seen;
        }),
    same_shares xs ys len (λ i d h. (each i d h).worked.shares),
  )

module _ (z : TableId) where
  pub meets_first : (all less : List Hand) (h : Hand) → All (λ (x : Hand). board_of x.pass ≡ z) all → all ≡ less ++ h ∷ [] → Meeting z all less h.pass
  meets_first all less h boards is = let parted = All-last (λ (x : Hand). board_of x.pass ≡ z) less h (subst (All (λ (x : Hand). board_of x.pass ≡ z)) is boards) in record {
    board = parted.1;
    boards = parted.0;
    workers = λ v each. All-last (λ (x : Hand). IsWorker z v x.pass) less h (subst (All (λ (x : Hand). IsWorker z v x.pass)) is each);
    sum = let a = sum_by_push (λ (x : Hand). (view x.pass).shares) less h in let b = ap shares_of is in omega arith;
  }

  pub meets_on : (all left less : List Hand) (h : Hand) (pass next : Pass) → Meeting z all left pass → left ≡ less ++ h ∷ [] → board_of next ≡ board_of pass
      → view next ≡ both (view pass) (view h.pass) → IsPrefix (view pass).seen (view next).seen → Meeting z all less next
  meets_on all left less h pass next m is board joined seen = record {
    board = board ∙ m.board;
    boards = (All-last (λ (x : Hand). board_of x.pass ≡ z) less h (subst (All (λ (x : Hand). board_of x.pass ≡ z)) is m.boards)).0;
    workers = λ v each. let old = m.workers v each in
        let parted = All-last (λ (x : Hand). IsWorker z v x.pass) less h (subst (All (λ (x : Hand). IsWorker z v x.pass)) is old.0) in
        (parted.0, both_works z v pass h.pass next old.1 parted.1 board joined seen);
    sum = let a = sum_by_push (λ (x : Hand). (view x.pass).shares) less h in let b = ap shares_of is in let c = ap (λ (x : View). x.shares) joined in let d = m.sum in omega arith;
  }

  -- the last of those that are left may meet the others
  pub meets_may : (all left less : List Hand) (h : Hand) (pass : Pass) → Meeting z all left pass → left ≡ less ++ h ∷ [] → board_of h.pass ≡ z
  meets_may all left less h pass m is = (All-last (λ (x : Hand). board_of x.pass ≡ z) less h (subst (All (λ (x : Hand). board_of x.pass ≡ z)) is m.boards)).1

-- what is in front of those that were lent
pub front_back : (n : ℕ) (xs ys : List Hand) → length xs ≡ n → take n (xs ++ drop (length xs) ys) ≡ xs
front_back n xs ys e = subst (λ (k : ℕ). take k (xs ++ drop (length xs) ys) ≡ xs) e (take-append_seam xs (drop (length xs) ys))
