-- What workers leave of a core that a board was founded with, and a run in one thread after them.
use Rattle.std.proofs.Common.{◌≡◌, ℕ, ◌<◌, true, false, List, [], ◌++◌, length, get_or, take, drop, All, sym, ap, ◌∙◌, subst, ◌⊎◌, inl, inr, append_assoc, append-nil}
use mathlib.Core.List.{IsPrefix}
use Rattle.atomic_table.specs.Seated.{TableId}
use Rattle.core_machine.specs.Machine.{Machine}
use Rattle.core_machine.specs.Answered.{HasRun, HasBrokenLeast}
use Rattle.board.specs.Plays.{founder}
use Rattle.board.specs.Calls.{Ends}
use Rattle.board.specs.declared.view.View.{View}
use Rattle.workers.specs.Work.{IsSettled}
use Rattle.workers.specs.declared.hands.Hand.{Hand}
use Rattle.workers.specs.Hands.{LeftTo, IsWorker, shares_of}
use Rattle.workers.specs.Driven.{HasAdvanced, HasFallenShort, LeftByWorkers}
use Rattle.workers.proofs.Dealing.{worked_all, front_back}

-- a core that no worker had
pub left_as_it_was : (m n : Machine) → m.out ≡ [] → n ≡ m → LeftByWorkers m n
left_as_it_was m n home is = record {
  net = ap (λ (x : Machine). x.net) is;
  budget = ap (λ (x : Machine). x.budget) is;
  longer = ([], ap (λ (x : Machine). x.journal) is ∙ sym (append-nil m.journal));
  home = inl (ap (λ (x : Machine). x.out) is ∙ home);
}

-- the core with which a board was closed by a pass that has all shares, and that knows what the first one knew
pub left_at_end : (m n : Machine) (v w : View) → v ≡ founder m → (w.net ≡ v.net) × (w.budget ≡ v.budget) → IsPrefix v.seen w.seen → w.shares ≡ v.shares → IsSettled w → Ends w n → LeftByWorkers m n
left_at_end m n v w is net seen shares settled e = record {
  net = e.net.0 ∙ net.0 ∙ ap (λ (x : View). x.net) is;
  budget = e.net.1 ∙ net.1 ∙ ap (λ (x : View). x.budget) is;
  longer = (
    seen.0 ++ e.seen.0,
    sym e.seen.1 ∙ ap (λ l. l ++ e.seen.0) (sym seen.1) ∙ append_assoc v.seen seen.0 e.seen.0 ∙ ap (λ (x : View). x.seen ++ (seen.0 ++ e.seen.0)) is,
  );
  home = e.settled (shares ∙ ap (λ (x : View). x.shares) is) settled;
}

-- a core that isn't broken has no strand out
pub none_out : (n : Machine) → (n.out ≡ []) ⊎ (n.is_broken ≡ true) → n.is_broken ≡ false → n.out ≡ []
none_out n (inl home) whole = home
none_out n (inr broken) whole = absurd (cc (broken, whole))

-- a run after that has advanced the core
pub run_advances : (m n k : Machine) → LeftByWorkers m n → n.is_broken ≡ false → HasRun n k → HasAdvanced m k
run_advances m n k t whole run = record {
  net = ap (λ (x : Machine). x.net) run.after ∙ t.net;
  budget = ap (λ (x : Machine). x.budget) run.after ∙ t.budget;
  longer = (t.longer.0 ++ run.more, ap (λ (x : Machine). x.journal) run.after ∙ ap (λ l. l ++ run.more) t.longer.1 ∙ append_assoc m.journal t.longer.0 run.more);
  home = ap (λ (x : Machine). x.out) run.after ∙ none_out n t.home whole;
  whole = ap (λ (x : Machine). x.is_broken) run.after ∙ whole;
}

-- the hands once the workers are done: those of workers still, with all shares
pub hands_worked : (z : TableId) (v : View) (n : ℕ) (items xs ys : List Hand) → xs ≡ items → length ys ≡ n → length ys ≡ length xs
    → ((i : ℕ) (d : Hand) → i < length xs → LeftTo (get_or xs i d).pass (get_or ys i d).pass)
    → All (λ (h : Hand). IsWorker z v h.pass) items
    → All (λ (h : Hand). IsWorker z v h.pass) (take n (ys ++ drop (length ys) items)) × (shares_of (take n (ys ++ drop (length ys) items)) ≡ shares_of items)
hands_worked z v n items xs ys is long same each all =
    let back = front_back n ys items long in
    let w = worked_all z v xs ys same each (subst (All (λ (h : Hand). IsWorker z v h.pass)) (sym is) all) in
    (subst (All (λ (h : Hand). IsWorker z v h.pass)) (sym back) w.0, ap shares_of back ∙ w.1 ∙ ap shares_of is)

-- a core that workers broke
pub fell_short : (m n : Machine) → LeftByWorkers m n → n.is_broken ≡ true → HasFallenShort m n
fell_short m n t broken = record { net = t.net; budget = t.budget; longer = t.longer; broken = broken }

-- a run after that which broke
pub broke_on : (m n k : Machine) → LeftByWorkers m n → HasBrokenLeast n k → HasFallenShort m k
broke_on m n k t run = record {
  net = run.broke.net ∙ t.net;
  budget = run.broke.budget ∙ t.budget;
  longer = (t.longer.0 ++ run.broke.longer.0, run.broke.longer.1 ∙ ap (λ l. l ++ run.broke.longer.0) t.longer.1 ∙ append_assoc m.journal t.longer.0 run.broke.longer.0);
  broken = run.broke.broken;
}
