-- What a turn and a finish leave of a worker's pass.
use Rattle.std.proofs.Common.{◌≡◌, ◌≢◌, ℕ, Bool, ◌+◌, ◌-◌, ◌<◌, false, inl, inr, List, [], ◌∷◌, ◌++◌, length, sym, refl, ap, ◌∙◌, subst, arith, None}
use Rattle.pipe_model.specs.declared.net.Strand.{Strand}
use Rattle.pipe_model.specs.Event.{Event}
use Rattle.core_machine.specs.declared.job.RunEnd.TheVariants as Run
use Rattle.core_machine.specs.Machine.{Machine}
use Rattle.core_machine.specs.Jobs.{JobState}
use Rattle.core_machine.specs.Answered.{LeastReady, Ends}
use Rattle.board.specs.Counts.{times, places_after}
use Rattle.board.specs.Rule.{machine_of}
use Rattle.board.specs.Calls.{CanFinish, GoesOn, Worked, Unchanged, WentOn, FellShort, less_one_try}
use Rattle.board.specs.declared.view.View.{View}
use Rattle.board.proofs.Sums.{times-append, times-cons, times-one, only-same, places_after-last}
use Rattle.board.proofs.Prefixes.{prefix_self, prefix_trans}
use Rattle.workers.specs.Work.{IsSettled, HasWorked, Owes, LacksRoom, TurnsSo, ComesSo, GrowsSo}
use Rattle.workers.specs.declared.turns.AfterTurn.{AfterTurn}
use Rattle.workers.specs.declared.turns.AfterTurn.TheVariants.{Idle}

module _ {S : Type 0} (stands : S → Strand → List Event → Type 0) (v w : View) (m : Machine) (strand stream room : ℕ) (job : JobState S) (place : ℕ) (bytes : List ℕ)
    (t : Worked stands v m strand stream room job place w bytes) where
  made : (q : ℕ) → times q w.mine ≡ times q v.mine + times q (place ∷ [])
  made q = ap (times q) t.mine ∙ times-append q v.mine (place ∷ [])

  -- the job that a turn gave may be finished
  pub can_finish : CanFinish w job.place
  can_finish = subst (CanFinish w) (sym t.place_is.1) (
    (let a = made place in let b = times-one place place ∙ only-same place in omega arith),
    ap (times place) t.others.0 ∙ t.new.1,
    ap (times place) t.others.1 ∙ t.new.2,
  )

  -- and it is the only one that the pass has out
  pub owes_one : IsSettled v → Owes w job.place
  owes_one settled = subst (Owes w) (sym t.place_is.1)
      (λ q. let a = made q in let b = settled q in let c = ap (times q) t.others.0 in let d = ap (times q) t.others.1 in omega arith)

pub lost_settled : (v w : View) (p : ℕ) → Owes v p → w.mine ≡ v.mine → w.home ≡ v.home → w.lost ≡ v.lost ++ p ∷ [] → IsSettled w
lost_settled v w p owes mine home lost q = let a = owes q in let b = ap (times q) mine in let c = ap (times q) home in let d = ap (times q) lost in let e = times-append q v.lost (p ∷ []) in omega arith

-- the job came home and further steps were made, which are home too
pub went_settled : (v w : View) (m : Machine) (place : ℕ) (sights : Bool) (most : ℕ) → Owes v place → WentOn (less_one_try v) m place sights most w → IsSettled w
went_settled v w m place sights most owes t q =
    let new : List ℕ = places_after (length m.journal) (length w.seen) in
    let a = owes q in let b = ap (times q) t.mine ∙ times-append q v.mine new in let c = ap (times q) t.home ∙ times-append q v.home (place ∷ new) in
    let d = times-cons q place new in let e = times-one q place in let f = ap (times q) t.lost in omega arith

-- the same, but the last of these steps is lost
pub short_settled : (v w : View) (m : Machine) (place : ℕ) (sights : Bool) (most : ℕ) → Owes v place → FellShort (less_one_try v) m place sights most w → IsSettled w
short_settled v w m place sights most owes t q =
    let n : ℕ = length w.seen in let new : List ℕ = places_after (length m.journal) n in let rest : List ℕ = places_after (length m.journal) (n - 1) in
    let a = owes q in let b = ap (times q) t.mine ∙ times-append q v.mine new in let c = ap (times q) t.home ∙ times-append q v.home (place ∷ rest) in
    let d = times-cons q place rest in let e = times-one q place in let f = ap (times q) t.lost ∙ times-append q v.lost (n ∷ []) in
    let last = places_after-last q (length m.journal) n t.core.broke.more in omega arith

pub still_settled : (v w : View) → IsSettled v → w.mine ≡ v.mine → (w.home ≡ v.home) × (w.lost ≡ v.lost) → IsSettled w
still_settled v w settled mine others q = let a = settled q in let b = ap (times q) mine in let c = ap (times q) others.0 in let d = ap (times q) others.1 in omega arith

pub worked_none : (v : View) → HasWorked v v
worked_none v = record { net = (refl, refl); shares = refl; seen = prefix_self v.seen }

pub worked_more : (u v w : View) → HasWorked u v → HasWorked v w → HasWorked u w
worked_more u v w a b = record {
  net = (b.net.0 ∙ a.net.0, b.net.1 ∙ a.net.1);
  shares = b.shares ∙ a.shares;
  seen = prefix_trans u.seen v.seen w.seen a.seen b.seen;
}

pub worked_by : (v w : View) → GoesOn v w → HasWorked v w
worked_by v w goes = record { net = goes.net; shares = goes.shares; seen = goes.seen }

none_in : (l : List ℕ) → 0 ≡ length l → l ≡ []
none_in [] e = refl
none_in (x ∷ l) e = absurd (omega arith)

-- where no strand may have an event and none is out, the journal is complete
pub idle_completes : (w : View) → LeastReady (machine_of w) None → 0 ≡ length w.out → Ends Run.Complete (machine_of w)
idle_completes w none out = (none_in w.out out, none)

-- a turn whose job came home is done
pub work_turns : (sights : Bool) (place : ℕ) (answer : AfterTurn) (v u w : View) (before after : ℕ) → length v.seen < length u.seen → ComesSo sights place answer u w → TurnsSo sights answer v before w after
work_turns sights place answer v u w before after longer (inl done) = subst (λ (x : AfterTurn). TurnsSo sights x v before w after) (sym done.0)
    (inl (record { made = u; longer = longer; core = done.1.0; place = place; most = done.1.1; home = done.1.2 }))
work_turns sights place answer v u w before after longer (inr none) = subst (λ (x : AfterTurn). TurnsSo sights x v before w after) (sym none.0) (inl none.1)

-- and so is one after which the room has grown
pub room_turns : (sights : Bool) (answer : AfterTurn) (v w : View) (before after n : ℕ) → LacksRoom w before n → GrowsSo answer n before after → TurnsSo sights answer v before w after
room_turns sights answer v w before after n lacks (inl done) = subst (λ (x : AfterTurn). TurnsSo sights x v before w after) (sym done.0) (inr (n, lacks, done.1))
room_turns sights answer v w before after n lacks (inr none) = subst (λ (x : AfterTurn). TurnsSo sights x v before w after) (sym none.0) (inr (n, subst (λ (room : ℕ). LacksRoom w room n) (sym none.1) lacks))

-- a core with nothing to do that has jobs out
pub idle_waits : (v w : View) (sights : Bool) (before after out : ℕ) → w.is_broken ≡ false → LeastReady (machine_of w) None → out ≡ length w.out → out ≢ 0 → TurnsSo sights Idle v before w after
idle_waits v w sights before after out whole none is some = (whole, none, some_out w.out (λ e. some (is ∙ e)))
  where
    some_out : (l : List ℕ) → length l ≢ 0 → 0 < length l
    some_out [] filled = absurd (filled refl)
    some_out (x ∷ l) filled = omega arith

pub unchanged_settled : (v w : View) (m : Machine) → IsSettled v → Unchanged v m w → IsSettled w
unchanged_settled v w m settled same = still_settled v w settled same.1 (same.2, same.3)
