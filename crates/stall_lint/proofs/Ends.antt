-- A net in which no walk is closed never stalls, whatever it is fed.
use Rattle.std.proofs.Common.{◌≡◌, ◌⊎◌, inl, inr, ℕ, zero, suc, ◌<◌, Bool, true, false, List, length, refl, sym, ◌∙◌, ap, subst, arith, Option, Some, slice_get}
use Rattle.std.proofs.lemmas.Bool.{cases_lt}
use Rattle.std.proofs.lemmas.Option.{slice_get_within}
use Rattle.pipe_model.specs.declared.net.Link.{Link}
use Rattle.pipe_model.specs.declared.net.Net.{Net}
use Rattle.pipe_model.specs.Event.{has_ended}
use Rattle.pipe_model.specs.Plain.{IsAcyclic, IssuesNothing}
use Rattle.pipe_model.specs.declared.step.Entry.{Entry}
use Rattle.pipe_model.specs.Play.{IsLegal, IsStalled, play}
use Rattle.pipe_model.specs.Settled.{IsSettled, Meets}
use Rattle.pipe_model.specs.State.{IsThere, State, Who, nothing_yet, past, strand_at}
use Rattle.pipe_model.specs.WellFormed.{IsWellFormed}
use Rattle.pipe_model.proofs.Lists.{at_some}
use Rattle.pipe_model.proofs.Numbers.{equal_or_not}
use Rattle.confluence_laws.proofs.Basics.{from_in, from_out, the_event}
use Rattle.confluence_laws.proofs.Ranks.{rises_in}
use Rattle.confluence_laws.proofs.Waiting.{GoesOn, IsCalm, IsHalted, IsWaiting, Waits, halted_at, never_back}
use Rattle.confluence_laws.proofs.Waiting.Waits.{to_read, to_see, to_write}
use Rattle.net_graph.specs.Fed.{fed}
use Rattle.net_graph.proofs.Feeds.{fed_formed}
use Rattle.stall_lint.specs.ClosedWalks.{IsClosedWalk, IsRound}
use Rattle.stall_lint.specs.Groups.{InOneGroup, IsInner}
use Rattle.stall_lint.specs.Groups.InOneGroup.{alone, down, up}
use Rattle.stall_lint.specs.Never.{HasNoDam, NeverStalls}
use Rattle.stall_lint.proofs.Alike.{strand_of}
use Rattle.stall_lint.specs.Circles.{AreEnds}
use Rattle.stall_lint.specs.declared.hops.Hop.{Hop}
use Rattle.stall_lint.proofs.Leaves.{IsGrouping, IsLeaving, leaves_group}
use Rattle.stall_lint.proofs.Repeats.{IsEndless, round}
use Rattle.stall_lint.proofs.RingRounds.{Reaches, acyclic, ends_there}
use Rattle.stall_lint.proofs.Trails.{group_back, group_on}
use Rattle.stall_lint.proofs.Turns.{closed_walk}

-- Where nothing is to be shown but that something can't be, finitely many questions may be taken as decided

decided : (P : Type 0) → (P ⊎ (P → ⊥) → ⊥) → ⊥
decided P fails = fails (inr (λ p. fails (inl p)))

all_decided : (n : ℕ) (A : ℕ → Type 0) → ((k : ℕ) → k < n → (A k → ⊥) → ⊥) → (((k : ℕ) → k < n → A k) → ⊥) → ⊥
all_decided zero A each fails = fails (λ k lt. absurd (omega (arith, lt)))
all_decided (suc n) A each fails = all_decided n A (λ k lt. each k (omega (arith, lt))) (λ all. each n (omega arith) (λ a. fails (λ k lt. elim (equal_or_not k n) [
  | inl it ↦ subst A (sym it) a
  | inr other ↦ all k (omega (arith, lt, other))
])))

-- a strand waits at the one end of a link for the other
wait_ends : (net : Net) → IsWellFormed net → (st : State) (s t : Who) (l : Link) → Waits net st s l t → AreEnds l s t
wait_ends net formed st s t l (to_write o rec want e plain to) = inl ((from_out net formed st s o l e).0, to)
wait_ends net formed st s t l (to_read i want e from) = inr (from, (from_in net formed st s i l e).0)
wait_ends net formed st s t l (to_see i want e from) = inr (from, (from_in net formed st s i l e).0)

-- each link is inner or not
abbrev InnerOrNot : Net → Type 0
InnerOrNot net = (j : ℕ) (l : Link) → slice_get net.links j ≡ Some l → IsInner net l ⊎ (IsInner net l → ⊥)

-- each two strands are in one group or not
abbrev GroupOrNot : Net → Type 0
GroupOrNot net = (s t : Who) → s < length net.strands → t < length net.strands → InOneGroup net s t ⊎ (InOneGroup net s t → ⊥)

module _ (net : Net) (formed : IsWellFormed net) (settled : IsSettled net) (issues : IssuesNothing net) (undammed : HasNoDam net) (acyclic : IsAcyclic net) where
  -- what the net that is fed has
  fed_calm : (input : List ℕ) (files : List ℕ → Option (List ℕ)) → IsCalm (fed input files net)
  fed_calm input files = record {
    apart = λ s i l e one.
        let less = rises_in net formed acyclic s i l e in
        let to = ap acyclic.rank (from_in net formed nothing_yet s i l e).0 in
        let from = ap acyclic.rank one in
        absurd (omega (arith, less, to, from));
    strict = λ s q is loose. (let p = strand_of input files net nothing_yet s q is in subst (Meets net s) (sym p.2.meeting ∙ loose) (settled s p.0 p.1));
    issues = λ s q is. (let p = strand_of input files net nothing_yet s q is in p.2.issues ∙ issues s p.0 p.1);
    whole = λ s q is streamed. (let p = strand_of input files net nothing_yet s q is in undammed s p.0 p.1 (sym p.2.parting ∙ streamed));
  }

  -- Where a strand goes on and no entry can be added, the way from it goes on for ever

  module _ (input : List ℕ) (files : List ℕ → Option (List ℕ)) (inner_or_not : InnerOrNot net) (st : State) (halted : IsHalted (fed input files net) st) where
    whole_formed : IsWellFormed (fed input files net)
    whole_formed = fed_formed input files net formed

    groups : IsGrouping net (InOneGroup net) (λ j l. IsInner net l → ⊥)
    groups = record {
      itself = λ s. alone;
      on = group_on net;
      inner = λ l inner. down l inner alone;
      inner_back = λ l inner. up l inner alone;
      either = inner_or_not;
    }

    abbrev Leaving : Who → Type 0
    Leaving = IsLeaving input files net formed acyclic (InOneGroup net) (λ j l. IsInner net l → ⊥) groups whole_formed (fed_calm input files) st halted

    leaving : (s : Who) → GoesOn (fed input files net) st s → Leaving s
    leaving s on = leaves_group input files net formed acyclic (InOneGroup net) (λ j l. IsInner net l → ⊥) groups whole_formed (fed_calm input files) st halted s on

    -- a strand that goes on
    record Place : Type 0 where
      who : Who
      on : GoesOn (fed input files net) st who

    next_place : Place → Place
    next_place p = (let way = leaving p.who p.on in record { who = way.wait.other; on = way.wait.goes_on })

    -- the places on the way from one
    abbrev place : Place → ℕ → Place
    place start zero = start
    place start (suc i) = next_place (place start i)

    hop_from : Place → Hop
    hop_from p = (let way = leaving p.who p.on in record { exit = way.at; link = way.wait.place; entry = way.wait.other })

    endless : (start : Place) → IsEndless net (λ i. hop_from (place start i))
    unfolding next_place hop_from
    endless start = record {
      each = λ i. (
          let way = leaving (place start i).who (place start i).on in
          record { link = way.wait.link; at = way.wait.at; edge = way.edge; ends = wait_ends (fed input files net) whole_formed st way.at way.wait.other way.wait.link way.wait.waits });
      within = λ i. (let p = place start (suc i) in let q = strand_of input files net st p.who p.on.strand p.on.there in slice_get_within net.strands p.who q.0 q.1);
      joined = λ i. (let p = place start (suc i) in let way = leaving p.who p.on in group_back net way.at p.who way.in_group);
      never_back = λ i exit number. back (leaving (place start i).who (place start i).on).wait (leaving (place start (suc i)).who (place start (suc i)).on).at
          (leaving (place start (suc i)).who (place start (suc i)).on).wait exit number;
    }
      where
        back : {s : Who} (first : IsWaiting (fed input files net) st s) (t : Who) (second : IsWaiting (fed input files net) st t) → t ≡ first.other → second.place ≡ first.place → ⊥
        back first t second exit number =
            let links : Some second.link ≡ Some first.link = sym second.at ∙ ap (slice_get net.links) number ∙ first.at in
            let link : second.link ≡ first.link = cc in
            never_back (fed input files net) whole_formed (fed_calm input files) st halted _ first.other second.other first.link first.waits
            (subst (λ z. Waits (fed input files net) st z first.link second.other) exit (subst (λ z. Waits (fed input files net) st t z second.other) link second.waits))

  -- so none does
  none_goes_on : ((walk : List ℕ) → IsRound net walk → ⊥) → (input : List ℕ) (files : List ℕ → Option (List ℕ)) (st : State) → IsHalted (fed input files net) st → (s : Who) → GoesOn (fed input files net) st s → ⊥
  none_goes_on unclosed input files st halted s on = inner_decided (λ inner_or_not. groups_decided (λ group_or_not.
      let way = round net _ (endless input files inner_or_not st halted (record { who = s; on = on })) group_or_not in unclosed way.0 way.1))
    where
      inner_decided : (InnerOrNot net → ⊥) → ⊥
      inner_decided fails = all_decided (length net.links) (λ j. (l : Link) → slice_get net.links j ≡ Some l → IsInner net l ⊎ (IsInner net l → ⊥))
          (λ j lt fail. let l = at_some net.links j lt in decided (IsInner net l.0) (λ d. fail (λ m at. subst (λ z. IsInner net z ⊎ (IsInner net z → ⊥)) (let e : Some l.0 ≡ Some m = sym l.1 ∙ at in let it : l.0 ≡ m = cc in it) d)))
          (λ all. fails (λ j l at. all j (slice_get_within net.links j l at) l at))

      groups_decided : (GroupOrNot net → ⊥) → ⊥
      groups_decided fails = all_decided (length net.strands) (λ s. (t : Who) → t < length net.strands → InOneGroup net s t ⊎ (InOneGroup net s t → ⊥))
          (λ s lt fail. all_decided (length net.strands) (λ t. InOneGroup net s t ⊎ (InOneGroup net s t → ⊥)) (λ t lt_t. decided (InOneGroup net s t)) fail)
          (λ all. fails (λ s t lt_s lt_t. all s lt_s t lt_t))

  not_stalled : ((walk : List ℕ) → IsRound net walk → ⊥) → (input : List ℕ) (files : List ℕ → Option (List ℕ)) (es : List Entry) → IsLegal (fed input files net) es → IsStalled (fed input files net) es → ⊥
  not_stalled unclosed input files es legal stalled = stalled.1 (λ s there. by_end s there (has_ended (past (play (fed input files net) es) s)) refl)
    where
      by_end : (s : Who) → IsThere (fed input files net) (play (fed input files net) es) s → (b : Bool) → has_ended (past (play (fed input files net) es) s) ≡ b → has_ended (past (play (fed input files net) es) s) ≡ true
      by_end s there true is = is
      by_end s there false is =
          let p = the_event (strand_at (fed input files net) (play (fed input files net) es) s) there in
          absurd (none_goes_on unclosed input files (play (fed input files net) es) (halted_at (fed input files net) (fed_formed input files net formed) es legal stalled.0) s (record { strand = p.0; there = p.1; going = is }))

-- each strand leads to each other or not
reach_decided : (net : Net) → IsWellFormed net → (((s t : Who) → Reaches net s t ⊎ (Reaches net s t → ⊥)) → ⊥) → ⊥
reach_decided net formed fails = all_decided (length net.strands) (λ s. (t : Who) → t < length net.strands → Reaches net s t ⊎ (Reaches net s t → ⊥))
    (λ s lt fail. all_decided (length net.strands) (λ t. Reaches net s t ⊎ (Reaches net s t → ⊥)) (λ t lt_t. decided (Reaches net s t)) fail)
    (λ all. fails (λ s t. elim (cases_lt s (length net.strands)) [
      | inl lt_s ↦ elim (cases_lt t (length net.strands)) [
        | inl lt_t ↦ all s lt_s t lt_t
        | inr le ↦ inr (λ reaches. let lt = (ends_there net formed s t reaches).1 in absurd (omega (arith, le, lt)))
      ]
      | inr le ↦ inr (λ reaches. let lt = (ends_there net formed s t reaches).0 in absurd (omega (arith, le, lt)))
    ]))

pub never_stalls : (net : Net) → IsWellFormed net → IsSettled net → IssuesNothing net → HasNoDam net → ((walk : List ℕ) → IsClosedWalk net walk → ⊥) → NeverStalls net
never_stalls net formed settled issues undammed unclosed input files es legal stalled =
    let no_round : (walk : List ℕ) → IsRound net walk → ⊥ = λ walk round. (let turned = closed_walk net walk round in unclosed turned.0 turned.1) in
    reach_decided net formed (λ reach. not_stalled net formed settled issues undammed (acyclic net formed undammed no_round reach) no_round input files es legal stalled)
