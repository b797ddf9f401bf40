-- Within a group the way from strand to strand that waits goes up inner links, then down, and leaves the group over an edge.
use Rattle.std.proofs.Common.{◌≡◌, ◌⊎◌, inl, inr, ℕ, zero, suc, ◌+◌, ◌<◌, ◌≤◌, ◌==◌, true, false, List, length, sym, ◌∙◌, ap, subst, arith, Option, Some, slice_get}
use Rattle.pipe_model.specs.declared.net.Net.{Net}
use Rattle.pipe_model.specs.declared.net.Link.{Link}
use Rattle.pipe_model.specs.declared.net.Strand.{Strand}
use Rattle.pipe_model.specs.Event.{Want}
use Rattle.pipe_model.specs.Event.Want.{Any, Read, Write}
use Rattle.pipe_model.specs.Form.Meeting.{Braided}
use Rattle.pipe_model.specs.Licence.{none_left, want_after, want_at}
use Rattle.pipe_model.specs.Plain.{IsAcyclic}
use Rattle.pipe_model.specs.Settled.{is_thin}
use Rattle.pipe_model.specs.State.{State, Who, link_in, link_into, link_out, nothing_yet, past, strand_in}
use Rattle.pipe_model.specs.Table.{form}
use Rattle.pipe_model.specs.WellFormed.{IsWellFormed}
use Rattle.pipe_model.proofs.Truths.{both}
use Rattle.confluence_laws.proofs.Basics.{from_in, from_out}
use Rattle.confluence_laws.proofs.Facts.{asked_by}
use Rattle.confluence_laws.proofs.Fitting.{StandsFor, past_of, stands_for}
use Rattle.confluence_laws.proofs.Ranks.{fewer, lower, not_all}
use Rattle.confluence_laws.proofs.Sound.{sound_line}
use Rattle.confluence_laws.proofs.Waiting.{GoesOn, IsCalm, IsHalted, IsWaiting, Waits, any_shows, read_shows, waits_there, written_on}
use Rattle.confluence_laws.proofs.Waiting.Waits.{to_read, to_see, to_write}
use Rattle.net_graph.specs.Fed.{fed}
use Rattle.stall_lint.specs.Groups.{IsFollowed, IsInner}
use Rattle.stall_lint.specs.Groups.IsFollowed.{at_join, onward}
use Rattle.stall_lint.proofs.Alike.{IsAlike, strand_of}

-- the strand at the end of an inner link takes its records from that link alone, or takes what comes first
pub record IsConsumer (net : Net) (l : Link) : Type 0 where
  pub strand : Strand
  pub there : strand_in net l.to ≡ Some strand
  pub takes : ((is_thin strand ≡ true) × (link_into net l.to 0 ≡ Some l)) ⊎ ((form strand).meeting ≡ Braided)

pub inner_consumer : (net : Net) → IsWellFormed net → (l : Link) → IsInner net l → IsConsumer net l
inner_consumer net formed l inner = by inner.followed
  where
    by : IsFollowed net inner.join inner.parts l → IsConsumer net l
    by (at_join i e) =
        let to = (from_in net formed nothing_yet inner.join i l e).0 in
        record { strand = inner.strand; there = ap (strand_in net) to ∙ inner.there; takes = inr inner.takes_first }
    by (onward t p stands apart here thin e) =
        let to = (from_in net formed nothing_yet t 0 l e).0 in
        record { strand = p; there = ap (strand_in net) to ∙ here; takes = inl (thin, subst (λ z. link_into net z 0 ≡ Some l) (sym to) e) }

-- a relation that holds within each group, and what each link is that isn't inner
pub record IsGrouping (net : Net) (Same : Who → Who → Type 0) (Edge : ℕ → Link → Type 0) : Type 0 where
  pub itself : (s : Who) → Same s s
  pub on : (s t u : Who) → Same s t → Same t u → Same s u
  pub inner : (l : Link) → IsInner net l → Same l.from l.to
  pub inner_back : (l : Link) → IsInner net l → Same l.to l.from
  pub either : (j : ℕ) (l : Link) → slice_get net.links j ≡ Some l → IsInner net l ⊎ Edge j l

module _ (input : List ℕ) (files : List ℕ → Option (List ℕ)) (net : Net) (formed : IsWellFormed net) (acyclic : IsAcyclic net) (Same : Who → Who → Type 0) (Edge : ℕ → Link → Type 0) (groups : IsGrouping net Same Edge) where
  abbrev pub whole : Net
  whole = fed input files net

  module _ (whole_formed : IsWellFormed whole) (calm : IsCalm whole) (st : State) (halted : IsHalted whole st) where
    -- the strand s waits that t takes its record from the link
    record Writes (s : Who) (l : Link) (t : Who) : Type 0 where
      output : ℕ
      rec : List ℕ
      wants : want_at whole st none_left s ≡ Some (Write output rec)
      at : link_out whole st s output ≡ Some l
      plain : l.queue ≡ false
      to : l.to ≡ t

    -- where a record is written on an inner link, its consumer waits to write one too
    module _ (s t : Who) (l : Link) (writes : Writes s l t) (inner : IsInner net l) (on : GoesOn whole st t) where
      consumer : IsConsumer net l
      consumer = inner_consumer net formed l inner

      written : want_at whole st none_left l.from ≡ Some (Write l.output writes.rec)
      written = written_on whole whole_formed calm st halted s t l writes.output writes.rec writes.wants writes.at

      alike : IsAlike consumer.strand on.strand
      alike =
          let p = strand_of input files net st t on.strand on.there in
          let same : Some p.0 ≡ Some consumer.strand = sym p.1 ∙ ap (strand_in net) (sym writes.to) ∙ consumer.there in
          (let one : p.0 ≡ consumer.strand = cc in subst (λ z. IsAlike z on.strand) one p.2)

      asks : (want : Want) → want_at whole st none_left t ≡ Some want → StandsFor on.strand (past st t) want
      asks want is = stands_for on.strand (past st t) (halted.reached.own t on.strand on.there) want (ap (λ z. want_after z (past st t)) (sym on.there) ∙ is)

      read_not : (i : ℕ) → want_at whole st none_left t ≡ Some (Read i) → ⊥
      read_not i is = (let asker = asks (Read i) is in by_taking asker.asked consumer.takes)
        where
          by_taking : asked_by on.strand (past_of on.strand (past st t)).known (Read i) → ((is_thin consumer.strand ≡ true) × (link_into net l.to 0 ≡ Some l)) ⊎ ((form consumer.strand).meeting ≡ Braided) → ⊥
          by_taking asked (inl (thin, e)) =
              let thin_is : (form on.strand).thin ≡ true = alike.thin ∙ (both (form consumer.strand).thin (consumer.strand.ports.inputs == 1) thin).0 in
              let reads = ((sound_line on.strand).thin thin_is).reads (past_of on.strand (past st t)).known (Read i) asked in
              let want : want_at whole st none_left t ≡ Some (Read 0) = is ∙ ap Some reads.0 in
              read_shows whole whole_formed calm st halted l writes.rec t 0 (subst (λ z. link_in whole st z 0 ≡ Some l) writes.to e) writes.plain written want
          by_taking asked (inr braided) =
              let any : Read i ≡ Any = (sound_line on.strand).braided (alike.meeting ∙ braided) (past_of on.strand (past st t)).known (Read i) asked in
              cc

      see_not : want_at whole st none_left t ≡ Some Any → ⊥
      see_not is =
          any_shows whole whole_formed calm st halted l writes.rec t l.input
          (subst (λ z. link_in whole st z l.input ≡ Some l) writes.to (from_out whole whole_formed st s writes.output l writes.at).2)
          writes.plain written is

      falls : (u : Who) (k : Link) → Waits whole st t k u → Writes t k u
      falls u k (to_write o rec want e plain to) = record { output = o; rec = rec; wants = want; at = e; plain = plain; to = to }
      falls u k (to_read i want e from) = absurd (read_not i want)
      falls u k (to_see i want e from) = absurd (see_not want)

    -- the way leaves the group of x over an edge
    pub record IsLeaving (x : Who) : Type 0 where
      pub at : Who
      pub in_group : Same at x
      pub wait : IsWaiting whole st at
      pub edge : Edge wait.place wait.link

    -- a way that leaves the group of t leaves that of s, if it is one group
    leaves_too : (s t : Who) → Same t s → IsLeaving t → IsLeaving s
    leaves_too s t one leaving = record { at = leaving.at; in_group = groups.on leaving.at t s leaving.in_group one; wait = leaving.wait; edge = leaving.edge }

    waiting : (s : Who) → GoesOn whole st s → IsWaiting whole st s
    waiting s on = waits_there whole whole_formed calm st halted s on

    -- how many strands rank lower
    pub below : Who → ℕ
    below t = lower net formed acyclic t

    few_below : (s : Who) → GoesOn whole st s → below s < length net.strands
    unfolding below
    few_below s on = (let p = strand_of input files net st s on.strand on.there in not_all net formed acyclic s p.0 p.1)

    link_below : (s i : ℕ) (l : Link) → link_in whole st s i ≡ Some l → suc (below l.from) ≤ below s
    unfolding below
    link_below s i l e = fewer net formed acyclic s i l e

    -- once it goes down it leaves by going down
    leaves_down : (n : ℕ) (s t : Who) (l : Link) → Writes s l t → IsInner net l → GoesOn whole st t → length net.strands ≤ n + below t → IsLeaving t
    leaves_down zero s t l writes inner on enough = (let few = few_below t on in absurd (omega (arith, enough, few)))
    leaves_down (suc n) s t l writes inner on enough =
        by_edge (groups.either wait.place wait.link wait.at) (λ further more. leaves_down n t wait.other wait.link next further wait.goes_on (omega (arith, enough, more)))
      where
        wait : IsWaiting whole st t
        wait = waiting t on

        next : Writes t wait.link wait.other
        next = falls s t l writes inner on wait.other wait.link wait.waits

        by_edge : IsInner net wait.link ⊎ Edge wait.place wait.link → (IsInner net wait.link → suc (below t) ≤ below wait.other → IsLeaving wait.other) → IsLeaving t
        by_edge (inr edge) further = record { at = t; in_group = groups.itself t; wait = wait; edge = edge }
        by_edge (inl inner_too) further =
            let ends = from_out whole whole_formed st t next.output wait.link next.at in
            let higher : suc (below wait.link.from) ≤ below wait.link.to = link_below wait.link.to wait.link.input wait.link ends.2 in
            let more : suc (below t) ≤ below wait.other = subst (λ z. suc (below z) ≤ below wait.other) ends.0 (subst (λ z. suc (below wait.link.from) ≤ below z) next.to higher) in
            let one : Same wait.other t = subst (λ z. Same z t) next.to (subst (Same wait.link.to) ends.0 (groups.inner_back wait.link inner_too)) in
            leaves_too t wait.other one (further inner_too more)

    -- from any strand that goes on the way leaves its group
    pub leaves : (n : ℕ) (s : Who) → GoesOn whole st s → below s < n → IsLeaving s
    leaves zero s on few = absurd (omega (arith, few))
    leaves (suc n) s on few = by_edge (groups.either wait.place wait.link wait.at) (λ fewer_there. leaves n wait.other wait.goes_on (omega (arith, few, fewer_there)))
      where
        wait : IsWaiting whole st s
        wait = waiting s on

        up_link : (i : ℕ) → link_in whole st s i ≡ Some wait.link → wait.link.from ≡ wait.other → IsInner net wait.link → (suc (below wait.other) ≤ below s → IsLeaving wait.other) → IsLeaving s
        up_link i e from inner lower_leaves =
            let fewer_there : suc (below wait.other) ≤ below s = subst (λ z. suc (below z) ≤ below s) from (link_below s i wait.link e) in
            let to = (from_in whole whole_formed st s i wait.link e).0 in
            let one : Same wait.other s = subst (λ z. Same z s) from (subst (Same wait.link.from) to (groups.inner wait.link inner)) in
            leaves_too s wait.other one (lower_leaves fewer_there)

        inside : IsInner net wait.link → Waits whole st s wait.link wait.other → (suc (below wait.other) ≤ below s → IsLeaving wait.other) → IsLeaving s
        inside inner (to_write o rec want e plain to) lower_leaves =
            let ends = from_out whole whole_formed st s o wait.link e in
            let writes : Writes s wait.link wait.other = record { output = o; rec = rec; wants = want; at = e; plain = plain; to = to } in
            let one : Same wait.other s = subst (λ z. Same z s) to (subst (Same wait.link.to) ends.0 (groups.inner_back wait.link inner)) in
            leaves_too s wait.other one (leaves_down (length net.strands) s wait.other wait.link writes inner wait.goes_on (omega arith))
        inside inner (to_read i want e from) lower_leaves = up_link i e from inner lower_leaves
        inside inner (to_see i want e from) lower_leaves = up_link i e from inner lower_leaves

        by_edge : IsInner net wait.link ⊎ Edge wait.place wait.link → (suc (below wait.other) ≤ below s → IsLeaving wait.other) → IsLeaving s
        by_edge (inr edge) lower_leaves = record { at = s; in_group = groups.itself s; wait = wait; edge = edge }
        by_edge (inl inner) lower_leaves = inside inner wait.waits lower_leaves

    pub leaves_group : (s : Who) → GoesOn whole st s → IsLeaving s
    leaves_group s on = leaves (suc (below s)) s on (omega arith)
