-- The walks back along a list of next strands are those that inner links follow.
use Rattle.std.proofs.Common.{◌≡◌, ◌≢◌, ◌⊎◌, inl, inr, ℕ, zero, suc, ◌≤◌, ◌<◌, Bool, true, false, cond, ◌&&◌, ◌||◌, ◌==◌, List, [], ◌∷◌, length, refl, sym, ◌∙◌, ap, subst, arith, Option, Some, None, is_some, slice_get}
use Rattle.std.proofs.lemmas.Bool.{cases_lt, eqb-true}
use Rattle.std.proofs.lemmas.Option.{slice_get_within}
use Rattle.std.specs.Prelude.{unwrap_or}
use Rattle.pipe_model.specs.declared.net.Net.{Net}
use Rattle.pipe_model.specs.declared.net.Link.{Link}
use Rattle.pipe_model.specs.declared.net.Strand.{Strand}
use Rattle.pipe_model.specs.Members.{flag_at, has}
use Rattle.pipe_model.specs.Settled.{fork, from_of, is_thin, next_on_walk, or_else, producer_at, rounds, thin_at, walk}
use Rattle.pipe_model.specs.State.{Who, link_into, nothing_yet, same, strand_in}
use Rattle.pipe_model.specs.Table.{form}
use Rattle.pipe_model.specs.WellFormed.{IsWellFormed}
use Rattle.pipe_model.proofs.Lists.{found_at}
use Rattle.pipe_model.proofs.Numbers.{equal_or_not}
use Rattle.pipe_model.proofs.Truths.{both, either, neither}
use Rattle.confluence_laws.proofs.Basics.{from_in, the_event}
use Rattle.confluence_laws.proofs.Forked.{are_forked}
use Rattle.confluence_laws.proofs.Settles.{forks_there, producer_there, thin_no_fork, walk_goes}
use Rattle.confluence_laws.proofs.Sums.{few_pass}
use Rattle.confluence_laws.proofs.Total.{link_there}
use Rattle.confluence_laws.proofs.Upstream.{Upstream}
use Rattle.confluence_laws.proofs.Upstream.Upstream.{begins as here_already, through, over_join}
use Rattle.confluence_laws.proofs.Walks.{rounds_right}
use Rattle.braid_check.specs.Walks.{AreNexts, Nexts, next_at, stood}
use Rattle.braid_check.proofs.Ways.{stood_more}
use Rattle.stall_lint.specs.Grouped.{AreInner}
use Rattle.stall_lint.specs.Groups.{IsFollowed, IsInner, StandsOn}
use Rattle.stall_lint.specs.Groups.IsFollowed.{at_join, onward}
use Rattle.stall_lint.specs.Groups.StandsOn.{begins, goes_over, goes_through}
use Rattle.stall_lint.specs.WalksBack.{AreMarkedLinks, ArePassed, IsBefore, IsPassed}
use Rattle.stall_lint.proofs.Passing.{stood_none}

-- the step before
stood_last : (nexts : Nexts) (k : ℕ) (at : Option Who) (t : Who) → stood nexts (suc k) at ≡ Some t → (u : Who) × (stood nexts k at ≡ Some u) × (next_at nexts u ≡ Some t)
stood_last nexts zero None t e = cc
stood_last nexts zero (Some u) t e = (u, refl, e)
stood_last nexts (suc k) None t e = cc
stood_last nexts (suc k) (Some u) t e = stood_last nexts k (next_at nexts u) t e

-- what is known where ways part
abbrev pub on_from : Net → Who → Option Who
on_from net t = cond (thin_at (strand_in net t)) (producer_at net t 0) None

module _ (net : Net) (formed : IsWellFormed net) where
  -- a link to a thin strand leads to its input
  pub thin_link : (j : ℕ) (l : Link) → slice_get net.links j ≡ Some l → (p : Strand) → strand_in net l.to ≡ Some p → is_thin p ≡ true → link_into net l.to 0 ≡ Some l
  thin_link j l at p there thin =
      let joined = formed.joined j l at in
      let one : joined.consumer ≡ p = (let z : Some joined.consumer ≡ Some p = sym joined.to_strand ∙ there in cc) in
      let less : l.input < p.ports.inputs = subst (λ (z : Strand). l.input < z.ports.inputs) one joined.input in
      let single = eqb-true p.ports.inputs 1 (both (form p).thin (p.ports.inputs == 1) thin).1 in
      let first : l.input ≡ 0 = omega (arith, less, single) in
      subst (λ i. link_into net l.to i ≡ Some l) first (link_there net formed j l at)

  module _ (nexts : Nexts) (walks : AreNexts net (length net.strands) nexts) where
    -- Steps

    -- a walk goes on through a thin strand
    record IsThrough (t u : Who) : Type 0 where
      strand : Strand
      there : strand_in net t ≡ Some strand
      thin : is_thin strand ≡ true
      link : Link
      into : link_into net t 0 ≡ Some link
      from : link.from ≡ u

    -- or over one to which the ways part
    goes_on : (t u : Who) → next_at nexts t ≡ Some u → (fork net t ≡ Some u) ⊎ IsThrough t u
    goes_on t u e = by_fork (fork net t) refl (sym (walks.each t) ∙ e)
      where
        by_link : (p : Strand) → strand_in net t ≡ Some p → is_thin p ≡ true → (lk : Option Link) → link_into net t 0 ≡ lk → from_of lk ≡ Some u → IsThrough t u
        by_link p there thin None is q = cc
        by_link p there thin (Some l) is q = record { strand = p; there = there; thin = thin; link = l; into = is; from = cc }

        by_thin : (m : Option Strand) → strand_in net t ≡ m → (b : Bool) → thin_at m ≡ b → cond b (producer_at net t 0) None ≡ Some u → IsThrough t u
        by_thin None there true thin q = cc
        by_thin (Some p) there true thin q = by_link p there thin (link_into net t 0) refl q
        by_thin m there false thin q = cc

        by_fork : (x : Option Who) → fork net t ≡ x → or_else x (on_from net t) ≡ Some u → (fork net t ≡ Some u) ⊎ IsThrough t u
        by_fork (Some m) is q = inl (is ∙ q)
        by_fork None is q = inr (by_thin (strand_in net t) refl (thin_at (strand_in net t)) refl q)

    over : (t m : Who) → fork net t ≡ Some m → next_at nexts t ≡ Some m
    over t m is = walks.each t ∙ ap (λ z. or_else z (on_from net t)) is

    past_thin : (t : Who) (p : Strand) (l : Link) → strand_in net t ≡ Some p → is_thin p ≡ true → link_into net t 0 ≡ Some l → next_at nexts t ≡ Some l.from
    past_thin t p l is thin e =
        walks.each t
        ∙ ap (λ z. or_else z (on_from net t)) (thin_no_fork net formed (length net.strands) t p is thin)
        ∙ ap (λ x. cond (thin_at x) (producer_at net t 0) None) is ∙ ap (λ b. cond b (producer_at net t 0) None) thin ∙ ap from_of e

    -- Walks back from s before d

    -- who stands on it after some steps stands on it
    stands : (s d : Who) (i : ℕ) (l : Link) → link_into net s i ≡ Some l → (k : ℕ) (t : Who) → stood nexts k (Some l.from) ≡ Some t → ((j : ℕ) → j < k → stood nexts j (Some l.from) ≢ Some d) → StandsOn net s d t
    stands s d i l e zero t at before = subst (StandsOn net s d) (let z : l.from ≡ t = cc in z) (begins i l e)
    stands s d i l e (suc k) t at before =
        let last = stood_last nexts k (Some l.from) t at in
        let on = stands s d i l e k last.0 last.1 (λ j lt. before j (omega (arith, lt))) in
        let apart : last.0 ≢ d = λ is. before k (omega arith) (last.1 ∙ ap Some is) in
        elim (goes_on last.0 t last.2) [
          | inl is ↦ goes_over on apart is
          | inr thin ↦ subst (StandsOn net s d) thin.from (goes_through thin.strand thin.link on apart thin.there thin.thin thin.into)
        ]

    -- and the other way round
    record IsWalked (s d t : Who) : Type 0 where
      input : ℕ
      link : Link
      into : link_into net s input ≡ Some link
      steps : ℕ
      at : stood nexts steps (Some link.from) ≡ Some t
      before : (j : ℕ) → j < steps → stood nexts j (Some link.from) ≢ Some d

    apart_so_far : (s d t : Who) (w : IsWalked s d t) → t ≢ d → (j : ℕ) → j ≤ w.steps → stood nexts j (Some w.link.from) ≢ Some d
    apart_so_far s d t w apart j le is = elim (equal_or_not j w.steps) [
      | inl it ↦ (let z : Some t ≡ Some d = sym w.at ∙ ap (λ n. stood nexts n (Some w.link.from)) (sym it) ∙ is in apart cc)
      | inr other ↦ w.before j (omega (arith, le, other)) is
    ]

    one_on : (s d t u : Who) → IsWalked s d t → t ≢ d → next_at nexts t ≡ Some u → IsWalked s d u
    one_on s d t u w apart e = record {
      input = w.input;
      link = w.link;
      into = w.into;
      steps = suc w.steps;
      at = stood_more nexts w.steps (Some w.link.from) t w.at ∙ e;
      before = λ j lt. apart_so_far s d t w apart j (omega (arith, lt));
    }

    walked : (s d t : Who) → StandsOn net s d t → IsWalked s d t
    walked s d _ (begins i l e) = record { input = i; link = l; into = e; steps = 0; at = refl; before = λ j lt. absurd (omega (arith, lt)) }
    walked s d _ (goes_through {t} p l on apart here thin e) = one_on s d t l.from (walked s d t on) apart (past_thin t p l here thin e)
    walked s d _ (goes_over {t} {m} on apart is) = one_on s d t m (walked s d t on) apart (over t m is)

    -- It comes to d

    -- what stands on the computed walk stands there after so many steps
    walk_stood : (m : ℕ) (seen : List Who) (at : Option Who) (d : Who) → has (walk net (rounds net (length net.strands)) m seen at) d ≡ true → (k : ℕ) × (k < m) × (stood nexts k at ≡ Some d)
    walk_stood zero seen at d on = cc
    walk_stood (suc m) seen None d on = cc
    walk_stood (suc m) seen (Some t) d on = by_seen (has seen t) on (λ q. walk_stood m (t ∷ seen) (next_on_walk net (rounds net (length net.strands)) t) d q)
      where
        rest : List Who
        rest = walk net (rounds net (length net.strands)) m (t ∷ seen) (next_on_walk net (rounds net (length net.strands)) t)

        Later : Type 0
        Later = has rest d ≡ true → (k : ℕ) × (k < m) × (stood nexts k (next_on_walk net (rounds net (length net.strands)) t) ≡ Some d)

        by_head : (b : Bool) → (t == d) ≡ b → (b || has rest d) ≡ true → Later → (k : ℕ) × (k < suc m) × (stood nexts k (Some t) ≡ Some d)
        by_head true is q later = (0, omega arith, ap Some (eqb-true t d is))
        by_head false is q later = (let r = later q in (suc r.0, (let lt = r.1 in omega (arith, lt)), ap (stood nexts r.0) (walks.each t) ∙ r.2))

        by_seen : (b : Bool) → has (cond b [] (t ∷ rest)) d ≡ true → Later → (k : ℕ) × (k < suc m) × (stood nexts k (Some t) ≡ Some d)
        by_seen true q later = cc
        by_seen false q later = by_head (t == d) refl q later

    comes_to : (s d : Who) (i : ℕ) (l : Link) → fork net s ≡ Some d → link_into net s i ≡ Some l → (k : ℕ) × (k < length net.strands) × (stood nexts k (Some l.from) ≡ Some d)
    comes_to s d i l is e =
        let there : (t : Who) → Some l.from ≡ Some t → t < length net.strands = λ t q. producer_there net formed s i t (ap from_of e ∙ q) in
        let goes = walk_goes net formed known (forks_there net formed (length net.strands)) (length net.strands) [] (Some l.from) there (few_pass (λ t. true) (length net.strands)) in
        walk_stood (length net.strands) [] (Some l.from) d (reached (walk net known (length net.strands) [] (Some l.from)) goes.goes l.from (are_forked net formed s d i l is e) (goes.starts l.from refl))
      where
        known : List (Option Who)
        known = rounds net (length net.strands)

        reached : (on : List Who) → ((x y : Who) → has on x ≡ true → next_on_walk net known x ≡ Some y → has on y ≡ true) → (t : Who) → Upstream net d t → has on t ≡ true → has on d ≡ true
        reached on closed t here_already here = here
        reached on closed t (through p k at thin e rest) here = reached on closed k.from rest (closed t k.from here (sym (walks.each t) ∙ past_thin t p k at thin e))
        reached on closed t (over_join p m at braided q rest) here = reached on closed m rest (closed t m here (sym (walks.each t) ∙ over t m q))

    -- so who stands on it before d is less steps away than there are strands
    is_before : (s d t : Who) → fork net s ≡ Some d → (w : IsWalked s d t) → t ≢ d → IsBefore nexts (length nexts) w.link.from d t
    is_before s d t is w apart =
        let goal = comes_to s d w.input w.link is w.into in
        let few : w.steps < goal.0 = elim (cases_lt w.steps goal.0) [ inl lt ↦ lt | inr le ↦ absurd (apart_so_far s d t w apart goal.0 le goal.2) ] in
        record { steps = w.steps; few = (let count = walks.count in let less = goal.1 in omega (arith, few, less, count)); there = w.at; before = apart_so_far s d t w apart }

    -- Inner links

    module _ (passed : List Bool) (are : ArePassed net nexts (length net.links) passed) where
      -- a link to a strand to which the ways part is inner
      into_join : (j : ℕ) (l : Link) → slice_get net.links j ≡ Some l → (d : Who) → fork net l.to ≡ Some d → IsInner net l
      into_join j l at d is =
          let f = rounds_right net (length net.strands) l.to d is in
          record { join = l.to; strand = f.strand; there = f.there; takes_first = f.braided; parts = d; parts_is = is; followed = at_join l.input (link_there net formed j l at) }

      -- a walk goes on from a strand before where its ways part
      goes_further : (s d : Who) (i : ℕ) (l : Link) → fork net s ≡ Some d → link_into net s i ≡ Some l → (n : ℕ) (t : Who) → IsBefore nexts n l.from d t → (u : Who) × (next_at nexts t ≡ Some u)
      goes_further s d i l is e n t b = by_next (next_at nexts t) refl
        where
          by_next : (x : Option Who) → next_at nexts t ≡ x → (u : Who) × (next_at nexts t ≡ Some u)
          by_next (Some u) next = (u, next)
          by_next None none =
              let goal = comes_to s d i l is e in
              let further : suc b.steps ≤ goal.0 = elim (cases_lt b.steps goal.0) [ inl lt ↦ omega (arith, lt) | inr le ↦ absurd (b.before goal.0 le goal.2) ] in
              let z : None ≡ Some d = sym (stood_none nexts (suc b.steps) goal.0 (Some l.from) (stood_more nexts b.steps (Some l.from) t b.there ∙ none) further) ∙ goal.2 in
              cc

      -- as is one to a strand that a walk passes
      into_passed : (j : ℕ) (l : Link) → slice_get net.links j ≡ Some l → IsPassed net nexts (length net.links) l.to → IsInner net l
      into_passed j l at p =
          let e = link_there net formed p.number p.link p.at in
          let b = p.before in
          let next = goes_further p.link.to p.parts p.link.input p.link p.parts_is e (length nexts) l.to b in
          elim (goes_on l.to next.0 next.1) [
            | inl is ↦ into_join j l at next.0 is
            | inr thin ↦
                let f = rounds_right net (length net.strands) p.link.to p.parts p.parts_is in
                let on = stands p.link.to p.parts p.link.input p.link e b.steps l.to b.there (λ k lt. b.before k (omega (arith, lt))) in
                let apart : l.to ≢ p.parts = λ is. b.before b.steps (omega arith) (b.there ∙ ap Some is) in
                record {
                  join = p.link.to;
                  strand = f.strand;
                  there = f.there;
                  takes_first = f.braided;
                  parts = p.parts;
                  parts_is = p.parts_is;
                  followed = onward l.to thin.strand on apart thin.there thin.thin (thin_link j l at thin.strand thin.there thin.thin);
                }
          ]

      flagged : (t : Who) → flag_at passed t ≡ true → slice_get passed t ≡ Some true
      flagged t = by_flag (slice_get passed t)
        where
          by_flag : (x : Option Bool) → unwrap_or x false ≡ true → x ≡ Some true
          by_flag None q = cc
          by_flag (Some b) q = ap Some q

      pub is_inner : (j : ℕ) (l : Link) → slice_get net.links j ≡ Some l → (is_some (fork net l.to) || flag_at passed l.to) ≡ true → IsInner net l
      is_inner j l at test = elim (either (is_some (fork net l.to)) (flag_at passed l.to) test) [
        | inl some ↦ (let d = the_event (fork net l.to) some in into_join j l at d.0 d.1)
        | inr on ↦ into_passed j l at (are.only l.to (flagged l.to on))
      ]

      -- and no other
      pub not_inner : (l : Link) → (is_some (fork net l.to) || flag_at passed l.to) ≡ false → IsInner net l → ⊥
      not_inner l test inner = by inner.followed
        where
          fails : (is_some (fork net l.to) ≡ false) × (flag_at passed l.to ≡ false)
          fails = neither (is_some (fork net l.to)) (flag_at passed l.to) test

          passes : (t : Who) → l.to ≡ t → IsWalked inner.join inner.parts t → t ≢ inner.parts → ⊥
          passes t to w apart =
              let ends = from_in net formed nothing_yet inner.join w.input w.link w.into in
              let r = (found_at (λ k. same k.to inner.join && k.input == w.input) net.links w.into).1 in
              let on = are.all t (record {
                number = r.0;
                few = slice_get_within net.links r.0 w.link r.1;
                link = w.link;
                at = r.1;
                parts = inner.parts;
                parts_is = ap (fork net) ends.0 ∙ inner.parts_is;
                before = is_before inner.join inner.parts t inner.parts_is w apart;
              }) in
              let z : false ≡ true = sym fails.1 ∙ ap (flag_at passed) to ∙ ap (λ x. unwrap_or x false) on in
              cc

          by : IsFollowed net inner.join inner.parts l → ⊥
          by (at_join i e) = (let z : false ≡ true = sym fails.0 ∙ ap (λ s. is_some (fork net s)) (from_in net formed nothing_yet inner.join i l e).0 ∙ ap is_some inner.parts_is in cc)
          by (onward t p on apart here thin e) = passes t (from_in net formed nothing_yet t 0 l e).0 (walked inner.join inner.parts t on) apart

      -- marks that say so
      pub are_inner : (inner : List Bool) → AreMarkedLinks net passed (length net.links) inner → AreInner net inner
      are_inner inner marks = record {
        count = marks.count;
        marked = λ j l at is. is_inner j l at (let z : Some (is_some (fork net l.to) || flag_at passed l.to) ≡ Some true = sym (mark j l at) ∙ is in let w : (is_some (fork net l.to) || flag_at passed l.to) ≡ true = cc in w);
        unmarked = λ j l at is. not_inner l (let z : Some (is_some (fork net l.to) || flag_at passed l.to) ≡ Some false = sym (mark j l at) ∙ is in let w : (is_some (fork net l.to) || flag_at passed l.to) ≡ false = cc in w);
      }
        where
          mark : (j : ℕ) (l : Link) → slice_get net.links j ≡ Some l → slice_get inner j ≡ Some (is_some (fork net l.to) || flag_at passed l.to)
          mark j l at = marks.each j l (slice_get_within net.links j l at) at
