-- Where the ways to a join part: what stands on the computed walks stands upstream.
use Rattle.std.proofs.Common.{◌≡◌, ℕ, zero, suc, Bool, true, false, cond, ◌||◌, not, ◌==◌, List, [], ◌∷◌, length, refl, ap, subst, Option, Some, None, is_some}
use Rattle.std.specs.List.{list_all}
use Rattle.std.proofs.lemmas.Bool.{eqb-true}
use Rattle.pipe_model.specs.declared.net.Net.{Net}
use Rattle.pipe_model.specs.declared.net.Link.{Link}
use Rattle.pipe_model.specs.declared.net.Strand.{Strand}
use Rattle.pipe_model.specs.Members.{has}
use Rattle.pipe_model.specs.State.{Who, strand_in, link_into}
use Rattle.pipe_model.specs.WellFormed.{IsWellFormed}
use Rattle.pipe_model.specs.Settled.{is_thin, connected_inputs, from_of, producer_at, thin_at, issues_at, or_else, fork_in, next_on_walk, walk, walk_of, joins_at, rounds, fork, has_none, is_braided}
use Rattle.pipe_model.proofs.Truths.{both}
use Rattle.pipe_model.proofs.Lists.{found_at}
use Rattle.confluence_laws.proofs.Basics.{the_event}
use Rattle.confluence_laws.proofs.Places.{link_input}
use Rattle.confluence_laws.proofs.Forks.{grows, found_once, joining}
use Rattle.confluence_laws.proofs.Walks.{all_has, rounds_right}
use Rattle.confluence_laws.proofs.Upstream.{Upstream, AreForked}
use Rattle.confluence_laws.proofs.Upstream.Upstream.{begins, through, over_join}

-- what stands on a walk stands upstream
on_walk_upstream : (net : Net) (n : ℕ) → ((t m : Who) → fork_in (rounds net n) t ≡ Some m → fork net t ≡ Some m) → (d : Who) (k : ℕ) (seen : List Who) (at : Option Who) → has (walk net (rounds net n) k seen at) d ≡ true → (t : Who) → at ≡ Some t → Upstream net d t
on_walk_upstream net n known d zero seen at on t is = cc
on_walk_upstream net n known d (suc k) seen None on t is = cc
on_walk_upstream net n known d (suc k) seen (Some u) on t is = let one : u ≡ t = cc in subst (Upstream net d) one (fresh (has seen u) on (λ at q v e. on_walk_upstream net n known d k (u ∷ seen) at q v e))
  where
    Rest : Type 0
    Rest = (at : Option Who) → has (walk net (rounds net n) k (u ∷ seen) at) d ≡ true → (v : Who) → at ≡ Some v → Upstream net d v

    by_link : (p : Strand) → strand_in net u ≡ Some p → is_thin p ≡ true → (lk : Option Link) → link_into net u 0 ≡ lk → has (walk net (rounds net n) k (u ∷ seen) (from_of lk)) d ≡ true → Rest → Upstream net d u
    by_link p here thin None e q rest = absurd (no_walk k q)
      where
        no_walk : (k : ℕ) → has (walk net (rounds net n) k (u ∷ seen) None) d ≡ true → ⊥
        no_walk zero q = cc
        no_walk (suc k) q = cc
    by_link p here thin (Some l) e q rest = through p l here thin e (rest (Some l.from) q l.from refl)

    by_thin : (m : Option Strand) → strand_in net u ≡ m → (b : Bool) → thin_at m ≡ b → has (walk net (rounds net n) k (u ∷ seen) (cond b (producer_at net u 0) None)) d ≡ true → Rest → Upstream net d u
    by_thin None here true e q rest = cc
    by_thin (Some p) here true e q rest = by_link p here e (link_into net u 0) refl q rest
    by_thin m here false e q rest = absurd (no_walk k q)
      where
        no_walk : (k : ℕ) → has (walk net (rounds net n) k (u ∷ seen) None) d ≡ true → ⊥
        no_walk zero q = cc
        no_walk (suc k) q = cc

    by_fork : (m : Option Who) → fork_in (rounds net n) u ≡ m → has (walk net (rounds net n) k (u ∷ seen) (or_else m (cond (thin_at (strand_in net u)) (producer_at net u 0) None))) d ≡ true → Rest → Upstream net d u
    by_fork (Some m) e q rest =
        let x = rounds_right net n u m e in
        over_join x.strand m x.there x.braided (known u m e) (rest (Some m) q m refl)
    by_fork None e q rest = by_thin (strand_in net u) refl (thin_at (strand_in net u)) refl q rest

    here_or : (b : Bool) → (u == d) ≡ b → (b || has (walk net (rounds net n) k (u ∷ seen) (next_on_walk net (rounds net n) u)) d) ≡ true → Rest → Upstream net d u
    here_or true e q rest = subst (λ z. Upstream net z u) (eqb-true u d e) begins
    here_or false e q rest = by_fork (fork_in (rounds net n) u) refl q rest

    fresh : (b : Bool) → has (cond b [] (u ∷ walk net (rounds net n) k (u ∷ seen) (next_on_walk net (rounds net n) u))) d ≡ true → Rest → Upstream net d u
    fresh true q rest = cc
    fresh false q rest = here_or (u == d) refl q rest

module _ (net : Net) (formed : IsWellFormed net) where
  -- the strand where the ways to a join part stands upstream of each producer to it
  pub are_forked : AreForked net
  are_forked s d i l is e =
      let x = found_once net (length net.strands) s d is in
      let y = joining net (rounds net x.round) s d x.now in
      let joins = (found_at (joins_at net (rounds net x.round) s) (walk_of net (rounds net x.round) s y.first) y.found).0 in
      let on = (both (not (issues_at (strand_in net d))) (list_all (λ j. has (walk_of net (rounds net x.round) s j) d) (connected_inputs net s)) joins).1 in
      on_walk_upstream net x.round (λ t m e. subst (λ n. fork_in (rounds net n) t ≡ Some m) x.before (grows net x.more (suc x.round) t m (grows net 1 x.round t m e))) d (length net.strands) [] (producer_at net s i)
      (all_has (λ j. has (walk_of net (rounds net x.round) s j) d) (connected_inputs net s) i on (link_input net formed s i l e)) l.from (ap from_of e)

  -- a braided strand that has a link has one
  pub parts_there : (s i : ℕ) (l : Link) → is_braided net s ≡ true → link_into net s i ≡ Some l → (d : Who) × (fork net s ≡ Some d)
  parts_there s i l braided e = the_event (fork net s) (by_inputs (connected_inputs net s) braided (link_input net formed s i l e))
    where
      by_inputs : (inputs : List ℕ) → (has_none inputs || is_some (fork net s)) ≡ true → has inputs i ≡ true → is_some (fork net s) ≡ true
      by_inputs [] q on = cc
      by_inputs (j ∷ inputs) q on = q
