-- The ranks of a net without cycles: how many strands rank lower than one.
use Rattle.std.proofs.Common.{◌≡◌, ℕ, suc, ◌≤◌, ◌<◌, true, false, ◌&&◌, ◌==◌, length, refl, subst, arith, Some}
use Rattle.std.specs.Prelude.{nat_lt}
use Rattle.std.proofs.lemmas.Bool.{lt-ltb, le-ltb, ltb-true}
use Rattle.std.proofs.lemmas.Option.{slice_get_within}
use Rattle.pipe_model.specs.declared.net.Net.{Net}
use Rattle.pipe_model.specs.declared.net.Link.{Link}
use Rattle.pipe_model.specs.declared.net.Strand.{Strand}
use Rattle.pipe_model.specs.State.{Who, same, nothing_yet, strand_at, link_in, link_out}
use Rattle.pipe_model.specs.WellFormed.{IsWellFormed}
use Rattle.pipe_model.specs.Plain.{IsAcyclic}
use Rattle.pipe_model.proofs.Lists.{found_at}
use Rattle.confluence_laws.proofs.Basics.{from_in, from_out}
use Rattle.confluence_laws.proofs.Sums.{passing_below, few_pass, pass_rise}

module _ (net : Net) (formed : IsWellFormed net) (acyclic : IsAcyclic net) where
  -- a link leads from a lower rank
  pub rises_in : (s i : ℕ) (l : Link) → link_in net nothing_yet s i ≡ Some l → acyclic.rank l.from < acyclic.rank s
  rises_in s i l e =
      let r = found_at (λ k. same k.to s && k.input == i) net.links e in
      subst (λ z. acyclic.rank l.from < acyclic.rank z) (from_in net formed nothing_yet s i l e).0 (acyclic.along r.1.0 l r.1.1)

  -- and to a higher one
  pub rises_out : (s o : ℕ) (l : Link) → link_out net nothing_yet s o ≡ Some l → acyclic.rank s < acyclic.rank l.to
  rises_out s o l e =
      let r = found_at (λ k. same k.from s && k.output == o) net.links e in
      subst (λ z. acyclic.rank z < acyclic.rank l.to) (from_out net formed nothing_yet s o l e).0 (acyclic.along r.1.0 l r.1.1)

  -- it leads from a strand
  pub from_strand : (s i : ℕ) (l : Link) → link_in net nothing_yet s i ≡ Some l → (q : Strand) × (strand_at net nothing_yet l.from ≡ Some q)
  from_strand s i l e =
      let r = found_at (λ k. same k.to s && k.input == i) net.links e in
      let j = formed.joined r.1.0 l r.1.1 in
      (j.producer, j.from_strand)

  -- how many strands rank lower
  abbrev pub lower : Who → ℕ
  lower t = passing_below (λ u. nat_lt (acyclic.rank u) (acyclic.rank t)) (length net.strands)

  not_itself : (t : Who) → nat_lt (acyclic.rank t) (acyclic.rank t) ≡ false
  not_itself t = le-ltb (acyclic.rank t) (acyclic.rank t) (omega arith)

  -- fewer than below whatever the strand's link leads to
  pub fewer : (s i : ℕ) (l : Link) → link_in net nothing_yet s i ≡ Some l → suc (lower l.from) ≤ lower s
  fewer s i l e =
      let less = rises_in s i l e in
      let q = from_strand s i l e in
      pass_rise (λ u. nat_lt (acyclic.rank u) (acyclic.rank l.from)) (λ u. nat_lt (acyclic.rank u) (acyclic.rank s)) (length net.strands) l.from (slice_get_within net.strands l.from _ q.1) (not_itself l.from) (lt-ltb (acyclic.rank l.from) (acyclic.rank s) less)
      (λ u is. let a = ltb-true (acyclic.rank u) (acyclic.rank l.from) is in lt-ltb (acyclic.rank u) (acyclic.rank s) (omega (arith, a, less)))

  -- fewer than all
  pub not_all : (s : Who) (p : Strand) → strand_at net nothing_yet s ≡ Some p → lower s < length net.strands
  not_all s p here =
      let a = pass_rise (λ u. nat_lt (acyclic.rank u) (acyclic.rank s)) (λ u. true) (length net.strands) s (slice_get_within net.strands s _ here) (not_itself s) refl (λ u is. refl) in
      let b = few_pass (λ u. true) (length net.strands) in
      omega (arith, a, b)
