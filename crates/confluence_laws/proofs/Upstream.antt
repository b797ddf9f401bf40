-- The strands upstream of one, as far as the ways of its records go back.
use Rattle.std.proofs.Common.{◌≡◌, ◌≢◌, ◌⊎◌, inl, inr, ℕ, true, refl, sym, ◌∙◌, ap, subst, Some}
use Rattle.pipe_model.specs.declared.net.Net.{Net}
use Rattle.pipe_model.specs.declared.net.Link.{Link}
use Rattle.pipe_model.specs.declared.net.Strand.{Strand}
use Rattle.pipe_model.specs.Table.{form}
use Rattle.pipe_model.specs.Form.Meeting.{Braided}
use Rattle.pipe_model.specs.State.{Who, nothing_yet, strand_at, link_in}
use Rattle.pipe_model.specs.Settled.{is_thin, fork}

-- d is t, or stands upstream of it: through a thin strand to the producer of its input, and over a join to the strand where its ways part
pub data Upstream (net : Net) (d : Who) : Who → Type 0 where
  begins : Upstream net d d
  through : {t : Who} (p : Strand) (l : Link) → strand_at net nothing_yet t ≡ Some p → is_thin p ≡ true → link_in net nothing_yet t 0 ≡ Some l → Upstream net d l.from → Upstream net d t
  over_join : {t : Who} (p : Strand) (m : Who) → strand_at net nothing_yet t ≡ Some p → (form p).meeting ≡ Braided → fork net t ≡ Some m → Upstream net d m → Upstream net d t

-- from each producer to a join its ways go back to where they part
abbrev pub AreForked : Net → Type 0
AreForked net = (s d : Who) (i : ℕ) (l : Link) → fork net s ≡ Some d → link_in net nothing_yet s i ≡ Some l → Upstream net d l.from

-- the strand passes records on, one at a time
abbrev pub PassesOn : Strand → Type 0
PassesOn p = (is_thin p ≡ true) ⊎ ((form p).meeting ≡ Braided)

-- who stands upstream of a strand upstream of another stands upstream of that
pub further_up : (net : Net) (d m t : Who) → Upstream net d m → Upstream net m t → Upstream net d t
further_up net d m _ up begins = up
further_up net d m _ up (through p l at thin e rest) = through p l at thin e (further_up net d m l.from up rest)
further_up net d m _ up (over_join p k at braided is rest) = over_join p k at braided is (further_up net d m k up rest)

-- the way back from a strand goes over it, to where the ways to it part
pub record GoesOver (net : Net) (d t : Who) : Type 0 where
  pub strand : Strand
  pub there : strand_at net nothing_yet t ≡ Some strand
  pub braided : (form strand).meeting ≡ Braided
  pub parting : Who
  pub forks : fork net t ≡ Some parting
  pub rest : Upstream net d parting

-- or through it
abbrev pub GoesThrough : Net → Who → Type 0
GoesThrough net t = (p : Strand) × (strand_at net nothing_yet t ≡ Some p) × (is_thin p ≡ true)

pub goes_back : (net : Net) (d t : Who) → Upstream net d t → t ≢ d → GoesThrough net t ⊎ GoesOver net d t
goes_back net d _ begins apart = absurd (apart refl)
goes_back net d t (through p l at thin e rest) apart = inl (p, at, thin)
goes_back net d t (over_join p m at braided is rest) apart = inr (record { strand = p; there = at; braided = braided; parting = m; forks = is; rest = rest })

-- a strand between passes records on
pub passes_between : (net : Net) (d t : Who) → Upstream net d t → t ≢ d → (p : Strand) → strand_at net nothing_yet t ≡ Some p → PassesOn p
passes_between net d t up apart p at = elim (goes_back net d t up apart) [
  | inl x ↦ inl (subst (λ z. is_thin z ≡ true) (same_strand x.0 x.1) x.2)
  | inr x ↦ inr (subst (λ z. (form z).meeting ≡ Braided) (same_strand x.strand x.there) x.braided)
]
  where
    same_strand : (q : Strand) → strand_at net nothing_yet t ≡ Some q → q ≡ p
    same_strand q there = let one : Some q ≡ Some p = sym there ∙ at in cc

-- one link back from there
pub one_back : (net : Net) → AreForked net → (d t : Who) → Upstream net d t → t ≢ d → (i : ℕ) (l : Link) → link_in net nothing_yet t i ≡ Some l → ((p : Strand) → strand_at net nothing_yet t ≡ Some p → is_thin p ≡ true → i ≡ 0) → Upstream net d l.from
one_back net forked d _ begins apart i l e zero_if = absurd (apart refl)
one_back net forked d t (through p m at thin e' rest) apart i l e zero_if =
    let one : Some m ≡ Some l = sym e' ∙ ap (link_in net nothing_yet t) (sym (zero_if p at thin)) ∙ e in
    let it : m ≡ l = cc in
    subst (λ (z : Link). Upstream net d z.from) it rest
one_back net forked d t (over_join p m at braided is rest) apart i l e zero_if = further_up net d m l.from rest (forked t m i l is e)
