-- What is told of a net: the least strands, and that two answers are of one line.
use Rattle.std.proofs.Common.{◌≡◌, ◌≢◌, inl, inr, ℕ, ◌+◌, ◌<◌, ◌≤◌, true, false, List, length, refl, sym, ◌∙◌, ap, subst, arith, Some, None, slice_get}
use Rattle.std.proofs.lemmas.Bool.{cases_lt}
use Rattle.std.proofs.lemmas.Option.{slice_get_within}
use Rattle.pipe_model.specs.declared.net.Net.{Net}
use Rattle.pipe_model.specs.declared.net.Strand.{Strand}
use Rattle.pipe_model.specs.Form.{Parting}
use Rattle.pipe_model.specs.Form.Parting.{Whole, Queued, Streamed}
use Rattle.pipe_model.specs.Plain.{IsAcyclic, IssuesNothing}
use Rattle.pipe_model.specs.Settled.{IsSettled, Meets}
use Rattle.pipe_model.specs.State.{Who, strand_in}
use Rattle.pipe_model.specs.Table.{form}
use Rattle.pipe_model.specs.WellFormed.{IsWellFormed}
use Rattle.pipe_model.proofs.Numbers.{equal_or_not}
use Rattle.braid_check.specs.Answer.{IsLeastLoose}
use Rattle.stall_lint.specs.Answer.{IsFirstDam, IsLeastDam, IsLeastIssuer, IsOneLine, Lints, is_streamed}
use Rattle.stall_lint.specs.Never.{HasNoDam, NeverStalls}
use Rattle.stall_lint.specs.Rooted.{IsRooted}
use Rattle.stall_lint.specs.declared.told.Lint.{Lint}
use Rattle.stall_lint.specs.declared.told.Lint.TheVariants.{Loose, Issuer, Latch, Walk, Never}
use Rattle.stall_lint.proofs.Ends.{never_stalls}
use Rattle.stall_lint.proofs.NoRounds.{no_round}

-- no kind of stage issues pipelines
pub issues_nothing : (net : Net) → IssuesNothing net
issues_nothing net s p there = refl

-- Strands of a DAM

pub streamed : (x : Parting) → is_streamed x ≡ true → x ≡ Streamed
streamed Whole is = cc
streamed Queued is = cc
streamed Streamed is = refl

pub not_streamed : (x : Parting) → is_streamed x ≡ false → x ≢ Streamed
not_streamed x is same = (let e : true ≡ false = ap is_streamed (sym same) ∙ is in cc)

-- among the first n strands is none of a DAM
abbrev pub NoneBelow : List Strand → ℕ → Type 0
NoneBelow strands n = (t : Who) (q : Strand) → t < n → slice_get strands t ≡ Some q → (form q).parting ≢ Streamed

pub none_more : (strands : List Strand) (n : ℕ) (p : Strand) → NoneBelow strands n → slice_get strands n ≡ Some p → is_streamed (form p).parting ≡ false → NoneBelow strands (n + 1)
none_more strands n p none at is t q lt at_q = elim (equal_or_not t n) [
  | inl it ↦ (
      let e : Some p ≡ Some q = sym at ∙ ap (slice_get strands) (sym it) ∙ at_q in
      let one : p ≡ q = cc in
      subst (λ (z : Strand). (form z).parting ≢ Streamed) one (not_streamed (form p).parting is))
  | inr other ↦ none t q (omega (arith, lt, other)) at_q
]

pub none_at_all : (strands : List Strand) (n : ℕ) → length strands ≤ n → NoneBelow strands n → IsFirstDam strands None
none_at_all strands n le none t q at = none t q (let lt = slice_get_within strands t q at in omega (arith, lt, le)) at

-- The answers

pub never_told : (net : Net) → IsWellFormed net → (answer : Lint) → Lints net answer → answer ≡ Never → NeverStalls net
never_told net formed (Loose s) told is = cc
never_told net formed (Issuer s) told is = cc
never_told net formed (Latch s) told is = cc
never_told net formed (Walk walk) told is = cc
never_told net formed Never told is = never_stalls net formed told.0.0 told.0.1 told.0.2 told.1

-- where nothing closes a walk, that is told
pub tells_never : (net : Net) → IsWellFormed net → IsSettled net → HasNoDam net → IsAcyclic net → IsRooted net → Lints net Never
tells_never net formed settled undammed acyclic rooted = ((settled, issues_nothing net, undammed), λ walk closed. no_round net formed acyclic rooted walk closed.0)

-- the least strand of a DAM is told
pub tells_latch : (net : Net) → IsSettled net → (s : Who) → IsFirstDam net.strands (Some s) → Lints net (Latch s)
tells_latch net settled s first = (settled, issues_nothing net, record { strand = first.0; there = first.1; parts = first.2; least = first.3 })

-- Two answers

-- two least numbers are one
one_least : (P : ℕ → Type 0) (s t : ℕ) → P s → P t → ((u : ℕ) → u < s → P u → ⊥) → ((u : ℕ) → u < t → P u → ⊥) → s ≡ t
one_least P s t here there least_s least_t = elim (cases_lt s t) [
  | inl less ↦ absurd (least_t s less here)
  | inr le ↦ elim (equal_or_not s t) [ inl it ↦ it | inr other ↦ absurd (least_s t (omega (arith, le, other)) there) ]
]

one_loose : (net : Net) (s t : Who) → IsLeastLoose net s → IsLeastLoose net t → s ≡ t
one_loose net s t a b = one_least (λ u. (q : Strand) × (strand_in net u ≡ Some q) × (Meets net u (form q).meeting → ⊥)) s t
    (a.strand, a.there, a.loose) (b.strand, b.there, b.loose)
    (λ u lt p. p.2 (a.least u p.0 lt p.1)) (λ u lt p. p.2 (b.least u p.0 lt p.1))

one_issuer : (net : Net) (s t : Who) → IsLeastIssuer net s → IsLeastIssuer net t → s ≡ t
one_issuer net s t a b = one_least (λ u. (q : Strand) × (strand_in net u ≡ Some q) × ((form q).issues ≡ true)) s t
    (a.strand, a.there, a.issues) (b.strand, b.there, b.issues)
    (λ u lt p. a.least u p.0 lt p.1 p.2) (λ u lt p. b.least u p.0 lt p.1 p.2)

one_dam : (net : Net) (s t : Who) → IsLeastDam net s → IsLeastDam net t → s ≡ t
one_dam net s t a b = one_least (λ u. (q : Strand) × (strand_in net u ≡ Some q) × ((form q).parting ≡ Streamed)) s t
    (a.strand, a.there, a.parts) (b.strand, b.there, b.parts)
    (λ u lt p. a.least u p.0 lt p.1 p.2) (λ u lt p. b.least u p.0 lt p.1 p.2)

-- what one line says the others deny
not_loose : (net : Net) (s : Who) → IsLeastLoose net s → IsSettled net → ⊥
not_loose net s a settled = a.loose (settled s a.strand a.there)

not_issuer : (net : Net) (s : Who) → IsLeastIssuer net s → IssuesNothing net → ⊥
not_issuer net s a nothing = (let e : true ≡ false = sym a.issues ∙ nothing s a.strand a.there in cc)

not_dam : (net : Net) (s : Who) → IsLeastDam net s → HasNoDam net → ⊥
not_dam net s a undammed = undammed s a.strand a.there a.parts

pub one_line : (net : Net) (answer other : Lint) → Lints net answer → Lints net other → IsOneLine answer other
one_line net (Loose s) (Loose t) a b = ap Loose (one_loose net s t a b)
one_line net (Loose s) (Issuer t) a b = absurd (not_loose net s a b.0)
one_line net (Loose s) (Latch t) a b = absurd (not_loose net s a b.0)
one_line net (Loose s) (Walk walk) a b = absurd (not_loose net s a b.0.0)
one_line net (Loose s) Never a b = absurd (not_loose net s a b.0.0)
one_line net (Issuer s) (Loose t) a b = absurd (not_loose net t b a.0)
one_line net (Issuer s) (Issuer t) a b = ap Issuer (one_issuer net s t a.1 b.1)
one_line net (Issuer s) (Latch t) a b = absurd (not_issuer net s a.1 b.1)
one_line net (Issuer s) (Walk walk) a b = absurd (not_issuer net s a.1 b.0.1)
one_line net (Issuer s) Never a b = absurd (not_issuer net s a.1 b.0.1)
one_line net (Latch s) (Loose t) a b = absurd (not_loose net t b a.0)
one_line net (Latch s) (Issuer t) a b = absurd (not_issuer net t b.1 a.1)
one_line net (Latch s) (Latch t) a b = ap Latch (one_dam net s t a.2 b.2)
one_line net (Latch s) (Walk walk) a b = absurd (not_dam net s a.2 b.0.2)
one_line net (Latch s) Never a b = absurd (not_dam net s a.2 b.0.2)
one_line net (Walk walk) (Loose t) a b = absurd (not_loose net t b a.0.0)
one_line net (Walk walk) (Issuer t) a b = absurd (not_issuer net t b.1 a.0.1)
one_line net (Walk walk) (Latch t) a b = absurd (not_dam net t b.2 a.0.2)
one_line net (Walk walk) (Walk other) a b = tt
one_line net (Walk walk) Never a b = absurd (b.1 walk a.1)
one_line net Never (Loose t) a b = absurd (not_loose net t b a.0.0)
one_line net Never (Issuer t) a b = absurd (not_issuer net t b.1 a.0.1)
one_line net Never (Latch t) a b = absurd (not_dam net t b.2 a.0.2)
one_line net Never (Walk walk) a b = absurd (a.1 walk b.1)
one_line net Never Never a b = refl
