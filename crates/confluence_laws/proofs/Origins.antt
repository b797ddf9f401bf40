-- From which puts the records of puts came up, and the paths from there to a join.
use Rattle.std.proofs.Common.{◌≡◌, ◌≢◌, ◌⊎◌, inl, inr, ℕ, zero, suc, ◌<◌, List, [], ◌∷◌, ◌++◌, length, refl, sym, ◌∙◌, ap, subst, arith, Some}
use Rattle.pipe_model.specs.declared.net.Net.{Net}
use Rattle.pipe_model.specs.declared.net.Link.{Link}
use Rattle.pipe_model.specs.declared.net.Strand.{Strand}
use Rattle.pipe_model.specs.Event.{Event, tooks_on}
use Rattle.pipe_model.specs.Event.Event.{Put}
use Rattle.pipe_model.specs.State.{State, Who, past, nothing_yet, strand_at, link_in}
use Rattle.pipe_model.specs.WellFormed.{IsWellFormed}
use Rattle.pipe_model.specs.Settled.{fork}
use Rattle.pipe_model.specs.Plain.{IsAcyclic}
use Rattle.pipe_model.specs.Tags.{Tag, written, last_input, before_put, tag_on}
use Rattle.pipe_model.specs.Alone.{IsTaggedPass}
use Rattle.pipe_model.proofs.Numbers.{equal_or_not}
use Rattle.confluence_laws.proofs.Basics.{from_in}
use Rattle.confluence_laws.proofs.Within.{Within}
use Rattle.confluence_laws.proofs.Befores.{put_there}
use Rattle.confluence_laws.proofs.Ranks.{rises_in, from_strand}
use Rattle.confluence_laws.proofs.Upstream.{Upstream, PassesOn, passes_between, one_back}
use Rattle.confluence_laws.proofs.Forked.{are_forked}
use Rattle.confluence_laws.proofs.Comes.{Comes, tag_is, tag_of_put}
use Rattle.confluence_laws.proofs.Comes.Comes.{stays, goes_on}
use Rattle.confluence_laws.proofs.TagOrder.{IsLess}
use Rattle.confluence_laws.proofs.Paths.{CameIn, IsClimbed, climb, two_ways}
use Rattle.confluence_laws.proofs.Lows.{IsListed, up_listed}

-- a put of a strand, by what came before it
abbrev pub IsPut : State → Who → List Event → Type 0
IsPut first u h = (o : ℕ) × (rec : List ℕ) × Within (past first u) (Put o rec ∷ h)

-- that of a record on a link
abbrev pub put_of : (first : State) (l : Link) (k : ℕ) → IsListed first l k → IsPut first l.from (before_put l.output k (past first l.from))
put_of first l k listed = let r = put_there (past first l.from) l.output k listed in (l.output, r.0, r.1)

-- a put of d from which the record of a put of u came up
pub record CameUp (net : Net) (first : State) (d u : Who) (h : List Event) : Type 0 where
  pub strand : Strand
  pub there : strand_at net nothing_yet d ≡ Some strand
  pub from : List Event
  pub is_put : IsPut first d from
  pub numbers : Tag
  pub comes : Comes net first d from u h numbers

-- the tag of a record on a link, from d
abbrev pub tag_at : Net → State → Who → Link → ℕ → Tag
tag_at net first d l k = tag_on net first d (length net.strands) (Some l) k []

module _ (net : Net) (formed : IsWellFormed net) (acyclic : IsAcyclic net) (first : State) (pass : IsTaggedPass net first) where
  -- each put's record came up from a strand upstream
  pub came_up : (n : ℕ) (d u : Who) (h : List Event) → acyclic.rank u < n → (p : Strand) → strand_at net nothing_yet u ≡ Some p → IsPut first u h → Upstream net d u → CameUp net first d u h
  came_up zero d u h lt p here put up = absurd (omega (arith, lt))
  came_up (suc n) d u h lt p here put up = elim (equal_or_not u d) [
    | inl is ↦ record {
      strand = p;
      there = ap (strand_at net nothing_yet) (sym is) ∙ here;
      from = h;
      is_put = subst (λ z. IsPut first z h) is put;
      numbers = [];
      comes = subst (λ z. Comes net first z h u h []) is stays;
    }
    | inr apart ↦
        let x = up_listed net first pass u h put.0 put.1 put.2 p here (passes_between net d u up apart p here) in
        let q = from_strand net formed acyclic u (last_input h) x.link x.linked in
        let less = rises_in net formed acyclic u (last_input h) x.link x.linked in
        let r = came_up n d x.link.from (before_put x.link.output (tooks_on (last_input h) h) (past first x.link.from)) (omega (arith, lt, less)) q.0 q.1 (put_of first x.link (tooks_on (last_input h) h) x.holds) (one_back net (are_forked net formed) d u up apart (last_input h) x.link x.linked x.thin) in
        record { strand = r.strand; there = r.there; from = r.from; is_put = r.is_put; numbers = r.numbers ++ written h ∷ []; comes = goes_on x.link x.linked r.comes }
  ]

  -- Paths to a join

  abbrev AnyPut : Who → ℕ → Type 0
  AnyPut u n = Unit {0}

  -- the record is on a list, and the list is a strand's
  abbrev IsThere : Link → ℕ → Type 0
  IsThere l k = IsListed first l k × ((q : Strand) × (strand_at net nothing_yet l.from ≡ Some q))

  there_up : (l : Link) (k : ℕ) → IsThere l k → ((p : Strand) → strand_at net nothing_yet l.from ≡ Some p → PassesOn p) → CameIn net first IsThere (before_put l.output k (past first l.from)) l.from
  there_up l k x passing =
      let h = before_put l.output k (past first l.from) in
      let put = put_of first l k x.0 in
      let up = up_listed net first pass l.from h put.0 put.1 put.2 x.1.0 x.1.1 (passing x.1.0 x.1.1) in
      record { link = up.link; linked = up.linked; holds = (up.holds, from_strand net formed acyclic l.from (last_input h) up.link up.linked); thin = up.thin }

  abbrev Climbed : (s i d : Who) → Link → ℕ → Type 0
  Climbed s i d l k = IsClimbed net formed acyclic (are_forked net formed) first AnyPut s i d IsThere (λ l k x. let r = put_of first l k x.0 in (r.1, r.2, tt)) there_up l k []

  -- each record on a link to a join came up from where the ways to it part
  climbed : (s i d : Who) (l : Link) (k : ℕ) → fork net s ≡ Some d → link_in net nothing_yet s i ≡ Some l → IsListed first l k → Climbed s i d l k
  climbed s i d l k forks at listed =
      let ends = from_in net formed nothing_yet s i l at in
      climb net formed acyclic (are_forked net formed) first AnyPut s i d IsThere (λ l k x. let r = put_of first l k x.0 in (r.1, r.2, tt)) there_up (suc (acyclic.rank l.from)) l k [] (omega arith)
      (listed, from_strand net formed acyclic s i l at) ends.2 (inl (ends.0, ends.1, refl)) (are_forked net formed s d i l forks at)

  -- the tags of two records on links to two inputs of a join are less the one way or the other
  pub one_is_less : (s i j d : Who) (l m : Link) (k n : ℕ) → i ≢ j → fork net s ≡ Some d → link_in net nothing_yet s i ≡ Some l → link_in net nothing_yet s j ≡ Some m → IsListed first l k → IsListed first m n → IsLess (tag_at net first d l k) (tag_at net first d m n) ⊎ IsLess (tag_at net first d m n) (tag_at net first d l k)
  one_is_less s i j d l m k n apart forks at_l at_m listed_l listed_m =
      let a = climbed s i d l k forks at_l listed_l in
      let b = climbed s j d m n forks at_m listed_m in
      let p = from_strand net formed acyclic s i l at_l in
      let q = from_strand net formed acyclic s j m at_m in
      let tag_a = tag_is net formed acyclic first d l k a.from a.numbers p.0 p.1 a.comes [] in
      let tag_b = tag_is net formed acyclic first d m n b.from b.numbers q.0 q.1 b.comes [] in
      subst (λ z. IsLess z (tag_at net first d m n) ⊎ IsLess (tag_at net first d m n) z) (sym tag_a) (subst (λ z. IsLess (written a.from ∷ (a.numbers ++ [])) z ⊎ IsLess z (written a.from ∷ (a.numbers ++ []))) (sym tag_b)
      (two_ways net formed acyclic first AnyPut s i j apart d (written a.from ∷ (a.numbers ++ [])) (written b.from ∷ (b.numbers ++ [])) a.path b.path))

  -- the same tags, by the puts from which they came up
  pub less_by_puts : (d : Who) (l m : Link) (k n : ℕ) (g f : List Event) (r q : Tag) → ((x : Strand) × (strand_at net nothing_yet l.from ≡ Some x)) → ((x : Strand) × (strand_at net nothing_yet m.from ≡ Some x)) → Comes net first d g l.from (before_put l.output k (past first l.from)) r → Comes net first d f m.from (before_put m.output n (past first m.from)) q →
      (IsLess (tag_at net first d l k) (tag_at net first d m n) → IsLess (written g ∷ r) (written f ∷ q)) × (IsLess (written g ∷ r) (written f ∷ q) → IsLess (tag_at net first d l k) (tag_at net first d m n))
  less_by_puts d l m k n g f r q x y a b =
      let tag_a = tag_of_put net formed acyclic first d l k g r x.0 x.1 a in
      let tag_b = tag_of_put net formed acyclic first d m n f q y.0 y.1 b in (
        λ less. subst (λ z. IsLess z (written f ∷ q)) tag_a (subst (λ z. IsLess (tag_at net first d l k) z) tag_b less),
        λ less. subst (λ z. IsLess z (tag_at net first d m n)) (sym tag_a) (subst (λ z. IsLess (written g ∷ r) z) (sym tag_b) less),
      )
