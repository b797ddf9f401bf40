-- Of two puts of one strand the earlier has the lesser tag, from any strand upstream.
use Rattle.std.proofs.Common.{◌≡◌, ◌≢◌, inl, inr, ℕ, zero, suc, ◌≤◌, ◌<◌, true, false, List, [], ◌∷◌, ◌++◌, length, sym, ◌∙◌, ap, subst, arith, Some}
use Rattle.pipe_model.specs.declared.net.Net.{Net}
use Rattle.pipe_model.specs.declared.net.Link.{Link}
use Rattle.pipe_model.specs.declared.net.Strand.{Strand}
use Rattle.pipe_model.specs.Event.{Event, tooks_on}
use Rattle.pipe_model.specs.Event.Event.{Saw}
use Rattle.pipe_model.specs.Table.{form}
use Rattle.pipe_model.specs.Form.Meeting.{Braided}
use Rattle.pipe_model.specs.State.{State, Who, past, nothing_yet, strand_at, link_in}
use Rattle.pipe_model.specs.WellFormed.{IsWellFormed}
use Rattle.pipe_model.specs.Settled.{fork}
use Rattle.pipe_model.specs.Plain.{IsAcyclic}
use Rattle.pipe_model.specs.Tags.{Tag, or_none, written, last_input, before_put, tag_of, tag_on, comes_before}
use Rattle.pipe_model.specs.Alone.{IsTaggedPass}
use Rattle.pipe_model.proofs.Numbers.{equal_or_not}
use Rattle.confluence_laws.proofs.Basics.{more_tooks}
use Rattle.confluence_laws.proofs.Within.{Within}
use Rattle.confluence_laws.proofs.Within.Within.{earlier}
use Rattle.confluence_laws.proofs.Befores.{grown, same_before, earlier_put, later_put, within_both, when_seen}
use Rattle.confluence_laws.proofs.Ranks.{rises_in, from_strand}
use Rattle.confluence_laws.proofs.Upstream.{Upstream, goes_back, passes_between, one_back}
use Rattle.confluence_laws.proofs.Forked.{are_forked}
use Rattle.confluence_laws.proofs.Comes.{Comes, comes_further, comes_down}
use Rattle.confluence_laws.proofs.Comes.Comes.{stays, goes_on}
use Rattle.confluence_laws.proofs.TagOrder.{IsLess, less_before, less_further, less_with_ends, less_behind}
use Rattle.confluence_laws.proofs.Paths.{CameIn}
use Rattle.confluence_laws.proofs.Lows.{IsListed, sight_at_put, up_listed}
use Rattle.confluence_laws.proofs.Origins.{IsPut, put_of, CameUp, tag_at, came_up, one_is_less, less_by_puts}
use Rattle.confluence_laws.proofs.Picked.{saw_first, none_before}

-- the tags from d of two puts, of which the first is less
pub record IsSooner (net : Net) (first : State) (d u : Who) (h : List Event) (u' : Who) (h' : List Event) : Type 0 where
  pub from : List Event
  pub from' : List Event
  pub numbers : Tag
  pub numbers' : Tag
  pub comes : Comes net first d from u h numbers
  pub comes' : Comes net first d from' u' h' numbers'
  pub less : IsLess (written from ∷ numbers) (written from' ∷ numbers')

module _ (net : Net) (formed : IsWellFormed net) (acyclic : IsAcyclic net) (first : State) (pass : IsTaggedPass net first) where
  -- of two puts of one strand the earlier has the lesser tag
  abbrev pub AreSooner : ℕ → Type 0
  AreSooner n = (d u : Who) (h h' : List Event) → acyclic.rank u < n → (p : Strand) → strand_at net nothing_yet u ≡ Some p → Upstream net d u → IsPut first u h → IsPut first u h' → written h < written h' → IsSooner net first d u h u h'

  -- Two puts of a strand that passes records on, below whose rank it holds

  module _ (n : ℕ) (below : AreSooner n) (u : Who) (lt : acyclic.rank u < suc n) (p : Strand) (here : strand_at net nothing_yet u ≡ Some p) (h h' : List Event) (put : IsPut first u h) (put' : IsPut first u h') (before : written h < written h') where
    -- the first came before the second
    behind : Within h' h
    behind = earlier (earlier_put (past first u) h h' put.0 put'.0 put.1 put'.1 put.2 put'.2 before)

    -- the link on which the record came in that a put was written for
    abbrev Seen : List Event → Type 0
    Seen k = CameIn net first (IsListed first) k u

    -- and what came before the put there
    abbrev above : (k : List Event) → Seen k → List Event
    above k x = before_put x.link.output (tooks_on (last_input k) k) (past first x.link.from)

    abbrev AreSoonerAbove : Who → Seen h → Seen h' → Type 0
    AreSoonerAbove d x x' = IsSooner net first d x.link.from (above h x) x'.link.from (above h' x')

    strand_up : (k : List Event) (x : Seen k) → (q : Strand) × (strand_at net nothing_yet x.link.from ≡ Some q) × (acyclic.rank x.link.from < n)
    strand_up k x =
        let q = from_strand net formed acyclic u (last_input k) x.link x.linked in
        let less = rises_in net formed acyclic u (last_input k) x.link x.linked in
        (q.0, q.1, omega (arith, lt, less))

    -- from where their tags are less they are less on
    one_put_on : (d : Who) (x : Seen h) (x' : Seen h') → AreSoonerAbove d x x' → IsSooner net first d u h u h'
    one_put_on d x x' y = record {
      from = y.from;
      from' = y.from';
      numbers = y.numbers ++ written h ∷ [];
      numbers' = y.numbers' ++ written h' ∷ [];
      comes = goes_on x.link x.linked y.comes;
      comes' = goes_on x'.link x'.linked y.comes';
      less = less_with_ends (written y.from ∷ y.numbers) (written y.from' ∷ y.numbers') (written h ∷ []) (written h' ∷ []) y.less;
    }

    -- on one input
    on_one : (d : Who) (x : Seen h) (x' : Seen h') → Upstream net d x.link.from → last_input h ≡ last_input h' → IsSooner net first d u h u h'
    on_one d x x' up is = elim (equal_or_not (tooks_on (last_input h) h) (tooks_on (last_input h') h')) [
      | inl same_count ↦
          let q = strand_up h x in
          let z = came_up net formed acyclic first pass n d x.link.from (above h x) q.2 q.0 q.1 (put_of first x.link (tooks_on (last_input h) h) x.holds) up in
          record {
            from = z.from;
            from' = z.from;
            numbers = z.numbers ++ written h ∷ [];
            numbers' = z.numbers ++ written h' ∷ [];
            comes = goes_on x.link x.linked z.comes;
            comes' = goes_on x'.link x'.linked (subst (λ (k : Link). Comes net first d z.from k.from (before_put k.output (tooks_on (last_input h') h') (past first k.from)) z.numbers) link_is (subst (λ c. Comes net first d z.from x.link.from (before_put x.link.output c (past first x.link.from)) z.numbers) same_count z.comes));
            less = less_behind (written z.from ∷ z.numbers) (written h ∷ []) (written h' ∷ []) (inl before);
          }
      | inr apart ↦
          let q = strand_up h x in
          let le = grown (tooks_on (last_input h')) (λ e k. more_tooks (last_input h') k e) h' h behind in
          let same_start = ap (λ i. tooks_on i h) is in
          let listed' : IsListed first x.link (tooks_on (last_input h') h') = subst (λ (k : Link). IsListed first k (tooks_on (last_input h') h')) (sym link_is) x'.holds in
          let y = below d x.link.from (above h x) (before_put x.link.output (tooks_on (last_input h') h') (past first x.link.from)) q.2 q.0 q.1 up (put_of first x.link (tooks_on (last_input h) h) x.holds) (put_of first x.link (tooks_on (last_input h') h') listed')
          (later_put (past first x.link.from) x.link.output (tooks_on (last_input h) h) (tooks_on (last_input h') h') (omega (arith, le, same_start, apart)) listed') in
          one_put_on d x x' (subst (λ (k : Link). IsSooner net first d x.link.from (above h x) k.from (before_put k.output (tooks_on (last_input h') h') (past first k.from))) link_is y)
    ]
      where
        link_is : x.link ≡ x'.link
        link_is = let one : Some x.link ≡ Some x'.link = sym x.linked ∙ ap (link_in net nothing_yet u) is ∙ x'.linked in cc

    -- on two inputs of a join: it saw first the one whose tag is less, from where the ways to it part
    module _ (braided : (form p).meeting ≡ Braided) (m : Who) (forks : fork net u ≡ Some m) (x : Seen h) (x' : Seen h') (apart : last_input h ≢ last_input h') where
      -- where it saw the first record
      saw : (rec : List ℕ) × (k : List Event) × Within h (Saw (last_input h) rec ∷ k) × (tooks_on (last_input h) k ≡ tooks_on (last_input h) h)
      saw = when_seen h (last_input h) (sight_at_put net first pass u h put.0 put.1 put.2 p here (inr braided))

      -- how many it had taken then from the other input
      abbrev then_taken : ℕ
      then_taken = tooks_on (last_input h') saw.1

      no_more_taken : then_taken ≤ tooks_on (last_input h') h'
      no_more_taken = grown (tooks_on (last_input h')) (λ e k. more_tooks (last_input h') k e) h' saw.1 (within_both h' h saw.1 behind (earlier saw.2))

      then_listed : IsListed first x'.link then_taken
      then_listed = let le = no_more_taken in let listed = x'.holds in omega (arith, le, listed)

      -- the other's next record had no lesser tag
      none_less : comes_before (tag_at net first m x'.link then_taken) (tag_at net first m x.link (tooks_on (last_input h) h)) ≡ false
      none_less =
          let within = within_both (past first u) h (Saw (last_input h) saw.0 ∷ saw.1) (earlier put.2) saw.2 in
          let picks = saw_first net formed first pass u p here braided saw.1 (last_input h) saw.0 within in
          let none = none_before net formed first pass u p here braided saw.1 (last_input h) (last_input h') x.link x'.link picks x.linked x'.linked then_listed in
          subst (λ z. comes_before (tag_on net first (or_none z) (length net.strands) (Some x'.link) then_taken []) (tag_on net first (or_none z) (length net.strands) (Some x.link) (tooks_on (last_input h) h) []) ≡ false) forks
          (subst (λ z. comes_before (tag_of net first u x'.link then_taken) (tag_of net first u x.link z) ≡ false) saw.3 none)

      -- so it had a greater one
      less_then : IsLess (tag_at net first m x.link (tooks_on (last_input h) h)) (tag_at net first m x'.link then_taken)
      less_then = elim (one_is_less net formed acyclic first pass u (last_input h) (last_input h') m x.link x'.link (tooks_on (last_input h) h) then_taken apart forks x.linked x'.linked x.holds then_listed) [
        | inl less ↦ less
        | inr less ↦ (let z : true ≡ false = sym (less_before (tag_at net first m x'.link then_taken) (tag_at net first m x.link (tooks_on (last_input h) h)) less) ∙ none_less in cc)
      ]

      -- and so has a later one
      less_now : IsLess (tag_at net first m x.link (tooks_on (last_input h) h)) (tag_at net first m x'.link (tooks_on (last_input h') h'))
      less_now = elim (equal_or_not then_taken (tooks_on (last_input h') h')) [
        | inl is ↦ subst (λ z. IsLess (tag_at net first m x.link (tooks_on (last_input h) h)) (tag_at net first m x'.link z)) is less_then
        | inr other ↦
            let le = no_more_taken in
            let lt : then_taken < tooks_on (last_input h') h' = omega (arith, le, other) in
            let q = strand_up h' x' in
            let y = below m x'.link.from (before_put x'.link.output then_taken (past first x'.link.from)) (above h' x') q.2 q.0 q.1 (are_forked net formed u m (last_input h') x'.link forks x'.linked) (put_of first x'.link then_taken then_listed) (put_of first x'.link (tooks_on (last_input h') h') x'.holds)
            (later_put (past first x'.link.from) x'.link.output then_taken (tooks_on (last_input h') h') lt x'.holds) in
            less_further (tag_at net first m x.link (tooks_on (last_input h) h)) (tag_at net first m x'.link then_taken) (tag_at net first m x'.link (tooks_on (last_input h') h')) less_then
            ((less_by_puts net formed acyclic first pass m x'.link x'.link then_taken (tooks_on (last_input h') h') y.from y.from' y.numbers y.numbers' (q.0, q.1) (q.0, q.1) y.comes y.comes').1 y.less)
      ]

      -- the puts from which they came up there
      from_there : (k : List Event) (z : Seen k) → CameUp net first m z.link.from (above k z)
      from_there k z = let q = strand_up k z in came_up net formed acyclic first pass n m z.link.from (above k z) q.2 q.0 q.1 (put_of first z.link (tooks_on (last_input k) k) z.holds) (are_forked net formed u m (last_input k) z.link forks z.linked)

      less_there : IsLess (written (from_there h x).from ∷ (from_there h x).numbers) (written (from_there h' x').from ∷ (from_there h' x').numbers)
      less_there =
          let q = strand_up h x in
          let q' = strand_up h' x' in
          let a = from_there h x in
          let b = from_there h' x' in
          (less_by_puts net formed acyclic first pass m x.link x'.link (tooks_on (last_input h) h) (tooks_on (last_input h') h') a.from b.from a.numbers b.numbers (q.0, q.1) (q'.0, q'.1) a.comes b.comes).0 less_now

      -- and from there on up to d
      on_two : (d : Who) → Upstream net d m → IsSooner net first d u h u h'
      on_two d up = by_less (from_there h x) (from_there h' x') less_there
        where
          lower_rank : (a : CameUp net first m x.link.from (above h x)) → acyclic.rank m < n
          lower_rank a = let q = strand_up h x in let lt = q.2 in let le = comes_down net formed acyclic first m a.from x.link.from (above h x) a.numbers a.comes in omega (arith, lt, le)

          by_less : (a : CameUp net first m x.link.from (above h x)) (b : CameUp net first m x'.link.from (above h' x')) → IsLess (written a.from ∷ a.numbers) (written b.from ∷ b.numbers) → IsSooner net first d u h u h'
          by_less a b (inl lt) =
              let y = below d m a.from b.from (lower_rank a) a.strand a.there up a.is_put b.is_put lt in
              one_put_on d x x' (record {
                from = y.from;
                from' = y.from';
                numbers = y.numbers ++ a.numbers;
                numbers' = y.numbers' ++ b.numbers;
                comes = comes_further net first d y.from m a.from y.numbers x.link.from (above h x) a.numbers y.comes a.comes;
                comes' = comes_further net first d y.from' m b.from y.numbers' x'.link.from (above h' x') b.numbers y.comes' b.comes;
                less = less_with_ends (written y.from ∷ y.numbers) (written y.from' ∷ y.numbers') a.numbers b.numbers y.less;
              })
          by_less a b (inr same) =
              let one = same_before (past first m) a.from b.from a.is_put.0 b.is_put.0 a.is_put.1 b.is_put.1 a.is_put.2 b.is_put.2 same.0 in
              let z = came_up net formed acyclic first pass n d m a.from (lower_rank a) a.strand a.there a.is_put up in
              one_put_on d x x' (record {
                from = z.from;
                from' = z.from;
                numbers = z.numbers ++ a.numbers;
                numbers' = z.numbers ++ b.numbers;
                comes = comes_further net first d z.from m a.from z.numbers x.link.from (above h x) a.numbers z.comes a.comes;
                comes' = comes_further net first d z.from m b.from z.numbers x'.link.from (above h' x') b.numbers (subst (λ g. Comes net first d z.from m g z.numbers) one z.comes) b.comes;
                less = less_behind (written z.from ∷ z.numbers) a.numbers b.numbers same.1;
              })

    -- the record of each came up
    its_up : (d : Who) → Upstream net d u → u ≢ d → (k : List Event) → IsPut first u k → Seen k
    its_up d up apart k put = up_listed net first pass u k put.0 put.1 put.2 p here (passes_between net d u up apart p here)

    one_rank_more : (d : Who) → Upstream net d u → IsSooner net first d u h u h'
    one_rank_more d up = elim (equal_or_not u d) [
      | inl is ↦ record {
        from = h;
        from' = h';
        numbers = [];
        numbers' = [];
        comes = subst (λ z. Comes net first z h u h []) is stays;
        comes' = subst (λ z. Comes net first z h' u h' []) is stays;
        less = inl before;
      }
      | inr other ↦
          let x = its_up d up other h put in
          let x' = its_up d up other h' put' in
          elim (equal_or_not (last_input h) (last_input h')) [
            | inl is ↦ on_one d x x' (one_back net (are_forked net formed) d u up other (last_input h) x.link x.linked x.thin) is
            | inr apart ↦ by_way d up other x x' apart
          ]
    ]
      where
        by_way : (d : Who) → Upstream net d u → u ≢ d → (x : Seen h) (x' : Seen h') → last_input h ≢ last_input h' → IsSooner net first d u h u h'
        by_way d up other x x' apart = elim (goes_back net d u up other) [
          | inl thin ↦ absurd (apart (x.thin thin.0 thin.1 thin.2 ∙ sym (x'.thin thin.0 thin.1 thin.2)))
          | inr over ↦
              let one : Some over.strand ≡ Some p = sym over.there ∙ here in
              let it : over.strand ≡ p = cc in
              on_two (subst (λ z. (form z).meeting ≡ Braided) it over.braided) over.parting over.forks x x' apart d over.rest
        ]

  -- so it holds of all strands
  pub are_sooner : (n : ℕ) → AreSooner n
  are_sooner zero d u h h' lt p here up put put' before = absurd (omega (arith, lt))
  are_sooner (suc n) d u h h' lt p here up put put' before = one_rank_more n (are_sooner n) u lt p here h h' put put' before d up
