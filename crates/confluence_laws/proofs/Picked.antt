-- By itself a strand that takes what comes first sees the record with the least tag.
use Rattle.std.proofs.Common.{◌≡◌, ◌⊎◌, inl, inr, ℕ, ◌<◌, true, false, cond, ◌&&◌, ◌==◌, List, ◌∷◌, refl, sym, ◌∙◌, ap, subst, Option, Some, None, slice_get}
use Rattle.std.specs.Prelude.{nat_lt}
use Rattle.std.proofs.lemmas.Bool.{eqb-true, lt-ltb}
use Rattle.pipe_model.specs.declared.net.Net.{Net}
use Rattle.pipe_model.specs.declared.net.Link.{Link}
use Rattle.pipe_model.specs.declared.net.Strand.{Strand}
use Rattle.pipe_model.specs.Event.{Event, puts_on, tooks_on}
use Rattle.pipe_model.specs.Event.Event.{Saw}
use Rattle.pipe_model.specs.Event.Want.{Read, Any, Gate}
use Rattle.pipe_model.specs.Table.{form}
use Rattle.pipe_model.specs.Form.Meeting.{Braided}
use Rattle.pipe_model.specs.Next.{next, IsOwn}
use Rattle.pipe_model.specs.State.{State, Who, past, same, nothing_yet, strand_at, link_in}
use Rattle.pipe_model.specs.WellFormed.{IsWellFormed}
use Rattle.pipe_model.specs.Tags.{Pick, tag_of, next_on, comes_before, least, input_of, first_tagged}
use Rattle.pipe_model.specs.Alone.{Given, taken_by, saw_alone, any_alone, alone_event, whole, lists_of, tag_orders, IsTaggedPass}
use Rattle.pipe_model.proofs.Truths.{cond_some, both}
use Rattle.pipe_model.proofs.Lists.{found_at}
use Rattle.confluence_laws.proofs.Basics.{from_in}
use Rattle.confluence_laws.proofs.Sound.{sound_line}
use Rattle.confluence_laws.proofs.Fitting.{past_of, stands_for}
use Rattle.confluence_laws.proofs.Owns.{saw_asked}
use Rattle.confluence_laws.proofs.Total.{link_there}
use Rattle.confluence_laws.proofs.Within.{Within, alone_within}
use Rattle.confluence_laws.proofs.Befores.{alone_own, alone_fits}
use Rattle.confluence_laws.proofs.TagOrder.{least_from, least_first}

-- what it saw at a look at any input it was to see
picked_input : (g : Given) (h : List Event) (m : Option ℕ) (i : ℕ) (rec : List ℕ) → any_alone g h m ≡ Some (Saw i rec) → m ≡ Some i
picked_input g h None i rec e = cc
picked_input g h (Some j) i rec e = by_record (slice_get (g.inputs j) (tooks_on j h)) e
  where
    by_record : (x : Option (List ℕ)) → saw_alone j x ≡ Some (Saw i rec) → Some j ≡ Some i
    by_record None q = cc
    by_record (Some y) q = (let one : j ≡ i = cc in ap Some one)

-- who takes what comes first looks at any input
looks_at_any : (s : Strand) → (form s).meeting ≡ Braided → (h : List Event) → IsOwn s h → (i : ℕ) (rec : List ℕ) → (next s h ≡ Some (Read i)) ⊎ ((next s h ≡ Some Any) ⊎ (next s h ≡ Some Gate)) → next s h ≡ Some Any
looks_at_any s braided h own i rec asked = by_look asked
  where
    by_look : (next s h ≡ Some (Read i)) ⊎ ((next s h ≡ Some Any) ⊎ (next s h ≡ Some Gate)) → next s h ≡ Some Any
    by_look (inl want) = want ∙ ap Some ((sound_line s).braided braided (past_of s h).known (Read i) (stands_for s h own (Read i) want).asked)
    by_look (inr (inl want)) = want
    by_look (inr (inr want)) = want ∙ ap Some ((sound_line s).braided braided (past_of s h).known Gate (stands_for s h own Gate want).asked)

module _ (net : Net) (formed : IsWellFormed net) (first : State) (pass : IsTaggedPass net first) (u : Who) (p : Strand) (here : strand_at net nothing_yet u ≡ Some p) (braided : (form p).meeting ≡ Braided) where
  abbrev given : Given
  given = whole net (tag_orders net first) (lists_of first) u

  -- what it saw it was to see
  pub saw_first : (h : List Event) (i : ℕ) (rec : List ℕ) → Within (past first u) (Saw i rec ∷ h) → first_tagged net first u (taken_by h) ≡ Some i
  saw_first h i rec within =
      let alone = alone_within p given (past first u) (pass u p here) (Saw i rec ∷ h) within in
      let own = alone_own p given h alone.1 in
      let any = looks_at_any p braided h own i rec (saw_asked (next p h) i rec (alone_fits given h (next p h) (Saw i rec) alone.0)) in
      picked_input given h (given.picks (taken_by h)) i rec (ap (alone_event given h) (sym any) ∙ alone.0)

  -- the next record of a link
  abbrev head_at : List Event → Link → Pick
  head_at h k = (k.input, tag_of net first u k (tooks_on k.input h))

  -- and no other record's tag comes before that one's
  pub none_before : (h : List Event) (i j : ℕ) (l m : Link) → first_tagged net first u (taken_by h) ≡ Some i → link_in net nothing_yet u i ≡ Some l → link_in net nothing_yet u j ≡ Some m → tooks_on j h < puts_on m.output (past first m.from) →
      comes_before (tag_of net first u m (tooks_on j h)) (tag_of net first u l (tooks_on i h)) ≡ false
  none_before h i j l m picks at_l at_m more = by_least (least (next_on net first u (taken_by h)) net.links) refl picks
    where
      by_least : (a : Option Pick) → least (next_on net first u (taken_by h)) net.links ≡ a → input_of a ≡ Some i → comes_before (tag_of net first u m (tooks_on j h)) (tag_of net first u l (tooks_on i h)) ≡ false
      by_least None is e = cc
      by_least (Some a) is e =
          let r = least_from (next_on net first u (taken_by h)) net.links a is in
          let c = cond_some (same r.1.to u && nat_lt (tooks_on r.1.input h) (puts_on r.1.output (past first r.1.from))) (Some (head_at h r.1)) r.3 in
          let to = (both (same r.1.to u) (nat_lt (tooks_on r.1.input h) (puts_on r.1.output (past first r.1.from))) c.0).0 in
          let head_is : head_at h r.1 ≡ a = (let z = c.1 in cc) in
          let input_is : r.1.input ≡ i = ap (λ (z : Pick). z.0) head_is ∙ (let z : a.0 ≡ i = cc in z) in
          let there : link_in net nothing_yet u i ≡ Some r.1 = subst (λ z. link_in net nothing_yet u z ≡ Some r.1) input_is (subst (λ z. link_in net nothing_yet z r.1.input ≡ Some r.1) (eqb-true r.1.to u to) (link_there net formed r.0 r.1 r.2)) in
          let one : Some r.1 ≡ Some l = sym there ∙ at_l in
          let it : r.1 ≡ l = cc in
          let tag_is : a.1 ≡ tag_of net first u l (tooks_on i h) = ap (λ (z : Pick). z.1) (sym head_is) ∙ ap (λ (z : Link). tag_of net first u z (tooks_on z.input h)) it ∙ ap (λ z. tag_of net first u l (tooks_on z h)) (from_in net formed nothing_yet u i l at_l).1 in
          let f = found_at (λ k. same k.to u && k.input == j) net.links at_m in
          let in_m = (from_in net formed nothing_yet u j m at_m).1 in
          let next_is : next_on net first u (taken_by h) m ≡ Some (head_at h m) =
          ap (λ b. cond b (Some (head_at h m)) None) (ap (λ b. b && nat_lt (tooks_on m.input h) (puts_on m.output (past first m.from))) (both (same m.to u) (m.input == j) f.0).0
          ∙ subst (λ z. nat_lt (tooks_on z h) (puts_on m.output (past first m.from)) ≡ true) (sym in_m) (lt-ltb (tooks_on j h) (puts_on m.output (past first m.from)) more)) in
          let least_is = least_first (next_on net first u (taken_by h)) net.links f.1.0 m a (head_at h m) f.1.1 next_is is in
          subst (λ z. comes_before (tag_of net first u m (tooks_on z h)) (tag_of net first u l (tooks_on i h)) ≡ false) in_m (subst (λ z. comes_before (tag_of net first u m (tooks_on m.input h)) z ≡ false) tag_is least_is)
