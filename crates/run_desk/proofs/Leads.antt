-- The doors of a desk lead to the net's links.
use Rattle.std.proofs.Common.{◌≡◌, ℕ, Bool, true, false, ◌&&◌, ◌==◌, List, sym, ◌∙◌, ap, Option, Some, None, slice_get}
use Rattle.std.proofs.lemmas.Bool.{eqb-true}
use Rattle.std.specs.Cmp.{both_ways}
use Rattle.pipe_model.specs.declared.net.Net.{Net}
use Rattle.pipe_model.specs.declared.net.Link.{Link}
use Rattle.pipe_model.specs.State.{Who, State, same, link_in, link_out}
use Rattle.pipe_model.specs.WellFormed.{IsWellFormed}
use Rattle.pipe_model.proofs.Truths.{both}
use Rattle.pipe_model.proofs.Numbers.{test_same}
use Rattle.pipe_model.proofs.Lists.{found_at, finds}
use Rattle.run_desk.specs.Desk.{DeskState}
use Rattle.run_desk.specs.Telling.{inputs_of, outputs_of, in_door, out_door}
use Rattle.run_desk.specs.Standing.{link_through, IsLaid}
use Rattle.run_desk.proofs.Lists.{leads, leads_any, leads_one, which_leads}

both_hold : (a b : Bool) → a ≡ true → b ≡ true → (a && b) ≡ true
both_hold true b p q = q
both_hold false b p q = p

module _ (net : Net) (formed : IsWellFormed net) (st : State) (d : DeskState) (laid : IsLaid net st d) where
  -- an output's door leads to the link that leaves there
  pub out_leads : (s : Who) (o j : ℕ) (l : Link) → slice_get net.links j ≡ Some l → leads j (out_door d s o) ≡ (same l.from s && (l.output == o))
  out_leads s o j l at = by_door (out_door d s o) (laid.out_doors s o)
    where
      by_door : (x : Option ℕ) → link_out net st s o ≡ link_through net.links x → leads j x ≡ (same l.from s && (l.output == o))
      by_door x is = both_ways (leads j x) (same l.from s && (l.output == o)) (there x is) (back x is)
        where
          there : (x : Option ℕ) → link_out net st s o ≡ link_through net.links x → leads j x ≡ true → (same l.from s && (l.output == o)) ≡ true
          there None is it = cc
          there (Some k) is it = (found_at (λ z. same z.from s && (z.output == o)) net.links (is ∙ ap (slice_get net.links) (eqb-true k j it) ∙ at)).0

          back : (x : Option ℕ) → link_out net st s o ≡ link_through net.links x → (same l.from s && (l.output == o)) ≡ true → leads j x ≡ true
          back x is it = go x is
            where
              found : (m : Link) × (link_out net st s o ≡ Some m)
              found = finds (λ z. same z.from s && (z.output == o)) net.links j at it

              mine : (same l.from s ≡ true) × ((l.output == o) ≡ true)
              mine = both (same l.from s) (l.output == o) it

              its : (same found.0.from s ≡ true) × ((found.0.output == o) ≡ true)
              its = both (same found.0.from s) (found.0.output == o) (found_at (λ z. same z.from s && (z.output == o)) net.links found.1).0

              go : (x : Option ℕ) → link_out net st s o ≡ link_through net.links x → leads j x ≡ true
              go None is = let none : None ≡ Some found.0 = sym is ∙ found.1 in cc
              go (Some k) is =
                  let place : k ≡ j = formed.one_out k j found.0 l (sym is ∙ found.1) at
                  (eqb-true found.0.from s its.0 ∙ sym (eqb-true l.from s mine.0))
                  (eqb-true found.0.output o its.1 ∙ sym (eqb-true l.output o mine.1)) in
                  ap (λ z. z == j) place ∙ test_same j

  -- an input's door leads to the link that arrives there
  pub in_leads : (s : Who) (i j : ℕ) (l : Link) → slice_get net.links j ≡ Some l → leads j (in_door d s i) ≡ (same l.to s && (l.input == i))
  in_leads s i j l at = by_door (in_door d s i) (laid.in_doors s i)
    where
      by_door : (x : Option ℕ) → link_in net st s i ≡ link_through net.links x → leads j x ≡ (same l.to s && (l.input == i))
      by_door x is = both_ways (leads j x) (same l.to s && (l.input == i)) (there x is) (back x is)
        where
          there : (x : Option ℕ) → link_in net st s i ≡ link_through net.links x → leads j x ≡ true → (same l.to s && (l.input == i)) ≡ true
          there None is it = cc
          there (Some k) is it = (found_at (λ z. same z.to s && (z.input == i)) net.links (is ∙ ap (slice_get net.links) (eqb-true k j it) ∙ at)).0

          back : (x : Option ℕ) → link_in net st s i ≡ link_through net.links x → (same l.to s && (l.input == i)) ≡ true → leads j x ≡ true
          back x is it = go x is
            where
              found : (m : Link) × (link_in net st s i ≡ Some m)
              found = finds (λ z. same z.to s && (z.input == i)) net.links j at it

              mine : (same l.to s ≡ true) × ((l.input == i) ≡ true)
              mine = both (same l.to s) (l.input == i) it

              its : (same found.0.to s ≡ true) × ((found.0.input == i) ≡ true)
              its = both (same found.0.to s) (found.0.input == i) (found_at (λ z. same z.to s && (z.input == i)) net.links found.1).0

              go : (x : Option ℕ) → link_in net st s i ≡ link_through net.links x → leads j x ≡ true
              go None is = let none : None ≡ Some found.0 = sym is ∙ found.1 in cc
              go (Some k) is =
                  let place : k ≡ j = formed.one_in k j found.0 l (sym is ∙ found.1) at
                  (eqb-true found.0.to s its.0 ∙ sym (eqb-true l.to s mine.0))
                  (eqb-true found.0.input i its.1 ∙ sym (eqb-true l.input i mine.1)) in
                  ap (λ z. z == j) place ∙ test_same j

  -- one of a strand's outputs leads to a link exactly where the link leaves that strand
  pub outputs_lead : (s : Who) (j : ℕ) (l : Link) → slice_get net.links j ≡ Some l → leads_any j (outputs_of (slice_get d.doors s)) ≡ same l.from s
  outputs_lead s j l at = both_ways (leads_any j doors) (same l.from s)
      (λ it. let w = which_leads j doors it in (both (same l.from s) (l.output == w.0) (sym (out_leads s w.0 j l at) ∙ w.1)).0)
      (λ it. leads_one j doors l.output (out_leads s l.output j l at ∙ both_hold (same l.from s) (l.output == l.output) it (test_same l.output)))
    where
      doors : List (Option ℕ)
      doors = outputs_of (slice_get d.doors s)

  -- and one of its inputs, where it arrives there
  pub inputs_lead : (s : Who) (j : ℕ) (l : Link) → slice_get net.links j ≡ Some l → leads_any j (inputs_of (slice_get d.doors s)) ≡ same l.to s
  inputs_lead s j l at = both_ways (leads_any j doors) (same l.to s)
      (λ it. let w = which_leads j doors it in (both (same l.to s) (l.input == w.0) (sym (in_leads s w.0 j l at) ∙ w.1)).0)
      (λ it. leads_one j doors l.input (in_leads s l.input j l at ∙ both_hold (same l.to s) (l.input == l.input) it (test_same l.input)))
    where
      doors : List (Option ℕ)
      doors = inputs_of (slice_get d.doors s)
