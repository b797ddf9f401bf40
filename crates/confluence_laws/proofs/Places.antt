-- The connected inputs of a strand, and where their links come from.
use Rattle.std.proofs.Common.{◌≡◌, ℕ, zero, suc, ◌+◌, ◌≤◌, ◌<◌, Bool, true, false, ◌&&◌, ◌||◌, ◌==◌, [], length, refl, sym, ◌∙◌, ap, arith, Option, Some, None, is_some, inl, inr}
use Rattle.std.proofs.lemmas.Bool.{eqb-true}
use Rattle.std.proofs.lemmas.Map.Views.{any-filter_same}
use Rattle.std.specs.List.{range_with_len}
use Rattle.pipe_model.specs.declared.net.Net.{Net}
use Rattle.pipe_model.specs.declared.net.Link.{Link}
use Rattle.pipe_model.specs.declared.net.Strand.{Strand}
use Rattle.pipe_model.specs.Members.{has, flag_at}
use Rattle.pipe_model.specs.State.{Who, same, strand_in, link_into}
use Rattle.pipe_model.specs.Settled.{connected_of, connected_inputs}
use Rattle.pipe_model.specs.WellFormed.{IsWellFormed}
use Rattle.pipe_model.proofs.Numbers.{equal_or_not, test_same}
use Rattle.pipe_model.proofs.Lists.{found_at, flag_place}
use Rattle.confluence_laws.proofs.Basics.{the_event, from_in}

-- a number within a range stands in it
pub has_between : (a n i : ℕ) → a ≤ i → i < a + n → has (range_with_len a n) i ≡ true
has_between a zero i le lt = absurd (omega (arith, le, lt))
has_between a (suc n) i le lt = elim (equal_or_not a i) [
  | inl is ↦ ap (λ b. b || has (range_with_len (a + 1) n) i) (ap (λ z. z == i) is ∙ test_same i)
  | inr apart ↦ by_test (a == i) (has_between (a + 1) n i (omega (arith, le, apart)) (omega (arith, lt)))
]
  where
    by_test : (b : Bool) → has (range_with_len (a + 1) n) i ≡ true → (b || has (range_with_len (a + 1) n) i) ≡ true
    by_test true later = refl
    by_test false later = later

-- an input is connected where its flag is set
pub connected_is : (p : Strand) (i : ℕ) → has (connected_of (Some p)) i ≡ flag_at p.ports.has_input i
connected_is p i =
    any-filter_same (λ y. y == i) (flag_at p.ports.has_input) (flag_at p.ports.has_input i) (λ k is. ap (flag_at p.ports.has_input) (eqb-true k i is)) (range_with_len 0 (length p.ports.has_input))
    ∙ by_flag (flag_at p.ports.has_input i) refl
  where
    by_flag : (b : Bool) → flag_at p.ports.has_input i ≡ b → (b && has (range_with_len 0 (length p.ports.has_input)) i) ≡ b
    by_flag true is = let lt = flag_place p.ports.has_input i is in has_between 0 (length p.ports.has_input) i (omega arith) (omega (arith, lt))
    by_flag false is = refl

module _ (net : Net) (formed : IsWellFormed net) (s : Who) (i : ℕ) where
  -- a connected input has a link
  pub input_link : has (connected_inputs net s) i ≡ true → (l : Link) × (link_into net s i ≡ Some l)
  input_link on = by_strand (strand_in net s) refl on
    where
      by_strand : (m : Option Strand) → strand_in net s ≡ m → has (connected_of m) i ≡ true → (l : Link) × (link_into net s i ≡ Some l)
      by_strand None is on = cc
      by_strand (Some p) is on = the_event (link_into net s i) (sym ((formed.told s p is).has_input i) ∙ sym (connected_is p i) ∙ on)

  -- an input with a link is connected
  pub link_input : (l : Link) → link_into net s i ≡ Some l → has (connected_inputs net s) i ≡ true
  link_input l e =
      let to = (from_in net formed (λ t. []) s i l e).0 in
      let r = found_at (λ k. same k.to s && k.input == i) net.links e in
      let there = formed.joined r.1.0 l r.1.1 in
      let p : strand_in net s ≡ Some there.consumer = ap (strand_in net) (sym to) ∙ there.to_strand in
      ap (λ m. has (connected_of m) i) p ∙ connected_is there.consumer i ∙ (formed.told s there.consumer p).has_input i ∙ ap is_some e
