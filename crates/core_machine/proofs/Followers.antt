-- The strands of a stage follow its first one.
use Rattle.std.proofs.Common.{◌≡◌, ◌≢◌, ℕ, ◌+◌, ◌-◌, ◌<◌, ◌≤◌, refl, sym, ◌∙◌, ap, arith, Option, Some, None, slice_get}
use Rattle.pipe_model.specs.declared.net.Net.{Net}
use Rattle.pipe_model.specs.declared.net.Strand.{Strand}
use Rattle.pipe_model.specs.State.{State}
use Rattle.pipe_model.specs.Licence.{part_down}
use Rattle.pipe_model.specs.Table.{form}
use Rattle.pipe_model.specs.WellFormed.{IsWellFormed, strands_of}
use Rattle.run_desk.specs.Desk.{DeskState}
use Rattle.run_desk.specs.Standing.{IsLaid}
use Rattle.run_desk.specs.Telling as Telling

module _ (net : Net) (st : State) (formed : IsWellFormed net) (d : DeskState) (laid : IsLaid net st d) (s u : ℕ) (apart : u ≢ s) (first : Telling.first_of u (slice_get d.doors u) ≡ s) where
  in_stage : part_down u (slice_get net.strands u) ≡ s
  in_stage = sym (laid.firsts u) ∙ first

  strictly_less : (a b c : ℕ) → a - b ≡ c → a ≢ c → c < a
  strictly_less a b c e p = grind arith

  -- what is to be shown of the strand
  abbrev Follows : Type 0
  Follows = (s < u) × ((t : ℕ) → s < t → t ≤ u → Telling.first_of t (slice_get d.doors t) ≡ s)

  by_strand : (x : Option Strand) → slice_get net.strands u ≡ x → Follows
  by_strand None at = absurd (apart (ap (part_down u) (sym at) ∙ in_stage))
  by_strand (Some p) at = (strictly_less u p.part s down apart, between)
    where
      down : u - p.part ≡ s
      down = ap (part_down u) (sym at) ∙ in_stage

      between : (t : ℕ) → s < t → t ≤ u → Telling.first_of t (slice_get d.doors t) ≡ s
      between t less most =
          let m = formed.staged u p at in
          let of = m.1 in
          let behind = of.first in
          let within = of.part in
          let few : t - s < strands_of (form p).parting m.0 = omega (arith, down, behind, within, less, most) in
          let other = of.others (t - s) few in
          let place : u - p.part + (t - s) ≡ t = omega (arith, down, less) in
          let there : slice_get net.strands t ≡ Some other.0 = ap (slice_get net.strands) (sym place) ∙ other.1 in
          let back : t - (t - s) ≡ s = omega (arith, less) in
          laid.firsts t ∙ ap (part_down t) there ∙ ap (λ z. t - z) other.2 ∙ back

  -- a strand of another's stage stands behind it, and between them are strands of that stage alone
  pub follows : Follows
  follows = by_strand (slice_get net.strands u) refl
