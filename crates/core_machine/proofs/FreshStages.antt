-- Stages that stand for the strands of a net, one by one.
use Rattle.std.proofs.Common.{◌≡◌, ℕ, zero, suc, List, [], ◌∷◌, length, refl, sym, ap, subst, Some, slice_get}
use Rattle.pipe_model.specs.declared.net.Strand.{Strand}
use Rattle.pipe_model.specs.Event.{Event}
use Rattle.core_machine.specs.Start.{AreFresh}

module _ {S : Type 0} (stands : S → Strand → List Event → Type 0) where
  -- each stage stands for its strand before the first event
  abbrev pub StandEach : List Strand → List S → Type 0
  StandEach [] [] = Unit {0}
  StandEach (p ∷ strands) (x ∷ stages) = stands x p [] × StandEach strands stages
  StandEach _ _ = ⊥

  as_many : (strands : List Strand) (stages : List S) → StandEach strands stages → length stages ≡ length strands
  as_many [] [] each = refl
  as_many (p ∷ strands) (x ∷ stages) each = ap suc (as_many strands stages each.1)
  as_many [] (x ∷ stages) each = absurd each
  as_many (p ∷ strands) [] each = absurd each

  stands_at : (strands : List Strand) (stages : List S) → StandEach strands stages → (s : ℕ) (q : Strand) (y : S) → slice_get strands s ≡ Some q → slice_get stages s ≡ Some y → stands y q []
  stands_at (p ∷ strands) (x ∷ stages) each zero q y strand stage =
      let strands' : p ≡ q = cc in
      let stages' : x ≡ y = cc in
      subst (λ z. stands z q []) stages' (subst (λ z. stands x z []) strands' each.0)
  stands_at (p ∷ strands) (x ∷ stages) each (suc s) q y strand stage = stands_at strands stages each.1 s q y strand stage
  stands_at [] [] each s q y strand stage = cc
  stands_at [] (x ∷ stages) each s q y strand stage = absurd each
  stands_at (p ∷ strands) [] each s q y strand stage = absurd each

  -- so they are fresh
  pub fresh_each : (strands : List Strand) (stages : List S) (ps : List Strand) (xs : List S) → strands ≡ ps → stages ≡ xs → StandEach ps xs → AreFresh stands strands stages
  fresh_each strands stages ps xs strands_are stages_are each =
      subst (λ z. AreFresh stands z stages) (sym strands_are) (subst (λ z. AreFresh stands ps z) (sym stages_are) (record { count = as_many ps xs each; each = stands_at ps xs each }))
