-- The lists of a stage that only writes pairs for each record see a record, or sift it, as the stage does.
use Rattle.std.proofs.Common.{Bool, List, [], ◌∷◌, ◌++◌, ℕ, Some, None, Option, sym, ap, subst}
use Rattle.pipe_model.specs.Row.{Act}
use Rattle.pipe_model.specs.Shape.{Records, Outs, Stream, acts_of}
use Rattle.stage_steps.specs.declared.each.Each.{Each}
use Rattle.stage_steps.specs.declared.group.Group.{Group}
use Rattle.stage_steps.specs.declared.sifted.Sifted.{Sifted}
use Rattle.stage_steps.specs.declared.sifted.Sifted.TheVariants.{Drops, Passes, Gives}
use Rattle.stage_steps.specs.Each.{EachStand}
use Rattle.stage_steps.specs.Lists.{Sees, SeesEach, GivesNext, GoesOn, IsEmpty, Sifts, SiftsEach, always, once}

module _ {E : Type 0} (stands : E → Outs → Records → List Act → Type 0) where
  pub sees_each : (looks : Bool) (x y : Each E) (bytes : List ℕ) → SeesEach stands looks x.each y.each bytes → Sees (EachStand stands) looks x y bytes
  sees_each looks x y bytes sees = λ t recs rec is room came.
      let all = recs ++ rec ∷ [] in
      (is.0, is.1, subst (λ (t : Stream). stands y.each is.0 all (acts_of t.outs all)) (sym is.1) (sees is.0 recs rec is.2 room came))

  pub gives_each : (made : E → Option (List ℕ)) (x y : Each E) (given : Option Group) → GivesNext (always stands) made x.each y.each given → GivesNext (EachStand stands) (λ (z : Each E). made z.each) x y given
  gives_each made x y None gives = λ over t recs acts is. let n = gives over is.0 recs acts is.2 in (n.0, (is.0, is.1, n.1))
  gives_each made x y (Some g) gives = (gives.0, λ over t recs acts is. let n = gives.1 over is.0 recs acts is.2 in (n.0, n.1, (is.0, is.1, n.2), n.3))

  -- such a stage neither halts nor stops
  goes_on_each : (y : Each E) → IsEmpty stands y.each → GoesOn (EachStand stands) y
  goes_on_each y empty = (
    λ over t recs acts is. (empty is.0 recs acts is.2, ap (λ (t : Stream). t.stops recs) is.1),
    λ over t recs acts is. sym (ap (λ (t : Stream). t.halts recs) is.1),
  )

  pub sifts_each : (made : E → Option (List ℕ)) (looks : Bool) (x y : Each E) (bytes : List ℕ) (sifted : Sifted) → SiftsEach stands made looks x.each y.each bytes sifted → Sifts (EachStand stands) (λ (z : Each E). made z.each) looks x y bytes sifted
  sifts_each made looks x y bytes Drops sifts =
      let between : Each E = record { each = sifts.0 } in
      (between, sees_each looks x between bytes sifts.1, gives_each made between y None sifts.2, goes_on_each y sifts.3)
  sifts_each made looks x y bytes (Passes output) sifts =
      let between : Each E = record { each = sifts.0 } in
      (between, sees_each looks x between bytes sifts.1, gives_each made between y (Some (once output)) sifts.2, goes_on_each y sifts.3)
  sifts_each made looks x y bytes Gives sifts = sees_each looks x y bytes sifts
