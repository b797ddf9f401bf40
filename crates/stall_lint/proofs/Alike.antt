-- A strand that is fed differs from what it was in nothing that a wait rests on.
use Rattle.std.proofs.Common.{◌≡◌, ℕ, Bool, List, refl, sym, ◌∙◌, subst, Option, Some, None}
use Rattle.std.specs.Option.{option_map}
use Rattle.std.proofs.lemmas.Option.{slice_get-map}
use Rattle.pipe_model.specs.declared.kind.Kind.{Kind}
use Rattle.pipe_model.specs.declared.kind.Kind.TheVariants.{ConsoleIn, FileIn}
use Rattle.pipe_model.specs.declared.net.Net.{Net}
use Rattle.pipe_model.specs.declared.net.Strand.{Strand}
use Rattle.pipe_model.specs.Form.{is_thin_by, meeting_by, parting_by}
use Rattle.pipe_model.specs.Shape.{Shape}
use Rattle.pipe_model.specs.State.{State, Who, strand_at, strand_in}
use Rattle.pipe_model.specs.Table.{form, line_of}
use Rattle.net_graph.specs.Fed.{fed, fed_kind, fed_strand}

-- shapes that are alike
record AreShapes (outputs : List Bool) (old new : Shape) : Type 0 where
  thin : is_thin_by outputs new ≡ is_thin_by outputs old
  meeting : meeting_by new ≡ meeting_by old
  parting : parting_by new ≡ parting_by old

itself : (outputs : List Bool) (shape : Shape) → AreShapes outputs shape shape
itself outputs shape = record { thin = refl; meeting = refl; parting = refl }

-- strands that are alike
pub record IsAlike (p q : Strand) : Type 0 where
  pub thin : (form q).thin ≡ (form p).thin
  pub meeting : (form q).meeting ≡ (form p).meeting
  pub issues : (form q).issues ≡ (form p).issues
  pub parting : (form q).parting ≡ (form p).parting

module _ (input : List ℕ) (files : List ℕ → Option (List ℕ)) where
  other_file : (outputs : List Bool) (name : List ℕ) (old new : Option (List ℕ)) → AreShapes outputs (line_of (FileIn name old)).shape (line_of (FileIn name new)).shape
  other_file outputs name None None = itself outputs (line_of (FileIn name None)).shape
  other_file outputs name None (Some new) = record { thin = refl; meeting = refl; parting = refl }
  other_file outputs name (Some old) None = record { thin = refl; meeting = refl; parting = refl }
  other_file outputs name (Some old) (Some new) = record { thin = refl; meeting = refl; parting = refl }

  fed_shape : (outputs : List Bool) (kind : Kind) → AreShapes outputs (line_of kind).shape (line_of (fed_kind input files kind)).shape
  fed_shape outputs (ConsoleIn bytes) = record { thin = refl; meeting = refl; parting = refl }
  fed_shape outputs (FileIn name bytes) = other_file outputs name bytes (files name)
  fed_shape outputs kind = itself outputs (line_of kind).shape

  fed_alike : (p : Strand) → IsAlike p (fed_strand input files p)
  fed_alike p = let shapes = fed_shape p.ports.has_output p.kind in record { thin = shapes.thin; meeting = shapes.meeting; issues = refl; parting = shapes.parting }

  module _ (net : Net) (st : State) (s : Who) where
    -- what stands where in the net that is fed
    fed_at : strand_at (fed input files net) st s ≡ option_map (fed_strand input files) (strand_in net s)
    fed_at = slice_get-map (fed_strand input files) net.strands s

    -- a strand of it is one of the net
    pub strand_of : (q : Strand) → strand_at (fed input files net) st s ≡ Some q → (p : Strand) × (strand_in net s ≡ Some p) × IsAlike p q
    strand_of q is = by (strand_in net s) refl (sym fed_at ∙ is)
      where
        by : (m : Option Strand) → strand_in net s ≡ m → option_map (fed_strand input files) m ≡ Some q → (p : Strand) × (strand_in net s ≡ Some p) × IsAlike p q
        by None was is = cc
        by (Some p) was is = (p, was, subst (IsAlike p) (let e : fed_strand input files p ≡ q = cc in e) (fed_alike p))
