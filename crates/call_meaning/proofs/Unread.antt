-- A net that doesn't read the input.
use Rattle.std.proofs.Common.{◌≡◌, ℕ, false, List, [], ◌∷◌, map, refl, ap, ap₂}
use Rattle.std.proofs.lemmas.Bool.{or_parts}
use Rattle.std.specs.List.{list_any}
use Rattle.outside.specs.Files.{Files}
use Rattle.pipe_model.specs.declared.kind.Kind.{Kind}
use Rattle.pipe_model.specs.declared.kind.Kind.TheVariants.{ConsoleIn}
use Rattle.pipe_model.specs.declared.net.Net.{Net}
use Rattle.pipe_model.specs.declared.net.Strand.{Strand}
use Rattle.net_graph.specs.Fed.{fed, fed_kind, fed_strand, reads_any, reads_input}

module _ (a b : List ℕ) (files : Files) where
  kind_unread : (kind : Kind) → reads_input kind ≡ false → fed_kind a files kind ≡ fed_kind b files kind
  kind_unread (ConsoleIn bytes) leaves = cc
  kind_unread _ leaves = refl

  strands_unread : (ps : List Strand) → list_any (λ (p : Strand). reads_input p.kind) ps ≡ false → map (fed_strand a files) ps ≡ map (fed_strand b files) ps
  strands_unread [] leaves = refl
  strands_unread (p ∷ ps) leaves =
      let none = or_parts (reads_input p.kind) (list_any (λ (q : Strand). reads_input q.kind) ps) leaves in
      ap₂ (λ (x : Strand) (xs : List Strand). x ∷ xs) (ap (λ kind. record p { kind = kind }) (kind_unread p.kind none.0)) (strands_unread ps none.1)

  -- is fed the same on any
  pub fed_unread : (net : Net) → reads_any net ≡ false → fed a files net ≡ fed b files net
  fed_unread net leaves = ap (λ strands. record net { strands = strands }) (strands_unread net.strands leaves)
