-- The net of a straight line is plain.
use Rattle.std.proofs.Common.{◌≡◌, ℕ, ◌<◌, ◌+◌, true, false, List, length, refl, sym, ◌∙◌, subst, arith, Option, Some, None}
use Rattle.pipe_model.specs.declared.net.Net.{Net}
use Rattle.pipe_model.specs.declared.net.Link.{Link}
use Rattle.pipe_model.specs.declared.net.Strand.{Strand}
use Rattle.pipe_model.specs.State.{Who, nothing_yet, strand_at}
use Rattle.pipe_model.specs.Table.{form}
use Rattle.pipe_model.specs.Form.Meeting.{Ordered}
use Rattle.pipe_model.specs.Plain.{IsPlain, waits_for_first}
use Rattle.pipe_model.specs.Settled.{Meets}
use Rattle.net_graph.specs.Line.{line_net}
use Rattle.call_meaning.proofs.LineStrands.{each_strand, link_at}

module _ (bytes : List ℕ) (strings : List (List ℕ)) where
  abbrev net : Net
  net = line_net bytes strings

  -- no strand takes what comes first
  line_ordered : (s : Who) (p : Strand) → strand_at net nothing_yet s ≡ Some p → (form p).meeting ≡ Ordered
  line_ordered = each_strand (λ s p. (form p).meeting ≡ Ordered) bytes strings refl (λ k string some within. refl) refl

  -- and none waits for another one of its stage
  no_waits : (s : Who) (p : Strand) → strand_at net nothing_yet s ≡ Some p → waits_for_first (Some p) ≡ false
  no_waits = each_strand (λ s p. waits_for_first (Some p) ≡ false) bytes strings refl (λ k string some within. refl) refl

  no_parts : (s : Who) (m : Option Strand) → strand_at net nothing_yet s ≡ m → waits_for_first m ≡ true → ⊥
  no_parts s None at waits = cc
  no_parts s (Some p) at waits = (let z : true ≡ false = sym waits ∙ no_waits s p at in cc)

  -- the net is plain
  pub line_plain : IsPlain net
  line_plain = record {
    settled = λ s p at. subst (λ m. Meets net s m) (sym (line_ordered s p at)) tt;
    acyclic = record {
      rank = λ s. s;
      along = λ j link at. let l = link_at 0 (length strings + 1) j link at in subst (λ (z : Link). z.from < z.to) (sym l.0) (omega arith);
      parts = λ s waits. absurd (no_parts s (strand_at net nothing_yet s) refl waits);
    };
    finite = each_strand (λ s p. (form p).finite ≡ true) bytes strings refl (λ k string some within. refl) refl;
    issues = each_strand (λ s p. (form p).issues ≡ false) bytes strings refl (λ k string some within. refl) refl;
  }
