-- The strand meets what it owes, or is the least that doesn't.
use Rattle.std.proofs.Common.{arith, ◌≡◌, true, false, length, refl, sym, ◌∙◌, ap, subst, Some, None, is_some, slice_get, slice_index_or}
use Rattle.std.proofs.lemmas.Option.{slice_get_read, slice_get_within, unwrap_or-slice_get}
use Rattle.pipe_model.specs.declared.net.Strand.{Strand}
use Rattle.pipe_model.specs.Settled.{fork, is_braided, rounds}
use Rattle.pipe_model.specs.State.{strand_in}
use Rattle.pipe_model.specs.Table.{form}
use Rattle.confluence_laws.proofs.Forks.{rounds_long}
use Rattle.braid_check.specs.Joins.{meets_by}
use Rattle.braid_check.proofs.Meeting.{braided_alone, braided_known, met, not_met, one_more_met}
use Rattle.braid_check.proofs.answer.first_loose.Goals as goal
use Rattle.braid_check.proofs.answer.first_loose.Goals.{then-is_some, else-is_some}

pub bounds-forks-place : goal.bounds-forks-place
bounds-forks-place c =
    let net = c.args.net.now in
    let long : length c.args.forks.now ≡ length net.strands = ap length c.requires.forks ∙ rounds_long net (length net.strands) in
    let strands : length c.as_slice-strands.result.now ≡ length net.strands = ap length c.as_slice-strands.ensures in
    omega (arith, long, strands, c.loop-strand-test.true)

pub returns-then-not-meets : goal.returns-then-not-meets
returns-then-not-meets c =
    let net = c.args.net.now in
    let s = c.loop-strand.strand in
    let p = c.index-strands-place-in-loop-strand.result in
    let there : strand_in net s ≡ Some p = subst (λ xs. slice_get xs s ≡ Some p) c.as_slice-strands.ensures (slice_get_read c.as_slice-strands.result.now (length c.as_slice-strands.result.now) s p refl c.loop-strand-test.true c.index-strands-place-in-loop-strand.is) in
    let known : is_some (fork net s) ≡ c.is_some.result = ap is_some (unwrap_or-slice_get (rounds net (length net.strands)) s None ∙ ap (λ xs. slice_index_or xs s None) (sym c.requires.forks)) ∙ sym c.is_some.ensures in
    let braided : c.if-is_some.is_braided ≡ is_braided net s = elim c.if-is_some.branch [
      | then-is_some w ↦ braided_known net c.requires.formed s p there c.if-is_some.is_braided (w.is_braided-is ∙ w.if-is_some.true) (known ∙ w.if-is_some.true)
      | else-is_some w ↦ (
          let q = w.index-strands-place.result in
          let there_q : strand_in net s ≡ Some q = subst (λ xs. slice_get xs s ≡ Some q) c.as_slice-strands.ensures (slice_get_read c.as_slice-strands.result.now (length c.as_slice-strands.result.now) s q refl c.loop-strand-test.true w.index-strands-place.is) in
          braided_alone net c.requires.formed s p there q c.if-is_some.is_braided there_q (w.is_braided-is ∙ w.is_unconnected-is_braided.ensures) (known ∙ w.if-is_some.false))
    ] in
    let fails : meets_by (form p).meeting (is_braided net s) ≡ false = ap (meets_by (form p).meeting) (sym braided) ∙ ap (λ (z : Strand). meets_by (form z).meeting c.if-is_some.is_braided) c.index-strands-place-in-loop-strand.is ∙ sym c.meets.ensures ∙ c.if-not-meets.true in
    record { strand = p; there = there; loose = not_met net c.requires.formed s p there fails; least = c.loop-strand.invariant }

pub loop-strand-preserved : goal.loop-strand-preserved
loop-strand-preserved c =
    let net = c.args.net.now in
    let s = c.loop-strand.strand in
    let p = c.index-strands-place-in-loop-strand.result in
    let there : strand_in net s ≡ Some p = subst (λ xs. slice_get xs s ≡ Some p) c.as_slice-strands.ensures (slice_get_read c.as_slice-strands.result.now (length c.as_slice-strands.result.now) s p refl c.loop-strand-test.true c.index-strands-place-in-loop-strand.is) in
    let known : is_some (fork net s) ≡ c.is_some.result = ap is_some (unwrap_or-slice_get (rounds net (length net.strands)) s None ∙ ap (λ xs. slice_index_or xs s None) (sym c.requires.forks)) ∙ sym c.is_some.ensures in
    let braided : c.if-is_some.is_braided ≡ is_braided net s = elim c.if-is_some.branch [
      | then-is_some w ↦ braided_known net c.requires.formed s p there c.if-is_some.is_braided (w.is_braided-is ∙ w.if-is_some.true) (known ∙ w.if-is_some.true)
      | else-is_some w ↦ (
          let q = w.index-strands-place.result in
          let there_q : strand_in net s ≡ Some q = subst (λ xs. slice_get xs s ≡ Some q) c.as_slice-strands.ensures (slice_get_read c.as_slice-strands.result.now (length c.as_slice-strands.result.now) s q refl c.loop-strand-test.true w.index-strands-place.is) in
          braided_alone net c.requires.formed s p there q c.if-is_some.is_braided there_q (w.is_braided-is ∙ w.is_unconnected-is_braided.ensures) (known ∙ w.if-is_some.false))
    ] in
    let holds : meets_by (form p).meeting (is_braided net s) ≡ true = ap (meets_by (form p).meeting) (sym braided) ∙ ap (λ (z : Strand). meets_by (form z).meeting c.if-is_some.is_braided) c.index-strands-place-in-loop-strand.is ∙ sym c.meets.ensures ∙ c.if-not-meets.false in
    one_more_met net s p there (met net c.requires.formed s p there holds) c.loop-strand.invariant

pub returns : goal.returns
returns c = λ s p at.
    (let within = slice_get_within c.args.net.now.strands s p at in
    let strands : length c.as_slice-strands.result.now ≡ length c.args.net.now.strands = ap length c.as_slice-strands.ensures in
    c.loop-strand.invariant s p (omega (arith, within, strands, c.loop-strand-test.false)) at)
