use Rattle.std.proofs.Common.{◌≡◌, ◌+◌, ◌∙◌, Some, arith, refl, ap, slice_get, length, length-append, ℕ}
use Rattle.std.proofs.lemmas.Option.{slice_get_read}
use Rattle.net_graph.specs.Nets.{first_number}
use Rattle.net_graph.specs.Partings.{sizes_by}
use Rattle.net_graph.proofs.Laid.{each_pushed, next_first, part_is, sizes_count, small_first}
use Rattle.net_graph.proofs.Widths.{first_last}
use Rattle.net_graph.proofs.layout.layout_of.Goals as goal

pub overflow_cast-strands : goal.overflow_cast-strands
overflow_cast-strands c =
    let there : slice_get c.args.kinds.now c.loop-stage.stage ≡ Some c.index-kinds-stage.result = slice_get_read c.args.kinds.now _ _ _ refl c.loop-stage-test.true c.index-kinds-stage.is in
    let small = small_first c.args.later.now c.args.kinds.now c.requires.each c.loop-stage.stage c.index-kinds-stage.result there c.requires.few in
    omega arith

pub loop-stage-preserved : goal.loop-stage-preserved
loop-stage-preserved c =
    let there : slice_get c.args.kinds.now c.loop-stage.stage ≡ Some c.index-kinds-stage.result = slice_get_read c.args.kinds.now _ _ _ refl c.loop-stage-test.true c.index-kinds-stage.is in
    record {
      size = ap length c.in_ok-push.ensures.items ∙ (length-append c.loop-stage.parts.items _ ∙ ap (λ (n : ℕ). n + 1) c.loop-stage.invariant.size);
      count = rw (c.from-strands.ensures, c.strands.ensures) (next_first c.args.later.now c.args.kinds.now c.requires.each c.loop-stage.stage c.index-kinds-stage.result there c.of-parting.result c.of-parting.ensures c.loop-stage.strands c.loop-stage.invariant.count);
      each = each_pushed (sizes_by c.args.later.now c.args.kinds.now) c.loop-stage.parts.items c.push.new.self.items _ c.loop-stage.stage c.loop-stage.invariant.size c.loop-stage.invariant.each c.in_ok-push.ensures.items
          (part_is c.args.later.now c.args.kinds.now c.requires.each c.loop-stage.stage c.index-kinds-stage.result there c.of-parting.result c.of-parting.ensures c.loop-stage.strands c.loop-stage.invariant.count);
    }

pub returns-clause-parts : goal.returns-clause-parts
returns-clause-parts c =
    let count = sizes_count c.args.later.now c.args.kinds.now c.requires.each in
    record { count = omega arith; each = c.loop-stage.invariant.each }

pub returns-clause-count : goal.returns-clause-count
returns-clause-count c =
    let count = sizes_count c.args.later.now c.args.kinds.now c.requires.each in
    let last : c.loop-stage.stage ≡ length (sizes_by c.args.later.now c.args.kinds.now) = omega arith in
    c.loop-stage.invariant.count ∙ (ap (first_number (sizes_by c.args.later.now c.args.kinds.now)) last ∙ first_last (sizes_by c.args.later.now c.args.kinds.now))
