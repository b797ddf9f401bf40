use Rattle.std.proofs.Common.{◌∙◌, sym, subst, None}
use Rattle.stage_steps.specs.Lists.{GivesNext}
use Rattle.stage_steps.proofs.Groups.{passes_one}
use Rattle.stage_steps.proofs.walk.next_group.Goals as goal

pub loop-group-preserved : goal.loop-group-preserved
loop-group-preserved g c =
    let gives = subst (GivesNext g.L.Lists.stands g.L.Lists.made c.loop-group.lists c.next.new.self) c.in-Some.is c.in_ok-group.ensures.gives in record {
      looks_same = c.in_ok-group.ensures.looks_same ∙ c.loop-group.invariant.looks_same;
      passes = passes_one g.L.Lists.stands g.L.Lists.made c.args.outputs.now.flags.items c.args.lists.now c.loop-group.lists c.next.new.self None c.in-Some.group c.loop-group.invariant.passes gives (sym c.takes.ensures ∙ c.if-takes.false);
    }
