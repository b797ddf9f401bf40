use Rattle.std.proofs.Common.{◌≡◌, Bool, map, drop}
use Rattle.stage_syntax.specs.Names.{named_in}
use Rattle.stage_syntax.specs.StageForms.{named_as}
use Rattle.stage_syntax.proofs.stages.named_among.Given as goal

abbrev pub invariant-loop-spelled : goal.invariant-loop-spelled
invariant-loop-spelled l = (first : Bool) → named_in (map (named_as first) l.stages) l.name ≡ named_in (map (named_as first) (drop l.spelled-index l.stages)) l.name
