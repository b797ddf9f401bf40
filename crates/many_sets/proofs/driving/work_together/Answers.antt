use Rattle.std.proofs.Common.{◌≡◌, [], Global, Vec, get_or, take, sym, subst}
use Rattle.std.specs.List.{AllZip}
use Rattle.std.proofs.lemmas.List.Elements.{All-take}
use Rattle.core_machine.specs.Machine.{Machine}
use Rattle.workers.specs.Driven.{LeftByWorkers}
use Rattle.many_sets.specs.Hands.{IsFounded, MayWorkOn}
use Rattle.many_sets.proofs.Drives.{all_as_they_were}
use Rattle.many_sets.proofs.Meetings.{founded_left, founded_may}
use Rattle.many_sets.proofs.driving.work_together.Goals as goal

pub returns-in_default : goal.returns-in_default
returns-in_default g c = all_as_they_were c.args.cores.items c.requires.home

pub returns-in_default-stealers_of : goal.returns-in_default-stealers_of
returns-in_default-stealers_of g c = all_as_they_were c.args.cores.items c.requires.home

pub returns-in_default-with_capacity : goal.returns-in_default-with_capacity
returns-in_default-with_capacity g c = all_as_they_were c.args.cores.items c.requires.home

pub work_all-requires-clause-passes : goal.work_all-requires-clause-passes
work_all-requires-clause-passes g c κs within k d below =
    let found = c.found_all in let hands = found.new.hands in
    subst (λ boards. MayWorkOn boards (get_or hands k d).passes.items) (sym c.as_slice-2.ensures.value) (founded_may c.args.cores.items found.new.boards.items hands found.ensures.founded k d below)

pub close_all-requires-clause-founded : goal.close_all-requires-clause-founded
close_all-requires-clause-founded g c =
    let found = c.found_all in let work = c.work_all in
    subst (λ (cores : Vec Machine Global). IsFounded cores.items found.new.boards.items work.new.hands) (sym c.of-origin.ensures)
    (founded_left c.args.cores.items found.new.boards.items found.new.hands work.new.hands found.ensures.founded work.ensures.len work.ensures.passes)

pub close_all-requires-clause-left : goal.close_all-requires-clause-left
close_all-requires-clause-left g c =
    let cores = c.args.cores.items in let found = c.found_all in let left = found.new.cores in
    subst (λ (all : Vec Machine Global). AllZip LeftByWorkers (take left.len all.items) left.items) (sym c.of-origin.ensures)
    (subst (AllZip LeftByWorkers (take left.len cores)) (sym found.ensures.left)
    (all_as_they_were (take left.len cores) (All-take (λ (m : Machine). m.out ≡ []) left.len cores c.requires.home)))
