use Rattle.std.proofs.Common.{◌++◌, ◌∙◌, ap, Option, option_to_list}
use Rattle.std.specs.Vec.Iter.{into_iter_items}
use Rattle.core_machine.specs.declared.job.RunEnd.{RunEnd}
use Rattle.core_machine.specs.Machine.{Machine}
use Rattle.net_runs.proofs.SetBegins.{ends_gone}
use Rattle.net_runs.proofs.sets_driven.end_set.Goals as goal

pub returns : goal.returns
returns g c =
    let left = into_iter_items c.next.new.self in
    let next = c.next.ensures.items ∙ ap (λ (r : Option (Machine × RunEnd)). option_to_list r ++ left) c.unwrap-core.ensures in
    record {
      ended = λ workers set sets begun are.
          ends_gone c.args.steps workers sets begun c.unwrap-core.result left c.in_ok-ran.ran c.in_ok-ran.ensures.core c.in_ok-ran.ensures.ends c.in_ok-ready_of.field-0 c.in_ok-ready_of.ensures
          set c.args.told (into_iter_items c.args.ran.now) c.in_default.is next are;
    }
