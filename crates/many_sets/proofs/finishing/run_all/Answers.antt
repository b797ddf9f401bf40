use Rattle.std.proofs.Common.{◌+◌, ◌≤◌, ◌∷◌, [], ◌++◌, sym, subst, ◌∙◌, ap}
use Rattle.std.specs.List.{AllZip}
use Rattle.std.proofs.lemmas.List.{length_push}
use Rattle.std.proofs.lemmas.Slice.Zip.{all_zipped_more}
use Rattle.core_machine.specs.Machine.{Machine}
use Rattle.core_machine.specs.declared.job.RunEnd.{RunEnd}
use Rattle.many_sets.specs.Finished.{IsFinished}
use Rattle.many_sets.proofs.finishing.run_all.Goals as goal

pub loop-core-preserved : goal.loop-core-preserved
loop-core-preserved g c =
    let P : Machine → Machine × RunEnd → Type 0 = λ m one. IsFinished m one.0 one.1 in
    let i = c.loop-core.invariant in let push = c.push_reserved.ensures in
    record {
      ran = subst (AllZip P (c.loop-core.yielded ++ c.in-Some.core ∷ [])) (sym push.items) (all_zipped_more P c.loop-core.yielded c.loop-core.ran.items c.in-Some.core c.in_ok-run_one.field-0 i.ran c.in_ok-run_one.ensures);
      count = push.len ∙ ap (λ n. n + 1) i.count ∙ sym (length_push c.loop-core.yielded c.in-Some.core);
      room = subst (λ n. c.args.cores.len ≤ n) (sym push.capacity) i.room;
      next = tt;
      ends = tt;
    }
