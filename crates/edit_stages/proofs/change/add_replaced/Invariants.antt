use Rattle.std.proofs.Common.{◌≡◌, ◌≤◌, ◌++◌, length}
use Rattle.pipe_model.specs.EditingRows.{replaced}
use Rattle.edit_stages.specs.Replacing.{IsNext}
use Rattle.edit_stages.proofs.change.add_replaced.Given as goal

abbrev pub invariant-loop-next : goal.invariant-loop-next
invariant-loop-next l = record {
  within : length l.rest ≤ length l.text;
  found : IsNext l.sought l.left l.rest l.next;
  -- what was added, and what is still to be made of the rest, are all
  whole : l.out.items ++ replaced l.sought l.put l.left 0 l.rest ≡ l.initial.out.items ++ replaced l.sought l.put l.count 0 l.text;
}

abbrev pub decreases-loop-next : goal.decreases-loop-next
decreases-loop-next l = l.left
