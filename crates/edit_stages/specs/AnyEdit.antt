-- What the stages that make one record of each make of it.
use Rattle.std.specs.Prelude.{ℕ, List, map, reverse}
use Rattle.pipe_model.specs.EditingRows.{changed, stripped, padded, translated}
use Rattle.edit_stages.specs.declared.any_edit.AnyEdit.{AnyEdit}
use Rattle.edit_stages.specs.declared.any_edit.AnyEdit.TheVariants.{Reverse, Strip, Xlate, Pad, Change}
use Rattle.edit_stages.specs.declared.change.Changes.{Changes}

-- CHANGE
abbrev pub change_made : Changes → List ℕ → List ℕ
change_made x = changed x.range x.sought x.put x.times

abbrev pub any_made : AnyEdit → List ℕ → List ℕ
any_made (Reverse x) = reverse
any_made (Strip x) = stripped x.leading x.trailing x.set
any_made (Xlate x) = map (translated x)
any_made (Pad x) = padded x.left x.width x.fill
any_made (Change x) = change_made x
