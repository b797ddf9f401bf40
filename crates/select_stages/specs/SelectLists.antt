-- What the lists of Selection stand for, by their form.
use Rattle.std.specs.Prelude.{ℕ, Bool, List}
use Rattle.std.specs.declared.option.Option.{Option}
use Rattle.std.specs.declared.option.Option.TheVariants.{None}
use Rattle.pipe_model.specs.Row.{Act}
use Rattle.pipe_model.specs.Shape.{Records, Stream}
use Rattle.stage_steps.specs.Waiting.{how_many}
use Rattle.select_stages.specs.declared.select_lists.SelectLists.{SelectLists}
use Rattle.select_stages.specs.declared.select_lists.SelectLists.TheVariants.{Pick, Hold}
use Rattle.select_stages.specs.AnyPick.{AnyPicksStand, any_pick_looks}
use Rattle.select_stages.specs.PickLists.{PickedStand, picked_look}
use Rattle.select_stages.specs.Windows.{WindowStands, window_looks, window_made, window_left}

abbrev pub SelectListsStand : SelectLists → Bool → Stream → Records → List Act → Type 0
SelectListsStand (Pick x) over t recs acts = PickedStand AnyPicksStand x over t recs acts
SelectListsStand (Hold x) over t recs acts = WindowStands x over t recs acts

abbrev pub select_lists_look : SelectLists → Bool
select_lists_look (Pick x) = picked_look any_pick_looks x
select_lists_look (Hold x) = window_looks x

abbrev pub select_made : SelectLists → Option (List ℕ)
select_made (Pick x) = None
select_made (Hold x) = window_made x

abbrev pub select_left : SelectLists → ℕ
select_left (Pick x) = how_many x.waiting
select_left (Hold x) = window_left x
