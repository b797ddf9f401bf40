-- What the lists of all stages of Editing stand for.
use Rattle.std.specs.Prelude.{◌≡◌, ℕ, ◌-◌, Bool, false, List, [], length}
use Rattle.std.specs.declared.option.Option.{Option}
use Rattle.std.specs.declared.option.Option.TheVariants.{Some, None}
use Rattle.pipe_model.specs.declared.kind.Kind.{Kind}
use Rattle.pipe_model.specs.Row.{Act}
use Rattle.pipe_model.specs.Shape.{Records, Stream}
use Rattle.pipe_model.specs.Shape.Shape.{Lists}
use Rattle.pipe_model.specs.Table.{line_of}
use Rattle.stage_steps.specs.declared.order.Order.{Order}
use Rattle.stage_steps.specs.declared.order.Order.TheVariants.{WritesFirst, TakesFirst}
use Rattle.stage_steps.specs.Each.{EachStand, each_look}
use Rattle.stage_steps.specs.Places.{order_of}
use Rattle.edit_stages.specs.declared.any_lists.AnyLists.{AnyLists}
use Rattle.edit_stages.specs.declared.any_lists.AnyLists.TheVariants.{Duplicate, Edit, Chop, Split, Join}
use Rattle.edit_stages.specs.AnyEdit.{any_made}
use Rattle.edit_stages.specs.EditLists.{DuplicatesStand, duplicates_look, due_count, EditedStand, edited_look, edited_given, new_given, new_count, ChopsStand, chops_look, part_given, owed_count, SplitsStand, splits_look, run_given, JoinsStand, joins_look}

abbrev pub AnyListsStand : AnyLists → Bool → Stream → Records → List Act → Type 0
AnyListsStand (Duplicate x) = EachStand DuplicatesStand x
AnyListsStand (Edit x) = EachStand (EditedStand any_made) x
AnyListsStand (Chop x) = EachStand ChopsStand x
AnyListsStand (Split x) = EachStand SplitsStand x
AnyListsStand (Join x) = JoinsStand x

abbrev pub any_look : AnyLists → Bool
any_look (Duplicate x) = each_look duplicates_look x
any_look (Edit x) = each_look edited_look x
any_look (Chop x) = each_look chops_look x
any_look (Split x) = each_look splits_look x
any_look (Join x) = joins_look x

-- the new record that is held
abbrev pub any_given : AnyLists → Option (List ℕ)
any_given (Duplicate x) = None
any_given (Edit x) = edited_given x.each
any_given (Chop x) = part_given x.each
any_given (Split x) = Some (run_given x.each)
any_given (Join x) = new_given x.due x.new

-- how many groups are left at most
abbrev pub any_left : AnyLists → ℕ
any_left (Duplicate x) = due_count x.each.due
any_left (Edit x) = new_count x.each.due
any_left (Chop x) = owed_count x.each.owed
any_left (Split x) = length x.each.rec.items - x.each.at
any_left (Join x) = new_count x.due

-- JOIN takes each record before it writes
abbrev pub any_order : AnyLists → Order
any_order (Join x) = TakesFirst
any_order _ = WritesFirst

-- the lists are those that the stage table says of the kind, before the first record
abbrev pub AreListsOf : Kind → AnyLists → Type 0
AreListsOf kind x = (t : Stream) × ((line_of kind).shape ≡ Lists (order_of (any_order x)) (λ outputs. t)) × (any_look x ≡ (line_of kind).looks) × AnyListsStand x false t [] []
