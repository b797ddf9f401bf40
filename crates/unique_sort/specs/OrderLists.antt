-- What the lists of UNIQUE, SORT and COUNT stand for.
use Rattle.std.specs.Prelude.{◌≡◌, ℕ, Bool, false, List, [], length}
use Rattle.std.specs.declared.option.Option.{Option}
use Rattle.std.specs.declared.option.Option.TheVariants.{None}
use Rattle.pipe_model.specs.declared.kind.Kind.{Kind}
use Rattle.pipe_model.specs.Row.{Act}
use Rattle.pipe_model.specs.Shape.{Records, Stream}
use Rattle.pipe_model.specs.Shape.Shape.{Lists}
use Rattle.pipe_model.specs.Table.{line_of}
use Rattle.stage_steps.specs.declared.order.Order.{Order}
use Rattle.stage_steps.specs.declared.order.Order.TheVariants.{WritesFirst, TakesFirst}
use Rattle.stage_steps.specs.Each.{EachStand, each_look}
use Rattle.stage_steps.specs.Places.{order_of}
use Rattle.stage_steps.specs.Waiting.{how_many}
use Rattle.unique_sort.specs.declared.order_lists.OrderLists.{OrderLists}
use Rattle.unique_sort.specs.declared.order_lists.OrderLists.TheVariants.{First, Hold, Sort, Count}
use Rattle.unique_sort.specs.Counting.{CountsStand, counts_look, counts_made, due_count}
use Rattle.unique_sort.specs.SortLists.{SortsStand, sorts_look}
use Rattle.unique_sort.specs.UniqueLists.{FirstsStand, firsts_look, HoldsStand, holds_look, holds_made}

abbrev pub OrderListsStand : OrderLists → Bool → Stream → Records → List Act → Type 0
OrderListsStand (First x) = EachStand FirstsStand x
OrderListsStand (Hold x) = HoldsStand x
OrderListsStand (Sort x) = SortsStand x
OrderListsStand (Count x) = CountsStand x

abbrev pub order_lists_look : OrderLists → Bool
order_lists_look (First x) = each_look firsts_look x
order_lists_look (Hold x) = holds_look x
order_lists_look (Sort x) = sorts_look x
order_lists_look (Count x) = counts_look x

-- the new record that is held
abbrev pub lists_made : OrderLists → Option (List ℕ)
lists_made (First x) = None
lists_made (Hold x) = holds_made x
lists_made (Sort x) = x.given
lists_made (Count x) = counts_made x

-- how many groups are left at most
abbrev pub lists_left : OrderLists → ℕ
lists_left (First x) = how_many x.each.waiting
lists_left (Hold x) = how_many x.due
lists_left (Sort x) = length x.records.items
lists_left (Count x) = due_count x.due

-- only UNIQUE FIRST writes a record before it takes it
abbrev pub lists_order : OrderLists → Order
lists_order (First x) = WritesFirst
lists_order _ = TakesFirst

-- the lists are those that the stage table says of the kind, before the first record
abbrev pub AreListsOf : Kind → OrderLists → Type 0
AreListsOf kind x = (t : Stream) × ((line_of kind).shape ≡ Lists (order_of (lists_order x)) (λ outputs. t)) × (order_lists_look x ≡ (line_of kind).looks) × OrderListsStand x false t [] []
