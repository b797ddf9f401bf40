-- What the lists of BUFFER stand for, and those of COPY, ELASTIC and DAM's first strand.
use Rattle.std.specs.Prelude.{◌≡◌, ℕ, Bool, false, List, []}
use Rattle.std.specs.declared.option.Option.{Option}
use Rattle.std.specs.declared.option.Option.TheVariants.{Some, None}
use Rattle.pipe_model.specs.declared.net.Strand.{Strand}
use Rattle.pipe_model.specs.Row.{Act}
use Rattle.pipe_model.specs.Shape.{Records, Stream, each_record, copied}
use Rattle.pipe_model.specs.Table.{line_of}
use Rattle.stage_steps.specs.declared.order.Order.{Order}
use Rattle.stage_steps.specs.Each.{EachStand, each_look}
use Rattle.stage_steps.specs.Listed.{lists_of}
use Rattle.stage_steps.specs.Places.{order_of}
use Rattle.stage_steps.specs.SharedLists.{CopiesStand, copies_look}
use Rattle.stage_steps.specs.Waiting.{how_many}
use Rattle.gate_elastic.specs.declared.gate_lists.GateLists.{GateLists}
use Rattle.gate_elastic.specs.declared.gate_lists.GateLists.TheVariants.{Copy, Buffer}
use Rattle.gate_elastic.specs.Buffers.{BuffersStand, buffers_look, buffer_given, buffers_left}

abbrev pub GateListsStand : GateLists → Bool → Stream → Records → List Act → Type 0
GateListsStand (Copy x) = EachStand CopiesStand x
GateListsStand (Buffer x) = BuffersStand x

abbrev pub gate_lists_look : GateLists → Bool
gate_lists_look (Copy x) = each_look copies_look x
gate_lists_look (Buffer x) = buffers_look x

-- the new record that is held
abbrev pub gate_given : GateLists → Option (List ℕ)
gate_given (Copy x) = None
gate_given (Buffer x) = buffer_given x

-- how many groups are left at most
abbrev pub gate_left : GateLists → ℕ
gate_left (Copy x) = how_many x.each.waiting
gate_left (Buffer x) = buffers_left x

-- the stage table says of the strand that it has these lists in this order
abbrev pub HasLists : Strand → Order → Stream → Type 0
HasLists s order t = lists_of s (line_of s.kind).shape ≡ Some (record { order = order_of order; keeps = false; stream = t })

-- these are its lists and their order, before the first record
abbrev pub AreListsOf : Strand → Order → GateLists → Type 0
AreListsOf s order x = (t : Stream) × HasLists s order t × (gate_lists_look x ≡ (line_of s.kind).looks) × GateListsStand x false t [] []

-- it copies each record in this order, and looks at none
abbrev pub AreCopies : Strand → Order → Type 0
AreCopies s order = HasLists s order (each_record copied) × ((line_of s.kind).looks ≡ false)
