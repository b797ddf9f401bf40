-- What the reading of SPECS' arguments in code stands for; it serves the inside.
use Rattle.std.specs.Prelude.{◌≡◌}
use Rattle.stage_syntax.specs.declared.item_lists.ItemLists.{ItemLists}
use Rattle.stage_syntax.specs.ItemForms.{Draft}

abbrev pub IsDraft : ItemLists → Draft → Type 0
IsDraft x d = (x.items.items ≡ d.items) × (x.before ≡ d.before) × (x.state ≡ d.state)
