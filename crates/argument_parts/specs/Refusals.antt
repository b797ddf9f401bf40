-- Why nothing was read of a text.
use Rattle.std.specs.Prelude.{⊤}
use Rattle.argument_parts.specs.declared.part.TextFault.{TextFault}
use Rattle.argument_parts.specs.declared.refusal.Refusal.{Refusal}
use Rattle.argument_parts.specs.declared.refusal.Refusal.TheVariants.{Fault, NoMemory}

-- the fault, if it isn't want of memory, is for this reason
abbrev pub Refuses : (TextFault → Type 0) → Refusal → Type 0
Refuses Reason (Fault fault) = Reason fault
Refuses Reason NoMemory = ⊤

-- want of memory comes only where this is so
abbrev pub Wants : Type 0 → Refusal → Type 0
Wants Asked (Fault fault) = ⊤
Wants Asked NoMemory = Asked
