-- Why arguments are refused, as a reason why a name and an argument are no stage.
use Rattle.std.proofs.Common.{◌≡◌, ℕ, Bool, List, Some, refl}
use Rattle.argument_parts.specs.Refusals.{Refuses}
use Rattle.argument_parts.specs.declared.refusal.Refusal.{Refusal}
use Rattle.argument_parts.specs.declared.refusal.Refusal.TheVariants.{Fault, NoMemory}
use Rattle.stage_syntax.specs.Arg.{ArgText}
use Rattle.stage_syntax.specs.Kinds.{IsNoKind, refusal_placed}
use Rattle.stage_syntax.specs.Names.{arguments_of}
use Rattle.stage_syntax.specs.Rows.{Arguments, HasFault}

pub refused_kind : (name : List ℕ) (arg : ArgText) (first : Bool) (arguments : Arguments) → arguments_of name first ≡ Some arguments → (refusal : Refusal) → Refuses (HasFault arguments arg.bytes) refusal
    → IsNoKind name arg first (refusal_placed arg refusal)
refused_kind name arg first arguments named (Fault fault) fails = record { arguments = arguments; named = named; inside = fault; fails = fails; fault_is = refl }
refused_kind name arg first arguments named NoMemory wants = (arguments, named)
