-- Which name and argument are which kind of stage.
use Rattle.std.specs.Prelude.{◌≡◌, ℕ, ◌-◌, Bool, List, length, get_or}
use Rattle.std.specs.declared.option.Option.TheVariants.{Some, None}
use Rattle.pipe_model.specs.declared.kind.Kind.{Kind}
use Rattle.stage_syntax.specs.Arg.{ArgText}
use Rattle.argument_parts.specs.declared.fault.ArgFault.{ArgFault}
use Rattle.stage_syntax.specs.declared.fault.KindFault.{KindFault}
use Rattle.stage_syntax.specs.declared.fault.KindFault.TheVariants.{Unknown, Argument, NoMemory}
use Rattle.argument_parts.specs.declared.part.TextFault.{TextFault}
use Rattle.argument_parts.specs.declared.refusal.Refusal.{Refusal}
use Rattle.argument_parts.specs.declared.refusal.Refusal.TheVariants as Refused
use Rattle.stage_syntax.specs.Names.{arguments_of}
use Rattle.stage_syntax.specs.Rows.{Arguments, Reads, HasFault}

-- the place of a byte of an argument, or of its end, that has so many bytes after it, itself included
abbrev pub place_before : ArgText → ℕ → ℕ
place_before arg left = get_or arg.places (length arg.bytes - left) arg.end

-- a fault of the text, at its place in the specification
abbrev pub placed : ArgText → TextFault → ArgFault
placed arg fault = record { place = place_before arg fault.left; kind = fault.kind }

-- why nothing was read of the text, with the fault at its place in the specification
abbrev pub refusal_placed : ArgText → Refusal → KindFault
refusal_placed arg (Refused.Fault fault) = Argument (placed arg fault)
refusal_placed arg Refused.NoMemory = NoMemory

-- the name and the argument are this kind of stage
pub record IsKind (name : List ℕ) (arg : ArgText) (first : Bool) (kind : Kind) : Type 0 where
  pub arguments : Arguments
  pub named : arguments_of name first ≡ Some arguments
  pub reads : Reads arguments arg.bytes kind

-- some stage has the name, and its arguments have this leftmost fault
pub record IsArgFault (name : List ℕ) (arg : ArgText) (first : Bool) (fault : ArgFault) : Type 0 where
  pub arguments : Arguments
  pub named : arguments_of name first ≡ Some arguments
  pub inside : TextFault
  pub fails : HasFault arguments arg.bytes inside
  pub fault_is : fault ≡ placed arg inside

-- some stage has the name
abbrev pub IsKnown : List ℕ → Bool → Type 0
IsKnown name first = (arguments : Arguments) × (arguments_of name first ≡ Some arguments)

-- the name and the argument aren't a stage, for this reason; want of memory comes only where some stage has the name
abbrev pub IsNoKind : List ℕ → ArgText → Bool → KindFault → Type 0
IsNoKind name arg first Unknown = arguments_of name first ≡ None
IsNoKind name arg first (Argument fault) = IsArgFault name arg first fault
IsNoKind name arg first NoMemory = IsKnown name first
