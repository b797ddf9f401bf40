-- Want of memory where a larger text is read.
use Rattle.std.proofs.Common.{Ok, Err, IfErr}
use Rattle.std.specs.declared.result.Result.{Result}
use Rattle.argument_parts.specs.Refusals.{Wants}
use Rattle.argument_parts.specs.declared.refusal.Refusal.{Refusal}
use Rattle.argument_parts.specs.declared.refusal.Refusal.TheVariants.{Fault, NoMemory}

-- what holds where memory is wanted, holds where something that follows from it is asked
pub wants_for : (Asked Whole : Type 0) → (Asked → Whole) → (refusal : Refusal) → Wants Asked refusal → Wants Whole refusal
wants_for Asked Whole more (Fault fault) wants = tt
wants_for Asked Whole more NoMemory wants = more wants

pub wants_if : {T : Type 0} (Asked Whole : Type 0) → (Asked → Whole) → (result : Result T Refusal) → IfErr result (Wants Asked) → IfErr result (Wants Whole)
wants_if Asked Whole more (Ok given) wants = tt
wants_if Asked Whole more (Err refusal) wants = wants_for Asked Whole more refusal wants

-- what holds anyway holds where memory is wanted
pub wants_always : {T : Type 0} (Asked : Type 0) → Asked → (result : Result T Refusal) → IfErr result (Wants Asked)
wants_always Asked holds (Ok given) = tt
wants_always Asked holds (Err (Fault fault)) = tt
wants_always Asked holds (Err NoMemory) = holds
