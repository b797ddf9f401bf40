use Rattle.std.proofs.Common.{ℕ, List, rules, arith}
use Rattle.std.proofs.lemmas.Grind.{common_steps}
use Rattle.argument_parts.proofs.TakenParts.{string_wanted}
use Rattle.argument_parts.specs.Parts.{IsPart}
use Rattle.argument_parts.specs.Refusals.{Wants}
use Rattle.argument_parts.specs.declared.part.Part.TheVariants as Asked
use Rattle.argument_parts.specs.declared.part.Value.{Value}
use Rattle.argument_parts.proofs.taken.string_at.Goals as goal

pub returns-in-Err-clause-memory : goal.returns-in-Err-clause-memory
returns-in-Err-clause-memory c =
    let wants : Wants ((value : Value) × (rest : List ℕ) × IsPart Asked.String c.args.text.now value rest) c.in-Err.refusal = string_wanted c.args.text.now c.in-Err.refusal c.in-Err.ensures.memory in
    first_of (search (rules, wants), grind (arith, common_steps, wants))
