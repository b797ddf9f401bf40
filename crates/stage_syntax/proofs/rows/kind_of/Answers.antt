use Rattle.std.proofs.Common.{◌∙◌, ap, subst}
use Rattle.std.specs.Option.{option_map}
use Rattle.argument_parts.specs.Refusals.{Refuses}
use Rattle.stage_syntax.proofs.Refusing.{refused_kind}
use Rattle.stage_syntax.specs.Rows.{HasFault}
use Rattle.stage_syntax.specs.StageForms.{arguments_by}
use Rattle.stage_syntax.proofs.rows.kind_of.Goals as goal

pub returns-in-Err-clause-refused : goal.returns-in-Err-clause-refused
returns-in-Err-clause-refused c =
    let named = c.form_named.ensures c.args.first ∙ ap (option_map (λ form. arguments_by form c.args.first)) c.in-Some.is in
    let refused = subst (λ bytes. Refuses (HasFault (arguments_by c.in-Some.form c.args.first) bytes) c.in-Err.refusal) c.bytes.ensures c.in-Err.ensures.refused in
    rw c.placed.ensures (refused_kind c.args.name.now c.args.arg.now c.args.first _ named c.in-Err.refusal refused)
