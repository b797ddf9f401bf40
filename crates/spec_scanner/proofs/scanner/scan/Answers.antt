use Rattle.std.proofs.Common.{◌∙◌, ap, arith, drop, length, length-drop, rules, subst, sym}
use Rattle.spec_scanner.specs.declared.fault.Fault.{Fault}
use Rattle.spec_scanner.specs.declared.fault.SpecFault.TheVariants.{Refused}
use Rattle.spec_scanner.specs.Reads.{IsRefused, Refuses}
use Rattle.spec_scanner.proofs.Bare.{refused_told}
use Rattle.spec_scanner.proofs.Scans.{items_in_text, too_long}
use Rattle.spec_scanner.proofs.scanner.scan.Goals as goal

pub returns-then-text-gt-LONGEST-clause-refused : goal.returns-then-text-gt-LONGEST-clause-refused
returns-then-text-gt-LONGEST-clause-refused c =
    subst (Refuses c.args.text.now) (sym (c.refused.ensures ∙ ap (λ (fault : Fault). Refused fault.number fault.place) c.at.ensures)) (too_long c.args.text.now c.if-text-gt-LONGEST.true)

pub read_items-requires : goal.read_items-requires
read_items-requires c =
    let begun = c.begin-begun.result in
    let body = c.in_ok-body.ensures in
    let few = items_in_text begun.signs begun.start (drop begun.start c.args.text.now) c.in_ok-body.body.items.items body.0 body.1 in
    omega (arith, few, length-drop begun.start c.args.text.now, ap length c.deref.ensures.value, c.if-text-gt-LONGEST.false)

pub returns-in-Some-clause-refused : goal.returns-in-Some-clause-refused
returns-in-Some-clause-refused c =
    let refused : IsRefused c.args.text.now c.in-Some.fault = search rules in
    subst (Refuses c.args.text.now) (sym c.refused-in-Some.ensures) (refused_told c.args.text.now c.in-Some.fault refused)

pub returns-in-Some-fault-clause-refused : goal.returns-in-Some-fault-clause-refused
returns-in-Some-fault-clause-refused c =
    let refused : IsRefused c.args.text.now c.in-Some-fault.fault = search rules in
    subst (Refuses c.args.text.now) (sym c.refused-in-Some-fault.ensures) (refused_told c.args.text.now c.in-Some-fault.fault refused)
