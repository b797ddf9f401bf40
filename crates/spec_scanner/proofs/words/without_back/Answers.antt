use Rattle.std.proofs.Common.{◌∙◌, ap, sym}
use Rattle.spec_scanner.specs.Stretches.{is_plain_blank, without_back}
use Rattle.spec_scanner.proofs.Prefixes.{last_goes, last_stays}
use Rattle.spec_scanner.proofs.words.without_back.Goals as goal

pub loop-last-preserved : goal.loop-last-preserved
loop-last-preserved c =
    let passes = sym c.is_plain_blank.ensures ∙ c.if-not-is_plain_blank.false in
    sym (ap without_back c.in-Some.ensures.cases.0 ∙ last_goes is_plain_blank _ _ passes) ∙ c.loop-last.invariant

pub returns-then-not-is_plain_blank : goal.returns-then-not-is_plain_blank
returns-then-not-is_plain_blank c =
    let fails = sym c.is_plain_blank.ensures ∙ c.if-not-is_plain_blank.true in
    c.in-Some.ensures.cases.0 ∙ sym (ap without_back c.in-Some.ensures.cases.0 ∙ last_stays is_plain_blank _ _ fails) ∙ c.loop-last.invariant
