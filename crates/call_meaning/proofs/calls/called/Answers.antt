use Rattle.std.proofs.Common.{◌∙◌, Some, refl, ap, subst}
use Rattle.std.proofs.lemmas.Result.{err_from_is_err_and}
use Rattle.call_meaning.specs.Meaning.{IsNetOf, spec_of}
use Rattle.call_meaning.specs.Refusals.{IsTextOutcome}
use Rattle.call_meaning.specs.Sample.{sample_spec}
use Rattle.call_meaning.proofs.Commands.{stops_text}
use Rattle.call_meaning.proofs.calls.called.Goals as goal

pub returns-in_err-net-in-Run-clause-called : goal.returns-in_err-net-in-Run-clause-called
returns-in_err-net-in-Run-clause-called c =
    let p = err_from_is_err_and c.from_residual.result c.from_residual.ensures.1 in
    let outcome = c.in_err-net-in-Run.field-0.0 in
    rw (p.1, p.2) (stops_text _ c.in-Ok.command c.in-Run.spec outcome c.in-Ok.ensures.read (ap spec_of c.in-Run.is) (subst (λ z. IsTextOutcome z outcome) c.bytes.ensures c.in_err-net-in-Run.ensures.made))

pub returns-in_err-net-in-Check-clause-called : goal.returns-in_err-net-in-Check-clause-called
returns-in_err-net-in-Check-clause-called c =
    let p = err_from_is_err_and c.from_residual-in_err-net-in-Check.result c.from_residual-in_err-net-in-Check.ensures.1 in
    let outcome = c.in_err-net-in-Check.field-0.0 in
    rw (p.1, p.2) (stops_text _ c.in-Ok.command c.in-Check.spec outcome c.in-Ok.ensures.read (ap spec_of c.in-Check.is) (subst (λ z. IsTextOutcome z outcome) c.bytes-in-Check.ensures c.in_err-net-in-Check.ensures.made))

pub returns-in_err-net-in-Lint-clause-called : goal.returns-in_err-net-in-Lint-clause-called
returns-in_err-net-in-Lint-clause-called c =
    let p = err_from_is_err_and c.from_residual-in_err-net-in-Lint.result c.from_residual-in_err-net-in-Lint.ensures.1 in
    let outcome = c.in_err-net-in-Lint.field-0.0 in
    rw (p.1, p.2) (stops_text _ c.in-Ok.command c.in-Lint.spec outcome c.in-Ok.ensures.read (ap spec_of c.in-Lint.is) (subst (λ z. IsTextOutcome z outcome) c.bytes-in-Lint.ensures c.in_err-net-in-Lint.ensures.made))

pub returns-in_err-net-in-Sample-clause-called : goal.returns-in_err-net-in-Sample-clause-called
returns-in_err-net-in-Sample-clause-called c =
    let p = err_from_is_err_and c.from_residual-in_err-net-in-Sample.result c.from_residual-in_err-net-in-Sample.ensures.1 in
    let outcome = c.in_err-net-in-Sample.field-0.0 in
    rw (p.1, p.2) (stops_text _ c.in-Ok.command sample_spec outcome c.in-Ok.ensures.read (ap spec_of c.in-Sample.is) (subst (λ z. IsTextOutcome z outcome) c.as_bytes.ensures.value c.in_err-net-in-Sample.ensures.made))

pub returns-in_ok-net-in-Run-clause-called : goal.returns-in_ok-net-in-Run-clause-called
returns-in_ok-net-in-Run-clause-called c = (
  record {
    spec = c.in-Run.spec;
    run = record { workers = c.in-Run.workers; command = c.in-Ok.ensures.read ∙ ap Some c.in-Run.is };
    net_of = subst (λ z. IsNetOf z c.in_ok-net-in-Run.net) c.bytes.ensures c.in_ok-net-in-Run.ensures.made;
  },
  refl,
)

pub returns-in_ok-net-in-Sample-clause-called : goal.returns-in_ok-net-in-Sample-clause-called
returns-in_ok-net-in-Sample-clause-called c = (
  record {
    workers = c.in-Sample.workers;
    command = c.in-Ok.ensures.read ∙ ap Some c.in-Sample.is;
    net_of = subst (λ z. IsNetOf z c.in_ok-net-in-Sample.net) c.as_bytes.ensures.value c.in_ok-net-in-Sample.ensures.made;
  },
  refl,
)
