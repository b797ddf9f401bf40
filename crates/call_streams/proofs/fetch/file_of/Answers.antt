use Rattle.std.proofs.Common.{sym, ◌∙◌, ap₂, find}
use Rattle.call_meaning.specs.Devices.{store}
use Rattle.call_streams.specs.Fetched.{has_name}
use Rattle.call_streams.proofs.Fetches.{fetched_again}
use Rattle.call_streams.proofs.fetch.file_of.Goals as goal

pub returns-in-Some-clause-given : goal.returns-in-Some-clause-given
returns-in-Some-clause-given g c =
    fetched_again (store _ _ _) c.args.found.now.items c.args.kind.now c.in-FileIn.name c.in-FileIn.bytes c.in-Some.file.now c.again.result c.in-FileIn.is
    (ap₂ (λ name found. find (has_name name) found) (sym c.bytes.ensures) (sym c.deref.ensures.value) ∙ sym c.in-Some.ensures) c.again.ensures.same
