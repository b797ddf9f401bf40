-- Bytes that are written one part after another.
use Rattle.std.proofs.Common.{◌≡◌, ℕ, List, ◌++◌, sym, ◌∙◌, ap, subst, arith, append_assoc, length-append}
use Rattle.std.proofs.KnownBytes.{Appends-trans}
use Rattle.std.specs.Io.KnownBytes.{Appends}
use Rattle.outside.specs.Device.{Device}
use Rattle.outside.specs.Faults.{Rose}
use Rattle.call_meaning.specs.declared.status.Outcome.{Outcome}
use Rattle.call_meaning.specs.Devices.{Steady}
use Rattle.call_streams.specs.Written.{IsPartWritten}

-- a fault in one part, where those before it were written, is one in the whole
pub part_after : (whole done bytes rest : List ℕ) → (done ++ bytes) ++ rest ≡ whole → (old middle new : Device) (outcome : Outcome) → Appends old.bytes middle.bytes done → Steady old middle → IsPartWritten bytes middle new outcome →
    IsPartWritten whole old new outcome
part_after whole done bytes rest is old middle new outcome gained steady part =
    let more' = part.cut.more in
    let size = length-append part.cut.rest rest in
    record {
      fault = part.fault;
      wrote = done ++ part.wrote;
      cut = record {
        rest = part.cut.rest ++ rest;
        whole_is =
            sym is
            ∙ ap (λ z. (done ++ z) ++ rest) part.cut.whole_is
            ∙ ap (λ z. z ++ rest) (sym (append_assoc done part.wrote part.cut.rest))
            ∙ append_assoc (done ++ part.wrote) part.cut.rest rest;
        more = omega (arith, more', size);
      };
      gained = Appends-trans old.bytes middle.bytes new.bytes done part.wrote gained part.gained;
      failed = subst (λ (z : ℕ). Rose z new.faults) steady part.failed;
    }
