-- A plain net has lists of a first pass.
use Rattle.std.proofs.Common.{◌≡◌, ℕ, Bool, true, false, [], refl}
use Rattle.std.specs.Bool.{MatchBool}
use Rattle.std.specs.List.{list_any}
use Rattle.pipe_model.specs.declared.net.Net.{Net}
use Rattle.pipe_model.specs.Alone.{Lists, IsTaggedPass, is_early, lists_of}
use Rattle.pipe_model.specs.Plain.{AreLists, IsPlain}
use Rattle.pipe_model.specs.State.{State, Who}
use Rattle.pipe_model.specs.WellFormed.{IsWellFormed}
use Rattle.confluence_laws.proofs.Passes.{first_pass}

pub some_lists : (net : Net) → IsWellFormed net → IsPlain net → (lists : Lists) × AreLists net lists
some_lists net formed plain = by (list_any is_early net.strands)
  where
    by : (early : Bool) → (lists : Lists) × MatchBool early ((s : Who) (o : ℕ) → lists s o ≡ []) ((first : State) × IsTaggedPass net first × ((s : Who) (o : ℕ) → lists s o ≡ lists_of first s o))
    by true = (λ s o. [], λ s o. refl)
    by false = (let pass = first_pass net formed plain in (lists_of pass.0, (pass.0, pass.1, λ s o. refl)))
