-- No stage of a well-formed net has more inputs or outputs than it has streams, and no stage has many of these.
use Rattle.std.proofs.Common.{◌≡◌, ◌≤◌, ℕ, sym, ◌∙◌, subst, arith, Some}
use Rattle.pipe_model.specs.declared.net.Net.{Net}
use Rattle.pipe_model.specs.declared.net.Strand.{Strand}
use Rattle.pipe_model.specs.Form.{Parting}
use Rattle.pipe_model.specs.Form.Parting.{Whole, Queued, Streamed}
use Rattle.pipe_model.specs.State.{Who, nothing_yet, strand_at}
use Rattle.pipe_model.specs.Table.{form}
use Rattle.pipe_model.specs.WellFormed.{places_of, IsWellFormed}
use Rattle.stage_table.specs.BuiltIn.{HasFewPlaces}

few_of : (parting : Parting) (greatest m : ℕ) → m ≤ 64 → places_of parting greatest m ≤ 64
few_of Whole greatest m few = omega (arith, few)
few_of Queued greatest m few = omega arith
few_of Streamed greatest m few = omega arith

pub few_places : (net : Net) → IsWellFormed net → (s : Who) (p : Strand) → strand_at net nothing_yet s ≡ Some p → HasFewPlaces p
few_places net well s p here =
    let staged = well.staged s p here in
    let of_stage = staged.1 in
    let told = well.told s p here in
    record {
      inputs = subst (λ n. n ≤ 64) (sym (told.inputs ∙ of_stage.inputs)) (few_of (form p).parting (form p).inputs staged.0 of_stage.few);
      outputs = subst (λ n. n ≤ 64) (sym (told.outputs ∙ of_stage.outputs)) (few_of (form p).parting (form p).outputs staged.0 of_stage.few);
    }
