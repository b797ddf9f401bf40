-- Nets that never stall.
use Rattle.std.specs.Prelude.{◌≡◌, ◌≢◌, ℕ, List}
use Rattle.std.specs.declared.option.Option.{Option}
use Rattle.std.specs.declared.option.Option.TheVariants.{Some}
use Rattle.pipe_model.specs.declared.net.Net.{Net}
use Rattle.pipe_model.specs.declared.net.Strand.{Strand}
use Rattle.pipe_model.specs.declared.step.Entry.{Entry}
use Rattle.pipe_model.specs.Form.Parting.{Streamed}
use Rattle.pipe_model.specs.Play.{IsLegal, IsStalled}
use Rattle.pipe_model.specs.State.{Who, strand_in}
use Rattle.pipe_model.specs.Table.{form}
use Rattle.net_graph.specs.Fed.{fed}

-- no strand is one of a DAM
abbrev pub HasNoDam : Net → Type 0
HasNoDam net = (s : Who) (p : Strand) → strand_in net s ≡ Some p → (form p).parting ≢ Streamed

-- whatever its stages are fed, no legal dispatch is stalled
abbrev pub NeverStalls : Net → Type 0
NeverStalls net = (input : List ℕ) (files : List ℕ → Option (List ℕ)) (dispatch : List Entry) → IsLegal (fed input files net) dispatch → ¬ IsStalled (fed input files net) dispatch
