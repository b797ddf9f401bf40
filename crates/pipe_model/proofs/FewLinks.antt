-- A well formed net has no more links than its strands have inputs.
use Rattle.std.proofs.Common.{◌≡◌, ℕ, ◌+◌, ◌*◌, ◌<◌, ◌≤◌, length, arith, Some, slice_get}
use Rattle.std.proofs.lemmas.Option.{slice_get_within}
use Rattle.pipe_model.specs.declared.net.Net.{Net}
use Rattle.pipe_model.specs.declared.net.Link.{Link}
use Rattle.pipe_model.specs.Form.{Parting}
use Rattle.pipe_model.specs.Form.Parting.{Whole, Queued, Streamed}
use Rattle.pipe_model.specs.Table.{form}
use Rattle.pipe_model.specs.WellFormed.{IsWellFormed, places_of}
use Rattle.pipe_model.proofs.Lists.{few_by_keys}

few_places : (parting : Parting) (greatest m : ℕ) → m ≤ 64 → places_of parting greatest m ≤ 64
few_places Whole greatest m few = omega arith
few_places Queued greatest m few = omega arith
few_places Streamed greatest m few = omega arith

module _ (net : Net) (formed : IsWellFormed net) where
  -- an input's number among those of all strands
  abbrev input_number : Link → ℕ
  input_number link = link.to * 64 + link.input

  few_inputs : (j : ℕ) (link : Link) → slice_get net.links j ≡ Some link → link.input < 64
  few_inputs j link at =
      let joined = formed.joined j link at in
      let stage = formed.staged link.to joined.consumer joined.to_strand in
      let few = few_places (form joined.consumer).parting (form joined.consumer).inputs stage.0 stage.1.few in
      omega (arith, joined.input, stage.1.inputs, few)

  few_strands : (j : ℕ) (link : Link) → slice_get net.links j ≡ Some link → link.to < 65536
  few_strands j link at =
      let joined = formed.joined j link at in
      omega (arith, slice_get_within net.strands link.to joined.consumer joined.to_strand, formed.few)

  -- no more than 65,536 times 64
  pub few_links : length net.links ≤ 4194304
  few_links = few_by_keys input_number 4194304 net.links
      (λ j k a b at_j at_k same.
      let in_a = few_inputs j a at_j in
      let in_b = few_inputs k b at_k in
      formed.one_in j k a b at_j at_k (omega (arith, same, in_a, in_b)) (omega (arith, same, in_a, in_b)))
      (λ j a at. omega (arith, few_inputs j a at, few_strands j a at))
