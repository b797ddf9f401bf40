-- Before the first step each input of a net has a sight of its own.
use Rattle.std.proofs.Common.{◌≡◌, ℕ, zero, suc, ◌+◌, ◌*◌, ◌<◌, ◌≤◌, List, [], ◌∷◌, length, replicate, refl, ◌∙◌, ap, arith, Option, Some, None, slice_get}
use Rattle.std.specs.Option.{option_map}
use Rattle.std.proofs.lemmas.List.{length-replicate}
use Rattle.pipe_model.specs.declared.net.Link.{Link}
use Rattle.pipe_model.specs.declared.net.Strand.{Strand}
use Rattle.pipe_model.specs.declared.net.Net.{Net}
use Rattle.pipe_model.specs.Form.{Parting}
use Rattle.pipe_model.specs.Form.Parting.{Whole, Queued, Streamed}
use Rattle.pipe_model.specs.Table.{form}
use Rattle.pipe_model.specs.WellFormed.{IsWellFormed, places_of}
use Rattle.run_desk.specs.Desk.{DoorsState}
use Rattle.run_desk.specs.Telling.{joined, sights_of}
use Rattle.run_desk.specs.Turns.{list_changed_behind}
use Rattle.run_desk.specs.Blank.{doors_from, inputs_in, led_in, led_out, with_links}
use Rattle.run_desk.proofs.Laying.{stays}
use Rattle.run_desk.proofs.Lists.{changed_length}
use Rattle.run_desk.proofs.SightDoors.{numbered_at, numbered_long}

-- Links

in_still : (i j : ℕ) (x : Option DoorsState) → sights_of (option_map (led_in i j) x) ≡ sights_of x
in_still i j None = refl
in_still i j (Some x) = numbered_long x.first_sight (list_changed_behind x.inputs (λ door. Some j) (Some i)) x.inputs (changed_length x.inputs (λ door. Some j) (Some i))

out_still : (o j : ℕ) (x : Option DoorsState) → sights_of (option_map (led_out o j) x) ≡ sights_of x
out_still o j None = refl
out_still o j (Some x) = refl

-- the links that doors lead to change no sight
pub links_still : (doors : List DoorsState) (links : List Link) (j s : ℕ) → sights_of (slice_get (with_links doors j links) s) ≡ sights_of (slice_get doors s)
links_still doors [] j s = refl
links_still doors (link ∷ links) j s =
    let old = with_links doors (suc j) links in
    stays sights_of (led_in link.input j) (in_still link.input j) (list_changed_behind old (led_out link.output j) (Some link.from)) link.to s
    ∙ stays sights_of (led_out link.output j) (out_still link.output j) old link.from s ∙ links_still doors links (suc j) s

-- Strands

-- the number of an input's sight, among those of these strands
pub spot : (strands : List Strand) (s n k i m : ℕ) → joined (slice_get (sights_of (slice_get (doors_from s n strands) k)) i) ≡ Some m → (n ≤ m) × (m < n + inputs_in strands)
spot [] s n k i m at = cc
spot (strand ∷ strands) s n zero i m at =
    let is = numbered_at n (replicate strand.ports.inputs None) i m at in
    let long = length-replicate {A = Option ℕ} strand.ports.inputs None in
    (omega (arith, is.0), omega (arith, is.0, is.1, long))
spot (strand ∷ strands) s n (suc k) i m at =
    let rest = spot strands (suc s) (n + strand.ports.inputs) k i m at in
    (omega (arith, rest.0), omega (arith, rest.1))

-- no two inputs have one
pub spots_apart : (strands : List Strand) (s n k l i j m : ℕ) → joined (slice_get (sights_of (slice_get (doors_from s n strands) k)) i) ≡ Some m →
    joined (slice_get (sights_of (slice_get (doors_from s n strands) l)) j) ≡ Some m → (k ≡ l) × (i ≡ j)
spots_apart [] s n k l i j m at to = cc
spots_apart (strand ∷ strands) s n zero zero i j m at to =
    let one = numbered_at n (replicate strand.ports.inputs None) i m at in
    let two = numbered_at n (replicate strand.ports.inputs None) j m to in
    (refl, omega (arith, one.0, two.0))
spots_apart (strand ∷ strands) s n zero (suc l) i j m at to =
    let one = numbered_at n (replicate strand.ports.inputs None) i m at in
    let long = length-replicate {A = Option ℕ} strand.ports.inputs None in
    let two = spot strands (suc s) (n + strand.ports.inputs) l j m to in
    absurd (omega (arith, one.0, one.1, long, two.0))
spots_apart (strand ∷ strands) s n (suc k) zero i j m at to =
    let one = spot strands (suc s) (n + strand.ports.inputs) k i m at in
    let two = numbered_at n (replicate strand.ports.inputs None) j m to in
    let long = length-replicate {A = Option ℕ} strand.ports.inputs None in
    absurd (omega (arith, one.0, two.0, two.1, long))
spots_apart (strand ∷ strands) s n (suc k) (suc l) i j m at to =
    let rest = spots_apart strands (suc s) (n + strand.ports.inputs) k l i j m at to in
    (ap suc rest.0, rest.1)

-- How many there are

few_each : (strands : List Strand) → ((k : ℕ) (strand : Strand) → slice_get strands k ≡ Some strand → strand.ports.inputs ≤ 64) → inputs_in strands ≤ 64 * length strands
few_each [] few = omega arith
few_each (strand ∷ strands) few =
    let first = few 0 strand refl in
    let rest = few_each strands (λ k strand at. few (suc k) strand at) in
    omega (arith, first, rest)

few_places : (parting : Parting) (greatest m : ℕ) → m ≤ 64 → places_of parting greatest m ≤ 64
few_places Whole greatest m few = omega (arith, few)
few_places Queued greatest m few = omega arith
few_places Streamed greatest m few = omega arith

-- at most 64 for each strand
pub few_inputs : (net : Net) → IsWellFormed net → inputs_in net.strands ≤ 64 * length net.strands
few_inputs net formed = few_each net.strands each
  where
    each : (k : ℕ) (strand : Strand) → slice_get net.strands k ≡ Some strand → strand.ports.inputs ≤ 64
    each k strand at =
        let stage = formed.staged k strand at in
        let few = few_places (form strand).parting (form strand).inputs stage.0 stage.1.few in
        omega (arith, few, stage.1.inputs)
