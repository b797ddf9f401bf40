-- What the test of a settled net tells.
use Rattle.std.specs.Prelude.{◌≡◌, ◌<◌}
use Rattle.std.specs.declared.option.Option.TheVariants.{Some}
use Rattle.pipe_model.specs.declared.net.Net.{Net}
use Rattle.pipe_model.specs.declared.net.Strand.{Strand}
use Rattle.pipe_model.specs.Settled.{IsSettled, Meets}
use Rattle.pipe_model.specs.State.{Who, strand_in}
use Rattle.pipe_model.specs.Table.{form}
use Rattle.braid_check.specs.declared.told.Settled.{Settled}
use Rattle.braid_check.specs.declared.told.Settled.TheVariants.{Yes, Loose}

-- the strand doesn't meet what it owes in a settled net, and every lesser one does
pub record IsLeastLoose (net : Net) (s : Who) : Type 0 where
  pub strand : Strand
  pub there : strand_in net s ≡ Some strand
  pub loose : Meets net s (form strand).meeting → ⊥
  pub least : (t : Who) (q : Strand) → t < s → strand_in net t ≡ Some q → Meets net t (form q).meeting

abbrev pub Tells : Net → Settled → Type 0
Tells net Yes = IsSettled net
Tells net (Loose s) = IsLeastLoose net s
