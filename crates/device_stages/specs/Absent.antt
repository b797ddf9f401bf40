-- What the stage of a file that isn't there stands for.
use Rattle.std.specs.Prelude.{◌≡◌, ℕ, List}
use Rattle.std.specs.declared.option.Option.TheVariants.{None}
use Rattle.pipe_model.specs.declared.net.Strand.{Strand}
use Rattle.pipe_model.specs.declared.kind.Kind.TheVariants.{FileIn}
use Rattle.pipe_model.specs.Event.{Event}
use Rattle.device_stages.specs.declared.absent.Absent.{Absent}

-- the strand is `<` of a file that isn't there, whatever its history
abbrev pub AbsentStands : Absent → Strand → List Event → Type 0
AbsentStands x s h = (name : List ℕ) × (s.kind ≡ FileIn name None)
