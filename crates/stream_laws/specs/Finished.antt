-- What a strand by itself has to be given so that it comes to its end.
use Rattle.std.specs.Prelude.{◌≡◌, ◌<◌, ℕ, List, length}
use Rattle.std.specs.declared.option.Option.TheVariants.{Some}
use Rattle.pipe_model.specs.declared.net.Strand.{Strand}
use Rattle.pipe_model.specs.Event.{Event, tooks_on}
use Rattle.pipe_model.specs.Event.Want.{Any}
use Rattle.pipe_model.specs.Next.{next}
use Rattle.pipe_model.specs.Alone.{Given, taken_by, IsAlone}

-- wherever it looks at any input and is told of one, that is one of its own and has a record left
abbrev pub NamesRecords : Strand → Given → Type 0
NamesRecords s g = (h : List Event) → IsAlone s g h → next s h ≡ Some Any →
    (i : ℕ) → g.picks (taken_by h) ≡ Some i → (i < length s.ports.has_input) × (tooks_on i h < length (g.inputs i))
