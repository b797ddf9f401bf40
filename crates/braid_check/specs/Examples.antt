-- The net of an example.
use Rattle.std.specs.Prelude.{false, [], ◌∷◌}
use Rattle.pipe_model.specs.declared.net.Net.{Net}
use Rattle.pipe_model.specs.declared.kind.Kind.TheVariants.{FanInAny, Juxtapose, Gate}
use Rattle.pipe_model.specs.Nets.{strand, net_from}

-- a FANINANY, a JUXTAPOSE and a GATE that nothing joins
abbrev pub apart : Net
apart = net_from
    (strand 0 FanInAny (false ∷ false ∷ []) (false ∷ []) ∷ strand 1 Juxtapose (false ∷ false ∷ []) (false ∷ []) ∷ strand 2 Gate (false ∷ false ∷ []) (false ∷ false ∷ []) ∷ [])
    []
