-- Two journals of a settled net.
use Rattle.std.proofs.Common.{◌<◌, List, [], ◌∷◌, ◌++◌, length, length-append, arith}
use Rattle.pipe_model.specs.declared.net.Net.{Net}
use Rattle.pipe_model.specs.declared.step.Entry.{Entry}
use Rattle.pipe_model.specs.State.{nothing_yet}
use Rattle.pipe_model.specs.Play.{play, IsLegal, IsLicensed, IsComplete}
use Rattle.pipe_model.specs.Settled.{IsSettled}
use Rattle.pipe_model.specs.WellFormed.{IsWellFormed}
use Rattle.confluence_laws.proofs.Prefixes.{beginning_of}
use Rattle.confluence_laws.proofs.Lengths.{legal_last}

module _ (net : Net) (formed : IsWellFormed net) (settled : IsSettled net) where
  -- where one can go on, a complete one is longer
  pub goes_further : (es ds : List Entry) (e : Entry) → IsLegal net es → IsComplete net es → IsLegal net ds → IsLicensed net (play net ds) e → length ds < length es
  goes_further es ds e legal complete other may =
      let longer = (beginning_of net formed settled (ds ++ e ∷ []) es (legal_last net nothing_yet ds e other may) legal complete).0 in
      let size = length-append ds (e ∷ []) in
      omega (arith, longer, size)
