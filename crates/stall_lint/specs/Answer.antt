-- What is told of a net before it runs.
use Rattle.std.specs.Prelude.{◌≡◌, ◌<◌, ◌≢◌, ℕ, List, Bool, true, false, slice_get}
use Rattle.std.specs.declared.option.Option.{Option}
use Rattle.std.specs.declared.option.Option.TheVariants.{Some, None}
use Rattle.pipe_model.specs.declared.net.Net.{Net}
use Rattle.pipe_model.specs.declared.net.Strand.{Strand}
use Rattle.pipe_model.specs.Form.{Parting}
use Rattle.pipe_model.specs.Form.Parting.{Whole, Queued, Streamed}
use Rattle.pipe_model.specs.Plain.{IssuesNothing}
use Rattle.pipe_model.specs.Settled.{IsSettled}
use Rattle.pipe_model.specs.State.{Who, strand_in}
use Rattle.pipe_model.specs.Table.{form}
use Rattle.braid_check.specs.Answer.{IsLeastLoose}
use Rattle.stall_lint.specs.ClosedWalks.{IsClosedWalk}
use Rattle.stall_lint.specs.Never.{HasNoDam}
use Rattle.stall_lint.specs.declared.told.Lint.{Lint}
use Rattle.stall_lint.specs.declared.told.Lint.TheVariants.{Loose, Issuer, Latch, Walk, Never}

-- a stage of this parting is a DAM
abbrev pub is_streamed : Parting → Bool
is_streamed Whole = false
is_streamed Queued = false
is_streamed Streamed = true

-- the strand issues pipelines, and no lesser one does
pub record IsLeastIssuer (net : Net) (s : Who) : Type 0 where
  pub strand : Strand
  pub there : strand_in net s ≡ Some strand
  pub issues : (form strand).issues ≡ true
  pub least : (t : Who) (q : Strand) → t < s → strand_in net t ≡ Some q → (form q).issues ≢ true

-- the strand is one of a DAM, and no lesser one is
pub record IsLeastDam (net : Net) (s : Who) : Type 0 where
  pub strand : Strand
  pub there : strand_in net s ≡ Some strand
  pub parts : (form strand).parting ≡ Streamed
  pub least : (t : Who) (q : Strand) → t < s → strand_in net t ≡ Some q → (form q).parting ≢ Streamed

-- the least strand of a DAM, if there is one
abbrev pub IsFirstDam : List Strand → Option ℕ → Type 0
IsFirstDam strands None = (t : Who) (q : Strand) → slice_get strands t ≡ Some q → (form q).parting ≢ Streamed
IsFirstDam strands (Some s) = (p : Strand) × (slice_get strands s ≡ Some p) × ((form p).parting ≡ Streamed) × ((t : Who) (q : Strand) → t < s → slice_get strands t ≡ Some q → (form q).parting ≢ Streamed)

-- the net is settled, and no strand issues pipelines or is one of a DAM
abbrev pub IsCalm : Net → Type 0
IsCalm net = IsSettled net × IssuesNothing net × HasNoDam net

-- the answers for a net: each line asks that none before it is one
abbrev pub Lints : Net → Lint → Type 0
Lints net (Loose s) = IsLeastLoose net s
Lints net (Issuer s) = IsSettled net × IsLeastIssuer net s
Lints net (Latch s) = IsSettled net × IssuesNothing net × IsLeastDam net s
Lints net (Walk walk) = IsCalm net × IsClosedWalk net walk
Lints net Never = IsCalm net × ((walk : List Who) → ¬ IsClosedWalk net walk)

-- the two are answers of one line, which but for a walk are the same
abbrev pub IsOneLine : Lint → Lint → Type 0
IsOneLine (Walk walk) (Walk other) = Unit {0}
IsOneLine answer other = answer ≡ other
