-- What the plans of COLLATE and MERGE stand for.
use Rattle.std.specs.Prelude.{◌≡◌, ℕ, Bool, true, false}
use Rattle.pipe_model.specs.declared.kind.Kind.{Kind}
use Rattle.pipe_model.specs.declared.kind.Kind.TheVariants as Kinds
use Rattle.pipe_model.specs.declared.net.Strand.{Strand}
use Rattle.pipe_model.specs.Next.{nothing_known}
use Rattle.pipe_model.specs.Row.{Known, Plan}
use Rattle.pipe_model.specs.Shape.{row}
use Rattle.pipe_model.specs.Shape.Keeping.{Nothing}
use Rattle.pipe_model.specs.Table.{form}
use Rattle.collate_stage.specs.declared.collating.Collating.{Collating}
use Rattle.collate_stage.specs.declared.collating.Collating.TheVariants as Plans_of
use Rattle.collate_stage.specs.Collation.{CollateIs, collate_left}
use Rattle.collate_stage.specs.Merging.{MergeIs, merge_left}

-- the kind is COLLATE or MERGE
abbrev pub is_collate : Kind → Bool
is_collate (Kinds.Collate masters details) = true
is_collate (Kinds.Merge range) = true
is_collate _ = false

abbrev pub CollatingStands : Collating → (Known → Plan) → Known → Plan → Type 0
CollatingStands (Plans_of.Collate x) = CollateIs x
CollatingStands (Plans_of.Merge x) = MergeIs x

-- it looks at records
abbrev pub collating_looks : Collating → Bool
collating_looks x = true

-- how many acts are left at most
abbrev pub collating_left : Collating → ℕ
collating_left (Plans_of.Collate x) = collate_left x
collating_left (Plans_of.Merge x) = merge_left x

-- the plans are those that the stage table says of the strand, before its first event
pub record ArePlansOf (s : Strand) (x : Collating) : Type 0 where
  pub plan : Known → Plan
  pub row_is : (form s).row ≡ row plan
  pub keeps_nothing : (form s).keeping ≡ Nothing
  pub looks_are : true ≡ (form s).looks
  pub begins : CollatingStands x plan nothing_known (plan nothing_known)
