-- What the stages that put each record on one of two outputs stand for.
use Rattle.std.specs.Prelude.{Bool, true, false, List, []}
use Rattle.pipe_model.specs.declared.kind.Kind.{Kind}
use Rattle.pipe_model.specs.declared.kind.Kind.TheVariants as Kinds
use Rattle.pipe_model.specs.Shape.{Records}
use Rattle.select_stages.specs.declared.any_pick.AnyPick.{AnyPick}
use Rattle.select_stages.specs.declared.any_pick.AnyPick.TheVariants.{Locate, Nlocate, Find, Nfind, TakeFirst, DropFirst, Between, ToLabel, FrLabel}
use Rattle.select_stages.specs.Picks.{Choice}
use Rattle.select_stages.specs.PickLists.{IsChoosing, RejectsStand, rejects_look, LocatesStand, locates_look, FindsStand, finds_look, TakesStand, takes_look, EnclosesStand, encloses_look, MeetsStand, meets_look}

abbrev pub AnyPicksStand : AnyPick → Choice → Records → Type 0
AnyPicksStand (Locate x) choice recs = LocatesStand x choice recs
AnyPicksStand (Nlocate x) choice recs = RejectsStand LocatesStand x choice recs
AnyPicksStand (Find x) choice recs = FindsStand x choice recs
AnyPicksStand (Nfind x) choice recs = RejectsStand FindsStand x choice recs
AnyPicksStand (TakeFirst x) choice recs = TakesStand x choice recs
AnyPicksStand (DropFirst x) choice recs = RejectsStand TakesStand x choice recs
AnyPicksStand (Between x) choice recs = EnclosesStand x choice recs
AnyPicksStand (ToLabel x) choice recs = RejectsStand MeetsStand x choice recs
AnyPicksStand (FrLabel x) choice recs = MeetsStand x choice recs

abbrev pub any_pick_looks : AnyPick → Bool
any_pick_looks (Locate x) = locates_look x
any_pick_looks (Nlocate x) = rejects_look locates_look x
any_pick_looks (Find x) = finds_look x
any_pick_looks (Nfind x) = rejects_look finds_look x
any_pick_looks (TakeFirst x) = takes_look x
any_pick_looks (DropFirst x) = rejects_look takes_look x
any_pick_looks (Between x) = encloses_look x
any_pick_looks (ToLabel x) = rejects_look meets_look x
any_pick_looks (FrLabel x) = meets_look x

-- the kind puts each record on one of two outputs
abbrev pub is_pick : Kind → Bool
is_pick (Kinds.Locate range text) = true
is_pick (Kinds.Nlocate range text) = true
is_pick (Kinds.Find text) = true
is_pick (Kinds.Nfind text) = true
is_pick (Kinds.TakeFirst times) = true
is_pick (Kinds.DropFirst times) = true
is_pick (Kinds.Between first second) = true
is_pick (Kinds.Inside first second) = true
is_pick (Kinds.ToLabel text) = true
is_pick (Kinds.FrLabel text) = true
is_pick _ = false

-- before the first record it stands for what the kind chooses with these connected outputs
abbrev pub IsPickOf : AnyPick → Kind → List Bool → Type 0
IsPickOf picks kind outputs = (choice : List Bool → Choice) × IsChoosing choice (any_pick_looks picks) kind × AnyPicksStand picks (choice outputs) []
