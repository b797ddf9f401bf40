use Rattle.std.proofs.Common.{Some, None, Option, sym, subst}
use Rattle.std.proofs.lemmas.Result.{IfOk-weaker}
use Rattle.stage_steps.specs.declared.group.Group.{Group}
use Rattle.stage_steps.specs.Lists.{GivesNext}
use Rattle.select_stages.specs.declared.any_pick.AnyPick.{AnyPick}
use Rattle.select_stages.specs.declared.picks.Picked.{Picked}
use Rattle.select_stages.specs.declared.window.Window.{Window}
use Rattle.select_stages.specs.AnyPick.{AnyPicksStand}
use Rattle.select_stages.specs.PickLists.{PickedStand}
use Rattle.select_stages.specs.Windows.{WindowStands, window_made}
use Rattle.select_stages.specs.declared.select_lists.SelectLists.TheVariants.{Pick, Hold}
use Rattle.select_stages.specs.SelectLists.{SelectListsStand, select_made}
use Rattle.select_stages.proofs.select_lists.SelectListsLists.next.Goals as goal

gives_pick : (x y : Picked AnyPick) (given : Option Group) → GivesNext (PickedStand AnyPicksStand) (λ (z : Picked AnyPick). None) x y given → GivesNext SelectListsStand select_made (Pick x) (Pick y) given
gives_pick x y None gives = gives
gives_pick x y (Some g) gives = gives

gives_hold : (x y : Window) (given : Option Group) → GivesNext WindowStands window_made x y given → GivesNext SelectListsStand select_made (Hold x) (Hold y) given
gives_hold x y None gives = gives
gives_hold x y (Some g) gives = gives

pub returns-in-Pick-clause-gives : goal.returns-in-Pick-clause-gives
returns-in-Pick-clause-gives c =
    IfOk-weaker c.next.result _ _
    (λ given gives. subst (λ x. GivesNext SelectListsStand select_made x (Pick c.next.new.self) given) (sym c.in-Pick.is) (gives_pick c.in-Pick.lists c.next.new.self given gives)) c.next.ensures.gives

pub returns-in-Hold-clause-gives : goal.returns-in-Hold-clause-gives
returns-in-Hold-clause-gives c =
    IfOk-weaker c.next-in-Hold.result _ _
    (λ given gives. subst (λ x. GivesNext SelectListsStand select_made x (Hold c.next-in-Hold.new.self) given) (sym c.in-Hold.is) (gives_hold c.in-Hold.lists c.next-in-Hold.new.self given gives)) c.next-in-Hold.ensures.gives
