use Rattle.std.proofs.Common.{ℕ, List, None, sym, subst}
use Rattle.std.proofs.lemmas.Result.{IfOk-weaker}
use Rattle.stage_steps.specs.declared.sifted.Sifted.{Sifted}
use Rattle.stage_steps.specs.declared.sifted.Sifted.TheVariants.{Drops, Passes, Gives}
use Rattle.stage_steps.specs.Lists.{Sifts}
use Rattle.select_stages.specs.declared.any_pick.AnyPick.{AnyPick}
use Rattle.select_stages.specs.declared.picks.Picked.{Picked}
use Rattle.select_stages.specs.declared.window.Window.{Window}
use Rattle.select_stages.specs.AnyPick.{AnyPicksStand, any_pick_looks}
use Rattle.select_stages.specs.PickLists.{PickedStand, picked_look}
use Rattle.select_stages.specs.Windows.{WindowStands, window_looks, window_made}
use Rattle.select_stages.specs.declared.select_lists.SelectLists.TheVariants.{Pick, Hold}
use Rattle.select_stages.specs.SelectLists.{SelectListsStand, select_lists_look, select_made}
use Rattle.select_stages.proofs.select_lists.SelectListsLists.sift.Goals as goal

sifts_pick : (x y : Picked AnyPick) (bytes : List ℕ) (sifted : Sifted) → Sifts (PickedStand AnyPicksStand) (λ (z : Picked AnyPick). None) (picked_look any_pick_looks x) x y bytes sifted →
    Sifts SelectListsStand select_made (select_lists_look (Pick x)) (Pick x) (Pick y) bytes sifted
sifts_pick x y bytes Drops sifts = (Pick sifts.0, sifts.1, sifts.2, sifts.3)
sifts_pick x y bytes (Passes output) sifts = (Pick sifts.0, sifts.1, sifts.2, sifts.3)
sifts_pick x y bytes Gives sifts = sifts

sifts_hold : (x y : Window) (bytes : List ℕ) (sifted : Sifted) → Sifts WindowStands window_made (window_looks x) x y bytes sifted → Sifts SelectListsStand select_made (select_lists_look (Hold x)) (Hold x) (Hold y) bytes sifted
sifts_hold x y bytes Drops sifts = (Hold sifts.0, sifts.1, sifts.2, sifts.3)
sifts_hold x y bytes (Passes output) sifts = (Hold sifts.0, sifts.1, sifts.2, sifts.3)
sifts_hold x y bytes Gives sifts = sifts

pub returns-in-Pick-clause-sifts : goal.returns-in-Pick-clause-sifts
returns-in-Pick-clause-sifts c =
    IfOk-weaker c.sift.result _ _ (λ sifted sifts. subst (λ x. Sifts SelectListsStand select_made (select_lists_look x) x (Pick c.sift.new.self) c.args.bytes.now sifted) (sym c.in-Pick.is)
    (sifts_pick c.in-Pick.lists c.sift.new.self c.args.bytes.now sifted sifts)) c.sift.ensures.sifts

pub returns-in-Hold-clause-sifts : goal.returns-in-Hold-clause-sifts
returns-in-Hold-clause-sifts c =
    IfOk-weaker c.sift-in-Hold.result _ _ (λ sifted sifts. subst (λ x. Sifts SelectListsStand select_made (select_lists_look x) x (Hold c.sift-in-Hold.new.self) c.args.bytes.now sifted) (sym c.in-Hold.is)
    (sifts_hold c.in-Hold.lists c.sift-in-Hold.new.self c.args.bytes.now sifted sifts)) c.sift-in-Hold.ensures.sifts
