use Rattle.std.proofs.Common.{ℕ, List, None, sym, subst}
use Rattle.std.proofs.lemmas.Result.{IfOk-weaker}
use Rattle.stage_steps.specs.declared.each.Each.{Each}
use Rattle.stage_steps.specs.declared.sifted.Sifted.{Sifted}
use Rattle.stage_steps.specs.declared.sifted.Sifted.TheVariants.{Drops, Passes, Gives}
use Rattle.stage_steps.specs.Each.{EachStand, each_look}
use Rattle.stage_steps.specs.Lists.{Sifts}
use Rattle.unique_sort.specs.declared.order_lists.OrderLists.TheVariants.{First}
use Rattle.unique_sort.specs.declared.unique.Firsts.{Firsts}
use Rattle.unique_sort.specs.OrderLists.{OrderListsStand, order_lists_look, lists_made}
use Rattle.unique_sort.specs.UniqueLists.{FirstsStand, firsts_look}
use Rattle.unique_sort.proofs.order_lists.OrderListsLists.sift.Goals as goal

sifts_first : (x y : Each Firsts) (bytes : List ℕ) (sifted : Sifted) → Sifts (EachStand FirstsStand) (λ (z : Each Firsts). None) (each_look firsts_look x) x y bytes sifted →
    Sifts OrderListsStand lists_made (order_lists_look (First x)) (First x) (First y) bytes sifted
sifts_first x y bytes Drops sifts = (First sifts.0, sifts.1, sifts.2, sifts.3)
sifts_first x y bytes (Passes output) sifts = (First sifts.0, sifts.1, sifts.2, sifts.3)
sifts_first x y bytes Gives sifts = sifts

pub returns-in-First-clause-sifts : goal.returns-in-First-clause-sifts
returns-in-First-clause-sifts c =
    IfOk-weaker c.sift.result _ _ (λ sifted sifts. subst (λ x. Sifts OrderListsStand lists_made (order_lists_look x) x (First c.sift.new.self) c.args.bytes.now sifted) (sym c.in-First.is)
    (sifts_first c.in-First.lists c.sift.new.self c.args.bytes.now sifted sifts)) c.sift.ensures.sifts
