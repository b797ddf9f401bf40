use Rattle.std.proofs.Common.{sym, subst}
use Rattle.std.proofs.lemmas.Option.{IfSome_then}
use Rattle.stage_steps.specs.Lists.{Sifts}
use Rattle.stage_steps.specs.declared.sifted.Sifted.TheVariants.{Passes}
use Rattle.select_stages.specs.declared.select_lists.SelectLists.TheVariants.{Pick}
use Rattle.select_stages.specs.SelectLists.{SelectListsStand, select_lists_look, select_made}
use Rattle.select_stages.proofs.select_lists.SelectListsLists.awaits.Goals as goal

pub returns-in-Pick : goal.returns-in-Pick
returns-in-Pick c =
    IfSome_then c.awaits.result c.awaits.ensures (λ string passes bytes lacks.
    let sifts = passes bytes lacks in
    subst (λ x. Sifts SelectListsStand select_made (select_lists_look x) x x bytes (Passes 1)) (sym c.in-Pick.is) (Pick sifts.0, sifts.1, sifts.2, sifts.3))
