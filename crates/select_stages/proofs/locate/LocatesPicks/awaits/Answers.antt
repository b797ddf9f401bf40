use Rattle.std.proofs.Common.{◌≡◌, List, ℕ, ◌∷◌, [], ◌++◌, Option, Some, None, IfSome, Bor, refl, sym, ◌∙◌, ap}
use Rattle.std.specs.Option.{option_copied}
use Rattle.pipe_model.specs.Ranges.{locates}
use Rattle.pipe_model.specs.Search.{holds}
use Rattle.stage_steps.proofs.Walks.{at_hand}
use Rattle.select_stages.specs.Located.{LocatesState}
use Rattle.select_stages.specs.PickLists.{LocatesStand, locates_look}
use Rattle.select_stages.specs.Picks.{Choice, RejectsWithout}
use Rattle.select_stages.proofs.Lacks.{lacks_part}
use Rattle.select_stages.proofs.locate.LocatesPicks.awaits.Goals as goal

-- it doesn't select a record without its string
rejects : (x : LocatesState) (string : List ℕ) → x.sought ≡ Some string → RejectsWithout LocatesStand (locates_look x) x string
rejects x string is = λ bytes lacks choice recs rec stood room came.
    let all = recs ++ rec ∷ [] in (
      stood,
      sym (lacks_part string x.range rec (ap (holds string) (sym (came refl)) ∙ lacks)) ∙ ap (λ sought. locates x.range sought rec) (sym is)
          ∙ ap (locates x.range x.sought) (sym (at_hand recs rec)) ∙ ap (λ (t : Choice). t.selects all) (sym stood),
    )

rejects_of : (x : LocatesState) (awaited : Option (Bor (List ℕ))) → option_copied awaited ≡ x.sought → IfSome awaited (λ string. RejectsWithout LocatesStand (locates_look x) x string.now)
rejects_of x None is = tt
rejects_of x (Some string) is = rejects x string.now (sym is)

pub returns : goal.returns
returns c = rejects_of c.args.self.now c.as_ref.result (c.as_ref.ensures.value ∙ ap (λ (x : LocatesState). x.sought) c.self.view_is)
