use Rattle.std.proofs.Common.{true, false, not, [], refl, sym, ap, subst}
use Rattle.pipe_model.specs.Members.{flag_at}
use Rattle.pipe_model.specs.Ranges.{locates}
use Rattle.pipe_model.specs.SelectionRows.{agrees}
use Rattle.select_stages.specs.declared.any_pick.AnyPick.TheVariants.{Locate, Nlocate, Find, Nfind, TakeFirst, DropFirst, Between, ToLabel, FrLabel}
use Rattle.select_stages.specs.declared.between.Encloses.{Encloses}
use Rattle.select_stages.specs.declared.find.Finds.{Finds}
use Rattle.select_stages.specs.declared.label.Meets.{Meets}
use Rattle.select_stages.specs.declared.take.Takes.{Takes}
use Rattle.select_stages.specs.AnyPick.{IsPickOf}
use Rattle.select_stages.specs.Choices.{taking, enclosing, meeting}
use Rattle.select_stages.specs.Located.{LocatesState}
use Rattle.select_stages.specs.PickLists.{TakesStand, EnclosesStand, MeetsStand}
use Rattle.select_stages.specs.Picks.{choice_by, rejected}
use Rattle.select_stages.proofs.FirstRecords.{left_behind-zero}
use Rattle.select_stages.proofs.any_pick.AnyPick.new.Goals as goal

pub returns-in_ok-picks-in-Locate : goal.returns-in_ok-picks-in-Locate
returns-in_ok-picks-in-Locate c =
    let a = c.in-Locate in
    let it = c.in_ok-picks-in-Locate in
    subst (λ kind. IsPickOf (Locate it.picks) kind c.args.outputs.now) (sym a.is)
    (λ outputs. choice_by (locates a.range a.text), (refl, refl), ap (λ (x : LocatesState). choice_by (locates x.range x.sought)) (sym it.ensures))

pub returns-in_ok-picks-in-Nlocate : goal.returns-in_ok-picks-in-Nlocate
returns-in_ok-picks-in-Nlocate c =
    let a = c.in-Nlocate in
    let it = c.in_ok-picks-in-Nlocate in
    subst (λ kind. IsPickOf (Nlocate (record { picks = it.picks })) kind c.args.outputs.now) (sym a.is)
    (λ outputs. rejected (choice_by (locates a.range a.text)), (refl, refl), (choice_by (locates a.range a.text), refl, ap (λ (x : LocatesState). choice_by (locates x.range x.sought)) (sym it.ensures)))

pub returns-in_ok-picks-in-Find : goal.returns-in_ok-picks-in-Find
returns-in_ok-picks-in-Find c =
    let a = c.in-Find in
    let it = c.in_ok-picks-in-Find in
    subst (λ kind. IsPickOf (Find it.picks) kind c.args.outputs.now) (sym a.is) (λ outputs. choice_by (agrees a.text), (refl, refl), ap (λ (x : Finds). choice_by (agrees x.text)) (sym it.ensures))

pub returns-in_ok-picks-in-Nfind : goal.returns-in_ok-picks-in-Nfind
returns-in_ok-picks-in-Nfind c =
    let a = c.in-Nfind in
    let it = c.in_ok-picks-in-Nfind in
    subst (λ kind. IsPickOf (Nfind (record { picks = it.picks })) kind c.args.outputs.now) (sym a.is)
    (λ outputs. rejected (choice_by (agrees a.text)), (refl, refl), (choice_by (agrees a.text), refl, ap (λ (x : Finds). choice_by (agrees x.text)) (sym it.ensures)))

pub returns-in-TakeFirst : goal.returns-in-TakeFirst
returns-in-TakeFirst c =
    let a = c.in-TakeFirst in
    let it = c.new-picks in
    subst (λ kind. IsPickOf (TakeFirst it.result) kind c.args.outputs.now) (sym a.is) (
      λ outputs. taking a.times (not (flag_at outputs 1)),
      (refl, refl),
      subst (λ (x : Takes). TakesStand x (taking a.times (not (flag_at c.args.outputs.now 1))) []) (sym it.ensures) (a.times, ap (λ b. taking a.times (not b)) (sym c.has_second.ensures), left_behind-zero a.times),
    )

pub returns-in-DropFirst : goal.returns-in-DropFirst
returns-in-DropFirst c =
    let a = c.in-DropFirst in
    let it = c.new-picks-in-DropFirst in
    subst (λ kind. IsPickOf (DropFirst (record { picks = it.result })) kind c.args.outputs.now) (sym a.is) (
      λ outputs. rejected (taking a.times false),
      (refl, refl),
      (taking a.times false, refl, subst (λ (x : Takes). TakesStand x (taking a.times false) []) (sym it.ensures) (a.times, refl, left_behind-zero a.times)),
    )

pub returns-in_ok-picks-in-Between : goal.returns-in_ok-picks-in-Between
returns-in_ok-picks-in-Between c =
    let a = c.in-Between in
    let it = c.in_ok-picks-in-Between in
    subst (λ kind. IsPickOf (Between it.picks) kind c.args.outputs.now) (sym a.is)
    (λ outputs. enclosing a.first a.second true, (refl, refl), subst (λ (x : Encloses). EnclosesStand x (enclosing a.first a.second true) []) (sym it.ensures) (refl, refl))

pub returns-in_ok-picks-in-Inside : goal.returns-in_ok-picks-in-Inside
returns-in_ok-picks-in-Inside c =
    let a = c.in-Inside in
    let it = c.in_ok-picks-in-Inside in
    subst (λ kind. IsPickOf (Between it.picks) kind c.args.outputs.now) (sym a.is)
    (λ outputs. enclosing a.first a.second false, (refl, refl), subst (λ (x : Encloses). EnclosesStand x (enclosing a.first a.second false) []) (sym it.ensures) (refl, refl))

pub returns-in_ok-picks-in-ToLabel : goal.returns-in_ok-picks-in-ToLabel
returns-in_ok-picks-in-ToLabel c =
    let a = c.in-ToLabel in
    let it = c.in_ok-picks-in-ToLabel in
    let may_halt = not (flag_at c.args.outputs.now 1) in
    subst (λ kind. IsPickOf (ToLabel (record { picks = it.picks })) kind c.args.outputs.now) (sym a.is) (
      λ outputs. rejected (meeting a.text (not (flag_at outputs 1))),
      (refl, refl),
      (meeting a.text may_halt, refl, subst (λ (x : Meets). MeetsStand x (meeting a.text may_halt) []) (sym it.ensures) (ap (λ b. meeting a.text (not b)) (sym c.has_second-in-ToLabel.ensures), refl)),
    )

pub returns-in_ok-picks-in-FrLabel : goal.returns-in_ok-picks-in-FrLabel
returns-in_ok-picks-in-FrLabel c =
    let a = c.in-FrLabel in
    let it = c.in_ok-picks-in-FrLabel in
    subst (λ kind. IsPickOf (FrLabel it.picks) kind c.args.outputs.now) (sym a.is)
    (λ outputs. meeting a.text false, (refl, refl), subst (λ (x : Meets). MeetsStand x (meeting a.text false) []) (sym it.ensures) (refl, refl))
