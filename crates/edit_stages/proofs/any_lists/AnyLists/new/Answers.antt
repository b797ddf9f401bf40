use Rattle.std.proofs.Common.{◌≡◌, ℕ, true, false, List, [], map, refl, sym, ap, subst, None}
use Rattle.pipe_model.specs.declared.kind.Kind.{Kind}
use Rattle.pipe_model.specs.declared.kind.Kind.TheVariants as Kinds
use Rattle.pipe_model.specs.declared.kind.Mapping.{Mapping}
use Rattle.pipe_model.specs.declared.kind.Times.{Times}
use Rattle.pipe_model.specs.declared.kind.Times.TheVariants.{Only, All}
use Rattle.pipe_model.specs.EditingRows.{edits, stripped, translated, chopped, splits, duplicate}
use Rattle.pipe_model.specs.Shape.{each_record}
use Rattle.pipe_model.specs.Shape.Outs.{Pairs}
use Rattle.pipe_model.specs.Table.{line_of, through}
use Rattle.stage_steps.specs.declared.each.Each.{Each}
use Rattle.stage_steps.specs.Lists.{of_each}
use Rattle.edit_stages.specs.declared.any_edit.AnyEdit.{AnyEdit}
use Rattle.edit_stages.specs.declared.any_edit.AnyEdit.TheVariants.{Reverse, Strip, Xlate, Pad, Change}
use Rattle.edit_stages.specs.declared.any_lists.AnyLists.TheVariants.{Duplicate, Edit, Chop, Split}
use Rattle.edit_stages.specs.declared.edits.Edited.{Edited}
use Rattle.edit_stages.specs.declared.strip.Strips.{Strips}
use Rattle.edit_stages.specs.AnyEdit.{any_made}
use Rattle.edit_stages.specs.AnyLists.{AreListsOf}
use Rattle.edit_stages.specs.EditLists.{EditedStand}
use Rattle.edit_stages.proofs.any_lists.AnyLists.new.Goals as goal

by_times : (copies : Times) → duplicate copies ≡ of_each (duplicate copies).outs
by_times (Only n) = refl
by_times All = refl

-- the lists of edits that the stage table says of the kind
edited : (kind : Kind) (made : AnyEdit) (x : Each (Edited AnyEdit)) → x.each ≡ record { edits = made; new = None; due = false } →
    (line_of kind).shape ≡ through (each_record (edits (any_made made))) → (line_of kind).looks ≡ true → AreListsOf kind (Edit x)
edited kind made x x_is shape_is looks_are = (
  each_record (edits (any_made made)),
  shape_is,
  sym looks_are,
  (
    Pairs (edits (any_made made)),
    refl,
    subst (λ (e : Edited AnyEdit). EditedStand any_made e (Pairs (edits (any_made made))) [] []) (sym x_is) (refl, refl, λ due. cc),
  ),
)

pub returns-in-Duplicate : goal.returns-in-Duplicate
returns-in-Duplicate c =
    let copies = c.in-Duplicate.copies in
    subst (λ kind. AreListsOf kind (Duplicate c.lists.result)) (sym c.in-Duplicate.is) (duplicate copies, refl, refl, ((duplicate copies).outs, by_times copies, c.lists.ensures))

pub returns-in-Chop : goal.returns-in-Chop
returns-in-Chop c =
    let width = c.in-Chop.width in
    subst (λ kind. AreListsOf kind (Chop c.lists-in-Chop.result)) (sym c.in-Chop.is) (each_record (chopped width), refl, refl, (Pairs (chopped width), refl, c.lists-in-Chop.ensures))

pub returns-in_ok-lists-in-Split : goal.returns-in_ok-lists-in-Split
returns-in_ok-lists-in-Split c =
    let outs = Pairs (splits c.in-Split.set) in
    subst (λ kind. AreListsOf kind (Split c.in_ok-lists-in-Split.field-0)) (sym c.in-Split.is) (each_record (splits c.in-Split.set), refl, refl, (outs, refl, c.in_ok-lists-in-Split.ensures))

pub returns-in-Reverse : goal.returns-in-Reverse
returns-in-Reverse c =
    subst (λ kind. AreListsOf kind (Edit c.lists-in-Reverse.result)) (sym c.in-Reverse.is) (edited Kinds.Reverse (Reverse (record {})) c.lists-in-Reverse.result c.lists-in-Reverse.ensures refl refl)

pub returns-in_ok-strips-in-Strip : goal.returns-in_ok-strips-in-Strip
returns-in_ok-strips-in-Strip c =
    let kind = Kinds.Strip c.in-Strip.leading c.in-Strip.trailing c.in-Strip.set in
    subst (λ kind. AreListsOf kind (Edit c.lists-in-Strip.result)) (sym c.in-Strip.is) (edited kind (Strip c.in_ok-strips-in-Strip.strips) c.lists-in-Strip.result c.lists-in-Strip.ensures
    (ap (λ (x : Strips). through (each_record (edits (stripped x.leading x.trailing x.set)))) (sym c.in_ok-strips-in-Strip.ensures)) refl)

pub returns-in_ok-xlates-in-Xlate : goal.returns-in_ok-xlates-in-Xlate
returns-in_ok-xlates-in-Xlate c =
    subst (λ kind. AreListsOf kind (Edit c.lists-in-Xlate.result)) (sym c.in-Xlate.is) (edited (Kinds.Xlate c.in-Xlate.mapping) (Xlate c.in_ok-xlates-in-Xlate.xlates) c.lists-in-Xlate.result c.lists-in-Xlate.ensures
    (ap (λ (m : Mapping). through (each_record (edits (map (translated m))))) (sym c.in_ok-xlates-in-Xlate.ensures)) refl)

pub returns-in-Pad : goal.returns-in-Pad
returns-in-Pad c =
    let kind = Kinds.Pad c.in-Pad.left c.in-Pad.width c.in-Pad.fill in
    subst (λ kind. AreListsOf kind (Edit c.lists-in-Pad.result)) (sym c.in-Pad.is) (edited kind (Pad (record { left = c.in-Pad.left; width = c.in-Pad.width; fill = c.in-Pad.fill })) c.lists-in-Pad.result c.lists-in-Pad.ensures refl refl)

pub returns-in_ok-changes-in-Change : goal.returns-in_ok-changes-in-Change
returns-in_ok-changes-in-Change c =
    let kind = Kinds.Change c.in-Change.range c.in-Change.sought c.in-Change.put c.in-Change.times in
    subst (λ kind. AreListsOf kind (Edit c.lists-in-Change.result)) (sym c.in-Change.is) (edited kind (Change c.in_ok-changes-in-Change.changes) c.lists-in-Change.result c.lists-in-Change.ensures
    (ap (λ (f : List ℕ → List ℕ). through (each_record (edits f))) (sym c.in_ok-changes-in-Change.ensures)) refl)
