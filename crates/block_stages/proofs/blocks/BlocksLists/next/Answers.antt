use Rattle.std.proofs.Common.{◌≡◌, ◌+◌, Bool, true, false, List, ◌∷◌, drop, take, refl, ◌∙◌, ap, subst, Some}
use Rattle.std.proofs.lemmas.List.{drop-drop}
use Rattle.pipe_model.specs.Row.{Act}
use Rattle.pipe_model.specs.Row.Act.{Writes}
use Rattle.pipe_model.specs.Shape.{Records, Stream}
use Rattle.block_stages.specs.declared.blocks.Blocks.{Blocks}
use Rattle.block_stages.specs.declared.cuts.Cut.{Cut}
use Rattle.block_stages.specs.Blocks.{BlocksStand, ArePending, pending, is_over, text_by}
use Rattle.block_stages.specs.Cutting.{parts_by, IsFirst, IsSearched}
use Rattle.block_stages.proofs.Holding.{one_given, none_searched}
use Rattle.block_stages.proofs.blocks.BlocksLists.next.Goals as goal

-- the record of a cut is the first that is left
gives_cut : (x : Blocks) (c : Cut) → is_over x.rest ≡ false → (IsSearched x.cuts x.searched (pending x) → IsFirst (parts_by x.cuts) (pending x) (Some c)) →
    (over : Bool) (t : Stream) (recs : Records) (acts : List Act) → BlocksStand x over t recs acts →
    (rest : List Act) × (acts ≡ Writes 0 (take c.size (drop (x.at + c.from) x.text.items)) ∷ rest)
    × BlocksStand (record x { at = x.at + c.next; searched = 0; from = x.at + c.from; size = c.size }) over t recs rest × Unit {0}
gives_cut x c going first true t recs acts is = absurd (let over = is.2 in cc (over, going))
gives_cut x c going first false t recs acts is =
    let all = text_by x.image recs in
    let given = one_given x.cuts all (pending x) acts c is.3.0 (first is.3.1) in (
      given.0,
      given.1 ∙ ap (λ part. Writes 0 (take c.size part) ∷ given.0) (drop-drop c.from x.at x.text.items),
      (is.0, is.1, is.2, (subst (λ text. ArePending x.cuts all text given.0) (drop-drop c.next x.at x.text.items) given.2, none_searched x.cuts (drop (x.at + c.next) x.text.items))),
      tt,
    )

pub returns-in-Some-clause-gives : goal.returns-in-Some-clause-gives
returns-in-Some-clause-gives c =
    let x = c.args.self.now in
    let text_is : c.behind-pending.result.now ≡ pending x = c.behind-pending.ensures ∙ ap (drop x.at) c.deref.ensures.value in
    (refl, gives_cut x c.in-Some.cut (ap is_over c.in-Growing.is) (subst (λ text. IsSearched x.cuts x.searched text → IsFirst (parts_by x.cuts) text (Some c.in-Some.cut)) text_is c.in-Some.ensures.first))
