use Rattle.std.proofs.Common.{◌≡◌, ◌++◌, drop, refl, sym, ◌∙◌, ap}
use Rattle.std.proofs.lemmas.List.{drop-append-le}
use Rattle.std.proofs.lemmas.Result.{IfOk-weaker}
use Rattle.pipe_model.specs.BlockRows.{image_of, is_too_long}
use Rattle.stage_steps.proofs.Walks.{at_hand}
use Rattle.block_stages.proofs.Holding.{seen}
use Rattle.block_stages.proofs.blocks.BlocksLists.see.Goals as goal

pub returns-clause-sees : goal.returns-clause-sees
returns-clause-sees c = IfOk-weaker c.add_image.result _ _ (λ done grew. λ t recs rec is room came.
    let x = c.args.self.now in
    let at = c.without_front-self.result in
    let kept = c.without_front-self.new.text.items in
    let text = drop x.at x.text.items in
    let same : c.args.bytes.now ≡ rec = came refl in
    let new_is : drop at c.add_image.new.text.items ≡ text ++ image_of x.image rec =
    ap (drop at) grew ∙ drop-append-le at kept (image_of x.image c.args.bytes.now) c.without_front-self.ensures.within
    ∙ ap (λ l. l ++ image_of x.image c.args.bytes.now) c.without_front-self.ensures.rest ∙ ap (λ r. text ++ image_of x.image r) same in (
      is.0,
      c.is_too_long-self.ensures ∙ ap (is_too_long x.image) (same ∙ sym (at_hand recs rec)),
      is.2,
      seen x.image x.cuts t recs rec text (drop at c.add_image.new.text.items) x.searched is.0 is.3.0 is.3.1 new_is,
    )) c.add_image.ensures
