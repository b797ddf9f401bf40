-- Whether the stage ends, and its code, are told of what is still to be given as of all that came.
use Rattle.std.proofs.Common.{◌≡◌, Bool, true, false, cond, ◌||◌, List, sym, ◌∙◌, ap, pos}
use Rattle.pipe_model.specs.BlockRows.{is_too_long}
use Rattle.pipe_model.specs.Parts.{last_part}
use Rattle.pipe_model.specs.Row.{Act}
use Rattle.pipe_model.specs.Shape.{Records, Stream, at_hand_of}
use Rattle.block_stages.specs.declared.blocks.Blocks.{Blocks}
use Rattle.block_stages.specs.Blocks.{BlocksStand, TellsEnd, pending, text_by}
use Rattle.block_stages.specs.Cutting.{parts_by, stops_by, code_by}
use Rattle.block_stages.proofs.Holding.{tells_end}

module _ (x : Blocks) (t : Stream) (recs : Records) (acts : List Act) where
  tells : (over : Bool) → BlocksStand x over t recs acts → TellsEnd x.cuts (text_by x.image recs) (pending x)
  tells false is = tells_end x.cuts (text_by x.image recs) (pending x) acts is.3.0
  tells true is = is.3.0

  pub stops_as : (over : Bool) → BlocksStand x over t recs acts → (x.is_too_long || stops_by x.cuts (last_part (parts_by x.cuts (pending x)))) ≡ t.stops recs
  stops_as over is =
      ap (λ b. b || stops_by x.cuts (last_part (parts_by x.cuts (pending x)))) is.1
      ∙ ap (λ b. is_too_long x.image (at_hand_of recs) || b) (tells over is).stops_same
      ∙ sym (is.0.stops_is recs)

  pub code_as : (over : Bool) → BlocksStand x over t recs acts → cond x.is_too_long (pos 8) (code_by x.cuts (last_part (parts_by x.cuts (pending x)))) ≡ t.code recs
  code_as over is =
      ap (λ b. cond b (pos 8) (code_by x.cuts (last_part (parts_by x.cuts (pending x))))) is.1
      ∙ ap (cond (is_too_long x.image (at_hand_of recs)) (pos 8)) (tells over is).code_same
      ∙ sym (is.0.code_is recs)
