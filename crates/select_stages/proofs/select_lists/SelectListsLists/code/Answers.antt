use Rattle.std.proofs.Common.{◌≡◌, Bool, List, pos, sym, ap}
use Rattle.pipe_model.specs.Row.{Act}
use Rattle.pipe_model.specs.Shape.{Records, Stream}
use Rattle.select_stages.specs.declared.select_lists.SelectLists.{SelectLists}
use Rattle.select_stages.specs.declared.select_lists.SelectLists.TheVariants.{Pick, Hold}
use Rattle.select_stages.specs.SelectLists.{SelectListsStand}
use Rattle.select_stages.proofs.select_lists.SelectListsLists.code.Goals as goal

zero_by : (x : SelectLists) (over : Bool) (t : Stream) (recs : Records) (acts : List Act) → SelectListsStand x over t recs acts → pos 0 ≡ t.code recs
zero_by (Pick x) over t recs acts is = sym (ap (λ (t : Stream). t.code recs) is.1)
zero_by (Hold x) over t recs acts is = sym (ap (λ (t : Stream). t.code recs) is.0)

pub returns : goal.returns
returns c = λ over t recs acts is ends. zero_by c.args.self.now over t recs acts is
