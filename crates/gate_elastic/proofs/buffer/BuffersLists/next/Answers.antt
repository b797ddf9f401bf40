use Rattle.std.proofs.Common.{◌≡◌, Bool, true, false, ℕ, List, [], ◌∷◌, ◌++◌, refl, sym, ◌∙◌, ap, Some}
use Rattle.std.specs.Prelude.{is_some, option_to_list, unwrap_or}
use Rattle.pipe_model.specs.Counts.{all_on}
use Rattle.pipe_model.specs.Row.{Act}
use Rattle.pipe_model.specs.Row.Act.{Writes}
use Rattle.pipe_model.specs.Shape.{Records, Stream, writes}
use Rattle.stage_steps.specs.declared.group.Group.TheVariants.{New}
use Rattle.stage_steps.specs.Lists.{GivesNext}
use Rattle.gate_elastic.specs.declared.buffer.Buffers.{Buffers}
use Rattle.gate_elastic.specs.Buffers.{BuffersStand, buffer_given}
use Rattle.gate_elastic.proofs.buffer.BuffersLists.next.Goals as goal

module _ (x y : Buffers) (rec : List ℕ) (front : x.records.items ≡ option_to_list y.gone ++ y.records.items) (gone_is : y.gone ≡ Some rec) (over_is : x.is_over ≡ true) (stays : y.is_over ≡ x.is_over) where
  gives : (over : Bool) (t : Stream) (recs : Records) (acts : List Act) → BuffersStand x over t recs acts →
      (rest : List Act) × (acts ≡ Writes 0 (unwrap_or y.gone []) ∷ rest) × BuffersStand y over t recs rest × Unit {0}
  gives false t recs acts is = absurd (let open_is = is.1 in cc (open_is, over_is))
  gives true t recs acts is =
      let rest = writes (all_on 0 y.records.items) in (
        rest,
        is.2 ∙ ap (λ recs. writes (all_on 0 recs)) front ∙ ap (λ gone. writes (all_on 0 (option_to_list gone ++ y.records.items))) gone_is ∙ sym (ap (λ gone. Writes 0 (unwrap_or gone []) ∷ rest) gone_is),
        (is.0, stays ∙ over_is, refl),
        tt,
      )

  -- the oldest record is the first that is left
  gives_oldest : GivesNext BuffersStand buffer_given x y (Some (New 0))
  gives_oldest = (ap is_some gone_is, gives)

pub returns-in-Some-clause-gives : goal.returns-in-Some-clause-gives
returns-in-Some-clause-gives c =
    let x = c.args.self.now in
    gives_oldest x (record x { records = c.pop_front.new.self; gone = c.pop_front.result }) c.in-Some.field-0 c.pop_front.ensures.items c.in-Some.is c.if-not-self.false refl
