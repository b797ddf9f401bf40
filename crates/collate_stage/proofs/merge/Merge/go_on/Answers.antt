use Rattle.std.proofs.Common.{◌≡◌, ◌∙◌, List, [], ◌++◌, length, ap, subst, sym, arith}
use Rattle.std.proofs.lemmas.Grind.{common_steps}
use Rattle.pipe_model.specs.JoiningRows.{merging}
use Rattle.pipe_model.specs.Shape.{round_plan}
use Rattle.collate_stage.specs.declared.lane.Lane.{Lane}
use Rattle.collate_stage.specs.declared.merge.Due.TheVariants.{End}
use Rattle.collate_stage.specs.Merging.{LeftIs}
use Rattle.collate_stage.specs.Queues.{sees_at, waits, IsQueue}
use Rattle.collate_stage.proofs.MergeSteps.{goes_reading, goes_writing, goes_ending}
use Rattle.collate_stage.proofs.merge.Merge.go_on.Goals as goal

pub returns-then-self-clause-plans : goal.returns-then-self-clause-plans
returns-then-self-clause-plans c = λ all waiting k heard.
    let x = c.args.self.now in
    let queue = subst (λ (ls : List Lane). IsQueue ls (waits ls x.input) x.queue.items → IsQueue ls (sees_at ls) c.put_in.new.queue.items) c.deref.ensures.value c.in_ok-put_in.ensures waiting in
    goes_reading x.range x.lanes.items x.input x.opened x.count c.opened_after-self.result all c.opened_after-self.ensures k heard c.put_in.new.queue.items c.if-self.true queue

pub returns-in-Some-clause-plans : goal.returns-in-Some-clause-plans
returns-in-Some-clause-plans c = λ all waiting k heard.
    let x = c.args.self.now in
    let queue = subst (λ (ls : List Lane). IsQueue ls (waits ls x.input) x.queue.items → IsQueue ls (sees_at ls) c.put_in.new.queue.items) c.deref.ensures.value c.in_ok-put_in.ensures waiting in
    goes_writing x.range x.lanes.items x.input x.opened x.count c.opened_after-self.result all c.opened_after-self.ensures k heard c.in-Some.input c.pop.new.self.items c.if-self.false
    (subst (IsQueue x.lanes.items (sees_at x.lanes.items)) c.in-Some.ensures.items queue)

pub returns-in-None-clause-plans : goal.returns-in-None-clause-plans
returns-in-None-clause-plans c = λ all waiting k heard.
    let x = c.args.self.now in
    let queue = subst (λ (ls : List Lane). IsQueue ls (waits ls x.input) x.queue.items → IsQueue ls (sees_at ls) c.put_in.new.queue.items) c.deref.ensures.value c.in_ok-put_in.ensures waiting in
    let none : c.pop.new.self.items ≡ [] = grind (arith, common_steps) in
    subst (λ q. LeftIs End x.input c.opened_after-self.result x.lanes.items k (round_plan (length x.lanes.items) (merging x.range) k) × IsQueue x.lanes.items (waits x.lanes.items x.input) q) (sym none)
    (goes_ending x.range x.lanes.items x.input x.opened x.count c.opened_after-self.result all c.opened_after-self.ensures k heard x.input c.if-self.false
    (subst (IsQueue x.lanes.items (sees_at x.lanes.items)) (c.in-None.ensures.items ∙ ap (λ q. q ++ []) none) queue))
