use Rattle.std.proofs.Common.{ℕ, List, sym, subst, Option, Some, None}
use Rattle.stage_steps.specs.Strings.{IsFirstPlace}
use Rattle.block_stages.specs.Delimiting.{IsCutAt}
use Rattle.block_stages.proofs.AtString.{all_searched, cut_behind}
use Rattle.block_stages.proofs.strings.Delimiter.find.Goals as goal

pub returns-then-text-searched-clause-first : goal.returns-then-text-searched-clause-first
returns-then-text-searched-clause-first c = all_searched c.args.self.now c.args.searched c.args.text.now c.if-text-searched.true

pub returns-in_err-ahead-clause-first : goal.returns-in_err-ahead-clause-first
returns-in_err-ahead-clause-first c = λ vain.
    let string = c.args.self.now in
    let text = c.args.text.now in
    let part = c.behind.result.now in
    subst (λ (place : Option ℕ). IsCutAt string text place) (sym c.from_residual.ensures)
    (cut_behind string c.args.searched text part c.behind.ensures c.if-text-searched.false None
    (subst (λ (s : List ℕ). IsFirstPlace s part None) c.self.view_is c.in_err-ahead.ensures.first) vain)

pub returns-clause-first : goal.returns-clause-first
returns-clause-first c = λ vain.
    let string = c.args.self.now in
    let text = c.args.text.now in
    let part = c.behind.result.now in
    cut_behind string c.args.searched text part c.behind.ensures c.if-text-searched.false (Some c.in_ok-ahead.ahead)
    (subst (λ (s : List ℕ). IsFirstPlace s part (Some c.in_ok-ahead.ahead)) c.self.view_is c.in_ok-ahead.ensures.first) vain
