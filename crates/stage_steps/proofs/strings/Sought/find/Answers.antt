use Rattle.std.proofs.Common.{◌≡◌, subst}
use Rattle.stage_steps.specs.Strings.{IsFirstPlace}
use Rattle.stage_steps.proofs.Searching.{first_place}
use Rattle.stage_steps.proofs.strings.Sought.find.Goals as goal

pub returns-then-text-eq1-clause-first : goal.returns-then-text-eq1-clause-first
returns-then-text-eq1-clause-first c =
    let part = c.args.part.now in
    let r = c.find_byte.result in
    let same : c.bytes-text.result.now ≡ c.args.self.now = cc in
    subst (λ text. IsFirstPlace text part r) same (first_place c.bytes-text.result.now part r c.find_byte.ensures)

pub returns-then-is_empty-clause-first : goal.returns-then-is_empty-clause-first
returns-then-is_empty-clause-first c =
    let part = c.args.part.now in
    let r = c.find.result in
    let same : c.bytes-text.result.now ≡ c.args.self.now = cc in
    subst (λ text. IsFirstPlace text part r) same (first_place c.bytes-text.result.now part r c.find.ensures)

pub returns-clause-first : goal.returns-clause-first
returns-clause-first c =
    let part = c.args.part.now in
    let r = c.find_by_byte.result in
    let same : c.bytes-text.result.now ≡ c.args.self.now = cc in
    subst (λ text. IsFirstPlace text part r) same (first_place c.bytes-text.result.now part r c.find_by_byte.ensures)
