use Rattle.std.proofs.Common.{◌≡◌, ℕ, suc, ◌+◌, ◌≤◌, true, length, take, drop, arith, sym, subst, ap, ◌∙◌, length-take-le}
use Rattle.std.proofs.lemmas.List.{drop-drop}
use Rattle.stage_steps.specs.declared.text_lines.TextLines.{TextLines}
use Rattle.stage_steps.specs.SharedLists.{line_given, lines_left}
use Rattle.stage_steps.specs.Showings.{IsCutting}
use Rattle.stage_steps.proofs.text_lines.TextLines.give_within.Goals as goal

-- a line that is given is the front of the lines that were left, and behind it and its line feed are those that are left now
cuts_line : (x : TextLines) (size : ℕ) → size ≤ length (lines_left x) → IsCutting lines_left line_given x (record x { from = x.at; size = size; at = x.at + size + 1 }) true
cuts_line x size within =
    let length_is : length (take size (lines_left x)) ≡ size = length-take-le size (lines_left x) within in
    let place : x.at + size + 1 ≡ x.at + suc size = omega arith in (
      ap (λ n. take n (lines_left x)) (sym length_is),
      ap (λ n. drop n x.bytes) place ∙ sym (drop-drop (suc size) x.at x.bytes) ∙ ap (λ n. drop (suc n) (lines_left x)) (sym length_is),
    )

pub returns-in-Some-clause-cuts : goal.returns-in-Some-clause-cuts
returns-in-Some-clause-cuts c =
    let x = c.args.self.now in
    let size = length c.in-Some.line.now in
    let bytes_are : c.bytes.result.now ≡ x.bytes = cc in
    let text_is : c.behind.result.now ≡ lines_left x = c.behind.ensures ∙ ap (drop x.at) bytes_are in
    subst (λ y. IsCutting lines_left line_given x y true) (sym c.give.ensures) (cuts_line x size (subst (λ text. size ≤ length text) text_is c.in-Some.ensures.within))
