use Rattle.std.proofs.Common.{◌∙◌, sym, ap, ◌+◌, ◌-◌, length, take, drop}
use Rattle.pipe_model.specs.Ranges.{between, words_from, words_spanned}
use Rattle.stage_steps.proofs.Words.{all_words, behind_blanks, text_trimmed, words_are}
use Rattle.stage_steps.proofs.ranges.words.Goals as goal

pub front_words-requires : goal.front_words-requires
front_words-requires c = text_trimmed c.behind_words.result.now c.without_blanks-text.result.now (behind_blanks _ _ c.without_blanks-text.ensures)

pub front_words-requires-in-Some : goal.front_words-requires-in-Some
front_words-requires-in-Some c = text_trimmed c.behind_words.result.now c.without_blanks-text.result.now (behind_blanks _ _ c.without_blanks-text.ensures)

pub returns-in-None : goal.returns-in-None
returns-in-None c =
    let rec = c.args.rec.now in
    let text = c.without_blanks-text.result.now in
    let skip = c.saturating_sub.result in
    words_are skip (length text) rec c.behind_words.result.now text c.front_words.result.now c.behind_words.ensures (behind_blanks _ _ c.without_blanks-text.ensures) c.front_words.ensures
    ∙ ap (λ l. words_spanned l rec) (all_words skip rec c.behind_words.result.now text c.behind_words.ensures (behind_blanks _ _ c.without_blanks-text.ensures))
    ∙ ap (λ n. words_spanned (drop n (words_from 0 rec)) rec) c.saturating_sub.ensures
    ∙ ap (λ l. words_spanned (between c.args.first l (words_from 0 rec)) rec) (sym c.in-None.is)

pub returns-in-Some : goal.returns-in-Some
returns-in-Some c =
    let rec = c.args.rec.now in
    let text = c.without_blanks-text.result.now in
    let skip = c.saturating_sub.result in
    words_are skip c.width.result rec c.behind_words.result.now text c.front_words-in-Some.result.now c.behind_words.ensures (behind_blanks _ _ c.without_blanks-text.ensures) c.front_words-in-Some.ensures
    ∙ ap (λ n. words_spanned (take n (drop skip (words_from 0 rec))) rec) c.width.ensures
    ∙ ap (λ n. words_spanned (take (c.in-Some.last + 1 - c.args.first) (drop n (words_from 0 rec))) rec) c.saturating_sub.ensures
    ∙ ap (λ l. words_spanned (between c.args.first l (words_from 0 rec)) rec) (sym c.in-Some.is)
