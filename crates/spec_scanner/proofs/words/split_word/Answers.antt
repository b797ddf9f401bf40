use Rattle.std.proofs.Common.{◌≡◌, ◌∙◌, ap, drop, take}
use Rattle.std.specs.List.{prefix_len}
use Rattle.spec_scanner.specs.Pieces.{is_blank, is_no_blank}
use Rattle.spec_scanner.proofs.Prefixes.{first_or_length}
use Rattle.spec_scanner.proofs.words.split_word.Goals as goal

size_is : (c : goal.After-split_at) → c.unwrap_or-size.result ≡ prefix_len is_no_blank c.from_word-from.result.now
size_is c = rw (c.unwrap_or-size.ensures, c.word_end.ensures) (first_or_length is_blank c.from_word-from.result.now)

pub returns-clause-word : goal.returns-clause-word
returns-clause-word c =
    c.split_at.ensures.front ∙ ap (λ n. take n c.from_word-from.result.now) (size_is c) ∙ ap (λ from. take (prefix_len is_no_blank from) from) c.from_word-from.ensures

pub returns-clause-after : goal.returns-clause-after
returns-clause-after c =
    c.split_at.ensures.back ∙ ap (λ n. drop n c.from_word-from.result.now) (size_is c) ∙ ap (λ from. drop (prefix_len is_no_blank from) from) c.from_word-from.ensures
