use Rattle.std.proofs.Common.{◌∙◌, ap, drop}
use Rattle.spec_scanner.specs.Pieces.{is_blank}
use Rattle.spec_scanner.proofs.Prefixes.{first_other_or_length, rest_of}
use Rattle.spec_scanner.proofs.words.from_word.Goals as goal

pub returns : goal.returns
returns c =
    let items = c.args.items.now in
    rest_of items _ ∙ ap (λ n. drop n items) (rw (c.unwrap_or-begin.ensures, c.word_begin.ensures) (first_other_or_length is_blank items))
