use Rattle.std.proofs.Common.{◌∙◌, ap, drop}
use Rattle.spec_scanner.specs.Stretches.{is_plain_blank}
use Rattle.spec_scanner.proofs.Prefixes.{first_other_or_length, rest_of}
use Rattle.spec_scanner.proofs.words.without_front.Goals as goal

pub returns : goal.returns
returns c =
    let items = c.args.items.now in
    rest_of items _ ∙ ap (λ n. drop n items) (rw (c.unwrap_or-front.ensures, c.first_other.ensures) (first_other_or_length is_plain_blank items))
