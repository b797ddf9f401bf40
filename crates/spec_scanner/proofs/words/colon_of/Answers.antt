use Rattle.std.proofs.Common.{◌≡◌, ◌∙◌, ◌+◌, ap, sym, refl, false, List, ℕ, Some}
use Rattle.std.specs.List.{position, prefix_len}
use Rattle.spec_scanner.specs.declared.item.Item.{Item}
use Rattle.spec_scanner.specs.Pieces.{colon_of, first_word, is_blank, is_plain_colon, is_starred}
use Rattle.spec_scanner.proofs.Prefixes.{first_other_or_length}
use Rattle.spec_scanner.proofs.Loads.{colon_within}
use Rattle.spec_scanner.proofs.words.colon_of.Goals as goal

colon_at : (items : List Item) (begin at : ℕ) → begin ≡ prefix_len is_blank items → is_starred (first_word items) ≡ false
    → position is_plain_colon (first_word items) ≡ Some at → Some (begin + at) ≡ colon_of items
colon_at items begin at is plain found = rw (plain, found, is) refl

pub returns-clause-count : goal.returns-clause-count
returns-clause-count c =
    let items = c.args.items.now in
    let word = c.split_word.ensures.word in
    colon_at items _ _
    (rw (c.unwrap_or-begin.ensures, c.word_begin.ensures) (first_other_or_length is_blank items))
    (ap is_starred (sym word) ∙ sym c.is_starred.ensures ∙ c.if-is_starred.false)
    (ap (position is_plain_colon) (sym word) ∙ sym c.first_colon.ensures ∙ c.in_ok-at.was)

pub returns-clause-within : goal.returns-clause-within
returns-clause-within c = colon_within c.args.items.now _ (sym (returns-clause-count c))
