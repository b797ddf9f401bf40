-- A stage's text without the blanks around it.
use Rattle.std.proofs.Common.{◌≡◌, ◌≢◌, ℕ, zero, suc, ◌+◌, ◌-◌, true, false, List, [], ◌∷◌, ◌++◌, length, reverse, take, refl, sym, ap, ◌∙◌, arith, add-zero, append-nil, append_assoc, one-add, length-append, ne_eqb}
use Rattle.std.proofs.lemmas.List.{reverse-append, take-append-le, take_all}
use Rattle.std.specs.List.{prefix_len, suffix_len}
use Rattle.spec_scanner.specs.declared.item.Item.{Item}
use Rattle.spec_scanner.specs.declared.item.Reading.TheVariants.{Plain}
use Rattle.spec_scanner.specs.Blanks.{blanks}
use Rattle.spec_scanner.specs.Stretches.{is_plain_blank, trimmed, without_back, without_front}
use Rattle.spec_scanner.proofs.StraightParts.{IsBare}
use Rattle.spec_scanner.proofs.StraightItems.{plain_from}

-- a byte that stands for itself at a place
abbrev pub plain_at : ℕ → ℕ → Item
plain_at at byte = record { byte = byte; reading = Plain; place = at; after = suc at }

-- the items of two texts, one after the other
pub plain_from-append : (at : ℕ) (bytes more : List ℕ) → plain_from at (bytes ++ more) ≡ plain_from at bytes ++ plain_from (at + length bytes) more
plain_from-append at [] more = ap (λ place. plain_from place more) (sym (add-zero at))
plain_from-append at (byte ∷ bytes) more =
    let moved : suc at + length bytes ≡ at + length (byte ∷ bytes) = omega arith in
    ap (λ items. plain_at at byte ∷ items) (plain_from-append (suc at) bytes more ∙ ap (λ place. plain_from (suc at) bytes ++ plain_from place more) moved)

pub length-plain_from : (at : ℕ) (bytes : List ℕ) → length (plain_from at bytes) ≡ length bytes
length-plain_from at [] = refl
length-plain_from at (byte ∷ bytes) = ap suc (length-plain_from (suc at) bytes)

-- a blank at the front goes, and what isn't one stays
front_goes : (item : Item) (items : List Item) → is_plain_blank item ≡ true → without_front (item ∷ items) ≡ without_front items
front_goes item items blank = rw blank (rw (one-add (prefix_len is_plain_blank items)) refl)

front_stays : (item : Item) (items : List Item) → is_plain_blank item ≡ false → without_front (item ∷ items) ≡ item ∷ items
front_stays item items other = rw other refl

-- a blank at the back goes, and what isn't one stays
back_is : (item : Item) (items : List Item) → suffix_len is_plain_blank (items ++ item ∷ []) ≡ prefix_len is_plain_blank (item ∷ reverse items)
back_is item items = ap (prefix_len is_plain_blank) (reverse-append items (item ∷ []))

back_goes : (item : Item) (items : List Item) → is_plain_blank item ≡ true → without_back (items ++ item ∷ []) ≡ without_back items
back_goes item items blank =
    let one_more : suffix_len is_plain_blank (items ++ item ∷ []) ≡ 1 + suffix_len is_plain_blank items = back_is item items ∙ rw blank refl in
    let left : length (items ++ item ∷ []) - suffix_len is_plain_blank (items ++ item ∷ []) ≡ length items - suffix_len is_plain_blank items =
    omega (arith, length-append items (item ∷ []), one_more) in
    ap (λ count. take count (items ++ item ∷ [])) left ∙ take-append-le (length items - suffix_len is_plain_blank items) items (item ∷ []) (omega arith)

back_stays : (item : Item) (items : List Item) → is_plain_blank item ≡ false → without_back (items ++ item ∷ []) ≡ items ++ item ∷ []
back_stays item items other =
    let none : suffix_len is_plain_blank (items ++ item ∷ []) ≡ 0 = back_is item items ∙ rw other refl in
    take_all (length (items ++ item ∷ []) - suffix_len is_plain_blank (items ++ item ∷ [])) (items ++ item ∷ []) (omega (arith, none))

-- another byte than a blank is none
no_blank : (at byte : ℕ) → byte ≢ 32 → is_plain_blank (plain_at at byte) ≡ false
no_blank at byte other = rw (ne_eqb byte 32 other) refl

-- blanks at the front go
blanks_go : (at count : ℕ) (bytes : List ℕ) → without_front (plain_from at (blanks count ++ bytes)) ≡ without_front (plain_from (at + count) bytes)
blanks_go at zero bytes = ap (λ place. without_front (plain_from place bytes)) (sym (add-zero at))
blanks_go at (suc count) bytes =
    let moved : suc at + count ≡ at + suc count = omega arith in
    front_goes (plain_at at 32) (plain_from (suc at) (blanks count ++ bytes)) refl
    ∙ blanks_go (suc at) count bytes
    ∙ ap (λ place. without_front (plain_from place bytes)) moved

-- one blank more at the front is one more at the end
blank_last : (count : ℕ) → blanks (suc count) ≡ blanks count ++ 32 ∷ []
blank_last zero = refl
blank_last (suc count) = ap (λ bytes. 32 ∷ bytes) (blank_last count)

-- blanks at the back go
blanks_back : (at count : ℕ) (bytes : List ℕ) → without_back (plain_from at (bytes ++ blanks count)) ≡ without_back (plain_from at bytes)
blanks_back at zero bytes = ap (λ bytes. without_back (plain_from at bytes)) (append-nil bytes)
blanks_back at (suc count) bytes =
    ap (λ more. without_back (plain_from at (bytes ++ more))) (blank_last count)
    ∙ ap (λ bytes. without_back (plain_from at bytes)) (sym (append_assoc bytes (blanks count) (32 ∷ [])))
    ∙ ap without_back (plain_from-append at (bytes ++ blanks count) (32 ∷ []))
    ∙ back_goes (plain_at (at + length (bytes ++ blanks count)) 32) (plain_from at (bytes ++ blanks count)) refl
    ∙ blanks_back at count bytes

-- what is bare is left of it between blanks
pub trimmed_between : (at before after : ℕ) (bytes : List ℕ) → IsBare bytes → trimmed (plain_from at (blanks before ++ (bytes ++ blanks after))) ≡ plain_from (at + before) bytes
trimmed_between at before after bytes bare =
    let place = at + before in
    let opened : without_front (plain_from place (bytes ++ blanks after)) ≡ plain_from place (bytes ++ blanks after) =
    ap (λ bytes. without_front (plain_from place (bytes ++ blanks after))) bare.begins
    ∙ front_stays (plain_at place bare.first) (plain_from (suc place) (bare.rest ++ blanks after)) (no_blank place bare.first bare.first_other)
    ∙ ap (λ bytes. plain_from place (bytes ++ blanks after)) (sym bare.begins) in
    let split : plain_from place bytes ≡ plain_from place bare.front ++ plain_at (place + length bare.front) bare.last ∷ [] =
    ap (plain_from place) bare.ends ∙ plain_from-append place bare.front (bare.last ∷ []) in
    let closed : without_back (plain_from place bytes) ≡ plain_from place bytes =
    ap without_back split
    ∙ back_stays (plain_at (place + length bare.front) bare.last) (plain_from place bare.front) (no_blank (place + length bare.front) bare.last bare.last_other)
    ∙ sym split in
    ap without_back (blanks_go at before (bytes ++ blanks after)) ∙ ap without_back opened ∙ blanks_back place after bytes ∙ closed
