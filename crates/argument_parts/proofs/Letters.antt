-- A word before a range has no digit, and the numbers after it begin with one.
use Rattle.std.proofs.Common.{◌≡◌, ℕ, ◌<◌, true, false, List, [], ◌∷◌, ◌++◌, length, map, get_or, codes, refl, sym, ap, ◌∙◌, arith, inl, inr, subst}
use Rattle.std.specs.Char.{is_ascii_digit, to_ascii_lowercase}
use Rattle.std.specs.Str.{all_ascii_digits, str_to_ascii_lowercase}
use Rattle.std.specs.List.{All}
use Rattle.std.proofs.lemmas.List.{get_or-map, length-map}
use Rattle.std.proofs.lemmas.List.Elements.{All-from_get_or, All-from_recursion, All-get_or, All-head, All-tail}
use Rattle.std.proofs.lemmas.Bool.Decides.{nat_tests}
use Rattle.pipe_model.specs.declared.range.Span.{Span}
use Rattle.pipe_model.specs.declared.range.Span.TheVariants.{Columns, Words, Fields}
use Rattle.argument_parts.proofs.Spellings.{first_passes}
use Rattle.argument_parts.specs.Ranges.{IsSpelling}
use Rattle.argument_parts.specs.SpanNames.{IsSpanName}
use Rattle.argument_parts.specs.declared.ranges.Spelling.{Spelling}

-- a byte is no digit
abbrev pub IsOther : ℕ → Type 0
IsOther byte = is_ascii_digit byte ≡ false

-- a byte that is no digit in lower case is none
same_digit : (byte : ℕ) → IsOther (to_ascii_lowercase byte) → IsOther byte
same_digit byte other = grind (arith, nat_tests)

-- a word that is this in lower case, without digits, has no digit
lower_others : (name lower : List ℕ) → str_to_ascii_lowercase name ≡ lower → All IsOther lower → All IsOther name
lower_others name lower same others = All-from_get_or IsOther name 0 (λ i below.
    let lowered : All IsOther (map to_ascii_lowercase name) = subst (All IsOther) (sym same) others in
    same_digit (get_or name i 0) (subst IsOther (get_or-map to_ascii_lowercase name i 0 0 below) (All-get_or IsOther (map to_ascii_lowercase name) i 0 (omega (arith, length-map name to_ascii_lowercase)) lowered)))

-- a word that says what is counted has no digit
pub name_others : (name : List ℕ) (span : Span) → IsSpanName name span → All IsOther name
name_others name Columns names = absurd names
name_others name Words (inl is) = lower_others name (codes "w") is (All-from_recursion IsOther (codes "w") (refl, tt))
name_others name Words (inr (inl is)) = lower_others name (codes "word") is (All-from_recursion IsOther (codes "word") (refl, (refl, (refl, (refl, tt)))))
name_others name Words (inr (inr is)) = lower_others name (codes "words") is (All-from_recursion IsOther (codes "words") (refl, (refl, (refl, (refl, (refl, tt))))))
name_others name Fields (inl is) = lower_others name (codes "f") is (All-from_recursion IsOther (codes "f") (refl, tt))
name_others name Fields (inr (inl is)) = lower_others name (codes "field") is (All-from_recursion IsOther (codes "field") (refl, (refl, (refl, (refl, (refl, tt))))))
name_others name Fields (inr (inr is)) = lower_others name (codes "fields") is (All-from_recursion IsOther (codes "fields") (refl, (refl, (refl, (refl, (refl, (refl, tt)))))))

-- digits, of which there are some, begin with a digit
digits_begin : (digits rest : List ℕ) → 0 < length digits → all_ascii_digits digits ≡ true → is_ascii_digit (get_or (digits ++ rest) 0 48) ≡ true
digits_begin [] rest some are = absurd (omega arith)
digits_begin (digit ∷ digits) rest some are = first_passes (is_ascii_digit digit) (all_ascii_digits digits) are

-- a range that is spelled begins with a digit
pub spelling_begins : (word : List ℕ) (spelling : Spelling) → IsSpelling word spelling → is_ascii_digit (get_or word 0 48) ≡ true
spelling_begins word spelling spelled =
    ap (λ bytes. is_ascii_digit (get_or bytes 0 48)) spelled.spells ∙ digits_begin spelled.number spelled.after spelled.counts.some spelled.counts.digits

-- what stands before the first digit is determined
pub one_split : (name other rest after : List ℕ) → All IsOther name → All IsOther other → is_ascii_digit (get_or rest 0 48) ≡ true → is_ascii_digit (get_or after 0 48) ≡ true
    → name ++ rest ≡ other ++ after → (name ≡ other) × (rest ≡ after)
one_split [] [] rest after are others begins begins_other same = (refl, same)
one_split [] (b ∷ other) rest after are others begins begins_other same =
    let no : true ≡ false = sym begins ∙ ap (λ bytes. is_ascii_digit (get_or bytes 0 48)) same ∙ All-head IsOther b other others in
    cc
one_split (a ∷ name) [] rest after are others begins begins_other same =
    let no : true ≡ false = sym begins_other ∙ ap (λ bytes. is_ascii_digit (get_or bytes 0 48)) (sym same) ∙ All-head IsOther a name are in
    cc
one_split (a ∷ name) (b ∷ other) rest after are others begins begins_other same =
    let tails : name ++ rest ≡ other ++ after = cc in
    let heads : a ≡ b = cc in
    let more = one_split name other rest after (All-tail IsOther a name are) (All-tail IsOther b other others) begins begins_other tails in
    let fronts = more.0 in
    (cc, more.1)
