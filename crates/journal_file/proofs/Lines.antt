-- A line of the format is that of one entry, or the last line of one number.
use Rattle.std.proofs.Common.{◌≡◌, ℕ, ◌^◌, ◌<◌, ◌≤◌, List, [], ◌∷◌, ◌++◌, length, codes, decimal, sym, ap, ◌∙◌, arith, append_assoc, append-nil}
use Rattle.std.specs.Str.Parse.{AllDigits}
use Rattle.std.proofs.lemmas.Fmt.{decimal_is_IsNumeral, decimal_injective}
use Rattle.std.proofs.lemmas.Str.Parse.{digit_from_value}
use Rattle.pipe_model.specs.declared.step.Entry.{Entry}
use Rattle.journal_file.specs.Faults.{LacksFront}
use Rattle.journal_file.specs.Text.{IsEntry, entry_line, end_line}
use Rattle.journal_file.proofs.Digits.{goes_on, no_digit}
use Rattle.journal_file.proofs.Numbers.{LacksNumber}

-- a text begins with one number up to a byte
pub one_number : (m n end : ℕ) (r s : List ℕ) → m < 2 ^ 64 → n < 2 ^ 64 → end < 48 → decimal m ++ (end ∷ r) ≡ decimal n ++ (end ∷ s) → (m ≡ n) × (r ≡ s)
one_number m n end r s small fits low same =
    let on = goes_on (decimal m) (decimal n) (end ∷ r) end s (decimal_is_IsNumeral m small).0.1 (decimal_is_IsNumeral n fits).0.1 low same in
    by_tail on.tail on.each on.digits on.left
  where
    by_tail : (tail : List ℕ) → AllDigits 10 tail → decimal n ≡ decimal m ++ tail → end ∷ r ≡ tail ++ (end ∷ s) → (m ≡ n) × (r ≡ s)
    by_tail [] all whole is = (decimal_injective m n small fits (sym (append-nil (decimal m)) ∙ sym whole), cc)
    by_tail (digit ∷ tail) all whole is = let e : end ≡ digit = cc in absurd (no_digit end low (rw e all.0))

-- the line of an entry, and what stands behind it
pub entry_spelled : (entry : Entry) (rest : List ℕ) → entry_line entry ++ rest ≡ decimal entry.strand ++ (32 ∷ (decimal entry.stream ++ (10 ∷ rest)))
entry_spelled entry rest =
    append_assoc (decimal entry.strand) (32 ∷ (decimal entry.stream ++ (10 ∷ []))) rest
    ∙ ap (λ behind. decimal entry.strand ++ (32 ∷ behind)) (append_assoc (decimal entry.stream) (10 ∷ []) rest)

-- the last line, and what stands behind it
pub end_spelled : (count : ℕ) (rest : List ℕ) → end_line count ++ rest ≡ codes "end " ++ (decimal count ++ (10 ∷ rest))
end_spelled count rest = ap (λ behind. codes "end " ++ behind) (append_assoc (decimal count) (10 ∷ []) rest)

-- a text begins with the line of one entry
pub one_entry : (x y : Entry) (r s : List ℕ) → IsEntry x → IsEntry y → entry_line x ++ r ≡ entry_line y ++ s → (x ≡ y) × (r ≡ s)
one_entry x y r s p q same =
    let strands = one_number x.strand y.strand 32 (decimal x.stream ++ (10 ∷ r)) (decimal y.stream ++ (10 ∷ s)) (omega (arith, p.strand)) (omega (arith, q.strand)) (omega arith)
    (sym (entry_spelled x r) ∙ same ∙ entry_spelled y s) in
    let streams = one_number x.stream y.stream 10 r s (omega (arith, p.stream)) (omega (arith, q.stream)) (omega arith) strands.1 in
    let of : ℕ → ℕ → Entry = λ strand stream. record { strand = strand; stream = stream } in
    (ap (λ strand. of strand x.stream) strands.0 ∙ ap (of y.strand) streams.0, streams.1)

-- the last line is no entry's
pub no_entry_at_end : (count : ℕ) (more : List ℕ) (entry : Entry) → IsEntry entry → LacksFront (end_line count ++ more) (entry_line entry)
no_entry_at_end count more entry is rest same =
    let numeral = (decimal_is_IsNumeral entry.strand (omega (arith, is.strand))).0 in
    by_digits (decimal entry.strand) numeral.0 numeral.1 (same ∙ entry_spelled entry rest)
  where
    by_digits : (digits : List ℕ) → 0 < length digits → AllDigits 10 digits → end_line count ++ more ≡ digits ++ (32 ∷ (decimal entry.stream ++ (10 ∷ rest))) → ⊥
    by_digits [] some all begins = omega arith
    by_digits (digit ∷ digits) some all begins =
        let e : digit ≡ 101 = cc in
        let range = digit_from_value digit all.0 in omega (arith, range.1)

-- behind a strand stands no stream
pub no_stream : (text rest : List ℕ) (strand : ℕ) → text ≡ decimal strand ++ (32 ∷ rest) → strand ≤ 4294967295 → LacksNumber rest 10 65535 → (entry : Entry) → IsEntry entry → LacksFront text (entry_line entry)
no_stream text rest strand spells within none entry is more same =
    let strands = one_number strand entry.strand 32 rest (decimal entry.stream ++ (10 ∷ more)) (omega arith) (omega (arith, is.strand)) (omega arith) (sym spells ∙ same ∙ entry_spelled entry more) in
    none entry.stream more is.stream strands.1

-- the last line of another number
pub other_end : (text number rest : List ℕ) (told count : ℕ) → text ≡ codes "end " ++ number → number ≡ decimal told ++ (10 ∷ rest) → told < 2 ^ 64 → count < 2 ^ 64 → ¬ (told ≡ count) → LacksFront text (end_line count)
other_end text number rest told count spells tells small fits other more same =
    let whole : codes "end " ++ number ≡ codes "end " ++ (decimal count ++ (10 ∷ more)) = sym spells ∙ same ∙ end_spelled count more in
    let numbers : number ≡ decimal count ++ (10 ∷ more) = cc in
    other (one_number told count 10 rest more small fits (omega arith) (sym tells ∙ numbers)).0
