-- The place of a field is read in one way, or has one fault.
use Rattle.std.proofs.Common.{◌≡◌, ◌≢◌, ℕ, ◌+◌, ◌-◌, ◌<◌, Bool, true, false, List, [], ◌∷◌, ◌++◌, length, get_or, map, codes, refl, sym, ap, ◌∙◌, arith, subst, inl, inr, Option, Some, None}
use Rattle.std.specs.Char.{is_ascii_digit, to_ascii_lowercase}
use Rattle.std.specs.List.{All, Contains}
use Rattle.std.specs.Str.{str_to_ascii_lowercase}
use Rattle.std.proofs.lemmas.Bool.Decides.{nat_tests}
use Rattle.std.proofs.lemmas.List.{get_or-map, length-map}
use Rattle.std.proofs.lemmas.List.Elements.{All-contains, All-from_get_or, All-from_recursion, All-get_or, Contains-append_right}
use Rattle.pipe_model.specs.declared.items.Spot.{Spot}
use Rattle.pipe_model.specs.declared.items.Spot.TheVariants.{Column, Next, NextWord}
use Rattle.pipe_model.specs.Words.{IsFirstWord}
use Rattle.pipe_model.proofs.FirstWords.{same_rest, same_word}
use Rattle.argument_parts.proofs.Letters.{spelling_begins}
use Rattle.argument_parts.proofs.OneSpellings.{one_range_fault, one_spelling, one_value}
use Rattle.argument_parts.specs.Bounds.{Fits, IsMisfit, IsReversed, IsSecondMisfit}
use Rattle.argument_parts.specs.PlainRanges.{IsRangeFault, fault_of}
use Rattle.argument_parts.specs.Ranges.{IsSpelling}
use Rattle.argument_parts.specs.RangeWords.{fault_in}
use Rattle.argument_parts.specs.Spots.{FitsLength, IsColumn, IsColumnFault, IsColumnLength, IsLength, IsNextFault, IsNextName, IsNextPlace, IsNextSpelling, IsSpot, IsSpotMisfit}
use Rattle.argument_parts.specs.declared.bounds.Misfit.{Misfit}
use Rattle.argument_parts.specs.declared.bounds.Misfit.TheVariants.{First, Second, Reversed}
use Rattle.argument_parts.specs.declared.fault.FaultKind.TheVariants.{OutOfRange}
use Rattle.argument_parts.specs.declared.part.TextFault.{TextFault}
use Rattle.argument_parts.specs.declared.ranges.Ending.{Ending}
use Rattle.argument_parts.specs.declared.ranges.Ending.TheVariants.{Alone, To, Open, Long}
use Rattle.argument_parts.specs.declared.ranges.Spelling.{Spelling}

-- Columns

-- an ending gives one length
one_length : (first : ℕ) (ending : Ending) (a b : Option ℕ) → IsColumnLength first ending a → IsColumnLength first ending b → a ≡ b
one_length first Alone a b is too = is ∙ sym too
one_length first (To last) a b is too = is.2 ∙ sym too.2
one_length first Open a b is too = absurd is
one_length first (Long n) a b is too = is.1 ∙ sym too.1

-- which fits
length_fits : (first : ℕ) (ending : Ending) (len : Option ℕ) → IsColumnLength first ending len → ¬ IsSecondMisfit ending
length_fits first Alone len is misfit = misfit
length_fits first (To last) len is misfit = misfit is.0
length_fits first Open len is misfit = misfit
length_fits first (Long n) len is misfit = misfit is.0

not_reversed : (first : ℕ) (ending : Ending) (len : Option ℕ) → IsColumnLength first ending len → ¬ IsReversed first ending
not_reversed first Alone len is reversed = reversed
not_reversed first (To last) len is reversed = omega (arith, is.1, reversed.1)
not_reversed first Open len is reversed = reversed
not_reversed first (Long n) len is reversed = reversed

no_misfit : (spelling : Spelling) (len : Option ℕ) (misfit : Misfit) → Fits spelling.first → IsColumnLength spelling.first spelling.ending len → ¬ IsMisfit spelling misfit
no_misfit spelling len First fits is misfit = misfit fits
no_misfit spelling len Second fits is misfit = length_fits spelling.first spelling.ending len is misfit.1
no_misfit spelling len Reversed fits is misfit = not_reversed spelling.first spelling.ending len is misfit.1

module _ (text : List ℕ) where
  one_column : (a b : ℕ) (len other : Option ℕ) (rest more : List ℕ) → IsColumn text a len rest → IsColumn text b other more → (Column a len ≡ Column b other) × (rest ≡ more)
  one_column a b len other rest more is too =
      let words = same_word text is.word rest too.word more is.first_is too.first_is in
      let same : is.spelling ≡ too.spelling = one_spelling is.word is.spelling too.spelling is.spelled (subst (λ word. IsSpelling word too.spelling) (sym words) too.spelled) in
      let firsts : a ≡ b = is.begins ∙ ap (λ (s : Spelling). s.first) same ∙ sym too.begins in
      let lens = one_length too.spelling.first too.spelling.ending len other (subst (λ (s : Spelling). IsColumnLength s.first s.ending len) same is.ends) too.ends in
      (ap (λ n. Column n len) firsts ∙ ap (Column b) lens, same_rest text is.word rest too.word more is.first_is too.first_is)

  column_faultless : (first : ℕ) (len : Option ℕ) (rest : List ℕ) (fault : TextFault) → IsColumn text first len rest → ¬ IsColumnFault text fault
  column_faultless first len rest fault is too =
      let words = same_word text is.word rest too.word too.rest is.first_is too.first_is in
      let same : is.spelling ≡ too.spelling = one_spelling is.word is.spelling too.spelling is.spelled (subst (λ word. IsSpelling word too.spelling) (sym words) too.spelled) in
      no_misfit is.spelling len too.misfit is.fits is.ends (subst (λ s. IsMisfit s too.misfit) (sym same) too.misfits)

  -- the fault of a column is that of a range
  one_column_fault : (a b : TextFault) → IsColumnFault text a → IsColumnFault text b → a ≡ b
  one_column_fault a b is too =
      let words = same_word text is.word is.rest too.word too.rest is.first_is too.first_is in
      let first : IsRangeFault is.word (fault_of (length is.spelled.number + 1) is.misfit) = record { spelling = is.spelling; spelled = is.spelled; misfit = is.misfit; misfits = is.misfits; fault_is = refl } in
      let second : IsRangeFault too.word (fault_of (length too.spelled.number + 1) too.misfit) = record { spelling = too.spelling; spelled = too.spelled; misfit = too.misfit; misfits = too.misfits; fault_is = refl } in
      is.fault_is ∙ ap (fault_in (length text)) (one_range_fault is.word _ _ first (subst (λ word. IsRangeFault word (fault_of (length too.spelled.number + 1) too.misfit)) (sym words) second)) ∙ sym too.fault_is

-- NEXT and NEXTWORD

-- a name begins with N
begins_as : (name lower : List ℕ) → str_to_ascii_lowercase name ≡ lower → get_or (str_to_ascii_lowercase name) 0 0 ≡ get_or lower 0 0
begins_as name lower is = ap (λ bytes. get_or bytes 0 0) is

pub next_begins : (name : List ℕ) (apart : Bool) → IsNextName name apart → get_or (str_to_ascii_lowercase name) 0 0 ≡ 110
next_begins name false (inl is) = begins_as name (codes "next") is
next_begins name false (inr is) = begins_as name (codes "n") is
next_begins name true (inl is) = begins_as name (codes "nextword") is
next_begins name true (inr is) = begins_as name (codes "nw") is

no_digit : (byte : ℕ) → to_ascii_lowercase byte ≡ 110 → is_ascii_digit byte ≡ false
no_digit byte is = grind (arith, nat_tests)

-- and not with a digit
next_no_digit : (name after : List ℕ) (apart : Bool) → IsNextName name apart → is_ascii_digit (get_or (name ++ after) 0 48) ≡ false
next_no_digit [] after apart names = absurd (omega (arith, next_begins [] apart names))
next_no_digit (byte ∷ name) after apart names = no_digit byte (next_begins (byte ∷ name) apart names)

-- it has no dot
abbrev IsUndotted : ℕ → Type 0
IsUndotted byte = byte ≢ 46

same_dot : (byte : ℕ) → IsUndotted (to_ascii_lowercase byte) → IsUndotted byte
same_dot byte other = grind (arith, nat_tests)

lower_undotted : (name lower : List ℕ) → str_to_ascii_lowercase name ≡ lower → All IsUndotted lower → All IsUndotted name
lower_undotted name lower same others = All-from_get_or IsUndotted name 0 (λ i below.
    let lowered : All IsUndotted (map to_ascii_lowercase name) = subst (All IsUndotted) (sym same) others in
    same_dot (get_or name i 0) (subst IsUndotted (get_or-map to_ascii_lowercase name i 0 0 below) (All-get_or IsUndotted (map to_ascii_lowercase name) i 0 (omega (arith, length-map name to_ascii_lowercase)) lowered)))

is_undotted : (byte : ℕ) → 46 < byte → IsUndotted byte
is_undotted byte above same = omega (arith, above, same)

undotted : (name : List ℕ) (apart : Bool) → IsNextName name apart → All IsUndotted name
undotted name false (inl is) = lower_undotted name (codes "next") is (All-from_recursion IsUndotted (codes "next") (is_undotted 110 (omega arith), (is_undotted 101 (omega arith), (is_undotted 120 (omega arith), (is_undotted 116 (omega arith), tt)))))
undotted name false (inr is) = lower_undotted name (codes "n") is (All-from_recursion IsUndotted (codes "n") (is_undotted 110 (omega arith), tt))
undotted name true (inl is) =
    lower_undotted name (codes "nextword") is (All-from_recursion IsUndotted (codes "nextword") (is_undotted 110 (omega arith), (is_undotted 101 (omega arith), (is_undotted 120 (omega arith), (is_undotted 116 (omega arith), (is_undotted 119 (omega arith), (is_undotted 111 (omega arith), (is_undotted 114 (omega arith), (is_undotted 100 (omega arith), tt)))))))))
undotted name true (inr is) = lower_undotted name (codes "nw") is (All-from_recursion IsUndotted (codes "nw") (is_undotted 110 (omega arith), (is_undotted 119 (omega arith), tt)))

pub name_undotted : (name : List ℕ) (apart : Bool) → IsNextName name apart → ¬ Contains name 46
name_undotted name apart names found = All-contains IsUndotted name 46 (undotted name apart names) found refl

-- what stands before the first dot is determined
pub one_dotted : (name other rest after : List ℕ) → ¬ Contains name 46 → ¬ Contains other 46 → get_or rest 0 46 ≡ 46 → get_or after 0 46 ≡ 46 → name ++ rest ≡ other ++ after → (name ≡ other) × (rest ≡ after)
one_dotted [] [] rest after whole whole_other stops stops_other same = (refl, same)
one_dotted [] (b ∷ other) rest after whole whole_other stops stops_other same =
    let dot : b ≡ 46 = ap (λ bytes. get_or bytes 0 46) (sym same) ∙ stops in
    absurd (whole_other (0, omega arith, dot))
one_dotted (a ∷ name) [] rest after whole whole_other stops stops_other same =
    let dot : a ≡ 46 = ap (λ bytes. get_or bytes 0 46) same ∙ stops_other in
    absurd (whole (0, omega arith, dot))
one_dotted (a ∷ name) (b ∷ other) rest after whole whole_other stops stops_other same =
    let tails : name ++ rest ≡ other ++ after = cc in
    let heads : a ≡ b = cc in
    let more = one_dotted name other rest after (λ found. whole (Contains-append_right (a ∷ []) name 46 found)) (λ found. whole_other (Contains-append_right (b ∷ []) other 46 found)) stops stops_other tails in
    let fronts = more.0 in
    (cc, more.1)

pub length_stops : (after : List ℕ) (len : Option ℕ) → IsLength after len → get_or after 0 46 ≡ 46
length_stops after None is = ap (λ bytes. get_or bytes 0 46) is
length_stops after (Some len) is = ap (λ bytes. get_or bytes 0 46) is.1

-- a name says one thing
as_long : (name a b : List ℕ) → str_to_ascii_lowercase name ≡ a → str_to_ascii_lowercase name ≡ b → length a ≡ length b
as_long name a b is too = ap length (sym is ∙ too)

not_both_names : (name : List ℕ) → IsNextName name false → ¬ IsNextName name true
not_both_names name (inl is) (inl too) = omega (arith, as_long name (codes "next") (codes "nextword") is too)
not_both_names name (inl is) (inr too) = omega (arith, as_long name (codes "next") (codes "nw") is too)
not_both_names name (inr is) (inl too) = omega (arith, as_long name (codes "n") (codes "nextword") is too)
not_both_names name (inr is) (inr too) = omega (arith, as_long name (codes "n") (codes "nw") is too)

one_apart : (name : List ℕ) (a b : Bool) → IsNextName name a → IsNextName name b → a ≡ b
one_apart name false false is too = refl
one_apart name false true is too = absurd (not_both_names name is too)
one_apart name true false is too = absurd (not_both_names name too is)
one_apart name true true is too = refl

one_len : (after : List ℕ) (a b : Option ℕ) → IsLength after a → IsLength after b → a ≡ b
one_len after None None is too = refl
one_len after None (Some b) is too = let both = sym is ∙ too.1 in cc
one_len after (Some a) None is too = let both = sym too ∙ is.1 in cc
one_len after (Some a) (Some b) is too =
    let both = sym is.1 ∙ too.1 in
    let digits : is.0 ≡ too.0 = cc in
    ap Some (one_value is.0 too.0 a b digits is.2 too.2)

-- a word is spelled so in one way
one_next_spelling : (word same : List ℕ) (a b : Bool) (len other : Option ℕ) → word ≡ same → (is : IsNextSpelling word a len) (too : IsNextSpelling same b other) → (a ≡ b) × (len ≡ other) × (is.name ≡ too.name)
one_next_spelling word same a b len other words is too =
    let parts = one_dotted is.name too.name is.after too.after (name_undotted is.name a is.names) (name_undotted too.name b too.names) (length_stops is.after len is.ends) (length_stops too.after other too.ends) (sym is.spells ∙ words ∙ too.spells) in (
      one_apart too.name a b (subst (λ name. IsNextName name a) parts.0 is.names) too.names,
      one_len too.after len other (subst (λ after. IsLength after len) parts.1 is.ends) too.ends,
      parts.0,
    )

-- and spells no range
pub next_no_range : (word : List ℕ) (apart : Bool) (len : Option ℕ) (spelling : Spelling) → IsNextSpelling word apart len → ¬ IsSpelling word spelling
next_no_range word apart len spelling is spelled =
    let no : true ≡ false = sym (spelling_begins word spelling spelled) ∙ ap (λ bytes. is_ascii_digit (get_or bytes 0 48)) is.spells ∙ next_no_digit is.name is.after apart is.names in
    cc

module _ (text : List ℕ) where
  one_next : (a b : Bool) (len other : Option ℕ) (rest more : List ℕ) → IsNextPlace text a len rest → IsNextPlace text b other more → (a ≡ b) × (len ≡ other) × (rest ≡ more)
  one_next a b len other rest more is too =
      let words = same_word text is.word rest too.word more is.first_is too.first_is in
      let same = one_next_spelling is.word too.word a b len other words is.spelled too.spelled in
      (same.0, same.1, same_rest text is.word rest too.word more is.first_is too.first_is)

  column_or_next : (word rest other more : List ℕ) (spelling : Spelling) (apart : Bool) (len : Option ℕ) → IsFirstWord text word rest → IsSpelling word spelling → IsFirstWord text other more → ¬ IsNextSpelling other apart len
  column_or_next word rest other more spelling apart len first spelled second next =
      next_no_range word apart len spelling (subst (λ word. IsNextSpelling word apart len) (same_word text other more word rest second first) next) spelled

  next_faultless : (apart : Bool) (len : Option ℕ) (rest : List ℕ) (fault : TextFault) → IsNextPlace text apart len rest → ¬ IsNextFault text fault
  next_faultless apart len rest fault is too =
      let words = same_word text is.word rest too.word too.rest is.first_is too.first_is in
      let same = one_next_spelling is.word too.word apart too.apart len (Some too.len) words is.spelled too.spelled in
      too.outside (subst FitsLength same.1 is.fits)

  one_next_fault : (a b : TextFault) → IsNextFault text a → IsNextFault text b → a ≡ b
  one_next_fault a b is too =
      let words = same_word text is.word is.rest too.word too.rest is.first_is too.first_is in
      let names : is.spelled.name ≡ too.spelled.name = (one_next_spelling is.word too.word is.apart too.apart (Some is.len) (Some too.len) words is.spelled too.spelled).2 in
      is.fault_is ∙ ap (λ (name : List ℕ). record { left = length text - (length name + 1); kind = OutOfRange }) names ∙ sym too.fault_is

-- Places

module _ (text : List ℕ) where
  pub one_spot : (a b : Spot) (rest more : List ℕ) → IsSpot text a rest → IsSpot text b more → (a ≡ b) × (rest ≡ more)
  one_spot (Column a len) (Column b other) rest more is too = one_column text a b len other rest more is too
  one_spot (Column a len) (Next other) rest more is too = absurd (column_or_next text is.word rest too.word more is.spelling false other is.first_is is.spelled too.first_is too.spelled)
  one_spot (Column a len) (NextWord other) rest more is too = absurd (column_or_next text is.word rest too.word more is.spelling true other is.first_is is.spelled too.first_is too.spelled)
  one_spot (Next len) (Column b other) rest more is too = absurd (column_or_next text too.word more is.word rest too.spelling false len too.first_is too.spelled is.first_is is.spelled)
  one_spot (Next len) (Next other) rest more is too = let same = one_next text false false len other rest more is too in (ap Next same.1, same.2)
  one_spot (Next len) (NextWord other) rest more is too = let same = one_next text false true len other rest more is too in let no = same.0 in cc
  one_spot (NextWord len) (Column b other) rest more is too = absurd (column_or_next text too.word more is.word rest too.spelling true len too.first_is too.spelled is.first_is is.spelled)
  one_spot (NextWord len) (Next other) rest more is too = let same = one_next text true false len other rest more is too in let no = same.0 in cc
  one_spot (NextWord len) (NextWord other) rest more is too = let same = one_next text true true len other rest more is too in (ap NextWord same.1, same.2)

  -- what comes next has no fault of a place
  next_spot_faultless : (apart : Bool) (len : Option ℕ) (rest : List ℕ) (fault : TextFault) → IsNextPlace text apart len rest → ¬ IsSpotMisfit text fault
  next_spot_faultless apart len rest fault is (inl too) = column_or_next text too.word too.rest is.word rest too.spelling apart len too.first_is too.spelled is.first_is is.spelled
  next_spot_faultless apart len rest fault is (inr too) = next_faultless text apart len rest fault is too

  pub spot_faultless : (spot : Spot) (rest : List ℕ) (fault : TextFault) → IsSpot text spot rest → ¬ IsSpotMisfit text fault
  spot_faultless (Column first len) rest fault is (inl too) = column_faultless text first len rest fault is too
  spot_faultless (Column first len) rest fault is (inr too) = column_or_next text is.word rest too.word too.rest is.spelling too.apart (Some too.len) is.first_is is.spelled too.first_is too.spelled
  spot_faultless (Next len) rest fault is misfit = next_spot_faultless false len rest fault is misfit
  spot_faultless (NextWord len) rest fault is misfit = next_spot_faultless true len rest fault is misfit

  column_or_next_fault : (a b : TextFault) → IsColumnFault text a → ¬ IsNextFault text b
  column_or_next_fault a b is too = column_or_next text is.word is.rest too.word too.rest is.spelling too.apart (Some too.len) is.first_is is.spelled too.first_is too.spelled

  pub one_spot_misfit : (a b : TextFault) → IsSpotMisfit text a → IsSpotMisfit text b → a ≡ b
  one_spot_misfit a b (inl is) (inl too) = one_column_fault text a b is too
  one_spot_misfit a b (inl is) (inr too) = absurd (column_or_next_fault a b is too)
  one_spot_misfit a b (inr is) (inl too) = absurd (column_or_next_fault b a too is)
  one_spot_misfit a b (inr is) (inr too) = one_next_fault text a b is too
