-- The parts of a straight line: their names and operands begin and end with other bytes than blanks.
use Rattle.std.proofs.Common.{◌≡◌, ◌≢◌, ℕ, suc, List, [], ◌∷◌, ◌++◌, length, refl, sym, ap, ◌∙◌, arith, codes}
use Rattle.std.specs.Char.{to_ascii_lowercase}
use Rattle.std.specs.Str.{str_to_ascii_lowercase}
use Rattle.std.proofs.lemmas.List.{append_assoc, length-map}
use Rattle.spec_scanner.specs.Blanks.{blanks}
use Rattle.spec_scanner.specs.Straight.{AreLocates, IsLocate}

-- the bytes begin and end with another byte than a blank
pub record IsBare (bytes : List ℕ) : Type 0 where
  pub first : ℕ
  pub rest : List ℕ
  pub begins : bytes ≡ first ∷ rest
  pub first_other : first ≢ 32
  pub front : List ℕ
  pub last : ℕ
  pub ends : bytes ≡ front ++ last ∷ []
  pub last_other : last ≢ 32

-- a byte whose lower case is no blank is none
letter : (byte lower : ℕ) → to_ascii_lowercase byte ≡ lower → lower ≢ 32 → byte ≢ 32
letter byte lower is other blank = other (sym is ∙ ap to_ascii_lowercase blank)

-- what has a lower case that ends in a byte ends in a byte with that lower case
ends_alike : (bytes front : List ℕ) (last : ℕ) → str_to_ascii_lowercase bytes ≡ front ++ last ∷ []
    → (start : List ℕ) × (end : ℕ) × (bytes ≡ start ++ end ∷ []) × (to_ascii_lowercase end ≡ last)
ends_alike [] [] last is = cc
ends_alike [] (c ∷ front) last is = cc
ends_alike (b ∷ []) [] last is = ([], b, refl, cc)
ends_alike (b ∷ c ∷ bytes) [] last is = cc
ends_alike (b ∷ bytes) (c ∷ front) last is =
    let tails : str_to_ascii_lowercase bytes ≡ front ++ last ∷ [] = cc in
    let rest = ends_alike bytes front last tails in
    (b ∷ rest.0, rest.1, ap (λ l. b ∷ l) rest.2, rest.3)

-- what has a lower case that begins with a byte begins with a byte with that lower case
begins_alike : (bytes : List ℕ) (first : ℕ) (more : List ℕ) → str_to_ascii_lowercase bytes ≡ first ∷ more
    → (start : ℕ) × (rest : List ℕ) × (bytes ≡ start ∷ rest) × (to_ascii_lowercase start ≡ first)
begins_alike [] first more is = cc
begins_alike (b ∷ bytes) first more is = (b, bytes, refl, cc)

-- the name of a CONSOLE has no blank at its ends
pub name_is_bare : (name : List ℕ) → str_to_ascii_lowercase name ≡ codes "console" → IsBare name
name_is_bare name is =
    let front = begins_alike name 99 (codes "onsole") is in
    let back = ends_alike name (codes "consol") 101 is in
    record {
      first = front.0;
      rest = front.1;
      begins = front.2;
      first_other = letter front.0 99 front.3 (λ blank. omega arith);
      front = back.0;
      last = back.1;
      ends = back.2;
      last_other = letter back.1 101 back.3 (λ blank. omega arith);
    }

-- the string between its slashes
abbrev pub delimited : List ℕ → List ℕ
delimited string = 47 ∷ string ++ (47 ∷ [])

-- what stands after the name
abbrev pub operand_of : {part string : List ℕ} → IsLocate part string → List ℕ
operand_of {part} {string} locate = blanks locate.between ++ delimited string

-- blanks after the string's slash are the end of what is spelled
pub closed_after : (name : List ℕ) (between after : ℕ) (string : List ℕ)
    → (name ++ (blanks between ++ delimited string)) ++ blanks after ≡ name ++ (blanks between ++ (47 ∷ string ++ (47 ∷ blanks after)))
closed_after name between after string =
    append_assoc name (blanks between ++ delimited string) (blanks after)
    ∙ ap (λ rest. name ++ rest) (append_assoc (blanks between) (delimited string) (blanks after))
    ∙ ap (λ rest. name ++ (blanks between ++ 47 ∷ rest)) (append_assoc string (47 ∷ []) (blanks after))

module _ (part string : List ℕ) (locate : IsLocate part string) where
  -- the name has as many bytes as `locate`
  pub name_length : length locate.name ≡ 6
  name_length = sym (length-map locate.name to_ascii_lowercase) ∙ ap length locate.names

  -- a LOCATE begins with a letter and ends with a slash
  pub is_bare : IsBare (locate.name ++ operand_of locate)
  is_bare =
      let front = begins_alike locate.name 108 (codes "ocate") locate.names in
      record {
        first = front.0;
        rest = front.1 ++ operand_of locate;
        begins = ap (λ name. name ++ operand_of locate) front.2;
        first_other = letter front.0 108 front.3 (λ blank. omega arith);
        front = locate.name ++ (blanks locate.between ++ (47 ∷ string));
        last = 47;
        ends = sym (append_assoc locate.name (blanks locate.between ++ (47 ∷ string)) (47 ∷ [])
            ∙ ap (λ rest. locate.name ++ rest) (append_assoc (blanks locate.between) (47 ∷ string) (47 ∷ [])));
        last_other = λ blank. omega arith;
      }

-- as many strings as parts
pub length-locates : (parts strings : List (List ℕ)) → AreLocates parts strings → length parts ≡ length strings
length-locates [] [] locates = refl
length-locates [] (s ∷ strings) locates = absurd locates
length-locates (part ∷ parts) [] locates = absurd locates
length-locates (part ∷ parts) (s ∷ strings) locates = ap suc (length-locates parts strings locates.1)
