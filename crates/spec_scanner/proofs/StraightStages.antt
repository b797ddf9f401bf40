-- The stages of a straight line: what is read of a CONSOLE and of a LOCATE.
use Rattle.std.proofs.Common.{◌≡◌, ℕ, zero, suc, ◌+◌, ◌<◌, List, [], ◌∷◌, ◌++◌, length, codes, refl, sym, ap, ◌∙◌, arith, subst, append-nil, get_or, Contains}
use Rattle.std.specs.Str.{str_to_ascii_lowercase}
use Rattle.argument_parts.specs.Parts.{IsAtEnd, IsNext}
use Rattle.stage_syntax.specs.SelectionForms.{before_locate}
use Rattle.argument_parts.proofs.DelimitedParts.{delimited_comes}
use Rattle.argument_parts.specs.declared.part.Value.TheVariants as Read
use Rattle.spec_scanner.specs.Blanks.{blanks}
use Rattle.spec_scanner.specs.Labels.{found, read_stage}
use Rattle.spec_scanner.specs.Stretches.{trimmed}
use Rattle.spec_scanner.specs.Straight.{IsConsole, IsLocate}
use Rattle.spec_scanner.proofs.StraightParts.{IsBare, closed_after, delimited, is_bare, name_is_bare}
use Rattle.spec_scanner.proofs.StraightItems.{Free, plain_from}
use Rattle.spec_scanner.proofs.StraightTrims.{trimmed_between}
use Rattle.spec_scanner.proofs.StraightWords.{Spelled, argument_is, free_alike, name_is, piece_of, spelled_of, stage_read}

-- a CONSOLE has no argument
pub record IsConsoleStage (stage : Spelled) : Type 0 where
  pub names : str_to_ascii_lowercase stage.name ≡ codes "console"
  pub ended : IsAtEnd stage.arg.bytes

-- a LOCATE has a string and nothing else
pub record IsLocateStage (stage : Spelled) (string : List ℕ) : Type 0 where
  pub names : str_to_ascii_lowercase stage.name ≡ codes "locate"
  pub left : List ℕ
  pub next : IsNext (before_locate []) stage.arg.bytes (Read.String string) left
  pub ended : IsAtEnd left

-- the stages after the first: LOCATEs of these strings, and a CONSOLE
abbrev pub AreLater : List Spelled → List (List ℕ) → Type 0
AreLater [] strings = ⊥
AreLater (stage ∷ []) [] = IsConsoleStage stage
AreLater (stage ∷ []) (string ∷ strings) = ⊥
AreLater (stage ∷ (next ∷ stages)) [] = ⊥
AreLater (stage ∷ (next ∷ stages)) (string ∷ strings) = IsLocateStage stage string × AreLater (next ∷ stages) strings

-- one LOCATE more at the front
pub later_more : (stage : Spelled) (stages : List Spelled) (string : List ℕ) (strings : List (List ℕ)) → IsLocateStage stage string → AreLater stages strings → AreLater (stage ∷ stages) (string ∷ strings)
later_more stage [] string strings locate later = absurd later
later_more stage (next ∷ stages) string strings locate later = (locate, later)

-- the items are read as the stage alone
abbrev pub IsStageOf : ℕ → ℕ → List ℕ → Spelled → Type 0
IsStageOf at closed part stage = read_stage [] closed (trimmed (plain_from at part)) ≡ found (piece_of stage ∷ []) [] []

-- no byte before the letters is in a name
pub free_console : (byte : ℕ) → byte < 97 → Free byte (codes "console")
free_console byte below = (λ same. omega arith, (λ same. omega arith, (λ same. omega arith, (λ same. omega arith, (λ same. omega arith, (λ same. omega arith, (λ same. omega arith, tt)))))))

free_locate : (byte : ℕ) → byte < 97 → Free byte (codes "locate")
free_locate byte below = (λ same. omega arith, (λ same. omega arith, (λ same. omega arith, (λ same. omega arith, (λ same. omega arith, (λ same. omega arith, tt))))))

nothing_left : IsAtEnd []
nothing_left = record { blanks = 0; spells = refl; other = λ same. omega arith }

-- a name between blanks
console_named : (at closed before after : ℕ) (name : List ℕ) → str_to_ascii_lowercase name ≡ codes "console"
    → (stage : Spelled) × IsConsoleStage stage × IsStageOf at closed (blanks before ++ (name ++ blanks after)) stage
console_named at closed before after [] names = absurd (omega (arith, ap length names))
console_named at closed before after (letter ∷ letters) names =
    let place = at + before in
    let blankless = free_alike 32 (letter ∷ letters) (codes "console") refl names (free_console 32 (omega arith)) in
    let colonless = free_alike 58 (letter ∷ letters) (codes "console") refl names (free_console 58 (omega arith)) in
    let starless = free_alike 42 (letter ∷ letters) (codes "console") refl names (free_console 42 (omega arith)) in (
      spelled_of (plain_from place (letter ∷ letters ++ [])),
      record {
        names = ap str_to_ascii_lowercase (name_is place letter letters [] blankless colonless starless refl) ∙ names;
        ended = subst IsAtEnd (sym (argument_is place letter letters [] blankless colonless starless refl)) nothing_left;
      },
      ap (read_stage [] closed) (trimmed_between at before after (letter ∷ letters) (name_is_bare (letter ∷ letters) names) ∙ ap (plain_from place) (sym (append-nil (letter ∷ letters))))
          ∙ stage_read place letter letters [] blankless colonless starless refl closed,
    )

-- a CONSOLE is read as one
pub console_stage : (at closed : ℕ) (part : List ℕ) → IsConsole part → (stage : Spelled) × IsConsoleStage stage × IsStageOf at closed part stage
console_stage at closed part console =
    let read = console_named at closed console.before console.after console.name console.names in
    (read.0, read.1, subst (λ part. IsStageOf at closed part read.0) (sym console.spells) read.2)

-- a blank stands at the front of blanks
stops_there : (count : ℕ) (bytes : List ℕ) → 0 < count → get_or (blanks count ++ bytes) 0 32 ≡ 32
stops_there zero bytes some = absurd (omega arith)
stops_there (suc count) bytes some = refl

-- a string between slashes comes next, and nothing after it
string_next : (between : ℕ) (string : List ℕ) → 0 < length string → ¬ Contains string 47
    → IsNext (before_locate []) (blanks between ++ delimited string) (Read.String string) []
string_next between string filled whole = record {
  front = delimited string;
  unblanked = record { blanks = between; spells = refl; other = λ same. omega arith };
  some = omega arith;
  part = delimited_comes (delimited string) string [] filled (record { delimiter = 47; chosen = refl; whole = whole; spells = refl });
}

module _ (at closed : ℕ) (part string : List ℕ) (locate : IsLocate part string) where
  locate_named : (name : List ℕ) → locate.name ≡ name → (stage : Spelled) × IsLocateStage stage string × IsStageOf at closed part stage
  locate_named [] is = absurd (omega (arith, ap (λ name. length (str_to_ascii_lowercase name)) is, ap length locate.names))
  locate_named (letter ∷ letters) is =
      let place = at + locate.before in
      let operand = blanks locate.between ++ delimited string in
      let names : str_to_ascii_lowercase (letter ∷ letters) ≡ codes "locate" = ap str_to_ascii_lowercase (sym is) ∙ locate.names in
      let blankless = free_alike 32 (letter ∷ letters) (codes "locate") refl names (free_locate 32 (omega arith)) in
      let colonless = free_alike 58 (letter ∷ letters) (codes "locate") refl names (free_locate 58 (omega arith)) in
      let starless = free_alike 42 (letter ∷ letters) (codes "locate") refl names (free_locate 42 (omega arith)) in
      let stops = stops_there locate.between (delimited string) locate.apart in
      let bare : IsBare (letter ∷ letters ++ operand) = subst (λ name. IsBare (name ++ operand)) is (is_bare part string locate) in
      let spelled : part ≡ blanks locate.before ++ ((letter ∷ letters ++ operand) ++ blanks locate.after) =
      locate.spells
      ∙ ap (λ rest. blanks locate.before ++ rest) (sym (closed_after locate.name locate.between locate.after string))
      ∙ ap (λ name. blanks locate.before ++ ((name ++ operand) ++ blanks locate.after)) is in (
        spelled_of (plain_from place (letter ∷ letters ++ operand)),
        record {
          names = ap str_to_ascii_lowercase (name_is place letter letters operand blankless colonless starless stops) ∙ names;
          left = [];
          next = subst (λ bytes. IsNext (before_locate []) bytes (Read.String string) []) (sym (argument_is place letter letters operand blankless colonless starless stops))
              (string_next locate.between string locate.filled locate.whole);
          ended = nothing_left;
        },
        ap (λ part. read_stage [] closed (trimmed (plain_from at part))) spelled
            ∙ ap (read_stage [] closed) (trimmed_between at locate.before locate.after (letter ∷ letters ++ operand) bare)
            ∙ stage_read place letter letters operand blankless colonless starless stops closed,
      )

  -- a LOCATE is read as one
  pub locate_stage : (stage : Spelled) × IsLocateStage stage string × IsStageOf at closed part stage
  locate_stage = locate_named locate.name refl
