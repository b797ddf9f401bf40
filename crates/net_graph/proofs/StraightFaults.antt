-- A straight line of few stages has no fault.
use Rattle.std.proofs.Common.{◌≡◌, ℕ, zero, suc, ◌+◌, ◌<◌, Bool, true, false, ◌&&◌, List, [], ◌∷◌, ◌++◌, length, map, take, refl, sym, ap, ◌∙◌, arith, lt-ltb, length-append, Option, None, Ok, slice_get}
use Rattle.std.specs.Prelude.{codes}
use Rattle.std.specs.List.{list_any}
use Rattle.std.specs.Option.{option_and_then}
use Rattle.std.specs.Str.{bytes_eq, str_to_ascii_lowercase}
use Rattle.std.specs.declared.result.Result.{Result}
use Rattle.std.proofs.lemmas.List.Folds.{list_any-append}
use Rattle.std.proofs.lemmas.Slice.Eq.{bytes_eq-Decides}
use Rattle.pipe_model.specs.declared.kind.Kind.{Kind}
use Rattle.stage_syntax.specs.declared.fault.KindFault.{KindFault}
use Rattle.spec_scanner.specs.declared.fault.Fault.{Fault}
use Rattle.spec_scanner.proofs.StraightStages.{AreLater, IsConsoleStage, IsLocateStage}
use Rattle.spec_scanner.proofs.StraightWords.{Spelled, piece_of}
use Rattle.spec_scanner.specs.declared.piece.PieceKind.TheVariants.{Stage}
use Rattle.net_graph.specs.Faults.{console_faults, faults_from, faults_of_kind, file_faults, first_faults, is_console, is_file_reader, is_same, kind_faults, replaced_by, stage_faults}
use Rattle.net_graph.specs.Stands.{Stand, stands_in}
use Rattle.net_graph.proofs.StraightPieces.{pieces_of}

-- stages of known kinds have no fault of their kind
no_kind_fault : (stand : Stand) (kinds : List Kind) (number : ℕ) → kind_faults stand (slice_get (map (λ kind. Ok kind) kinds) number) ≡ []
no_kind_fault stand [] number = refl
no_kind_fault stand (kind ∷ kinds) zero = refl
no_kind_fault stand (kind ∷ kinds) (suc number) = no_kind_fault stand kinds number

-- a stage below the limit has no fault of its number
no_stage_fault : (stand : Stand) (number : ℕ) → number < 1024 → stage_faults number stand ≡ []
no_stage_fault stand number few = rw (lt-ltb number 1024 few) refl

-- a name that is another in small letters is no `<`
unlike_reader : (name small : List ℕ) → str_to_ascii_lowercase name ≡ small → bytes_eq small (codes "<") ≡ false → bytes_eq name (codes "<") ≡ false
unlike_reader name small names other = by (bytes_eq name (codes "<")) refl where
  by : (same : Bool) → bytes_eq name (codes "<") ≡ same → same ≡ false
  by false at = refl
  by true at =
      let is : small ≡ codes "<" = sym names ∙ ap str_to_ascii_lowercase ((bytes_eq-Decides name (codes "<")).0 at) in
      let reader : bytes_eq small (codes "<") ≡ true = ap (λ name. bytes_eq name (codes "<")) is in
      cc

-- a stage that isn't named `<` has no fault of its place
no_first_fault : (stand : Stand) → is_file_reader stand.piece ≡ false → first_faults stand ≡ []
no_first_fault stand other = rw other refl

-- none of these kinds replaces a file
abbrev pub ReplaceNone : List Kind → Type 0
ReplaceNone kinds = (number : ℕ) → option_and_then replaced_by (slice_get (map (λ kind. Ok kind) kinds) number) ≡ None

-- a stage that replaces no file has no fault of it
no_file_fault : (earlier : List (Result Kind KindFault)) (stand : Stand) (outcome : Option (Result Kind KindFault)) → option_and_then replaced_by outcome ≡ None → file_faults earlier stand outcome ≡ []
no_file_fault earlier stand outcome none = rw none refl

-- whether one of these is a CONSOLE that writes
abbrev pub has_writer : List Stand → Bool
has_writer earlier = list_any (λ other. is_console other.piece && is_same false other.first) earlier

-- a LOCATE is no CONSOLE
pub no_console : (stage : Spelled) (string : List ℕ) → IsLocateStage stage string → is_console (piece_of stage) ≡ false
no_console stage string locate = rw locate.names refl

locate_faultless : (stage : Spelled) (string : List ℕ) (first last : Bool) (earlier : List Stand) → IsLocateStage stage string
    → console_faults earlier (record { piece = piece_of stage; first = first; last = last }) ≡ []
locate_faultless stage string first last earlier locate = rw (no_console stage string locate) refl

-- the CONSOLE at the end has no fault where no earlier one writes
last_faultless : (stage : Spelled) (last : Bool) (earlier : List Stand) → IsConsoleStage stage → has_writer earlier ≡ false
    → console_faults earlier (record { piece = piece_of stage; first = false; last = last }) ≡ []
last_faultless stage last earlier console none = rw console.names (rw none refl)

-- after a LOCATE still none writes
still_none : (stage : Spelled) (string : List ℕ) (earlier : List Stand) → IsLocateStage stage string → has_writer earlier ≡ false
    → has_writer (earlier ++ record { piece = piece_of stage; first = false; last = false } ∷ []) ≡ false
still_none stage string earlier locate none =
    list_any-append (λ other. is_console other.piece && is_same false other.first) earlier (record { piece = piece_of stage; first = false; last = false } ∷ [])
    ∙ rw none (rw (no_console stage string locate) refl)

-- a CONSOLE that reads is none that writes
pub first_none : (stage : Spelled) (last : Bool) → IsConsoleStage stage → has_writer (record { piece = piece_of stage; first = true; last = last } ∷ []) ≡ false
first_none stage last console = rw console.names refl

-- the faults of lists that are empty
pub none_of_all : (a b c d e rest : List Fault) → a ≡ [] → b ≡ [] → c ≡ [] → d ≡ [] → e ≡ [] → rest ≡ [] → (a ++ (b ++ (c ++ (d ++ e)))) ++ rest ≡ []
none_of_all a b c d e rest first second third fourth fifth sixth = rw (first, second, third, fourth, fifth, sixth) refl

module _ (stands : List Stand) (kinds : List Kind) (replace_none : ReplaceNone kinds) where
  -- a stage below the limit that is no `<` has no fault where it is no CONSOLE too many
  stage_faultless : (earlier : List Stand) (stand : Stand) (rest : List Fault) → length earlier < 1024 → is_file_reader stand.piece ≡ false → console_faults earlier stand ≡ [] → rest ≡ []
      → faults_of_kind stands (map (λ kind. Ok kind) kinds) earlier stand Stage ++ rest ≡ []
  stage_faultless earlier stand rest few other lone none =
      none_of_all _ _ _ _ _ rest (no_stage_fault stand (length earlier) few) (no_kind_fault stand kinds (length earlier)) (no_first_fault stand other) lone
      (no_file_fault (take (length earlier) (map (λ kind. Ok kind) kinds)) stand _ (replace_none (length earlier))) none

  -- the stages after the first have no fault
  pub later_faultless : (earlier : List Stand) (stages : List Spelled) (strings : List (List ℕ)) → AreLater stages strings
      → has_writer earlier ≡ false → length earlier + length strings < 1024
      → faults_from stands (map (λ kind. Ok kind) kinds) earlier (stands_in false (pieces_of stages)) ≡ []
  later_faultless earlier [] strings later none few = absurd later
  later_faultless earlier (stage ∷ []) [] later none few =
      let stand : Stand = record { piece = piece_of stage; first = false; last = true } in
      stage_faultless earlier stand [] (omega arith) (unlike_reader stage.name (codes "console") later.names refl) (last_faultless stage true earlier later none) refl
  later_faultless earlier (stage ∷ []) (string ∷ strings) later none few = absurd later
  later_faultless earlier (stage ∷ (next ∷ stages)) [] later none few = absurd later
  later_faultless earlier (stage ∷ (next ∷ stages)) (string ∷ strings) later none few =
      let stand : Stand = record { piece = piece_of stage; first = false; last = false } in
      stage_faultless earlier stand _ (omega arith) (unlike_reader stage.name (codes "locate") later.0.names refl) (locate_faultless stage string false false earlier later.0)
      (later_faultless (earlier ++ stand ∷ []) (next ∷ stages) strings later.1 (still_none stage string earlier later.0 none) (omega (arith, length-append earlier (stand ∷ []))))

  -- the first stage has none, so none has
  pub line_faultless : (first : Spelled) (stages : List Spelled) (strings : List (List ℕ)) → IsConsoleStage first → AreLater stages strings → length strings < 1023
      → faults_from stands (map (λ kind. Ok kind) kinds) [] (stands_in true (pieces_of (first ∷ stages))) ≡ []
  line_faultless first [] strings console later few = absurd later
  line_faultless first (stage ∷ stages) strings console later few =
      let stand : Stand = record { piece = piece_of first; first = true; last = false } in
      stage_faultless [] stand _ (omega arith) (unlike_reader first.name (codes "console") console.names refl) (rw console.names refl)
      (later_faultless (stand ∷ []) (stage ∷ stages) strings later (first_none first false console) (omega arith))
