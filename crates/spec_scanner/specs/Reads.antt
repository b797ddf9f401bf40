-- What a text reads as, and its faults.
use Rattle.std.specs.Prelude.{◌≡◌, ℕ, ◌-◌, ◌<◌, ◌≤◌, List, [], ◌∷◌, ◌++◌, length, drop, ◌⊎◌}
use Rattle.spec_scanner.specs.declared.fault.Fault.{Fault}
use Rattle.spec_scanner.specs.declared.fault.SpecFault.{SpecFault}
use Rattle.spec_scanner.specs.declared.fault.SpecFault.TheVariants.{Refused, NoMemory}
use Rattle.spec_scanner.specs.declared.item.Item.{Item}
use Rattle.spec_scanner.specs.declared.piece.Piece.{Piece}
use Rattle.spec_scanner.specs.Body.{IsBody}
use Rattle.spec_scanner.specs.declared.fault.SpecFaultKind.TheVariants.{NoPiece, LoneEscape, TooLong}
use Rattle.spec_scanner.specs.Faults.{IsLeast, fault}
use Rattle.spec_scanner.specs.Labels.{Read, read_pipelines}
use Rattle.spec_scanner.specs.Options.{BeginsAs, Outset}
use Rattle.spec_scanner.specs.Stretches.{cut, is_end}

-- the longest text, in bytes
abbrev pub longest : ℕ
longest = 65536

-- the items of a text of so many bytes, cut and read
abbrev pub read_items : List Item → ℕ → Read
read_items items size = read_pipelines [] (cut is_end items size)

-- no piece at all is a fault at the end of the text
abbrev pub no_piece : List (List Piece) → ℕ → List Fault
no_piece [] size = fault NoPiece size ∷ []
no_piece ([] ∷ pipelines) size = no_piece pipelines size
no_piece ((piece ∷ pieces) ∷ pipelines) size = []

-- an escape character with nothing after it is a fault at its place
abbrev pub no_escaped : List ℕ → ℕ → List Fault
no_escaped [] size = []
no_escaped (byte ∷ bytes) size = fault LoneEscape (size - 1) ∷ []

-- the faults of a body of these items and this tail
abbrev pub body_faults : List Item → List ℕ → ℕ → List Fault
body_faults items tail size = (read_items items size).faults ++ (no_escaped tail size ++ no_piece (read_items items size).pipelines size)

-- the text is options without a fault, and a body of these items and this tail
pub record HasBody (text : List ℕ) (items : List Item) (tail : List ℕ) : Type 0 where
  pub outset : Outset
  pub begins : BeginsAs text outset
  pub good : outset.faults ≡ []
  pub body : IsBody outset.signs outset.start (drop outset.start text) items tail

-- the text reads as these pipelines of pieces
pub record Reads (text : List ℕ) (pipelines : List (List Piece)) : Type 0 where
  pub short : length text ≤ longest
  pub items : List Item
  pub tail : List ℕ
  pub has_body : HasBody text items tail
  pub good : body_faults items tail (length text) ≡ []
  pub pipelines_are : pipelines ≡ (read_items items (length text)).pipelines

-- the text has options with these faults
pub record HasBadOptions (text : List ℕ) (faults : List Fault) : Type 0 where
  pub outset : Outset
  pub begins : BeginsAs text outset
  pub some : 0 < length faults
  pub faults_are : faults ≡ outset.faults

-- the text has good options, and a body with these faults
pub record HasBodyFaults (text : List ℕ) (faults : List Fault) : Type 0 where
  pub items : List Item
  pub tail : List ℕ
  pub has_body : HasBody text items tail
  pub faults_are : faults ≡ body_faults items tail (length text)

-- the faults of a text: too many bytes before all others, and those of the options before those of the body, which stand further right
abbrev pub AreFaults : List ℕ → List Fault → Type 0
AreFaults text faults =
    ((longest < length text) × (faults ≡ fault TooLong longest ∷ []))
    ⊎ ((length text ≤ longest) × (HasBadOptions text faults ⊎ HasBodyFaults text faults))

-- this is the least fault of a text
pub record IsRefused (text : List ℕ) (least : Fault) : Type 0 where
  pub faults : List Fault
  pub faults_are : AreFaults text faults
  pub least_is : IsLeast least faults

-- the text isn't too long, and its options have no fault
pub record HasGoodOptions (text : List ℕ) : Type 0 where
  pub short : length text ≤ longest
  pub outset : Outset
  pub begins : BeginsAs text outset
  pub good : outset.faults ≡ []

-- the text is refused for this reason; want of memory comes only where it isn't too long and has options without a fault
abbrev pub Refuses : List ℕ → SpecFault → Type 0
Refuses text (Refused number place) = IsRefused text (record { number = number; argument = 0; place = place })
Refuses text NoMemory = HasGoodOptions text
