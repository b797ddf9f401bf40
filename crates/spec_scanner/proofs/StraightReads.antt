-- What the text of a straight line reads as.
use Rattle.std.proofs.Common.{◌≡◌, ◌≢◌, ℕ, suc, ◌+◌, ◌<◌, ◌≤◌, false, List, [], ◌∷◌, ◌++◌, length, map, drop, codes, refl, sym, ap, ap₂, inl, ◌∙◌, arith, subst, append_assoc, get_or, ne_eqb, length-append}
use Rattle.std.specs.Char.{to_ascii_lowercase}
use Rattle.std.specs.List.{list_all}
use Rattle.std.proofs.lemmas.List.{drop_at, length-map, length-replicate}
use Rattle.spec_scanner.specs.declared.item.Item.{Item}
use Rattle.spec_scanner.specs.declared.piece.Piece.{Piece}
use Rattle.spec_scanner.specs.Blanks.{blanks}
use Rattle.spec_scanner.specs.Body.{IsBody}
use Rattle.spec_scanner.specs.Labels.{Found, Read, found, read_stage, read_stages}
use Rattle.spec_scanner.specs.Options.{no_signs}
use Rattle.spec_scanner.specs.Reads.{Reads, body_faults, read_items}
use Rattle.spec_scanner.specs.Straight.{AreLocates, IsConsole, IsLocate, IsStraight}
use Rattle.spec_scanner.specs.Stretches.{Stretch, is_plain_blank, trimmed}
use Rattle.spec_scanner.proofs.StraightParts.{name_length}
use Rattle.spec_scanner.proofs.StraightCuts.{closes, cut_parts, stretch, stretches_from, whole_parts}
use Rattle.spec_scanner.proofs.StraightItems.{AreBarless, AreFilled, Free, barred, barred_from, body_parts, parted, plain_from}
use Rattle.spec_scanner.proofs.StraightStages.{AreLater, IsConsoleStage, console_stage, free_console, later_more, locate_stage}
use Rattle.spec_scanner.proofs.StraightWords.{Spelled, free_alike, piece_of}

-- the text reads as a CONSOLE, LOCATEs of these strings and a CONSOLE
pub record ReadsStraight (text : List ℕ) (strings : List (List ℕ)) : Type 0 where
  pub first : Spelled
  pub stages : List Spelled
  pub console : IsConsoleStage first
  pub later : AreLater stages strings
  pub reads : Reads text (map piece_of (first ∷ stages) ∷ [])

-- one stage more at the front
stages_more : (first : Stretch) (stretches : List Stretch) (piece : Piece) (pieces : List Piece) → read_stage [] first.closed (trimmed first.inside) ≡ found (piece ∷ []) [] []
    → read_stages [] stretches ≡ found pieces [] [] → read_stages [] (first ∷ stretches) ≡ found (piece ∷ pieces) [] []
stages_more first stretches piece pieces one rest = rw one (rw rest refl)

-- the stages after the first are read
later_read : (end at : ℕ) (middle : List (List ℕ)) (last : List ℕ) (strings : List (List ℕ)) → AreLocates middle strings → IsConsole last
    → (stages : List Spelled) × AreLater stages strings × (read_stages [] (stretches_from end at (middle ++ last ∷ [])) ≡ found (map piece_of stages) [] [])
later_read end at [] last [] locates ends =
    let read = console_stage (suc at) end last ends in
    (read.0 ∷ [], read.1, stages_more (stretch (plain_from (suc at) last) end) [] (piece_of read.0) [] read.2 refl)
later_read end at [] last (string ∷ strings) locates ends = absurd locates
later_read end at (part ∷ middle) last [] locates ends = absurd locates
later_read end at (part ∷ middle) last (string ∷ strings) locates ends =
    let place = suc at + length part in
    let closed = closes end place (middle ++ last ∷ []) in
    let read = locate_stage (suc at) closed part string locates.0 in
    let rest = later_read end place middle last strings locates.1 ends in (
      read.0 ∷ rest.0,
      later_more read.0 rest.0 string strings read.1 rest.1,
      stages_more (stretch (plain_from (suc at) part) closed) (stretches_from end place (middle ++ last ∷ [])) (piece_of read.0) (map piece_of rest.0) read.2 rest.2,
    )

-- no part is empty
console_filled : (part : List ℕ) → IsConsole part → 0 < length part
console_filled part console =
    let named : length console.name ≡ 7 = sym (length-map console.name to_ascii_lowercase) ∙ ap length console.names in
    omega (arith, ap length console.spells, length-append (blanks console.before) (console.name ++ blanks console.after), length-append console.name (blanks console.after), named)

locate_filled : (part string : List ℕ) → IsLocate part string → 0 < length part
locate_filled part string locate =
    let rest = blanks locate.between ++ (47 ∷ string ++ (47 ∷ blanks locate.after)) in
    omega (arith, ap length locate.spells, length-append (blanks locate.before) (locate.name ++ rest), length-append locate.name rest, name_length part string locate)

all_filled : (middle : List (List ℕ)) (last : List ℕ) (strings : List (List ℕ)) → AreLocates middle strings → IsConsole last → AreFilled (middle ++ last ∷ [])
all_filled [] last strings locates ends = (console_filled last ends, tt)
all_filled (part ∷ middle) last [] locates ends = absurd locates
all_filled (part ∷ middle) last (string ∷ strings) locates ends = (locate_filled part string locates.0, all_filled middle last strings locates.1 ends)

-- what isn't in a text isn't in its end
free_end : (byte : ℕ) (bytes more : List ℕ) → Free byte (bytes ++ more) → Free byte more
free_end byte [] more free = free
free_end byte (b ∷ bytes) more free = free_end byte bytes more free.1

-- a name begins a text
begins_other : (byte : ℕ) (name a b : List ℕ) → 0 < length name → Free byte name → get_or ((name ++ a) ++ b) 0 0 ≢ byte
begins_other byte [] a b some free = absurd (omega arith)
begins_other byte (letter ∷ letters) a b some free = free.0

not_ignored : (at : ℕ) (name more : List ℕ) (items : List Item) → 0 < length name → Free 32 name → list_all is_plain_blank (plain_from at (name ++ more) ++ items) ≡ false
not_ignored at [] more items some free = absurd (omega arith)
not_ignored at (letter ∷ letters) more items some free = rw (ne_eqb letter 32 free.0) refl

-- one pipeline of stages is read
pipeline_read : (end at : ℕ) (part : List ℕ) (parts : List (List ℕ)) (pieces : List Piece)
    → list_all is_plain_blank (plain_from at part ++ barred_from (at + length part) parts) ≡ false
    → read_stages [] (stretch (plain_from at part) (closes end (at + length part) parts) ∷ stretches_from end (at + length part) parts) ≡ found pieces [] []
    → read_items (plain_from at part ++ barred_from (at + length part) parts) end ≡ record { pipelines = pieces ∷ []; labels = []; faults = [] }
pipeline_read end at part parts pieces shown read =
    let stages = ap (read_stages []) (cut_parts end at part parts) ∙ read in
    rw (whole_parts end at part parts) (rw shown (ap one_pipeline stages)) where
      one_pipeline : Found → Read
      one_pipeline first = record { pipelines = first.pieces ∷ []; labels = first.labels; faults = first.faults ++ [] }

no_faults : (items : List Item) (size : ℕ) (piece : Piece) (pieces : List Piece) → read_items items size ≡ record { pipelines = (piece ∷ pieces) ∷ []; labels = []; faults = [] } → body_faults items [] size ≡ []
no_faults items size piece pieces read = rw read refl

-- a first part, with blanks before it, and others read as a straight line
parts_read : (text first : List ℕ) (middle : List (List ℕ)) (last : List ℕ) (strings : List (List ℕ)) → length text ≤ 65536 → text ≡ first ++ barred (middle ++ last ∷ [])
    → AreBarless (first ∷ (middle ++ last ∷ [])) → IsConsole first → AreLocates middle strings → IsConsole last → ReadsStraight text strings
parts_read text first middle last strings short text_is barless begins locates ends =
    let at = begins.before in
    let part = begins.name ++ blanks begins.after in
    let parts = middle ++ last ∷ [] in
    let end = length text in
    let place = at + length part in
    let items = plain_from at part ++ barred_from place parts in
    let named : length begins.name ≡ 7 = sym (length-map begins.name to_ascii_lowercase) ∙ ap length begins.names in
    let some : 0 < length begins.name = omega (arith, named) in
    let read = console_stage at (closes end place parts) part (record { before = 0; name = begins.name; after = begins.after; names = begins.names; spells = refl }) in
    let rest = later_read end place middle last strings locates ends in
    let pieces = piece_of read.0 ∷ map piece_of rest.0 in
    let spelled : text ≡ blanks at ++ (part ++ barred parts) =
    text_is ∙ ap (λ first. first ++ barred parts) begins.spells ∙ append_assoc (blanks at) part (barred parts) in
    let dropped : drop at text ≡ part ++ barred parts = ap (drop at) spelled ∙ drop_at (blanks at) (part ++ barred parts) at (length-replicate at 32) in
    let is_read : read_items items end ≡ record { pipelines = pieces ∷ []; labels = []; faults = [] } =
    pipeline_read end at part parts pieces
    (not_ignored at begins.name (blanks begins.after) (barred_from place parts) some (free_alike 32 begins.name (codes "console") refl begins.names (free_console 32 (omega arith))))
    (stages_more (stretch (plain_from at part) (closes end place parts)) (stretches_from end place parts) (piece_of read.0) (map piece_of rest.0) read.2 rest.2) in
    record {
      first = read.0;
      stages = rest.0;
      console = read.1;
      later = rest.1;
      reads = record {
        short = short;
        items = items;
        tail = [];
        has_body = record {
          outset = record { signs = no_signs; start = at; faults = [] };
          begins = inl (record {
            body = part ++ barred parts;
            unblanked = record { blanks = at; spells = spelled; other = begins_other 32 begins.name (blanks begins.after) (barred parts) some (free_alike 32 begins.name (codes "console") refl begins.names (free_console 32 (omega arith))) };
            other = begins_other 40 begins.name (blanks begins.after) (barred parts) some (free_alike 40 begins.name (codes "console") refl begins.names (free_console 40 (omega arith)));
            outset_is = refl;
          });
          good = refl;
          body = subst (λ body. IsBody no_signs at body items []) (sym dropped)
              (body_parts at part parts (free_end 124 (blanks at) part (subst (Free 124) begins.spells barless.0)) barless.1 (all_filled middle last strings locates ends));
        };
        good = no_faults items end (piece_of read.0) (map piece_of rest.0) is_read;
        pipelines_are = sym (ap (λ (read : Read). read.pipelines) is_read);
      };
    }

-- a straight line reads as one
pub line_read : (text : List ℕ) (strings : List (List ℕ)) → IsStraight text strings → ReadsStraight text strings
line_read text strings line =
    let split = parted text in
    let both : split.first ∷ split.rest ≡ line.first ∷ (line.middle ++ line.last ∷ []) = sym split.cut ∙ line.cut in
    let first_is : split.first ≡ line.first = cc in
    let rest_is : split.rest ≡ line.middle ++ line.last ∷ [] = cc in
    parts_read text line.first line.middle line.last strings line.short
    (split.joined ∙ ap₂ (λ first rest. first ++ barred rest) first_is rest_is)
    (subst AreBarless both split.barless) line.begins line.locates line.ends
