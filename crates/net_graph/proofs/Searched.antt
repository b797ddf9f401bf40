-- The search finds the least fault.
use Rattle.std.proofs.Common.{◌≡◌, ℕ, suc, ◌+◌, ◌&&◌, ◌||◌, Bool, true, false, not, if◌then◌else◌, List, [], ◌∷◌, ◌++◌, ◌∙◌, length, length-append, take, slice_get, option_and_then, refl, ap, sym, arith, append_assoc, Option, Some, None}
use Rattle.std.specs.declared.result.Result.{Result}
use Rattle.std.specs.List.{list_any, position, prefix_len}
use Rattle.std.proofs.lemmas.Bool.Decides.{nat_tests}
use Rattle.std.proofs.lemmas.List.{append-nil}
use Rattle.std.proofs.lemmas.List.Folds.{list_any-append}
use Rattle.std.proofs.Math.Bool.{or-false}
use Rattle.pipe_model.specs.declared.kind.Kind.{Kind}
use Rattle.stage_syntax.specs.declared.fault.KindFault.{KindFault}
use Rattle.spec_scanner.specs.declared.fault.Fault.{Fault}
use Rattle.spec_scanner.specs.declared.piece.PieceKind.{PieceKind}
use Rattle.spec_scanner.specs.declared.piece.PieceKind.TheVariants.{Stage, Reference, Connector}
use Rattle.spec_scanner.specs.declared.fault.SpecFaultKind.TheVariants.{SecondConsole}
use Rattle.spec_scanner.specs.Faults.{IsLeastSo, fault, least}
use Rattle.spec_scanner.proofs.Leasts.{least_more}
use Rattle.net_graph.specs.declared.search.Search.{Search}
use Rattle.net_graph.specs.Faults.{console_faults, faults_from, faults_of_kind, file_faults, first_faults, is_console, is_same, kind_at, kind_faults, stage_faults, stream_faults}
use Rattle.net_graph.specs.Nets.{AreOutcomes}
use Rattle.net_graph.proofs.Walks.{count_on}
use Rattle.net_graph.specs.Searches.{after, after_all, noted, second_faults}
use Rattle.net_graph.specs.Stands.{Stand, is_label, is_of_stage, is_stage, stage_of, stages_of}

-- noting faults keeps the least
pub least_noted : (found : Option Fault) (before more : List Fault) → IsLeastSo found before → IsLeastSo (noted found more) (before ++ more)
least_noted found before [] least = rw append-nil least
least_noted found before (one ∷ more) first =
    rw (← append_assoc before (one ∷ []) more) (least_noted (Some (least found one)) (before ++ one ∷ []) more (least_more found one before first))

pub noted_both : (found : Option Fault) (faults more : List Fault) → noted found (faults ++ more) ≡ noted (noted found faults) more
noted_both found [] more = refl
noted_both found (one ∷ faults) more = noted_both (Some (least found one)) faults more

abbrev is_console_of : Bool → Stand → Bool
is_console_of first other = is_console other.piece && is_same first other.first

-- what the search keeps of the stages that were passed
pub record Keeps (search : Search) (earlier : List Stand) : Type 0 where
  pub stages : search.stages ≡ length earlier
  pub reads : search.reads ≡ list_any (is_console_of true) earlier
  pub writes : search.writes ≡ list_any (is_console_of false) earlier

one_more : (test : Stand → Bool) (earlier : List Stand) (s : Stand) → list_any test (earlier ++ s ∷ []) ≡ (list_any test earlier || test s)
one_more test earlier s = list_any-append test earlier (s ∷ []) ∙ ap (λ (b : Bool). list_any test earlier || b) (or-false (test s))

prefix_all : (stages : List Stand) → prefix_len (λ (s : Stand). not (is_label None s.piece.label)) stages ≡ length stages
prefix_all [] = refl
prefix_all (s ∷ stages) = let e = prefix_all stages in omega arith

no_label : (stages : List Stand) → position (λ (s : Stand). is_label None s.piece.label) stages ≡ None
no_label stages = let e = prefix_all stages in grind (arith, nat_tests)

-- a table of the stages that the labels define
pub table_is : (stands : List Stand) (table : List ℕ) → ((label : ℕ) → slice_get table label ≡ stage_of stands (Some label)) →
    (label : Option ℕ) → option_and_then (slice_get table) label ≡ stage_of stands label
table_is stands table labelled None = sym (no_label (stages_of stands))
table_is stands table labelled (Some label) = labelled label

module _ (stands : List Stand) (table : List ℕ) (outcomes : List (Result Kind KindFault)) (labelled : (label : ℕ) → slice_get table label ≡ stage_of stands (Some label)) where
  module _ (search : Search) (earlier : List Stand) (keeps : Keeps search earlier) (s : Stand) where
    consoles_are : (if s.first then search.reads else search.writes) ≡ list_any (is_console_of s.first) earlier
    consoles_are = by s.first where
      by : (first : Bool) → (if first then search.reads else search.writes) ≡ list_any (is_console_of first) earlier
      by true = keeps.reads
      by false = keeps.writes

    second_is : second_faults search s ≡ console_faults earlier s
    second_is = ap (λ (b : Bool). if is_console s.piece && b then fault SecondConsole s.piece.name_place ∷ [] else []) consoles_are

    found_is : (kind : PieceKind) → (after table outcomes search s kind).found ≡ noted search.found (faults_of_kind stands outcomes earlier s kind)
    found_is Stage =
        let a = stage_faults (length earlier) s in
        let b = kind_faults s (slice_get outcomes (length earlier)) in
        let c = first_faults s in
        let d = console_faults earlier s in
        let e = file_faults (take (length earlier) outcomes) s (slice_get outcomes (length earlier)) in
        let after_b = noted (noted search.found a) b in
        rw (keeps.stages, second_is) (sym (
        noted_both search.found a (b ++ (c ++ (d ++ e)))
        ∙ noted_both (noted search.found a) b (c ++ (d ++ e))
        ∙ noted_both after_b c (d ++ e)
        ∙ noted_both (noted after_b c) d e
        ))
    found_is Reference = ap (λ stage. noted search.found (stream_faults s (option_and_then (kind_at outcomes) stage))) (table_is stands table labelled s.piece.label)
    found_is Connector = refl

    keeps_is : (kind : PieceKind) → Keeps (after table outcomes search s kind) (if is_of_stage kind then earlier ++ s ∷ [] else earlier)
    keeps_is Stage = record {
      stages = omega (arith, length-append earlier (s ∷ []), keeps.stages);
      reads = rw keeps.reads (sym (one_more (is_console_of true) earlier s));
      writes = rw keeps.writes (sym (one_more (is_console_of false) earlier s));
    }
    keeps_is Reference = record { stages = keeps.stages; reads = keeps.reads; writes = keeps.writes }
    keeps_is Connector = record { stages = keeps.stages; reads = keeps.reads; writes = keeps.writes }

  pub searched_from : (search : Search) (earlier rest : List Stand) → Keeps search earlier →
      (after_all table outcomes search rest).found ≡ noted search.found (faults_from stands outcomes earlier rest)
  searched_from search earlier [] keeps = refl
  searched_from search earlier (s ∷ rest) keeps =
      searched_from (after table outcomes search s s.piece.kind) (if is_stage s then earlier ++ s ∷ [] else earlier) rest (keeps_is search earlier keeps s s.piece.kind)
      ∙ (ap (λ (found : Option Fault). noted found (faults_from stands outcomes (if is_stage s then earlier ++ s ∷ [] else earlier) rest)) (found_is search earlier keeps s s.piece.kind)
      ∙ sym (noted_both search.found (faults_of_kind stands outcomes earlier s s.piece.kind) (faults_from stands outcomes (if is_stage s then earlier ++ s ∷ [] else earlier) rest)))

abbrev pub start : Search
start = record { found = None; stages = 0; reads = false; writes = false }

pub searched : (stands : List Stand) (table : List ℕ) (outcomes : List (Result Kind KindFault)) → ((label : ℕ) → slice_get table label ≡ stage_of stands (Some label)) →
    IsLeastSo (after_all table outcomes start stands).found (faults_from stands outcomes [] stands)
searched stands table outcomes labelled =
    rw (searched_from stands table outcomes labelled start [] stands (record { stages = refl; reads = refl; writes = refl }))
    (least_noted None [] (faults_from stands outcomes [] stands) refl)

-- a walk of two parts
pub after_both : (table : List ℕ) (outcomes : List (Result Kind KindFault)) (search : Search) (stands more : List Stand) →
    after_all table outcomes search (stands ++ more) ≡ after_all table outcomes (after_all table outcomes search stands) more
after_both table outcomes search [] more = refl
after_both table outcomes search (s ∷ stands) more = after_both table outcomes (after table outcomes search s s.piece.kind) stands more

-- the count of stages that were passed
pub counted_after : (table : List ℕ) (outcomes : List (Result Kind KindFault)) (search : Search) (stands more : List Stand) →
    (after_all table outcomes search stands).stages + length (stages_of more) ≡ search.stages + length (stages_of (stands ++ more))
counted_after table outcomes search [] more = refl
counted_after table outcomes search (s ∷ stands) more =
    counted_after table outcomes (after table outcomes search s s.piece.kind) stands more
    ∙ count_on table outcomes search s (stands ++ more) (s ∷ (stands ++ more)) refl

-- each stage has its outcome
pub outcomes_of_all : (stages : List Stand) (outcomes : List (Result Kind KindFault)) → AreOutcomes stages outcomes → length stages ≡ length outcomes
outcomes_of_all [] [] read = refl
outcomes_of_all [] (outcome ∷ outcomes) read = absurd read
outcomes_of_all (s ∷ stages) [] read = absurd read
outcomes_of_all (s ∷ stages) (outcome ∷ outcomes) read = ap suc (outcomes_of_all stages outcomes read.1)
