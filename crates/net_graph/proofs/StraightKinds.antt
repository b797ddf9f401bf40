-- The kinds of the stages of a straight line.
use Rattle.std.proofs.Common.{◌≡◌, ℕ, zero, suc, Bool, false, List, [], ◌∷◌, map, slice_get, refl, Some, None, Ok}
use Rattle.std.specs.Prelude.{if◌then◌else◌}
use Rattle.std.specs.Option.{option_and_then}
use Rattle.pipe_model.specs.declared.kind.Kind.{Kind}
use Rattle.pipe_model.specs.declared.kind.Kind.TheVariants.{ConsoleIn, ConsoleOut, Locate}
use Rattle.pipe_model.specs.Straight.{all_columns}
use Rattle.stage_syntax.specs.Kinds.{IsKind}
use Rattle.stage_syntax.specs.DeviceForms.{console}
use Rattle.stage_syntax.specs.Rows.Makes.{Ended, GoesOn}
use Rattle.stage_syntax.specs.SelectionForms.{locate}
use Rattle.argument_parts.specs.declared.part.Value.TheVariants as Read
use Rattle.spec_scanner.proofs.StraightStages.{AreLater, IsConsoleStage, IsLocateStage}
use Rattle.spec_scanner.proofs.StraightWords.{Spelled}
use Rattle.net_graph.specs.Faults.{replaced_by}
use Rattle.net_graph.specs.Nets.{AreOutcomes, sizes_of}
use Rattle.net_graph.specs.Stands.{Stand, stands_in}
use Rattle.net_graph.proofs.StraightPieces.{pieces_of}
use Rattle.net_graph.proofs.WholeStages.{AreWhole}

-- the kinds of the stages after the first
abbrev pub kinds_later : List (List ℕ) → List Kind
kinds_later [] = ConsoleOut ∷ []
kinds_later (string ∷ strings) = Locate all_columns (Some string) ∷ kinds_later strings

-- none of them replaces a file
pub later_replace_none : (strings : List (List ℕ)) (number : ℕ) → option_and_then replaced_by (slice_get (map (λ kind. Ok kind) (kinds_later strings)) number) ≡ None
later_replace_none [] zero = refl
later_replace_none [] (suc number) = refl
later_replace_none (string ∷ strings) zero = refl
later_replace_none (string ∷ strings) (suc number) = later_replace_none strings number

-- a CONSOLE's kind
pub console_is : (stage : Spelled) (first : Bool) → IsConsoleStage stage → IsKind stage.name stage.arg first (if first then ConsoleIn [] else ConsoleOut)
console_is stage first is = record {
  arguments = console first;
  named = rw is.names refl;
  reads = Ended [] [] stage.arg.bytes _ is.ended refl;
}

-- a LOCATE's kind
pub locate_is : (stage : Spelled) (string : List ℕ) (first : Bool) → IsLocateStage stage string → IsKind stage.name stage.arg first (Locate all_columns (Some string))
locate_is stage string first is = record {
  arguments = locate;
  named = rw is.names refl;
  reads = GoesOn [] [] stage.arg.bytes (Read.String string) is.left _ is.next refl (Ended (Read.String string ∷ []) _ is.left _ is.ended refl);
}

-- the stages after the first are of these kinds
pub later_are : (stages : List Spelled) (strings : List (List ℕ)) → AreLater stages strings → AreOutcomes (stands_in false (pieces_of stages)) (map (λ kind. Ok kind) (kinds_later strings))
later_are [] strings later = absurd later
later_are (stage ∷ []) [] later = (console_is stage false later, tt)
later_are (stage ∷ []) (string ∷ strings) later = absurd later
later_are (stage ∷ (next ∷ stages)) [] later = absurd later
later_are (stage ∷ (next ∷ stages)) (string ∷ strings) later = (locate_is stage string false later.0, later_are (next ∷ stages) strings later.1)

-- each of them has one strand
none_whole : (stands stages : List Stand) → AreWhole (sizes_of stands stages [])
none_whole stands [] = tt
none_whole stands (stage ∷ stages) = tt

pub later_whole : (stands stages : List Stand) (strings : List (List ℕ)) → AreWhole (sizes_of stands stages (kinds_later strings))
later_whole stands [] strings = tt
later_whole stands (stage ∷ stages) [] = (refl, none_whole stands stages)
later_whole stands (stage ∷ stages) (string ∷ strings) = (refl, later_whole stands stages strings)
