-- The faults of arguments of pieces that are spread stand one after another.
use Rattle.std.proofs.Common.{◌≡◌, ◌≢◌, ◌⊎◌, inl, inr, ℕ, suc, ◌-◌, ◌≤◌, nat_lt, Bool, true, false, if◌then◌else◌, List, [], ◌∷◌, ◌++◌, length, map, take, get_or, slice_get, refl, sym, ap, ◌∙◌, subst, arith, append_assoc, length-append, Option, Some, None, Ok, Err}
use Rattle.std.specs.Option.{option_and_then}
use Rattle.std.specs.declared.result.Result.{Result}
use Rattle.pipe_model.specs.declared.kind.Kind.{Kind}
use Rattle.stage_syntax.specs.declared.fault.KindFault.{KindFault}
use Rattle.stage_syntax.specs.declared.fault.KindFault.TheVariants.{Unknown, Argument, NoMemory}
use Rattle.spec_scanner.specs.declared.fault.SpecFaultKind.{SpecFaultKind}
use Rattle.spec_scanner.specs.declared.fault.SpecFaultKind.TheVariants.{BadArguments, NoSuchStream, NotFirst, SecondConsole, SecondFile, TooManyStages}
use Rattle.spec_scanner.specs.Faults.{fault, number_of}
use Rattle.spec_scanner.specs.declared.fault.Fault.{Fault}
use Rattle.spec_scanner.specs.declared.piece.PieceKind.{PieceKind}
use Rattle.spec_scanner.specs.declared.piece.PieceKind.TheVariants.{Stage, Reference, Connector}
use Rattle.net_graph.specs.Faults.{console_faults, faults_from, faults_of_kind, file_faults, first_faults, kind_at, kind_faults, stage_faults, stream_faults}
use Rattle.net_graph.specs.Nets.{AreOutcomes, IsOutcome}
use Rattle.net_graph.specs.Stands.{Stand, is_of_stage, stage_of, stages_of}
use Rattle.net_graph.proofs.PieceSpreads.{IsPlaced, Spread}

-- the fault isn't of an argument
pub record IsPlain (found : Fault) : Type 0 where
  pub no_argument : found.argument ≡ 0
  pub other : found.number ≢ number_of BadArguments

-- the faults of arguments stand from a place on, each before the next, all below an end
abbrev pub Ranked : ℕ → List Fault → ℕ → Type 0
Ranked at [] end = at ≤ end
Ranked at (found ∷ faults) end =
    (IsPlain found × Ranked at faults end) ⊎ ((found.number ≡ number_of BadArguments) × (at ≤ found.place) × Ranked (suc found.place) faults end)

ranked_lower : (lower at : ℕ) (faults : List Fault) (end : ℕ) → lower ≤ at → Ranked at faults end → Ranked lower faults end
ranked_lower lower at [] end below are = omega (arith, are)
ranked_lower lower at (found ∷ faults) end below (inl are) = inl (are.0, ranked_lower lower at faults end below are.1)
ranked_lower lower at (found ∷ faults) end below (inr are) = inr (are.0, omega (arith, are.1), are.2)

ranked_joined : (at : ℕ) (faults : List Fault) (middle : ℕ) (others : List Fault) (end : ℕ) → Ranked at faults middle → Ranked middle others end → Ranked at (faults ++ others) end
ranked_joined at [] middle others end are later = ranked_lower at middle others end are later
ranked_joined at (found ∷ faults) middle others end (inl are) later = inl (are.0, ranked_joined at faults middle others end are.1 later)
ranked_joined at (found ∷ faults) middle others end (inr are) later = inr (are.0, are.1, ranked_joined (suc found.place) faults middle others end are.2 later)

-- a fault that isn't of an argument, or none, under a test
plain_ranked : (at end : ℕ) (kind : SpecFaultKind) (place : ℕ) → at ≤ end → number_of kind ≢ number_of BadArguments → (test : Bool) → Ranked at (if test then fault kind place ∷ [] else []) end
plain_ranked at end kind place within other true = inl (record { no_argument = refl; other = other }, within)
plain_ranked at end kind place within other false = within

stage_ranked : (at end number : ℕ) (stand : Stand) → at ≤ end → Ranked at (stage_faults number stand) end
stage_ranked at end number stand within = by (nat_lt number 1024) where
  by : (few : Bool) → Ranked at (if few then [] else fault TooManyStages stand.piece.place ∷ []) end
  by true = within
  by false = inl (record { no_argument = refl; other = λ same. absurd (omega arith) }, within)

console_ranked : (at end : ℕ) (earlier : List Stand) (stand : Stand) → at ≤ end → Ranked at (console_faults earlier stand) end
console_ranked at end earlier stand within = plain_ranked at end SecondConsole stand.piece.name_place within (λ same. absurd (omega arith)) _

first_ranked : (at end : ℕ) (stand : Stand) → at ≤ end → Ranked at (first_faults stand) end
first_ranked at end stand within = plain_ranked at end NotFirst stand.piece.name_place within (λ same. absurd (omega arith)) _

file_ranked : (at end : ℕ) (earlier : List (Result Kind KindFault)) (stand : Stand) (outcome : Option (Result Kind KindFault)) → at ≤ end → Ranked at (file_faults earlier stand outcome) end
file_ranked at end earlier stand outcome within = plain_ranked at end SecondFile stand.piece.name_place within (λ same. absurd (omega arith)) _

stream_ranked : (at end : ℕ) (stand : Stand) (kind : Option Kind) → at ≤ end → Ranked at (stream_faults stand kind) end
stream_ranked at end stand kind within = plain_ranked at end NoSuchStream stand.piece.place within (λ same. absurd (omega arith)) _

-- the outcome of a stage, if there is one
abbrev IsOutcomeAt : Stand → Option (Result Kind KindFault) → Type 0
IsOutcomeAt stand None = Unit {0}
IsOutcomeAt stand (Some outcome) = IsOutcome stand outcome

-- the fault of an argument stands among the argument's places
kind_ranked : (at last : ℕ) (stand : Stand) (outcome : Option (Result Kind KindFault)) → at ≤ last → IsPlaced at last stand.piece.arg → IsOutcomeAt stand outcome
    → Ranked at (kind_faults stand outcome) (suc last)
kind_ranked at last stand (Some (Err Unknown)) within placed is = inl (record { no_argument = refl; other = λ same. absurd (omega arith) }, omega arith)
kind_ranked at last stand (Some (Err (Argument misfit))) within placed is =
    let arg = stand.piece.arg in
    let there = placed (length arg.bytes - is.1.inside.left) in
    let place : misfit.place ≡ get_or arg.places (length arg.bytes - is.1.inside.left) arg.end = ap (λ f. f.place) is.1.fault_is in
    inr (refl, omega (arith, place, there.0), omega (arith, place, there.1))
kind_ranked at last stand (Some (Err NoMemory)) within placed is = omega arith
kind_ranked at last stand (Some (Ok kind)) within placed is = omega arith
kind_ranked at last stand None within placed is = omega arith

-- what stands after a list
past : (passed : List (Result Kind KindFault)) (outcome : Result Kind KindFault) (left : List (Result Kind KindFault)) → slice_get (passed ++ outcome ∷ left) (length passed) ≡ Some outcome
past [] outcome left = refl
past (one ∷ passed) outcome left = past passed outcome left

module _ (whole : List Stand) (outcomes : List (Result Kind KindFault)) where
  -- the outcomes of the stages that are left stand after those that were passed
  pub record AreLeft (earlier stands : List Stand) : Type 0 where
    pub passed : List (Result Kind KindFault)
    pub left : List (Result Kind KindFault)
    pub all : outcomes ≡ passed ++ left
    pub size : length passed ≡ length earlier
    pub are : AreOutcomes stands left

  -- the outcome of the next stage, and what is left after it
  record IsNext (earlier : List Stand) (stand : Stand) (stages : List Stand) : Type 0 where
    here : IsOutcomeAt stand (slice_get outcomes (length earlier))
    later : AreLeft (earlier ++ stand ∷ []) stages

  next_left : (earlier : List Stand) (stand : Stand) (stages : List Stand) → AreLeft earlier (stand ∷ stages) → IsNext earlier stand stages
  next_left earlier stand stages left = by left.left left.all left.are where
    by : (rest : List (Result Kind KindFault)) → outcomes ≡ left.passed ++ rest → AreOutcomes (stand ∷ stages) rest → IsNext earlier stand stages
    by [] all are = absurd are
    by (outcome ∷ rest) all are = record {
      here = subst (IsOutcomeAt stand) (sym (ap (λ (list : List (Result Kind KindFault)). slice_get list (length earlier)) all ∙ ap (slice_get (left.passed ++ outcome ∷ rest)) (sym left.size) ∙ past left.passed outcome rest)) are.0;
      later = record {
        passed = left.passed ++ outcome ∷ [];
        left = rest;
        all = all ∙ sym (append_assoc left.passed (outcome ∷ []) rest);
        size = let size = left.size in omega (arith, length-append left.passed (outcome ∷ []), length-append earlier (stand ∷ []));
        are = are.1;
      };
    }

  stand_ranked : (at last end : ℕ) (earlier : List Stand) (stand : Stand) (stands : List Stand) (kind : PieceKind)
      → at ≤ last → IsPlaced at last stand.piece.arg
      → ((earlier : List Stand) → AreLeft earlier (stages_of stands) → Ranked (suc last) (faults_from whole outcomes earlier stands) end)
      → AreLeft earlier (if is_of_stage kind then stand ∷ stages_of stands else stages_of stands)
      → Ranked at (faults_of_kind whole outcomes earlier stand kind ++ faults_from whole outcomes (if is_of_stage kind then earlier ++ stand ∷ [] else earlier) stands) end
  stand_ranked at last end earlier stand stands Stage within placed later left =
      let next = next_left earlier stand (stages_of stands) left in
      let outcome = slice_get outcomes (length earlier) in
      let end_here = suc last in
      let of_files = file_faults (take (length earlier) outcomes) stand outcome in
      let from_consoles = console_faults earlier stand ++ of_files in
      let from_firsts = first_faults stand ++ from_consoles in
      let from_kinds = kind_faults stand outcome ++ from_firsts in
      ranked_joined at (stage_faults (length earlier) stand ++ from_kinds) end_here _ end
      (ranked_joined at (stage_faults (length earlier) stand) at from_kinds end_here (stage_ranked at at (length earlier) stand (omega arith))
      (ranked_joined at (kind_faults stand outcome) end_here from_firsts end_here (kind_ranked at last stand outcome within placed next.here)
      (ranked_joined end_here (first_faults stand) end_here from_consoles end_here (first_ranked end_here end_here stand (omega arith))
      (ranked_joined end_here (console_faults earlier stand) end_here of_files end_here (console_ranked end_here end_here earlier stand (omega arith))
      (file_ranked end_here end_here (take (length earlier) outcomes) stand outcome (omega arith))))))
      (later (earlier ++ stand ∷ []) next.later)
  stand_ranked at last end earlier stand stands Reference within placed later left =
      ranked_joined at (stream_faults stand (option_and_then (kind_at outcomes) (stage_of whole stand.piece.label))) (suc last) _ end
      (stream_ranked at (suc last) stand _ (omega arith)) (later earlier left)
  stand_ranked at last end earlier stand stands Connector within placed later left =
      inl (record { no_argument = refl; other = λ same. absurd (omega arith) }, ranked_lower at (suc last) _ end (omega arith) (later earlier left))

  pub all_ranked : (at end : ℕ) (earlier stands : List Stand) → Spread at (map (λ (s : Stand). s.piece) stands) end → AreLeft earlier (stages_of stands)
      → Ranked at (faults_from whole outcomes earlier stands) end
  all_ranked at end earlier [] spread left = spread
  all_ranked at end earlier (stand ∷ stands) spread left =
      stand_ranked at spread.0 end earlier stand stands stand.piece.kind spread.1 spread.2 (λ earlier left. all_ranked (suc spread.0) end earlier stands spread.3 left) left
