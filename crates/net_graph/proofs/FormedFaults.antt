-- What it means for each stand that a specification has no fault.
use Rattle.std.proofs.Common.{◌≡◌, ℕ, zero, suc, ◌≤◌, ◌<◌, Bool, true, false, cond, ◌&&◌, ◌||◌, not, nat_lt, List, [], ◌∷◌, ◌++◌, refl, sym, ◌∙◌, ap, subst, arith, Some, slice_get, length, map, append-nil, append_assoc}
use Rattle.std.specs.Prelude.{if◌then◌else◌, Ok}
use Rattle.std.specs.List.{count_by}
use Rattle.std.specs.Option.{option_and_then, option_map}
use Rattle.std.specs.declared.result.Result.{Result}
use Rattle.std.proofs.lemmas.Bool.Decides.{nat_tests}
use Rattle.std.proofs.lemmas.List.Sums.{length-filter}
use Rattle.std.proofs.lemmas.Option.{slice_get-map}
use Rattle.pipe_model.specs.declared.kind.Kind.{Kind}
use Rattle.pipe_model.proofs.Truths.{neither}
use Rattle.stage_syntax.specs.declared.fault.KindFault.{KindFault}
use Rattle.spec_scanner.specs.declared.fault.Fault.{Fault}
use Rattle.spec_scanner.specs.declared.piece.Piece.{Piece}
use Rattle.spec_scanner.specs.declared.piece.PieceKind.{PieceKind}
use Rattle.spec_scanner.specs.declared.piece.PieceKind.TheVariants.{Stage, Reference, Connector}
use Rattle.spec_scanner.specs.declared.fault.SpecFaultKind.TheVariants.{NoSuchStream, NotFirst, TooManyStages}
use Rattle.spec_scanner.specs.Faults.{fault}
use Rattle.net_graph.specs.Stands.{Stand, is_of_stage, is_stage, stage_of, stages_of, stands_of}
use Rattle.net_graph.specs.Nets.{inputs_of, outputs_of}
use Rattle.net_graph.specs.Faults.{faults_from, faults_of, faults_of_kind, first_faults, is_file_reader, is_past, kind_at, kind_faults, most_stages, most_streams, stage_faults, stream_faults}
use Rattle.net_graph.proofs.FormedLists.{below_unless_not, last_counted, nothing_joined}

-- each stand has no fault, after the stages before it
good_from : (whole : List Stand) (outcomes : List (Result Kind KindFault)) (earlier between rest : List Stand) (stand : Stand)
    → faults_from whole outcomes earlier (between ++ stand ∷ rest) ≡ []
    → faults_of_kind whole outcomes (earlier ++ stages_of between) stand stand.piece.kind ≡ []
good_from whole outcomes earlier [] rest stand good =
    ap (λ stages. faults_of_kind whole outcomes stages stand stand.piece.kind) (append-nil earlier)
    ∙ (nothing_joined (faults_of_kind whole outcomes earlier stand stand.piece.kind) _ good).0
good_from whole outcomes earlier (s ∷ between) rest stand good =
    ap (λ stages. faults_of_kind whole outcomes stages stand stand.piece.kind) (grown (is_stage s))
    ∙ good_from whole outcomes (if is_stage s then earlier ++ s ∷ [] else earlier) between rest stand
    (nothing_joined (faults_of_kind whole outcomes earlier s s.piece.kind) _ good).1
  where
    grown : (b : Bool) → earlier ++ cond b (s ∷ stages_of between) (stages_of between) ≡ (if b then earlier ++ s ∷ [] else earlier) ++ stages_of between
    grown true = sym (append_assoc earlier (s ∷ []) (stages_of between))
    grown false = refl

-- a list of one fault is there only where its test holds
no_fault : (b : Bool) (one : Fault) → (if b then one ∷ [] else []) ≡ [] → b ≡ false
no_fault true one is = cc
no_fault false one is = refl

some_fault : (b : Bool) (one : Fault) → (if b then [] else one ∷ []) ≡ [] → b ≡ true
some_fault true one is = refl
some_fault false one is = cc

kind_there : (outcomes : List (Result Kind KindFault)) (stage : ℕ) (kind : Kind) → slice_get outcomes stage ≡ Some (Ok kind) → kind_at outcomes stage ≡ Some kind
kind_there [] stage kind is = cc
kind_there (outcome ∷ outcomes) zero kind is =
    let same : Ok kind ≡ outcome = cc in
    subst (λ x. kind_at (x ∷ outcomes) 0 ≡ Some kind) same refl
kind_there (outcome ∷ outcomes) (suc stage) kind is = kind_there outcomes stage kind is

module _ (pipelines : List (List Piece)) (kinds : List Kind) (good : faults_of pipelines (map (λ (kind : Kind). Ok kind) kinds) ≡ []) where
  abbrev whole : List Stand
  whole = stands_of pipelines

  abbrev outcomes : List (Result Kind KindFault)
  outcomes = map (λ (kind : Kind). Ok kind) kinds

  module _ (done rest : List Stand) (stand : Stand) (cut : whole ≡ done ++ stand ∷ rest) where
    good_at : (kind : PieceKind) → stand.piece.kind ≡ kind → faults_of_kind whole outcomes (stages_of done) stand kind ≡ []
    good_at kind is =
        ap (faults_of_kind whole outcomes (stages_of done) stand) (sym is)
        ∙ good_from whole outcomes [] done rest stand (ap (faults_from whole outcomes []) (sym cut) ∙ good)

    -- there are at most so many stages
    few_before : stand.piece.kind ≡ Stage → length (stages_of done) < 1024
    few_before is =
        let none = (nothing_joined (stage_faults (length (stages_of done)) stand) _ (good_at Stage is)).0 in
        below (some_fault (nat_lt (length (stages_of done)) most_stages) (fault TooManyStages stand.piece.place) none)
      where
        below : nat_lt (length (stages_of done)) 1024 ≡ true → length (stages_of done) < 1024
        below is = grind (arith, nat_tests)

    -- only the first stage of a pipeline is named `<`
    pub later_reader : stand.piece.kind ≡ Stage → stand.first ≡ false → is_file_reader stand.piece ≡ false
    later_reader is comes =
        let kinds_on = (nothing_joined (stage_faults (length (stages_of done)) stand) _ (good_at Stage is)).1 in
        let firsts_on = (nothing_joined (kind_faults stand (slice_get outcomes (length (stages_of done)))) _ kinds_on).1 in
        let none = (nothing_joined (first_faults stand) _ firsts_on).0 in
        let neither = no_fault (is_file_reader stand.piece && not stand.first) (fault NotFirst stand.piece.name_place) none in
        of_test (is_file_reader stand.piece) (ap (λ first. is_file_reader stand.piece && not first) (sym comes) ∙ neither)
      where
        of_test : (b : Bool) → (b && true) ≡ false → b ≡ false
        of_test true is = cc
        of_test false is = refl

    -- a later use of a stage
    module _ (is : stand.piece.kind ≡ Reference) (stage : ℕ) (kind : Kind) (found : stage_of whole stand.piece.label ≡ Some stage) (here : slice_get kinds stage ≡ Some kind) where
      kind_is : option_and_then (kind_at outcomes) (stage_of whole stand.piece.label) ≡ Some kind
      kind_is =
          ap (option_and_then (kind_at outcomes)) found
          ∙ kind_there outcomes stage kind (slice_get-map (λ (kind : Kind). Ok kind) kinds stage ∙ ap (option_map (λ (kind : Kind). Ok kind)) here)

      tests : (not (nat_lt stand.piece.uses most_streams) ≡ false) × (is_past stand (Some kind) ≡ false)
      tests =
          let none = ap (stream_faults stand) (sym kind_is) ∙ good_at Reference is in
          neither _ _ (no_fault (not (nat_lt stand.piece.uses most_streams) || is_past stand (Some kind)) (fault NoSuchStream stand.piece.place) none)

      pub few_streams : stand.piece.uses < 64
      few_streams = below_unless_not stand.piece.uses 64 tests.0

      past_tests : ((not stand.first && not (nat_lt stand.piece.uses (inputs_of kind))) ≡ false) × ((not stand.last && not (nat_lt stand.piece.uses (outputs_of kind))) ≡ false)
      past_tests = neither (not stand.first && not (nat_lt stand.piece.uses (inputs_of kind))) (not stand.last && not (nat_lt stand.piece.uses (outputs_of kind))) tests.1

      pub input_there : stand.first ≡ false → stand.piece.uses < inputs_of kind
      input_there not_first = below_unless_not stand.piece.uses (inputs_of kind) (ap (λ b. not b && not (nat_lt stand.piece.uses (inputs_of kind))) (sym not_first) ∙ past_tests.0)

      pub output_there : stand.last ≡ false → stand.piece.uses < outputs_of kind
      output_there not_last = below_unless_not stand.piece.uses (outputs_of kind) (ap (λ b. not b && not (nat_lt stand.piece.uses (outputs_of kind))) (sym not_last) ∙ past_tests.1)

  -- so many stages at most
  pub few_stages : length (stages_of whole) ≤ 1024
  few_stages = go (count_by is_stage whole) refl
    where
      stage_kind : (kind : PieceKind) → is_of_stage kind ≡ true → kind ≡ Stage
      stage_kind Stage is = refl
      stage_kind Reference is = cc
      stage_kind Connector is = cc

      go : (n : ℕ) → count_by is_stage whole ≡ n → length (stages_of whole) ≤ 1024
      go zero none = omega (arith, length-filter is_stage whole, none)
      go (suc n) some =
          let r = last_counted is_stage whole n some in
          let below = few_before r.0 r.2 r.1 r.3 (stage_kind r.1.piece.kind r.4) in
          omega (arith, below, length-filter is_stage whole, some, length-filter is_stage r.0, r.5)
