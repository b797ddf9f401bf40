-- The lines that tell sets, one set after another.
use Rattle.std.proofs.Common.{◌≡◌, ◌≢◌, ℕ, suc, ◌+◌, Bool, true, false, cond, eqb, ◌&&◌, List, [], ◌∷◌, ◌++◌, codes, decimal, drop, map, length, refl, sym, ◌∙◌, ap, append-nil, append_assoc, add-one, arith, ◌≤◌, ◌<◌, slice_index_or}
use Rattle.std.proofs.lemmas.Option.{slice_get_read}
use Rattle.std.proofs.lemmas.Result.{IfOk-weaker}
use Rattle.std.specs.List.{list_all}
use Rattle.std.specs.Result.{IfOk}
use Rattle.std.specs.declared.result.Result.{Result}
use Rattle.pipe_model.specs.declared.memory.NoMemory.{NoMemory}
use Rattle.call_meaning.specs.declared.status.Outcome.{Outcome}
use Rattle.call_meaning.specs.declared.status.Outcome.TheVariants.{Done, SomeSet}
use Rattle.call_meaning.specs.declared.status.Status.{Status}
use Rattle.call_meaning.specs.declared.status.Status.TheVariants.{Zero}
use Rattle.call_meaning.specs.Sets.{SetEnd, is_zero, lines_of_set, lines_of_sets, number_told, outcome_of_sets}
use Rattle.call_meaning.specs.Status.{line, number_of, status_of, text_of}
use Rattle.call_streams.specs.declared.text.Told.{Told}
use Rattle.net_runs.specs.declared.sets_run.Ended.{Ended}
use Rattle.net_runs.specs.SetRuns.{end_of}
use Rattle.net_runs.proofs.Runs.{drop_at, drop_none}

-- One set

module _ (k : ℕ) (outcome : Outcome) where
  -- its lines where it has another status than 0
  abbrev pub lines_told : List ℕ
  lines_told = line (codes "set " ++ (decimal k ++ (codes " status " ++ decimal (number_told outcome)))) ++ text_of outcome

  pub lines_zero : status_of outcome ≡ Zero → lines_of_set k outcome ≡ []
  lines_zero is = ap (λ (status : Status). cond (eqb (number_of status) 0) [] lines_told) is

  -- only one status has the number 0
  other_number : (status : Status) → status ≢ Zero → eqb (number_of status) 0 ≡ false
  other_number Zero other = absurd (other refl)
  other_number _ other = refl

  pub lines_other : status_of outcome ≢ Zero → lines_of_set k outcome ≡ lines_told
  lines_other other = ap (λ t. cond t [] lines_told) (other_number (status_of outcome) other)

-- All sets

-- an outcome that is told is told as an equal one
pub told_as : (made : Result Told NoMemory) (outcome other : Outcome) → IfOk made (λ told. told.outcome ≡ outcome) → outcome ≡ other → IfOk made (λ told. told.outcome ≡ other)
told_as made outcome other is same = IfOk-weaker made (λ told. told.outcome ≡ outcome) (λ told. told.outcome ≡ other) (λ told told_is. told_is ∙ same) is

-- nothing is told where all have status 0
none_told : (k : ℕ) (ends : List SetEnd) → list_all is_zero ends ≡ true → lines_of_sets k ends ≡ []
none_told k [] all = refl
none_told k (ended ∷ ends) all = by (is_zero ended) all (none_told (suc k) ends)
  where
    by : (t : Bool) → (t && list_all is_zero ends) ≡ true → (list_all is_zero ends ≡ true → lines_of_sets (suc k) ends ≡ []) → cond t [] (lines_told k ended.outcome) ++ lines_of_sets (suc k) ends ≡ []
    by true all further = further all
    by false all further = cc

-- and else something
some_told : (k : ℕ) (ends : List SetEnd) → list_all is_zero ends ≡ false → lines_of_sets k ends ≡ [] → ⊥
some_told k [] some none = cc
some_told k (ended ∷ ends) some none = by (is_zero ended) some (some_told (suc k) ends) none
  where
    by : (t : Bool) → (t && list_all is_zero ends) ≡ false → (list_all is_zero ends ≡ false → lines_of_sets (suc k) ends ≡ [] → ⊥) → cond t [] (lines_told k ended.outcome) ++ lines_of_sets (suc k) ends ≡ [] → ⊥
    by true some further none = further some none
    by false some further none = cc

module _ (lines : List ℕ) (ends : List SetEnd) (is : lines ≡ lines_of_sets 1 ends) where
  pub all_zero : lines ≡ [] → Done ≡ outcome_of_sets ends
  all_zero none = by (list_all is_zero ends) refl
    where
      by : (t : Bool) → list_all is_zero ends ≡ t → Done ≡ cond t Done (SomeSet (lines_of_sets 1 ends))
      by true all = refl
      by false some = absurd (some_told 1 ends some (sym is ∙ none))

  pub some_other : lines ≢ [] → SomeSet lines ≡ outcome_of_sets ends
  some_other some = by (list_all is_zero ends) refl
    where
      by : (t : Bool) → list_all is_zero ends ≡ t → SomeSet lines ≡ cond t Done (SomeSet (lines_of_sets 1 ends))
      by true all = absurd (some (is ∙ none_told 1 ends all))
      by false other = ap SomeSet is

-- As far as a loop has come

module _ {S : Type 0} where
  -- what is told of the sets from a place on, the first of which has this number
  abbrev pub lines_left : ℕ → ℕ → List (Ended S) → List ℕ
  lines_left number k sets = lines_of_sets number (map (λ ended. end_of ended) (drop k sets))

  -- one set more
  pub told_more : (sets : List (Ended S)) (number k : ℕ) (one : Ended S) → k < length sets → one ≡ slice_index_or sets k one → (outcome : Outcome) → outcome ≡ (end_of one).outcome → (lines lines' whole : List ℕ) →
      lines ++ lines_left number k sets ≡ whole → lines' ≡ lines ++ lines_of_set number outcome → lines' ++ lines_left (number + 1) (k + 1) sets ≡ whole
  told_more sets number k one lt at outcome outcome_is lines lines' whole before more =
      ap (λ z. z ++ lines_left (number + 1) (k + 1) sets) (more ∙ ap (λ o. lines ++ lines_of_set number o) outcome_is)
      ∙ append_assoc lines (lines_of_set number (end_of one).outcome) (lines_left (number + 1) (k + 1) sets)
      ∙ ap (λ n. lines ++ (lines_of_set number (end_of one).outcome ++ lines_left n (k + 1) sets)) (add-one number)
      ∙ ap (λ n. lines ++ (lines_of_set number (end_of one).outcome ++ lines_left (suc number) n sets)) (add-one k)
      ∙ ap (λ z. lines ++ lines_of_sets number (map (λ ended. end_of ended) z)) (sym (drop_at sets k one (slice_get_read sets (length sets) k one refl lt at)))
      ∙ before

  -- none is left
  pub told_all : (sets : List (Ended S)) (number k : ℕ) → k ≤ length sets → length sets ≤ k → (lines whole : List ℕ) → lines ++ lines_left number k sets ≡ whole → lines ≡ whole
  told_all sets number k within past lines whole before =
      let end : k ≡ length sets = omega (arith, within, past) in
      sym (append-nil lines)
      ∙ ap (λ z. lines ++ lines_of_sets number (map (λ ended. end_of ended) z)) (sym (drop_none sets))
      ∙ ap (λ n. lines ++ lines_left number n sets) (sym end)
      ∙ before
