-- Many sets: what the specifications of a file come to together.
use Rattle.std.specs.Prelude.{ℕ, suc, ◌*◌, ◌≤◌, ◌==◌, Bool, if◌then◌else◌, List, [], ◌∷◌, ◌++◌, codes, decimal}
use Rattle.std.specs.List.{flat_map, list_all}
use Rattle.std.specs.declared.option.Option.TheVariants.{None}
use Rattle.pipe_model.specs.declared.net.Net.{Net}
use Rattle.call_meaning.specs.declared.status.Outcome.{Outcome}
use Rattle.call_meaning.specs.declared.status.Outcome.TheVariants.{Done, SomeSet}
use Rattle.call_meaning.specs.Effects.{Effect}
use Rattle.call_meaning.specs.Status.{line, number_of, status_of, text_of}

-- so many sets are at most 256, and have at most 50,000,000 steps together
abbrev pub AreFew : ℕ → ℕ → Type 0
AreFew steps count = (count ≤ 256) × (count * steps ≤ 50000000)

-- the strands of all nets: what these are fed is read for all of them
abbrev pub all_of : List Net → Net
all_of nets = record { strands = flat_map (λ (net : Net). net.strands) nets; links = [] }

-- how a set ended, and what is done of it
pub record SetEnd : Type 0 where
  pub outcome : Outcome
  pub effect : Effect

abbrev pub number_told : Outcome → ℕ
number_told outcome = number_of (status_of outcome)

abbrev pub is_zero : SetEnd → Bool
is_zero ended = number_told ended.outcome == 0

-- what is told of the set of this number: nothing where its status is 0, and else a line and the text of its outcome
abbrev pub lines_of_set : ℕ → Outcome → List ℕ
lines_of_set k outcome =
    if number_told outcome == 0 then []
    else line (codes "set " ++ (decimal k ++ (codes " status " ++ decimal (number_told outcome)))) ++ text_of outcome

-- what is told of sets, the first of which has this number
abbrev pub lines_of_sets : ℕ → List SetEnd → List ℕ
lines_of_sets k [] = []
lines_of_sets k (ended ∷ ends) = lines_of_set k ended.outcome ++ lines_of_sets (suc k) ends

-- the outcome of all sets, and what is done of them, one after another
abbrev pub outcome_of_sets : List SetEnd → Outcome
outcome_of_sets ends = if list_all is_zero ends then Done else SomeSet (lines_of_sets 1 ends)

abbrev pub effect_of_sets : List SetEnd → Effect
effect_of_sets ends = record { output = flat_map (λ (ended : SetEnd). ended.effect.output) ends; files = flat_map (λ (ended : SetEnd). ended.effect.files) ends; trace = None }
