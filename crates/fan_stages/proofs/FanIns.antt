-- What FANIN's value stands for behind each call.
use Rattle.std.proofs.Common.{◌≡◌, ◌+◌, ℕ, true, List, ◌∷◌, subst, arith, Some, ltb}
use Rattle.std.specs.Prelude.{min}
use Rattle.pipe_model.specs.Event.{Want, answers}
use Rattle.pipe_model.specs.Event.Event.{Saw, SawEnd}
use Rattle.pipe_model.specs.Members.{has}
use Rattle.pipe_model.specs.Next.{hears}
use Rattle.pipe_model.specs.Row.{Plan, Known}
use Rattle.pipe_model.specs.Shape.{asks, all_inputs}
use Rattle.fan_stages.specs.declared.fan_in.FanIn.{FanIn}
use Rattle.fan_stages.specs.declared.passing.Passing.TheVariants.{Writing, Passed}
use Rattle.fan_stages.specs.FanIn.{input_within, FanInStands}
use Rattle.fan_stages.proofs.Ascending.{first_open, is_within, one_more_ended}
use Rattle.fan_stages.proofs.Passes.{asked_end, passes_saw, passes_end}

module _ (x : FanIn) (plan : Known → Plan) (k : Known) (want : Want) (i : ℕ) (is : FanInStands x plan k (asks want)) where
  pub fan_in_saw : (rec : List ℕ) → answers (Some want) (Saw i rec) ≡ true → FanInStands (record x { passing = Writing i }) plan (hears k (Saw i rec)) (plan (hears k (Saw i rec)))
  fan_in_saw rec fits = record {
    few = is.few;
    ended = is.ended;
    reads = passes_saw x.inputs (λ inputs seen. all_inputs inputs) x.passing (input_within x.inputs x.input) plan k want i rec (input_within x.inputs x.input) is.reads fits (λ _. first_open x.inputs x.input k.ends is.ended);
  }

  pub fan_in_end : (input' : ℕ) → input' ≡ min (x.input + 1) 65535 → answers (Some want) (SawEnd i) ≡ true →
      FanInStands (record x { input = input'; passing = Passed }) plan (hears k (SawEnd i)) (plan (hears k (SawEnd i)))
  fan_in_end input' next fits =
      let here : input_within x.inputs x.input ≡ Some i = asked_end (input_within x.inputs x.input) want i is.reads.goal_is fits in
      let within = is_within x.inputs x.input i here in
      let few = is.few in
      let more : input' ≡ x.input + 1 = grind arith in
      let ended : (j : ℕ) → has (i ∷ k.ends) j ≡ ltb j input' = subst (λ n. (j : ℕ) → has (n ∷ k.ends) j ≡ ltb j input') within.0 (one_more_ended x.input input' k.ends is.ended more) in
      record {
        few = is.few;
        ended = ended;
        reads = passes_end x.inputs (λ inputs seen. all_inputs inputs) x.passing (input_within x.inputs x.input) plan k want i (input_within x.inputs input') is.reads fits (λ _. first_open x.inputs input' (i ∷ k.ends) ended);
      }
