-- What a core has done at the end of its run.
use Rattle.std.proofs.Common.{◌≡◌, ◌⊎◌, inl, inr, ℕ, ◌<◌, ◌≤◌, ltb, Bool, true, false, List, [], ◌∷◌, ◌++◌, refl, sym, ◌∙◌, ap, subst, arith, Some, None, is_some}
use Rattle.std.proofs.lemmas.Bool.{ltb-false, ltb-true}
use Rattle.std.specs.Result.{IfOk}
use Rattle.std.specs.declared.result.Result.{Result}
use Rattle.std.specs.declared.result.Result.TheVariants.{Ok, Err}
use Rattle.pipe_model.specs.declared.memory.NoMemory.{NoMemory}
use Rattle.pipe_model.specs.declared.net.Net.{Net}
use Rattle.pipe_model.specs.declared.step.Entry.{Entry}
use Rattle.pipe_model.specs.Licence.{licence, none_left}
use Rattle.pipe_model.specs.Play.{play, step, IsComplete}
use Rattle.pipe_model.specs.Run.{IsRun as IsPlay}
use Rattle.pipe_model.specs.State.{nothing_yet}
use Rattle.confluence_laws.proofs.Lengths.{play_last}
use Rattle.core_machine.specs.declared.job.RunEnd.TheVariants as End
use Rattle.core_machine.specs.Machine.{Machine, started, left_by, licence_of, state_of, HasStopped, IsLawful}
use Rattle.core_machine.specs.Answered.{AreLeast as CoreLeast, Ends, HasRun, LeastReady}
use Rattle.workers.specs.Driven.{HasAdvanced}
use Rattle.call_meaning.specs.declared.status.Outcome.{Outcome}
use Rattle.call_meaning.specs.declared.status.Outcome.TheVariants.{Spent}
use Rattle.call_meaning.specs.Meaning.{AreLeast, IsLeast}
use Rattle.net_runs.specs.declared.net_run.Ran.{Ran}
use Rattle.net_runs.specs.Ran.{EndsAs, IsRun}
use Rattle.net_runs.specs.Ran.EndsAs.{spends}

-- a journal is complete where no strand may have an event
complete_if : (net : Net) (es : List Entry) → ((s k : ℕ) → licence net (play net es) none_left s k ≡ None) → IsComplete net es
complete_if net es none e may = (let z : false ≡ true = sym (ap is_some (none e.strand e.stream)) ∙ may in cc)

-- where no strand is out and none may have an event, none may have one whoever is left out
stopped_all : (m : Machine) → HasStopped m → (s k : ℕ) → licence m.net (play m.net m.journal) none_left s k ≡ None
stopped_all m stopped = subst (λ out. (s k : ℕ) → licence m.net (play m.net m.journal) (left_by m.journal out) s k ≡ None) stopped.0 stopped.1

-- its journal is complete
pub stopped_complete : (m : Machine) → HasStopped m → IsComplete m.net m.journal
stopped_complete m stopped = complete_if m.net m.journal (stopped_all m stopped)

-- Where no strand is out, each least step of the core is the least that may be made.

least_entry : (m : Machine) → m.out ≡ [] → (e : Entry) → LeastReady m (Some (e.strand, e.stream)) → IsLeast m.net (state_of m) e
least_entry m home e ready other may = by (ltb other.strand e.strand) refl (ltb e.strand other.strand) refl (ltb other.stream e.stream) refl
  where
    here : (s k : ℕ) → licence m.net (state_of m) (left_by m.journal m.out) s k ≡ None → licence m.net (state_of m) none_left s k ≡ None
    here s k none = subst (λ out. licence m.net (state_of m) (left_by m.journal out) s k ≡ None) home none

    never : {P : Type 0} → licence_of m other.strand other.stream ≡ None → P
    never none = (let z : false ≡ true = sym (ap is_some (here other.strand other.stream none)) ∙ may in cc)

    by : (a : Bool) → ltb other.strand e.strand ≡ a → (b : Bool) → ltb e.strand other.strand ≡ b → (c : Bool) → ltb other.stream e.stream ≡ c →
        (e.strand < other.strand) ⊎ ((e.strand ≡ other.strand) × (e.stream ≤ other.stream))
    by true lower b is c stream = never (ready.2 other.strand other.stream (ltb-true other.strand e.strand lower))
    by false lower true higher c stream = inl (ltb-true e.strand other.strand higher)
    by false lower false higher c stream = by_stream c stream
      where
        same : e.strand ≡ other.strand
        same = (let a = ltb-false other.strand e.strand lower in let b = ltb-false e.strand other.strand higher in omega (arith, a, b))

        by_stream : (c : Bool) → ltb other.stream e.stream ≡ c → (e.strand < other.strand) ⊎ ((e.strand ≡ other.strand) × (e.stream ≤ other.stream))
        by_stream true stream = never (subst (λ s. licence_of m s other.stream ≡ None) same (ready.1 other.stream (ltb-true other.stream e.stream stream)))
        by_stream false stream = inr (same, ltb-false other.stream e.stream stream)

least_run : (m : Machine) → m.out ≡ [] → (es : List Entry) → CoreLeast m es → IsPlay (step m.net) (IsLeast m.net) (state_of m) es
least_run m home [] least = tt
least_run m home (e ∷ es) least = (
  least_entry m home e least.0,
  subst (λ st. IsPlay (step m.net) (IsLeast m.net) st es) (play_last m.net nothing_yet m.journal e) (least_run (record m { journal = m.journal ++ e ∷ [] }) home es least.1),
)

-- one worker's run took the least steps
run_least : (net : Net) (steps : ℕ) (old new : Machine) → old ≡ started net steps → HasRun old new → AreLeast new.net new.journal
run_least net steps old new first run =
    let after : new ≡ record (started net steps) { journal = run.more } = run.after ∙ ap (λ (m : Machine). record m { journal = m.journal ++ run.more }) first in
    subst (λ (m : Machine). AreLeast m.net m.journal) (sym after) (least_run (started net steps) refl run.more (subst (λ (m : Machine). CoreLeast m run.more) first run.least))

module _ (steps : ℕ) (core : Machine) (home : core.out ≡ []) (budget : core.budget ≡ steps) where
  -- its journal was full before its end
  pub core_spent : Ends End.Spent core → EndsAs steps core (Spent steps)
  core_spent ends = spends refl (ends.0 ∙ budget)
      (record { strand = ends.1.0.0; stream = ends.1.0.1 }, subst (λ out. is_some (licence core.net (play core.net core.journal) (left_by core.journal out) ends.1.0.0 ends.1.0.1) ≡ true) home ends.1.1.0)

module _ (net : Net) (steps workers : ℕ) (old new : Machine) (first : old ≡ started net steps) (run : HasAdvanced old new) (lawful : IsLawful new) (alone : workers ≡ 1 → HasRun old new) where
  pub net_is : new.net ≡ net
  net_is = run.net ∙ ap (λ (m : Machine). m.net) first

  pub budget_is : new.budget ≡ steps
  budget_is = run.budget ∙ ap (λ (m : Machine). m.budget) first

  -- it is a run that ended so
  pub run_ended : (outcome : Outcome) → EndsAs steps new outcome → IsRun net steps workers new outcome
  run_ended outcome ends = record {
    net_is = net_is;
    legal = lawful.legal;
    home = run.home;
    within = let w = lawful.within in omega (arith, w, budget_is);
    least = λ one. run_least net steps old new first (alone one);
    ends = ends;
  }

  pub runs_to : {S : Type 0} (made : Result (Ran S) NoMemory) → IfOk made (λ ran. ran.core ≡ new) → IfOk made (λ ran. EndsAs steps ran.core ran.outcome) → IfOk made (λ ran. IsRun net steps workers ran.core ran.outcome)
  runs_to (Ok ran) is ends = subst (λ (m : Machine). IsRun net steps workers m ran.outcome) (sym is) (run_ended ran.outcome (subst (λ (m : Machine). EndsAs steps m ran.outcome) is ends))
  runs_to (Err fault) is ends = tt
