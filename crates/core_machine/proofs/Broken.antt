-- A core that breaks as it makes an event, and how a run breaks by that.
use Rattle.std.proofs.Common.{◌≡◌, ◌≤◌, ◌<◌, ℕ, suc, ◌+◌, Bool, true, List, [], ◌∷◌, ◌++◌, length, length-append, refl, sym, ◌∙◌, ap, subst, arith, Some}
use Rattle.std.specs.Prelude.{Result, Ok, Err, OnErr}
use Rattle.pipe_model.specs.declared.net.Net.{Net}
use Rattle.pipe_model.specs.declared.step.Entry.{Entry}
use Rattle.pipe_model.specs.declared.step.Seen.{Seen}
use Rattle.pipe_model.proofs.Lists.{length_more}
use Rattle.core_machine.specs.Answered.{LeastEvent, HasBroken, HasBrokenLeast, HasBrokenOnRecords, is_of_record}
use Rattle.core_machine.specs.Machine.{Machine, turned, broke_down}
use Rattle.core_machine.specs.Runs.{AreSteps, HasRunBy, HasBrokenBy}
use Rattle.core_machine.proofs.Runs.{IsUnderWay, least_steps, record_steps, run_longer, runs_go, steps_join, steps_wider}
use Rattle.core_machine.proofs.Steps.{append_three}

-- by its parts
pub broke_so : (m : Machine) (e : Entry) (net : Net) (budget : ℕ) (journal : List Entry) (out : List ℕ) (broken : Bool) →
    ◌≡◌ {A = Machine} (record { net = net; budget = budget; journal = journal; out = out; is_broken = broken }) m →
    {net' : Net} → net' ≡ net → {journal' : List Entry} → journal' ≡ journal ++ e ∷ [] → (place : ℕ) → place ≡ suc (length journal) → {out' : List ℕ} → out' ≡ out ++ place ∷ [] →
    ◌≡◌ {A = Machine} (record { net = net'; budget = budget; journal = journal'; out = out'; is_broken = true }) (broke_down (turned m e))
broke_so m e net budget journal out broken v net_is journal_is place place_is out_is =
    (λ i. record { net = net_is i; budget = budget; journal = journal_is i; out = out_is i; is_broken = true })
    ∙ (λ i. record { net = net; budget = budget; journal = journal ++ e ∷ []; out = out ++ place_is i ∷ []; is_broken = true })
    ∙ ap (λ (z : Machine). broke_down (turned z e)) v

-- a run breaks as it makes an event
pub breaks_at : (made : Seen → Bool) (m n k : Machine) (s i limit : ℕ) (seen : Seen) → IsUnderWay made m limit n → length n.journal < limit → LeastEvent n (Some (s, i, seen)) →
    made seen ≡ true → k ≡ broke_down (turned n (record { strand = s; stream = i })) → HasBrokenBy made limit m k
breaks_at made m n k s i limit seen on few least is step =
    let e : Entry = record { strand = s; stream = i } in
    let next : Machine = record n { journal = n.journal ++ e ∷ [] } in
    let went = runs_go made m n next s i limit seen on few least is refl in
    let run : HasRunBy made m next = went.0 in
    let before = run_longer made m n on.0 in
    let one = length_more n.journal e in
    let journal : k.journal ≡ next.journal = ap (λ (z : Machine). z.journal) step in
    let long : length k.journal ≡ length next.journal = ap length journal in
    record {
      broke = record {
        broken = ap (λ (z : Machine). z.is_broken) step;
        net = ap (λ (z : Machine). z.net) step ∙ ap (λ (z : Machine). z.net) run.after;
        budget = ap (λ (z : Machine). z.budget) step ∙ ap (λ (z : Machine). z.budget) run.after;
        longer = (run.more, journal ∙ ap (λ (z : Machine). z.journal) run.after);
        more = omega (arith, before, one, long);
        out = ap (λ (z : Machine). z.out) step ∙ ap (λ (z : Machine). z.out ++ suc (length n.journal) ∷ []) run.after ∙ ap (λ p. m.out ++ p ∷ []) (sym (long ∙ one));
      };
      steps = run.steps;
      within = let a = went.2 in omega (arith, a, long);
    }

-- and so does one that went on before
pub breaks_later : (made : Seen → Bool) (limit : ℕ) (m n k : Machine) → HasRunBy made m n → HasBrokenBy made limit n k → HasBrokenBy made limit m k
breaks_later made limit m n k run lacks =
    let broke : HasBroken n k = lacks.broke in
    let longer : k.journal ≡ m.journal ++ (run.more ++ broke.longer.0) =
    broke.longer.1 ∙ ap (λ (z : Machine). z.journal ++ broke.longer.0) run.after ∙ append_three m.journal run.more broke.longer.0 in
    let before = run_longer made m n run in
    record {
      broke = record {
        broken = broke.broken;
        net = broke.net ∙ ap (λ (z : Machine). z.net) run.after;
        budget = broke.budget ∙ ap (λ (z : Machine). z.budget) run.after;
        longer = (run.more ++ broke.longer.0, longer);
        more = let a = broke.more in omega (arith, a, before);
        out = broke.out ∙ ap (λ (z : Machine). z.out ++ length k.journal ∷ []) run.after;
      };
      steps = steps_join made m run.more broke.longer.0 run.steps (subst (λ (z : Machine). AreSteps made z broke.longer.0) run.after lacks.steps);
      within = lacks.within;
    }

-- where it makes events of a wider kind too
pub breaks_wider : (made wider : Seen → Bool) → ((seen : Seen) → made seen ≡ true → wider seen ≡ true) → (limit : ℕ) (m n : Machine) → HasBrokenBy made limit m n → HasBrokenBy wider limit m n
breaks_wider made wider more limit m n lacks = record { broke = lacks.broke; steps = steps_wider made wider more m lacks.broke.longer.0 lacks.steps; within = lacks.within }

-- one on records breaks so
pub breaks_on_records : (made : Seen → Bool) (sights : Bool) → ((seen : Seen) → made seen ≡ true → is_of_record sights seen ≡ true) → (limit most : ℕ) (m n : Machine) → limit ≤ length m.journal + most →
    HasBrokenBy made limit m n → HasBrokenOnRecords sights most m n
breaks_on_records made sights is limit most m n few lacks =
    let more : List Entry = lacks.broke.longer.0 in
    let long : length n.journal ≡ length m.journal + length more = ap length lacks.broke.longer.1 ∙ length-append m.journal more in
    record {
      broke = lacks.broke;
      steps = record_steps made sights is m more lacks.steps;
      few = let a = lacks.within in omega (arith, a, few, long);
    }

-- one that makes all events breaks on the way of the least steps
pub breaks_least : (made : Seen → Bool) (limit : ℕ) (m n : Machine) → HasBrokenBy made limit m n → HasBrokenLeast m n
breaks_least made limit m n lacks = record { broke = lacks.broke; least = least_steps made m lacks.broke.longer.0 lacks.steps }

-- what holds is so where there is an error
pub on_err : {A E : Type 0} (P : Type 0) (r : Result A E) → P → OnErr r P
on_err P (Ok x) p = tt
on_err P (Err e) p = p
