-- Sets that are begun, one after another, and ended so once their cores were run.
use Rattle.std.proofs.Common.{◌≡◌, ℕ, ◌≤◌, false, List, [], ◌∷◌, ◌++◌, length, refl, sym, ◌∙◌, ap, subst, arith, append-nil, append_assoc, Option, Some, None}
use Rattle.std.proofs.lemmas.List.{nil_from_length}
use Rattle.std.proofs.lemmas.List.Elements.{All-head, All-tail}
use Rattle.std.specs.List.{All, AllZip}
use Rattle.pipe_model.specs.declared.net.Net.{Net}
use Rattle.core_machine.specs.declared.job.RunEnd.{RunEnd}
use Rattle.core_machine.specs.Machine.{Machine, IsLawful, started}
use Rattle.core_machine.specs.Answered.{Ends, HasRun}
use Rattle.workers.specs.Driven.{HasAdvanced}
use Rattle.many_sets.proofs.Zips.{zip_all}
use Rattle.call_meaning.specs.declared.nets.Set.{Set}
use Rattle.call_meaning.specs.declared.nets.Set.TheVariants.{Whole, Refused}
use Rattle.call_meaning.specs.declared.status.Outcome.{Outcome}
use Rattle.call_streams.specs.declared.text.Told.{Told}
use Rattle.call_streams.specs.Feeding.{IsWholeSet, nets_in}
use Rattle.net_runs.specs.declared.net_run.Ran.{Ran as RanTo}
use Rattle.net_runs.specs.declared.ready_run.Ready.{Ready}
use Rattle.net_runs.specs.declared.sets_run.Ended.{Ended}
use Rattle.net_runs.specs.declared.sets_run.Ended.TheVariants.{Ran}
use Rattle.net_runs.specs.Ran.{EndsAs, IsRun}
use Rattle.net_runs.specs.ReadyRuns.{IsReady}
use Rattle.net_runs.specs.SetRuns.{AreLeft, HasBegun, HasEnded, HasGone, HasStarted, IsToldOf}
use Rattle.net_runs.proofs.CoreRuns.{run_ended}
use Rattle.net_runs.proofs.Zips.{zip_length, zip_push}

-- the nets of one set more
nets_whole : (sets : List Set) (net : Net) → nets_in (sets ++ Whole net ∷ []) ≡ nets_in sets ++ net ∷ []
nets_whole [] net = refl
nets_whole (Whole other ∷ sets) net = ap (λ nets. other ∷ nets) (nets_whole sets net)
nets_whole (Refused outcome ∷ sets) net = nets_whole sets net

nets_refused : (sets : List Set) (outcome : Outcome) → nets_in (sets ++ Refused outcome ∷ []) ≡ nets_in sets
nets_refused [] outcome = refl
nets_refused (Whole other ∷ sets) outcome = ap (λ nets. other ∷ nets) (nets_refused sets outcome)
nets_refused (Refused other ∷ sets) outcome = nets_refused sets outcome

-- there are no more nets than sets
nets_fewer : (sets : List Set) → length (nets_in sets) ≤ length sets
nets_fewer [] = omega arith
nets_fewer (Whole net ∷ sets) = let few = nets_fewer sets in omega (arith, few)
nets_fewer (Refused outcome ∷ sets) = let few = nets_fewer sets in omega (arith, few)

module _ (steps : ℕ) where
  -- Before the runs

  -- these sets were begun
  pub record AreBegun (sets : List Set) (begun : List (Option Told)) (cores : List Machine) : Type 0 where
    pub told : AllZip IsToldOf sets begun
    pub started : AllZip (HasStarted steps) (nets_in sets) cores

  -- one more was
  begun_more : (sets : List Set) (begun : List (Option Told)) (cores cores' : List Machine) (set : Set) (told : Option Told) → AreBegun sets begun cores → HasBegun steps set told cores cores' → AreBegun (sets ++ set ∷ []) (begun ++ told ∷ []) cores'
  begun_more sets begun cores cores' (Whole net) None are has = record {
    told = zip_push IsToldOf sets begun (Whole net) None are.told tt;
    started = subst (λ nets. AllZip (HasStarted steps) nets cores') (sym (nets_whole sets net))
        (subst (AllZip (HasStarted steps) (nets_in sets ++ net ∷ [])) (sym has.2) (zip_push (HasStarted steps) (nets_in sets) cores net has.0 are.started has.1));
  }
  begun_more sets begun cores cores' (Whole net) (Some told) are has = absurd has
  begun_more sets begun cores cores' (Refused outcome) None are has = absurd has
  begun_more sets begun cores cores' (Refused outcome) (Some told) are has = record {
    told = zip_push IsToldOf sets begun (Refused outcome) (Some told) are.told has.0;
    started = subst (λ nets. AllZip (HasStarted steps) nets cores') (sym (nets_refused sets outcome)) (subst (AllZip (HasStarted steps) (nets_in sets)) (sym has.1) are.started);
  }

  -- those before these that are left were begun
  pub record Beginning (sets left : List Set) (begun : List (Option Told)) (cores : List Machine) : Type 0 where
    pub before : List Set
    pub all : before ++ left ≡ sets
    pub are : AreBegun before begun cores
    pub whole : All IsWholeSet left

  -- at first none were
  pub begins_none : (sets left : List Set) (begun : List (Option Told)) (cores : List Machine) → left ≡ sets → All IsWholeSet sets → begun ≡ [] → cores ≡ [] → Beginning sets left begun cores
  begins_none sets left begun cores same whole none home = record {
    before = [];
    all = same;
    are = record { told = subst (AllZip IsToldOf []) (sym none) tt; started = subst (AllZip (HasStarted steps) []) (sym home) tt };
    whole = subst (All IsWholeSet) (sym same) whole;
  }

  module _ (sets left rest : List Set) (set : Set) (begun : List (Option Told)) (cores : List Machine) (t : Beginning sets left begun cores) (next : left ≡ set ∷ rest) where
    pub next_whole : IsWholeSet set
    next_whole = All-head IsWholeSet set rest (subst (All IsWholeSet) next t.whole)

    pub begins_on : (told : Option Told) (begun' : List (Option Told)) (cores' : List Machine) → HasBegun steps set told cores cores' → begun' ≡ begun ++ told ∷ [] → Beginning sets rest begun' cores'
    begins_on told begun' cores' has more = record {
      before = t.before ++ set ∷ [];
      all = append_assoc t.before (set ∷ []) rest ∙ ap (λ z. t.before ++ z) (sym next) ∙ t.all;
      are = subst (λ z. AreBegun (t.before ++ set ∷ []) z cores') (sym more) (begun_more t.before begun cores cores' set told t.are has);
      whole = All-tail IsWholeSet set rest (subst (All IsWholeSet) next t.whole);
    }

  -- all were
  pub begins_all : (sets left : List Set) (begun : List (Option Told)) (cores : List Machine) → Beginning sets left begun cores → length left ≡ 0 → AreBegun sets begun cores
  begins_all sets left begun cores t none =
      subst (λ z. AreBegun z begun cores) (sym (append-nil t.before) ∙ ap (λ z. t.before ++ z) (sym (nil_from_length left none)) ∙ t.all) t.are

  module _ (sets : List Set) (begun : List (Option Told)) (cores : List Machine) (are : AreBegun sets begun cores) where
    pub cores_few : length sets ≤ 256 → length cores ≤ 256
    cores_few few = let fewer = nets_fewer sets in let same = zip_length (HasStarted steps) (nets_in sets) cores are.started in omega (arith, few, fewer, same)

    pub cores_home : All (λ (m : Machine). m.out ≡ []) cores
    cores_home = zip_all (HasStarted steps) (λ (m : Machine). m.out ≡ []) (λ net m start. ap (λ (m : Machine). m.out) start.1) (nets_in sets) cores are.started

    pub cores_whole : All (λ (m : Machine). m.is_broken ≡ false) cores
    cores_whole = zip_all (HasStarted steps) (λ (m : Machine). m.is_broken ≡ false) (λ net m start. ap (λ (m : Machine). m.is_broken) start.1) (nets_in sets) cores are.started

  -- After the runs

  module _ (workers : ℕ) where
    -- the cores of these nets were run
    all_gone : (nets : List Net) (cores : List Machine) (ran : List (Machine × RunEnd)) → AllZip (HasStarted steps) nets cores → AllZip (λ (m : Machine) (one : Machine × RunEnd). HasAdvanced m one.0 × Ends one.1 one.0 × IsLawful one.0) cores ran
        → (workers ≡ 1 → AllZip (λ (m : Machine) (one : Machine × RunEnd). HasRun m one.0) cores ran) → AllZip (λ net one. HasGone steps workers net one) nets ran
    all_gone [] [] [] p q alone = tt
    all_gone [] [] (one ∷ ran) p q alone = q
    all_gone [] (m ∷ cores) ran p q alone = absurd p
    all_gone (net ∷ nets) [] ran p q alone = absurd p
    all_gone (net ∷ nets) (m ∷ cores) [] p q alone = absurd q
    all_gone (net ∷ nets) (m ∷ cores) (one ∷ ran) p q alone = (
      record {
        whole = p.0.0;
        advances = subst (λ (m : Machine). HasAdvanced m one.0) p.0.1 q.0.0;
        alone = λ single. subst (λ (m : Machine). HasRun m one.0) p.0.1 (alone single).0;
        lawful = q.0.2;
        ends = q.0.1;
      },
      all_gone nets cores ran p.1 q.1 (λ single. (alone single).1),
    )

    module _ {S : Type 0} where
      -- the sets before those that are left have ended
      pub record Ending (sets : List Set) (begun : List (Option Told)) (ran : List (Machine × RunEnd)) (ended : List (Ended S)) : Type 0 where
        pub before : List Set
        pub left : List Set
        pub all : before ++ left ≡ sets
        pub done : AllZip (λ set one. HasEnded steps workers set one) before ended
        pub are : AreLeft steps workers left begun ran

      -- at first none have
      pub ends_none : (sets : List Set) (begun begun' : List (Option Told)) (cores : List Machine) (ran ran' : List (Machine × RunEnd)) (ended : List (Ended S)) → AreBegun sets begun cores
          → AllZip (λ (m : Machine) (one : Machine × RunEnd). HasAdvanced m one.0 × Ends one.1 one.0 × IsLawful one.0) cores ran
          → (workers ≡ 1 → AllZip (λ (m : Machine) (one : Machine × RunEnd). HasRun m one.0) cores ran) → begun' ≡ begun → ran' ≡ ran → ended ≡ [] → Ending sets begun' ran' ended
      ends_none sets begun begun' cores ran ran' ended are did alone same_begun same_ran none = record {
        before = [];
        left = sets;
        all = refl;
        done = subst (AllZip (λ set one. HasEnded steps workers set one) []) (sym none) tt;
        are = record {
          told = subst (AllZip IsToldOf sets) (sym same_begun) are.told;
          gone = subst (AllZip (λ net one. HasGone steps workers net one) (nets_in sets)) (sym same_ran) (all_gone (nets_in sets) cores ran are.started did alone);
        };
      }

      module _ (sets : List Set) (begun rest : List (Option Told)) (told : Option Told) (ran : List (Machine × RunEnd)) (ended : List (Ended S)) (t : Ending sets begun ran ended) (next : begun ≡ told ∷ rest) where
        -- one is left
        next_set : (left : List Set) → AreLeft steps workers left begun ran → (set : Set) × (more : List Set) × (left ≡ set ∷ more) × AreLeft steps workers (set ∷ more) (told ∷ rest) ran
        next_set [] are = absurd (subst (AllZip IsToldOf []) next are.told)
        next_set (set ∷ more) are = (set, more, refl, subst (λ z. AreLeft steps workers (set ∷ more) z ran) next are)

        here : (set : Set) × (more : List Set) × (t.left ≡ set ∷ more) × AreLeft steps workers (set ∷ more) (told ∷ rest) ran
        here = next_set t.left t.are

        pub next_left : (workers : ℕ) × (set : Set) × (more : List Set) × (rest : List (Option Told)) × AreLeft steps workers (set ∷ more) (told ∷ rest) ran
        next_left = (workers, here.0, here.1, rest, here.3)

        -- it has ended
        pub ends_on : (one : Ended S) (ran' : List (Machine × RunEnd)) (ended' : List (Ended S))
            → ((set : Set) (more : List Set) → AreLeft steps workers (set ∷ more) (told ∷ rest) ran → HasEnded steps workers set one × AreLeft steps workers more rest ran')
            → ended' ≡ ended ++ one ∷ [] → Ending sets rest ran' ended'
        ends_on one ran' ended' does more = record {
          before = t.before ++ here.0 ∷ [];
          left = here.1;
          all = append_assoc t.before (here.0 ∷ []) here.1 ∙ ap (λ z. t.before ++ z) (sym here.2) ∙ t.all;
          done = subst (AllZip (λ set one. HasEnded steps workers set one) (t.before ++ here.0 ∷ [])) (sym more)
              (zip_push (λ set one. HasEnded steps workers set one) t.before ended here.0 one t.done (does here.0 here.1 here.3).0);
          are = (does here.0 here.1 here.3).1;
        }

      -- all have
      pub ends_all : (sets : List Set) (begun : List (Option Told)) (ran : List (Machine × RunEnd)) (ended : List (Ended S)) → Ending sets begun ran ended → length begun ≡ 0 → AllZip (λ set one. HasEnded steps workers set one) sets ended
      ends_all sets begun ran ended t none =
          let left = zip_length IsToldOf t.left begun t.are.told in
          subst (λ z. AllZip (λ set one. HasEnded steps workers set one) z ended) (sym (append-nil t.before) ∙ ap (λ z. t.before ++ z) (sym (nil_from_length t.left (omega (arith, left, none)))) ∙ t.all) t.done

    -- one has, whose core was run
    module _ {S : Type 0} (sets : List Set) (begun : List (Option Told)) (one : Machine × RunEnd) (rest : List (Machine × RunEnd)) (ran : RanTo S) (core_is : ran.core ≡ one.0) (ends : EndsAs steps ran.core ran.outcome)
        (ready : Ready S) (makes : (net : Net) (steps workers : ℕ) → IsRun net steps workers ran.core ran.outcome → IsReady net steps workers None ready) where
      ready_on : (net : Net) → HasGone steps workers net one → IsReady net steps workers None ready
      ready_on net gone = makes net steps workers
          (subst (λ (m : Machine). IsRun net steps workers m ran.outcome) (sym core_is)
          (run_ended net steps workers (started net steps) one.0 refl gone.advances gone.lawful gone.alone ran.outcome (subst (λ (m : Machine). EndsAs steps m ran.outcome) core_is ends)))

      next_gone : (set : Set) → AreLeft steps workers (set ∷ sets) (None ∷ begun) (one ∷ rest) → HasEnded steps workers set (Ran ready) × AreLeft steps workers sets begun rest
      next_gone (Whole net) left = (ready_on net left.gone.0, record { told = left.told.1; gone = left.gone.1 })
      next_gone (Refused outcome) left = absurd left.told.0

      pub ends_gone : (set : Set) (told : Option Told) (all : List (Machine × RunEnd)) → told ≡ None → all ≡ one ∷ rest → AreLeft steps workers (set ∷ sets) (told ∷ begun) all → HasEnded steps workers set (Ran ready) × AreLeft steps workers sets begun rest
      ends_gone set told all none next left =
          next_gone set (subst (λ z. AreLeft steps workers (set ∷ sets) (None ∷ begun) z) next (subst (λ z. AreLeft steps workers (set ∷ sets) (z ∷ begun) all) none left))
