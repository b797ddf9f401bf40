-- What workers leave of many cores, and runs in one thread after them.
use Rattle.std.proofs.Common.{◌≡◌, List, [], true, refl, ◌⊎◌}
use Rattle.std.specs.List.{All, AllZip}
use Rattle.core_machine.specs.Machine.{Machine, IsLawful}
use Rattle.core_machine.specs.Answered.{HasRun, Ends}
use Rattle.core_machine.specs.declared.job.RunEnd.{RunEnd}
use Rattle.workers.specs.Driven.{HasAdvanced, LeftByWorkers}
use Rattle.workers.proofs.Together.{left_as_it_was, run_advances}
use Rattle.many_sets.specs.Finished.{IsFinished}
use Rattle.many_sets.proofs.Zips.{zip_all, zip_self, zip_through, zip_weaker}

-- cores that no worker had
pub all_as_they_were : (cores : List Machine) → All (λ (m : Machine). m.out ≡ []) cores → AllZip LeftByWorkers cores cores
all_as_they_were cores home = zip_self (λ (m : Machine). m.out ≡ []) LeftByWorkers (λ m out. left_as_it_was m m out refl) cores home

-- each may be run, or is broken
pub all_may_run : (cores left : List Machine) → AllZip LeftByWorkers cores left → All (λ (m : Machine). (m.out ≡ []) ⊎ (m.is_broken ≡ true)) left
all_may_run cores left zip = zip_all LeftByWorkers (λ (m : Machine). (m.out ≡ []) ⊎ (m.is_broken ≡ true)) (λ m n l. l.home) cores left zip

pub all_advance : (cores left : List Machine) (ran : List (Machine × RunEnd)) → AllZip LeftByWorkers cores left → AllZip (λ (m : Machine) (one : Machine × RunEnd). IsFinished m one.0 one.1) left ran
    → AllZip (λ (m : Machine) (one : Machine × RunEnd). HasAdvanced m one.0 × Ends one.1 one.0 × IsLawful one.0) cores ran
all_advance cores left ran by_workers finished =
    zip_through LeftByWorkers (λ (m : Machine) (one : Machine × RunEnd). IsFinished m one.0 one.1) (λ (m : Machine) (one : Machine × RunEnd). HasAdvanced m one.0 × Ends one.1 one.0 × IsLawful one.0)
    (λ m n one l f. (run_advances m n one.0 l f.whole f.run, f.ends, f.lawful)) cores left ran by_workers finished

pub all_ran : (cores : List Machine) (ran : List (Machine × RunEnd)) → AllZip (λ (m : Machine) (one : Machine × RunEnd). IsFinished m one.0 one.1) cores ran
    → AllZip (λ (m : Machine) (one : Machine × RunEnd). HasRun m one.0) cores ran
all_ran cores ran finished = zip_weaker (λ (m : Machine) (one : Machine × RunEnd). IsFinished m one.0 one.1) (λ (m : Machine) (one : Machine × RunEnd). HasRun m one.0) (λ m one f. f.run) cores ran finished
