-- From what a call decides and tells to what it answers.
use Rattle.std.proofs.Common.{◌≡◌, ◌≢◌, ⊎_elim, ℕ, ◌+◌, ◌<◌, ◌≤◌, Bool, true, false, cond, List, length, refl, ◌∙◌, ap, subst, arith, length-append, Option, Some, None}
use Rattle.std.specs.Option.{IfSome}
use Rattle.std.proofs.KnownBytes.{Consumes-whole}
use Rattle.std.specs.Io.KnownBytes.{Consumes}
use Rattle.outside.specs.Device.{Device}
use Rattle.pipe_model.specs.declared.net.Net.{Net}
use Rattle.net_graph.specs.Fed.{reads_any}
use Rattle.call_meaning.specs.declared.status.Status.{Status}
use Rattle.call_meaning.specs.declared.status.Status.TheVariants as Told
use Rattle.call_meaning.specs.declared.status.Outcome.{Outcome}
use Rattle.call_meaning.specs.declared.status.Outcome.TheVariants.{ReadFault, WriteFault, ShelfFault, NoMemory}
use Rattle.call_meaning.specs.Effects.{Before, Effect}
use Rattle.call_meaning.specs.Status.{status_of}
use Rattle.call_meaning.specs.Devices.{Outside, AllSteady, NoneFailed, Steady, Failed, IsDone}
use Rattle.call_meaning.specs.Meaning.{CheckMeans, ComesTo, IsTooLarge, Means, RunMeans, fed_size, input_limit, net_on}
use Rattle.call_meaning.specs.Meaning.ComesTo.{ran, checked, linted, sampled, ran_sets}
use Rattle.call_meaning.specs.Meaning.Means.{unrun as means_unrun, unfit as means_unfit, too_large as means_large, came as means_came}
use Rattle.call_meaning.specs.Sets.{all_of}
use Rattle.call_meaning.specs.Answer.{HasCause, HasDone, HasUsed, IsTold, IsTorn, IsUsed, Decides, Reports, Answers}
use Rattle.call_meaning.specs.Answer.HasCause.{unrun, unfit, too_large, came, fetch_failed, read_failed, write_failed, no_memory}
use Rattle.call_meaning.specs.Answer.HasDone.{whole, half}
use Rattle.call_meaning.specs.Answer.IsTorn.{torn_failed, torn_memory}
use Rattle.call_meaning.proofs.Headlines.{headline}
use Rattle.call_meaning.proofs.Unread.{fed_unread}
use Rattle.call_meaning.proofs.UnreadSets.{sets_unread}

-- an outcome that is no fault was decided without one
module _ (words : List (List ℕ)) (old new : Outside) (given : Before) (effect : Effect) (decided : Outcome) (no_read : decided ≢ ReadFault) (no_write : decided ≢ WriteFault) (no_shelf : (name : List ℕ) → decided ≢ ShelfFault name) where
  unfailed_cause : HasCause words old new given effect decided → AllSteady old new
  unfailed_cause (unrun why unread done steady) = steady
  unfailed_cause (unfit why unread done steady) = steady
  unfailed_cause (too_large large is done steady) = steady
  unfailed_cause (came comes used steady) = steady
  unfailed_cause (fetch_failed name fetching unread is done input output failed) = absurd (no_shelf name is)
  unfailed_cause (read_failed reading is done failed output shelf) = absurd (no_read is)
  unfailed_cause (write_failed written is input failed shelf) = absurd (no_write is)
  unfailed_cause (no_memory is done read steady) = steady

  unfailed_torn : (name : List ℕ) → IsTorn old new name decided → new.shelf.faults ≡ old.shelf.faults
  unfailed_torn name (torn_failed is failed) = absurd (no_shelf name is)
  unfailed_torn name (torn_memory is steady wanted) = steady

  pub unfailed : HasDone words old new given effect decided → AllSteady old new
  unfailed (whole done cause) = unfailed_cause cause
  unfailed (half part) = record { input = part.input; output = part.output; shelf = unfailed_torn part.name part.torn }

-- what was given is no more than there was
some_given : (given : List ℕ) (old new : Option (List ℕ)) → Consumes old new given → IfSome old (λ all. length given ≤ length all)
some_given given None new gave = tt
some_given given (Some all) None gave = absurd gave
some_given given (Some all) (Some left) gave = omega (arith, ap length gave, length-append given left)

-- a fact that every value has
at_some : {P : List ℕ → Type 0} (o : Option (List ℕ)) → ((x : List ℕ) → P x) → IfSome o P
at_some None f = tt
at_some (Some x) f = f x

-- a fact that follows from another
weaker_some : {P Q : List ℕ → Type 0} (o : Option (List ℕ)) → ((x : List ℕ) → P x → Q x) → IfSome o P → IfSome o Q
weaker_some None f h = tt
weaker_some (Some x) f h = f x h

-- more of the input is no less to feed
more_fed : (reads : Bool) (a b rest : ℕ) → a ≤ b → input_limit < cond reads a 0 + rest → input_limit < cond reads b 0 + rest
more_fed true a b rest more large = omega (arith, more, large)
more_fed false a b rest more large = large

abbrev on_all : Before → List ℕ → Before
on_all given input = record given { input = input }

-- a net that doesn't read the input is the same on any
module _ (given : Before) (net : Net) (leaves : reads_any net ≡ false) (input : List ℕ) where
  unread_same : net_on given net ≡ net_on (on_all given input) net
  unread_same = fed_unread given.input input given.files net leaves

  unread_fits : fed_size given net ≤ input_limit → fed_size (on_all given input) net ≤ input_limit
  unread_fits fits =
      let mine = ap (λ b. cond b (length given.input) 0) leaves in
      let other = ap (λ b. cond b (length input) 0) leaves in
      omega (arith, mine, other, fits)

module _ (words : List (List ℕ)) (old new : Outside) where
  module _ (decided : Outcome) (d : Decides words old new decided) where
    abbrev Meant : List ℕ → Type 0
    Meant input = Means words (on_all d.given input) decided d.effect

    -- what words come to on what a net was given they mean on all
    module _ (net : Net) (used : IsUsed net d.given new.input) (comes : ComesTo words d.given decided d.effect) where
      used_meant : ((leaves : reads_any net ≡ false) (input : List ℕ) → ComesTo words (on_all d.given input) decided d.effect) → IfSome old.input.bytes Meant
      used_meant unread = go (reads_any net) refl
        where
          go : (b : Bool) → reads_any net ≡ b → IfSome old.input.bytes Meant
          go true is = Consumes-whole old.input.bytes new.input.bytes d.given.input Meant d.gave (used.reads is) (means_came comes)
          go false is = at_some old.input.bytes (λ all. means_came (unread is all))

    come_meant : (comes : ComesTo words d.given decided d.effect) → HasUsed words d.given decided d.effect comes new.input → IfSome old.input.bytes Meant
    come_meant (ran r) used = used_meant r.net used (ran r) (λ leaves all. ran (record {
      net = r.net;
      steps = r.steps;
      trace = r.trace;
      runs = r.runs;
      fits = unread_fits d.given r.net leaves all r.fits;
      means = subst (λ net. RunMeans net r.steps r.runs.run.workers r.trace decided d.effect) (unread_same d.given r.net leaves all) r.means;
    }))
    come_meant (checked c) used = used_meant c.net used (checked c) (λ leaves all. checked (record {
      net = c.net;
      journal = c.journal;
      checks = c.checks;
      fits = unread_fits d.given c.net leaves all c.fits;
      means = subst (λ net. CheckMeans net c.journal decided d.effect) (unread_same d.given c.net leaves all) c.means;
    }))
    come_meant (linted l) used = at_some old.input.bytes (λ all. means_came (linted l))
    come_meant (sampled s) used = at_some old.input.bytes (λ all. means_came (sampled s))
    come_meant (ran_sets r) used = used_meant (all_of r.nets) used (ran_sets r) (λ leaves all. ran_sets (record {
      specs = r.specs;
      steps = r.steps;
      workers = r.workers;
      runs = r.runs;
      nets = r.nets;
      nets_are = r.nets_are;
      fits = unread_fits d.given (all_of r.nets) leaves all r.fits;
      ends = r.ends;
      mean = sets_unread d.given all r.steps r.workers r.specs r.nets r.ends r.nets_are leaves r.mean;
      outcome_is = r.outcome_is;
      effect_is = r.effect_is;
    }))

    large_meant : IsTooLarge words d.given → (all : List ℕ) → length d.given.input ≤ length all → IsTooLarge words (on_all d.given all)
    large_meant large all more = record { net = large.net; feeds = large.feeds; large = more_fed (reads_any large.net) _ _ _ more large.large }

    -- unhindered it was decided for what the words mean on all that the input tells
    module _ (none : NoneFailed old new) (some : decided ≢ NoMemory) where
      all_meant_by : HasCause words old new d.given d.effect decided → IfSome old.input.bytes Meant
      all_meant_by (unrun why unread done steady) = at_some old.input.bytes (λ all. means_unrun why done)
      all_meant_by (unfit why unread done steady) = at_some old.input.bytes (λ all. means_unfit why done)
      all_meant_by (too_large large is done steady) =
          weaker_some old.input.bytes (λ all more. means_large (large_meant large all more) is done) (some_given d.given.input old.input.bytes new.input.bytes d.gave)
      all_meant_by (came comes used steady) = come_meant comes used
      all_meant_by (fetch_failed name fetching unread is done input output failed) = absurd (none.shelf failed)
      all_meant_by (read_failed reading is done failed output shelf) = absurd (none.input failed)
      all_meant_by (write_failed written is input failed shelf) = absurd (none.output failed)
      all_meant_by (no_memory is done read steady) = absurd (some is)

      -- and for what they mean on what it gave
      given_meant_by : HasCause words old new d.given d.effect decided → Means words d.given decided d.effect
      given_meant_by (unrun why unread done steady) = means_unrun why done
      given_meant_by (unfit why unread done steady) = means_unfit why done
      given_meant_by (too_large large is done steady) = means_large large is done
      given_meant_by (came comes used steady) = means_came comes
      given_meant_by (fetch_failed name fetching unread is done input output failed) = absurd (none.shelf failed)
      given_meant_by (read_failed reading is done failed output shelf) = absurd (none.input failed)
      given_meant_by (write_failed written is input failed shelf) = absurd (none.output failed)
      given_meant_by (no_memory is done read steady) = absurd (some is)

      -- so all of it was done
      whole_of : HasDone words old new d.given d.effect decided → IsDone d.effect old new × HasCause words old new d.given d.effect decided
      whole_of (whole done cause) = (done, cause)
      whole_of (half part) = absurd (untorn part.torn)
        where
          untorn : {name : List ℕ} → IsTorn old new name decided → ⊥
          untorn (torn_failed is failed) = none.shelf failed
          untorn (torn_memory is steady wanted) = some is

      pub all_meant : IfSome old.input.bytes Meant
      all_meant = all_meant_by (whole_of d.done).1

      given_meant : Means words d.given decided d.effect
      given_meant = given_meant_by (whole_of d.done).1

      all_done : IsDone d.effect old new
      all_done = (whole_of d.done).0

  module _ (diag diag' : Device) (status : Status) where
    -- the status and its text were told whole
    pub told_whole : (decided : Outcome) → ¬ Failed diag diag' → Reports decided status diag diag' → IsTold decided status diag diag'
    told_whole decided unfailed reports = ⊎_elim (λ told. told) (λ half. absurd (unfailed half.failed)) reports

    -- memory wasn't wanted
    pub some_memory : (decided : Outcome) → IsTold decided status diag diag' → status ≢ Told.NoMemory → decided ≢ NoMemory
    some_memory decided told some is = some (told.same ∙ ap status_of is)

    pub answers : (decided : Outcome) → Decides words old new decided → Reports decided status diag diag' → Answers words old new diag diag' status
    answers decided d reports = record {
      decided = decided;
      decides = d;
      reports = reports;
      headline = λ free.
          (let told = told_whole decided free.told reports in
          let some = some_memory decided told free.memory in
          (headline words d.given decided d.effect (given_meant decided d free.none some), all_done decided d free.none some, told));
    }

    -- a status that is no fault leaves the counts of faults as they were
    pub steady : Answers words old new diag diag' status → status ≢ Told.ReadFault → status ≢ Told.WriteFault → status ≢ Told.ShelfFault → AllSteady old new × Steady diag diag'
    steady a no_read no_write no_shelf =
        ⊎_elim
        (λ told. (unfailed words old new a.decides.given a.decides.effect a.decided (λ is. no_read (told.same ∙ ap status_of is)) (λ is. no_write (told.same ∙ ap status_of is)) (λ name is. no_shelf (told.same ∙ ap status_of is)) a.decides.done, told.steady))
        (λ half. absurd (no_write half.turned))
        a.reports
