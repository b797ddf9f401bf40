-- From what was fed and carried out to what the call decides.
use Rattle.std.proofs.Common.{◌≡◌, ℕ, List, [], refl, sym, ◌∙◌, ap, subst, Option}
use Rattle.outside.specs.Device.{Device}
use Rattle.outside.specs.Faults.{Rose}
use Rattle.outside.specs.Files.{Files}
use Rattle.pipe_model.specs.declared.net.Net.{Net}
use Rattle.call_streams.specs.declared.fetch.Found.{Found}
use Rattle.call_meaning.specs.declared.status.Outcome.{Outcome}
use Rattle.call_meaning.specs.declared.status.Outcome.TheVariants.{NoMemory, ShelfFault}
use Rattle.call_meaning.specs.Answer.{Decides, HasUsed, IsTorn}
use Rattle.call_meaning.specs.Answer.HasCause.{came, write_failed}
use Rattle.call_meaning.specs.Answer.HasDone.{whole, half}
use Rattle.call_meaning.specs.Answer.IsTorn.{torn_failed, torn_memory}
use Rattle.call_meaning.specs.Devices.{Outside, Store, outside}
use Rattle.call_meaning.specs.Effects.{ArePartReplaced, AreReplaced, Effect, output_of, replaced_by}
use Rattle.call_meaning.specs.Meaning.{ComesTo, FeedsNet, HasRun, RunMeans, RunsNet, net_on}
use Rattle.call_meaning.specs.Meaning.ComesTo.{ran}
use Rattle.call_meaning.specs.Meaning.FeedsNet.{of_run}
use Rattle.call_streams.specs.Feeding.{IsFed}
use Rattle.call_streams.specs.Fetched.{AreOf}
use Rattle.net_runs.specs.ReadyRuns.{CarriesOut, PutsOut}
use Rattle.net_runs.specs.ReadyRuns.CarriesOut.{carried, unmade}
use Rattle.net_runs.specs.Puts.{StopsStoring}
use Rattle.net_runs.specs.ReadyRuns.PutsOut.{put_all, put_part, put_torn}
use Rattle.call_streams.proofs.Feedings.{decides_no_memory}
use Rattle.call_streams.proofs.Replacements.{none_replaced}

module _ (words : List (List ℕ)) (net : Net) (found : List Found) (input input' output : Device) (shelf fed_shelf : Store) (after : Net) (took : IsFed net found (outside input output shelf) (outside input' output fed_shelf) after) where
  -- What the words came to on what was fed was carried out, or its last part wasn't

  module _ (outcome : Outcome) (effect : Effect) (comes : ComesTo words took.given outcome effect) (used : HasUsed words took.given outcome effect comes input') (output' : Device) (shelf' : Store) where
    abbrev old : Outside
    old = outside input output shelf

    abbrev new : Outside
    new = outside input' output' shelf'

    -- why a replacement ended
    torn : (name : List ℕ) (told : Outcome) → StopsStoring name fed_shelf shelf' told → IsTorn old new name told
    torn name (ShelfFault other) stops = torn_failed (ap ShelfFault stops.0) (subst (λ n. Rose n shelf'.faults) took.steady.shelf stops.1)
    torn name NoMemory stops = torn_memory refl (stops.0 ∙ took.steady.shelf) (subst (λ n. Rose n shelf'.wants) took.wants stops.1)
    torn name _ stops = absurd stops

    pub decides_put : (told : Outcome) → PutsOut effect output output' fed_shelf shelf' outcome told → Decides words old new told
    decides_put told (put_all wrote stored told_is) = subst (λ o. Decides words old new o) (sym told_is) (record {
      given = took.given;
      effect = effect;
      gave = took.gave;
      found = took.found;
      done = whole
          (record { output = wrote.gained; files = subst (λ (files : Option Files). AreReplaced (replaced_by effect) files shelf'.files) took.kept stored.replaced })
          (came comes used (record { input = took.steady.input; output = wrote.steady; shelf = stored.steady ∙ took.steady.shelf }));
    })
    decides_put told (put_part part kept) = record {
      given = took.given;
      effect = output_of part.wrote;
      gave = took.gave;
      found = took.found;
      done = whole
          (record { output = part.gained; files = subst (λ (files : Option Files). AreReplaced [] shelf.files files) (sym (ap (λ (s : Store). s.files) kept ∙ took.kept)) (none_replaced shelf.files) })
          (write_failed (record { outcome = outcome; whole = effect; comes = comes; used = used; wrote = part.wrote; cut = part.cut; effect_is = refl }) part.fault took.steady.input part.failed
          (ap (λ (s : Store). s.faults) kept ∙ took.steady.shelf));
    }
    decides_put told (put_torn name wrote part stops) = record {
      given = took.given;
      effect = effect;
      gave = took.gave;
      found = took.found;
      done = half (record {
        outcome = outcome;
        comes = comes;
        used = used;
        name = name;
        done = record { output = wrote.gained; files = subst (λ (files : Option Files). ArePartReplaced name (replaced_by effect) files shelf'.files) took.kept part };
        torn = torn name told stops;
        input = took.steady.input;
        output = wrote.steady;
      });
    }

  -- memory was wanted behind it, and nothing was written
  pub decides_unmade : (feeds : (files : Files) → AreOf files found → FeedsNet words files net) (output' : Device) (shelf' : Store) (told : Outcome) → output' ≡ output → shelf' ≡ fed_shelf → told ≡ NoMemory →
      Decides words (outside input output shelf) (outside input' output' shelf') told
  decides_unmade feeds output' shelf' told same kept is =
      subst (λ o. Decides words (outside input output shelf) (outside input' output' shelf') o) (sym is)
      (subst (λ d. Decides words (outside input output shelf) (outside input' d shelf') NoMemory) (sym same)
      (subst (λ s. Decides words (outside input output shelf) (outside input' output s) NoMemory) (sym kept)
      (decides_no_memory words net found (outside input output shelf) (outside input' output fed_shelf) refl feeds after took)))

  -- The run of a net

  module _ (steps : ℕ) (trace : Option (List ℕ)) (runs : RunsNet words net steps trace) (workers : ℕ) (same : runs.run.workers ≡ workers) where
    module _ (outcome : Outcome) (effect : Effect) (does : RunMeans after steps workers trace outcome effect) where
      means : RunMeans (net_on took.given net) steps runs.run.workers trace outcome effect
      means = subst (λ n. RunMeans (net_on took.given net) steps n trace outcome effect) (sym same) (subst (λ on. RunMeans on steps workers trace outcome effect) took.after_is does)

      abbrev run : HasRun words took.given outcome effect
      run = record { net = net; steps = steps; trace = trace; runs = runs; fits = took.fits; means = means }

    pub decides_run : (output' : Device) (shelf' : Store) (told : Outcome) → CarriesOut (RunMeans after steps workers trace) output output' fed_shelf shelf' told → Decides words (outside input output shelf) (outside input' output' shelf') told
    decides_run output' shelf' told (carried outcome effect does puts) = decides_put outcome effect (ran (run outcome effect does)) took.used output' shelf' told puts
    decides_run output' shelf' told (unmade kept kept_shelf is) = decides_unmade (λ files of. of_run steps trace runs) output' shelf' told kept kept_shelf is
