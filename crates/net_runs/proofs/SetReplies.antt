-- From sets that were fed and carried out to what the call decides.
use Rattle.std.proofs.Common.{◌≡◌, ℕ, ◌≤◌, List, [], ◌∷◌, length, map, refl, sym, ◌∙◌, ap, subst, arith, Some, None}
use Rattle.std.proofs.lemmas.List.{length-map}
use Rattle.std.proofs.lemmas.List.Elements.{All-cons, All-nil}
use Rattle.std.specs.List.{All, AllZip}
use Rattle.outside.specs.Device.{Device}
use Rattle.pipe_model.specs.declared.net.Net.{Net}
use Rattle.pipe_model.specs.Records.{lines}
use Rattle.call_words.specs.Command.{command_of}
use Rattle.call_words.specs.declared.command.Command.TheVariants.{Sets}
use Rattle.call_meaning.specs.declared.nets.Set.{Set}
use Rattle.call_meaning.specs.declared.nets.Set.TheVariants.{Whole, Refused}
use Rattle.call_meaning.specs.declared.status.Outcome.{Outcome}
use Rattle.call_meaning.specs.Answer.{Decides}
use Rattle.call_meaning.specs.Calls.{IsSetOf}
use Rattle.call_meaning.specs.Devices.{Outside, Store, outside}
use Rattle.call_meaning.specs.Effects.{Before, Effect}
use Rattle.call_meaning.specs.Meaning.{HasRunSets, SetMeans, fed_size, input_limit}
use Rattle.call_meaning.specs.Meaning.ComesTo.{ran_sets}
use Rattle.call_meaning.specs.Meaning.SetMeans.{set_ran, set_refused}
use Rattle.call_meaning.specs.Sets.{SetEnd, all_of}
use Rattle.call_streams.specs.declared.fetch.Found.{Found}
use Rattle.call_streams.specs.Feeding.{IsFed, nets_in, set_on}
use Rattle.call_streams.specs.Fetched.{AreOf, HasSets}
use Rattle.call_streams.proofs.SetReplies.{feeds_sets, listed_before, nets_of_sets}
use Rattle.net_runs.specs.declared.sets_run.Ended.{Ended}
use Rattle.net_runs.specs.declared.sets_run.Ended.TheVariants.{Ran, Unread}
use Rattle.net_runs.specs.ReadyRuns.{CarriesOut}
use Rattle.net_runs.specs.ReadyRuns.CarriesOut.{carried, unmade}
use Rattle.net_runs.specs.SetRuns.{EndsSo, HasEnded, IsWritable, SetsMean, end_of}
use Rattle.net_runs.proofs.Finishes.{ready_means}
use Rattle.net_runs.proofs.RunReplies.{decides_put, decides_unmade}
use Rattle.net_runs.proofs.Zips.{zip_length}

module _ {S : Type 0} (steps workers : ℕ) where
  -- What is to be written of sets

  -- a set that ended is ready to be written
  one_writable : (set : Set) (one : Ended S) → HasEnded steps workers set one → IsWritable one
  one_writable (Whole net) (Ran ready) is = (net, steps, workers, is)
  one_writable (Whole net) (Unread told) is = absurd is
  one_writable (Refused outcome) (Ran ready) is = absurd is
  one_writable (Refused outcome) (Unread told) is = is.1

  pub all_writable : (sets : List Set) (ended : List (Ended S)) → AllZip (λ set one. HasEnded steps workers set one) sets ended → All IsWritable ended
  all_writable [] [] are = All-nil IsWritable
  all_writable [] (one ∷ ended) are = absurd are
  all_writable (set ∷ sets) [] are = absurd are
  all_writable (set ∷ sets) (one ∷ ended) are = All-cons IsWritable one ended (one_writable set one are.0) (all_writable sets ended are.1)

  -- What a set came to

  one_end : (set : Set) (one : Ended S) → HasEnded steps workers set one → EndsSo steps workers set (end_of one)
  one_end (Whole net) (Ran ready) is = ready_means net steps workers None ready is
  one_end (Whole net) (Unread told) is = absurd is
  one_end (Refused outcome) (Ran ready) is = absurd is
  one_end (Refused outcome) (Unread told) is = (is.0, refl)

  pub all_ends : (sets : List Set) (ended : List (Ended S)) → AllZip (λ set one. HasEnded steps workers set one) sets ended → AllZip (λ set end. EndsSo steps workers set end) sets (map (λ one. end_of one) ended)
  all_ends [] [] are = tt
  all_ends [] (one ∷ ended) are = absurd are
  all_ends (set ∷ sets) [] are = absurd are
  all_ends (set ∷ sets) (one ∷ ended) are = (one_end set one are.0, all_ends sets ended are.1)

-- What a line means, by what the set that was read of it came to

module _ (steps workers : ℕ) (given : Before) where
  set_means : (spec : List ℕ) (set : Set) (end : SetEnd) → IsSetOf spec set → EndsSo steps workers (set_on given set) end → SetMeans given steps workers spec end
  set_means spec (Whole net) end of is = set_ran net of is
  set_means spec (Refused outcome) end of is = set_refused of.fault of.least (is.0 ∙ of.outcome_is) is.1

  sets_mean : (specs : List (List ℕ)) (sets : List Set) (ends : List SetEnd) → AllZip IsSetOf specs sets → AllZip (λ set end. EndsSo steps workers set end) (map (set_on given) sets) ends → AllZip (SetMeans given steps workers) specs ends
  sets_mean [] [] [] of are = tt
  sets_mean [] [] (end ∷ ends) of are = absurd are
  sets_mean [] (set ∷ sets) ends of are = absurd of
  sets_mean (spec ∷ specs) [] ends of are = absurd of
  sets_mean (spec ∷ specs) (set ∷ sets) [] of are = absurd are
  sets_mean (spec ∷ specs) (set ∷ sets) (end ∷ ends) of are = (set_means spec set end of.0 are.0, sets_mean specs sets ends of.1 are.1)

-- there are no more sets than lines
pub fed_few : (name : List ℕ) (steps : ℕ) (shelf middle : Store) (found : List Found) (text : List ℕ) → HasSets name steps shelf middle found text → (sets : List Set) → AllZip IsSetOf (lines text) sets →
    (fed_sets : List Set) (given : Before) → fed_sets ≡ map (set_on given) sets → length fed_sets ≤ 256
fed_few name steps shelf middle found text has sets of fed_sets given fed_is =
    let few = has.few.0 in
    let read = zip_length IsSetOf (lines text) sets of in
    let fed : length fed_sets ≡ length sets = ap length fed_is ∙ length-map sets (set_on given) in
    omega (arith, few, read, fed)

-- What the call decides

module _ (words : List (List ℕ)) (name : List ℕ) (workers steps : ℕ) (command : command_of words ≡ Some (Sets name workers steps)) (shelf middle : Store) (input output : Device) (found : List Found) (text : List ℕ)
    (has : HasSets name steps shelf middle found text) (sets : List Set) (of : AllZip IsSetOf (lines text) sets) where
  abbrev nets : Net
  nets = all_of (nets_in sets)

  -- so the words come to what the sets do
  abbrev sets_ran : (given : Before) → AreOf given.files found → fed_size given nets ≤ input_limit → (outcome : Outcome) (effect : Effect) → SetsMean steps workers (map (set_on given) sets) outcome effect → HasRunSets words given outcome effect
  sets_ran given known fits outcome effect did = record {
    specs = lines text;
    steps = steps;
    workers = workers;
    runs = record { name = name; command = command; text = text; stored = has.stored given.files known; lines_are = refl; few = has.few };
    nets = nets_in sets;
    nets_are = nets_of_sets (lines text) sets of;
    fits = fits;
    ends = did.ends;
    mean = sets_mean steps workers given (lines text) sets did.ends of did.each;
    outcome_is = did.outcome_is;
    effect_is = did.effect_is;
  }

  module _ (input' output' : Device) (fed_shelf shelf' : Store) (after : Net) (told : Outcome) where
    -- as the file of sets was fetched before, and that shows in no object
    decides_from : (took : IsFed nets found (outside input output shelf) (outside input' output fed_shelf) after) → CarriesOut (SetsMean steps workers (map (set_on took.given) sets)) output output' fed_shelf shelf' told →
        Decides words (outside input output shelf) (outside input' output' shelf') told
    decides_from took (carried outcome effect did puts) =
        decides_put words nets found input input' output shelf fed_shelf after took outcome effect (ran_sets (sets_ran took.given took.of took.fits outcome effect did)) took.used output' shelf' told puts
    decides_from took (unmade kept kept_shelf is) =
        decides_unmade words nets found input input' output shelf fed_shelf after took (feeds_sets words name workers steps command shelf middle found text has sets of) output' shelf' told kept kept_shelf is

    pub decides_sets : (took : IsFed nets found (outside input output middle) (outside input' output fed_shelf) after) (fed_sets : List Set) → fed_sets ≡ map (set_on took.given) sets →
        CarriesOut (SetsMean steps workers fed_sets) output output' fed_shelf shelf' told → Decides words (outside input output shelf) (outside input' output' shelf') told
    decides_sets took fed_sets fed_is does =
        subst (λ (z : Outside). (t : IsFed nets found z (outside input' output fed_shelf) after) → CarriesOut (SetsMean steps workers (map (set_on t.given) sets)) output output' fed_shelf shelf' told →
        Decides words (outside input output shelf) (outside input' output' shelf') told)
        (sym (listed_before words name workers steps command shelf middle input output found text has)) decides_from
        took (subst (λ z. CarriesOut (SetsMean steps workers z) output output' fed_shelf shelf' told) fed_is does)
