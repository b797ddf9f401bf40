-- How far what is to be done of sets was carried out, one set after another.
use Rattle.std.proofs.Common.{◌≡◌, ℕ, ◌+◌, List, [], ◌∷◌, ◌++◌, length, map, drop, refl, sym, ◌∙◌, ap, subst, true, append-nil, append_assoc, add-one, arith, ◌≤◌, ◌<◌, Option, Some, None, slice_index_or}
use Rattle.std.proofs.KnownBytes.{Appends-nil, Appends-trans}
use Rattle.std.proofs.lemmas.List.{nil_from_length}
use Rattle.std.proofs.lemmas.List.Elements.{All-head, All-tail}
use Rattle.std.proofs.lemmas.Option.{slice_get_read}
use Rattle.std.specs.Io.KnownBytes.{Appends}
use Rattle.std.specs.List.{All}
use Rattle.std.specs.Result.{MatchResult, is_err}
use Rattle.std.specs.declared.result.Result.{Result}
use Rattle.std.specs.declared.result.Result.TheVariants.{Ok, Err}
use Rattle.outside.specs.Device.{Device}
use Rattle.outside.specs.Files.{Files}
use Rattle.pipe_model.specs.Reply.{FileText}
use Rattle.call_meaning.specs.declared.status.Outcome.{Outcome}
use Rattle.call_meaning.specs.declared.status.Outcome.TheVariants.{WriteFault}
use Rattle.call_meaning.specs.Devices.{Steady, Store}
use Rattle.call_meaning.specs.Effects.{ArePartReplaced, AreReplaced, AreReplacedBut, Effect, files_after}
use Rattle.call_meaning.specs.Sets.{SetEnd, effect_of_sets}
use Rattle.call_streams.specs.Written.{IsPartWritten, IsWritten}
use Rattle.call_streams.proofs.Orders.{after_append, after_at}
use Rattle.call_streams.proofs.Replacements.{none_replaced, part_further, replaced_after}
use Rattle.net_runs.specs.declared.ready_run.Ready.{Ready}
use Rattle.net_runs.specs.declared.sets_run.Ended.{Ended}
use Rattle.net_runs.specs.declared.sets_run.Ended.TheVariants.{Ran}
use Rattle.net_runs.specs.Puts.{AreStored, AreStoredPart, put_text}
use Rattle.net_runs.specs.Ran.{run_effect}
use Rattle.net_runs.specs.ReadyRuns.{PutsOut}
use Rattle.net_runs.specs.ReadyRuns.PutsOut.{put_all, put_part, put_torn}
use Rattle.net_runs.specs.SetRuns.{IsWritable, end_of}
use Rattle.net_runs.specs.Traces.{trace_file}
use Rattle.net_runs.proofs.PutOuts.{stops_from}
use Rattle.net_runs.proofs.RunEffects.{effect_is}
use Rattle.net_runs.proofs.Runs.{drop_at, drop_none}
use Rattle.net_runs.proofs.Writes.{part_after}

-- Files, one part after another

-- these were replaced, and then those but one
but_after : (files before : List FileText) (name : List ℕ) (old now new : Option Files) → AreReplaced files old now → AreReplacedBut name before now new → AreReplacedBut name (files ++ before) old new
but_after files before name None None new first others = others
but_after files before name None (Some now) new first others = cc
but_after files before name (Some old) None new first others = absurd first
but_after files before name (Some old) (Some now) None first others = absurd others
but_after files before name (Some old) (Some now) (Some new) first others = λ other differs.
    others other differs ∙ after_at before now (files_after files old) other (first other) ∙ ap (λ (f : Files). f other) (sym (after_append files before old))

-- these were replaced, and then a part of those
part_behind : (name : List ℕ) (done files : List FileText) (old now new : Option Files) → AreReplaced done old now → ArePartReplaced name files now new → ArePartReplaced name (done ++ files) old new
part_behind name done files old now new first part = record {
  before = done ++ part.before;
  text = part.text;
  behind = part.behind;
  order = ap (λ z. done ++ z) part.order ∙ sym (append_assoc done part.before ((name, part.text) ∷ part.behind));
  others = but_after done part.before name old now new first part.others;
}

module _ {S : Type 0} where
  -- What sets are to write, and the files that they are to replace

  abbrev pub ends_of : List (Ended S) → List SetEnd
  ends_of sets = map (λ ended. end_of ended) sets

  abbrev pub output_of_all : List (Ended S) → List ℕ
  output_of_all sets = (effect_of_sets (ends_of sets)).output

  abbrev pub files_of_all : List (Ended S) → List FileText
  files_of_all sets = (effect_of_sets (ends_of sets)).files

  -- those of a run are its own: it has no journal's file
  module _ (one : Ended S) (ready : Ready S) (is : one ≡ Ran ready) (writable : IsWritable one) where
    ran : IsWritable (Ran ready)
    ran = subst IsWritable is writable

    same_effect : record (run_effect ready.core ready.told.outcome) { trace = trace_file ready.trace } ≡ (end_of one).effect
    same_effect = sym (effect_is ran.0 ran.1 ran.2 None ready ran.3) ∙ ap (λ (ended : Ended S). (end_of ended).effect) (sym is)

    pub ran_output : (run_effect ready.core ready.told.outcome).output ≡ (end_of one).effect.output
    ran_output = ap (λ (effect : Effect). effect.output) same_effect

    pub ran_files : map (put_text ready.core) ready.puts.items ≡ (end_of one).effect.files
    ran_files = ran.3.puts.files_are ∙ ap (λ (effect : Effect). effect.files) same_effect

  -- The output

  -- what the sets before one were to write was written
  pub record HasWritten (k : ℕ) (sets : List (Ended S)) (old new : Device) : Type 0 where
    pub done : List ℕ
    pub gained : Appends old.bytes new.bytes done
    pub left : done ++ output_of_all (drop k sets) ≡ output_of_all sets
    pub steady : Steady old new

  -- at first nothing was
  pub wrote_none : (sets : List (Ended S)) (old : Device) → HasWritten 0 sets old old
  wrote_none sets old = record { done = []; gained = Appends-nil old.bytes; left = refl; steady = refl }

  module _ (k : ℕ) (sets : List (Ended S)) (one : Ended S) (lt : k < length sets) (at : one ≡ slice_index_or sets k one) (old now : Device) (before : HasWritten k sets old now) where
    abbrev output : List ℕ
    output = (end_of one).effect.output

    with_one : (before.done ++ output) ++ output_of_all (drop (k + 1) sets) ≡ output_of_all sets
    with_one =
        append_assoc before.done output (output_of_all (drop (k + 1) sets))
        ∙ ap (λ n. before.done ++ (output ++ output_of_all (drop n sets))) (add-one k)
        ∙ ap (λ z. before.done ++ output_of_all z) (sym (drop_at sets k one (slice_get_read sets (length sets) k one refl lt at)))
        ∙ before.left

    -- one set more
    pub wrote_one : (new : Device) → IsWritten output now new → HasWritten (k + 1) sets old new
    wrote_one new wrote = record {
      done = before.done ++ output;
      gained = Appends-trans old.bytes now.bytes new.bytes before.done output before.gained wrote.gained;
      left = with_one;
      steady = wrote.steady ∙ before.steady;
    }

    -- one that wasn't written whole
    pub one_unwritten : (all : List (Ended S)) → sets ≡ all → (new : Device) (outcome : Outcome) → IsPartWritten output now new outcome → IsPartWritten (output_of_all all) old new outcome
    one_unwritten all same new outcome part =
        part_after (output_of_all all) before.done output (output_of_all (drop (k + 1) sets)) (with_one ∙ ap output_of_all same) old now new outcome before.gained before.steady part

  -- all was written
  pub wrote_all : (sets all : List (Ended S)) → sets ≡ all → (k : ℕ) → k ≤ length sets → length sets ≤ k → (old new : Device) → HasWritten k sets old new → IsWritten (output_of_all all) old new
  wrote_all sets all same k within past old new before = record {
    gained = subst (λ done. Appends old.bytes new.bytes done) whole before.gained;
    steady = before.steady;
  }
    where
      end : k ≡ length sets
      end = omega (arith, within, past)

      whole : before.done ≡ output_of_all all
      whole =
          sym (append-nil before.done)
          ∙ ap (λ z. before.done ++ output_of_all z) (sym (drop_none sets))
          ∙ ap (λ n. before.done ++ output_of_all (drop n sets)) (sym end)
          ∙ before.left
          ∙ ap output_of_all same

  -- The files

  -- the files of the sets before those that are left were replaced
  pub record HasReplaced (sets left : List (Ended S)) (old new : Store) : Type 0 where
    pub done : List FileText
    pub replaced : AreReplaced done old.files new.files
    pub rest : done ++ files_of_all left ≡ files_of_all sets
    pub writable : All IsWritable left
    pub steady : new.faults ≡ old.faults
    pub wants : new.wants ≡ old.wants

  -- at first none were
  pub replaced_none : (sets : List (Ended S)) (old : Store) → All IsWritable sets → HasReplaced sets sets old old
  replaced_none sets old writable = record { done = []; replaced = none_replaced old.files; rest = refl; writable = writable; steady = refl; wants = refl }

  module _ (sets later : List (Ended S)) (one : Ended S) (old now : Store) (before : HasReplaced sets (one ∷ later) old now) where
    -- what is known of the next set
    pub next_writable : IsWritable one
    next_writable = All-head IsWritable one later before.writable

    abbrev files : List FileText
    files = (end_of one).effect.files

    with_files : (before.done ++ files) ++ files_of_all later ≡ files_of_all sets
    with_files = append_assoc before.done files (files_of_all later) ∙ before.rest

    -- one set more
    pub replaced_one : (new : Store) → AreStored files now new → HasReplaced sets later old new
    replaced_one new stored = record {
      done = before.done ++ files;
      replaced = replaced_after before.done files old.files now.files new.files before.replaced stored.replaced;
      rest = with_files;
      writable = All-tail IsWritable one later before.writable;
      steady = stored.steady ∙ before.steady;
      wants = stored.wants ∙ before.wants;
    }

    -- one of which a file wasn't
    pub one_torn : (all : List (Ended S)) → sets ≡ all → (new : Store) (told : Outcome) → AreStoredPart files now new told → AreStoredPart (files_of_all all) old new told
    one_torn all same new told part = record {
      name = part.name;
      part = subst (λ files. ArePartReplaced part.name files old.files new.files) (with_files ∙ ap files_of_all same)
          (part_further part.name (before.done ++ files) (files_of_all later) old.files new.files (part_behind part.name before.done files old.files now.files new.files before.replaced part.part));
      stops = stops_from part.name old now new told before.steady before.wants part.stops;
    }

  -- all were replaced
  pub replaced_all : (sets all left : List (Ended S)) → sets ≡ all → length left ≡ 0 → (old new : Store) → HasReplaced sets left old new → AreStored (files_of_all all) old new
  replaced_all sets all left same none old new before = record {
    replaced = subst (λ files. AreReplaced files old.files new.files) whole before.replaced;
    steady = before.steady;
    wants = before.wants;
  }
    where
      whole : before.done ≡ files_of_all all
      whole = sym (append-nil before.done) ∙ ap (λ z. before.done ++ files_of_all z) (sym (nil_from_length left none)) ∙ before.rest ∙ ap files_of_all same

  -- Both

  module _ (sets : List (Ended S)) (output output' : Device) (shelf : Store) (outcome : Outcome) where
    abbrev Puts : Store → Outcome → Type 0
    Puts after told = PutsOut (effect_of_sets (ends_of sets)) output output' shelf after outcome told

    -- the output couldn't be written whole
    pub sets_unwritten : (wrote : Result (Unit {0}) Outcome) (P : Type 0) (Q : Outcome → Type 0) → is_err wrote ≡ true → MatchResult wrote (λ _. P) Q → ((fault : Outcome) → Q fault → IsPartWritten (output_of_all sets) output output' fault) →
        (told : Outcome) → told ≡ WriteFault → Puts shelf told
    sets_unwritten (Ok _) P Q failed did whole told is = cc
    sets_unwritten (Err fault) P Q failed did whole told is =
        put_part (subst (λ outcome. IsPartWritten (output_of_all sets) output output' outcome) ((whole fault did).fault ∙ sym is) (whole fault did)) refl

    module _ (shelf' : Store) (wrote : IsWritten (output_of_all sets) output output') where
      -- not all files were replaced
      pub sets_torn : (told : Outcome) → AreStoredPart (files_of_all sets) shelf shelf' told → Puts shelf' told
      sets_torn told part = put_torn part.name wrote (part_further part.name (files_of_all sets) [] shelf.files shelf'.files part.part) part.stops

      -- all were
      pub sets_put : AreStored (files_of_all sets) shelf shelf' → Puts shelf' outcome
      sets_put stored = put_all wrote
          (record { replaced = subst (λ files. AreReplaced files shelf.files shelf'.files) (sym (append-nil (files_of_all sets))) stored.replaced; steady = stored.steady; wants = stored.wants }) refl
