-- The command that the words of a call mean.
use Rattle.std.specs.Prelude.{◌&&◌, ◌||◌, ◌<◌, ◌≤◌, ⊤, ℕ, Bool, false, List, [], ◌∷◌, Option, Some, None, true, codes, if◌then◌else◌, is_some, length, nat_le, option_and_then, option_map}
use Rattle.std.specs.Str.{all_ascii_digits, bytes_eq}
use Rattle.clap.specs.Words.{App, Rule, Text, first_of, fault_of, matches_of, new_app, new_rule, with_rule}
use Rattle.clap.specs.Kinds.{Kinds}
use Rattle.clap.specs.declared.builder.action.ArgAction.TheVariants.{SetTrue}
use Rattle.argument_parts.specs.Numbers.{decimal}
use Rattle.call_words.specs.declared.command.Command.{Command}
use Rattle.call_words.specs.declared.command.Command.TheVariants.{Run, Check, Lint, Sample, Sets}

-- ---- what clap reads

-- an option of this name, with one value
abbrev pub option : Text → Rule
option name = record (new_rule name) { long = Some name }

-- an option of this name, without a value
abbrev pub flag : Text → Rule
flag name = record (new_rule name) { long = Some name; action = Some SetTrue }

-- one optional positional, six options and a flag, with no help flag; the words are those after the program's name
abbrev pub app : App
app =
    let named = new_app (codes "pipe") in
    let bare = record named { top = record named.top { disable_help_flag = true; no_binary_name = true } } in
    let spec = with_rule bare (new_rule (codes "spec")) in
    let workers = with_rule spec (option (codes "workers")) in
    let steps = with_rule workers (option (codes "steps")) in
    let trace = with_rule steps (option (codes "trace")) in
    let check = with_rule trace (option (codes "check")) in
    let sample = with_rule check (option (codes "sample")) in
    let sets = with_rule sample (option (codes "sets")) in
    with_rule sets (flag (codes "lint"))

-- the positional and the options' values, where they are given
pub record Given : Type 0 where
  pub spec : Option Text
  pub workers : Option Text
  pub steps : Option Text
  pub trace : Option Text
  pub check : Option Text
  pub sample : Option Text
  pub sets : Option Text
  pub lint : Option Text

-- each by its id
abbrev pub given_by : (Text → Option Text) → Given
given_by value = record {
  spec = value (codes "spec");
  workers = value (codes "workers");
  steps = value (codes "steps");
  trace = value (codes "trace");
  check = value (codes "check");
  sample = value (codes "sample");
  sets = value (codes "sets");
  lint = value (codes "lint");
}

-- ---- numbers and names

-- a number is one to ten decimal digits, from `least` to `most`
abbrev pub number_in : ℕ → ℕ → Text → Option ℕ
number_in least most word =
    if nat_le 1 (length word) && nat_le (length word) 10 && all_ascii_digits word && nat_le least (decimal word) && nat_le (decimal word) most
    then Some (decimal word) else None

-- the same, where an option that isn't given has a default
abbrev pub number_or : ℕ → ℕ → ℕ → Option Text → Option ℕ
number_or default least most None = Some default
number_or default least most (Some word) = number_in least most word

-- 1 to 64, and 4 by default
abbrev pub workers_in : Option Text → Option ℕ
workers_in = number_or 4 1 64

-- 1 to 50,000,000, and 4,000,000 by default
abbrev pub steps_in : Option Text → Option ℕ
steps_in = number_or 4000000 1 50000000

-- 1 to 50,000,000 a set, and 100,000 by default
abbrev pub set_steps_in : Option Text → Option ℕ
set_steps_in = number_or 100000 1 50000000

-- a name is 1 to 255 bytes
abbrev pub name_in : Text → Option Text
name_in word = if nat_le 1 (length word) && nat_le (length word) 255 then Some word else None

-- the name that an option may give
abbrev pub name_if : Option Text → Option (Option Text)
name_if None = Some None
name_if (Some word) = option_map Some (name_in word)

-- the flag is given: the parser says so by a word
abbrev pub is_on : Option Text → Bool
is_on None = false
is_on (Some word) = bytes_eq word (codes "true")

-- ---- what is demanded

-- a run: --workers, --steps and --trace may stand with SPEC
abbrev pub run_of : Text → Given → Option Command
run_of spec given =
    option_and_then (λ workers.
    option_and_then (λ steps.
    option_map (λ trace. Run spec workers steps trace)
    (name_if given.trace)) (steps_in given.steps)) (workers_in given.workers)

-- a check: no other option stands with --check
abbrev pub check_of : Text → Text → Given → Option Command
check_of spec name given =
    if is_some given.workers || is_some given.steps || is_some given.trace then None
    else option_map (Check spec) (name_in name)

-- the sample, of 1 to 200,000 lines: --trace doesn't stand with --sample
abbrev pub sample_of : Text → Given → Option Command
sample_of lines given =
    if is_some given.trace then None
    else option_and_then (λ lines.
    option_and_then (λ workers.
    option_map (Sample lines workers)
    (steps_in given.steps)) (workers_in given.workers)) (number_in 1 200000 lines)

-- the sets of a file: --trace doesn't stand with --sets
abbrev pub sets_of : Text → Given → Option Command
sets_of name given =
    if is_some given.trace then None
    else option_and_then (λ name.
    option_and_then (λ workers.
    option_map (Sets name workers)
    (set_steps_in given.steps)) (workers_in given.workers)) (name_in name)

-- the lint of a specification: no option stands with --lint
abbrev pub lint_of : Given → Option Command
lint_of given =
    if is_some given.workers || is_some given.steps || is_some given.trace || is_some given.check || is_some given.sample || is_some given.sets then None
    else option_map Lint given.spec

-- by SPEC, --check, --sample and --sets, where --lint isn't there: SPEC is there exactly where neither --sample nor --sets is, --check stands
-- with SPEC alone, and --sample doesn't stand with --sets
abbrev pub form_of : Option Text → Option Text → Option Text → Option Text → Given → Option Command
form_of (Some spec) None None None given = run_of spec given
form_of (Some spec) (Some name) None None given = check_of spec name given
form_of None None (Some lines) None given = sample_of lines given
form_of None None None (Some name) given = sets_of name given
form_of _ _ _ _ given = None

abbrev pub demanded : Given → Option Command
demanded given = if is_on given.lint then lint_of given else form_of given.spec given.check given.sample given.sets given

-- clap finds a fault
abbrev pub IsFaulty : Kinds → Type 0
IsFaulty [] = ⊥
IsFaulty (kind ∷ kinds) = ⊤

-- where clap finds no fault
abbrev pub unless_faulty : Kinds → Option Command → Option Command
unless_faulty [] command = command
unless_faulty (kind ∷ kinds) command = None

-- the command that words mean; None is a fault of usage
abbrev pub command_of : List Text → Option Command
command_of words = unless_faulty (fault_of app words) (demanded (given_by (λ id. first_of id (matches_of app words))))

-- a run, a sample and sets have 1 to 64 workers and at most 50,000,000 steps, and sets have at least one step
abbrev pub IsWithinRanges : Command → Type 0
IsWithinRanges (Run spec workers steps trace) = (0 < workers) × (workers ≤ 64) × (steps ≤ 50000000)
IsWithinRanges (Check spec name) = ⊤
IsWithinRanges (Lint spec) = ⊤
IsWithinRanges (Sample lines workers steps) = (0 < workers) × (workers ≤ 64) × (steps ≤ 50000000)
IsWithinRanges (Sets name workers steps) = (0 < workers) × (workers ≤ 64) × (0 < steps) × (steps ≤ 50000000)
