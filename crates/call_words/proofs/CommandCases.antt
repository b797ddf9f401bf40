-- What words mean, computed.
use Rattle.std.proofs.Common.{◌≡◌, refl, codes, [], ◌∷◌}
use Rattle.std.specs.Prelude.{Some, None}
use Rattle.clap.proofs.OnLiterals.{clap_on_literals}
use Rattle.call_words.specs.Command.{command_of}
use Rattle.call_words.specs.declared.command.Command.TheVariants.{Run, Check, Lint, Sample, Sets}

only_a_spec : command_of (codes "x" ∷ []) ≡ Some (Run (codes "x") 4 4000000 None)
unfolding clap_on_literals
only_a_spec = refl

steps_after : command_of (codes "x" ∷ codes "--steps" ∷ codes "27" ∷ []) ≡ Some (Run (codes "x") 4 27 None)
unfolding clap_on_literals
steps_after = refl

steps_before : command_of (codes "--steps=27" ∷ codes "x" ∷ []) ≡ Some (Run (codes "x") 4 27 None)
unfolding clap_on_literals
steps_before = refl

too_many_workers : command_of (codes "x" ∷ codes "--workers" ∷ codes "65" ∷ []) ≡ None
unfolding clap_on_literals
too_many_workers = refl

no_steps : command_of (codes "x" ∷ codes "--steps" ∷ codes "0" ∷ []) ≡ None
unfolding clap_on_literals
no_steps = refl

too_many_steps : command_of (codes "x" ∷ codes "--steps" ∷ codes "50000001" ∷ []) ≡ None
unfolding clap_on_literals
too_many_steps = refl

a_check : command_of (codes "x" ∷ codes "--check" ∷ codes "n" ∷ []) ≡ Some (Check (codes "x") (codes "n"))
unfolding clap_on_literals
a_check = refl

check_and_steps : command_of (codes "x" ∷ codes "--check" ∷ codes "n" ∷ codes "--steps" ∷ codes "5" ∷ []) ≡ None
unfolding clap_on_literals
check_and_steps = refl

the_sample : command_of (codes "--sample" ∷ codes "5" ∷ []) ≡ Some (Sample 5 4 4000000)
unfolding clap_on_literals
the_sample = refl

sample_and_spec : command_of (codes "--sample" ∷ codes "5" ∷ codes "x" ∷ []) ≡ None
unfolding clap_on_literals
sample_and_spec = refl

sample_and_trace : command_of (codes "--sample" ∷ codes "5" ∷ codes "--trace" ∷ codes "t" ∷ []) ≡ None
unfolding clap_on_literals
sample_and_trace = refl

two_specs : command_of (codes "x" ∷ codes "y" ∷ []) ≡ None
unfolding clap_on_literals
two_specs = refl

no_words : command_of ([]) ≡ None
unfolding clap_on_literals
no_words = refl

unknown_option : command_of (codes "--nosuch" ∷ codes "x" ∷ []) ≡ None
unfolding clap_on_literals
unknown_option = refl

no_help : command_of (codes "--help" ∷ []) ≡ None
unfolding clap_on_literals
no_help = refl

steps_twice : command_of (codes "x" ∷ codes "--steps" ∷ codes "1" ∷ codes "--steps" ∷ codes "2" ∷ []) ≡ None
unfolding clap_on_literals
steps_twice = refl

a_spec_after_the_end_of_options : command_of (codes "--" ∷ codes "--steps" ∷ []) ≡ Some (Run (codes "--steps") 4 4000000 None)
unfolding clap_on_literals
a_spec_after_the_end_of_options = refl

no_value : command_of (codes "x" ∷ codes "--trace" ∷ []) ≡ None
unfolding clap_on_literals
no_value = refl

a_value_with_a_minus : command_of (codes "x" ∷ codes "--steps" ∷ codes "-5" ∷ []) ≡ None
unfolding clap_on_literals
a_value_with_a_minus = refl

an_attached_value_with_a_minus : command_of (codes "--trace=-x" ∷ codes "y" ∷ []) ≡ Some (Run (codes "y") 4 4000000 (Some (codes "-x")))
unfolding clap_on_literals
an_attached_value_with_a_minus = refl

a_minus_alone : command_of (codes "-" ∷ []) ≡ Some (Run (codes "-") 4 4000000 None)
unfolding clap_on_literals
a_minus_alone = refl

an_empty_spec : command_of (codes "" ∷ []) ≡ Some (Run (codes "") 4 4000000 None)
unfolding clap_on_literals
an_empty_spec = refl

a_lint : command_of (codes "x" ∷ codes "--lint" ∷ []) ≡ Some (Lint (codes "x"))
unfolding clap_on_literals
a_lint = refl

a_lint_before : command_of (codes "--lint" ∷ codes "x" ∷ []) ≡ Some (Lint (codes "x"))
unfolding clap_on_literals
a_lint_before = refl

lint_with_a_value : command_of (codes "x" ∷ codes "--lint=1" ∷ []) ≡ None
unfolding clap_on_literals
lint_with_a_value = refl

lint_twice : command_of (codes "x" ∷ codes "--lint" ∷ codes "--lint" ∷ []) ≡ None
unfolding clap_on_literals
lint_twice = refl

lint_and_steps : command_of (codes "x" ∷ codes "--lint" ∷ codes "--steps" ∷ codes "5" ∷ []) ≡ None
unfolding clap_on_literals
lint_and_steps = refl

lint_and_sample : command_of (codes "--lint" ∷ codes "--sample" ∷ codes "5" ∷ []) ≡ None
unfolding clap_on_literals
lint_and_sample = refl

lint_alone : command_of (codes "--lint" ∷ []) ≡ None
unfolding clap_on_literals
lint_alone = refl

the_sets : command_of (codes "--sets" ∷ codes "s" ∷ []) ≡ Some (Sets (codes "s") 4 100000)
unfolding clap_on_literals
the_sets = refl

sets_in_steps : command_of (codes "--sets" ∷ codes "s" ∷ codes "--steps" ∷ codes "11" ∷ codes "--workers" ∷ codes "2" ∷ []) ≡ Some (Sets (codes "s") 2 11)
unfolding clap_on_literals
sets_in_steps = refl

sets_and_spec : command_of (codes "--sets" ∷ codes "s" ∷ codes "x" ∷ []) ≡ None
unfolding clap_on_literals
sets_and_spec = refl

sets_and_sample : command_of (codes "--sets" ∷ codes "s" ∷ codes "--sample" ∷ codes "5" ∷ []) ≡ None
unfolding clap_on_literals
sets_and_sample = refl

sets_and_trace : command_of (codes "--sets" ∷ codes "s" ∷ codes "--trace" ∷ codes "t" ∷ []) ≡ None
unfolding clap_on_literals
sets_and_trace = refl

sets_and_check : command_of (codes "--sets" ∷ codes "s" ∷ codes "--check" ∷ codes "c" ∷ []) ≡ None
unfolding clap_on_literals
sets_and_check = refl

sets_and_lint : command_of (codes "--sets" ∷ codes "s" ∷ codes "--lint" ∷ []) ≡ None
unfolding clap_on_literals
sets_and_lint = refl

sets_of_no_name : command_of (codes "--sets" ∷ codes "" ∷ []) ≡ None
unfolding clap_on_literals
sets_of_no_name = refl

sets_in_no_steps : command_of (codes "--sets" ∷ codes "s" ∷ codes "--steps" ∷ codes "0" ∷ []) ≡ None
unfolding clap_on_literals
sets_in_no_steps = refl
