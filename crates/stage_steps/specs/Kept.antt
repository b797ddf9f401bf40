-- How the text that a stage keeps goes on.
use Rattle.std.specs.Prelude.{ℕ, List, [], ◌∷◌, ◌++◌}
use Rattle.pipe_model.specs.declared.step.Seen.{Seen}
use Rattle.pipe_model.specs.declared.step.Seen.TheVariants.{Saw, Took}
use Rattle.stage_steps.specs.KeptText.{KeptText}

abbrev pub nothing_kept : KeptText
nothing_kept = record { all = []; taken = [] }

-- what is kept after an event that came with these bytes
abbrev pub kept_after : Seen → List ℕ → KeptText → KeptText
kept_after (Saw i) bytes kept = record { all = (kept.all ++ bytes) ++ 10 ∷ []; taken = kept.taken }
kept_after (Took i) bytes kept = record { all = kept.all; taken = kept.all }
kept_after _ bytes kept = kept
