-- What a coroutine promises by its answer to the sight of a record of input 0.
use Rattle.std.specs.Prelude.{ℕ, ◌+◌, ◌<◌, List, [], length}
use Rattle.pipe_model.specs.declared.net.Strand.{Strand}
use Rattle.pipe_model.specs.declared.step.Seen.TheVariants.{Saw, Took}
use Rattle.pipe_model.specs.declared.step.Want.{Want}
use Rattle.pipe_model.specs.declared.step.Want.TheVariants.{Read, Take}
use Rattle.pipe_model.specs.Event.{Event}
use Rattle.stage_steps.specs.Coroutine.{IsTold, Resumes}
use Rattle.stage_steps.specs.PassesOn.{PassesOn}
use Rattle.stage_steps.specs.declared.reply.Reply.{Reply}
use Rattle.stage_steps.specs.declared.reply.Reply.TheVariants.{Takes, Passes, Asks}

-- there is a strand, a history for which the value stands, and the sight of a record on the input that answers what is wanted there, with room for one event more
abbrev pub CanSee : {S : Type 0} → (S → Strand → List Event → Type 0) → S → ℕ → List ℕ → Type 0
CanSee stands x i bytes = (s : Strand) × (h : List Event) × (e : Event) × IsTold stands x (Saw i) bytes s h e × (length h + 1 < 50000000)

-- where it takes the record it was told of the sight, and then that the record was taken; else of the sight alone, and it asks for this
abbrev pub Replies : {S : Type 0} → (S → Strand → List Event → Type 0) → S → S → List ℕ → Want → Reply → Type 0
Replies {S} stands x y bytes asked Takes = (between : S) × Resumes stands x between (Saw 0) bytes (Take 0) × Resumes stands between y (Took 0) [] (Read 0)
Replies stands x y bytes asked Passes = Resumes stands x y (Saw 0) bytes asked × PassesOn stands y
Replies stands x y bytes asked Asks = Resumes stands x y (Saw 0) bytes asked
