-- What it means that a coroutine takes each record that doesn't hold a string, and is then as before.
use Rattle.std.specs.Prelude.{◌≡◌, ℕ, ◌<◌, Bool, false, List, take}
use Rattle.std.specs.declared.option.Option.{Option}
use Rattle.std.specs.declared.option.Option.TheVariants.{None}
use Rattle.pipe_model.specs.declared.net.Strand.{Strand}
use Rattle.pipe_model.specs.declared.step.Want.TheVariants.{Read}
use Rattle.pipe_model.specs.Event.{Event}
use Rattle.pipe_model.specs.Members.{flag_at}
use Rattle.pipe_model.specs.Row.{Act}
use Rattle.pipe_model.specs.Search.{holds}
use Rattle.pipe_model.specs.Shape.{Records, Stream}
use Rattle.stage_steps.specs.Lists.{Sifts}
use Rattle.stage_steps.specs.Replies.{Replies}
use Rattle.stage_steps.specs.Walk.{LooksPlainly}
use Rattle.stage_steps.specs.declared.order.Order.TheVariants.{WritesFirst}
use Rattle.stage_steps.specs.declared.place.Place.TheVariants.{Looking}
use Rattle.stage_steps.specs.declared.reply.Reply.TheVariants.{Takes}
use Rattle.stage_steps.specs.declared.sifted.Sifted.TheVariants.{Passes}
use Rattle.stage_steps.specs.declared.walk.Walk.{Walk}

-- told of the sight of a record without the string it takes that, and is then as before
abbrev pub TakesWithout : {S : Type 0} → (S → Strand → List Event → Type 0) → S → List ℕ → Type 0
TakesWithout stands x string = (bytes : List ℕ) → holds string bytes ≡ false → Replies stands x x bytes (Read 0) Takes

-- the lists give a record without the string itself, once, for output 1, and are then as before
abbrev pub PassesWithout : {L : Type 0} → (L → Bool → Stream → Records → List Act → Type 0) → (L → Option (List ℕ)) → Bool → L → List ℕ → Type 0
PassesWithout stands made looks x string = (bytes : List ℕ) → holds string bytes ≡ false → Sifts stands made looks x x bytes (Passes 1)

-- it looks plainly at the next record, writes before it takes, has nothing to hand on, keeps no text, and the output isn't open
abbrev pub TakesPlainly : Walk → ℕ → Type 0
TakesPlainly w output = LooksPlainly w × (w.order ≡ WritesFirst) × (w.place ≡ Looking) × (w.kept ≡ None) × (flag_at w.outputs.flags.items output ≡ false)

-- the first so many bytes of a part, where they are any, don't hold the string
abbrev pub IsClear : List ℕ → List ℕ → ℕ → Type 0
IsClear string part count = 0 < count → holds string (take count part) ≡ false
