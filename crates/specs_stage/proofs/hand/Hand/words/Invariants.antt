use Rattle.std.proofs.Common.{◌≡◌, length}
use Rattle.specs_stage.specs.Hands.{AreFound}
use Rattle.specs_stage.proofs.hand.Hand.words.Given as goal

abbrev pub invariant-loop-word : goal.invariant-loop-word
invariant-loop-word l = AreFound l.self-inside.rec.now l.self-inside.rest.now l.self-inside.found.items × (l.self-inside.rec.now ≡ l.fn.self)

abbrev pub decreases-loop-word : goal.decreases-loop-word
decreases-loop-word l = length l.self-inside.rest.now
