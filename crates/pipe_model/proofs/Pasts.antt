-- A strand's past after one more event, in one piece.
use Rattle.std.proofs.Common.{ℕ, Bool, true, cond, List, ◌∷◌}
use Rattle.pipe_model.specs.Event.{Event}
use Rattle.pipe_model.specs.Row.{Row, Act, Goal}
use Rattle.pipe_model.specs.Next.{Phase, Past, hears, known_after, refused_after, phase_after, after_answer as answered, after_refusal as refusing}
use Rattle.pipe_model.specs.Next.Phase.{Lost}

-- by the phase before it
abbrev pub after : Row → List Bool → Past → Phase → Event → Past
after w outputs p f e = record {
  known = known_after f p.known e;
  refused = refused_after p.refused e;
  phase = phase_after w outputs (known_after f p.known e) (refused_after p.refused e) f e;
}

-- where it asked for something, by whether the event answers that
abbrev pub when_asked : Row → List Bool → Past → Event → Bool → Past
when_asked w outputs p e b = record {
  known = cond b (hears p.known e) p.known;
  refused = refused_after p.refused e;
  phase = cond b (answered w outputs (cond b (hears p.known e) p.known) (refused_after p.refused e) e) Lost;
}

-- at the answer to that
abbrev pub after_answer : Row → List Bool → Past → Event → Past
after_answer w outputs p e = when_asked w outputs p e true

-- at a refusal of what it was to write
abbrev pub after_refusal : Row → List Bool → Past → ℕ → List Act → Goal → Past
after_refusal w outputs p o acts goal = record { known = p.known; refused = o ∷ p.refused; phase = refusing w outputs (o ∷ p.refused) acts goal }
