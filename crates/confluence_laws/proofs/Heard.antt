-- What a strand hears of what it asked for.
use Rattle.std.proofs.Common.{◌≡◌, ℕ, Bool, true, List, refl, Some}
use Rattle.pipe_model.specs.Event.{Event, Want, answers}
use Rattle.pipe_model.specs.Event.Event.{Refused}
use Rattle.pipe_model.specs.Event.Want.{Commit, Read, Any, Gate, Take, Write, Prime, Issue, Join, Sever, Done}
use Rattle.pipe_model.specs.Row.{Known, Row}
use Rattle.pipe_model.specs.Next.{Past, hears, begins_plan}
use Rattle.pipe_model.proofs.Pasts.{after_answer}
use Rattle.confluence_laws.proofs.Facts.{IsFiniteLook}

-- no look of a finite row is answered by a refusal
pub never_refused : (k : Known) (want : Want) (o : ℕ) → IsFiniteLook k want → answers (Some want) (Refused o) ≡ true → ⊥
never_refused k (Read i) o finite it = cc
never_refused k Any o finite it = cc
never_refused k Prime o finite it = cc
never_refused k (Commit level) o finite it = absurd finite
never_refused k Gate o finite it = absurd finite
never_refused k (Take i) o finite it = absurd finite
never_refused k (Write p rec) o finite it = absurd finite
never_refused k (Issue text) o finite it = absurd finite
never_refused k (Join u) o finite it = absurd finite
never_refused k (Sever s) o finite it = absurd finite
never_refused k (Done code) o finite it = absurd finite

-- so it goes on by its plan
pub heard_plain : (w : Row) (outputs : List Bool) (p : Past) (want : Want) (e : Event) → IsFiniteLook p.known want → answers (Some want) e ≡ true →
    after_answer w outputs p e ≡ record { known = hears p.known e; refused = p.refused; phase = begins_plan outputs p.refused (w.plan (hears p.known e)) }
heard_plain w outputs p want (Refused o) finite it = absurd (never_refused p.known want o finite it)
heard_plain w outputs p want _ finite it = refl
