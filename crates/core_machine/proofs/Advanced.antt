-- A coroutine that passes a record on goes on where it isn't told that its record was put or the one at hand taken.
use Rattle.std.proofs.Common.{◌≡◌, ℕ, false, ◌||◌, List, ◌∷◌, Some, sym, ◌∙◌, ap}
use Rattle.std.proofs.Math.Bool.{or-false}
use Rattle.pipe_model.specs.declared.net.Strand.{Strand}
use Rattle.pipe_model.specs.declared.step.Seen.{Seen}
use Rattle.pipe_model.specs.declared.step.Seen.TheVariants as Told
use Rattle.pipe_model.specs.declared.step.Want.{Want as Asked}
use Rattle.pipe_model.specs.declared.step.Want.TheVariants as Ask
use Rattle.pipe_model.specs.Event.{Event}
use Rattle.pipe_model.specs.Event.Event.{Up, Saw, SawEnd, SawAllEnd, Took, Put, Refused, Primed, Opened, Joined, Severed, Ended}
use Rattle.stage_steps.specs.Coroutine.{Resumes}
use Rattle.stage_steps.specs.PassesOn.{PassesPut, PassesTook}
use Rattle.core_machine.specs.declared.actor.Actor.{Actor}
use Rattle.core_machine.specs.Actors.{is_end, asking_for, gone_on}

-- what is kept of a strand whose coroutine isn't told
pub gone_on_kept : {S : Type 0} (a : Actor S) (x : S) (seen : Seen) (asked : Asked) → a.stage ≡ Some x → is_end seen ≡ false → asking_for asked a ≡ gone_on seen x asked a.passes a
gone_on_kept {S} a x seen asked was goes =
    ap (λ stage. record { stage = stage; asked = asked; looks = a.looks; saw_end = a.saw_end; passes = a.passes }) was
    ∙ ap (λ b. record { stage = Some x; asked = asked; looks = a.looks; saw_end = b; passes = a.passes }) (sym (ap (λ b. a.saw_end || b) goes ∙ or-false a.saw_end))

module _ {S : Type 0} (stands : S → Strand → List Event → Type 0) (x : S) (bytes : List ℕ) where
  -- what went on may change to a value that stands for all that it stood for
  pub resumes_same : (y z : S) (seen : Seen) (asked : Asked) → Resumes stands x y seen bytes asked → ((s : Strand) (h : List Event) → stands y s h → stands z s h) → Resumes stands x z seen bytes asked
  resumes_same y z seen asked resumed same s h e told = let on = resumed s h e told in (same s (e ∷ h) on.0, on.1, on.2)

  -- its record was put
  pub resumes_put : PassesPut stands x → (o : ℕ) → Resumes stands x x (Told.Put o) bytes (Ask.Take 0)
  resumes_put passes o s h (Up l c) told = (let no = told.seen_is in cc)
  resumes_put passes o s h (Saw j r) told = (let no = told.seen_is in cc)
  resumes_put passes o s h (SawEnd j) told = (let no = told.seen_is in cc)
  resumes_put passes o s h SawAllEnd told = (let no = told.seen_is in cc)
  resumes_put passes o s h (Took j) told = (let no = told.seen_is in cc)
  resumes_put passes o s h (Put o2 r) told = let on = passes s h o2 r told.stood told.answer in (on.0, sym on.1, tt)
  resumes_put passes o s h (Refused o2) told = (let no = told.seen_is in cc)
  resumes_put passes o s h (Primed b) told = (let no = told.seen_is in cc)
  resumes_put passes o s h (Opened k) told = (let no = told.seen_is in cc)
  resumes_put passes o s h (Joined k c) told = (let no = told.seen_is in cc)
  resumes_put passes o s h (Severed k) told = (let no = told.seen_is in cc)
  resumes_put passes o s h (Ended c) told = (let no = told.seen_is in cc)

  -- it took a record
  pub resumes_took : PassesTook stands x → (i : ℕ) → Resumes stands x x (Told.Took i) bytes (Ask.Read 0)
  resumes_took passes i s h (Up l c) told = (let no = told.seen_is in cc)
  resumes_took passes i s h (Saw j r) told = (let no = told.seen_is in cc)
  resumes_took passes i s h (SawEnd j) told = (let no = told.seen_is in cc)
  resumes_took passes i s h SawAllEnd told = (let no = told.seen_is in cc)
  resumes_took passes i s h (Took j) told = let on = passes s h j told.stood told.answer in (on.0, sym on.1, tt)
  resumes_took passes i s h (Put o2 r) told = (let no = told.seen_is in cc)
  resumes_took passes i s h (Refused o2) told = (let no = told.seen_is in cc)
  resumes_took passes i s h (Primed b) told = (let no = told.seen_is in cc)
  resumes_took passes i s h (Opened k) told = (let no = told.seen_is in cc)
  resumes_took passes i s h (Joined k c) told = (let no = told.seen_is in cc)
  resumes_took passes i s h (Severed k) told = (let no = told.seen_is in cc)
  resumes_took passes i s h (Ended c) told = (let no = told.seen_is in cc)
