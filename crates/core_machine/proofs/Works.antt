-- The job that a turn gave is run on the bytes of the room, and finished.
use Rattle.std.proofs.Common.{◌≡◌, ℕ, suc, true, List, [], ◌∷◌, ◌++◌, length, refl, sym, ◌∙◌, ap, subst, Some}
use Rattle.std.specs.Prelude.{take, IfOk}
use Rattle.pipe_model.specs.declared.net.Strand.{Strand}
use Rattle.pipe_model.specs.declared.step.Entry.{Entry}
use Rattle.pipe_model.specs.Event.{Event}
use Rattle.pipe_model.specs.Licence.{licence, none_left}
use Rattle.pipe_model.specs.Play.{play}
use Rattle.pipe_model.proofs.Lists.{length_more}
use Rattle.stage_steps.specs.Coroutine.{bytes_with, CanResume, Resumes}
use Rattle.confluence_laws.proofs.LeftOut.{licensed_too}
use Rattle.core_machine.specs.declared.job.Turned.TheVariants.{Work}
use Rattle.core_machine.specs.Answered.{TurnedAs}
use Rattle.core_machine.specs.Jobs.{JobState, FinishedState, JobStands, HasGoneOn, DoneStands}
use Rattle.core_machine.specs.Machine.{Machine, left_by, is_among, looks_at, state_of}
use Rattle.core_machine.proofs.GoesOn.{among_end}
use Rattle.core_machine.proofs.Jobs.{can_run, done_take, if_ok}

front_and_last : {X : Type 0} (xs ys : List X) (x y : X) → xs ++ x ∷ [] ≡ ys ++ y ∷ [] → (xs ≡ ys) × (x ≡ y)
front_and_last [] [] x y e = (refl, cc)
front_and_last [] (z ∷ []) x y e = cc
front_and_last [] (z ∷ w ∷ zs) x y e = cc
front_and_last (z ∷ []) [] x y e = cc
front_and_last (z ∷ w ∷ zs) [] x y e = cc
front_and_last (z ∷ zs) (w ∷ ws) x y e =
    let heads : z ≡ w = cc in
    let tails : zs ++ x ∷ [] ≡ ws ++ y ∷ [] = cc in
    let rest = front_and_last zs ws x y tails in
    let fronts = rest.0 in
    (cc, rest.1)

module _ {S : Type 0} (stands : S → Strand → List Event → Type 0) (m n : Machine) (s k room : ℕ) (job : JobState S) (bytes : List ℕ) (turned : TurnedAs stands m s k room (Work job) n bytes) where
  given : JobStands stands n.net n.journal job
  given = turned.5

  its_event : given.event ≡ turned.6.0
  its_event =
      let ends = front_and_last m.journal given.before _ given.entry (sym (ap (λ (z : Machine). z.journal) turned.2) ∙ given.journal_is) in
      let journals : given.before ≡ m.journal = sym ends.0 in
      let streams : given.entry.stream ≡ k = ap (λ (z : Entry). z.stream) (sym ends.1) in
      let nets : n.net ≡ m.net = ap (λ (z : Machine). z.net) turned.2 in
      let strands : job.strand ≡ s = turned.3 in
      let was : licence n.net (play n.net given.before) none_left job.strand given.entry.stream ≡ Some given.event = given.licensed in
      let may : licence m.net (play m.net m.journal) none_left s k ≡ Some turned.6.0 = licensed_too m.net (state_of m) (left_by m.journal m.out) s k turned.6.0 turned.6.1 in
      cc

  -- the bytes of the room are those of the job's event
  its_bytes : bytes_with (looks_at n.net job.strand) given.event ≡ bytes
  its_bytes =
      let strands : job.strand ≡ s = turned.3 in
      let nets : n.net ≡ m.net = ap (λ (z : Machine). z.net) turned.2 in
      let event : given.event ≡ turned.6.0 = its_event in
      let right : bytes ≡ bytes_with (looks_at m.net s) turned.6.0 = turned.6.2 in
      cc

  -- the job may be run on them
  pub work_runs : CanResume stands job.stage job.seen bytes
  work_runs = can_run stands n.net n.journal job given bytes its_bytes

  -- what it gives may be finished
  pub work_done : (done : FinishedState S) → done.strand ≡ job.strand → done.place ≡ job.place
      → IfOk done.want (λ want. Resumes stands job.stage done.stage job.seen bytes want)
      → DoneStands stands n.net (take done.place n.journal) done
  work_done done strand place resumes = if_ok done.want (λ w resumed.
      subst (λ z. HasGoneOn stands n.net (take done.place n.journal) z done.place done.stage w) (sym strand)
      (subst (λ z. HasGoneOn stands n.net (take z n.journal) job.strand z done.stage w) (sym place)
      (done_take stands n.net n.journal job given bytes its_bytes done.stage w resumed))) resumes

  -- and its place is one of those that are out
  pub work_among : (done : FinishedState S) → done.place ≡ job.place → is_among done.place n.out ≡ true
  work_among done place =
      let here : done.place ≡ suc (length m.journal) = place ∙ given.place_is ∙ ap (λ (z : Machine). length z.journal) turned.2 ∙ length_more m.journal (record { strand = s; stream = k }) in
      ap (λ p. is_among p n.out) here ∙ ap (λ (z : Machine). is_among (suc (length m.journal)) z.out) turned.2 ∙ among_end (suc (length m.journal)) m.out
