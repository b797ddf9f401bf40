-- The strand is told that its record was put, which is the least event.
use Rattle.std.proofs.Common.{◌≡◌, ℕ, Bool, false, ◌+◌, ◌<◌, List, Option, Some, length, slice_get, arith, sym, ◌∙◌, ap, subst}
use Rattle.std.specs.Prelude.{slice_index_or}
use Rattle.pipe_model.specs.declared.net.Link.{Link}
use Rattle.pipe_model.specs.declared.net.Net.{Net}
use Rattle.pipe_model.specs.declared.net.Strand.{Strand}
use Rattle.pipe_model.specs.declared.step.Entry.{Entry}
use Rattle.pipe_model.specs.declared.step.Seen.TheVariants.{Put}
use Rattle.pipe_model.specs.Event.{Event}
use Rattle.record_pool.specs.PoolState.{PoolState}
use Rattle.run_desk.specs.Desk.{DeskState}
use Rattle.run_desk.specs.Standing.{link_through}
use Rattle.core_machine.specs.declared.actor.Actor.{Actor}
use Rattle.core_machine.specs.Answered.{LeastEvent}
use Rattle.core_machine.specs.Machine.{Machine}
use Rattle.core_machine.specs.Sound.{IsSound}
use Rattle.core_machine.proofs.Tellings.{IsTelling, telling}

-- the core is sound, and the strand is home, with its coroutine
pub offer : {S : Type 0} {stands : S → Strand → List Event → Type 0} {net : Net} {budget : ℕ} {journal : List Entry} {out : List ℕ} {actors : List (Actor S)} {d : DeskState} {pool : PoolState} {b : Bool}
    {s o : ℕ} {a : Actor S} (m : Machine) → ◌≡◌ {A = Machine} (record { net = net; budget = budget; journal = journal; out = out; is_broken = b }) m →
    IsSound stands net budget journal out actors d pool → LeastEvent m (Some (s, o, Put o)) → length m.journal + 1 < m.budget → a ≡ slice_index_or actors s a →
    IsTelling stands net budget journal out actors d pool s o (Put o) a
offer {S} {stands} {net} {budget} {journal} {out} {actors} {d} {pool} {b} {s} {o} {a} m view sound least space read =
    let below : length m.journal < m.budget = omega (arith, space) in
    telling stands net budget journal out actors d pool b s o (Put o) a sound (subst (λ (z : Machine). LeastEvent z (Some (s, o, Put o))) (sym view) least)
    (subst (λ (z : Machine). length z.journal < z.budget) (sym view) below) read

-- the door leads to a rendezvous
pub plain : (links : List Link) (door : Option ℕ) (j : ℕ) → door ≡ Some j → (l : Link) × (slice_get links j ≡ Some l) × (l.queue ≡ false) →
    (link : Link) → link_through links door ≡ Some link → link.queue ≡ false
plain links door j is found link there =
    let both : Some found.0 ≡ Some link = sym found.1 ∙ sym (ap (link_through links) is) ∙ there in
    let same : found.0 ≡ link = cc in
    subst (λ (z : Link). z.queue ≡ false) same found.2
