-- The strand is told that it sees the record at hand, which is the least event, and what its coroutine answers.
use Rattle.std.proofs.Common.{◌≡◌, ℕ, Bool, ◌+◌, ◌<◌, true, List, Some, length, arith, refl, sym, ◌∙◌, subst}
use Rattle.std.specs.Prelude.{slice_index_or}
use Rattle.pipe_model.specs.declared.net.Net.{Net}
use Rattle.pipe_model.specs.declared.net.Strand.{Strand}
use Rattle.pipe_model.specs.declared.step.Entry.{Entry}
use Rattle.pipe_model.specs.declared.step.Seen.TheVariants.{Saw}
use Rattle.pipe_model.specs.declared.step.Want.{Want}
use Rattle.pipe_model.specs.Event.{Event}
use Rattle.record_pool.specs.PoolState.{PoolState}
use Rattle.run_desk.specs.Desk.{DeskState}
use Rattle.stage_steps.specs.Coroutine.{Resumes}
use Rattle.stage_steps.specs.PassesOn.{PassesOn}
use Rattle.stage_steps.specs.declared.reply.Reply.{Reply}
use Rattle.stage_steps.specs.declared.reply.Reply.TheVariants.{Takes, Passes, Asks}
use Rattle.core_machine.specs.declared.actor.Actor.{Actor}
use Rattle.run_desk.specs.Telling as Telling
use Rattle.run_desk.specs.Turns.{desk_after_turn, pool_after_turn}
use Rattle.core_machine.specs.Actors.{HasSeen, bytes_ahead, bytes_told}
use Rattle.core_machine.specs.Answered.{LeastEvent}
use Rattle.core_machine.specs.Machine.{Machine}
use Rattle.core_machine.specs.Sound.{IsSound}
use Rattle.core_machine.proofs.Relays.{bytes_ahead_told}
use Rattle.core_machine.proofs.Tellings.{IsTelling, telling, makes, fact, held}

-- the core is sound, and the strand is home, with its coroutine
pub sight : {S : Type 0} {stands : S → Strand → List Event → Type 0} {net : Net} {budget : ℕ} {journal : List Entry} {out : List ℕ} {actors : List (Actor S)} {d : DeskState} {pool : PoolState} {b : Bool}
    {s i : ℕ} {a : Actor S} (m : Machine) → ◌≡◌ {A = Machine} (record { net = net; budget = budget; journal = journal; out = out; is_broken = b }) m →
    IsSound stands net budget journal out actors d pool → LeastEvent m (Some (s, i, Saw i)) → length m.journal + 1 < m.budget → a ≡ slice_index_or actors s a →
    IsTelling stands net budget journal out actors d pool s i (Saw i) a
sight {S} {stands} {net} {budget} {journal} {out} {actors} {d} {pool} {b} {s} {i} {a} m view sound least space read =
    let below : length m.journal < m.budget = omega (arith, space) in
    telling stands net budget journal out actors d pool b s i (Saw i) a sound (subst (λ (z : Machine). LeastEvent z (Some (s, i, Saw i))) (sym view) least)
    (subst (λ (z : Machine). length z.journal < z.budget) (sym view) below) read

-- the bytes at hand before the turn are those that it is told
pub bytes_right : {S : Type 0} {stands : S → Strand → List Event → Type 0} {net : Net} {budget : ℕ} {journal : List Entry} {out : List ℕ} {actors : List (Actor S)} {d : DeskState} {pool : PoolState}
    {s i link : ℕ} {a : Actor S} {bytes : List ℕ} → IsTelling stands net budget journal out actors d pool s i (Saw i) a → Some link ≡ Telling.in_door d s i → bytes ≡ bytes_ahead a.looks d pool link →
    bytes ≡ bytes_told a.looks (desk_after_turn d s (Saw i)) (pool_after_turn d pool s (Saw i)) s (Saw i)
bytes_right {S} {stands} {net} {budget} {journal} {out} {actors} {d} {pool} {s} {i} {link} {a} t door are =
    are ∙ bytes_ahead_told d pool s i link (makes t).can (fact t) (held t i) (sym door) a.looks

-- where it doesn't take the record it asks for something, and may pass the record on
pub asks : {S : Type 0} (stands : S → Strand → List Event → Type 0) (x y : S) (i : ℕ) (bytes : List ℕ) (asked : Want) (passes : Bool) (r : Reply) → (r ≡ Takes → ⊥) →
    HasSeen stands x y i bytes asked passes r → Resumes stands x y (Saw i) bytes asked × (passes ≡ true → PassesOn stands y)
asks stands x y i bytes asked passes Takes other seen = absurd (other refl)
asks stands x y i bytes asked passes Passes other seen = (seen.1, λ yes. seen.2)
asks stands x y i bytes asked passes Asks other seen = (seen.1, λ yes. (let both = sym yes ∙ seen.0 in cc))
