-- The strand takes the record at once, and looks at the next one: what is asked of that, and that the core is sound after it.
use Rattle.std.proofs.Common.{◌≡◌, ℕ, ◌<◌, ◌+◌, Bool, true, false, ◌||◌, [], ◌∷◌, ◌++◌, List, Some, length, slice_set, refl, sym, ◌∙◌, ap, subst}
use Rattle.std.proofs.Math.Bool.{or-false}
use Rattle.pipe_model.specs.declared.net.Net.{Net}
use Rattle.pipe_model.specs.declared.net.Strand.{Strand}
use Rattle.pipe_model.specs.declared.step.Entry.{Entry}
use Rattle.pipe_model.specs.declared.step.Seen.TheVariants.{Saw, Took}
use Rattle.pipe_model.specs.declared.step.Want.{Want}
use Rattle.pipe_model.specs.declared.step.Want.TheVariants.{Take, Read}
use Rattle.pipe_model.specs.Event.{Event}
use Rattle.record_pool.specs.PoolState.{PoolState}
use Rattle.stage_steps.specs.Coroutine.{Resumes}
use Rattle.stage_steps.specs.PassesOn.{PassesOn}
use Rattle.stage_steps.specs.declared.reply.Reply.TheVariants.{Takes}
use Rattle.run_desk.specs.Desk.{DeskState}
use Rattle.run_desk.specs.Passing.{desk_taking, desk_passed, pool_passed}
use Rattle.run_desk.specs.Turns.{desk_after_turn, pool_after_turn}
use Rattle.core_machine.specs.declared.actor.Actor.{Actor}
use Rattle.core_machine.specs.Actors.{HasSeen, gone_on, bytes_told}
use Rattle.core_machine.specs.Answered.{LeastEvent}
use Rattle.core_machine.specs.Floor.{IsInUse, CanMake, StaysEarly}
use Rattle.core_machine.specs.Sound.{IsSound}
use Rattle.core_machine.specs.Woken.{LeastEventAwake, may_settle}
use Rattle.core_machine.proofs.Tellings.{IsTelling, makes, with_stage, used_out, sound_at}
use Rattle.core_machine.proofs.TakesOn as Two

-- what is asked of the two events, and what they leave
pub record IsTwice {S : Type 0} (stands : S → Strand → List Event → Type 0) (net : Net) (budget : ℕ) (journal : List Entry) (out : List ℕ) (actors : List (Actor S)) (d : DeskState) (pool : PoolState)
    (s i j : ℕ) (b : Actor S) : Type 0 where
  pub can : CanMake net d pool s (Saw j)
  pub first : LeastEventAwake d (Some (s, i, Saw j))
  pub used : IsInUse net (desk_after_turn d s (Saw j))
  pub early : StaysEarly (desk_after_turn d s (Saw j)) (pool_after_turn d pool s (Saw j)) s (Take 0)
  pub takes : CanMake net (desk_taking d s (Saw j) 0) (pool_after_turn d pool s (Saw j)) s (Took 0)
  pub least : LeastEventAwake (desk_taking d s (Saw j) 0) (Some (s, 0, Took 0))
  pub used_last : IsInUse net (desk_after_turn (desk_taking d s (Saw j) 0) s (Took 0))
  pub early_last : StaysEarly (desk_after_turn (desk_taking d s (Saw j) 0) s (Took 0)) (pool_passed d pool s (Saw j) 0) s (Read 0)
  -- the second is the least in the words of the core
  pub taking : (broken : Bool) → LeastEvent (record { net = net; budget = budget; journal = journal ++ (record { strand = s; stream = i }) ∷ []; out = out; is_broken = broken }) (Some (s, 0, Took 0))
  -- the core is sound after both
  pub sound : IsSound stands net budget ((journal ++ (record { strand = s; stream = i }) ∷ []) ++ (record { strand = s; stream = 0 }) ∷ []) out (slice_set actors s b)
      (desk_passed d s (Saw j) 0) (pool_passed d pool s (Saw j) 0)

-- it is told of the sight, and, as its answer says, that it took the record, too
pub twice : {S : Type 0} {stands : S → Strand → List Event → Type 0} {net : Net} {budget : ℕ} {journal : List Entry} {out : List ℕ} {actors : List (Actor S)} {d : DeskState} {pool : PoolState}
    {s i : ℕ} {a b : Actor S} {bytes : List ℕ} → IsTelling stands net budget journal out actors d pool s i (Saw i) a → length journal + 1 < budget → may_settle d s (Saw i) ≡ false →
    bytes ≡ bytes_told a.looks (desk_after_turn d s (Saw i)) (pool_after_turn d pool s (Saw i)) s (Saw i) →
    (x y : S) (asked : Want) (passes : Bool) → a.stage ≡ Some x → b ≡ gone_on (Saw i) y asked passes a → HasSeen stands x y i bytes asked passes Takes →
    IsTwice stands net budget journal out actors d pool s i 0 b
twice {S} {stands} {net} {budget} {journal} {out} {actors} {d} {pool} {s} {i} {a} {b} {bytes} telling space quiet bytes_are x y asked passes was is seen =
    let t = with_stage telling x was in
    let between = seen.3.0 in
    let went = subst (λ j. Resumes stands x between (Saw j) bytes (Take 0)) (sym seen.0) seen.3.1 in
    let stays : false ≡ true → PassesOn stands between = λ yes. (let both = yes in cc) in
    let stays_last : false ≡ true → PassesOn stands y = λ yes. (let both = yes in cc) in
    let kept : b ≡ gone_on (Took 0) y (Read 0) false (gone_on (Saw i) between (Take 0) false a) =
    is ∙ ap (λ w. gone_on (Saw i) y w passes a) seen.1 ∙ ap (λ p. gone_on (Saw i) y (Read 0) p a) seen.2
    ∙ ap (λ z. record { stage = Some y; asked = Read 0; looks = a.looks; saw_end = z; passes = false }) (sym (or-false (a.saw_end || false))) in
    subst (λ j. IsTwice stands net budget journal out actors d pool s i j b) seen.0 (record {
      can = makes t;
      first = t.least;
      used = used_out t between (Take 0) false;
      early = Two.first_early t space quiet tt 0 between false bytes bytes_are went stays;
      takes = Two.second_can t space quiet tt 0 between false bytes bytes_are went stays;
      least = Two.takes_next t space quiet tt 0 between false bytes bytes_are went stays;
      used_last = Two.second_used t space quiet tt 0 between false bytes bytes_are went stays;
      early_last = Two.second_early t space quiet tt 0 between false bytes bytes_are went stays y false seen.3.2;
      taking = Two.takes_least t space quiet tt 0 between false bytes bytes_are went stays;
      sound = sound_at refl refl refl (ap (slice_set actors s) kept) refl refl (Two.sound_after t space quiet tt 0 between false bytes bytes_are went stays y false seen.3.2 stays_last);
    })
