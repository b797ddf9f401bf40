-- What a sound core tells is what its journal says.
use Rattle.std.proofs.Common.{◌≡◌, ◌⊎◌, inl, inr, ℕ, zero, suc, ◌≤◌, ◌<◌, Bool, true, false, List, [], ◌∷◌, length, refl, sym, ◌∙◌, ap, arith, Option, Some, None, slice_get, is_some, ℤ}
use Rattle.std.proofs.lemmas.Option.{slice_get_within}
use Rattle.std.proofs.lemmas.Bool.{cases_lt}
use Rattle.std.specs.Prelude.{slice_index_or}
use Rattle.pipe_model.specs.declared.net.Net.{Net}
use Rattle.pipe_model.specs.declared.net.Strand.{Strand}
use Rattle.pipe_model.specs.declared.step.Entry.{Entry}
use Rattle.pipe_model.specs.Event.{Event, Want}
use Rattle.pipe_model.specs.State.{Who, past, nothing_yet, strand_at}
use Rattle.pipe_model.specs.Play.{play}
use Rattle.pipe_model.proofs.Lists.{at_some}
use Rattle.record_pool.specs.PoolState.{PoolState}
use Rattle.record_pool.specs.Places.{bytes_at}
use Rattle.commit_levels.specs.UnitState.{Member}
use Rattle.run_desk.specs.Desk.{DeskState}
use Rattle.run_desk.specs.Standing.{asked}
use Rattle.run_desk.specs.Telling as Telling
use Rattle.run_desk.proofs.Sees.{ask_is}
use Rattle.core_machine.specs.declared.actor.Actor.{Actor}
use Rattle.core_machine.specs.Answered.{LeastStream, Shows, end_of}
use Rattle.core_machine.specs.Machine.{Machine, left_by, licence_of, want_of, state_of, HasStopped}
use Rattle.core_machine.specs.Sound.{AreLast, AreApart, IsSound}
use Rattle.core_machine.proofs.Away.{fewer_out}
use Rattle.core_machine.proofs.Sounds.{none_is, ready_is, in_range}

-- what is read at an index that is there is the element
pub read_there : {A : Type 0} (xs : List A) (i : ℕ) (x : A) → i < length xs → x ≡ slice_index_or xs i x → slice_get xs i ≡ Some x
read_there [] i x inside is = absurd (omega (arith, inside))
read_there (y ∷ ys) zero x inside is = ap Some (sym is)
read_there (y ∷ ys) (suc i) x inside is = read_there ys i x (omega (arith, inside)) is

-- what has no elements is the empty list
pub none_of : {A : Type 0} (xs : List A) → length xs ≡ 0 → xs ≡ []
none_of [] is = refl
none_of (x ∷ xs) is = absurd (omega (arith, is))

-- no more jobs are out than there are strands
pub out_fits : (net : Net) (journal : List Entry) (out : List ℕ) → AreLast net journal out → AreApart journal out → length out ≤ length net.strands
out_fits net journal [] last apart = omega arith
out_fits net journal (p ∷ ps) last apart =
    let w = last.0.whose in
    let a = fewer_out net journal ps w.0 last.1 apart.1 w.1 (apart.0 w.0 w.2) in
    omega (arith, a)

-- who asks for something has a want
some_want : (w : Option Want) → Telling.asks_nothing (asked w) ≡ false → (x : Want) × (w ≡ Some x)
some_want None is = cc
some_want (Some x) is = (x, refl)

module _ {S : Type 0} (stands : S → Strand → List Event → Type 0) (net : Net) (budget : ℕ) (journal : List Entry) (out : List ℕ) (actors : List (Actor S)) (d : DeskState) (pool : PoolState)
    (sound : IsSound stands net budget journal out actors d pool) (is_broken : Bool) where
  -- what the core stands for
  abbrev pub seen_as : Machine
  seen_as = record { net = net; budget = budget; journal = journal; out = out; is_broken = is_broken }

  -- Readiness

  -- the least stream on the desk is the strand's least stream
  pub stream_is : (s : Who) (r : Option ℕ) → Telling.IsFirst d s r → LeastStream seen_as s r
  stream_is s None is = λ k. none_is stands net budget journal out actors d pool sound s k (is k)
  stream_is s (Some j) is = (
    sym (ready_is stands net budget journal out actors d pool sound s j) ∙ is.0,
    λ k p. none_is stands net budget journal out actors d pool sound s k (is.1 k p),
  )

  -- who is no strand may have no event
  nobody_goes : (s k : ℕ) → length actors ≤ s → licence_of seen_as s k ≡ None
  nobody_goes s k beyond = go (licence_of seen_as s k) refl
    where
      go : (x : Option Event) → licence_of seen_as s k ≡ x → licence_of seen_as s k ≡ None
      go None is = is
      go (Some e) is =
          let a = in_range stands net budget journal out actors d pool sound s k e is in
          let b = sound.strands.count in
          absurd (omega (arith, a, b, beyond))

  -- where none is out and no strand may go on, it has stopped
  pub stopped : out ≡ [] → ((s k : ℕ) → s < length actors → Telling.seen_at d s k ≡ None) → HasStopped seen_as
  stopped none each = (none, λ s k. by s k (cases_lt s (length actors)))
    where
      by : (s k : ℕ) → (s < length actors) ⊎ (length actors ≤ s) → licence_of seen_as s k ≡ None
      by s k (inl a) = none_is stands net budget journal out actors d pool sound s k (each s k a)
      by s k (inr b) = nobody_goes s k b

  -- where a strand has a stream, it hasn't
  pub goes_on : (s : Who) (r : Option ℕ) → Telling.IsFirst d s r → is_some r ≡ true → HasStopped seen_as → ⊥
  goes_on s None is some all = cc
  goes_on s (Some j) is some all =
      let a : is_some (licence_of seen_as s j) ≡ true = (stream_is s (Some j) is).0 in
      let b : is_some (licence_of seen_as s j) ≡ false = ap is_some (all.1 s j) in
      let no : true ≡ false = sym a ∙ b in
      cc

  -- Jobs

  -- few jobs are out
  pub few_out : length out ≤ 65536
  few_out = let a = out_fits net journal out sound.last sound.apart in let b = sound.formed.few in omega (arith, a, b)

  -- Wants and ends

  -- what is kept of a strand shows its want
  pub wanted_shown : (s : Who) (actor : Actor S) → slice_get actors s ≡ Some actor → Telling.asks_nothing (Telling.ask_at d s) ≡ false →
      (w : Want) × (want_of seen_as s ≡ Some w) × Shows (past (state_of seen_as) s) actor.asked w
  wanted_shown s actor at is =
      let x = some_want (want_of seen_as s) (ap Telling.asks_nothing (sym (ask_is net (bytes_at pool) (play net journal) (left_by journal out) d sound.formed sound.run.kept s)) ∙ is) in
      let p = its_strand s actor at in
      (x.0, x.1, (sound.strands.each s p.0 actor p.1 at).asked x.0 x.1)
    where
      its_strand : (s : Who) (actor : Actor S) → slice_get actors s ≡ Some actor → (p : Strand) × (strand_at net (play net journal) s ≡ Some p)
      its_strand s actor at = let a = slice_get_within actors s _ at in let b = sound.strands.count in at_some net.strands s (omega (arith, a, b))

  -- the unit keeps the code with which a strand ended
  pub end_is : (s : Who) (r : Option ℤ) → s < length net.strands → ((m : Member) → slice_get d.unit s ≡ Some m → r ≡ m.ended) → r ≡ end_of seen_as s
  end_is s r inside is =
      let m = at_some d.unit s (let b = sound.run.kept.member_count in omega (arith, inside, b)) in
      is m.0 m.1 ∙ (sound.run.kept.members s m.0 m.1).ended

  -- Coroutines

  -- the coroutine of a strand that is home stands for its history
  pub stage_stands : (s : Who) (p : Strand) (actor : Actor S) (stage : S) → strand_at net nothing_yet s ≡ Some p → slice_get actors s ≡ Some actor → actor.stage ≡ Some stage → stands stage p (past (state_of seen_as) s)
  stage_stands s p actor stage here at is = (sound.strands.each s p actor here at).stands_for stage is

  -- and it is there
  pub stage_there : (s : Who) (actor : Actor S) → slice_get actors s ≡ Some actor → left_by journal out s ≡ false → actor.stage ≡ None → ⊥
  stage_there s actor at home is =
      let no : true ≡ false = sym (sound.strands.home s actor at home) ∙ ap is_some is in
      cc
