-- A run of what the two strands did, and then the event is made as elsewhere.
use Rattle.std.proofs.Common.{◌≡◌, ◌<◌, ◌≤◌, ◌+◌, ℕ, Some, true, false, length, refl, sym, ◌∙◌, ap, subst, arith}
use Rattle.pipe_model.specs.declared.step.Seen.{Seen}
use Rattle.pipe_model.specs.declared.step.Seen.TheVariants.{Put, Took}
use Rattle.core_machine.specs.declared.run.Which.{Which}
use Rattle.core_machine.specs.declared.run.Which.TheVariants.{OfRecords}
use Rattle.core_machine.specs.Answered.{LeastEvent, HasMade, is_of_record}
use Rattle.core_machine.specs.Machine.{Machine, turned, broke_down}
use Rattle.core_machine.specs.Runs.{is_made, HasRunBy, HasBrokenBy}
use Rattle.core_machine.proofs.Broken.{breaks_at, breaks_wider, on_err}
use Rattle.core_machine.proofs.Runs.{IsUnderWay, err_so, least_inside, makes_quiet, ok_so, run_longer, run_then, runs_begin, runs_wider}
use Rattle.core_machine.proofs.Steps.{made_longer}
use Rattle.core_machine.proofs.core_state.Core.put_on.Goals as goal
use Rattle.core_machine.proofs.core_state.Core.put_on.Goals.{then-at_once+then-makes_sights+then-is_first+in_ok-relay+in-Due+else-len-limit, then-at_once+then-makes_sights+else-is_first, then-at_once+else-makes_sights, else-at_once}

-- the run so far made all that it may, and the put is due, with room for two events
abbrev IsPutDue : Which → Machine → ℕ → ℕ → ℕ → Machine → Type 0
IsPutDue which m limit s o n = HasRunBy (is_made which) m n × (length n.journal + 1 < limit) × LeastEvent n (Some (s, o, Put o))

-- what the two strands did is a run of the core that makes events of records
relayed : (which : Which) (m n : Machine) (limit s o : ℕ) → ((seen : Seen) → is_of_record true seen ≡ true → is_made which seen ≡ true) → HasRunBy (is_made OfRecords) m n → length n.journal + 1 < limit → LeastEvent n (Some (s, o, Put o)) → IsPutDue which m limit s o n
relayed which m n limit s o wider run few least = (runs_wider (is_made OfRecords) (is_made which) wider m n run, few, least)

-- the put is made, and maybe a take behind it
then_put : (which : Which) (m n k : Machine) (limit s o : ℕ) → m.is_broken ≡ false → limit ≤ m.budget → IsPutDue which m limit s o n → HasMade n (record { strand = s; stream = o }) k → IsUnderWay (is_made which) m limit k
then_put which m n k limit s o whole most due made =
    run_then (is_made which) m n k s o limit (Put o) whole most due.0 due.1 due.2 (makes_quiet which (Put o) refl) (λ j. makes_quiet which (Took j) refl) made

-- or breaks the core
put_breaks : (which : Which) (m n k : Machine) (limit s o : ℕ) → m.is_broken ≡ false → limit ≤ m.budget → IsPutDue which m limit s o n → k ≡ broke_down (turned n (record { strand = s; stream = o })) → HasBrokenBy (is_made which) limit m k
put_breaks which m n k limit s o whole most due broke =
    let few = due.1 in
    breaks_at (is_made which) m n k s o limit (Put o)
    (due.0, ap (λ (z : Machine). z.is_broken) due.0.after ∙ whole, (omega (arith, few)), subst (λ b. limit ≤ b) (sym (ap (λ (z : Machine). z.budget) due.0.after)) most)
    (omega (arith, few)) due.2 (makes_quiet which (Put o) refl) broke

pub is_first-requires : goal.is_first-requires
is_first-requires g c = least_inside c.args.self.now c.args.strand c.args.o (Put c.args.o) c.requires.least

pub returns-then-len-limit-clause-ahead : goal.returns-then-len-limit-clause-ahead
returns-then-len-limit-clause-ahead g c = λ r named.
    let e : ℕ × ℕ × Seen = (c.args.strand, c.args.o, Put c.args.o) in
    let same : e ≡ r = cc in
    subst (λ z. LeastEvent c.relay.new.self (Some z)) same (c.in_ok-relay.ensures.due c.in-Due.is)

pub put-requires-clause-least : goal.put-requires-clause-least
put-requires-clause-least g c =
    let due : IsPutDue c.args.which c.args.self.now c.args.limit c.args.strand c.args.o c.if-at_once.self = elim c.if-at_once.branch [
      | then-at_once+then-makes_sights+then-is_first+in_ok-relay+in-Due+else-len-limit w ↦
          let wider = w.makes_sights.ensures w.if-makes_sights.true in
          let few : length w.relay.new.self.journal + 1 < c.args.limit = omega (arith, w.if-len-limit.false, w.len.ensures.length) in
          subst (IsPutDue c.args.which c.args.self.now c.args.limit c.args.strand c.args.o) (sym w.self-is)
          (relayed c.args.which c.args.self.now w.relay.new.self c.args.limit c.args.strand c.args.o wider w.in_ok-relay.ensures.goes few (w.in_ok-relay.ensures.due w.in-Due.is))
      | then-at_once+then-makes_sights+else-is_first w ↦ subst (IsPutDue c.args.which c.args.self.now c.args.limit c.args.strand c.args.o) (sym w.self-is) (runs_begin (is_made c.args.which) c.args.self.now, c.requires.space, c.requires.least)
      | then-at_once+else-makes_sights w ↦ subst (IsPutDue c.args.which c.args.self.now c.args.limit c.args.strand c.args.o) (sym w.self-is) (runs_begin (is_made c.args.which) c.args.self.now, c.requires.space, c.requires.least)
      | else-at_once w ↦ subst (IsPutDue c.args.which c.args.self.now c.args.limit c.args.strand c.args.o) (sym w.self-is) (runs_begin (is_made c.args.which) c.args.self.now, c.requires.space, c.requires.least)
    ] in
    due.2

pub returns-in-Home-clause-goes : goal.returns-in-Home-clause-goes
returns-in-Home-clause-goes g c =
    runs_wider (is_made OfRecords) (is_made c.args.which) (c.makes_sights.ensures c.if-makes_sights.true) c.args.self.now c.relay.new.self c.in_ok-relay.ensures.goes

pub returns-then-len-limit-clause-goes : goal.returns-then-len-limit-clause-goes
returns-then-len-limit-clause-goes g c =
    runs_wider (is_made OfRecords) (is_made c.args.which) (c.makes_sights.ensures c.if-makes_sights.true) c.args.self.now c.relay.new.self c.in_ok-relay.ensures.goes

pub returns-clause-goes : goal.returns-clause-goes
returns-clause-goes g c =
    let due : IsPutDue c.args.which c.args.self.now c.args.limit c.args.strand c.args.o c.if-at_once.self = elim c.if-at_once.branch [
      | then-at_once+then-makes_sights+then-is_first+in_ok-relay+in-Due+else-len-limit w ↦
          let wider = w.makes_sights.ensures w.if-makes_sights.true in
          let few : length w.relay.new.self.journal + 1 < c.args.limit = omega (arith, w.if-len-limit.false, w.len.ensures.length) in
          subst (IsPutDue c.args.which c.args.self.now c.args.limit c.args.strand c.args.o) (sym w.self-is)
          (relayed c.args.which c.args.self.now w.relay.new.self c.args.limit c.args.strand c.args.o wider w.in_ok-relay.ensures.goes few (w.in_ok-relay.ensures.due w.in-Due.is))
      | then-at_once+then-makes_sights+else-is_first w ↦ subst (IsPutDue c.args.which c.args.self.now c.args.limit c.args.strand c.args.o) (sym w.self-is) (runs_begin (is_made c.args.which) c.args.self.now, c.requires.space, c.requires.least)
      | then-at_once+else-makes_sights w ↦ subst (IsPutDue c.args.which c.args.self.now c.args.limit c.args.strand c.args.o) (sym w.self-is) (runs_begin (is_made c.args.which) c.args.self.now, c.requires.space, c.requires.least)
      | else-at_once w ↦ subst (IsPutDue c.args.which c.args.self.now c.args.limit c.args.strand c.args.o) (sym w.self-is) (runs_begin (is_made c.args.which) c.args.self.now, c.requires.space, c.requires.least)
    ] in
    ok_so (HasMade c.if-at_once.self (record { strand = c.args.strand; stream = c.args.o }) c.put.new.self) (HasRunBy (is_made c.args.which) c.args.self.now c.put.new.self) c.put.result (λ did. (then_put c.args.which c.args.self.now c.if-at_once.self c.put.new.self c.args.limit c.args.strand c.args.o c.requires.whole c.requires.limit due did).0) c.put.ensures.goes

pub returns-clause-more : goal.returns-clause-more
returns-clause-more g c =
    let due : IsPutDue c.args.which c.args.self.now c.args.limit c.args.strand c.args.o c.if-at_once.self = elim c.if-at_once.branch [
      | then-at_once+then-makes_sights+then-is_first+in_ok-relay+in-Due+else-len-limit w ↦
          let wider = w.makes_sights.ensures w.if-makes_sights.true in
          let few : length w.relay.new.self.journal + 1 < c.args.limit = omega (arith, w.if-len-limit.false, w.len.ensures.length) in
          subst (IsPutDue c.args.which c.args.self.now c.args.limit c.args.strand c.args.o) (sym w.self-is)
          (relayed c.args.which c.args.self.now w.relay.new.self c.args.limit c.args.strand c.args.o wider w.in_ok-relay.ensures.goes few (w.in_ok-relay.ensures.due w.in-Due.is))
      | then-at_once+then-makes_sights+else-is_first w ↦ subst (IsPutDue c.args.which c.args.self.now c.args.limit c.args.strand c.args.o) (sym w.self-is) (runs_begin (is_made c.args.which) c.args.self.now, c.requires.space, c.requires.least)
      | then-at_once+else-makes_sights w ↦ subst (IsPutDue c.args.which c.args.self.now c.args.limit c.args.strand c.args.o) (sym w.self-is) (runs_begin (is_made c.args.which) c.args.self.now, c.requires.space, c.requires.least)
      | else-at_once w ↦ subst (IsPutDue c.args.which c.args.self.now c.args.limit c.args.strand c.args.o) (sym w.self-is) (runs_begin (is_made c.args.which) c.args.self.now, c.requires.space, c.requires.least)
    ] in
    ok_so (HasMade c.if-at_once.self (record { strand = c.args.strand; stream = c.args.o }) c.put.new.self) (length c.args.self.now.journal < length c.put.new.self.journal) c.put.result
    (λ did. let a = run_longer (is_made c.args.which) c.args.self.now c.if-at_once.self due.0 in
    let b = made_longer c.if-at_once.self c.put.new.self (record { strand = c.args.strand; stream = c.args.o }) did in omega (arith, a, b)) c.put.ensures.goes

pub returns-in_err-relay-clause-lacks : goal.returns-in_err-relay-clause-lacks
returns-in_err-relay-clause-lacks g c =
    on_err _ _ (breaks_wider (is_made OfRecords) (is_made c.args.which) (c.makes_sights.ensures c.if-makes_sights.true) c.args.limit c.args.self.now c.relay.new.self c.in_err-relay.ensures.lacks)

pub returns-clause-lacks : goal.returns-clause-lacks
returns-clause-lacks g c =
    let due : IsPutDue c.args.which c.args.self.now c.args.limit c.args.strand c.args.o c.if-at_once.self = elim c.if-at_once.branch [
      | then-at_once+then-makes_sights+then-is_first+in_ok-relay+in-Due+else-len-limit w ↦
          let wider = w.makes_sights.ensures w.if-makes_sights.true in
          let few : length w.relay.new.self.journal + 1 < c.args.limit = omega (arith, w.if-len-limit.false, w.len.ensures.length) in
          subst (IsPutDue c.args.which c.args.self.now c.args.limit c.args.strand c.args.o) (sym w.self-is)
          (relayed c.args.which c.args.self.now w.relay.new.self c.args.limit c.args.strand c.args.o wider w.in_ok-relay.ensures.goes few (w.in_ok-relay.ensures.due w.in-Due.is))
      | then-at_once+then-makes_sights+else-is_first w ↦ subst (IsPutDue c.args.which c.args.self.now c.args.limit c.args.strand c.args.o) (sym w.self-is) (runs_begin (is_made c.args.which) c.args.self.now, c.requires.space, c.requires.least)
      | then-at_once+else-makes_sights w ↦ subst (IsPutDue c.args.which c.args.self.now c.args.limit c.args.strand c.args.o) (sym w.self-is) (runs_begin (is_made c.args.which) c.args.self.now, c.requires.space, c.requires.least)
      | else-at_once w ↦ subst (IsPutDue c.args.which c.args.self.now c.args.limit c.args.strand c.args.o) (sym w.self-is) (runs_begin (is_made c.args.which) c.args.self.now, c.requires.space, c.requires.least)
    ] in
    err_so (c.put.new.self ≡ broke_down (turned c.if-at_once.self (record { strand = c.args.strand; stream = c.args.o }))) (HasBrokenBy (is_made c.args.which) c.args.limit c.args.self.now c.put.new.self) c.put.result
    (put_breaks c.args.which c.args.self.now c.if-at_once.self c.put.new.self c.args.limit c.args.strand c.args.o c.requires.whole c.requires.limit due) c.put.ensures.lacks
