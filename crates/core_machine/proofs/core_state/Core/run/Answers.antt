-- Each step of the loop makes the event that is known ahead, or finds it, or makes another one.
use Rattle.std.proofs.Common.{◌≡◌, ◌<◌, ◌+◌, ◌∷◌, [], ◌++◌, ℕ, Some, None, inl, inr, true, false, length, refl, sym, ◌∙◌, ap, subst, arith}
use Rattle.pipe_model.specs.declared.step.Seen.{Seen}
use Rattle.pipe_model.specs.declared.step.Seen.TheVariants.{Saw, Took, Put}
use Rattle.core_machine.specs.declared.floor.Ahead.TheVariants as Known
use Rattle.core_machine.specs.declared.run.Which.{Which}
use Rattle.core_machine.specs.Answered.{LeastEvent}
use Rattle.core_machine.specs.Machine.{Machine, turned, broke_down}
use Rattle.core_machine.specs.Runs.{HasRunBy, HasBrokenBy, is_made, may_end}
use Rattle.core_machine.proofs.Broken.{breaks_at, breaks_later, on_err}
use Rattle.core_machine.proofs.Runs.{IsUnderWay, err_so, ok_each, runs_begin, runs_go, runs_join, runs_make, runs_on, makes_quiet, ahead_known, least_ahead}
use Rattle.core_machine.proofs.core_state.Core.run.Goals as goal
use Rattle.core_machine.proofs.core_state.Core.run.Goals.{in-All, in-OfRecords, in-Quiet}

pub loop-ahead-init : goal.loop-ahead-init
loop-ahead-init g c = ((runs_begin (is_made c.args.which) c.args.self.now, c.requires.whole, c.requires.within, c.requires.limit), λ r at. cc at)

pub returns-in-None-clause-ends : goal.returns-in-None-clause-ends
returns-in-None-clause-ends g c = inr (inl (subst (λ (z : Machine). LeastEvent z None) (sym c.least_event.ensures.same) c.in-None.ensures.least))

pub returns-then-not-makes-clause-ends : goal.returns-then-not-makes-clause-ends
returns-then-not-makes-clause-ends g c =
    let e : ℕ × ℕ × Seen = (c.in-Some.strand, c.in-Some.stream, c.in-Some.seen) in
    inr (inr (e, subst (λ (z : Machine). LeastEvent z (Some e)) (sym c.least_event.ensures.same) c.in-Some.ensures.least, c.makes.ensures.ends c.if-not-makes.true))

pub go_on_otherwise-requires-clause-least : goal.go_on_otherwise-requires-clause-least
go_on_otherwise-requires-clause-least g c = subst (λ (z : Machine). LeastEvent z (Some (c.in-Some.strand, c.in-Some.stream, c.in-Some.seen))) (sym c.least_event.ensures.same) c.in-Some.ensures.least

pub takes_long-requires : goal.takes_long-requires
takes_long-requires g c = least_ahead c.loop-ahead.self c.loop-ahead.ahead (Known.Saw c.in-Saw.strand c.in-Saw.i) (c.in-Saw.strand, c.in-Saw.i, Saw c.in-Saw.i) c.loop-ahead.invariant.1 c.in-Saw.is refl

pub returns-then-not-is_made-clause-ends : goal.returns-then-not-is_made-clause-ends
returns-then-not-is_made-clause-ends g c =
    let ends : may_end c.args.which (Saw c.in-Saw.i) ≡ true = elim c.match-which.branch [
      | in-All w ↦ let no : true ≡ false = sym w.is_made-is ∙ c.if-not-is_made.true in cc no
      | in-OfRecords w ↦ ap (λ (which : Which). may_end which (Saw c.in-Saw.i)) w.in-OfRecords.is
      | in-Quiet w ↦ ap (λ (which : Which). may_end which (Saw c.in-Saw.i)) w.in-Quiet.is
    ] in
    let e : ℕ × ℕ × Seen = (c.in-Saw.strand, c.in-Saw.i, Saw c.in-Saw.i) in
    inr (inr (e, least_ahead c.loop-ahead.self c.loop-ahead.ahead (Known.Saw c.in-Saw.strand c.in-Saw.i) e c.loop-ahead.invariant.1 c.in-Saw.is refl, ends))

pub see-requires-clause-least : goal.see-requires-clause-least
see-requires-clause-least g c = least_ahead c.loop-ahead.self c.loop-ahead.ahead (Known.Saw c.in-Saw.strand c.in-Saw.i) (c.in-Saw.strand, c.in-Saw.i, Saw c.in-Saw.i) c.loop-ahead.invariant.1 c.in-Saw.is refl

pub go_on-requires-clause-least : goal.go_on-requires-clause-least
go_on-requires-clause-least g c = least_ahead c.loop-ahead.self c.loop-ahead.ahead (Known.Took c.in-Took.strand c.in-Took.i) (c.in-Took.strand, c.in-Took.i, Took c.in-Took.i) c.loop-ahead.invariant.1 c.in-Took.is refl

pub put_on-requires-clause-least : goal.put_on-requires-clause-least
put_on-requires-clause-least g c = least_ahead c.loop-ahead.self c.loop-ahead.ahead (Known.Put c.in-Put.strand c.in-Put.o c.in-Put.at_once) (c.in-Put.strand, c.in-Put.o, Put c.in-Put.o) c.loop-ahead.invariant.1 c.in-Put.is refl

pub loop-ahead-preserved-in_ok-ahead-in-Search-known : goal.loop-ahead-preserved-in_ok-ahead-in-Search-known
loop-ahead-preserved-in_ok-ahead-in-Search-known g c =
    let space : length c.loop-ahead.self.journal < c.args.limit = omega (arith, c.loop-ahead-test.true, c.len.ensures.length) in (
      runs_go (is_made c.args.which) c.args.self.now c.loop-ahead.self c.go_on_otherwise.new.self c.in-Some.strand c.in-Some.stream c.args.limit c.in-Some.seen c.loop-ahead.invariant.0 space c.in-Some.ensures.least (c.makes.ensures.makes c.if-not-makes.false)
          (c.in_ok-ahead-in-Search-known.ensures.goes ∙ ap (λ (z : Machine). record z { journal = z.journal ++ (record { strand = c.in-Some.strand; stream = c.in-Some.stream }) ∷ [] }) c.least_event.ensures.same),
      c.in_ok-ahead-in-Search-known.ensures.ahead,
    )

pub loop-ahead-preserved-in_default : goal.loop-ahead-preserved-in_default
loop-ahead-preserved-in_default g c = (
  subst (IsUnderWay (is_made c.args.which) c.args.self.now c.args.limit) (sym c.least_event.ensures.same) c.loop-ahead.invariant.0,
  ahead_known c.loop-ahead.self c.least_event.new.self c.known.result (c.in-Some.strand, c.in-Some.stream, c.in-Some.seen) c.least_event.ensures.same c.in-Some.ensures.least c.known.ensures,
)

pub loop-ahead-preserved-in_ok-ahead-in-Saw : goal.loop-ahead-preserved-in_ok-ahead-in-Saw
loop-ahead-preserved-in_ok-ahead-in-Saw g c =
    let space : length c.loop-ahead.self.journal + 1 < c.args.limit = omega (arith, c.loop-ahead-test.true, c.len.ensures.length) in
    let e : ℕ × ℕ × Seen = (c.in-Saw.strand, c.in-Saw.i, Saw c.in-Saw.i) in
    let least = least_ahead c.loop-ahead.self c.loop-ahead.ahead (Known.Saw c.in-Saw.strand c.in-Saw.i) e c.loop-ahead.invariant.1 c.in-Saw.is refl in
    let made : is_made c.args.which (Saw c.in-Saw.i) ≡ true = elim c.match-which.branch [
      | in-All w ↦ ap (λ (which : Which). is_made which (Saw c.in-Saw.i)) w.in-All.is
      | in-OfRecords w ↦ ap (λ (which : Which). is_made which (Saw c.in-Saw.i)) w.in-OfRecords.is
      | in-Quiet w ↦ let no : false ≡ true = sym w.is_made-is ∙ c.if-not-is_made.false in cc no
    ] in (
      runs_make (is_made c.args.which) c.args.self.now c.loop-ahead.self c.see.new.self c.in-Saw.strand c.in-Saw.i c.args.limit (Saw c.in-Saw.i) c.loop-ahead.invariant.0 space least made
          (λ j. makes_quiet c.args.which (Took j) refl) c.in_ok-ahead-in-Saw.ensures.goes,
      c.in_ok-ahead-in-Saw.ensures.ahead,
    )

pub loop-ahead-preserved-in_ok-ahead-in-Took : goal.loop-ahead-preserved-in_ok-ahead-in-Took
loop-ahead-preserved-in_ok-ahead-in-Took g c =
    let space : length c.loop-ahead.self.journal < c.args.limit = omega (arith, c.loop-ahead-test.true, c.len.ensures.length) in
    let e : ℕ × ℕ × Seen = (c.in-Took.strand, c.in-Took.i, Took c.in-Took.i) in
    let least = least_ahead c.loop-ahead.self c.loop-ahead.ahead (Known.Took c.in-Took.strand c.in-Took.i) e c.loop-ahead.invariant.1 c.in-Took.is refl in (
      runs_go (is_made c.args.which) c.args.self.now c.loop-ahead.self c.go_on.new.self c.in-Took.strand c.in-Took.i c.args.limit (Took c.in-Took.i) c.loop-ahead.invariant.0 space least (makes_quiet c.args.which (Took c.in-Took.i) refl) c.in_ok-ahead-in-Took.ensures.goes,
      c.in_ok-ahead-in-Took.ensures.ahead,
    )

pub loop-ahead-preserved : goal.loop-ahead-preserved
loop-ahead-preserved g c = (
  runs_on (is_made c.args.which) c.args.self.now c.loop-ahead.self c.put_on.new.self c.args.limit c.loop-ahead.invariant.0 c.in_ok-ahead-in-Put.ensures.goes c.in_ok-ahead-in-Put.ensures.within,
  c.in_ok-ahead-in-Put.ensures.ahead,
)

-- The last event

pub returns-clause-runs : goal.returns-clause-runs
returns-clause-runs g c =
    ok_each (λ z. HasRunBy (is_made c.args.which) c.loop-ahead.self c.run_last.new.self) (λ z. HasRunBy (is_made c.args.which) c.args.self.now c.run_last.new.self) c.run_last.result
    (λ z run. runs_join (is_made c.args.which) c.args.self.now c.loop-ahead.self c.run_last.new.self c.loop-ahead.invariant.0.0 run) c.run_last.ensures.runs

pub returns-clause-lacks : goal.returns-clause-lacks
returns-clause-lacks g c =
    err_so (HasBrokenBy (is_made c.args.which) c.args.limit c.loop-ahead.self c.run_last.new.self) (HasBrokenBy (is_made c.args.which) c.args.limit c.args.self.now c.run_last.new.self) c.run_last.result
    (λ broke. breaks_later (is_made c.args.which) c.args.limit c.args.self.now c.loop-ahead.self c.run_last.new.self c.loop-ahead.invariant.0.0 broke) c.run_last.ensures.lacks

-- A step breaks it

pub returns-in_err-ahead-in-Search-known-clause-lacks : goal.returns-in_err-ahead-in-Search-known-clause-lacks
returns-in_err-ahead-in-Search-known-clause-lacks g c =
    let space : length c.loop-ahead.self.journal < c.args.limit = omega (arith, c.loop-ahead-test.true, c.len.ensures.length) in
    on_err _ _ (breaks_at (is_made c.args.which) c.args.self.now c.loop-ahead.self c.go_on_otherwise.new.self c.in-Some.strand c.in-Some.stream c.args.limit c.in-Some.seen c.loop-ahead.invariant.0 space c.in-Some.ensures.least (c.makes.ensures.makes c.if-not-makes.false)
    (c.in_err-ahead-in-Search-known.ensures.lacks ∙ ap (λ (z : Machine). broke_down (turned z (record { strand = c.in-Some.strand; stream = c.in-Some.stream }))) c.least_event.ensures.same))

pub returns-in_err-ahead-in-Saw-clause-lacks : goal.returns-in_err-ahead-in-Saw-clause-lacks
returns-in_err-ahead-in-Saw-clause-lacks g c =
    let space : length c.loop-ahead.self.journal < c.args.limit = omega (arith, c.loop-ahead-test.true, c.len.ensures.length) in
    let e : ℕ × ℕ × Seen = (c.in-Saw.strand, c.in-Saw.i, Saw c.in-Saw.i) in
    let least = least_ahead c.loop-ahead.self c.loop-ahead.ahead (Known.Saw c.in-Saw.strand c.in-Saw.i) e c.loop-ahead.invariant.1 c.in-Saw.is refl in
    let made : is_made c.args.which (Saw c.in-Saw.i) ≡ true = elim c.match-which.branch [
      | in-All w ↦ ap (λ (which : Which). is_made which (Saw c.in-Saw.i)) w.in-All.is
      | in-OfRecords w ↦ ap (λ (which : Which). is_made which (Saw c.in-Saw.i)) w.in-OfRecords.is
      | in-Quiet w ↦ let no : false ≡ true = sym w.is_made-is ∙ c.if-not-is_made.false in cc no
    ] in
    on_err _ _ (breaks_at (is_made c.args.which) c.args.self.now c.loop-ahead.self c.see.new.self c.in-Saw.strand c.in-Saw.i c.args.limit (Saw c.in-Saw.i) c.loop-ahead.invariant.0 space least made c.in_err-ahead-in-Saw.ensures.lacks)

pub returns-in_err-ahead-in-Took-clause-lacks : goal.returns-in_err-ahead-in-Took-clause-lacks
returns-in_err-ahead-in-Took-clause-lacks g c =
    let space : length c.loop-ahead.self.journal < c.args.limit = omega (arith, c.loop-ahead-test.true, c.len.ensures.length) in
    let e : ℕ × ℕ × Seen = (c.in-Took.strand, c.in-Took.i, Took c.in-Took.i) in
    let least = least_ahead c.loop-ahead.self c.loop-ahead.ahead (Known.Took c.in-Took.strand c.in-Took.i) e c.loop-ahead.invariant.1 c.in-Took.is refl in
    on_err _ _ (breaks_at (is_made c.args.which) c.args.self.now c.loop-ahead.self c.go_on.new.self c.in-Took.strand c.in-Took.i c.args.limit (Took c.in-Took.i) c.loop-ahead.invariant.0 space least (makes_quiet c.args.which (Took c.in-Took.i) refl) c.in_err-ahead-in-Took.ensures.lacks)

pub returns-in_err-ahead-in-Put-clause-lacks : goal.returns-in_err-ahead-in-Put-clause-lacks
returns-in_err-ahead-in-Put-clause-lacks g c =
    on_err _ _ (breaks_later (is_made c.args.which) c.args.limit c.args.self.now c.loop-ahead.self c.put_on.new.self c.loop-ahead.invariant.0.0 c.in_err-ahead-in-Put.ensures.lacks)
