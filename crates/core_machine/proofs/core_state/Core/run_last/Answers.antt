-- No event has room, or the least one is made, where the run makes it.
use Rattle.std.proofs.Common.{◌<◌, ℕ, Some, None, inl, inr, length, sym, ◌∙◌, ap, subst, arith}
use Rattle.pipe_model.specs.declared.step.Seen.{Seen}
use Rattle.core_machine.specs.Answered.{LeastEvent}
use Rattle.core_machine.specs.Machine.{Machine, turned, broke_down}
use Rattle.core_machine.specs.Runs.{is_made}
use Rattle.core_machine.proofs.Broken.{breaks_at, on_err}
use Rattle.core_machine.proofs.Runs.{runs_begin}
use Rattle.core_machine.proofs.core_state.Core.run_last.Goals as goal

pub go_on_otherwise-requires-clause-least : goal.go_on_otherwise-requires-clause-least
go_on_otherwise-requires-clause-least g c = subst (λ (z : Machine). LeastEvent z (Some (c.in-Some.strand, c.in-Some.stream, c.in-Some.seen))) (sym c.least_event.ensures.same) c.in-Some.ensures.least

pub returns-in_default-clause-ends : goal.returns-in_default-clause-ends
returns-in_default-clause-ends g c = inr (inl (subst (λ (z : Machine). LeastEvent z None) (sym c.least_event.ensures.same) (subst (LeastEvent c.args.self.now) c.in_default.is c.least_event.ensures.least)))

pub returns-else-makes-clause-ends : goal.returns-else-makes-clause-ends
returns-else-makes-clause-ends g c =
    let e : ℕ × ℕ × Seen = (c.in-Some.strand, c.in-Some.stream, c.in-Some.seen) in
    inr (inr (e, subst (λ (z : Machine). LeastEvent z (Some e)) (sym c.least_event.ensures.same) c.in-Some.ensures.least, c.makes.ensures.ends c.if-makes.false))

pub returns-in_err-go_on_otherwise-clause-lacks : goal.returns-in_err-go_on_otherwise-clause-lacks
returns-in_err-go_on_otherwise-clause-lacks g c =
    let space : length c.args.self.now.journal < c.args.limit = omega (arith, c.if-len-limit.false, c.len.ensures.length) in
    on_err _ _ (breaks_at (is_made c.args.which) c.args.self.now c.args.self.now c.go_on_otherwise.new.self c.in-Some.strand c.in-Some.stream c.args.limit c.in-Some.seen
    (runs_begin (is_made c.args.which) c.args.self.now, c.requires.whole, c.requires.within, c.requires.limit) space c.in-Some.ensures.least (c.makes.ensures.makes c.if-makes.true)
    (c.in_err-go_on_otherwise.ensures.lacks ∙ ap (λ (z : Machine). broke_down (turned z (record { strand = c.in-Some.strand; stream = c.in-Some.stream }))) c.least_event.ensures.same))
