use Rattle.std.proofs.Common.{rules, ◌≡◌, Bool, true, false, ℕ, List, Some, refl, sym, ◌∙◌, ap, subst}
use Rattle.std.proofs.Math.Bool.{or-false}
use Rattle.std.specs.Prelude.{Result, Ok, Err, IfOk}
use Rattle.std.specs.Result.{is_err}
use Rattle.pipe_model.specs.declared.net.Strand.{Strand}
use Rattle.pipe_model.specs.declared.step.Seen.TheVariants.{Saw}
use Rattle.pipe_model.specs.declared.step.Want.{Want as Asked}
use Rattle.pipe_model.specs.declared.step.Want.TheVariants.{Read}
use Rattle.pipe_model.specs.Event.{Event}
use Rattle.stage_steps.specs.Coroutine.{Resumes}
use Rattle.stage_steps.specs.Replies.{Replies}
use Rattle.stage_steps.specs.declared.reply.Reply.{Reply}
use Rattle.stage_steps.specs.declared.reply.Reply.TheVariants.{Takes, Passes, Asks}
use Rattle.core_machine.specs.Actors.{HasSeen}
use Rattle.core_machine.proofs.actor.see.Goals as goal
use Rattle.core_machine.proofs.actor.see.Goals.{in-Passes, in_default-matches, in-Takes, in_default-matches-2, in-Read-eq0, in_default-matches-3, in_default-matches-3-2}
use Rattle.core_machine.proofs.actor.see.Goals.{else-matches-via-then-matches+else-not-matches, else-matches-via-else-matches}

none_ok : {A E : Type 0} (P : A → Type 0) (r : Result A E) → is_err r ≡ true → IfOk r P
none_ok P (Ok w) e = cc
none_ok P (Err x) e = tt

-- whether it passes the record on is kept
abbrev IsKept : Bool → Reply → Type 0
IsKept passes Takes = passes ≡ false
IsKept passes Passes = passes ≡ true
IsKept passes Asks = passes ≡ false

unlike : {A : Type 0} (b : Bool) → b ≡ false → b ≡ true → A
unlike b e f = let both = sym e ∙ f in cc

taken_not : {A : Type 0} → Takes ≡ Passes → A
taken_not e = cc

not_kept : (r : Reply) → (r ≡ Passes → ⊥) → IsKept false r
not_kept Takes other = refl
not_kept Passes other = absurd (other refl)
not_kept Asks other = refl

-- what it asks for is left as its answer says
seen_so : {S : Type 0} (stands : S → Strand → List Event → Type 0) (x y : S) (i : ℕ) (bytes : List ℕ) (left asked : Asked) (passes : Bool) (r : Reply) → i ≡ 0 → IsKept passes r →
    (r ≡ Takes → asked ≡ Read 0) → ((r ≡ Takes → ⊥) → asked ≡ left) → Replies stands x y bytes left r → HasSeen stands x y i bytes asked passes r
seen_so stands x y i bytes left asked passes Takes zero kept reads stays replied = (zero, reads refl, kept, replied)
seen_so stands x y i bytes left asked passes Passes zero kept reads stays replied =
    (kept, subst (λ j. Resumes stands x y (Saw j) bytes asked) (sym zero) (subst (Resumes stands x y (Saw 0) bytes) (sym (stays (λ is. (let z = is in cc)))) replied.0), replied.1)
seen_so stands x y i bytes left asked passes Asks zero kept reads stays replied =
    (kept, subst (λ j. Resumes stands x y (Saw j) bytes asked) (sym zero) (subst (Resumes stands x y (Saw 0) bytes) (sym (stays (λ is. (let z = is in cc)))) replied))

pub returns-in_err-reply : goal.returns-in_err-reply
returns-in_err-reply g c =
    let a = c.args.actor.now in (
      c.in-Some.stage,
      c.see.new.self,
      c.see.new.asked,
      a.passes,
      c.in-Some.is,
      ap (λ b. record { stage = Some c.see.new.self; asked = c.see.new.asked; looks = a.looks; saw_end = b; passes = a.passes }) (sym (or-false a.saw_end)),
      none_ok _ c.from_residual.result c.from_residual.ensures.0,
    )

pub returns-then-not-matches : goal.returns-then-not-matches
returns-then-not-matches g c =
    let a = c.args.actor.now in
    let zero : c.args.i ≡ 0 = search rules in
    let takes : c.in_ok-reply.reply ≡ Takes = elim c.match-matches-2.branch [
      | in-Takes w ↦ w.in-Takes.is
      | in_default-matches-2 w ↦ unlike c.match-matches-2.matches w.matches-is c.if-matches.true
    ] in
    let kept : IsKept c.match-matches.actor c.in_ok-reply.reply = elim c.match-matches.branch [
      | in-Passes w ↦ taken_not (sym takes ∙ w.in-Passes.is)
      | in_default-matches w ↦ subst (λ p. IsKept p c.in_ok-reply.reply) (sym w.actor-is) (not_kept c.in_ok-reply.reply w.in_default-matches.not-Passes)
    ] in (
      c.in-Some.stage,
      c.see.new.self,
      Read 0,
      c.match-matches.actor,
      c.in-Some.is,
      c.ask.ensures ∙ ap (λ b. record { stage = Some c.see.new.self; asked = Read 0; looks = a.looks; saw_end = b; passes = c.match-matches.actor }) (sym (or-false a.saw_end)),
      seen_so g.S.Stage.stands c.in-Some.stage c.see.new.self c.args.i c.args.bytes.now c.see.new.asked (Read 0) c.match-matches.actor c.in_ok-reply.reply zero kept (λ is. refl)
          (λ other. absurd (other takes)) c.in_ok-reply.ensures,
    )

pub returns-else-matches : goal.returns-else-matches
returns-else-matches g c =
    let a = c.args.actor.now in
    let zero : c.args.i ≡ 0 = search rules in
    let kept : IsKept c.match-matches.actor c.in_ok-reply.reply = elim c.match-matches.branch [
      | in-Passes w ↦ subst (λ p. IsKept p c.in_ok-reply.reply) (sym w.actor-is) (subst (IsKept true) (sym w.in-Passes.is) refl)
      | in_default-matches w ↦ subst (λ p. IsKept p c.in_ok-reply.reply) (sym w.actor-is) (not_kept c.in_ok-reply.reply w.in_default-matches.not-Passes)
    ] in
    let reads : c.in_ok-reply.reply ≡ Takes → c.see.new.asked ≡ Read 0 = λ takes. elim c.else-matches.branch [
      | else-matches-via-then-matches+else-not-matches w ↦ elim w.match-matches-3.branch [
        | in-Read-eq0 v ↦ v.in-Read-eq0.is ∙ ap Read (rw v.in-Read-eq0.is at v.in-Read-eq0.field-0-test)
        | in_default-matches-3 v ↦ unlike w.match-matches-3.matches v.matches-is w.if-not-matches.false
        | in_default-matches-3-2 v ↦ unlike w.match-matches-3.matches v.matches-is w.if-not-matches.false
      ]
      | else-matches-via-else-matches w ↦ elim c.match-matches-2.branch [
        | in-Takes v ↦ unlike c.match-matches-2.matches w.if-matches.false v.matches-is
        | in_default-matches-2 v ↦ absurd (v.in_default-matches-2.not-Takes takes)
      ]
    ] in (
      c.in-Some.stage,
      c.see.new.self,
      c.see.new.asked,
      c.match-matches.actor,
      c.in-Some.is,
      ap (λ b. record { stage = Some c.see.new.self; asked = c.see.new.asked; looks = a.looks; saw_end = b; passes = c.match-matches.actor }) (sym (or-false a.saw_end)),
      seen_so g.S.Stage.stands c.in-Some.stage c.see.new.self c.args.i c.args.bytes.now c.see.new.asked c.see.new.asked c.match-matches.actor c.in_ok-reply.reply zero kept reads
          (λ other. refl) c.in_ok-reply.ensures,
    )
