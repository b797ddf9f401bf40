use Rattle.std.proofs.Common.{◌≡◌, Bool, true, false, Some, sym, ◌∙◌, ap}
use Rattle.std.specs.Prelude.{Result, Ok, Err, IfOk}
use Rattle.std.specs.Result.{is_err}
use Rattle.core_machine.specs.declared.actor.Actor.{Actor}
use Rattle.core_machine.proofs.Advanced.{resumes_same}
use Rattle.core_machine.proofs.actor.resume.Goals as goal
use Rattle.core_machine.proofs.actor.resume.Goals.{then-matches, else-matches}

none_ok : {A E : Type 0} (P : A → Type 0) (r : Result A E) → is_err r ≡ true → IfOk r P
none_ok P (Ok w) e = cc
none_ok P (Err x) e = tt

pub returns-in_err-asked : goal.returns-in_err-asked
returns-in_err-asked g c =
    let a = c.args.actor.now in (
      c.in-Some.stage,
      c.resume.new.self,
      a.asked,
      a.passes,
      ap (λ (z : Actor g.row.S.Denot). z.stage) (sym c.note_end.ensures) ∙ c.in-Some.is,
      ap (λ (z : Actor g.row.S.Denot). record { stage = Some c.resume.new.self; asked = z.asked; looks = z.looks; saw_end = z.saw_end; passes = z.passes }) c.note_end.ensures,
      none_ok _ c.from_residual.result c.from_residual.ensures.0,
    )

pub returns : goal.returns
returns g c =
    let a = c.args.actor.now in
    let x = c.in-Some.stage in
    let asked = c.in_ok-asked.asked in
    let was : a.stage ≡ Some x = ap (λ (z : Actor g.row.S.Denot). z.stage) (sym c.note_end.ensures) ∙ c.in-Some.is in
    let made : g.row.S.Denot → Bool → Actor g.row.S.Denot → Actor g.row.S.Denot = λ y p z. record { stage = Some y; asked = asked; looks = z.looks; saw_end = z.saw_end; passes = p } in
    let kept : Bool → Actor g.row.S.Denot → Actor g.row.S.Denot = λ p z. record { stage = z.stage; asked = asked; looks = z.looks; saw_end = z.saw_end; passes = p } in
    elim c.if-matches.branch [
      | then-matches w ↦
          let y = w.passes-actor.new.self in
          let passes = w.passes-actor.result in (
            x,
            y,
            asked,
            passes,
            was,
            c.ask.ensures ∙ ap (λ p. kept p c.if-matches.actor) w.actor2-is ∙ ap (kept passes) w.actor-is ∙ ap (made y passes) c.note_end.ensures,
            (resumes_same g.S.Stage.stands x c.args.bytes.now c.resume.new.self y c.args.seen asked c.in_ok-asked.ensures w.passes-actor.ensures.same, w.passes-actor.ensures.passes),
          )
      | else-matches w ↦
          let y = c.resume.new.self in
          let passes = c.match-matches.matches in (
            x,
            y,
            asked,
            passes,
            was,
            c.ask.ensures ∙ ap (λ p. kept p c.if-matches.actor) w.actor2-is ∙ ap (kept passes) w.actor-is ∙ ap (made y passes) c.note_end.ensures,
            (c.in_ok-asked.ensures, λ yes. (let no : true ≡ false = sym yes ∙ w.if-matches.false in cc)),
          )
    ]
