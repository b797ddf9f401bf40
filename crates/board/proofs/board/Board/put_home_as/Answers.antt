use Rattle.std.proofs.Common.{rules, ◌≡◌, ap, subst, sym, ◌∙◌, ℕ, []}
use Rattle.atomic_table.specs.Table.{Allows, step}
use mathlib.Core.Option.{none}
use Rattle.board.specs.Rule.{IsOrdered}
use Rattle.board.specs.Plays.{Sat, Gave, after_give}
use Rattle.board.specs.Holding.{counted, with_kept}
use Rattle.board.proofs.Keeps.{gives_back}
use Rattle.board.proofs.board.Board.put_home_as.Goals as goal

pub count-requires : goal.count-requires
count-requires g c = let t = c.requires.may in record { id = c.requires.id; kept = (t.0, t.1, t.2.0) }

pub swap-requires : goal.swap-requires
swap-requires g c = let t = c.requires.may in let me = c.args.seat.now.me in let seat = c.count.new.seat in let home = g.B.Brings.home in let lost = g.B.Brings.lost in
    let is : seat.me ≡ with_kept me.0 (counted t.0) = c.count.ensures.counted t.0 t.1 in (
      c.count.ensures.id.0 ∙ c.requires.id,
      search rules,
      subst (λ (n : ℕ). Allows IsOrdered n seat.id seat.me 1 (λ _. 0) (Gave home lost (step n 1 0 0 none) seat.me)) (sym c.args.self.now.sized.1)
          (gives_back seat.id seat.me me.0 t.2.1.0 (counted t.0) home lost is t.2.1.1),
    )

pub returns-clause-home : goal.returns-clause-home
returns-clause-home g c k e = let home = g.B.Brings.home in let lost = g.B.Brings.lost in
    let is : c.count.new.seat.me ≡ with_kept c.args.seat.now.me.0 (counted k) = c.count.ensures.counted k e in
    let end = c.swap.ensures.2 (counted k) (ap (λ (m : Sat). m.1) is) in
    (c.swap.result, end ∙ ap (λ (m : Sat). (after_give home lost c.swap.result m.0 (counted k), [])) is)
