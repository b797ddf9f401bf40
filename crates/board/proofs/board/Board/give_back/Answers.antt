use Rattle.std.proofs.Common.{sym, ◌∙◌}
use Rattle.board.proofs.Holder.{may_raise, may_put_raised, gave_raised, may_put_unraised, gave_unraised}
use Rattle.board.proofs.board.Board.give_back.Goals as goal

pub put_home_as-requires-clause-may : goal.put_home_as-requires-clause-may
put_home_as-requires-clause-may g c = may_put_unraised c.args.change c.args.seat.now.me c.requires.may (sym c.made-made.ensures ∙ c.if-made-eq0.true)

pub returns-then-made-eq0-clause-gave : goal.returns-then-made-eq0-clause-gave
returns-then-made-eq0-clause-gave g c = gave_unraised c.args.change c.args.seat.now.me c.requires.may (sym c.made-made.ensures ∙ c.if-made-eq0.true) c.put_home_as.new.seat.me c.put_home_as.ensures.home

pub raise_as-requires-clause-may : goal.raise_as-requires-clause-may
raise_as-requires-clause-may g c = may_raise c.args.change c.args.seat.now.me c.requires.may c.made-made.result c.made-made.ensures

pub put_home_as-requires-else-made-eq0-clause-may : goal.put_home_as-requires-else-made-eq0-clause-may
put_home_as-requires-else-made-eq0-clause-may g c = may_put_raised c.args.change c.args.seat.now.me c.requires.may c.raise_as.new.seat.me c.raise_as.ensures.raised

pub returns-else-made-eq0-clause-gave : goal.returns-else-made-eq0-clause-gave
returns-else-made-eq0-clause-gave g c = gave_raised c.args.change c.args.seat.now.me c.requires.may c.raise_as.new.seat.me c.put_home_as-else-made-eq0.new.seat.me c.raise_as.ensures.raised c.put_home_as-else-made-eq0.ensures.home
