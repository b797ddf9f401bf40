-- It comes home as it may, or is given up.
use Rattle.std.proofs.Common.{refl, sym, ap}
use Rattle.core_machine.specs.Actors.{asking_for}
use Rattle.core_machine.proofs.showing.come_home.Goals as goal

pub come_home-requires-clause-used : goal.come_home-requires-clause-used
come_home-requires-clause-used g c = c.requires.comes.used

pub come_home-requires-clause-ended : goal.come_home-requires-clause-ended
come_home-requires-clause-ended g c = sym c.requires.comes.live

pub come_home-requires-clause-can : goal.come_home-requires-clause-can
come_home-requires-clause-can g c = λ live. c.requires.comes.can

pub come_home-requires-clause-early : goal.come_home-requires-clause-early
come_home-requires-clause-early g c = λ live. c.requires.comes.early

pub come_home-requires-clause-here : goal.come_home-requires-clause-here
come_home-requires-clause-here g c = c.requires.comes.here

pub come_home-requires-clause-strand : goal.come_home-requires-clause-strand
come_home-requires-clause-strand g c = c.requires.comes.strand

pub give_up-requires : goal.give_up-requires
give_up-requires g c = c.requires.room

pub returns-clause-home : goal.returns-clause-home
returns-clause-home g c = (refl, c.in-Ok.ensures.home, ap (λ w. asking_for w c.args.reader.now) (c.come_home.ensures.bare refl), refl)

pub returns-in_default-clause-lacks : goal.returns-in_default-clause-lacks
returns-in_default-clause-lacks g c = (c.in_default.ensures.err, c.in_default.ensures.err_pool, (c.come_home.new.want, c.give_up.ensures.actor), c.give_up.ensures.out)
