-- The two strands are what the desk and the net tell of them.
use Rattle.std.proofs.Common.{rules, refl}
use Rattle.std.proofs.lemmas.Option.{slice_get_within}
use Rattle.core_machine.proofs.Sounds.{actor_at, in_use}
use Rattle.core_machine.proofs.Rounds.{offer_held}
use Rattle.core_machine.proofs.showing.pair_of.Goals as goal

pub rendezvous_at-requires-clause-used : goal.rendezvous_at-requires-clause-used
rendezvous_at-requires-clause-used g c =
    let f = c.args.floor.now in
    in_use g.S.Stage.stands f.net c.requires.sound.0 c.requires.sound.1 c.requires.sound.2 c.args.actors.now f.desk f.pool c.requires.sound.3

pub bounds-as_slice-link : goal.bounds-as_slice-link
bounds-as_slice-link g c =
    let at = c.in_ok-link.ensures.1 in
    let inside = slice_get_within c.args.floor.now.net.links c.in_ok-link.link at.0 at.1 in
    search (rules, inside)

pub relays-requires-clause-held : goal.relays-requires-clause-held
relays-requires-clause-held g c =
    let f = c.args.floor.now in
    offer_held f.desk f.pool c.requires.sound.3.run.pooled c.in_ok-link.link

pub returns-in-Some-clause-writer : goal.returns-in-Some-clause-writer
returns-in-Some-clause-writer g c =
    let f = c.args.floor.now in
    let there = actor_at g.S.Stage.stands f.net c.requires.sound.0 c.requires.sound.1 c.requires.sound.2 c.args.actors.now f.desk f.pool c.requires.sound.3 c.args.strand
    c.index-actors-strand.result c.requires.strand c.index-actors-strand.is in
    (c.index-actors-strand.result, there, c.if-not-writes_new.ensures refl, search rules)
