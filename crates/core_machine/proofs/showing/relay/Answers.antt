-- The rounds are made from the core on as it is, and their end is brought back to it.
use Rattle.std.proofs.Common.{◌≡◌, ◌<◌, ◌≤◌, ◌++◌, ◌∷◌, ◌+◌, ◌-◌, ◌*◌, ◌/◌, false, [], length, refl, sym, ◌∙◌, ap, arith}
use Rattle.pipe_model.specs.declared.step.Want.{Want}
use Rattle.core_machine.specs.Actors.{asking_for, given_up}
use Rattle.core_machine.specs.Machine.{Machine}
use Rattle.core_machine.specs.Pairs.{AreOn, put_of, rounds, took_of}
use Rattle.core_machine.specs.Runs.{HasRelayed}
use Rattle.core_machine.proofs.Rounds.{back_last, begins, begins_in, comes_last, due_end, ends_due, ends_shown, goes_home, held_end, home_or_lost, lost_last, longer_last, offers_last, one_out_last, place_end, reader_in_last, reader_last, short_end, short_last, shows_last, sound_end, steps_last, writer_home, writer_in, writer_in_last}
use Rattle.core_machine.proofs.RoundsOf.{first_fits, rounds_fit, second_fits}
use Rattle.core_machine.proofs.Runs.{err_so}
use Rattle.core_machine.proofs.Steps.{append_none}
use Rattle.core_machine.proofs.showing.relay.Given.{Over}
use Rattle.core_machine.proofs.showing.relay.Goals as goal
use Rattle.core_machine.proofs.showing.relay.Goals.{After-len}

-- What the answers share

-- the core as it is, up to the limit
abbrev since : (g : Over) (c : After-len g) → Machine
since g c = record { net = c.args.floor.now.net; budget = c.args.limit; journal = c.args.journal.now.items; out = c.args.out.now.items; is_broken = false }

-- the two begin there
on : (g : Over) (c : After-len g) → AreOn g.S.Stage.stands g.S.Stage.showing (since g c) c.args.pair c.begin-source.new.floor c.begin-source.new.actors.items c.begin-source.result 0
on g c =
    let source = c.begin-source.ensures.source in
    begins g.S.Stage.stands g.S.Stage.showing c.args.limit c.args.pair c.args.floor.now.net c.args.journal.now.items c.args.out.now.items c.args.actors.now.items c.args.floor.now.desk c.args.floor.now.pool c.requires.sound c.requires.due source.0 source.1
    c.requires.writer c.begin-source.result source.2 c.begin-source.new.floor c.begin-source.ensures.net c.begin-source.ensures.desk c.begin-source.ensures.pool c.begin-source.ensures.writes c.begin-source.ensures.reads
    c.begin-source.new.actors.items source.3

-- and so many rounds have room
fits : (g : Over) (c : After-len g) → length c.args.journal.now.items + 3 * ((c.args.limit - c.len.result) / 3) ≤ c.args.limit
fits g c = rounds_fit c.args.journal.now.items c.args.limit c.len.result c.len.ensures c.requires.sound.within

pub returns-in_default-clause-net : goal.returns-in_default-clause-net
returns-in_default-clause-net g c = refl

pub returns-in_default-clause-sound : goal.returns-in_default-clause-sound
returns-in_default-clause-sound g c = c.requires.sound

pub returns-in_default-clause-goes : goal.returns-in_default-clause-goes
returns-in_default-clause-goes g c = (([], sym (append_none c.args.journal.now.items), λ budget broken. tt), refl, c.requires.due)

-- The rounds

pub begin-source-requires-clause-home : goal.begin-source-requires-clause-home
begin-source-requires-clause-home g c =
    let home = writer_home g.S.Stage.stands g.S.Stage.showing c.args.limit c.args.pair c.args.floor.now.net c.args.journal.now.items c.args.out.now.items c.args.actors.now.items c.args.floor.now.desk c.args.floor.now.pool c.requires.sound c.requires.due c.requires.writer.0 c.requires.writer.1 in
    (c.requires.writer.0, home.0, c.requires.writer.1, home.1)

pub begin-source-requires-clause-strand : goal.begin-source-requires-clause-strand
begin-source-requires-clause-strand g c = begins_in g.S.Stage.stands g.S.Stage.showing c.args.limit c.args.pair c.args.floor.now.net c.args.journal.now.items c.args.out.now.items c.args.actors.now.items c.args.floor.now.desk c.args.floor.now.pool c.requires.sound c.requires.due c.requires.writer.0 c.requires.writer.1

pub begin-source-requires-clause-to : goal.begin-source-requires-clause-to
begin-source-requires-clause-to g c = c.requires.due.0.1.within

pub overflow_sub-most : goal.overflow_sub-most
overflow_sub-most g c = let within = c.requires.sound.within in let counted = c.len.ensures in omega (arith, within, counted)

pub make_rounds-made-requires : goal.make_rounds-made-requires
make_rounds-made-requires g c = (
  since g (goal.at.make_rounds-made-requires g c).After-len,
  on g (goal.at.make_rounds-made-requires g c).After-len,
  fits g (goal.at.make_rounds-made-requires g c).After-len,
)

pub push_rounds-requires : goal.push_rounds-requires
push_rounds-requires g c =
    let fit = fits g (goal.at.push_rounds-requires g c).After-len in
    omega (arith, fit, c.make_rounds-made.ensures.within, c.requires.room)

-- The writer's record is due to be put

pub keep_last-requires-clause-link : goal.keep_last-requires-clause-link
keep_last-requires-clause-link g c =
    let ends = c.make_rounds-made.ensures.ends (since g (goal.at.keep_last-requires-clause-link g c).After-len) (on g (goal.at.keep_last-requires-clause-link g c).After-len) (fits g (goal.at.keep_last-requires-clause-link g c).After-len) in
    let r = ends_due g.S.Stage.stands g.S.Stage.showing (since g (goal.at.keep_last-requires-clause-link g c).After-len) c.args.pair c.make_rounds-made.new.floor c.make_rounds-made.new.actors.items c.make_rounds-made.new.source c.make_rounds-made.result.rounds c.make_rounds-made.result.last ends c.in-Due.is in
    place_end r

pub keep_last-requires-clause-held : goal.keep_last-requires-clause-held
keep_last-requires-clause-held g c =
    let ends = c.make_rounds-made.ensures.ends (since g (goal.at.keep_last-requires-clause-held g c).After-len) (on g (goal.at.keep_last-requires-clause-held g c).After-len) (fits g (goal.at.keep_last-requires-clause-held g c).After-len) in
    let r = ends_due g.S.Stage.stands g.S.Stage.showing (since g (goal.at.keep_last-requires-clause-held g c).After-len) c.args.pair c.make_rounds-made.new.floor c.make_rounds-made.new.actors.items c.make_rounds-made.new.source c.make_rounds-made.result.rounds c.make_rounds-made.result.last ends c.in-Due.is in
    held_end r

pub keep_last-requires-clause-short : goal.keep_last-requires-clause-short
keep_last-requires-clause-short g c =
    let ends = c.make_rounds-made.ensures.ends (since g (goal.at.keep_last-requires-clause-short g c).After-len) (on g (goal.at.keep_last-requires-clause-short g c).After-len) (fits g (goal.at.keep_last-requires-clause-short g c).After-len) in
    let r = ends_due g.S.Stage.stands g.S.Stage.showing (since g (goal.at.keep_last-requires-clause-short g c).After-len) c.args.pair c.make_rounds-made.new.floor c.make_rounds-made.new.actors.items c.make_rounds-made.new.source c.make_rounds-made.result.rounds c.make_rounds-made.result.last ends c.in-Due.is in
    short_end r

pub put_back-requires : goal.put_back-requires
put_back-requires g c =
    let ends = c.make_rounds-made.ensures.ends (since g (goal.at.put_back-requires g c).After-len) (on g (goal.at.put_back-requires g c).After-len) (fits g (goal.at.put_back-requires g c).After-len) in
    let r = ends_due g.S.Stage.stands g.S.Stage.showing (since g (goal.at.put_back-requires g c).After-len) c.args.pair c.make_rounds-made.new.floor c.make_rounds-made.new.actors.items c.make_rounds-made.new.source c.make_rounds-made.result.rounds c.make_rounds-made.result.last ends c.in-Due.is in
    writer_in r

pub returns-in-Due-clause-net : goal.returns-in-Due-clause-net
returns-in-Due-clause-net g c = c.keep_last.ensures.net ∙ (c.make_rounds-made.ensures.net ∙ c.begin-source.ensures.net)

pub returns-in-Due-clause-sound : goal.returns-in-Due-clause-sound
returns-in-Due-clause-sound g c =
    let ends = c.make_rounds-made.ensures.ends (since g (goal.at.returns-in-Due-clause-sound g c).After-len) (on g (goal.at.returns-in-Due-clause-sound g c).After-len) (fits g (goal.at.returns-in-Due-clause-sound g c).After-len) in
    let r = ends_due g.S.Stage.stands g.S.Stage.showing (since g (goal.at.returns-in-Due-clause-sound g c).After-len) c.args.pair c.make_rounds-made.new.floor c.make_rounds-made.new.actors.items c.make_rounds-made.new.source c.make_rounds-made.result.rounds c.make_rounds-made.result.last ends c.in-Due.is in
    sound_end r c.keep_last.new.floor c.keep_last.ensures.net c.keep_last.ensures.desk c.keep_last.ensures.none c.keep_last.ensures.some c.push_rounds.new.self.items c.put_back.new.actors.items c.push_rounds.ensures.items c.put_back.ensures

pub returns-in-Due-clause-goes : goal.returns-in-Due-clause-goes
returns-in-Due-clause-goes g c =
    let ends = c.make_rounds-made.ensures.ends (since g (goal.at.returns-in-Due-clause-goes g c).After-len) (on g (goal.at.returns-in-Due-clause-goes g c).After-len) (fits g (goal.at.returns-in-Due-clause-goes g c).After-len) in
    let r = ends_due g.S.Stage.stands g.S.Stage.showing (since g (goal.at.returns-in-Due-clause-goes g c).After-len) c.args.pair c.make_rounds-made.new.floor c.make_rounds-made.new.actors.items c.make_rounds-made.new.source c.make_rounds-made.result.rounds c.make_rounds-made.result.last ends c.in-Due.is in
    ((r.more, c.push_rounds.ensures.items ∙ r.journal_is, r.steps), refl, due_end r c.keep_last.new.floor c.keep_last.ensures.net c.keep_last.ensures.desk c.keep_last.ensures.none c.keep_last.ensures.some)

-- The reader saw a record

pub end_at_sight-requires-clause-shows : goal.end_at_sight-requires-clause-shows
end_at_sight-requires-clause-shows g c =
    let ends = c.make_rounds-made.ensures.ends (since g (goal.at.end_at_sight-requires-clause-shows g c).After-len) (on g (goal.at.end_at_sight-requires-clause-shows g c).After-len) (fits g (goal.at.end_at_sight-requires-clause-shows g c).After-len) in
    let h = ends_shown g.S.Stage.stands g.S.Stage.showing (since g (goal.at.end_at_sight-requires-clause-shows g c).After-len) c.args.pair c.make_rounds-made.new.floor c.make_rounds-made.new.actors.items c.make_rounds-made.new.source c.make_rounds-made.result.rounds c.make_rounds-made.result.last ends c.in_default-last.not-Due in
    shows_last h

pub end_at_sight-requires-clause-short : goal.end_at_sight-requires-clause-short
end_at_sight-requires-clause-short g c =
    let ends = c.make_rounds-made.ensures.ends (since g (goal.at.end_at_sight-requires-clause-short g c).After-len) (on g (goal.at.end_at_sight-requires-clause-short g c).After-len) (fits g (goal.at.end_at_sight-requires-clause-short g c).After-len) in
    let h = ends_shown g.S.Stage.stands g.S.Stage.showing (since g (goal.at.end_at_sight-requires-clause-short g c).After-len) c.args.pair c.make_rounds-made.new.floor c.make_rounds-made.new.actors.items c.make_rounds-made.new.source c.make_rounds-made.result.rounds c.make_rounds-made.result.last ends c.in_default-last.not-Due in
    short_last h

pub end_at_sight-requires-clause-writer : goal.end_at_sight-requires-clause-writer
end_at_sight-requires-clause-writer g c =
    let ends = c.make_rounds-made.ensures.ends (since g (goal.at.end_at_sight-requires-clause-writer g c).After-len) (on g (goal.at.end_at_sight-requires-clause-writer g c).After-len) (fits g (goal.at.end_at_sight-requires-clause-writer g c).After-len) in
    let h = ends_shown g.S.Stage.stands g.S.Stage.showing (since g (goal.at.end_at_sight-requires-clause-writer g c).After-len) c.args.pair c.make_rounds-made.new.floor c.make_rounds-made.new.actors.items c.make_rounds-made.new.source c.make_rounds-made.result.rounds c.make_rounds-made.result.last ends c.in_default-last.not-Due in
    let inside = writer_in_last h in
    omega (arith, inside, c.make_rounds-made.new.actors.ok.0)

pub push_reserved-requires : goal.push_reserved-requires
push_reserved-requires g c =
    let ends = c.make_rounds-made.ensures.ends (since g (goal.at.push_reserved-requires g c).After-len) (on g (goal.at.push_reserved-requires g c).After-len) (fits g (goal.at.push_reserved-requires g c).After-len) in
    let h = ends_shown g.S.Stage.stands g.S.Stage.showing (since g (goal.at.push_reserved-requires g c).After-len) c.args.pair c.make_rounds-made.new.floor c.make_rounds-made.new.actors.items c.make_rounds-made.new.source c.make_rounds-made.result.rounds c.make_rounds-made.result.last ends c.in_default-last.not-Due in
    first_fits (c.args.journal.now.items ++ rounds c.args.pair c.make_rounds-made.result.rounds) c.push_rounds.new.self.items c.args.limit c.args.journal.now.room c.push_rounds.new.self.room c.push_rounds.ensures.items h.space c.requires.room c.push_rounds.ensures.room

pub push_reserved-requires-2 : goal.push_reserved-requires-2
push_reserved-requires-2 g c =
    let ends = c.make_rounds-made.ensures.ends (since g (goal.at.push_reserved-requires-2 g c).After-len) (on g (goal.at.push_reserved-requires-2 g c).After-len) (fits g (goal.at.push_reserved-requires-2 g c).After-len) in
    let h = ends_shown g.S.Stage.stands g.S.Stage.showing (since g (goal.at.push_reserved-requires-2 g c).After-len) c.args.pair c.make_rounds-made.new.floor c.make_rounds-made.new.actors.items c.make_rounds-made.new.source c.make_rounds-made.result.rounds c.make_rounds-made.result.last ends c.in_default-last.not-Due in
    second_fits (c.args.journal.now.items ++ rounds c.args.pair c.make_rounds-made.result.rounds) c.push_rounds.new.self.items c.push_reserved.new.self.items (put_of c.args.pair) c.args.limit c.args.journal.now.room c.push_rounds.new.self.room c.push_reserved.new.self.room c.push_rounds.ensures.items c.push_reserved.ensures.items
    h.space c.requires.room c.push_rounds.ensures.room c.push_reserved.ensures.room

pub index_mut-reader-requires : goal.index_mut-reader-requires
index_mut-reader-requires g c =
    let ends = c.make_rounds-made.ensures.ends (since g (goal.at.index_mut-reader-requires g c).After-len) (on g (goal.at.index_mut-reader-requires g c).After-len) (fits g (goal.at.index_mut-reader-requires g c).After-len) in
    let h = ends_shown g.S.Stage.stands g.S.Stage.showing (since g (goal.at.index_mut-reader-requires g c).After-len) c.args.pair c.make_rounds-made.new.floor c.make_rounds-made.new.actors.items c.make_rounds-made.new.source c.make_rounds-made.result.rounds c.make_rounds-made.result.last ends c.in_default-last.not-Due in
    let backs = back_last h c.end_at_sight.new.actors.items c.end_at_sight.ensures.back in
    let inside = reader_in_last h c.end_at_sight.new.actors.items backs in
    omega (arith, inside, c.end_at_sight.new.actors.ok.0)

-- It is out

pub give_up-requires : goal.give_up-requires
give_up-requires g c =
    let ends = c.make_rounds-made.ensures.ends (since g (goal.at.give_up-requires g c).After-len) (on g (goal.at.give_up-requires g c).After-len) (fits g (goal.at.give_up-requires g c).After-len) in
    let h = ends_shown g.S.Stage.stands g.S.Stage.showing (since g (goal.at.give_up-requires g c).After-len) c.args.pair c.make_rounds-made.new.floor c.make_rounds-made.new.actors.items c.make_rounds-made.new.source c.make_rounds-made.result.rounds c.make_rounds-made.result.last ends c.in_default-last.not-Due in
    let few = one_out_last h in
    omega (arith, few, c.requires.room_out)

pub returns-in-Lacks-clause-sound : goal.returns-in-Lacks-clause-sound
returns-in-Lacks-clause-sound g c =
    let ends = c.make_rounds-made.ensures.ends (since g (goal.at.returns-in-Lacks-clause-sound g c).After-len) (on g (goal.at.returns-in-Lacks-clause-sound g c).After-len) (fits g (goal.at.returns-in-Lacks-clause-sound g c).After-len) in
    let h = ends_shown g.S.Stage.stands g.S.Stage.showing (since g (goal.at.returns-in-Lacks-clause-sound g c).After-len) c.args.pair c.make_rounds-made.new.floor c.make_rounds-made.new.actors.items c.make_rounds-made.new.source c.make_rounds-made.result.rounds c.make_rounds-made.result.last ends c.in_default-last.not-Due in
    let backs = back_last h c.end_at_sight.new.actors.items c.end_at_sight.ensures.back in
    let journals = c.push_reserved-2.ensures.items ∙ ap (λ j. j ++ took_of c.args.pair ∷ []) (c.push_reserved.ensures.items ∙ ap (λ j. j ++ put_of c.args.pair ∷ []) c.push_rounds.ensures.items) in
    let pools = c.end_at_sight.ensures.pool h.relaying.grip (offers_last h) in
    let same = reader_last h c.end_at_sight.new.actors.items backs c.index_mut-reader.result.now c.index_mut-reader.ensures.value in
    lost_last h c.push_reserved-2.new.self.items journals c.end_at_sight.new.floor c.end_at_sight.ensures.net c.end_at_sight.ensures.desk pools c.end_at_sight.new.actors.items backs h.asked c.give_up.new.actor c.give_up.new.out.items c.len-place.result
    (c.give_up.ensures.actor ∙ ap given_up same) c.give_up.ensures.out c.len-place.ensures

pub returns-in-Lacks-clause-lacks : goal.returns-in-Lacks-clause-lacks
returns-in-Lacks-clause-lacks g c =
    let ends = c.make_rounds-made.ensures.ends (since g (goal.at.returns-in-Lacks-clause-lacks g c).After-len) (on g (goal.at.returns-in-Lacks-clause-lacks g c).After-len) (fits g (goal.at.returns-in-Lacks-clause-lacks g c).After-len) in
    let h = ends_shown g.S.Stage.stands g.S.Stage.showing (since g (goal.at.returns-in-Lacks-clause-lacks g c).After-len) c.args.pair c.make_rounds-made.new.floor c.make_rounds-made.new.actors.items c.make_rounds-made.new.source c.make_rounds-made.result.rounds c.make_rounds-made.result.last ends c.in_default-last.not-Due in
    let journals = c.push_reserved-2.ensures.items ∙ ap (λ j. j ++ took_of c.args.pair ∷ []) (c.push_reserved.ensures.items ∙ ap (λ j. j ++ put_of c.args.pair ∷ []) c.push_rounds.ensures.items) in
    (steps_last h c.push_reserved-2.new.self.items journals, longer_last h c.push_reserved-2.new.self.items journals, c.give_up.ensures.out ∙ ap (λ n. c.args.out.now.items ++ n ∷ []) c.len-place.ensures)

-- It comes home

pub come_home-requires-clause-comes : goal.come_home-requires-clause-comes
come_home-requires-clause-comes g c =
    let ends = c.make_rounds-made.ensures.ends (since g (goal.at.come_home-requires-clause-comes g c).After-len) (on g (goal.at.come_home-requires-clause-comes g c).After-len) (fits g (goal.at.come_home-requires-clause-comes g c).After-len) in
    let h = ends_shown g.S.Stage.stands g.S.Stage.showing (since g (goal.at.come_home-requires-clause-comes g c).After-len) c.args.pair c.make_rounds-made.new.floor c.make_rounds-made.new.actors.items c.make_rounds-made.new.source c.make_rounds-made.result.rounds c.make_rounds-made.result.last ends c.in_default-last.not-Due in
    let backs = back_last h c.end_at_sight.new.actors.items c.end_at_sight.ensures.back in
    let journals = c.push_reserved-2.ensures.items ∙ ap (λ j. j ++ took_of c.args.pair ∷ []) (c.push_reserved.ensures.items ∙ ap (λ j. j ++ put_of c.args.pair ∷ []) c.push_rounds.ensures.items) in
    let pools = c.end_at_sight.ensures.pool h.relaying.grip (offers_last h) in
    let same = reader_last h c.end_at_sight.new.actors.items backs c.index_mut-reader.result.now c.index_mut-reader.ensures.value in
    comes_last h c.push_reserved-2.new.self.items journals c.end_at_sight.new.floor c.end_at_sight.ensures.net c.end_at_sight.ensures.desk pools c.end_at_sight.new.actors.items backs c.in_default-last-2.not-Lacks c.end_at_sight.ensures.ready c.index_mut-reader.result.now.asked (ap (λ z. z.asked) same)

pub come_home-requires-clause-room : goal.come_home-requires-clause-room
come_home-requires-clause-room g c =
    let ends = c.make_rounds-made.ensures.ends (since g (goal.at.come_home-requires-clause-room g c).After-len) (on g (goal.at.come_home-requires-clause-room g c).After-len) (fits g (goal.at.come_home-requires-clause-room g c).After-len) in
    let h = ends_shown g.S.Stage.stands g.S.Stage.showing (since g (goal.at.come_home-requires-clause-room g c).After-len) c.args.pair c.make_rounds-made.new.floor c.make_rounds-made.new.actors.items c.make_rounds-made.new.source c.make_rounds-made.result.rounds c.make_rounds-made.result.last ends c.in_default-last.not-Due in
    let few = one_out_last h in
    omega (arith, few, c.requires.room_out)

pub returns-clause-sound : goal.returns-clause-sound
returns-clause-sound g c =
    let ends = c.make_rounds-made.ensures.ends (since g (goal.at.returns-clause-sound g c).After-len) (on g (goal.at.returns-clause-sound g c).After-len) (fits g (goal.at.returns-clause-sound g c).After-len) in
    let h = ends_shown g.S.Stage.stands g.S.Stage.showing (since g (goal.at.returns-clause-sound g c).After-len) c.args.pair c.make_rounds-made.new.floor c.make_rounds-made.new.actors.items c.make_rounds-made.new.source c.make_rounds-made.result.rounds c.make_rounds-made.result.last ends c.in_default-last.not-Due in
    let backs = back_last h c.end_at_sight.new.actors.items c.end_at_sight.ensures.back in
    let journals = c.push_reserved-2.ensures.items ∙ ap (λ j. j ++ took_of c.args.pair ∷ []) (c.push_reserved.ensures.items ∙ ap (λ j. j ++ put_of c.args.pair ∷ []) c.push_rounds.ensures.items) in
    let pools = c.end_at_sight.ensures.pool h.relaying.grip (offers_last h) in
    let same = reader_last h c.end_at_sight.new.actors.items backs c.index_mut-reader.result.now c.index_mut-reader.ensures.value in
    home_or_lost h c.push_reserved-2.new.self.items journals c.end_at_sight.new.floor c.end_at_sight.ensures.net c.end_at_sight.ensures.desk pools c.end_at_sight.new.actors.items backs c.come_home.result c.in_default-last-2.not-Lacks c.index_mut-reader.result.now c.come_home.new.reader same c.come_home.new.floor c.come_home.ensures.net c.come_home.new.out.items c.len-place.result c.len-place.ensures
    c.come_home.ensures.home c.come_home.ensures.lacks

pub returns-clause-goes : goal.returns-clause-goes
returns-clause-goes g c =
    let ends = c.make_rounds-made.ensures.ends (since g (goal.at.returns-clause-goes g c).After-len) (on g (goal.at.returns-clause-goes g c).After-len) (fits g (goal.at.returns-clause-goes g c).After-len) in
    let h = ends_shown g.S.Stage.stands g.S.Stage.showing (since g (goal.at.returns-clause-goes g c).After-len) c.args.pair c.make_rounds-made.new.floor c.make_rounds-made.new.actors.items c.make_rounds-made.new.source c.make_rounds-made.result.rounds c.make_rounds-made.result.last ends c.in_default-last.not-Due in
    let journals = c.push_reserved-2.ensures.items ∙ ap (λ j. j ++ took_of c.args.pair ∷ []) (c.push_reserved.ensures.items ∙ ap (λ j. j ++ put_of c.args.pair ∷ []) c.push_rounds.ensures.items) in
    goes_home h c.push_reserved-2.new.self.items journals c.come_home.result c.end_at_sight.new.floor c.come_home.new.floor c.index_mut-reader.result.now c.come_home.new.reader c.come_home.new.out.items c.come_home.ensures.home

pub returns-clause-lacks : goal.returns-clause-lacks
returns-clause-lacks g c =
    let ends = c.make_rounds-made.ensures.ends (since g (goal.at.returns-clause-lacks g c).After-len) (on g (goal.at.returns-clause-lacks g c).After-len) (fits g (goal.at.returns-clause-lacks g c).After-len) in
    let h = ends_shown g.S.Stage.stands g.S.Stage.showing (since g (goal.at.returns-clause-lacks g c).After-len) c.args.pair c.make_rounds-made.new.floor c.make_rounds-made.new.actors.items c.make_rounds-made.new.source c.make_rounds-made.result.rounds c.make_rounds-made.result.last ends c.in_default-last.not-Due in
    let journals = c.push_reserved-2.ensures.items ∙ ap (λ j. j ++ took_of c.args.pair ∷ []) (c.push_reserved.ensures.items ∙ ap (λ j. j ++ put_of c.args.pair ∷ []) c.push_rounds.ensures.items) in
    err_so ((c.come_home.new.floor.desk ≡ c.end_at_sight.new.floor.desk) × (c.come_home.new.floor.pool ≡ c.end_at_sight.new.floor.pool) × ((asked : Want) × (c.come_home.new.reader ≡ given_up (asking_for asked c.index_mut-reader.result.now)))
    × (c.come_home.new.out.items ≡ c.args.out.now.items ++ c.len-place.result ∷ []))
    (HasRelayed c.args.floor.now.net c.args.out.now.items c.args.journal.now.items c.push_reserved-2.new.self.items × (length c.args.journal.now.items < length c.push_reserved-2.new.self.items) × (c.come_home.new.out.items ≡ c.args.out.now.items ++ length c.push_reserved-2.new.self.items ∷ [])) c.come_home.result
    (λ lost. (steps_last h c.push_reserved-2.new.self.items journals, longer_last h c.push_reserved-2.new.self.items journals, lost.3 ∙ ap (λ n. c.args.out.now.items ++ n ∷ []) c.len-place.ensures)) c.come_home.ensures.lacks
