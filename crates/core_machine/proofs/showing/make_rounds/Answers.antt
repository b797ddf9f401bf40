-- In each round the two go on as before, and at its end as the next record is due, or as the reader saw one.
use Rattle.std.proofs.Common.{rules, ◌≡◌, ◌≢◌, ◌<◌, ◌++◌, ◌+◌, ◌-◌, ℕ, true, List, length, refl, sym, ◌∙◌, ap, subst, arith, slice_set, IfOk}
use Rattle.std.proofs.lemmas.Bool.{ltb-false}
use Rattle.pipe_model.proofs.Lists.{get_set_same}
use Rattle.stage_steps.specs.Showings.{IsShowing, IsCutting}
use Rattle.stage_steps.specs.declared.reply.Reply.TheVariants.{Takes}
use Rattle.core_machine.specs.Actors.{HasSeen, IsClearFor}
use Rattle.core_machine.specs.Pairs.{AreOn, rounds}
use Rattle.core_machine.proofs.Clears.{clear_covers, clear_found, clear_next, clear_none, clear_round}
use Rattle.core_machine.proofs.Rounds.{few_there, goes_round, is_due_there, may_show, on_covers, place_link, read_is, reader_at, reader_in, saw_only, sees, takes_so}
use Rattle.core_machine.proofs.RoundsOf.{round_more, round_space}
use Rattle.core_machine.proofs.showing.make_rounds.Goals as goal
use Rattle.core_machine.proofs.showing.make_rounds.Goals.{then-awaits, else-awaits}

pub loop-rounds-init : goal.loop-rounds-init
loop-rounds-init g c = (
  λ m on fits. on,
  refl,
  omega arith,
  clear_none g.S.Stage.stands g.S.Stage.ahead c.args.actors.now.items c.args.pair.to c.args.source.now true,
)

pub show-requires : goal.show-requires
show-requires g c =
    let r = c.loop-rounds.invariant.0 c.requires.0 c.requires.1 c.requires.2 in
    let space = round_space c.args.pair c.requires.0.journal c.requires.0.budget c.args.most c.loop-rounds.rounds c.requires.2 c.loop-rounds-test.true in
    may_show r space

-- The reader isn't told, and took the record, which stands in the stretch that is clear

pub relay-requires-clause-link : goal.relay-requires-clause-link
relay-requires-clause-link g c =
    let r = c.loop-rounds.invariant.0 c.requires.0 c.requires.1 c.requires.2 in
    let space = round_space c.args.pair c.requires.0.journal c.requires.0.budget c.args.most c.loop-rounds.rounds c.requires.2 c.loop-rounds-test.true in
    place_link r space

pub relay-requires-clause-due : goal.relay-requires-clause-due
relay-requires-clause-due g c =
    let r = c.loop-rounds.invariant.0 c.requires.0 c.requires.1 c.requires.2 in
    let space = round_space c.args.pair c.requires.0.journal c.requires.0.budget c.args.most c.loop-rounds.rounds c.requires.2 c.loop-rounds-test.true in
    is_due_there r space

pub relay-requires-clause-count : goal.relay-requires-clause-count
relay-requires-clause-count g c =
    let r = c.loop-rounds.invariant.0 c.requires.0 c.requires.1 c.requires.2 in
    let space = round_space c.args.pair c.requires.0.journal c.requires.0.budget c.args.most c.loop-rounds.rounds c.requires.2 c.loop-rounds-test.true in
    few_there r space

pub relay-requires-clause-covers : goal.relay-requires-clause-covers
relay-requires-clause-covers g c =
    let r = c.loop-rounds.invariant.0 c.requires.0 c.requires.1 c.requires.2 in
    let space = round_space c.args.pair c.requires.0.journal c.requires.0.budget c.args.most c.loop-rounds.rounds c.requires.2 c.loop-rounds-test.true in
    let shows : IsShowing g.S.Stage.stands g.S.Stage.showing c.loop-rounds.source c.show.new.self c.args.pair.output true = c.if-not-show.ensures.shows in
    let cuts : IsCutting g.S.Stage.ahead g.S.Stage.showing c.loop-rounds.source c.show.new.self true = c.if-not-show.ensures.cuts in
    let less : length (g.S.Stage.showing c.show.new.self) < c.loop-rounds.clear = subst (λ (z : List ℕ). length z < c.loop-rounds.clear) c.shown-size.ensures c.if-size-clear.true in
    clear_covers r space g.S.Stage.ahead c.show.new.self shows cuts c.loop-rounds.clear c.loop-rounds.awaits c.loop-rounds.invariant.3 less

pub loop-rounds-preserved-then-size-clear : goal.loop-rounds-preserved-then-size-clear
loop-rounds-preserved-then-size-clear g c =
    let r = c.loop-rounds.invariant.0 c.requires.0 c.requires.1 c.requires.2 in
    let space = round_space c.args.pair c.requires.0.journal c.requires.0.budget c.args.most c.loop-rounds.rounds c.requires.2 c.loop-rounds-test.true in
    let shows : IsShowing g.S.Stage.stands g.S.Stage.showing c.loop-rounds.source c.show.new.self c.args.pair.output true = c.if-not-show.ensures.shows in
    let cuts : IsCutting g.S.Stage.ahead g.S.Stage.showing c.loop-rounds.source c.show.new.self true = c.if-not-show.ensures.cuts in
    let less : length (g.S.Stage.showing c.show.new.self) < c.loop-rounds.clear = subst (λ (z : List ℕ). length z < c.loop-rounds.clear) c.shown-size.ensures c.if-size-clear.true in
    let sizes : length c.shown-size.result.now ≡ length (g.S.Stage.showing c.show.new.self) = ap (λ (z : List ℕ). length z) c.shown-size.ensures in
    let few = c.loop-rounds-test.true in (
      λ m on fits. clear_round (c.loop-rounds.invariant.0 m on fits) (round_space c.args.pair m.journal m.budget c.args.most c.loop-rounds.rounds fits c.loop-rounds-test.true) g.S.Stage.ahead c.show.new.self shows cuts
          c.loop-rounds.clear c.loop-rounds.awaits c.loop-rounds.invariant.3 less c.relay.new.self (m.journal ++ rounds c.args.pair (c.loop-rounds.rounds + 1)) c.relay.ensures.net c.relay.ensures.desk c.relay.ensures.pool c.relay.ensures.ready
          (round_more c.args.pair m.journal c.loop-rounds.rounds),
      c.relay.ensures.net ∙ c.loop-rounds.invariant.1,
      omega (arith, few),
      clear_next r space g.S.Stage.ahead c.show.new.self shows cuts c.loop-rounds.clear c.loop-rounds.awaits c.loop-rounds.invariant.3 less
          (c.loop-rounds.clear - (length c.shown-size.result.now + 1)) (omega (arith, sizes)),
    )

-- It is told

pub index_mut-reader-requires : goal.index_mut-reader-requires
index_mut-reader-requires g c =
    let r = c.loop-rounds.invariant.0 c.requires.0 c.requires.1 c.requires.2 in
    let inside = reader_in r in
    omega (arith, inside, c.loop-rounds.actors.ok.0)

pub see-reply-requires : goal.see-reply-requires
see-reply-requires g c =
    let r = c.loop-rounds.invariant.0 c.requires.0 c.requires.1 c.requires.2 in
    let space = round_space c.args.pair c.requires.0.journal c.requires.0.budget c.args.most c.loop-rounds.rounds c.requires.2 c.loop-rounds-test.true in
    let b = c.index_mut-reader.result.now in
    let shows : IsShowing g.S.Stage.stands g.S.Stage.showing c.loop-rounds.source c.show.new.self c.args.pair.output true = c.if-not-show.ensures.shows in
    let reader = reader_at r b c.index_mut-reader.ensures.value in
    sees r space c.show.new.self shows b reader c.bytes_shown-bytes.result.now c.bytes_shown-bytes.ensures.looks c.bytes_shown-bytes.ensures.plain

-- It took the record

pub relay-requires-in-Ok-Takes-clause-link : goal.relay-requires-in-Ok-Takes-clause-link
relay-requires-in-Ok-Takes-clause-link g c =
    let r = c.loop-rounds.invariant.0 c.requires.0 c.requires.1 c.requires.2 in
    let space = round_space c.args.pair c.requires.0.journal c.requires.0.budget c.args.most c.loop-rounds.rounds c.requires.2 c.loop-rounds-test.true in
    place_link r space

pub relay-requires-in-Ok-Takes-clause-due : goal.relay-requires-in-Ok-Takes-clause-due
relay-requires-in-Ok-Takes-clause-due g c =
    let r = c.loop-rounds.invariant.0 c.requires.0 c.requires.1 c.requires.2 in
    let space = round_space c.args.pair c.requires.0.journal c.requires.0.budget c.args.most c.loop-rounds.rounds c.requires.2 c.loop-rounds-test.true in
    is_due_there r space

pub relay-requires-in-Ok-Takes-clause-count : goal.relay-requires-in-Ok-Takes-clause-count
relay-requires-in-Ok-Takes-clause-count g c =
    let r = c.loop-rounds.invariant.0 c.requires.0 c.requires.1 c.requires.2 in
    let space = round_space c.args.pair c.requires.0.journal c.requires.0.budget c.args.most c.loop-rounds.rounds c.requires.2 c.loop-rounds-test.true in
    few_there r space

pub relay-requires-in-Ok-Takes-clause-covers : goal.relay-requires-in-Ok-Takes-clause-covers
relay-requires-in-Ok-Takes-clause-covers g c =
    let r = c.loop-rounds.invariant.0 c.requires.0 c.requires.1 c.requires.2 in
    let space = round_space c.args.pair c.requires.0.journal c.requires.0.budget c.args.most c.loop-rounds.rounds c.requires.2 c.loop-rounds-test.true in
    let b = c.index_mut-reader.result.now in
    let shows : IsShowing g.S.Stage.stands g.S.Stage.showing c.loop-rounds.source c.show.new.self c.args.pair.output true = c.if-not-show.ensures.shows in
    let reader = reader_at r b c.index_mut-reader.ensures.value in
    let on = c.see-reply.ensures in
    let shown = c.bytes_shown-bytes.result.now in
    let takes : c.in-Ok-Takes.field-0 ≡ Takes = rw c.in-Ok-Takes.is at c.in-Ok-Takes.field-0-is in
    let seen = takes_so g.S.Stage.stands on.0 on.1 shown on.2 on.3 c.see-reply.result c.in-Ok-Takes.field-0 on.6 c.in-Ok-Takes.is takes in
    on_covers r space c.show.new.self shows b reader on.0 on.1 on.4 on.2 on.3 shown c.bytes_shown-bytes.ensures.looks c.bytes_shown-bytes.ensures.plain seen

pub loop-rounds-preserved : goal.loop-rounds-preserved
loop-rounds-preserved g c =
    let r = c.loop-rounds.invariant.0 c.requires.0 c.requires.1 c.requires.2 in
    let space = round_space c.args.pair c.requires.0.journal c.requires.0.budget c.args.most c.loop-rounds.rounds c.requires.2 c.loop-rounds-test.true in
    let b = c.index_mut-reader.result.now in
    let shows : IsShowing g.S.Stage.stands g.S.Stage.showing c.loop-rounds.source c.show.new.self c.args.pair.output true = c.if-not-show.ensures.shows in
    let reader = reader_at r b c.index_mut-reader.ensures.value in
    let on = c.see-reply.ensures in
    let shown = c.bytes_shown-bytes.result.now in
    let takes : c.in-Ok-Takes.field-0 ≡ Takes = rw c.in-Ok-Takes.is at c.in-Ok-Takes.field-0-is in
    let seen = takes_so g.S.Stage.stands on.0 on.1 shown on.2 on.3 c.see-reply.result c.in-Ok-Takes.field-0 on.6 c.in-Ok-Takes.is takes in
    let few = c.loop-rounds-test.true in (
      λ m all fits. goes_round (c.loop-rounds.invariant.0 m all fits) (round_space c.args.pair m.journal m.budget c.args.most c.loop-rounds.rounds fits c.loop-rounds-test.true) c.show.new.self shows b reader on.0 on.1 on.4 on.2 on.3 shown
          c.bytes_shown-bytes.ensures.looks c.bytes_shown-bytes.ensures.plain seen
          c.relay-in-Ok-Takes.new.self (slice_set c.loop-rounds.actors.items c.args.pair.to c.see-reply.new.actor) (m.journal ++ rounds c.args.pair (c.loop-rounds.rounds + 1)) c.relay-in-Ok-Takes.ensures.net c.relay-in-Ok-Takes.ensures.desk c.relay-in-Ok-Takes.ensures.pool c.relay-in-Ok-Takes.ensures.ready
          (ap (λ z. slice_set c.loop-rounds.actors.items c.args.pair.to z) on.5)
          (round_more c.args.pair m.journal c.loop-rounds.rounds),
      c.relay-in-Ok-Takes.ensures.net ∙ c.loop-rounds.invariant.1,
      omega (arith, few),
      clear_found g.S.Stage.stands g.S.Stage.ahead c.loop-rounds.actors.items c.args.pair.to c.show.new.self c.if-awaits.clear c.if-awaits.awaits b c.see-reply.new.actor reader
          (elim c.if-awaits.branch [
            | then-awaits w ↦
                (let same = read_is (slice_set c.loop-rounds.actors.items c.args.pair.to c.see-reply.new.actor) c.args.pair.to c.see-reply.new.actor w.index.result.now
                (get_set_same c.loop-rounds.actors.items c.args.pair.to c.see-reply.new.actor b reader) w.index.ensures in
                subst (λ n. IsClearFor g.S.Stage.stands c.see-reply.new.actor (g.S.Stage.ahead c.show.new.self) n) (sym w.clear-is)
                (subst (λ a. IsClearFor g.S.Stage.stands a (g.S.Stage.ahead c.show.new.self) w.clear_ahead-clear.result) same w.clear_ahead-clear.ensures.clear))
            | else-awaits w ↦ λ some. (let zeros = c.loop-rounds.invariant.3.1 w.if-awaits.false in let left = w.clear-is in absurd (let no : ⊥ = omega (arith, some, zeros, left) in no))
          ])
          (ap (λ z. z.asked) on.5 ∙ seen.1) (ap (λ z. z.passes) on.5 ∙ seen.2)
          (λ no. elim c.if-awaits.branch [
            | then-awaits w ↦ (let none = ltb-false 0 w.clear_ahead-clear.result (sym w.awaits-is ∙ no) in let left = w.clear-is in omega (arith, none, left))
            | else-awaits w ↦ w.clear-is ∙ c.loop-rounds.invariant.3.1 w.if-awaits.false
          ]),
    )

-- The rounds end

pub returns-then-not-show-clause-ends : goal.returns-then-not-show-clause-ends
returns-then-not-show-clause-ends g c = λ m on fits.
    let same : c.show.new.self ≡ c.loop-rounds.source = subst (IsShowing g.S.Stage.stands g.S.Stage.showing c.loop-rounds.source c.show.new.self c.args.pair.output) c.if-not-show.true c.show.ensures.shows in
    subst (λ s. AreOn g.S.Stage.stands g.S.Stage.showing m c.args.pair c.loop-rounds.floor c.loop-rounds.actors.items s c.loop-rounds.rounds) (sym same) (c.loop-rounds.invariant.0 m on fits)

pub returns-clause-ends : goal.returns-clause-ends
returns-clause-ends g c = c.loop-rounds.invariant.0

pub returns-in_default-reply-clause-ends : goal.returns-in_default-reply-clause-ends
returns-in_default-reply-clause-ends g c = λ m on fits.
    let r = c.loop-rounds.invariant.0 m on fits in
    let seen = c.see-reply.ensures in
    record {
      before = c.loop-rounds.actors.items;
      writer = c.loop-rounds.source;
      relaying = r;
      space = round_space c.args.pair m.journal m.budget c.args.most c.loop-rounds.rounds fits c.loop-rounds-test.true;
      shows = c.if-not-show.ensures.shows;
      reader = c.index_mut-reader.result.now;
      there = reader_at r c.index_mut-reader.result.now c.index_mut-reader.ensures.value;
      told = seen.0;
      went = seen.1;
      was = seen.4;
      asked = seen.2;
      passes = seen.3;
      shown = c.bytes_shown-bytes.result.now;
      all = c.bytes_shown-bytes.ensures.looks;
      none = c.bytes_shown-bytes.ensures.plain;
      actors_are = ap (λ z. slice_set c.loop-rounds.actors.items c.args.pair.to z) seen.5;
      resumed = λ other. absurd (other refl);
    }

pub returns-in-loop-rounds-clause-ends : goal.returns-in-loop-rounds-clause-ends
returns-in-loop-rounds-clause-ends g c = λ m on fits.
    let r = c.loop-rounds.invariant.0 m on fits in
    let seen = c.see-reply.ensures in
    let shown = c.bytes_shown-bytes.result.now in
    let no : c.in-Ok.field-0 ≢ Takes = search rules in
    record {
      before = c.loop-rounds.actors.items;
      writer = c.loop-rounds.source;
      relaying = r;
      space = round_space c.args.pair m.journal m.budget c.args.most c.loop-rounds.rounds fits c.loop-rounds-test.true;
      shows = c.if-not-show.ensures.shows;
      reader = c.index_mut-reader.result.now;
      there = reader_at r c.index_mut-reader.result.now c.index_mut-reader.ensures.value;
      told = seen.0;
      went = seen.1;
      was = seen.4;
      asked = seen.2;
      passes = seen.3;
      shown = c.bytes_shown-bytes.result.now;
      all = c.bytes_shown-bytes.ensures.looks;
      none = c.bytes_shown-bytes.ensures.plain;
      actors_are = ap (λ z. slice_set c.loop-rounds.actors.items c.args.pair.to z) seen.5;
      resumed = λ other. saw_only g.S.Stage.stands seen.0 seen.1 shown seen.2 seen.3 c.in-Ok.field-0 no (subst (λ z. IfOk z (HasSeen g.S.Stage.stands seen.0 seen.1 0 shown seen.2 seen.3)) c.in-Ok.is seen.6);
    }
