-- There is room for the three words, and they add as many rounds as are counted.
use Rattle.std.proofs.Common.{suc, ◌+◌, ◌-◌, ◌<◌, List, ◌++◌, ◌∷◌, [], length, ◌∙◌, ap, arith, length-append}
use Rattle.pipe_model.specs.declared.step.Entry.{Entry}
use Rattle.step_journal.specs.Words.{rounds_of, entries_of}
use Rattle.step_journal.specs.declared.journal.Word.{Word}
use Rattle.step_journal.proofs.Rounds.{room_for_word, rounds_left, rounds_length, three_more}
use Rattle.step_journal.proofs.journal.StepJournal.push_rounds.Goals as goal

pub push_reserved-requires : goal.push_reserved-requires
push_reserved-requires c =
    let words = c.loop-left.self-inside.words in
    let few = room_for_word words.items in
    omega (arith, few, words.ok.0, c.loop-left.invariant.fits, c.loop-left-test.true)

pub push_reserved-requires-in-loop-left : goal.push_reserved-requires-in-loop-left
push_reserved-requires-in-loop-left c =
    let words = c.loop-left.self-inside.words in
    let few = room_for_word words.items in
    omega (arith, few, words.ok.0, c.loop-left.invariant.fits, c.loop-left-test.true, c.push_reserved.ensures.len, c.push_reserved.ensures.capacity)

pub push_reserved-requires-in-loop-left-2 : goal.push_reserved-requires-in-loop-left-2
push_reserved-requires-in-loop-left-2 c =
    let words = c.loop-left.self-inside.words in
    let few = room_for_word words.items in
    omega (arith, few, words.ok.0, c.loop-left.invariant.fits, c.loop-left-test.true, c.push_reserved.ensures.len, c.push_reserved.ensures.capacity, c.push_reserved-in-loop-left.ensures.len, c.push_reserved-in-loop-left.ensures.capacity)

pub loop-left-preserved : goal.loop-left-preserved
loop-left-preserved c =
    let before = c.loop-left.self-inside.words.items in
    let more = c.min-more.result in
    let fewer : more < c.loop-left.left = omega (arith, c.min-more.ensures, c.loop-left-test.true) in
    let words =
    c.push_reserved-in-loop-left-2.ensures.items
    ∙ ap (λ (w : Word). c.push_reserved-in-loop-left.new.self.items ++ w ∷ []) c.word_of-in-loop-left-2.ensures
    ∙ ap (λ (ws : List Word). ws ++ (record { strand = c.args.third.strand; stream = c.args.third.stream; more = more }) ∷ [])
    (c.push_reserved-in-loop-left.ensures.items
    ∙ ap (λ (w : Word). c.push_reserved.new.self.items ++ w ∷ []) c.word_of-in-loop-left.ensures
    ∙ ap (λ (ws : List Word). ws ++ (record { strand = c.args.second.strand; stream = c.args.second.stream; more = 0 }) ∷ [])
    (c.push_reserved.ensures.items ∙ ap (λ (w : Word). before ++ w ∷ []) c.word_of.ensures)) in
    let now = ap entries_of words ∙ three_more before c.args.first c.args.second c.args.third more in
    let long = ap length now ∙ length-append (entries_of before) (rounds_of c.args.first c.args.second c.args.third (suc more)) in
    let rounds = rounds_length c.args.first c.args.second c.args.third (suc more) in
    let room = c.push_reserved-in-loop-left-2.ensures.capacity ∙ c.push_reserved-in-loop-left.ensures.capacity ∙ c.push_reserved.ensures.capacity in
    record {
      same =
          ap (λ (l : List Entry). l ++ rounds_of c.args.first c.args.second c.args.third (c.loop-left.left - (more + 1))) now
          ∙ rounds_left (entries_of before) c.args.first c.args.second c.args.third more c.loop-left.left fewer
          ∙ c.loop-left.invariant.same;
      count = omega (arith, long, rounds, c.loop-left.invariant.count);
      fits = omega (arith, long, rounds, room, fewer, c.loop-left.invariant.fits);
      room = room ∙ c.loop-left.invariant.room;
    }
