-- From a queue no more is taken than was put into it, and a record in sight there isn't taken yet.
use Rattle.std.proofs.Common.{◌≡◌, inl, inr, ℕ, suc, ◌≤◌, ◌<◌, Bool, true, false, cond, List, [], ◌∷◌, refl, sym, ◌∙◌, ap, subst, arith, Option, Some, None, slice_get}
use Rattle.std.proofs.lemmas.Bool.{eqb-true}
use Rattle.std.proofs.lemmas.Option.{slice_get_within}
use Rattle.pipe_model.specs.declared.net.Net.{Net}
use Rattle.pipe_model.specs.declared.net.Link.{Link}
use Rattle.pipe_model.specs.declared.net.Strand.{Strand}
use Rattle.pipe_model.specs.declared.step.Entry.{Entry}
use Rattle.pipe_model.specs.Event.{Event, in_sight, is_took, one_more, puts_on, records_on, tooks_on}
use Rattle.pipe_model.specs.Event.Event.{Saw, Took}
use Rattle.pipe_model.specs.Event.Want.{Take}
use Rattle.pipe_model.specs.Licence.{at_hand, is_level, licence, none_left, offered, puts, tooks, want_after, want_at}
use Rattle.pipe_model.specs.Play.{IsLegal, IsLegalFrom, play, play_from, step}
use Rattle.pipe_model.specs.State.{State, Who, link_in, nothing_yet, past, strand_at, with_event, with_some_event}
use Rattle.pipe_model.specs.WellFormed.{IsWellFormed}
use Rattle.pipe_model.proofs.Numbers.{equal_or_not}
use Rattle.confluence_laws.proofs.Basics.{at_other, at_same, from_in, more_puts, the_event, took_asked}
use Rattle.confluence_laws.proofs.Fitting.{wants_take}
use Rattle.confluence_laws.proofs.Owns.{answers_it, sight_before}
use Rattle.confluence_laws.proofs.Reached.{IsReached, at_first, not_took, reached_after, saw_it}
use Rattle.confluence_laws.proofs.Within.{count_is}

-- what is taken and in sight was put
pub record IsStocked (st : State) (l : Link) : Type 0 where
  pub taken : tooks st l ≤ puts st l
  pub seen : in_sight l.input (past st l.to) ≡ true → tooks st l < puts st l

-- all queues are so
abbrev pub AreStocked : Net → State → Type 0
AreStocked net st = (s i : ℕ) (l : Link) → link_in net nothing_yet s i ≡ Some l → l.queue ≡ true → IsStocked st l

-- a taking is of the input
took_is : (i : ℕ) (g : Event) → is_took i g ≡ true → g ≡ Took i
took_is i (Took j) is = ap Took (eqb-true j i is)
took_is i _ is = cc

-- One event more

module _ (net : Net) (formed : IsWellFormed net) (st : State) (reached : IsReached net st) (t : Who) (k : ℕ) (f : Event) (licensed : licence net st none_left t k ≡ Some f) where
  module _ (l : Link) (linked : link_in net nothing_yet l.to l.input ≡ Some l) (queue : l.queue ≡ true) (stocked : IsStocked st l) where
    abbrev now : State
    now = with_event st t f

    -- nothing that was put goes away
    puts_stay : puts st l ≤ puts now l
    puts_stay = elim (equal_or_not l.from t) [
      | inl it ↦ subst (λ z. puts_on l.output (past st z) ≤ puts_on l.output (past now z)) (sym it) (subst (λ z. puts_on l.output (past st t) ≤ puts_on l.output z) (sym (at_same st t f)) (more_puts l.output (past st t) f))
      | inr other ↦ subst (λ z. puts st l ≤ puts_on l.output z) (sym (at_other st t f l.from other)) (omega arith)
    ]

    module _ (taker : l.to ≡ t) where
      past_now : past now l.to ≡ f ∷ past st l.to
      past_now = ap (past now) taker ∙ at_same st t f ∙ ap (λ z. f ∷ past st z) (sym taker)

      tooks_now : tooks now l ≡ one_more (is_took l.input f) (tooks st l)
      tooks_now = ap (tooks_on l.input) past_now

      -- what is taken was in sight
      sight_there : (m : Option Strand) → strand_at net st t ≡ m → f ≡ Took l.input → in_sight l.input (past st t) ≡ true
      sight_there (Some p) here is =
          let asked : want_at net st none_left t ≡ Some (Take l.input) = took_asked (want_at net st none_left t) l.input (answers_it net st none_left t k (Took l.input) (licensed ∙ ap Some is)) in
          wants_take p (past st t) (reached.own t p here) l.input (ap (λ z. want_after z (past st t)) (sym here) ∙ asked)
      sight_there None here is =
          let none : want_at net st none_left t ≡ None = ap (λ z. want_after z (past st t)) here in
          let asked = took_asked (want_at net st none_left t) l.input (answers_it net st none_left t k (Took l.input) (licensed ∙ ap Some is)) in
          cc

      -- what is seen stands in the queue
      seen_now : (rec : List ℕ) → f ≡ Saw l.input rec → tooks st l < puts st l
      seen_now rec is =
          let hand = saw_it net st none_left t k l.input rec (licensed ∙ ap Some is) in
          let here : link_in net st t l.input ≡ Some l = subst (λ z. link_in net nothing_yet z l.input ≡ Some l) taker linked in
          let shown = ap (at_hand net st none_left) (sym here) ∙ hand in
          let queued : slice_get (records_on l.output (past st l.from)) (tooks st l) ≡ Some rec =
          ap (λ b. cond b (slice_get (records_on l.output (past st l.from)) (tooks st l)) (cond (is_level st l) (offered l.output (want_at net st none_left l.from)) None)) (sym queue) ∙ shown in
          let place = slice_get_within (records_on l.output (past st l.from)) (tooks st l) rec queued in
          let count = count_is l.output (past st l.from) in
          omega (arith, place, count)

      after_take : (b : Bool) → is_took l.input f ≡ b → IsStocked now l
      after_take true is =
          let sight : in_sight l.input (past st l.to) ≡ true = subst (λ z. in_sight l.input (past st z) ≡ true) (sym taker) (sight_there (strand_at net st t) refl (took_is l.input f is)) in
          let less = stocked.seen sight in
          let more : tooks now l ≡ suc (tooks st l) = tooks_now ∙ ap (λ b. one_more b (tooks st l)) is in
          let stay = puts_stay in
          record {
            taken = omega (arith, less, more, stay);
            seen = λ seen. (let no = not_took l.input f (past st l.to) (subst (λ z. in_sight l.input z ≡ true) past_now seen) in let x : true ≡ false = sym is ∙ no in cc);
          }
      after_take false is =
          let same : tooks now l ≡ tooks st l = tooks_now ∙ ap (λ b. one_more b (tooks st l)) is in
          let before = stocked.taken in
          let stay = puts_stay in
          record {
            taken = omega (arith, before, same, stay);
            seen = λ seen. elim (sight_before l.input f (past st l.to) (subst (λ z. in_sight l.input z ≡ true) past_now seen)) [
              | inl old ↦ (let less = stocked.seen old in omega (arith, less, same, stay))
              | inr saw ↦ (let less = seen_now saw.0 saw.1 in omega (arith, less, same, stay))
            ];
          }

    stock_after : IsStocked now l
    stock_after = elim (equal_or_not l.to t) [
      | inl taker ↦ after_take taker (is_took l.input f) refl
      | inr other ↦ (
          let same_past = at_other st t f l.to other in
          let same : tooks now l ≡ tooks st l = ap (tooks_on l.input) same_past in
          let before = stocked.taken in
          let stay = puts_stay in
          record {
            taken = omega (arith, before, same, stay);
            seen = λ seen. (let less = stocked.seen (subst (λ z. in_sight l.input z ≡ true) same_past seen) in omega (arith, less, same, stay));
          }
          )
    ]

  stocked_after : AreStocked net st → AreStocked net (with_event st t f)
  stocked_after stocked s i l e queue =
      let ends = from_in net formed st s i l e in
      let linked : link_in net nothing_yet l.to l.input ≡ Some l = subst (λ z. link_in net nothing_yet z l.input ≡ Some l) (sym ends.0) (subst (λ z. link_in net nothing_yet s z ≡ Some l) (sym ends.1) e) in
      stock_after l linked queue (stocked s i l e queue)

module _ (net : Net) (formed : IsWellFormed net) where
  stocked_from : (st : State) (es : List Entry) → IsReached net st → AreStocked net st → IsLegalFrom net st es → AreStocked net (play_from net st es)
  stocked_from st [] reached stocked legal = stocked
  stocked_from st (e ∷ es) reached stocked legal =
      let x = the_event (licence net st none_left e.strand e.stream) legal.0 in
      stocked_from (step net st e) es
      (subst (λ (z : Option Event). IsReached net (with_some_event st e.strand z)) (sym x.1) (reached_after net formed st reached e.strand e.stream x.0 x.1))
      (subst (λ (z : Option Event). AreStocked net (with_some_event st e.strand z)) (sym x.1) (stocked_after net formed st reached e.strand e.stream x.0 x.1 stocked)) legal.1

  pub play_stocked : (es : List Entry) → IsLegal net es → AreStocked net (play net es)
  play_stocked es legal = stocked_from nothing_yet es (at_first net) (λ s i l e queue. record { taken = (let z : 0 ≤ 0 = omega arith in z); seen = λ seen. cc }) legal
