-- On a rendezvous as many records were put as were taken, or one fewer, which its producer still wants to write.
use Rattle.std.proofs.Common.{◌≡◌, ◌≢◌, ◌⊎◌, inl, inr, ℕ, suc, ◌<◌, Bool, true, false, ◌||◌, ◌==◌, List, [], ◌∷◌, refl, sym, ◌∙◌, ap, subst, arith, Option, Some, None, eq-eqb}
use Rattle.std.proofs.lemmas.Bool.{eqb-true, lt-ltb, ltb-true}
use Rattle.std.specs.Prelude.{nat_lt}
use Rattle.pipe_model.specs.declared.net.Net.{Net}
use Rattle.pipe_model.specs.declared.net.Link.{Link}
use Rattle.pipe_model.specs.declared.net.Strand.{Strand}
use Rattle.pipe_model.specs.declared.step.Entry.{Entry}
use Rattle.pipe_model.specs.Event.{Event, Want, in_sight, is_put, is_took, one_more, puts_on, tooks_on}
use Rattle.pipe_model.specs.Event.Event.{Put, Refused, Took}
use Rattle.pipe_model.specs.Event.Want.{Take, Write}
use Rattle.pipe_model.specs.Licence.{answer, licence, may_put, none_left, offered, puts, sight_of, tooks, want_after, want_at}
use Rattle.pipe_model.specs.Play.{IsLegal, IsLegalFrom, play, play_from, step}
use Rattle.pipe_model.specs.State.{State, Who, link_in, link_out, nothing_yet, past, strand_at, with_event, with_some_event}
use Rattle.pipe_model.specs.WellFormed.{IsWellFormed}
use Rattle.pipe_model.proofs.Numbers.{equal_or_not}
use Rattle.pipe_model.proofs.Truths.{cond_some}
use Rattle.confluence_laws.proofs.Basics.{at_other, at_same, from_in, put_asked, the_event, took_asked}
use Rattle.confluence_laws.proofs.Fitting.{wants_take}
use Rattle.confluence_laws.proofs.Later.{actor_goes_on, same_want}
use Rattle.confluence_laws.proofs.Owns.{answers_it}
use Rattle.confluence_laws.proofs.Reached.{IsReached, at_first, reached_after}
use Rattle.confluence_laws.proofs.Within.{write_told}

-- one more was taken than was put, and the producer wants to write it
pub record IsOwed (net : Net) (st : State) (l : Link) : Type 0 where
  pub more : tooks st l ≡ suc (puts st l)
  pub rec : List ℕ
  pub offers : offered l.output (want_at net st none_left l.from) ≡ Some rec

abbrev pub IsEven : Net → State → Link → Type 0
IsEven net st l = (puts st l ≡ tooks st l) ⊎ IsOwed net st l

-- all rendezvous between two strands are so
abbrev pub AreEven : Net → State → Type 0
AreEven net st = (s i : ℕ) (l : Link) → link_in net nothing_yet s i ≡ Some l → l.queue ≡ false → l.from ≢ l.to → IsEven net st l

-- who offers a record wants to write it
pub writes_it : (want : Option Want) (o : ℕ) (rec : List ℕ) → offered o want ≡ Some rec → (x : List ℕ) × (want ≡ Some (Write o x))
writes_it (Some (Write p x)) o rec is =
    let c = cond_some (p == o) (Some x) is in
    (x, ap (λ z. Some (Write z x)) (eqb-true p o c.0))
writes_it None o rec is = cc
writes_it (Some _) o rec is = cc

-- One event more

module _ (net : Net) (formed : IsWellFormed net) (st : State) (reached : IsReached net st) (t : Who) (k : ℕ) (f : Event) (licensed : licence net st none_left t k ≡ Some f) where
  module _ (l : Link) (linked : link_in net nothing_yet l.to l.input ≡ Some l) (out : link_out net nothing_yet l.from l.output ≡ Some l) (plain : l.queue ≡ false) (apart : l.from ≢ l.to) (even : IsEven net st l) where
    abbrev now : State
    now = with_event st t f

    -- whoever takes a record has it from one that offers it
    module _ (taker : l.to ≡ t) where
      same_past : past now l.from ≡ past st l.from
      same_past = at_other st t f l.from (λ is. apart (is ∙ sym taker))

      same_puts : puts now l ≡ puts st l
      same_puts = ap (puts_on l.output) same_past

      same_offer : offered l.output (want_at net now none_left l.from) ≡ offered l.output (want_at net st none_left l.from)
      same_offer = ap (offered l.output) (same_want net formed st t f k licensed l.from same_past)

      tooks_now : tooks now l ≡ one_more (is_took l.input f) (tooks st l)
      tooks_now = ap (λ z. tooks_on l.input (past now z)) taker ∙ ap (tooks_on l.input) (at_same st t f) ∙ ap (λ z. one_more (is_took l.input f) (tooks_on l.input (past st z))) (sym taker)

      sees_it : (p : Strand) → strand_at net st t ≡ Some p → f ≡ Took l.input → in_sight l.input (past st t) ≡ true
      sees_it p here is =
          let asked : want_at net st none_left t ≡ Some (Take l.input) = took_asked (want_at net st none_left t) l.input (answers_it net st none_left t k (Took l.input) (licensed ∙ ap Some is)) in
          wants_take p (past st t) (reached.own t p here) l.input (ap (λ z. want_after z (past st t)) (sym here) ∙ asked)

      took_is : (g : Event) → is_took l.input g ≡ true → g ≡ Took l.input
      took_is (Took i) is = ap Took (eqb-true i l.input is)
      took_is _ is = cc

      some_strand : (m : _) → strand_at net st t ≡ m → f ≡ Took l.input → in_sight l.input (past st t) ≡ true
      some_strand (Some p) here is = sees_it p here is
      some_strand None here is =
          let none : want_at net st none_left t ≡ None = ap (λ z. want_after z (past st t)) here in
          let asked = took_asked (want_at net st none_left t) l.input (answers_it net st none_left t k (Took l.input) (licensed ∙ ap Some is)) in
          cc

      after_take : (b : Bool) → is_took l.input f ≡ b → IsEven net now l
      after_take true is =
          let took = took_is f is in
          let sight = some_strand (strand_at net st t) refl took in
          let writing = reached.waits t l.input l (subst (λ z. link_in net nothing_yet z l.input ≡ Some l) taker linked) plain (actor_goes_on net formed st t f k licensed) sight in
          inr (record {
            more = tooks_now ∙ ap (λ b. one_more b (tooks st l)) is ∙ ap suc (sym (eqb-true (puts st l) (tooks st l) writing.level)) ∙ ap suc (sym same_puts);
            rec = writing.shown_there.0;
            offers = same_offer ∙ writing.shown_there.1;
          })
      after_take false is =
          let same_tooks : tooks now l ≡ tooks st l = tooks_now ∙ ap (λ b. one_more b (tooks st l)) is in
          elim even [
            | inl level ↦ inl (same_puts ∙ level ∙ sym same_tooks)
            | inr owed ↦ inr (record { more = same_tooks ∙ owed.more ∙ ap suc (sym same_puts); rec = owed.rec; offers = same_offer ∙ owed.offers })
          ]

    -- whoever puts a record owed it
    module _ (putter : l.from ≡ t) where
      same_tooks : tooks now l ≡ tooks st l
      same_tooks = ap (tooks_on l.input) (at_other st t f l.to (λ is. apart (putter ∙ sym is)))

      puts_now : puts now l ≡ one_more (is_put l.output f) (puts st l)
      puts_now = ap (λ z. puts_on l.output (past now z)) putter ∙ ap (puts_on l.output) (at_same st t f) ∙ ap (λ z. one_more (is_put l.output f) (puts_on l.output (past st z))) (sym putter)

      may_put_is : may_put st (link_out net st t l.output) ≡ nat_lt (puts st l) (tooks st l)
      may_put_is = ap (λ z. may_put st (link_out net st z l.output)) (sym putter) ∙ ap (may_put st) out ∙ ap (λ b. b || nat_lt (puts st l) (tooks st l)) plain

      told : (rec : List ℕ) → want_at net st none_left t ≡ Some (Write l.output rec) → ((f ≡ Put l.output rec) × (nat_lt (puts st l) (tooks st l) ≡ true)) ⊎ ((f ≡ Refused l.output) × (nat_lt (puts st l) (tooks st l) ≡ false))
      told rec want = elim (write_told (sight_of net st none_left t) k l.output rec f (subst (λ z. answer (sight_of net st none_left t) k z ≡ Some f) want licensed)) [
        | inl put ↦ inl (put.0, sym may_put_is ∙ put.1)
        | inr refusal ↦ inr (refusal.0, sym may_put_is ∙ refusal.1)
      ]

      put_is : (g : Event) → is_put l.output g ≡ true → (rec : List ℕ) × (g ≡ Put l.output rec)
      put_is (Put o rec) is = (rec, ap (λ z. Put z rec) (eqb-true o l.output is))
      put_is _ is = cc

      -- where nothing is owed it doesn't put
      not_put : puts st l ≡ tooks st l → (b : Bool) → is_put l.output f ≡ b → IsEven net now l
      not_put level false is = inl (puts_now ∙ ap (λ b. one_more b (puts st l)) is ∙ level ∙ sym same_tooks)
      not_put level true is =
          let put = put_is f is in
          let asked = put_asked (want_at net st none_left t) l.output put.0 (answers_it net st none_left t k (Put l.output put.0) (licensed ∙ ap Some put.1)) in
          elim (told asked.0 asked.1) [
            | inl now_put ↦ (let less = ltb-true (puts st l) (tooks st l) now_put.1 in absurd (omega (arith, less, level)))
            | inr refused ↦ (let other = sym put.1 ∙ refused.0 in cc)
          ]

      -- and where a record is owed it puts it
      pays : IsOwed net st l → IsEven net now l
      pays owed =
          let want = writes_it (want_at net st none_left l.from) l.output owed.rec owed.offers in
          elim (told want.0 (subst (λ z. want_at net st none_left z ≡ Some (Write l.output want.0)) putter want.1)) [
            | inl put ↦ (
                let one : is_put l.output f ≡ true = ap (is_put l.output) put.0 ∙ eq-eqb l.output l.output refl in
                inl (puts_now ∙ ap (λ b. one_more b (puts st l)) one ∙ sym owed.more ∙ sym same_tooks)
                )
            | inr refused ↦ (
                let more = owed.more in
                let less : puts st l < tooks st l = omega (arith, more) in
                let yes = lt-ltb (puts st l) (tooks st l) less in
                (let x : true ≡ false = sym yes ∙ refused.1 in cc)
                )
          ]

      after_put : IsEven net now l
      after_put = elim even [ inl level ↦ not_put level (is_put l.output f) refl | inr owed ↦ pays owed ]

    -- all others leave the link as it was
    link_after : IsEven net now l
    link_after = elim (equal_or_not l.to t) [
      | inl taker ↦ after_take taker (is_took l.input f) refl
      | inr other ↦ elim (equal_or_not l.from t) [
        | inl putter ↦ after_put putter
        | inr apart_too ↦ (
            let from_is = at_other st t f l.from apart_too in
            let same_puts : puts now l ≡ puts st l = ap (puts_on l.output) from_is in
            let same_tooks : tooks now l ≡ tooks st l = ap (tooks_on l.input) (at_other st t f l.to other) in
            elim even [
              | inl level ↦ inl (same_puts ∙ level ∙ sym same_tooks)
              | inr owed ↦ inr (record {
                more = same_tooks ∙ owed.more ∙ ap suc (sym same_puts);
                rec = owed.rec;
                offers = ap (offered l.output) (same_want net formed st t f k licensed l.from from_is) ∙ owed.offers;
              })
            ]
            )
      ]
    ]

  even_after : AreEven net st → AreEven net (with_event st t f)
  even_after even s i l e plain apart =
      let ends = from_in net formed st s i l e in
      let linked : link_in net nothing_yet l.to l.input ≡ Some l = subst (λ z. link_in net nothing_yet z l.input ≡ Some l) (sym ends.0) (subst (λ z. link_in net nothing_yet s z ≡ Some l) (sym ends.1) e) in
      link_after l linked ends.2 plain apart (even s i l e plain apart)

module _ (net : Net) (formed : IsWellFormed net) where
  even_from : (st : State) (es : List Entry) → IsReached net st → AreEven net st → IsLegalFrom net st es → AreEven net (play_from net st es)
  even_from st [] reached even legal = even
  even_from st (e ∷ es) reached even legal =
      let x = the_event (licence net st none_left e.strand e.stream) legal.0 in
      even_from (step net st e) es
      (subst (λ (z : Option Event). IsReached net (with_some_event st e.strand z)) (sym x.1) (reached_after net formed st reached e.strand e.stream x.0 x.1))
      (subst (λ (z : Option Event). AreEven net (with_some_event st e.strand z)) (sym x.1) (even_after net formed st reached e.strand e.stream x.0 x.1 even)) legal.1

  pub play_even : (es : List Entry) → IsLegal net es → AreEven net (play net es)
  play_even es legal = even_from nothing_yet es (at_first net) (λ s i l e plain apart. inl refl) legal
