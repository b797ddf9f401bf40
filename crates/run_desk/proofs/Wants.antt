-- What a licensed event tells of the want and of the wire that it moves a record on.
use Rattle.std.proofs.Common.{◌≡◌, ℕ, suc, ◌≤◌, ◌<◌, Bool, true, false, cond, ◌&&◌, ◌||◌, not, ◌==◌, List, [], ◌∷◌, length, refl, sym, ◌∙◌, ap, arith, Option, Some, None, nat_lt}
use Rattle.std.specs.Prelude.{IsSome}
use Rattle.std.specs.Option.{option_map}
use Rattle.std.proofs.lemmas.Bool.Decides.{nat_tests}
use Rattle.std.proofs.lemmas.Bool.{eqb-true}
use Rattle.pipe_model.specs.declared.net.Net.{Net}
use Rattle.pipe_model.specs.declared.net.Link.{Link}
use Rattle.pipe_model.specs.declared.net.Strand.{Strand}
use Rattle.pipe_model.specs.Event.{Event, Want, answers, has_ended, is_put, is_took, one_more, puts_on, tooks_on}
use Rattle.pipe_model.specs.Event.Event.{Put, Refused}
use Rattle.pipe_model.specs.Event.Want.{Write}
use Rattle.pipe_model.specs.Next.{next}
use Rattle.pipe_model.specs.State.{Who, State, past, strand_at, link_out}
use Rattle.pipe_model.specs.Licence.{Left, want_after, want_at, puts, tooks, offered, is_level, in_closed, may_put, may_refuse, write_answer, answer, licence, sight_of}
use Rattle.pipe_model.proofs.Truths.{cond_some, both}
use Rattle.pipe_model.proofs.Numbers.{test_same}
use Rattle.connectors.specs.WireState.{WireState}
use Rattle.run_desk.specs.Standing.{IsWire}
use Rattle.confluence_laws.proofs.Basics.{not_ended, put_asked, refused_asked}
use Rattle.confluence_laws.proofs.Owns.{answer_fits}

-- Events and wants

-- Histories

one_most : (b : Bool) (m n : ℕ) → m ≤ n → one_more b m ≤ suc n
one_most true m n le = omega (arith, le)
one_most false m n le = omega (arith, le)

-- no more records were taken than there are events
pub few_tooks : (i : ℕ) (h : List Event) → tooks_on i h ≤ length h
few_tooks i [] = omega arith
few_tooks i (e ∷ h) = omega (arith, one_most (is_took i e) (tooks_on i h) (length h) (few_tooks i h))

-- nor were more put
pub few_puts : (o : ℕ) (h : List Event) → puts_on o h ≤ length h
few_puts o [] = omega arith
few_puts o (e ∷ h) = omega (arith, one_most (is_put o e) (puts_on o h) (length h) (few_puts o h))

module _ (net : Net) (st : State) (left : Left) (s : Who) where
  -- a strand that wants something
  pub record IsWanting (w : Want) : Type 0 where
    pub strand : Strand
    pub there : strand_at net st s ≡ Some strand
    pub wants : next strand (past st s) ≡ Some w
    pub going : has_ended (past st s) ≡ false

  -- whoever wants something is there, isn't left out and hasn't ended
  pub wanting : (w : Want) → want_at net st left s ≡ Some w → IsWanting w
  wanting w e = by_strand (strand_at net st s) refl
    where
      here : (b : Bool) (x : Option Want) → cond b None x ≡ Some w → x ≡ Some w
      here true x p = cc
      here false x p = p

      want : want_after (strand_at net st s) (past st s) ≡ Some w
      want = here (left s) (want_after (strand_at net st s) (past st s)) e

      by_strand : (x : Option Strand) → strand_at net st s ≡ x → IsWanting w
      by_strand None is = let none : None ≡ Some w = sym (ap (λ z. want_after z (past st s)) is) ∙ want in cc
      by_strand (Some strand) is = record {
        strand = strand;
        there = is;
        wants = sym (ap (λ z. want_after z (past st s)) is) ∙ want;
        going = not_ended (strand_at net st s) (past st s) w want;
      }

  -- what happens answers what is wanted
  pub fits : (k : ℕ) (e : Event) → licence net st left s k ≡ Some e → answers (want_at net st left s) e ≡ true
  fits k e may = answer_fits (sight_of net st left s) (λ text. refl) k e (want_at net st left s) may

  put_tells : (o : ℕ) (x rec : List ℕ) (a b : Bool) → write_answer o x a b ≡ Some (Put o rec) → a ≡ true
  put_tells o x rec true b p = refl
  put_tells o x rec false true p = cc
  put_tells o x rec false false p = cc

  refusal_tells : (o : ℕ) (x : List ℕ) (a b : Bool) → write_answer o x a b ≡ Some (Refused o) → b ≡ true
  refusal_tells o x true b p = cc
  refusal_tells o x false true p = refl
  refusal_tells o x false false p = cc

  -- what answers the want to write
  written_by : (k o : ℕ) (x : List ℕ) (e : Event) → want_at net st left s ≡ Some (Write o x) → licence net st left s k ≡ Some e →
      write_answer o x (may_put st (link_out net st s o)) (may_refuse st (link_out net st s o)) ≡ Some e
  written_by k o x e want may =
      (cond_some (k == o) (write_answer o x (may_put st (link_out net st s o)) (may_refuse st (link_out net st s o))) (ap (answer (sight_of net st left s) k) (sym want) ∙ may)).1

  -- a record is put where it may be
  pub put_may : (k o : ℕ) (rec : List ℕ) → licence net st left s k ≡ Some (Put o rec) → may_put st (link_out net st s o) ≡ true
  put_may k o rec may =
      let w = put_asked (want_at net st left s) o rec (fits k (Put o rec) may) in
      put_tells o w.0 rec (may_put st (link_out net st s o)) (may_refuse st (link_out net st s o)) (written_by k o w.0 (Put o rec) w.1 may)

  put_what : (o : ℕ) (x rec : List ℕ) (a b : Bool) → write_answer o x a b ≡ Some (Put o rec) → x ≡ rec
  put_what o x rec true b p = cc
  put_what o x rec false true p = cc
  put_what o x rec false false p = cc

  -- and it is the one that was to be written
  pub put_wanted : (k o : ℕ) (rec : List ℕ) → licence net st left s k ≡ Some (Put o rec) → want_at net st left s ≡ Some (Write o rec)
  put_wanted k o rec may =
      let w = put_asked (want_at net st left s) o rec (fits k (Put o rec) may) in
      w.1 ∙ ap (λ x. Some (Write o x)) (put_what o w.0 rec (may_put st (link_out net st s o)) (may_refuse st (link_out net st s o)) (written_by k o w.0 (Put o rec) w.1 may))

  -- and refused where it may be
  pub refusal_may : (k o : ℕ) → licence net st left s k ≡ Some (Refused o) → may_refuse st (link_out net st s o) ≡ true
  refusal_may k o may =
      let w = refused_asked (want_at net st left s) o (fits k (Refused o) may) in
      refusal_tells o w.0 (may_put st (link_out net st s o)) (may_refuse st (link_out net st s o)) (written_by k o w.0 (Refused o) w.1 may)

-- what a strand wants to write is offered on the wire of its link
pub offer_there : (net : Net) (texts : ℕ → List ℕ) (st : State) (left : Left) (link : Link) (wire : WireState) (s : Who) (o : ℕ) (rec : List ℕ) → IsWire net texts st left link wire →
    link.from ≡ s → link.output ≡ o → want_at net st left s ≡ Some (Write o rec) → IsSome wire.offer
offer_there net texts st left link wire s o rec is from out wants = there wire.offer (is.offer ∙ offered_here)
  where
    there : (x : Option ℕ) → option_map texts x ≡ Some rec → IsSome x
    there None e = cc
    there (Some grip) e = refl

    offered_here : offered link.output (want_at net st left link.from) ≡ Some rec
    offered_here =
        ap (λ z. offered link.output (want_at net st left z)) from ∙ ap (offered link.output) wants ∙ ap (λ z. cond (o == z) (Some rec) None) out ∙ ap (λ b. cond b (Some rec) None) (test_same o)

-- what may be put on a rendezvous was taken before
pub put_ahead : (st : State) (link : Link) → link.queue ≡ false → may_put st (Some link) ≡ true → puts st link < tooks st link
put_ahead st link rendezvous may =
    let taken : nat_lt (puts st link) (tooks st link) ≡ true = ap (λ b. b || nat_lt (puts st link) (tooks st link)) (sym rendezvous) ∙ may in
    grind (arith, nat_tests, taken)

-- what may be refused wasn't taken
pub refusal_level : (st : State) (link : Link) → may_refuse st (Some link) ≡ true → puts st link ≡ tooks st link
refusal_level st link may = eqb-true (puts st link) (tooks st link) (both (in_closed st link) (is_level st link) (both (not link.queue) (in_closed st link && is_level st link) may).1).1

-- on a rendezvous alone
pub refusal_plain : (st : State) (link : Link) → may_refuse st (Some link) ≡ true → link.queue ≡ false
refusal_plain st link may = by_queue link.queue (both (not link.queue) (in_closed st link && is_level st link) may).0
  where
    by_queue : (b : Bool) → not b ≡ true → b ≡ false
    by_queue true e = cc
    by_queue false e = refl
