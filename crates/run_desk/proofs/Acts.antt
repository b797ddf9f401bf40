-- A strand with a licensed event, where others may be left out: it goes on, and the wants of the others stay.
use Rattle.std.proofs.Common.{◌≡◌, ◌≢◌, ℕ, ℤ, ◌<◌, Bool, true, false, cond, length, refl, sym, ◌∙◌, ap, Option, Some, None}
use Rattle.std.proofs.lemmas.Bool.{ne_eqb}
use Rattle.std.proofs.lemmas.Option.{slice_get_within}
use Rattle.pipe_model.specs.declared.net.Net.{Net}
use Rattle.pipe_model.specs.declared.net.Strand.{Strand}
use Rattle.pipe_model.specs.Event.{Event, Want, answers, has_ended}
use Rattle.pipe_model.specs.Event.Event.{Up}
use Rattle.pipe_model.specs.Event.Want.{Commit}
use Rattle.pipe_model.specs.State.{Who, State, past, with_event, strand_at}
use Rattle.pipe_model.specs.Licence.{Left, want_after, want_at, licence}
use Rattle.pipe_model.proofs.Numbers.{test_same}
use Rattle.confluence_laws.proofs.Basics.{at_other, not_ended}
use Rattle.confluence_laws.proofs.Owns.{commit_asked, answers_it}
use Rattle.run_desk.specs.Standing.{left_out}

module _ (net : Net) (st : State) (left : Left) (s : Who) (k : ℕ) (e : Event) (may : licence net st left s k ≡ Some e) where
  -- the event answers the want
  pub answered : answers (want_at net st left s) e ≡ true
  answered = answers_it net st left s k e may

  -- the strand isn't left out
  pub is_home : left s ≡ false
  is_home = go (left s) refl answered
    where
      go : (b : Bool) → left s ≡ b → answers (cond b None (want_after (strand_at net st s) (past st s))) e ≡ true → left s ≡ false
      go true is it = cc
      go false is it = is

  -- what it wants is what its strand wants then
  pub wants_then : want_at net st left s ≡ want_after (strand_at net st s) (past st s)
  wants_then = ap (λ b. cond b None (want_after (strand_at net st s) (past st s))) is_home

  -- it is a strand of the net
  pub the_strand : (strand : Strand) × (strand_at net st s ≡ Some strand)
  the_strand = go (strand_at net st s) refl (ap (λ w. answers w e) (sym wants_then) ∙ answered)
    where
      go : (x : Option Strand) → strand_at net st s ≡ x → answers (want_after x (past st s)) e ≡ true → (strand : Strand) × (strand_at net st s ≡ Some strand)
      go None is it = cc
      go (Some strand) is it = (strand, is)

  -- so its number is one of the net's
  pub has_strand : s < length net.strands
  has_strand = slice_get_within net.strands s _ the_strand.1

  -- it hasn't ended
  pub goes : has_ended (past st s) ≡ false
  goes = go (want_after (strand_at net st s) (past st s)) refl (ap (λ w. answers w e) (sym wants_then) ∙ answered)
    where
      go : (w : Option Want) → want_after (strand_at net st s) (past st s) ≡ w → answers w e ≡ true → has_ended (past st s) ≡ false
      go None is it = cc
      go (Some want) is it = not_ended (strand_at net st s) (past st s) want is

  -- after the event it is out and wants nothing
  pub want_here : want_at net (with_event st s e) (left_out left s) s ≡ None
  want_here = ap (λ b. cond (cond b true (left s)) None (want_after (strand_at net st s) (past (with_event st s e) s))) (test_same s)

  -- the wants of the others stay
  pub want_other : (u : Who) → u ≢ s → want_at net (with_event st s e) (left_out left s) u ≡ want_at net st left u
  want_other u apart =
      ap (λ b. cond (cond b true (left u)) None (want_after (strand_at net st u) (past (with_event st s e) u))) (ne_eqb u s apart)
      ∙ ap (λ h. cond (left u) None (want_after (strand_at net st u) h)) (at_other st s e u apart)

-- a commit level that is reached was wanted
pub up_wanted : (net : Net) (st : State) (left : Left) (s : Who) (k : ℕ) (level code : ℤ) → licence net st left s k ≡ Some (Up level code) → want_at net st left s ≡ Some (Commit level)
up_wanted net st left s k level code may = commit_asked (want_at net st left s) level code (answered net st left s k (Up level code) may)
