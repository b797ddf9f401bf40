-- What a core tells of those that wait, once it has stopped.
use Rattle.std.proofs.Common.{◌≡◌, ◌≢◌, ◌↔◌, ℕ, suc, ◌+◌, ◌<◌, ◌≤◌, true, false, List, [], ◌∷◌, ◌++◌, append-nil, append_assoc, length, drop, refl, sym, ◌∙◌, ap, subst, arith, Some, None, Option, slice_get, is_some}
use Rattle.std.specs.List.{cons_option}
use Rattle.std.proofs.lemmas.List.{drop_all}
use Rattle.pipe_model.specs.declared.net.Strand.{Strand}
use Rattle.pipe_model.specs.Event.{has_ended}
use Rattle.pipe_model.specs.Licence.{licence, none_left, want_after, want_at}
use Rattle.pipe_model.specs.Next.{next}
use Rattle.pipe_model.specs.Play.{HasEnded, IsComplete, IsStalled, play}
use Rattle.pipe_model.specs.Reply.{reply, waits_from}
use Rattle.pipe_model.specs.State.{Who, nothing_yet, past, strand_at}
use Rattle.pipe_model.specs.WellFormed.{IsWellFormed}
use Rattle.pipe_model.proofs.Lists.{at_some}
use Rattle.core_machine.specs.Machine.{HasStopped, IsLawful, Machine, left_by, state_of, want_of}
use Rattle.stall_report.specs.Waits.{wait_line, wait_lines}
use Rattle.stall_report.specs.declared.lines.WaitLine.{WaitLine}
use Rattle.stall_report.proofs.Told.{all_told, ended_all, line_at, none_waits, replied_waits}
use Rattle.stall_report.proofs.Wanting.{IsWaiting, waits_for}

-- what has no length is empty
no_length : {A B : Type 0} (xs : List A) (ys : List B) → length xs ≡ length ys → xs ≡ [] → ys ≡ []
no_length xs [] same none = refl
no_length xs (y ∷ ys) same none = let size : length xs ≡ 0 = ap length none in absurd (omega (arith, same, size))

module _ (m : Machine) (stopped : HasStopped m) where
  -- nobody is out, so nobody is left out
  none_out : (s k : ℕ) → licence m.net (play m.net m.journal) none_left s k ≡ None
  none_out = subst (λ out. (s k : ℕ) → licence m.net (play m.net m.journal) (left_by m.journal out) s k ≡ None) stopped.0 stopped.1

  want_is : (s : Who) (p : Strand) → strand_at m.net nothing_yet s ≡ Some p → want_of m s ≡ next p (past (state_of m) s)
  want_is s p at = ap (λ out. want_at m.net (state_of m) (left_by m.journal out) s) stopped.0 ∙ ap (λ x. want_after x (past (state_of m) s)) at

  -- the lines of the strands from a number on
  abbrev left : Who → List WaitLine
  left s = wait_lines (waits_from (state_of m) s (drop s m.net.strands))

  left_more : (s t : Who) → s < length m.net.strands → t ≡ suc s → (found : Option WaitLine) → found ≡ wait_line (s, want_of m s) → left s ≡ cons_option found (left t)
  left_more s t within next found is =
      let p = at_some m.net.strands s within in
      line_at (state_of m) s m.net.strands p.0 p.1
      ∙ ap (λ w. cons_option (wait_line (s, w)) (left (suc s))) (sym (want_is s p.0 p.1))
      ∙ ap (λ o. cons_option o (left (suc s))) (sym is)
      ∙ ap (λ z. cons_option found (left z)) (sym next)

  -- with the line of one strand more, or without one where it has none, those told and those left are all
  pub one_told : (s t : Who) → s < length m.net.strands → t ≡ suc s → (lines : List WaitLine) (line : WaitLine) → Some line ≡ wait_line (s, want_of m s) → lines ++ left s ≡ left 0 → (lines ++ line ∷ []) ++ left t ≡ left 0
  one_told s t within next lines line is all = append_assoc lines (line ∷ []) (left t) ∙ ap (λ z. lines ++ z) (sym (left_more s t within next (Some line) is)) ∙ all

  pub none_told : (s t : Who) → s < length m.net.strands → t ≡ suc s → (lines : List WaitLine) → None ≡ wait_line (s, want_of m s) → lines ++ left s ≡ left 0 → lines ++ left t ≡ left 0
  none_told s t within next lines is all = ap (λ z. lines ++ z) (sym (left_more s t within next None is)) ∙ all

  -- and once none is left those told are the reply's
  pub all_told_now : (s : Who) (lines : List WaitLine) → length m.net.strands ≤ s → lines ++ left s ≡ left 0 → lines ≡ wait_lines (reply m.net (state_of m)).waits
  all_told_now s lines past all =
      sym (append-nil lines)
      ∙ ap (λ strands. lines ++ wait_lines (waits_from (state_of m) s strands)) (sym (drop_all s m.net.strands past))
      ∙ all
      ∙ ap wait_lines (sym (replied_waits (state_of m) m.net.strands (waits_from (state_of m) 0 m.net.strands)))

  complete : IsComplete m.net m.journal
  complete e may = let no : false ≡ true = sym (ap is_some (none_out e.strand e.stream)) ∙ may in cc

  module _ (formed : IsWellFormed m.net) (lawful : IsLawful m) where
    waiting : (k t : ℕ) (p : Strand) → t ≡ 0 + k → slice_get m.net.strands k ≡ Some p → has_ended (past (state_of m) t) ≡ false → IsWaiting (state_of m) t p
    waiting k t p is at going = waits_for m.net formed m.journal lawful.legal none_out t p (subst (λ z. slice_get m.net.strands z ≡ Some p) (let e : k ≡ t = omega (arith, is) in e) at) going

    -- no line is left out
    pub all_lines : length (wait_lines (reply m.net (state_of m)).waits) ≡ length (reply m.net (state_of m)).waits
    all_lines = subst (λ ws. length (wait_lines ws) ≡ length ws) (sym (replied_waits (state_of m) m.net.strands (waits_from (state_of m) 0 m.net.strands))) (all_told (state_of m) 0 m.net.strands waiting)

    -- there is none where all have ended
    pub ended_lines : (wait_lines (reply m.net (state_of m)).waits ≡ []) ↔ HasEnded m.net (state_of m)
    ended_lines = (ended, none)
      where
        ended : wait_lines (reply m.net (state_of m)).waits ≡ [] → HasEnded m.net (state_of m)
        ended empty s there =
            by_strand (strand_at m.net nothing_yet s) refl there
          where
            waits : waits_from (state_of m) 0 m.net.strands ≡ []
            waits = sym (replied_waits (state_of m) m.net.strands (waits_from (state_of m) 0 m.net.strands)) ∙ no_length (wait_lines (reply m.net (state_of m)).waits) (reply m.net (state_of m)).waits all_lines empty

            by_strand : (x : Option Strand) → strand_at m.net nothing_yet s ≡ x → is_some x ≡ true → has_ended (past (state_of m) s) ≡ true
            by_strand None is some = cc
            by_strand (Some p) is some = ended_all (state_of m) 0 m.net.strands waits s s p (omega arith) is

        none : HasEnded m.net (state_of m) → wait_lines (reply m.net (state_of m)).waits ≡ []
        none all =
            ap wait_lines
            (replied_waits (state_of m) m.net.strands (waits_from (state_of m) 0 m.net.strands)
            ∙ none_waits (state_of m) 0 m.net.strands (λ k t p is at. all t (ap is_some (subst (λ z. slice_get m.net.strands z ≡ Some p) (let e : k ≡ t = omega (arith, is) in e) at))))

    -- and there is one where the dispatch is stalled
    pub stalled_lines : (wait_lines (reply m.net (state_of m)).waits ≢ []) ↔ IsStalled m.net m.journal
    stalled_lines = (λ some. (complete, λ all. some (ended_lines.1 all)), λ stalled none. stalled.1 (ended_lines.0 none))
