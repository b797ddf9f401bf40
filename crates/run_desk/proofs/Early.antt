-- A strand wants the commit levels -1 and 0 alone.
use Rattle.std.proofs.Common.{◌≡◌, ◌⊎◌, Bool, true, false, cond, Option, Some, None, ℤ, pos, negsuc, refl, sym, ◌∙◌, ap, inl, inr, subst, arith}
use Rattle.std.proofs.lemmas.Int.{ints}
use Rattle.commit_levels.specs.UnitState.{IsLevel}
use Rattle.pipe_model.specs.declared.net.Net.{Net}
use Rattle.pipe_model.specs.declared.net.Strand.{Strand}
use Rattle.pipe_model.specs.Event.{Want}
use Rattle.pipe_model.specs.Event.Want.{Commit}
use Rattle.pipe_model.specs.Next.{IsOwn}
use Rattle.pipe_model.specs.State.{Who, State, past, strand_at}
use Rattle.pipe_model.specs.Licence.{Left, want_after, want_at}
use Rattle.confluence_laws.proofs.Fitting.{stands_for}

-- where nobody is left out
given : (b : Bool) (x : Option Want) (w : Want) → cond b None x ≡ Some w → x ≡ Some w
given true x w e = cc
given false x w e = e

pub wants_early : (net : Net) (st : State) (left : Left) → ((s : Who) (strand : Strand) → strand_at net st s ≡ Some strand → IsOwn strand (past st s)) →
    (s : Who) (level : ℤ) → want_at net st left s ≡ Some (Commit level) → (level ≡ negsuc 0) ⊎ (level ≡ pos 0)
wants_early net st left own s level want = by_strand (strand_at net st s) refl
  where
    wanted : want_after (strand_at net st s) (past st s) ≡ Some (Commit level)
    wanted = given (left s) (want_after (strand_at net st s) (past st s)) (Commit level) want

    by_strand : (x : Option Strand) → strand_at net st s ≡ x → (level ≡ negsuc 0) ⊎ (level ≡ pos 0)
    by_strand None e = let none : None ≡ Some (Commit level) = sym (ap (λ z. want_after z (past st s)) e) ∙ wanted in cc
    by_strand (Some strand) e =
        (stands_for strand (past st s) (own s strand e) (Commit level) (sym (ap (λ z. want_after z (past st s)) e) ∙ wanted)).2

-- which are levels
pub early_level : (level : ℤ) → (level ≡ negsuc 0) ⊎ (level ≡ pos 0) → IsLevel level
early_level level (inl is) = subst IsLevel (sym is) (grind (arith, ints), grind (arith, ints))
early_level level (inr is) = subst IsLevel (sym is) (grind (arith, ints), grind (arith, ints))
