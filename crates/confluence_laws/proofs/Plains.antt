-- The second pass and the plain reading of a plain net exist, and there is one.
use Rattle.std.proofs.Common.{◌≡◌, ℕ, zero, suc, ◌+◌, ◌<◌, Bool, true, false, cond, List, [], length, refl, sym, ◌∙◌, ap, subst, arith, Option, Some, None}
use Rattle.std.proofs.lemmas.Option.{slice_get_within}
use Rattle.std.specs.Bool.{MatchBool}
use Rattle.std.specs.List.{list_any}
use mathlib.Core.Path.{fun_ext}
use Rattle.pipe_model.specs.declared.net.Net.{Net}
use Rattle.pipe_model.specs.declared.net.Link.{Link}
use Rattle.pipe_model.specs.declared.net.Strand.{Strand}
use Rattle.pipe_model.specs.Event.{Event, tooks_on}
use Rattle.pipe_model.specs.Table.{form}
use Rattle.pipe_model.specs.State.{State, Who, past, nothing_yet, strand_at, link_out}
use Rattle.pipe_model.specs.WellFormed.{IsWellFormed}
use Rattle.pipe_model.specs.Alone.{Given, inputs_of, primes, limit_of, cut, lists_of, tag_orders, IsAllAlone, IsTaggedPass, IsSecondPass, is_early, worst_of_early, barred_history, IsBarred, IsPlainReading}
use Rattle.pipe_model.specs.Plain.{IsPlain}
use Rattle.pipe_model.proofs.Lists.{at_some}
use Rattle.confluence_laws.proofs.Ranks.{rises_out}
use Rattle.confluence_laws.proofs.Passes.{consumer, fair, ran, ran_done, same_given, first_pass, one_first, one_whole, mk_given, below_top, rounds}

module _ (net : Net) (formed : IsWellFormed net) (plain : IsPlain net) where
  -- what the consumers take of each output
  abbrev limits_of : State → Who → ℕ → Option ℕ
  limits_of st s o = limit_of st (link_out net nothing_yet s o)

  -- states that are the same behind s give s the same limits
  same_limits : (a b : State) (s : ℕ) → ((o : ℕ) (l : Link) (q : Strand) → link_out net nothing_yet s o ≡ Some l → strand_at net nothing_yet l.to ≡ Some q → past a l.to ≡ past b l.to) → limits_of a s ≡ limits_of b s
  same_limits a b s each = fun_ext {f = limits_of a s} {g = limits_of b s} (λ o. by_link o (link_out net nothing_yet s o) refl)
    where
      by_link : (o : ℕ) (lk : Option Link) → link_out net nothing_yet s o ≡ lk → limit_of a lk ≡ limit_of b lk
      by_link o None is = refl
      by_link o (Some l) is = let q = consumer net formed plain s o l is in ap (λ h. cond l.queue None (Some (tooks_on l.input h))) (each o l q.0 is q.1)

  -- what a strand is given there
  abbrev cut_given : State → State → Who → Given
  cut_given first st s = cut net (tag_orders net first) (lists_of first) st s

  module _ (first : State) where
    -- what each strand does after so many rounds
    abbrev back : ℕ → State
    back zero s = []
    back (suc n) s = ran net formed plain s (strand_at net nothing_yet s) refl (cut_given first (back n) s) (fair net formed plain first (limits_of (back n) s) s)

    back_alone : (n : ℕ) (s : Who) (p : Strand) → strand_at net nothing_yet s ≡ Some p → IsAllAlone p (cut_given first (back n) s) (back (suc n) s)
    back_alone n s p here = ran_done net formed plain s (strand_at net nothing_yet s) refl (cut_given first (back n) s) (fair net formed plain first (limits_of (back n) s) s) p here

    -- a strand does the same again after more rounds than there are ranks above it
    settles_back : (n s : ℕ) (p : Strand) → strand_at net nothing_yet s ≡ Some p → rounds net formed plain < n + plain.acyclic.rank s → back (suc n) s ≡ back n s
    settles_back zero s p here lt = let r = below_top plain.acyclic.rank (length net.strands) s (slice_get_within net.strands s _ here) in absurd (omega (arith, lt, r))
    settles_back (suc n) s p here lt =
        let e = same_limits (back (suc n)) (back n) s (λ o l q is there. let r = rises_out net formed plain.acyclic s o l is in settles_back n l.to q there (omega (arith, lt, r))) in
        let g = ap (λ z. mk_given (inputs_of net (lists_of first) s) (tag_orders net first s) (primes net (lists_of first) s) z) e in
        one_whole p (cut_given first (back n) s) (back (suc n) s) (back_alone n s p here) (back (suc (suc n)) s) (subst (λ z. IsAllAlone p z (back (suc (suc n)) s)) g (back_alone (suc n) s p here))

    -- the second pass exists
    second_pass : (st : State) × IsSecondPass net (tag_orders net first) (lists_of first) st
    second_pass = (
      back (suc (rounds net formed plain)),
      λ s p here. subst (IsAllAlone p (cut_given first (back (suc (rounds net formed plain))) s)) (settles_back (suc (rounds net formed plain)) s p here (omega arith)) (back_alone (suc (rounds net formed plain)) s p here),
    )

  -- The plain reading

  -- the history where a strand of the net ends early
  abbrev barred_at : Option Strand → List Event
  barred_at None = []
  barred_at (Some p) = barred_history (worst_of_early net.strands) (form p).row.early

  -- a plain reading exists
  pub some_reading : (st : State) × IsPlainReading net st
  some_reading = by_early (list_any is_early net.strands)
    where
      by_early : (b : Bool) → (st : State) × MatchBool b (IsBarred net st) ((first : State) × IsTaggedPass net first × IsSecondPass net (tag_orders net first) (lists_of first) st)
      by_early true = (λ s. barred_at (strand_at net nothing_yet s), λ s p here. ap barred_at here)
      by_early false =
          let second = second_pass (first_pass net formed plain).0 in
          (second.0, ((first_pass net formed plain).0, (first_pass net formed plain).1, second.1))

  module _ (a b : State) where
    -- two second passes are the same, from the last strands on
    same_from : (first first' : State) → IsTaggedPass net first → IsTaggedPass net first' → IsSecondPass net (tag_orders net first) (lists_of first) a → IsSecondPass net (tag_orders net first') (lists_of first') b →
        (n s : ℕ) (p : Strand) → rounds net formed plain < n + plain.acyclic.rank s → strand_at net nothing_yet s ≡ Some p → past a s ≡ past b s
    same_from first first' x y u v zero s p lt here = let r = below_top plain.acyclic.rank (length net.strands) s (slice_get_within net.strands s _ here) in absurd (omega (arith, lt, r))
    same_from first first' x y u v (suc n) s p lt here =
        let limits = same_limits b a s (λ o l q is there. let r = rises_out net formed plain.acyclic s o l is in sym (same_from first first' x y u v n l.to q (omega (arith, lt, r)) there)) in
        let g = same_given net formed plain first' first s p here (λ t q there less. one_first net formed plain first' first y x t q there) (limits_of b s) in
        let h = ap (λ z. mk_given (inputs_of net (lists_of first) s) (tag_orders net first s) (primes net (lists_of first) s) z) limits in
        sym (one_whole p (cut_given first a s) (past a s) (u s p here) (past b s) (subst (λ z. IsAllAlone p z (past b s)) (g ∙ h) (v s p here)))

    -- there is one plain reading
    pub one_reading : IsPlainReading net a → IsPlainReading net b → (s : ℕ) → s < length net.strands → past a s ≡ past b s
    one_reading x y s lt = let p = at_some net.strands s lt in by_early (list_any is_early net.strands) x y p.0 p.1
      where
        by_early : (c : Bool) → MatchBool c (IsBarred net a) ((first : State) × IsTaggedPass net first × IsSecondPass net (tag_orders net first) (lists_of first) a) → MatchBool c (IsBarred net b) ((first : State) × IsTaggedPass net first × IsSecondPass net (tag_orders net first) (lists_of first) b) →
            (p : Strand) → strand_at net nothing_yet s ≡ Some p → past a s ≡ past b s
        by_early true x y p here = x s p here ∙ sym (y s p here)
        by_early false x y p here = same_from x.0 y.0 x.1 y.1 x.2 y.2 (suc (rounds net formed plain)) s p (omega arith) here
