-- Whether a strand meets what it owes.
use Rattle.std.proofs.Common.{◌≡◌, inl, inr, ℕ, ◌+◌, ◌<◌, Bool, true, false, ◌||◌, List, [], ◌∷◌, length, refl, sym, ◌∙◌, ap, subst, arith, Some, is_some}
use Rattle.pipe_model.specs.declared.net.Net.{Net}
use Rattle.pipe_model.specs.declared.net.Strand.{Strand}
use Rattle.pipe_model.specs.Form.{Meeting}
use Rattle.pipe_model.specs.Form.Meeting.{Ordered, Braided, Loose}
use Rattle.pipe_model.specs.Members.{has, flag_at}
use Rattle.pipe_model.specs.Settled.{connected_of, connected_inputs, fork, has_none, is_braided, Meets}
use Rattle.pipe_model.specs.State.{Who, strand_in}
use Rattle.pipe_model.specs.Table.{form}
use Rattle.pipe_model.specs.WellFormed.{IsWellFormed}
use Rattle.pipe_model.proofs.Lists.{flag_place}
use Rattle.pipe_model.proofs.Numbers.{equal_or_not, test_same}
use Rattle.confluence_laws.proofs.Places.{connected_is}
use Rattle.confluence_laws.proofs.Settles.{braided_is}
use Rattle.confluence_laws.proofs.Walks.{braided_if}
use Rattle.braid_check.specs.Joins.{meets_by}

-- a flag that is set is that of a connected input
pub some_connected : (p : Strand) (k : ℕ) → flag_at p.ports.has_input k ≡ true → has_none (connected_of (Some p)) ≡ false
some_connected p k e = by_list (connected_of (Some p)) (connected_is p k ∙ e)
  where
    by_list : (xs : List ℕ) → has xs k ≡ true → has_none xs ≡ false
    by_list [] on = cc
    by_list (x ∷ xs) on = refl

-- where none is set none is connected
pub none_connected : (p : Strand) → ((k : ℕ) → k < length p.ports.has_input → flag_at p.ports.has_input k ≡ false) → has_none (connected_of (Some p)) ≡ true
none_connected p none = by_list (connected_of (Some p)) refl
  where
    by_list : (xs : List ℕ) → connected_of (Some p) ≡ xs → has_none xs ≡ true
    by_list [] e = refl
    by_list (x ∷ xs) e =
        let set : flag_at p.ports.has_input x ≡ true = sym (connected_is p x) ∙ ap (λ z. has z x) e ∙ ap (λ b. b || has xs x) (test_same x) in
        (let z : true ≡ false = sym set ∙ none x (flag_place p.ports.has_input x set) in cc)

module _ (net : Net) (formed : IsWellFormed net) (s : Who) (p : Strand) (is : strand_in net s ≡ Some p) where
  -- the ways to it are known to part, or no input is connected
  pub braided_known : (x : Bool) → x ≡ true → is_some (fork net s) ≡ true → x ≡ is_braided net s
  braided_known x is_so some = is_so ∙ sym (ap (λ b. has_none (connected_inputs net s) || b) some ∙ or_true (has_none (connected_inputs net s)))
    where
      or_true : (b : Bool) → (b || true) ≡ true
      or_true true = refl
      or_true false = refl

  pub braided_alone : (q : Strand) (x : Bool) → strand_in net s ≡ Some q → x ≡ has_none (connected_of (Some q)) → is_some (fork net s) ≡ false → x ≡ is_braided net s
  braided_alone q x there alone none = alone ∙ ap (λ m. has_none (connected_of m)) (sym there) ∙ sym (ap (λ b. has_none (connected_inputs net s) || b) none ∙ or_false (has_none (connected_inputs net s)))
    where
      or_false : (b : Bool) → (b || false) ≡ b
      or_false true = refl
      or_false false = refl

  -- it meets what it owes, or doesn't
  pub met : meets_by (form p).meeting (is_braided net s) ≡ true → Meets net s (form p).meeting
  met e = by_meeting (form p).meeting e
    where
      by_meeting : (m : Meeting) → meets_by m (is_braided net s) ≡ true → Meets net s m
      by_meeting Ordered e = tt
      by_meeting Braided e = braided_if net s e
      by_meeting Loose e = cc

  pub not_met : meets_by (form p).meeting (is_braided net s) ≡ false → Meets net s (form p).meeting → ⊥
  not_met e = by_meeting (form p).meeting refl e
    where
      by_meeting : (m : Meeting) → (form p).meeting ≡ m → meets_by m (is_braided net s) ≡ false → Meets net s m → ⊥
      by_meeting Ordered at e meets = cc
      by_meeting Braided at e meets = (let z : false ≡ true = sym e ∙ braided_is net formed s p is at meets in cc)
      by_meeting Loose at e meets = meets

-- one strand more does
pub one_more_met : (net : Net) (s : Who) (p : Strand) → strand_in net s ≡ Some p → Meets net s (form p).meeting →
    ((t : Who) (q : Strand) → t < s → strand_in net t ≡ Some q → Meets net t (form q).meeting) → (t : Who) (q : Strand) → t < s + 1 → strand_in net t ≡ Some q → Meets net t (form q).meeting
one_more_met net s p there meets before t q less at = elim (equal_or_not t s) [
  | inl is ↦ (let it : p ≡ q = (let y : Some p ≡ Some q = sym there ∙ ap (strand_in net) (sym is) ∙ at in cc) in
      subst (λ z. Meets net z (form q).meeting) (sym is) (subst (λ (z : Strand). Meets net s (form z).meeting) it meets))
  | inr apart ↦ before t q (omega (arith, less, apart)) at
]
