-- What a strand has seen, with one more record.
use Rattle.std.proofs.Common.{◌≡◌, ◌≢◌, ◌<◌, ℕ, Bool, true, false, cond, ◌==◌, List, [], ◌∷◌, ◌++◌, length, refl, ◌∙◌, ap, arith}
use Rattle.std.specs.Prelude.{filter}
use Rattle.std.proofs.lemmas.Bool.{ne_eqb}
use Rattle.std.proofs.lemmas.List.{append-nil, map-append}
use Rattle.std.proofs.lemmas.List.Elements.{filter-append}
use Rattle.pipe_model.specs.Inputs.{records_from, at_hand_causes}
use Rattle.pipe_model.specs.Row.{Pair}
use Rattle.pipe_model.specs.Shape.{records_of, at_hand_of}
use Rattle.pipe_model.proofs.Lists.{length_more}
use Rattle.pipe_model.proofs.Numbers.{test_same}
use Rattle.stage_steps.specs.Plans.{last_from}
use Rattle.stage_steps.proofs.Walks.{at_hand}

-- it is the record at hand
pub causes_last : (outs : ℕ → List ℕ → List Pair) (seen : List Pair) (p : Pair) → at_hand_causes outs (seen ++ p ∷ []) ≡ outs p.0 p.1
causes_last outs [] p = refl
causes_last outs (q ∷ []) p = refl
causes_last outs (q ∷ r ∷ seen) p = causes_last outs (r ∷ seen) p

module _ (seen : List Pair) (i : ℕ) (rec : List ℕ) where
  abbrev all : List Pair
  all = seen ++ (i, rec) ∷ []

  by_input : (j : ℕ) (b : Bool) → (i == j) ≡ b → records_from j all ≡ cond b (records_from j seen ++ rec ∷ []) (records_from j seen)
  by_input j b is =
      ap records_of (filter-append (λ (p : Pair). p.0 == j) seen ((i, rec) ∷ []))
      ∙ ap (λ b. records_of (filter (λ (p : Pair). p.0 == j) seen ++ cond b ((i, rec) ∷ []) [])) is
      ∙ (elim b as (λ b. records_of (filter (λ (p : Pair). p.0 == j) seen ++ cond b ((i, rec) ∷ []) []) ≡ cond b (records_from j seen ++ rec ∷ []) (records_from j seen)) [
        | true ↦ map-append (λ (p : Pair). p.1) (filter (λ (p : Pair). p.0 == j) seen) ((i, rec) ∷ [])
        | false ↦ ap records_of (append-nil (filter (λ (p : Pair). p.0 == j) seen))
      ])

  -- the records of its input, of which it is the last
  pub records_more : records_from i all ≡ records_from i seen ++ rec ∷ []
  records_more = by_input i true (test_same i)

  -- those of another input are the same
  pub records_same : (j : ℕ) → i ≢ j → records_from j all ≡ records_from j seen
  records_same j other = by_input j false (ne_eqb i j other)

  pub last_is : last_from all i ≡ rec
  last_is = ap at_hand_of records_more ∙ at_hand (records_from i seen) rec

  pub last_same : (j : ℕ) → i ≢ j → last_from all j ≡ last_from seen j
  last_same j other = ap at_hand_of (records_same j other)

  -- one came from its input
  pub one_came : 0 < length (records_from i all)
  one_came = omega (arith, ap length records_more, length_more (records_from i seen) rec)
