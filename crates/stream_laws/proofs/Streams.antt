-- The records of one stream.
use Rattle.std.proofs.Common.{◌≡◌, ℕ, Bool, true, false, cond, ◌==◌, List, [], ◌∷◌, ◌++◌, refl, sym, ◌∙◌, ap}
use Rattle.std.specs.Prelude.{filter}
use Rattle.std.proofs.lemmas.List.{append-nil, map-append}
use Rattle.std.proofs.lemmas.Bool.{eqb-true}
use Rattle.pipe_model.specs.Row.{Pair}
use Rattle.pipe_model.specs.Shape.{Records, at_hand_of, records_of}
use Rattle.pipe_model.specs.Members.{flag_at}
use Rattle.pipe_model.specs.Inputs.{records_from}
use Rattle.pipe_model.specs.Counts.{all_on}
use Rattle.pipe_model.proofs.Numbers.{test_same}
use Rattle.pipe_model.specs.declared.net.Strand.{Strand}
use Rattle.pipe_model.specs.Event.{Event, records_on}
use Rattle.pipe_model.specs.Event.Event.{Put}
use Rattle.pipe_model.specs.Listed.{Puts}
use Rattle.stream_laws.specs.InOrder.{puts_of, connected, PutsInOrder}

-- Streams

-- the pairs of one stream
abbrev pub from : ℕ → List Pair → List Pair
from k ps = filter (λ p. p.0 == k) ps

pub on_both : (k : ℕ) (ps qs : List Pair) → records_from k (ps ++ qs) ≡ records_from k ps ++ records_from k qs
on_both k [] qs = refl
on_both k (p ∷ ps) qs = by_test (p.0 == k) (on_both k ps qs)
  where
    by_test : (b : Bool) → records_from k (ps ++ qs) ≡ records_from k ps ++ records_from k qs → records_of (cond b (p ∷ from k (ps ++ qs)) (from k (ps ++ qs))) ≡ records_of (cond b (p ∷ from k ps) (from k ps)) ++ records_from k qs
    by_test true e = ap (λ z. p.1 ∷ z) e
    by_test false e = e

-- all records on one stream are on it
pub on_its : (k : ℕ) (recs : Records) → records_from k (all_on k recs) ≡ recs
on_its k [] = refl
on_its k (rec ∷ recs) = ap (λ b. records_of (cond b ((k, rec) ∷ from k (all_on k recs)) (from k (all_on k recs)))) (test_same k) ∙ ap (λ z. rec ∷ z) (on_its k recs)

-- and on no other
pub on_others : (k o : ℕ) (recs : Records) → (k == o) ≡ false → records_from o (all_on k recs) ≡ []
on_others k o [] apart = refl
on_others k o (rec ∷ recs) apart = ap (λ b. records_of (cond b ((k, rec) ∷ from o (all_on k recs)) (from o (all_on k recs)))) apart ∙ on_others k o recs apart

-- they are the records
pub records_all : (k : ℕ) (recs : Records) → records_of (all_on k recs) ≡ recs
records_all k [] = refl
records_all k (rec ∷ recs) = ap (λ z. rec ∷ z) (records_all k recs)

pub output_both : (k : ℕ) (recs more : Records) → all_on k (recs ++ more) ≡ all_on k recs ++ all_on k more
output_both k recs more = map-append (λ rec. (k, rec)) recs more

-- the record at hand is the last
pub at_hand_last : (recs : Records) (rec : List ℕ) → at_hand_of (recs ++ rec ∷ []) ≡ rec
at_hand_last [] rec = refl
at_hand_last (r ∷ []) rec = refl
at_hand_last (r ∷ s ∷ recs) rec = at_hand_last (s ∷ recs) rec

-- the record last seen on an input
abbrev pub last_on : ℕ → List Pair → List ℕ
last_on i seen = at_hand_of (records_from i seen)

pub last_is : (i : ℕ) (seen : List Pair) (rec : List ℕ) → last_on i (seen ++ (i, rec) ∷ []) ≡ rec
last_is i seen rec = ap at_hand_of (on_both i seen ((i, rec) ∷ []) ∙ ap (λ b. records_from i seen ++ records_of (cond b ((i, rec) ∷ []) [])) (test_same i)) ∙ at_hand_last (records_from i seen) rec

-- Outputs

-- a pair more on both sides
more_before : (b : Bool) (p : Pair) (ps qs : List Pair) → records_of ps ≡ records_of qs → records_of (cond b (p ∷ ps) ps) ≡ records_of (cond b (p ∷ qs) qs)
more_before true p ps qs e = ap (λ z. p.1 ∷ z) e
more_before false p ps qs e = e

-- an output that is connected gets all its pairs
pub on_connected : (outputs : List Bool) (o : ℕ) (ps : List Pair) → flag_at outputs o ≡ true → records_from o (connected outputs ps) ≡ records_from o ps
on_connected outputs o [] flag = refl
on_connected outputs o (p ∷ ps) flag = by_test (p.0 == o) refl (flag_at outputs p.0) refl (on_connected outputs o ps flag)
  where
    by_test : (a : Bool) → (p.0 == o) ≡ a → (b : Bool) → flag_at outputs p.0 ≡ b → records_from o (connected outputs ps) ≡ records_from o ps →
        records_from o (cond (flag_at outputs p.0) (p ∷ connected outputs ps) (connected outputs ps)) ≡ records_of (cond (p.0 == o) (p ∷ from o ps) (from o ps))
    by_test a x true y e = ap (λ z. records_from o (cond z (p ∷ connected outputs ps) (connected outputs ps))) y ∙ more_before (p.0 == o) p (from o (connected outputs ps)) (from o ps) e
    by_test false x false y e = ap (λ z. records_from o (cond z (p ∷ connected outputs ps) (connected outputs ps))) y ∙ e ∙ ap (λ z. records_of (cond z (p ∷ from o ps) (from o ps))) (sym x)
    by_test true x false y e = (let z : true ≡ false = sym (ap (flag_at outputs) (eqb-true p.0 o x) ∙ flag) ∙ y in cc)

-- and another one none
pub on_unconnected : (outputs : List Bool) (o : ℕ) (ps : List Pair) → flag_at outputs o ≡ false → records_from o (connected outputs ps) ≡ []
on_unconnected outputs o [] flag = refl
on_unconnected outputs o (p ∷ ps) flag = by_test (p.0 == o) refl (flag_at outputs p.0) refl (on_unconnected outputs o ps flag)
  where
    by_test : (a : Bool) → (p.0 == o) ≡ a → (b : Bool) → flag_at outputs p.0 ≡ b → records_from o (connected outputs ps) ≡ [] →
        records_from o (cond (flag_at outputs p.0) (p ∷ connected outputs ps) (connected outputs ps)) ≡ []
    by_test a x false y e = ap (λ z. records_from o (cond z (p ∷ connected outputs ps) (connected outputs ps))) y ∙ e
    by_test false x true y e = ap (λ z. records_from o (cond z (p ∷ connected outputs ps) (connected outputs ps))) y ∙ ap (λ z. records_of (cond z (p ∷ from o (connected outputs ps)) (from o (connected outputs ps)))) x ∙ e
    by_test true x true y e = (let z : true ≡ false = sym y ∙ ap (flag_at outputs) (eqb-true p.0 o x) ∙ flag in cc)

-- what was put on an output is what was put with its number
on_output : (o : ℕ) (h : List Event) → records_on o h ≡ records_from o (puts_of h)
on_output o [] = refl
on_output o (Put q rec ∷ h) = by_test (q == o) (on_output o h) ∙ sym (on_both o (puts_of h) ((q, rec) ∷ []))
  where
    by_test : (b : Bool) → records_on o h ≡ records_from o (puts_of h) → cond b (records_on o h ++ rec ∷ []) (records_on o h) ≡ records_from o (puts_of h) ++ records_of (cond b ((q, rec) ∷ []) [])
    by_test true e = ap (λ z. z ++ rec ∷ []) e
    by_test false e = e ∙ sym (append-nil (records_from o (puts_of h)))
on_output o (_ ∷ h) = on_output o h

-- what is put in order is put on each output
pub on_each_output : (s : Strand) (h : List Event) (pairs : List Pair) → PutsInOrder s h pairs → Puts s h pairs
on_each_output s h pairs e = record {
  connected = λ o flag. on_output o h ∙ ap (records_from o) e ∙ on_connected s.ports.has_output o pairs flag;
  others = λ o flag. on_output o h ∙ ap (records_from o) e ∙ on_unconnected s.ports.has_output o pairs flag;
}
