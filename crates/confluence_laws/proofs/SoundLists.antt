-- The rows of stages with one list of records are sound, thin where nothing is written but by a record, and finite without endless pairs.
use Rattle.std.proofs.Common.{◌≡◌, ℕ, Bool, true, false, cond, ◌&&◌, List, [], ◌∷◌, refl, sym, ap, subst, arith, Option, Some, None, is_none, pos}
use Rattle.pipe_model.specs.Event.{Event, Want}
use Rattle.pipe_model.specs.Event.Event.{Saw, SawEnd}
use Rattle.pipe_model.specs.Event.Want.{Read}
use Rattle.pipe_model.specs.Row.{Pair, Goal, Known, Plan, Row, sees, without}
use Rattle.pipe_model.specs.Row.Act.{Takes}
use Rattle.pipe_model.specs.Row.Goal.{Asks, Ends}
use Rattle.pipe_model.specs.Shape.{Records, Outs, Stream, Order, writes, ends, records_of, acts_of, in_order, next_record, last_pairs, list_plan, listed, source}
use Rattle.pipe_model.specs.Shape.Outs.{Pairs, Endless}
use Rattle.pipe_model.specs.Shape.Order.{WritesFirst, TakesFirst}
use Rattle.pipe_model.specs.Form.{has_none, are_finite}
use Rattle.pipe_model.specs.Next.{hears, nothing_known}
use Rattle.pipe_model.specs.Members.{has}
use Rattle.pipe_model.proofs.Truths.{both}
use Rattle.confluence_laws.proofs.Facts.{Fits, IsLook, IsSound, IsThin, IsFiniteRow, IsFiniteLook, ReadsOne, NoWrites, ThinActs, NoRepeats, taken}
use Rattle.confluence_laws.proofs.SoundActs.{fits_writes, fits_only, thin_writes, no_repeats, only_writes, sees_new, without_new}

-- it reads input 0 with nothing in sight, first and after each record
pub record IsLooking (A : Known → Want → Type 0) : Type 0 where
  pub looks : (k : Known) (want : Want) → A k want → IsLook 1 k want
  pub again : (k : Known) (want : Want) (i : ℕ) (rec : List ℕ) → A k want → A (taken i (hears k (Saw i rec))) (Read 0)
  pub first : A nothing_known (Read 0)

-- a stage that reads one input does
pub one_looking : IsLooking ReadsOne
one_looking = record {
  looks = λ k want a. subst (IsLook 1 k) (sym a.want_is) (omega arith);
  again = λ k want i rec a. record { want_is = refl; sight = without_new k.sight i rec a.sight; ends = a.ends; goes_on = a.goes_on };
  first = record { want_is = refl; sight = refl; ends = refl; goes_on = refl };
}

-- it has no pairs
none_left : (ps : List Pair) → has_none ps ≡ true → ps ≡ []
none_left [] none = refl
none_left (p ∷ ps) none = cc

module _ (order : Order) (t : Stream) (yields : Bool) where
  -- its row
  abbrev pub list_row : Row
  list_row = record (listed order t) { yields = yields }

  module _ (A : Known → Want → Type 0) (looking : IsLooking A) where
    -- it goes on to the next record, or stops
    fits_next : (k : Known) (recs : Records) → A k (Read 0) → Fits A k [] (next_record t recs)
    fits_next k recs a = elim (t.stops recs) as (λ b. Fits A k [] (cond b (Ends (t.code recs)) (Asks (Read 0)))) [ true ↦ tt | false ↦ a ]

    -- it writes and takes
    fits_order : (outs : Outs) (order : Order) (k : Known) (recs : Records) (i : ℕ) (goal : Goal) → sees i k.sight ≡ true → Fits A (taken i k) [] goal → Fits A k (in_order order (acts_of outs recs) (Takes i)) goal
    fits_order (Pairs outs) WritesFirst k recs i goal sight fits = fits_writes A k (outs recs) (Takes i ∷ []) goal (sight, fits)
    fits_order (Pairs outs) TakesFirst k recs i goal sight fits = (sight, fits_only A (taken i k) (outs recs) goal fits)
    fits_order (Endless pair) WritesFirst k recs i goal sight fits = (sight, fits)
    fits_order (Endless pair) TakesFirst k recs i goal sight fits = (sight, fits)

    -- what it does by an answer fits
    goes_on : (k : Known) (want : Want) (e : Event) → A k want → Fits A (hears k e) (list_plan order t (hears k e) (hears k e).told).acts (list_plan order t (hears k e) (hears k e).told).goal
    goes_on k want (Saw i rec) a =
        let now = hears k (Saw i rec) in
        let recs = records_of now.seen in
        elim (t.halts recs) as (λ b. (λ (plan : Plan). Fits A now plan.acts plan.goal) (cond b (ends (t.code recs)) (record { acts = in_order order (acts_of t.outs recs) (Takes i); goal = next_record t recs }))) [
          | true ↦ tt
          | false ↦ fits_order t.outs order now recs i (next_record t recs) (sees_new (without i k.sight) i rec) (fits_next (taken i now) recs (looking.again k want i rec a))
        ]
    goes_on k want (SawEnd i) a = fits_only A (hears k (SawEnd i)) (last_pairs t.last (records_of k.seen)) (Ends (t.code (records_of k.seen))) tt
    goes_on k want _ a = tt

    -- so the row is sound
    pub list_sound : IsSound A list_row 1
    list_sound = record {
      looks = looking.looks;
      starts = fits_only A nothing_known t.before (next_record t []) (fits_next nothing_known [] looking.first);
      goes = λ k want e a it. goes_on k want e a;
    }

    -- its acts of a record are finite where its pairs are
    finite_order : (outs : Outs) (order : Order) (recs : Records) (i : ℕ) → are_finite outs ≡ true → NoRepeats (in_order order (acts_of outs recs) (Takes i))
    finite_order (Pairs outs) WritesFirst recs i finite = no_repeats (outs recs) (Takes i ∷ []) tt
    finite_order (Pairs outs) TakesFirst recs i finite = only_writes (outs recs)
    finite_order (Endless pair) order recs i finite = cc

    -- it has no endless pairs
    pub list_finite : ((k : Known) (want : Want) → A k want → IsFiniteLook k want) → are_finite t.outs ≡ true → IsFiniteRow A list_row
    list_finite looks finite = record { looks = looks; starts = only_writes t.before; goes = λ k want e a it. goes k e }
      where
        goes : (k : Known) (e : Event) → NoRepeats (list_plan order t (hears k e) (hears k e).told).acts
        goes k (Saw i rec) =
            let recs = records_of (hears k (Saw i rec)).seen in
            elim (t.halts recs) as (λ b. NoRepeats (cond b (ends (t.code recs)) (record { acts = in_order order (acts_of t.outs recs) (Takes i); goal = next_record t recs })).acts) [
              | true ↦ tt
              | false ↦ finite_order t.outs order recs i finite
            ]
        goes k (SawEnd i) = only_writes (last_pairs t.last (records_of k.seen))
        goes k _ = tt

-- a look of it is one of finitely many
pub one_finite : (k : Known) (want : Want) → ReadsOne k want → IsFiniteLook k want
one_finite k want a = subst (IsFiniteLook k) (sym a.want_is) (ap (sees 0) a.sight, ap (λ z. has z 0) a.ends)

-- it is thin where it writes nothing at its start and its end, and takes after it wrote
pub list_thin : (t : Stream) (yields : Bool) → (has_none t.before && is_none t.last) ≡ true → IsThin ReadsOne (list_row WritesFirst t yields)
list_thin t yields thin = record {
  reads = λ k want a. (a.want_is, a.sight);
  passing = record {
    starts = subst (λ ps. NoWrites (writes ps)) (sym (none_left t.before (both _ _ thin).0)) tt;
    goes = λ k want e a it. goes k e;
    asks = λ k o rec a. (let z = a.want_is in cc);
  };
}
  where
    thin_order : (outs : Outs) (recs : Records) (i : ℕ) → ThinActs (in_order WritesFirst (acts_of outs recs) (Takes i))
    thin_order (Pairs outs) recs i = (thin_writes (outs recs) i).1
    thin_order (Endless pair) recs i = (refl, tt)

    at_end : (last : Option (Records → List Pair)) (recs : Records) → is_none last ≡ true → ThinActs (writes (last_pairs last recs))
    at_end None recs none = tt
    at_end (Some last) recs none = cc

    goes : (k : Known) (e : Event) → ThinActs (list_plan WritesFirst t (hears k e) (hears k e).told).acts
    goes k (Saw i rec) =
        let recs = records_of (hears k (Saw i rec)).seen in
        elim (t.halts recs) as (λ b. ThinActs (cond b (ends (t.code recs)) (record { acts = in_order WritesFirst (acts_of t.outs recs) (Takes i); goal = next_record t recs })).acts) [
          | true ↦ tt
          | false ↦ thin_order t.outs recs i
        ]
    goes k (SawEnd i) = at_end t.last (records_of k.seen) (both _ _ thin).1
    goes k _ = tt

-- a source never looks
pub source_sound : (pairs : List Pair) → IsSound (λ k want. ⊥) (source pairs) 0
source_sound pairs = record {
  looks = λ k want a. absurd a;
  starts = fits_only (λ k want. ⊥) nothing_known pairs (Ends (pos 0)) tt;
  goes = λ k want e a it. absurd a;
}

-- and has no endless pairs
pub source_finite : (pairs : List Pair) → IsFiniteRow (λ k want. ⊥) (source pairs)
source_finite pairs = record { looks = λ k want a. absurd a; starts = only_writes pairs; goes = λ k want e a it. absurd a }
