-- The rows of stages that take what comes first, of GATE and of DAM are sound.
use Rattle.std.proofs.Common.{inl, inr, ℕ, true, false, cond, ◌==◌, List, [], ◌∷◌, ◌++◌, refl, sym, ap, subst, arith, pos}
use Rattle.pipe_model.specs.declared.net.Strand.{Strand}
use Rattle.pipe_model.specs.Event.{Event, Want}
use Rattle.pipe_model.specs.Event.Event.{Saw, Primed}
use Rattle.pipe_model.specs.Event.Want.{Any, Gate}
use Rattle.pipe_model.specs.Row.{Pair, Known, Plan, Row, sees, without}
use Rattle.pipe_model.specs.Row.Act.{Writes, Takes}
use Rattle.pipe_model.specs.Row.Goal.{Asks}
use Rattle.pipe_model.specs.Shape.{row, ends, each_record, copied, first_plan, gate_plan, dam_plan, row_of}
use Rattle.pipe_model.specs.Shape.Order.{WritesFirst}
use Rattle.pipe_model.specs.Shape.Shape.{Dams}
use Rattle.pipe_model.specs.Next.{hears}
use Rattle.pipe_model.specs.Members.{has}
use Rattle.confluence_laws.proofs.Facts.{Fits, IsLook, IsSound, IsFiniteRow, IsFiniteLook, IsPassing, NoRepeats, ThinActs, LooksAtAny, LooksAtGate, AsksDam}
use Rattle.confluence_laws.proofs.SoundActs.{thin_writes, fits_writes, no_repeats, sees_new, without_new}
use Rattle.confluence_laws.proofs.SoundLists.{IsLooking, list_row, list_sound, list_finite}

module _ (outs : List Pair → List Pair) where
  -- the row of a stage that looks at any input
  abbrev pub first_row : Row
  first_row = row (λ k. first_plan outs k k.told)

  -- is sound
  pub first_sound : (reach : ℕ) → IsSound LooksAtAny first_row reach
  first_sound reach = record {
    looks = λ k want a. subst (IsLook reach k) (sym a.want_is) a.sight;
    starts = record { want_is = refl; sight = refl; ends = refl; goes_on = refl };
    goes = λ k want e a it. goes k want e a;
  }
    where
      goes : (k : Known) (want : Want) (e : Event) → LooksAtAny k want → Fits LooksAtAny (hears k e) (first_plan outs (hears k e) (hears k e).told).acts (first_plan outs (hears k e) (hears k e).told).goal
      goes k want (Saw i rec) a =
          let now = hears k (Saw i rec) in
          fits_writes LooksAtAny now (outs now.seen) (Takes i ∷ []) (Asks Any) (sees_new (without i k.sight) i rec, record { want_is = refl; sight = without_new k.sight i rec a.sight; ends = a.ends; goes_on = a.goes_on })
      goes k want _ a = tt

  -- and has no endless pairs
  pub first_finite : IsFiniteRow LooksAtAny first_row
  first_finite = record { looks = λ k want a. subst (IsFiniteLook k) (sym a.want_is) tt; starts = tt; goes = λ k want e a it. goes k e }
    where
      goes : (k : Known) (e : Event) → NoRepeats (first_plan outs (hears k e) (hears k e).told).acts
      goes k (Saw i rec) = no_repeats (outs (k.seen ++ (i, rec) ∷ [])) (Takes i ∷ []) tt
      goes k _ = tt

  -- it writes the pairs of a record before it takes it
  pub first_passing : IsPassing LooksAtAny first_row
  first_passing = record { starts = tt; goes = λ k want e a it. goes k e; asks = λ k o rec a. (let z = a.want_is in cc) }
    where
      goes : (k : Known) (e : Event) → ThinActs (first_plan outs (hears k e) (hears k e).told).acts
      goes k (Saw i rec) = (thin_writes (outs (hears k (Saw i rec)).seen) i).1
      goes k _ = tt

-- GATE's row is sound
pub gate_sound : (reach : ℕ) → IsSound LooksAtGate (row (λ k. gate_plan k.told)) reach
gate_sound reach = record {
  looks = λ k want a. subst (IsLook reach k) (sym a.want_is) a.sight;
  starts = record { want_is = refl; sight = refl; goes_on = refl };
  goes = λ k want e a it. goes k want e a;
}
  where
    goes : (k : Known) (want : Want) (e : Event) → LooksAtGate k want → Fits LooksAtGate (hears k e) (gate_plan (hears k e).told).acts (gate_plan (hears k e).told).goal
    goes k want (Saw i rec) a =
        elim (i == 0) as (λ b. (λ (plan : Plan). Fits LooksAtGate (hears k (Saw i rec)) plan.acts plan.goal) (cond b (ends (pos 0)) (record { acts = Writes i rec ∷ Takes i ∷ []; goal = Asks Gate }))) [
          | true ↦ tt
          | false ↦ (sees_new (without i k.sight) i rec, record { want_is = refl; sight = without_new k.sight i rec a.sight; goes_on = a.goes_on })
        ]
    goes k want _ a = tt

-- DAM's rows: the first strand copies, and a later one asks first

-- who reads input 0 looks with nothing in sight
dam_looking : IsLooking AsksDam
dam_looking = record {
  looks = λ k want a. elim a.want_is [ inl is ↦ subst (IsLook 1 k) (sym is) (omega arith) | inr is ↦ subst (IsLook 1 k) (sym is.0) is.1 ];
  again = λ k want i rec a. record { want_is = inl refl; sight = without_new k.sight i rec a.sight; ends = a.ends; goes_on = a.goes_on };
  first = record { want_is = inl refl; sight = refl; ends = refl; goes_on = refl };
}

-- each of its looks is one of finitely many
dam_finite_look : (k : Known) (want : Want) → AsksDam k want → IsFiniteLook k want
dam_finite_look k want a = elim a.want_is [
  | inl is ↦ subst (IsFiniteLook k) (sym is) (ap (sees 0) a.sight, ap (λ z. has z 0) a.ends)
  | inr is ↦ subst (IsFiniteLook k) (sym is.0) tt
]

abbrev later_row : Row
later_row = row (λ k. dam_plan k k.told)

-- a later strand's row is sound
later_sound : IsSound AsksDam later_row 1
later_sound = record {
  looks = dam_looking.looks;
  starts = record { want_is = inr (refl, refl); sight = refl; ends = refl; goes_on = refl };
  goes = λ k want e a it. goes k want e a;
}
  where
    goes : (k : Known) (want : Want) (e : Event) → AsksDam k want → Fits AsksDam (hears k e) (dam_plan (hears k e) (hears k e).told).acts (dam_plan (hears k e) (hears k e).told).goal
    goes k want (Primed true) a = record { want_is = inl refl; sight = a.sight; ends = a.ends; goes_on = a.goes_on }
    goes k want (Primed false) a = tt
    goes k want (Saw i rec) a = (sees_new (without i k.sight) i rec, dam_looking.again k want i rec a)
    goes k want _ a = tt

-- and has no endless pairs
later_finite : IsFiniteRow AsksDam later_row
later_finite = record { looks = dam_finite_look; starts = tt; goes = λ k want e a it. goes k e }
  where
    goes : (k : Known) (e : Event) → NoRepeats (dam_plan (hears k e) (hears k e).told).acts
    goes k (Primed true) = tt
    goes k (Primed false) = tt
    goes k (Saw i rec) = tt
    goes k _ = tt

-- so is each strand's
pub dam_sound : (s : Strand) → IsSound AsksDam (row_of s Dams) 1
dam_sound s = elim (s.part == 0) as (λ b. IsSound AsksDam (cond b (list_row WritesFirst (each_record copied) true) (row (λ k. dam_plan k k.told))) 1) [
  | true ↦ list_sound WritesFirst (each_record copied) true AsksDam dam_looking
  | false ↦ later_sound
]

pub dam_finite : (s : Strand) → IsFiniteRow AsksDam (row_of s Dams)
dam_finite s = elim (s.part == 0) as (λ b. IsFiniteRow AsksDam (cond b (list_row WritesFirst (each_record copied) true) (row (λ k. dam_plan k k.told)))) [
  | true ↦ list_finite WritesFirst (each_record copied) true AsksDam dam_looking dam_finite_look refl
  | false ↦ later_finite
]
