-- What the lists of SPECS give and tell.
use Rattle.std.proofs.Common.{◌≡◌, ◌<◌, ◌≤◌, ◌+◌, ◌-◌, ◌∙◌, ℕ, List, [], ◌∷◌, ◌++◌, length, drop, refl, ap, sym, subst, arith, cond, ◌⊎◌, inl, inr, ⊎_elim, pos, zero, suc, get_or}
use Rattle.std.specs.Prelude.{◌==◌, ◌&&◌, ◌||◌, not, Bool, true, false, if◌then◌else◌, is_none, is_some, slice_get, slice_set, unwrap_or}
use Rattle.std.specs.declared.option.Option.{Option}
use Rattle.std.specs.declared.option.Option.TheVariants.{Some, None}
use Rattle.std.proofs.lemmas.Bool.{eqb-true, ne_eqb}
use Rattle.std.proofs.lemmas.List.{append-nil, drop_more, drop-set-lt}
use Rattle.std.proofs.lemmas.Option.{unwrap_or-slice_get, slice_get-get_or, slice_get_cases}
use Rattle.pipe_model.proofs.Lists.{at_some}
use Rattle.pipe_model.specs.declared.items.Item.{Item}
use Rattle.pipe_model.specs.Counts.{all_on}
use Rattle.pipe_model.specs.Row.{Act}
use Rattle.pipe_model.specs.Row.Act.{Writes}
use Rattle.pipe_model.specs.Shape.{Records, Stream, writes, last_pairs}
use Rattle.pipe_model.specs.SpecsRows as rows
use Rattle.pipe_model.specs.Shape.Shape.{Lists}
use Rattle.pipe_model.specs.Shape.Order.{WritesFirst as RowWritesFirst, TakesFirst as RowTakesFirst}
use Rattle.pipe_model.specs.declared.kind.Kind.TheVariants.{Specs}
use Rattle.stage_steps.specs.Places.{order_of}
use Rattle.pipe_model.proofs.Truths.{both, either, not_second}
use Rattle.specs_stage.specs.declared.specs_lists.SpecsLists.{SpecsLists}
use Rattle.specs_stage.specs.declared.cycle.Cycle.{Cycle}
use Rattle.specs_stage.specs.declared.desk.Desk.{Desk}
use Rattle.specs_stage.specs.Cycles.{IsAt, IsEnded, come}
use Rattle.specs_stage.specs.SpecsLists.{SpecsStand, IsRunning, specs_made, last_given, order_by}
use Rattle.specs_stage.specs.SpecsStage.{AreListsOf}
use Rattle.specs_stage.proofs.CycleSteps.{faulty_is, few_come, none_wait, ends_faulty}

-- A fault, and the code

module _ (items : List Item) (eof : Option (List Item)) (recs : Records) where
  -- it ends before the end of input at a fault alone
  faulty_at : ((rows.specs items eof).stops recs || (rows.specs items eof).halts recs) ≡ true → is_none (rows.so_far items recs) ≡ true
  faulty_at ends = ⊎_elim
      (λ stops. (both (not (rows.reads items == 0)) (is_none (rows.so_far items recs)) stops).1)
      (λ halts. (both (rows.reads items == 0) (is_none (rows.so_far items recs)) halts).1)
      (either ((rows.specs items eof).stops recs) ((rows.specs items eof).halts recs) ends)

  pub after_all_faulty : rows.after_input items recs ≡ None → rows.after_all items eof recs ≡ None
  after_all_faulty is = by_eof eof
    where
      by_eof : (eof : Option (List Item)) → rows.after_all items eof recs ≡ None
      by_eof None = is
      by_eof (Some eof) = ap (λ d. rows.cycle eof d []) is

  -- a fault so far is one of all
  stays : (x : Desk) (wrote : Records) (at : ℕ) (faulty : Bool) → IsAt items x wrote at faulty recs → is_none (rows.so_far items recs) ≡ true → faulty ≡ is_none (rows.after_all items eof recs)
  stays x wrote at faulty is fault =
      let all : faulty ≡ true = faulty_is items recs x wrote at faulty is ∙ fault in
      all ∙ ap is_none (sym (after_all_faulty (ends_faulty items recs x wrote at (subst (λ (b : Bool). IsAt items x wrote at b recs) all is)).desk_is))

pub fault_of_all : (x : SpecsLists) (over : Bool) (t : Stream) (recs : Records) (acts : List Act) → SpecsStand x over t recs acts → (over || (t.stops recs || t.halts recs)) ≡ true
    → x.cycle.is_faulty ≡ is_none (rows.after_all x.cycle.items.items x.eof recs)
fault_of_all x true t recs acts is ends = is.running
fault_of_all x false t recs acts is ends =
    stays x.cycle.items.items x.eof recs x.cycle.desk is.running.0 x.cycle.at x.cycle.is_faulty is.running.1
    (faulty_at x.cycle.items.items x.eof recs (subst (λ (t : Stream). (t.stops recs || t.halts recs) ≡ true) is.stream_is ends))

pub code_is : (x : SpecsLists) (b over : Bool) (t : Stream) (recs : Records) (acts : List Act) → x.cycle.is_faulty ≡ b → SpecsStand x over t recs acts → (over || (t.stops recs || t.halts recs)) ≡ true
    → cond b (pos 8) (pos 0) ≡ t.code recs
code_is x b over t recs acts faulty is ends =
    ap (λ b. cond b (pos 8) (pos 0)) (sym faulty ∙ fault_of_all x over t recs acts is ends) ∙ ap (λ (t : Stream). t.code recs) (sym is.stream_is)

-- The end of input

last_of : (items : List Item) (eof : Option (List Item)) (recs : Records) → last_pairs (rows.specs items eof).last recs ≡ rows.waiting_pairs items recs ++ rows.eof_pairs items eof recs
last_of items (Some eof) recs = ap (λ (none : Bool). last_pairs (cond none None (Some (λ recs. rows.waiting_pairs items recs ++ rows.eof_pairs items (Some eof) recs))) recs) (not_second (rows.reads items == 0) false refl)
last_of items None recs = by_reads (rows.reads items == 0) refl
  where
    by_reads : (b : Bool) → (rows.reads items == 0) ≡ b → last_pairs (rows.specs items None).last recs ≡ rows.waiting_pairs items recs ++ []
    by_reads true is =
        let none : rows.reads items ≡ 0 = eqb-true (rows.reads items) 0 is in
        let few = few_come items recs [] in
        let empty : come items recs ≡ 0 = omega (arith, few, none) in
        ap (λ (b : Bool). last_pairs (cond (b && true) None (Some (λ recs. rows.waiting_pairs items recs ++ []))) recs) is
        ∙ ap (λ pairs. pairs ++ []) (none_wait items recs empty)
    by_reads false is = ap (λ (b : Bool). last_pairs (cond (b && true) None (Some (λ recs. rows.waiting_pairs items recs ++ []))) recs) is

-- it gives what was written, and knows of faults
pub finishes : (x y : SpecsLists) (t : Stream) (recs : Records) → SpecsStand x false t recs [] → y.cycle.items.items ≡ x.cycle.items.items → y.eof ≡ x.eof → y.has_read ≡ x.has_read → y.was_faulty ≡ x.was_faulty
    → y.given ≡ 0 → y.cycle.is_faulty ≡ is_none (rows.after_all x.cycle.items.items x.eof recs)
    → all_on 0 y.due.items ≡ rows.waiting_pairs x.cycle.items.items recs ++ rows.eof_pairs x.cycle.items.items x.eof recs
    → SpecsStand y true t recs (writes (last_pairs t.last recs))
finishes x y t recs is items_same eof_same read_same was_same none faulty due = record {
  stream_is = is.stream_is ∙ ap (λ items. rows.specs items x.eof) (sym items_same) ∙ ap (rows.specs y.cycle.items.items) (sym eof_same);
  reads_is = read_same ∙ is.reads_is ∙ ap (λ items. not (rows.reads items == 0)) (sym items_same);
  faulty_is = was_same ∙ is.faulty_is ∙ ap (λ items. is_none (rows.so_far items recs)) (sym items_same);
  running = faulty ∙ ap (λ items. is_none (rows.after_all items x.eof recs)) (sym items_same) ∙ ap (λ eof. is_none (rows.after_all y.cycle.items.items eof recs)) (sym eof_same);
  acts_are = ap (λ (t : Stream). writes (last_pairs t.last recs)) is.stream_is
      ∙ ap writes (last_of x.cycle.items.items x.eof recs ∙ sym due)
      ∙ ap (λ n. writes (all_on 0 (drop n y.due.items))) (sym none);
}

told_ended : (items : List Item) (recs : Records) (x : Desk) (faulty : Bool) → IsEnded items x faulty recs → faulty ≡ is_none (rows.after_input items recs)
told_ended items recs x true is = ap is_none (sym is.desk_is)
told_ended items recs x false is = ap is_none (sym is.desk_is)

-- without an EOF list
pub finishes_without : (x y : SpecsLists) (t : Stream) (recs : Records) → SpecsStand x false t recs [] → y.cycle.items.items ≡ x.cycle.items.items → y.eof ≡ x.eof → y.has_read ≡ x.has_read → y.was_faulty ≡ x.was_faulty
    → y.given ≡ 0 → x.eof ≡ None → IsEnded y.cycle.items.items y.cycle.desk y.cycle.is_faulty recs → all_on 0 y.due.items ≡ rows.waiting_pairs x.cycle.items.items recs
    → SpecsStand y true t recs (writes (last_pairs t.last recs))
finishes_without x y t recs is items_same eof_same read_same was_same none without ended due =
    let items = x.cycle.items.items in
    finishes x y t recs is items_same eof_same read_same was_same none
    (told_ended y.cycle.items.items recs y.cycle.desk y.cycle.is_faulty ended ∙ ap (λ items. is_none (rows.after_input items recs)) items_same ∙ ap (λ eof. is_none (rows.after_all items eof recs)) (sym without))
    (due ∙ sym (append-nil (rows.waiting_pairs items recs)) ∙ ap (λ eof. rows.waiting_pairs items recs ++ rows.eof_pairs items eof recs) (sym without))

-- with one; c is the cycle before it ran, and some were due then
pub finishes_with : (x y : SpecsLists) (c : Cycle) (some : Records) (eof : List Item) (t : Stream) (recs : Records) → SpecsStand x false t recs [] → c.items.items ≡ x.cycle.items.items → y.cycle.items.items ≡ c.items.items → y.eof ≡ x.eof → y.has_read ≡ x.has_read → y.was_faulty ≡ x.was_faulty
    → y.given ≡ 0 → x.eof ≡ Some eof → IsEnded c.items.items c.desk c.is_faulty recs → all_on 0 some ≡ rows.waiting_pairs x.cycle.items.items recs
    → ((items : List Item) (recs : Records) → length recs ≤ 50000000 → IsEnded items c.desk c.is_faulty recs → y.cycle.is_faulty ≡ is_none (rows.cycle eof (rows.after_input items recs) []))
    → ((items : List Item) (recs : Records) → length recs ≤ 50000000 → IsEnded items c.desk c.is_faulty recs → all_on 0 y.due.items ≡ all_on 0 some ++ all_on 0 (rows.written_by (rows.cycle eof (rows.after_input items recs) [])))
    → SpecsStand y true t recs (writes (last_pairs t.last recs))
finishes_with x y c some eof t recs is ended_same items_same eof_same read_same was_same none with ended due faulty all =
    let items = x.cycle.items.items in
    let few = is.running.2 in
    let ends = subst (λ items. IsEnded items c.desk c.is_faulty recs) ended_same ended in
    finishes x y t recs is (items_same ∙ ended_same) eof_same read_same was_same none
    (faulty items recs few ends ∙ ap (λ eof. is_none (rows.after_all items eof recs)) (sym with))
    (all items recs few ends ∙ ap (λ pairs. pairs ++ rows.eof_pairs items (Some eof) recs) due ∙ ap (λ eof. rows.waiting_pairs items recs ++ rows.eof_pairs items eof recs) (sym with))

-- Group by group

running_on : (over : Bool) (x y : SpecsLists) (given : ℕ) (recs : Records) → IsRunning over x recs → IsRunning over (record x { due = y.due; given = given }) recs
running_on true x y given recs is = is
running_on false x y given recs is = is

-- other records due, of which so many were given
pub stands_on : (x y : SpecsLists) (given : ℕ) (over : Bool) (t : Stream) (recs : Records) (acts rest : List Act) → SpecsStand x over t recs acts → rest ≡ writes (all_on 0 (drop given y.due.items))
    → SpecsStand (record x { due = y.due; given = given }) over t recs rest
stands_on x y given over t recs acts rest is rest_are = record {
  stream_is = is.stream_is;
  reads_is = is.reads_is;
  faulty_is = is.faulty_is;
  running = running_on over x y given recs is.running;
  acts_are = rest_are;
}

pub last_more : (given : ℕ) (due : Records) → last_given (given + 1) due ≡ slice_get due given
last_more given due =
    ap (λ b. cond b None (slice_get due (given + 1 - 1))) (ne_eqb (given + 1) 0 (λ is. omega (arith, is)))
    ∙ ap (slice_get due) (let e : given + 1 - 1 ≡ given = omega arith in e)

pub gives_one : (x : SpecsLists) → x.given < length x.due.items → (is_some (last_given (x.given + 1) x.due.items) ≡ true)
    × ((over : Bool) (t : Stream) (recs : Records) (acts : List Act) → SpecsStand x over t recs acts →
    (rest : List Act) × (acts ≡ Writes 0 (unwrap_or (last_given (x.given + 1) x.due.items) []) ∷ rest) × SpecsStand (record x { given = x.given + 1 }) over t recs rest × Unit {0})
gives_one x low =
    let due = x.due.items in
    let some = at_some due x.given low in (
      ap is_some (last_more x.given due ∙ some.1),
      λ over t recs acts is. (
        writes (all_on 0 (drop (x.given + 1) due)),
        is.acts_are ∙ ap (λ l. writes (all_on 0 l)) (drop_more due x.given [] low)
            ∙ ap (λ rec. Writes 0 rec ∷ writes (all_on 0 (drop (x.given + 1) due))) (sym (unwrap_or-slice_get due x.given []) ∙ ap (λ o. unwrap_or o []) (sym (last_more x.given due))),
        stands_on x x (x.given + 1) over t recs acts (writes (all_on 0 (drop (x.given + 1) due))) is refl,
        tt,
      ),
    )

slice_unwrap : (due : Records) (place : ℕ) (rec other : List ℕ) → place < length due → get_or due place rec ≡ unwrap_or (slice_get due place) other
slice_unwrap due place rec other low = ap (λ o. unwrap_or o other) (sym (slice_get-get_or due place rec low))

-- a record was given
some_given : (given : ℕ) (due : Records) → is_some (last_given given due) ≡ true → (1 ≤ given) × (last_given given due ≡ slice_get due (given - 1)) × (given - 1 < length due)
some_given zero due some = absurd (cc)
some_given (suc n) due some = (omega arith, same, by_place (slice_get_cases due (suc n - 1)).1)
  where
    same : last_given (suc n) due ≡ slice_get due (suc n - 1)
    same = ap (λ b. cond b None (slice_get due (suc n - 1))) (ne_eqb (suc n) 0 (λ is. omega (arith, is)))

    by_place : ((x : List ℕ) × (suc n - 1 < length due) × (slice_get due (suc n - 1) ≡ Some x) × (get_or due (suc n - 1) x ≡ x)) ⊎ ((length due ≤ suc n - 1) × (slice_get due (suc n - 1) ≡ None)) → suc n - 1 < length due
    by_place (inl is) = is.1
    by_place (inr is) = let none : true ≡ false = sym some ∙ ap is_some (same ∙ is.1) in absurd (cc none)

-- it hands over that record, and another stands in its place
pub hands_one : (x y : SpecsLists) (place : ℕ) (rec none : List ℕ) → place ≡ x.given - 1 → y.due.items ≡ slice_set x.due.items place none → rec ≡ get_or x.due.items place rec
    → is_some (specs_made x) ≡ true → (rec ≡ unwrap_or (specs_made x) [])
    × ((over : Bool) (t : Stream) (recs : Records) (acts : List Act) → SpecsStand x over t recs acts → SpecsStand (record x { due = y.due }) over t recs acts)
hands_one x y place rec none place_is due_is rec_is some =
    let due = x.due.items in
    let given = some_given x.given due some in
    let low : place < length due = omega (arith, place_is, given.2) in (
      rec_is ∙ slice_unwrap due place rec [] low ∙ ap (λ k. unwrap_or (slice_get due k) []) place_is ∙ ap (λ o. unwrap_or o []) (sym given.1),
      λ over t recs acts is. stands_on x y x.given over t recs acts acts is (is.acts_are
          ∙ ap (λ l. writes (all_on 0 l)) (sym (ap (drop x.given) due_is ∙ drop-set-lt x.given due place none (omega (arith, place_is, given.0))))),
    )

pub hands_none : (x : SpecsLists) (place : ℕ) (rec : List ℕ) → place ≡ x.given - 1 → length x.due.items ≤ place → is_some (specs_made x) ≡ true → (rec ≡ unwrap_or (specs_made x) [])
    × ((over : Bool) (t : Stream) (recs : Records) (acts : List Act) → SpecsStand x over t recs acts → SpecsStand x over t recs acts)
hands_none x place rec place_is high some = let given = some_given x.given x.due.items some in absurd (omega (arith, place_is, high, given.2))

-- The lists of a kind

order_is : (b : Bool) → (if b then RowWritesFirst else RowTakesFirst) ≡ order_of (order_by (not b))
order_is true = refl
order_is false = refl

pub lists_of_kind : (items : List Item) (eof : Option (List Item)) (some : List Item) (last : Option (List Item)) (x : SpecsLists) → some ≡ items → last ≡ eof → x.has_read ≡ not (rows.reads some == 0)
    → SpecsStand x false (rows.specs some last) [] [] → AreListsOf (Specs items eof) x
lists_of_kind items eof some last x items_same eof_same reads stands = (
  rows.specs items eof,
  ap (λ order. Lists order (λ outputs. rows.specs items eof)) (order_is (rows.reads items == 0) ∙ ap (λ b. order_of (order_by b)) (ap (λ l. not (rows.reads l == 0)) (sym items_same) ∙ sym reads)),
  refl,
  subst (λ last. SpecsStand x false (rows.specs items last) [] []) eof_same (subst (λ some. SpecsStand x false (rows.specs some last) [] []) items_same stands),
)
