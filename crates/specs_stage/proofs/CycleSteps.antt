-- How a cycle goes on with one more record.
use Rattle.std.proofs.Common.{◌≡◌, ◌≢◌, ◌≤◌, ◌<◌, ◌+◌, ◌∙◌, ℕ, zero, suc, List, [], ◌∷◌, ◌++◌, length, drop, refl, ap, sym, length-append, append_assoc, arith, cond, ◌⊎◌, inl, inr, ⊎_elim}
use Rattle.std.specs.Prelude.{◌-◌, ◌==◌, ◌&&◌, not, is_none, Bool, true, false, IfOk, if◌then◌else◌, fold, is_some, IfSome, option_map, option_and_then}
use Rattle.std.specs.declared.option.Option.{Option}
use Rattle.std.specs.declared.option.Option.TheVariants.{Some, None}
use Rattle.std.specs.declared.result.Result.{Result}
use Rattle.std.specs.declared.result.Result.TheVariants.{Ok, Err}
use Rattle.std.proofs.lemmas.List.{append-nil}
use Rattle.pipe_model.specs.declared.items.Item.{Item}
use Rattle.pipe_model.specs.declared.items.Item.TheVariants.{Field, Read, Write, Pad, Set}
use Rattle.std.proofs.lemmas.Bool.{ne_eqb, eqb-true, eqb-false}
use Rattle.pipe_model.specs.Counts.{all_on}
use Rattle.pipe_model.specs.Parts.{without_last}
use Rattle.pipe_model.specs.Shape.{Records}
use Rattle.pipe_model.specs.SpecsRows as rows
use Rattle.specs_stage.specs.declared.desk.Desk.{Desk}
use Rattle.specs_stage.specs.Desks.{desk_of, with_written, before_read}
use Rattle.specs_stage.specs.Cycles.{unless_faulty, ran_to, come, IsBetween, IsWithin, IsAt, RanOn, IsReached, IsEnded}
use Rattle.specs_stage.proofs.Groups.{last_short, ends_front, ends_last, grows_front, grows_last}
use Rattle.specs_stage.proofs.Reached.{step, run_append, reached_one, read_behind, none_behind, reached_more, within_items}
use Rattle.pipe_model.proofs.Numbers.{equal_or_not}
use Rattle.specs_stage.proofs.Numbering.{run_number}
use Rattle.specs_stage.proofs.Running.{stays_none}

abbrev pub next : Records → List ℕ → Records
next recs rec = recs ++ rec ∷ []

fold_push : (items : List Item) (desk : Option rows.Desk) (parts : List Records) (part : Records) → fold (rows.cycle items) desk (parts ++ part ∷ []) ≡ rows.cycle items (fold (rows.cycle items) desk parts) part
fold_push items desk [] part = refl
fold_push items desk (p ∷ parts) part = fold_push items (rows.cycle items desk p) parts part

-- one more record
module _ (items : List Item) (recs : Records) (rec : List ℕ) where
  abbrev pub before : Option rows.Desk
  before = rows.after_cycles items recs

  abbrev pub had : Records
  had = rows.waiting items recs

  pub few_come : come items recs ≤ rows.reads items
  few_come = last_short (rows.reads items) recs rec

  -- it waits for more
  pub waits_on : (y : Desk) (at : ℕ) (faulty : Bool) → come items recs ≢ rows.reads items → (faulty ≡ false → y.number ≤ length (next recs rec)) → (faulty ≡ false → at ≡ suc (length (rows.reached (suc (come items recs)) items)))
      → RanOn items recs rec faulty y → IsAt items y y.written.items at faulty (next recs rec)
  waits_on y at faulty short number at_is ran =
      let last : rows.waiting items (next recs rec) ≡ had ++ rec ∷ [] = grows_last (rows.reads items) recs rec short in
      let front : rows.after_cycles items (next recs rec) ≡ before = ap (λ parts. fold (rows.cycle items) (Some rows.at_first) parts) (grows_front (rows.reads items) recs rec short) in
      let size : come items (next recs rec) ≡ suc (come items recs) = omega (arith, ap length last, length-append had (rec ∷ [])) in record {
        number = number;
        between = λ none. absurd (omega (arith, none, size));
        within = λ some. record {
          hand = rec;
          desk_is = λ more.
              ap (λ n. ran_to items n (rows.after_cycles items (next recs rec)) (rows.waiting items (next recs rec) ++ more)) size
              ∙ ap (λ d. ran_to items (suc (come items recs)) d (rows.waiting items (next recs rec) ++ more)) front
              ∙ ap (λ l. ran_to items (suc (come items recs)) before (l ++ more)) last ∙ ran more;
          at_is = λ good. at_is good ∙ ap (λ n. suc (length (rows.reached n items))) (sym size);
        };
      }

  -- or it ends
  cycle_is : (faulty : Bool) (y : Desk) → come items recs ≡ rows.reads items → RanOn items recs rec faulty y → rows.cycle items before (had ++ rec ∷ []) ≡ option_map (rows.closed items) (unless_faulty faulty (desk_of y rec []))
  cycle_is faulty y full ran =
      let all : rows.reached (suc (come items recs)) items ≡ items = ap (λ n. rows.reached (suc n) items) full ∙ none_behind items in
      ap (option_map (rows.closed items)) (
      ap (λ xs. option_and_then (λ d. rows.run xs (rows.begun d (had ++ rec ∷ []))) before) (sym all)
      ∙ ap (ran_to items (suc (come items recs)) before) (sym (append-nil (had ++ rec ∷ []))) ∙ ran [])

  after_push : come items recs ≡ rows.reads items → rows.after_cycles items (next recs rec) ≡ rows.cycle items before (had ++ rec ∷ [])
  after_push full = ap (λ parts. fold (rows.cycle items) (Some rows.at_first) parts) (ends_front (rows.reads items) recs rec full) ∙ fold_push items (Some rows.at_first) (without_last (rows.groups items recs)) (had ++ rec ∷ [])

  -- the desk was closed
  pub ends : (y z : Desk) (at : ℕ) (faulty : Bool) → come items recs ≡ rows.reads items → (faulty ≡ false → z.number ≤ length (next recs rec)) → (faulty ≡ false → at ≡ 0)
      → RanOn items recs rec faulty y → (faulty ≡ false → desk_of z rec [] ≡ rows.closed items (desk_of y rec [])) → IsAt items z z.written.items at faulty (next recs rec)
  ends y z at faulty full number at_is ran closed_is =
      let none : come items (next recs rec) ≡ 0 = ap length (ends_last (rows.reads items) recs rec full) in record {
        number = number;
        between = λ _. record { hand = rec; coming = []; desk_is = after_push full ∙ cycle_is faulty y full ran ∙ closed_desk faulty closed_is; at_is = at_is };
        within = λ some. absurd (omega (arith, none, some));
      }
    where
      closed_desk : (b : Bool) → (b ≡ false → desk_of z rec [] ≡ rows.closed items (desk_of y rec [])) → option_map (rows.closed items) (unless_faulty b (desk_of y rec [])) ≡ unless_faulty b (desk_of z rec [])
      closed_desk true is = refl
      closed_desk false is = ap Some (sym (is refl))

-- Up to the next place

nothing : {X : Type 0} (xs : List X) → length xs ≡ 0 → xs ≡ []
nothing [] none = refl
nothing (x ∷ xs) none = absurd (omega (arith, none))

more_reached : (w : ℕ) (items : List Item) → 1 ≤ w → w ≤ rows.reads items → rows.reached (suc w) items ≡ rows.reached w items ++ Read ∷ before_read (drop (suc (length (rows.reached w items))) items)
more_reached zero items some few = absurd (omega (arith, some))
more_reached (suc n) items some few = reached_more n items few

run_behind : (before : Option rows.Desk) (xs ys : List Item) (all : Records) → option_and_then (λ d. rows.run (xs ++ ys) (rows.begun d all)) before ≡ fold step (option_and_then (λ d. rows.run xs (rows.begun d all)) before) ys
run_behind None xs ys all = sym (stays_none ys)
run_behind (Some d) xs ys all = run_append xs ys (rows.begun d all)

closed_number : (items : List Item) (d : rows.Desk) → (rows.closed items d).number ≡ d.number
closed_number items d = by_case (rows.has_unwritten false items)
  where
    by_case : (b : Bool) → (cond b (record d { written = d.written ++ d.output ∷ [] }) d).number ≡ d.number
    by_case true = refl
    by_case false = refl

zero_or_more : (n : ℕ) → (n ≡ 0) ⊎ (1 ≤ n)
zero_or_more zero = inl refl
zero_or_more (suc n) = inr (omega arith)

module _ (items : List Item) (recs : Records) (rec : List ℕ) where
  starts_on : (x y : Desk) (wrote : Records) (at : ℕ) (faulty : Bool) → come items recs ≡ 0 → IsBetween items x wrote at false recs
      → ((hand : List ℕ) (coming more : Records) → rows.run (before_read items) (rows.begun (desk_of x hand coming) (rec ∷ more)) ≡ unless_faulty faulty (desk_of y rec more)) → RanOn items recs rec faulty y
  starts_on x y wrote at faulty none b ran = λ more.
      ap (λ n. ran_to items (suc n) (rows.after_cycles items recs) ((rows.waiting items recs ++ rec ∷ []) ++ more)) none
      ∙ ap (λ l. ran_to items 1 (rows.after_cycles items recs) ((l ++ rec ∷ []) ++ more)) (nothing (rows.waiting items recs) none)
      ∙ ap (λ d. ran_to items 1 d (rec ∷ more)) b.desk_is
      ∙ ap (λ xs. rows.run xs (rows.begun (desk_of x b.hand b.coming) (rec ∷ more))) (reached_one items) ∙ ran b.hand b.coming more

  -- what was brought about before, and then the items up to the next READ
  behind_read : (w : ℕ) (more : Records) → w ≡ come items recs → 1 ≤ w →
      ran_to items (suc (come items recs)) (rows.after_cycles items recs) ((rows.waiting items recs ++ rec ∷ []) ++ more)
      ≡ fold step (ran_to items (come items recs) (rows.after_cycles items recs) (rows.waiting items recs ++ rec ∷ more)) (Read ∷ before_read (drop (suc (length (rows.reached (come items recs) items))) items))
  behind_read w more is some =
      let n = come items recs in
      let rest = Read ∷ before_read (drop (suc (length (rows.reached n items))) items) in
      ap (λ xs. option_and_then (λ d. rows.run xs (rows.begun d ((rows.waiting items recs ++ rec ∷ []) ++ more))) (rows.after_cycles items recs)) (more_reached n items (omega (arith, is, some)) (few_come items recs rec))
      ∙ run_behind (rows.after_cycles items recs) (rows.reached n items) rest ((rows.waiting items recs ++ rec ∷ []) ++ more)
      ∙ ap (λ all. fold step (ran_to items n (rows.after_cycles items recs) all) rest) (append_assoc (rows.waiting items recs) (rec ∷ []) more)

  goes_on : (x y : Desk) (at : ℕ) (faulty : Bool) → 1 ≤ come items recs → IsWithin items x at false recs
      → ((more : Records) → rows.run (before_read (drop at items)) (desk_of x rec more) ≡ unless_faulty faulty (desk_of y rec more)) → RanOn items recs rec faulty y
  goes_on x y at faulty some w ran = λ more.
      let rest = before_read (drop (suc (length (rows.reached (come items recs) items))) items) in
      behind_read (come items recs) more refl some
      ∙ ap (λ d. fold step d (Read ∷ rest)) (w.desk_is (rec ∷ more))
      ∙ ap (λ n. rows.run (before_read (drop n items)) (desk_of x rec more)) (sym (w.at_is refl)) ∙ ran more

  stays_none_ran : (x y : Desk) (wrote : Records) (at : ℕ) → IsAt items x wrote at true recs → RanOn items recs rec true y
  stays_none_ran x y wrote at is = ⊎_elim
      (λ none more. ap (λ d. ran_to items (suc (come items recs)) d ((rows.waiting items recs ++ rec ∷ []) ++ more)) (is.between none).desk_is)
      (λ some more. behind_read (come items recs) more refl some
      ∙ ap (λ d. fold step d (Read ∷ before_read (drop (suc (length (rows.reached (come items recs) items))) items))) ((is.within some).desk_is (rec ∷ more))
      ∙ stays_none (Read ∷ before_read (drop (suc (length (rows.reached (come items recs) items))) items)))
      (zero_or_more (come items recs))

  -- after a fault nothing is done
  pub faulty_on : (x : Desk) (at : ℕ) → RanOn items recs rec true x → IsAt items x x.written.items at true (next recs rec)
  faulty_on x at ran = ⊎_elim
      (λ full. ends items recs rec x x at true full (λ no. absurd (cc)) (λ no. absurd (cc)) ran (λ no. absurd (cc)))
      (λ short. waits_on items recs rec x at true short (λ no. absurd (cc)) (λ no. absurd (cc)) ran)
      (equal_or_not (come items recs) (rows.reads items))

  pub stays_faulty : (x : Desk) (wrote : Records) (at : ℕ) → IsAt items x wrote at true recs → IsAt items x x.written.items at true (next recs rec)
  stays_faulty x wrote at is = faulty_on x at (stays_none_ran x x wrote at is)

  pub started : (x y : Desk) (wrote : Records) (at : ℕ) (count : Option ℕ) → at ≡ 0 → IsAt items x wrote at false recs
      → ((hand : List ℕ) (coming more : Records) → rows.run (before_read items) (rows.begun (desk_of x hand coming) (rec ∷ more)) ≡ (if is_some count then Some (desk_of y rec more) else None))
      → IfSome count (λ n. n ≡ length (before_read items)) → IsReached items recs rec y count
  started x y wrote at count front is ran size = by_count count (is.between none) ran size
    where
      none : come items recs ≡ 0
      none = ⊎_elim (λ e. e) (λ some. absurd (omega (arith, front, (is.within some).at_is refl))) (zero_or_more (come items recs))

      by_count : (count : Option ℕ) (b : IsBetween items x wrote at false recs)
          → ((hand : List ℕ) (coming more : Records) → rows.run (before_read items) (rows.begun (desk_of x hand coming) (rec ∷ more)) ≡ (if is_some count then Some (desk_of y rec more) else None))
          → IfSome count (λ n. n ≡ length (before_read items)) → IsReached items recs rec y count
      by_count None b ran size = starts_on x y wrote at true none b ran
      by_count (Some n) b ran size = (
        starts_on x y wrote at false none b ran,
        size ∙ ap length (sym (reached_one items)) ∙ ap (λ w. length (rows.reached (suc w) items)) (sym none),
        let same = run_number (before_read items) (rows.begun (desk_of x b.hand b.coming) (rec ∷ [])) (desk_of y rec []) (ran b.hand b.coming []) in
            omega (arith, same, is.number refl, length-append recs (rec ∷ [])),
      )

  pub went : (x y : Desk) (wrote : Records) (at : ℕ) (count : Option ℕ) → at ≢ 0 → IsAt items x wrote at false recs
      → ((more : Records) → rows.run (before_read (drop at items)) (desk_of x rec more) ≡ (if is_some count then Some (desk_of y rec more) else None))
      → IfSome count (λ n. n ≡ length (before_read (drop at items))) → IsReached items recs rec y (option_map (λ n. at + n) count)
  went x y wrote at count within is ran size = by_count count (is.within some) ran size
    where
      some : 1 ≤ come items recs
      some = ⊎_elim (λ none. absurd (within ((is.between none).at_is refl))) (λ e. e) (zero_or_more (come items recs))

      by_count : (count : Option ℕ) (w : IsWithin items x at false recs)
          → ((more : Records) → rows.run (before_read (drop at items)) (desk_of x rec more) ≡ (if is_some count then Some (desk_of y rec more) else None))
          → IfSome count (λ n. n ≡ length (before_read (drop at items))) → IsReached items recs rec y (option_map (λ n. at + n) count)
      by_count None w ran size = goes_on x y at true some w ran
      by_count (Some n) w ran size = (
        goes_on x y at false some w ran,
        let reached_is = ap length (more_reached (come items recs) items some (few_come items recs rec)) in
            let rest_is : n ≡ length (before_read (drop (suc (length (rows.reached (come items recs) items))) items)) = size ∙ ap (λ k. length (before_read (drop k items))) (w.at_is refl) in
            omega (arith, reached_is, rest_is, w.at_is refl, length-append (rows.reached (come items recs) items) (Read ∷ before_read (drop (suc (length (rows.reached (come items recs) items))) items))),
        let same = run_number (before_read (drop at items)) (desk_of x rec []) (desk_of y rec []) (ran []) in
            omega (arith, same, is.number refl, length-append recs (rec ∷ [])),
      )

  -- a place within the items is that behind a READ
  pub stops_at : (y : Desk) (at : ℕ) → IsReached items recs rec y (Some at) → at < length items → IsAt items y y.written.items (at + 1) false (next recs rec)
  stops_at y at is low =
      let short : come items recs ≢ rows.reads items = λ full. let whole = ap length (ap (λ n. rows.reached (suc n) items) full ∙ none_behind items) in omega (arith, whole, is.1, low) in
      waits_on items recs rec y (at + 1) false short (λ _. is.2) (λ _. let place : at + 1 ≡ suc (length (rows.reached (suc (come items recs)) items)) = omega (arith, is.1) in place) is.0

  -- at their end the cycle ends
  pub closes_at : (y z : Desk) (at : ℕ) → IsReached items recs rec y (Some at) → length items ≤ at
      → ((hand : List ℕ) (coming : Records) → desk_of z hand coming ≡ rows.closed items (desk_of y hand coming)) → IsAt items z z.written.items 0 false (next recs rec)
  closes_at y z at is high closed_is =
      let full : come items recs ≡ rows.reads items = ⊎_elim (λ e. e)
      (λ other. absurd (let less : suc (come items recs) ≤ rows.reads items = omega (arith, few_come items recs rec, other) in let within = within_items (come items recs) items less in omega (arith, within, is.1, high)))
      (equal_or_not (come items recs) (rows.reads items)) in
      let same : z.number ≡ y.number = ap (λ (d : rows.Desk). d.number) (closed_is rec []) ∙ closed_number items (desk_of y rec []) in
      ends items recs rec y z 0 false full (λ _. omega (arith, same, is.2)) (λ _. refl) is.0 (λ _. closed_is rec [])

pub reached_short : (n : ℕ) (items : List Item) → length (rows.reached n items) ≤ length items
reached_short n [] = omega arith
reached_short n (Read ∷ items) = by_case (n == 1) (reached_short (n - 1) items)
  where
    by_case : (b : Bool) → length (rows.reached (n - 1) items) ≤ length items → length (cond b [] (Read ∷ rows.reached (n - 1) items)) ≤ suc (length items)
    by_case true rest = omega arith
    by_case false rest = omega (arith, rest)
reached_short n (Field origin strip convert spot align ∷ items) = let rest = reached_short n items in omega (arith, rest)
reached_short n (Write ∷ items) = let rest = reached_short n items in omega (arith, rest)
reached_short n (Pad byte ∷ items) = let rest = reached_short n items in omega (arith, rest)
reached_short n (Set k op amount ∷ items) = let rest = reached_short n items in omega (arith, rest)

pub both_ok : {T E : Type 0} (r : Result T E) (P Q S : T → Type 0) → ((x : T) → P x → Q x → S x) → IfOk r P → IfOk r Q → IfOk r S
both_ok (Ok x) P Q S f p q = f x p q
both_ok (Err e) P Q S f p q = tt

-- What a cycle tells

module _ (items : List Item) (recs : Records) where
  waits_none : come items recs ≡ 0 → rows.waits items recs ≡ false
  waits_none none = ap (λ n. not (n == 0)) none

  waits_some : 1 ≤ come items recs → rows.waits items recs ≡ true
  waits_some some = ap not (ne_eqb (come items recs) 0 (λ none. omega (arith, none, some)))

  told : (faulty : Bool) (d : rows.Desk) (f : rows.Desk → rows.Desk) → faulty ≡ is_none (option_map f (unless_faulty faulty d))
  told true d f = refl
  told false d f = refl

  told_between : (faulty : Bool) (d : rows.Desk) → faulty ≡ is_none (unless_faulty faulty d)
  told_between true d = refl
  told_between false d = refl

  pub faulty_is : (x : Desk) (wrote : Records) (at : ℕ) (faulty : Bool) → IsAt items x wrote at faulty recs → faulty ≡ is_none (rows.so_far items recs)
  faulty_is x wrote at faulty is = ⊎_elim
      (λ none. let b = is.between none in
      told_between faulty (with_written wrote (desk_of x b.hand b.coming)) ∙ ap is_none (sym b.desk_is)
      ∙ ap (λ w. is_none (cond w (rows.cycle (rows.reached (come items recs) items) (rows.after_cycles items recs) (rows.waiting items recs)) (rows.after_cycles items recs))) (sym (waits_none none)))
      (λ some. let w = is.within some in
      told faulty (desk_of x w.hand []) (rows.closed (rows.reached (come items recs) items))
      ∙ ap (λ d. is_none (option_map (rows.closed (rows.reached (come items recs) items)) d)) (sym (ap (ran_to items (come items recs) (rows.after_cycles items recs)) (sym (append-nil (rows.waiting items recs))) ∙ w.desk_is []))
      ∙ ap (λ w. is_none (cond w (rows.cycle (rows.reached (come items recs) items) (rows.after_cycles items recs) (rows.waiting items recs)) (rows.after_cycles items recs))) (sym (waits_some some)))
      (zero_or_more (come items recs))

  pairs_between : come items recs ≡ 0 → rows.cycle_pairs items recs ≡ all_on 0 (rows.written_by (rows.after_cycles items recs))
  pairs_between none = ap (λ w. cond w [] (all_on 0 (rows.written_by (rows.after_cycles items recs)))) (waits_none none)

  pairs_within : 1 ≤ come items recs → rows.cycle_pairs items recs ≡ []
  pairs_within some = ap (λ w. cond w [] (all_on 0 (rows.written_by (rows.after_cycles items recs)))) (waits_some some)

  pub faulty_pairs : (x : Desk) (wrote : Records) (at : ℕ) → IsAt items x wrote at true recs → all_on 0 [] ≡ rows.cycle_pairs items recs
  faulty_pairs x wrote at is = ⊎_elim
      (λ none. sym (pairs_between none ∙ ap (λ d. all_on 0 (rows.written_by d)) (is.between none).desk_is))
      (λ some. sym (pairs_within some)) (zero_or_more (come items recs))

  pub no_pairs : (x : Desk) (wrote : Records) (at : ℕ) → 1 ≤ at → IsAt items x wrote at false recs → all_on 0 [] ≡ rows.cycle_pairs items recs
  no_pairs x wrote at some is = ⊎_elim
      (λ none. absurd (omega (arith, some, (is.between none).at_is refl)))
      (λ within. sym (pairs_within within)) (zero_or_more (come items recs))

  pub cycle_wrote : (x : Desk) (wrote : Records) (at : ℕ) → at ≡ 0 → IsAt items x wrote at false recs → all_on 0 wrote ≡ rows.cycle_pairs items recs
  cycle_wrote x wrote at front is = ⊎_elim
      (λ none. sym (pairs_between none ∙ ap (λ d. all_on 0 (rows.written_by d)) (is.between none).desk_is))
      (λ some. absurd (omega (arith, front, (is.within some).at_is refl))) (zero_or_more (come items recs))

  -- no cycle ended, or one with a fault
  pub none_ended : (x : Desk) (wrote : Records) (at : ℕ) (faulty : Bool) → IsAt items x wrote at faulty recs → (not faulty && at == 0) ≡ false → all_on 0 [] ≡ rows.cycle_pairs items recs
  none_ended x wrote at true is not_ended = faulty_pairs x wrote at is
  none_ended x wrote at false is not_ended = no_pairs x wrote at (let other = eqb-false at 0 not_ended in omega (arith, other)) is

-- a cycle ended, and without a fault
pub has_ended : (at : ℕ) (faulty : Bool) → (not faulty && at == 0) ≡ true → (faulty ≡ false) × (at ≡ 0)
has_ended at true is = absurd (cc)
has_ended at false is = (refl, eqb-true at 0 is)

-- The end of input

all_reached : (w : ℕ) (items : List Item) → 1 ≤ w → w ≤ rows.reads items → items ≡ rows.reached w items ++ Read ∷ drop (suc (length (rows.reached w items))) items
all_reached zero items some few = absurd (omega (arith, some))
all_reached (suc n) items some few = read_behind n items few

closed_desk : (items : List Item) (y z : Desk) (b : Bool) → (b ≡ false → desk_of z [] [] ≡ rows.closed items (desk_of y [] [])) → option_map (rows.closed items) (unless_faulty b (desk_of y [] [])) ≡ unless_faulty b (desk_of z [] [])
closed_desk items y z true is = refl
closed_desk items y z false is = ap Some (sym (is refl))

module _ (items : List Item) (recs : Records) where
  input_between : come items recs ≡ 0 → rows.after_input items recs ≡ rows.after_cycles items recs
  input_between none = ap (λ w. cond w (rows.cycle items (rows.after_cycles items recs) (rows.waiting items recs)) (rows.after_cycles items recs)) (waits_none items recs none)

  -- the items behind the READ that finds no record
  input_within : 1 ≤ come items recs → rows.after_input items recs
      ≡ option_map (rows.closed items) (fold step (ran_to items (come items recs) (rows.after_cycles items recs) (rows.waiting items recs ++ [])) (Read ∷ drop (suc (length (rows.reached (come items recs) items))) items))
  input_within some =
      let n = come items recs in
      let rest = Read ∷ drop (suc (length (rows.reached n items))) items in
      ap (λ w. cond w (rows.cycle items (rows.after_cycles items recs) (rows.waiting items recs)) (rows.after_cycles items recs)) (waits_some items recs some)
      ∙ ap (option_map (rows.closed items)) (
      ap (λ xs. option_and_then (λ d. rows.run xs (rows.begun d (rows.waiting items recs))) (rows.after_cycles items recs)) (all_reached n items some (few_come items recs []))
      ∙ run_behind (rows.after_cycles items recs) (rows.reached n items) rest (rows.waiting items recs)
      ∙ ap (λ all. fold step (ran_to items n (rows.after_cycles items recs) all) rest) (sym (append-nil (rows.waiting items recs))))

  pub ends_faulty : (x : Desk) (wrote : Records) (at : ℕ) → IsAt items x wrote at true recs → IsEnded items x true recs
  ends_faulty x wrote at is = record {
    hand = [];
    coming = [];
    wrote = [];
    number = λ no. absurd (cc);
    desk_is = ⊎_elim
        (λ none. input_between none ∙ (is.between none).desk_is)
        (λ some. input_within some ∙ ap (option_map (rows.closed items)) (
        ap (λ d. fold step d (Read ∷ drop (suc (length (rows.reached (come items recs) items))) items)) ((is.within some).desk_is [])
        ∙ stays_none (Read ∷ drop (suc (length (rows.reached (come items recs) items))) items)))
        (zero_or_more (come items recs));
  }

  pub ends_between : (x : Desk) (wrote : Records) (at : ℕ) → at ≡ 0 → IsAt items x wrote at false recs → IsEnded items x false recs
  ends_between x wrote at front is =
      let none : come items recs ≡ 0 = ⊎_elim (λ e. e) (λ some. absurd (omega (arith, front, (is.within some).at_is refl))) (zero_or_more (come items recs)) in
      let b = is.between none in record { hand = b.hand; coming = b.coming; wrote = wrote; number = is.number; desk_is = input_between none ∙ b.desk_is }

  -- it is run on with empty records
  pub within_after : (x y z : Desk) (wrote : Records) (at : ℕ) (faulty : Bool) → at ≢ 0 → IsAt items x wrote at false recs → rows.run (drop at items) (desk_of x [] []) ≡ unless_faulty faulty (desk_of y [] [])
      → (faulty ≡ false → desk_of z [] [] ≡ rows.closed items (desk_of y [] [])) → rows.after_input items recs ≡ unless_faulty faulty (desk_of z [] [])
  within_after x y z wrote at faulty within is ran closed_is =
      let some : 1 ≤ come items recs = ⊎_elim (λ none. absurd (within ((is.between none).at_is refl))) (λ e. e) (zero_or_more (come items recs)) in
      let w = is.within some in
      input_within some ∙ ap (option_map (rows.closed items)) (
      ap (λ d. fold step d (Read ∷ drop (suc (length (rows.reached (come items recs) items))) items)) (w.desk_is [])
      ∙ ap (λ n. rows.run (drop n items) (desk_of x [] [])) (sym (w.at_is refl)) ∙ ran) ∙ closed_desk items y z faulty closed_is

  pub ends_within : (x y z : Desk) (wrote : Records) (at : ℕ) (faulty : Bool) → at ≢ 0 → IsAt items x wrote at false recs → rows.run (drop at items) (desk_of x [] []) ≡ unless_faulty faulty (desk_of y [] [])
      → (faulty ≡ false → desk_of z [] [] ≡ rows.closed items (desk_of y [] [])) → IsEnded items z faulty recs
  ends_within x y z wrote at faulty within is ran closed_is = record {
    hand = [];
    coming = [];
    wrote = z.written.items;
    desk_is = within_after x y z wrote at faulty within is ran closed_is;
    number = number_same faulty ran closed_is;
  }
    where
      number_same : (b : Bool) → rows.run (drop at items) (desk_of x [] []) ≡ unless_faulty b (desk_of y [] []) → (b ≡ false → desk_of z [] [] ≡ rows.closed items (desk_of y [] [])) → b ≡ false → z.number ≤ length recs
      number_same true ran closed_is good = absurd (cc)
      number_same false ran closed_is good =
          let kept = run_number (drop at items) (desk_of x [] []) (desk_of y [] []) ran in
          let same : z.number ≡ y.number = ap (λ (d : rows.Desk). d.number) (closed_is refl) ∙ closed_number items (desk_of y [] []) in
          omega (arith, same, kept, is.number refl)

  -- What a cycle that waits wrote

  pub none_wait : come items recs ≡ 0 → [] ≡ rows.waiting_pairs items recs
  none_wait none = ap (λ w. cond w (all_on 0 (rows.written_by (rows.after_input items recs))) []) (sym (waits_none items recs none))

  some_wait : 1 ≤ come items recs → all_on 0 (rows.written_by (rows.after_input items recs)) ≡ rows.waiting_pairs items recs
  some_wait some = ap (λ w. cond w (all_on 0 (rows.written_by (rows.after_input items recs))) []) (sym (waits_some items recs some))

  pub wrote_faulty : (x : Desk) (wrote : Records) (at : ℕ) → IsAt items x wrote at true recs → all_on 0 [] ≡ rows.waiting_pairs items recs
  wrote_faulty x wrote at is = ⊎_elim none_wait
      (λ some. ap (λ d. all_on 0 (rows.written_by d)) (sym (ends_faulty x wrote at is).desk_is) ∙ some_wait some) (zero_or_more (come items recs))

  pub wrote_between : (x : Desk) (wrote : Records) (at : ℕ) → at ≡ 0 → IsAt items x wrote at false recs → all_on 0 [] ≡ rows.waiting_pairs items recs
  wrote_between x wrote at front is = ⊎_elim none_wait (λ some. absurd (omega (arith, front, (is.within some).at_is refl))) (zero_or_more (come items recs))

  pub wrote_within : (x : Desk) (wrote : Records) (at : ℕ) (o : Option rows.Desk) → at ≢ 0 → IsAt items x wrote at false recs → rows.after_input items recs ≡ o → all_on 0 (rows.written_by o) ≡ rows.waiting_pairs items recs
  wrote_within x wrote at o within is after = ⊎_elim (λ none. absurd (within ((is.between none).at_is refl)))
      (λ some. ap (λ d. all_on 0 (rows.written_by d)) (sym after) ∙ some_wait some) (zero_or_more (come items recs))

-- The EOF list

module _ (items eof : List Item) (recs : Records) where
  -- after a fault it doesn't run
  pub eof_faulty : (x : Desk) → IsEnded items x true recs → rows.cycle eof (rows.after_input items recs) [] ≡ None
  eof_faulty x is = ap (λ d. rows.cycle eof d []) is.desk_is

  pub eof_ran : (x b y z : Desk) (faulty : Bool) → IsEnded items x false recs
      → ((hand : List ℕ) (coming : Records) → desk_of b [] [] ≡ rows.begun (desk_of x hand coming) [])
      → rows.run eof (desk_of b [] []) ≡ unless_faulty faulty (desk_of y [] [])
      → (faulty ≡ false → desk_of z [] [] ≡ rows.closed eof (desk_of y [] [])) → rows.cycle eof (rows.after_input items recs) [] ≡ unless_faulty faulty (desk_of z [] [])
  eof_ran x b y z faulty is begun_is ran closed_is =
      ap (λ d. rows.cycle eof d []) is.desk_is
      ∙ ap (λ d. option_map (rows.closed eof) (rows.run eof d)) (sym (begun_is is.hand is.coming))
      ∙ ap (option_map (rows.closed eof)) ran ∙ closed_desk eof y z faulty closed_is

-- What a cycle wrote is given away

-- nothing else of the desk changed
pub given_away : (items : List Item) (recs : Records) (x y : Desk) (at : ℕ) → at ≡ 0 → y.number ≡ x.number
    → ((wrote : Records) (hand : List ℕ) (coming : Records) → with_written wrote (desk_of y hand coming) ≡ with_written wrote (desk_of x hand coming))
    → IsAt items x x.written.items at false recs → IsAt items y x.written.items at false recs
given_away items recs x y at front number same is = record {
  number = λ good. omega (arith, number, is.number good);
  between = λ none. let b = is.between none in record { hand = b.hand; coming = b.coming; desk_is = b.desk_is ∙ ap Some (sym (same x.written.items b.hand b.coming)); at_is = b.at_is };
  within = λ some. absurd (omega (arith, front, (is.within some).at_is refl));
}

pub given_ended : (items : List Item) (recs : Records) (x y : Desk) → y.number ≡ x.number
    → ((wrote : Records) (hand : List ℕ) (coming : Records) → with_written wrote (desk_of y hand coming) ≡ with_written wrote (desk_of x hand coming))
    → IsEnded items x false recs → IsEnded items y false recs
given_ended items recs x y number same is = record {
  hand = is.hand;
  coming = is.coming;
  wrote = is.wrote;
  desk_is = is.desk_is ∙ ap Some (sym (same is.wrote is.hand is.coming));
  number = λ good. omega (arith, number, is.number good);
}
