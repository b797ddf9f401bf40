-- Where COLLATE stands before a round, and after it.
use Rattle.std.proofs.Common.{◌≡◌, inl, inr, ℕ, zero, suc, ◌+◌, ◌<◌, ◌≤◌, Bool, true, false, cond, ◌&&◌, ◌||◌, ◌==◌, List, [], ◌∷◌, ◌++◌, length, refl, sym, ◌∙◌, ap, arith, Some, None}
use Rattle.std.specs.Prelude.{filter, find}
use Rattle.std.specs.List.{list_any}
use Rattle.std.proofs.lemmas.Bool.Decides.{nat_tests}
use Rattle.std.proofs.Math.Bool.{or-false}
use Rattle.pipe_model.specs.declared.net.Strand.{Strand}
use Rattle.pipe_model.specs.declared.range.Range.{Range}
use Rattle.pipe_model.specs.Event.{Event}
use Rattle.pipe_model.specs.Event.Event.{Saw, SawEnd}
use Rattle.pipe_model.specs.Row.{Pair, Known, sees, without}
use Rattle.pipe_model.specs.Shape.{Records, records_of, round_plan, all_inputs, lacks}
use Rattle.pipe_model.specs.Inputs.{records_from}
use Rattle.pipe_model.specs.JoiningRows.{detail_then, beside_master, Turn, turn_of, turn_in, collated, taken_in, collating}
use Rattle.pipe_model.specs.JoiningRows.Turn.{Match, Master, Detail}
use Rattle.pipe_model.specs.Table.{form}
use Rattle.pipe_model.specs.Members.{has}
use Rattle.pipe_model.specs.Next.{hears, nothing_known}
use Rattle.pipe_model.specs.Alone.{Given, IsAllAlone}
use Rattle.pipe_model.specs.Listed.{IsUnlimited, Puts}
use Rattle.pipe_model.proofs.Numbers.{test_same}
use Rattle.stream_laws.proofs.Streams.{from}
use Rattle.stream_laws.proofs.Sights.{without_others, now_own, now_others}
use Rattle.stream_laws.proofs.Places.{took}
use Rattle.stream_laws.proofs.Rounded.{with_list, IsSeen, IsOpen, Shows, shows_still, open_still, saw_own, end_own, At, rounds_begin, round_saw, round_end, now_open, others_still, reads_again, acts}
use Rattle.stream_laws.proofs.Collated.{fits, Alike}

-- nothing is in sight where no input has a record there
pub none_in_sight : (sight : List Pair) → ((j : ℕ) → records_from j sight ≡ []) → sight ≡ []
none_in_sight [] none = refl
none_in_sight (p ∷ ps) none = (let z : p.1 ∷ records_of (from p.0 ps) ≡ [] = sym (ap (λ b. records_of (cond b (p ∷ from p.0 ps) (from p.0 ps))) (test_same p.0)) ∙ none p.0 in cc)

-- pairs that give each stream the same put the same
pub puts_alike : (of_master of_detail : Range) (s : Strand) (W : List Event) (ps qs : List Pair) → Alike of_master of_detail ps qs → Puts s W ps → Puts s W qs
puts_alike of_master of_detail s W ps qs e x = record { connected = λ o flag. x.connected o flag ∙ e o; others = x.others }

-- the two inputs
pub both : (k : Known) (left : ℕ → Records) → Shows k left 0 → Shows k left 1 → (j : ℕ) → j < 2 → Shows k left j
both k left first second zero lt = first
both k left first second (suc zero) lt = second
both k left first second (suc (suc j)) lt = absurd (omega arith)

apart_from : (i j : ℕ) → i < 2 → 2 ≤ j → (i == j) ≡ false
apart_from i j lt le = grind (arith, nat_tests)

only_second : (a b : Bool) → b ≡ true → cond {A = List ℕ} (a && false) (0 ∷ cond (b && true) (1 ∷ []) []) (cond (b && true) (1 ∷ []) []) ≡ 1 ∷ []
only_second true true e = refl
only_second false true e = refl
only_second a false e = cc

only_first : (a b : Bool) → a ≡ true → cond {A = List ℕ} (a && true) (0 ∷ cond (b && false) (1 ∷ []) []) (cond (b && false) (1 ∷ []) []) ≡ 0 ∷ []
only_first true true e = refl
only_first true false e = refl
only_first false b e = cc

pub one_more_is : (c e : ℕ) → c ≡ e + 1 → (c == 1) ≡ (e == 0)
one_more_is c e is = grind (arith, nat_tests)

module _ (of_master of_detail : Range) where
  -- how many of some details have the key of one of some masters
  abbrev pub count_of : Records → Records → ℕ
  count_of masters details = length (filter (λ detail. list_any (λ master. fits of_master of_detail master detail) masters) details)

  -- whether a detail has the key of one master
  single : (m d : List ℕ) (b : Bool) → fits of_master of_detail m d ≡ b → (fits of_master of_detail m d || false) ≡ b
  single m d b e = ap (λ z. z || false) e ∙ or-false b

  -- one detail more
  count_more : (m d : List ℕ) (ds : Records) (e : ℕ) → count_of (m ∷ []) ds ≡ e → count_of (m ∷ []) (d ∷ ds) ≡ e + count_of (m ∷ []) (d ∷ [])
  count_more m d ds e is = by_test (fits of_master of_detail m d || false)
    where
      by_test : (b : Bool) → length (cond b (d ∷ filter (λ detail. list_any (λ master. fits of_master of_detail master detail) (m ∷ [])) ds) (filter (λ detail. list_any (λ master. fits of_master of_detail master detail) (m ∷ [])) ds)) ≡ e + length (cond b (d ∷ []) [])
      by_test true = omega (arith, is)
      by_test false = omega (arith, is)

  pub count_one : (m d : List ℕ) (b : Bool) → fits of_master of_detail m d ≡ b → count_of (m ∷ []) (d ∷ []) ≡ length (cond b (d ∷ []) [])
  count_one m d b e = ap (λ z. length (cond z (d ∷ []) [])) (single m d b e)

  -- What a round does

  module _ (k : Known) where
    pub takes_is : (turn : Turn) → turn_in of_master of_detail k.sight ≡ turn → sees (taken_in turn) k.sight ≡ true → filter (λ j. sees j k.sight && (collating of_master of_detail).takes k j) (all_inputs 2) ≡ taken_in turn ∷ []
    takes_is Match is seen = ap (λ z. filter (λ j. sees j k.sight && j == taken_in z) (all_inputs 2)) is ∙ only_second (sees 0 k.sight) (sees 1 k.sight) seen
    takes_is Master is seen = ap (λ z. filter (λ j. sees j k.sight && j == taken_in z) (all_inputs 2)) is ∙ only_first (sees 0 k.sight) (sees 1 k.sight) seen
    takes_is Detail is seen = ap (λ z. filter (λ j. sees j k.sight && j == taken_in z) (all_inputs 2)) is ∙ only_second (sees 0 k.sight) (sees 1 k.sight) seen

    pub outs_are : (turn : Turn) (masters details : Records) (n : ℕ) → turn_in of_master of_detail k.sight ≡ turn → records_from 0 k.sight ≡ masters → records_from 1 k.sight ≡ details → count_of masters (beside_master k.told) ≡ n →
        (collating of_master of_detail).outs k ≡ collated turn masters details n
    outs_are turn masters details n is first second count =
        ap (λ z. collated z (records_from 0 k.sight) (records_from 1 k.sight) (count_of (records_from 0 k.sight) (beside_master k.told))) is
        ∙ ap (λ z. collated turn z (records_from 1 k.sight) (count_of z (beside_master k.told))) first
        ∙ ap (λ z. collated turn masters z (count_of masters (beside_master k.told))) second
        ∙ ap (collated turn masters details) count

    pub turn_is : (masters details : Records) → records_from 0 k.sight ≡ masters → records_from 1 k.sight ≡ details → turn_in of_master of_detail k.sight ≡ turn_of of_master of_detail masters details
    turn_is masters details first second = ap (λ z. turn_of of_master of_detail z (records_from 1 k.sight)) first ∙ ap (turn_of of_master of_detail masters) second

module _ (s : Strand) (g : Given) (unlimited : IsUnlimited g) (W : List Event) (done : IsAllAlone s g W)
    (of_master of_detail : Range) (row_is : (form s).row.plan ≡ round_plan 2 (collating of_master of_detail)) where
  -- where it stands before a round: so many details matched the master in sight before the one in sight
  pub record Stand (pairs : List Pair) (left : ℕ → Records) (e : ℕ) (k : Known) : Type 0 where
    pub place : At s g unlimited W done 2 (collating of_master of_detail) refl row_is k pairs left
    pub first : Shows k left 0
    pub second : Shows k left 1
    pub beyond : (j : ℕ) → 2 ≤ j → IsOpen k j
    pub latest : detail_then k.told ≡ records_from 1 k.sight
    pub count : (m : List ℕ) → records_from 0 k.sight ≡ m ∷ [] → count_of of_master of_detail (m ∷ []) (beside_master k.told) ≡ e + count_of of_master of_detail (m ∷ []) (records_from 1 k.sight)

  -- One round
  module _ (pairs : List Pair) (left : ℕ → Records) (e : ℕ) (k : Known) (x : Stand pairs left e k) where
    -- after the detail in sight
    pub after_detail : (own : IsSeen k left 1) → filter (λ j. sees j k.sight && (collating of_master of_detail).takes k j) (all_inputs 2) ≡ 1 ∷ [] → (e' : ℕ) →
        ((m : List ℕ) → records_from 0 k.sight ≡ m ∷ [] → count_of of_master of_detail (m ∷ []) (beside_master k.told) ≡ e') →
        (k' : Known) × Stand (pairs ++ (collating of_master of_detail).outs k) (with_list 1 own.rest left) e' k'
    after_detail own takes e' now = by_list own.rest refl
      where
        shows : (j : ℕ) → j < 2 → Shows k left j
        shows = both k left x.first x.second

        place : At s g unlimited W done 2 (collating of_master of_detail) refl row_is (took 1 k) (pairs ++ (collating of_master of_detail).outs k) (with_list 1 own.rest left)
        place = acts s g unlimited W done 2 (collating of_master of_detail) refl row_is k left shows 1 (omega arith) own pairs x.place takes

        again : find (lacks (without 1 k.sight) k.ends) (all_inputs 2) ≡ Some 1
        again = reads_again s g unlimited W done 2 (collating of_master of_detail) refl row_is k left shows 1 (omega arith) own

        opened : IsOpen (took 1 k) 1
        opened = now_open s g unlimited W done 2 (collating of_master of_detail) refl row_is k left shows 1 (omega arith) own

        other : Shows (took 1 k) (with_list 1 own.rest left) 0
        other = others_still s g unlimited W done 2 (collating of_master of_detail) refl row_is k left shows 1 (omega arith) own 0 refl x.first

        same_first : records_from 0 (without 1 k.sight) ≡ records_from 0 k.sight
        same_first = without_others 1 0 k.sight refl

        by_list : (rest : Records) → own.rest ≡ rest → (k' : Known) × Stand (pairs ++ (collating of_master of_detail).outs k) (with_list 1 own.rest left) e' k'
        by_list [] list = (
          hears (took 1 k) (SawEnd 1),
          record {
            place = round_end s g unlimited W done 2 (collating of_master of_detail) refl row_is (took 1 k) (pairs ++ (collating of_master of_detail).outs k) (with_list 1 own.rest left) 1 again list place;
            first = shows_still (took 1 k) (hears (took 1 k) (SawEnd 1)) (with_list 1 own.rest left) 0 refl refl other;
            second = inl (end_own (took 1 k) (with_list 1 own.rest left) 1 opened list);
            beyond = λ j le. open_still k (hears (took 1 k) (SawEnd 1)) j (without_others 1 j k.sight (apart_from 1 j (omega arith) le)) (ap (λ b. b || has k.ends j) (apart_from 1 j (omega arith) le)) (x.beyond j le);
            latest = sym opened.none;
            count = λ m is. let c = now m (sym same_first ∙ is) in let d : count_of of_master of_detail (m ∷ []) (records_from 1 (without 1 k.sight)) ≡ 0 = ap (count_of of_master of_detail (m ∷ [])) opened.none in omega (arith, c, d);
          },
        )
        by_list (d ∷ ds) list = (
          hears (took 1 k) (Saw 1 d),
          record {
            place = round_saw s g unlimited W done 2 (collating of_master of_detail) refl row_is (took 1 k) (pairs ++ (collating of_master of_detail).outs k) (with_list 1 own.rest left) 1 d ds again list place;
            first = shows_still (took 1 k) (hears (took 1 k) (Saw 1 d)) (with_list 1 own.rest left) 0 (now_others 1 0 (without 1 k.sight) d refl) refl other;
            second = inr (saw_own (took 1 k) (with_list 1 own.rest left) 1 opened d ds list);
            beyond = λ j le. open_still k (hears (took 1 k) (Saw 1 d)) j (now_others 1 j (without 1 k.sight) d (apart_from 1 j (omega arith) le) ∙ without_others 1 j k.sight (apart_from 1 j (omega arith) le)) refl (x.beyond j le);
            latest = sym (now_own 1 (without 1 k.sight) d opened.none);
            count = λ m is.
                count_more of_master of_detail m d (beside_master k.told) e' (now m (sym (now_others 1 0 (without 1 k.sight) d refl ∙ same_first) ∙ is))
                ∙ ap (λ z. e' + count_of of_master of_detail (m ∷ []) z) (sym (now_own 1 (without 1 k.sight) d opened.none));
          },
        )

    -- after the master in sight
    pub after_master : (own : IsSeen k left 0) → filter (λ j. sees j k.sight && (collating of_master of_detail).takes k j) (all_inputs 2) ≡ 0 ∷ [] →
        (k' : Known) × Stand (pairs ++ (collating of_master of_detail).outs k) (with_list 0 own.rest left) 0 k'
    after_master own takes = by_list own.rest refl
      where
        shows : (j : ℕ) → j < 2 → Shows k left j
        shows = both k left x.first x.second

        place : At s g unlimited W done 2 (collating of_master of_detail) refl row_is (took 0 k) (pairs ++ (collating of_master of_detail).outs k) (with_list 0 own.rest left)
        place = acts s g unlimited W done 2 (collating of_master of_detail) refl row_is k left shows 0 (omega arith) own pairs x.place takes

        again : find (lacks (without 0 k.sight) k.ends) (all_inputs 2) ≡ Some 0
        again = reads_again s g unlimited W done 2 (collating of_master of_detail) refl row_is k left shows 0 (omega arith) own

        opened : IsOpen (took 0 k) 0
        opened = now_open s g unlimited W done 2 (collating of_master of_detail) refl row_is k left shows 0 (omega arith) own

        other : Shows (took 0 k) (with_list 0 own.rest left) 1
        other = others_still s g unlimited W done 2 (collating of_master of_detail) refl row_is k left shows 0 (omega arith) own 1 refl x.second

        same_second : records_from 1 (without 0 k.sight) ≡ records_from 1 k.sight
        same_second = without_others 0 1 k.sight refl

        by_list : (rest : Records) → own.rest ≡ rest → (k' : Known) × Stand (pairs ++ (collating of_master of_detail).outs k) (with_list 0 own.rest left) 0 k'
        by_list [] list = (
          hears (took 0 k) (SawEnd 0),
          record {
            place = round_end s g unlimited W done 2 (collating of_master of_detail) refl row_is (took 0 k) (pairs ++ (collating of_master of_detail).outs k) (with_list 0 own.rest left) 0 again list place;
            first = inl (end_own (took 0 k) (with_list 0 own.rest left) 0 opened list);
            second = shows_still (took 0 k) (hears (took 0 k) (SawEnd 0)) (with_list 0 own.rest left) 1 refl refl other;
            beyond = λ j le. open_still k (hears (took 0 k) (SawEnd 0)) j (without_others 0 j k.sight (apart_from 0 j (omega arith) le)) (ap (λ b. b || has k.ends j) (apart_from 0 j (omega arith) le)) (x.beyond j le);
            latest = x.latest ∙ sym same_second;
            count = λ m is. (let z : [] ≡ m ∷ [] = sym opened.none ∙ is in cc);
          },
        )
        by_list (m' ∷ ms) list = (
          hears (took 0 k) (Saw 0 m'),
          record {
            place = round_saw s g unlimited W done 2 (collating of_master of_detail) refl row_is (took 0 k) (pairs ++ (collating of_master of_detail).outs k) (with_list 0 own.rest left) 0 m' ms again list place;
            first = inr (saw_own (took 0 k) (with_list 0 own.rest left) 0 opened m' ms list);
            second = shows_still (took 0 k) (hears (took 0 k) (Saw 0 m')) (with_list 0 own.rest left) 1 (now_others 0 1 (without 0 k.sight) m' refl) refl other;
            beyond = λ j le. open_still k (hears (took 0 k) (Saw 0 m')) j (now_others 0 j (without 0 k.sight) m' (apart_from 0 j (omega arith) le) ∙ without_others 0 j k.sight (apart_from 0 j (omega arith) le)) refl (x.beyond j le);
            latest = x.latest ∙ sym (now_others 0 1 (without 0 k.sight) m' refl ∙ same_second);
            count = λ m is. let c : count_of of_master of_detail (m ∷ []) (detail_then k.told) ≡ count_of of_master of_detail (m ∷ []) (records_from 1 (without 0 (without 0 k.sight) ++ (0, m') ∷ [])) = ap (count_of of_master of_detail (m ∷ [])) (x.latest ∙ sym (now_others 0 1 (without 0 k.sight) m' refl ∙ same_second)) in omega (arith, c);
          },
        )

  -- At its start

  start_second : (k : Known) → At s g unlimited W done 2 (collating of_master of_detail) refl row_is k [] g.inputs → Shows k g.inputs 0 → IsOpen k 1 → find (lacks k.sight k.ends) (all_inputs 2) ≡ Some 1 →
      ((j : ℕ) → 2 ≤ j → IsOpen k j) → beside_master k.told ≡ [] → (k' : Known) × Stand [] g.inputs 0 k'
  start_second k place first opened next_is beyond none = by_list (g.inputs 1) refl
    where
      no_count : (m : List ℕ) → count_of of_master of_detail (m ∷ []) (beside_master k.told) ≡ 0
      no_count m = ap (count_of of_master of_detail (m ∷ [])) none

      by_list : (rest : Records) → g.inputs 1 ≡ rest → (k' : Known) × Stand [] g.inputs 0 k'
      by_list [] list = (
        hears k (SawEnd 1),
        record {
          place = round_end s g unlimited W done 2 (collating of_master of_detail) refl row_is k [] g.inputs 1 next_is list place;
          first = shows_still k (hears k (SawEnd 1)) g.inputs 0 refl refl first;
          second = inl (end_own k g.inputs 1 opened list);
          beyond = λ j le. open_still k (hears k (SawEnd 1)) j refl (ap (λ b. b || has k.ends j) (apart_from 1 j (omega arith) le)) (beyond j le);
          latest = sym opened.none;
          count = λ m is. let c = no_count m in let d : count_of of_master of_detail (m ∷ []) (records_from 1 k.sight) ≡ 0 = ap (count_of of_master of_detail (m ∷ [])) opened.none in omega (arith, c, d);
        },
      )
      by_list (d ∷ ds) list = (
        hears k (Saw 1 d),
        record {
          place = round_saw s g unlimited W done 2 (collating of_master of_detail) refl row_is k [] g.inputs 1 d ds next_is list place;
          first = shows_still k (hears k (Saw 1 d)) g.inputs 0 (now_others 1 0 k.sight d refl) refl first;
          second = inr (saw_own k g.inputs 1 opened d ds list);
          beyond = λ j le. open_still k (hears k (Saw 1 d)) j (now_others 1 j k.sight d (apart_from 1 j (omega arith) le)) refl (beyond j le);
          latest = sym (now_own 1 k.sight d opened.none);
          count = λ m is. count_more of_master of_detail m d (beside_master k.told) 0 (no_count m) ∙ ap (λ z. 0 + count_of of_master of_detail (m ∷ []) z) (sym (now_own 1 k.sight d opened.none));
        },
      )

  pub start : (form s).row.early ≡ None → (k' : Known) × Stand [] g.inputs 0 k'
  start early = by_list (g.inputs 0) refl
    where
      begun : At s g unlimited W done 2 (collating of_master of_detail) refl row_is nothing_known [] g.inputs
      begun = rounds_begin s g unlimited W done 2 (collating of_master of_detail) refl row_is early

      by_list : (rest : Records) → g.inputs 0 ≡ rest → (k' : Known) × Stand [] g.inputs 0 k'
      by_list [] list =
          start_second (hears nothing_known (SawEnd 0)) (round_end s g unlimited W done 2 (collating of_master of_detail) refl row_is nothing_known [] g.inputs 0 refl list begun)
          (inl (end_own nothing_known g.inputs 0 (record { none = refl; going = refl }) list)) (record { none = refl; going = refl }) refl
          (λ j le. record { none = refl; going = ap (λ b. b || false) (apart_from 0 j (omega arith) le) }) refl
      by_list (m ∷ ms) list =
          start_second (hears nothing_known (Saw 0 m)) (round_saw s g unlimited W done 2 (collating of_master of_detail) refl row_is nothing_known [] g.inputs 0 m ms refl list begun)
          (inr (saw_own nothing_known g.inputs 0 (record { none = refl; going = refl }) m ms list)) (record { none = refl; going = refl }) refl
          (λ j le. record { none = now_others 0 j [] m (apart_from 0 j (omega arith) le); going = refl }) refl
