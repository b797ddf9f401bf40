-- What a strand does by itself that acts on a record of each input.
use Rattle.std.proofs.Common.{◌≡◌, ◌⊎◌, inl, inr, ℕ, zero, suc, ◌+◌, ◌<◌, ◌≤◌, Bool, true, false, cond, ◌&&◌, ◌||◌, not, ◌==◌, List, [], ◌∷◌, ◌++◌, length, refl, sym, ◌∙◌, ap, subst, arith, Option, Some, None, slice_get, pos, append_assoc}
use Rattle.std.specs.Prelude.{filter, find}
use Rattle.std.proofs.lemmas.Bool.Decides.{nat_tests}
use Rattle.std.proofs.lemmas.List.Elements.{filter-append}
use Rattle.std.proofs.lemmas.List.{append-nil}
use Rattle.std.proofs.lemmas.Bool.{eqb-true}
use Rattle.std.proofs.Math.Bool.{and-false}
use Rattle.pipe_model.specs.declared.net.Strand.{Strand}
use Rattle.pipe_model.specs.Event.{Event}
use Rattle.pipe_model.specs.Event.Event.{Saw, SawEnd}
use Rattle.pipe_model.specs.Event.Want.{Read}
use Rattle.pipe_model.specs.Row.{Pair, Plan, Known, sees, without}
use Rattle.pipe_model.specs.Row.Act.{Takes}
use Rattle.pipe_model.specs.Row.Goal.{Asks}
use Rattle.pipe_model.specs.Shape.{Records, Rounding, records_of, lacks, all_inputs, look, ends, has_any, act_on, round_of, read_or_act, round_plan}
use Rattle.pipe_model.specs.Inputs.{records_from}
use Rattle.pipe_model.specs.Table.{form}
use Rattle.pipe_model.specs.Members.{has, flag_at}
use Rattle.pipe_model.specs.Next.{begins_plan, hears, nothing_known}
use Rattle.pipe_model.specs.Next.Phase.{Doing}
use Rattle.pipe_model.specs.Alone.{Given, IsAllAlone}
use Rattle.pipe_model.specs.Listed.{IsUnlimited}
use Rattle.pipe_model.proofs.Numbers.{test_same}
use Rattle.pipe_model.proofs.Lists.{get_seam, length_more}
use Rattle.confluence_laws.proofs.Within.{past_end}
use Rattle.stream_laws.specs.InOrder.{connected}
use Rattle.stream_laws.proofs.Streams.{on_both, last_on}
use Rattle.stream_laws.proofs.Sights.{sees_none, sees_some, without_own, without_others, now_own, now_others, finds_it, finds_none, rest_of}
use Rattle.stream_laws.proofs.Places.{took, Reaches, take_one, write_all, read_one, read_end, begins, IsDone, finish}

-- the lists that are left, with another one of an input
abbrev pub with_list : ℕ → Records → (ℕ → Records) → ℕ → Records
with_list i rest left j = cond (i == j) rest (left j)

-- An input that has ended

pub record IsOver (k : Known) (left : ℕ → Records) (j : ℕ) : Type 0 where
  pub none : records_from j k.sight ≡ []
  pub ended : has k.ends j ≡ true
  pub all : left j ≡ []

-- one with a record in sight
pub record IsSeen (k : Known) (left : ℕ → Records) (j : ℕ) : Type 0 where
  pub rec : List ℕ
  pub rest : Records
  pub seen : records_from j k.sight ≡ rec ∷ []
  pub going : has k.ends j ≡ false
  pub list : left j ≡ rec ∷ rest

-- one of which nothing is known
pub record IsOpen (k : Known) (j : ℕ) : Type 0 where
  pub none : records_from j k.sight ≡ []
  pub going : has k.ends j ≡ false

abbrev pub Shows : Known → (ℕ → Records) → ℕ → Type 0
Shows k left j = IsOver k left j ⊎ IsSeen k left j

pub lacks_not : (k : Known) (left : ℕ → Records) (j : ℕ) → Shows k left j → lacks k.sight k.ends j ≡ false
lacks_not k left j (inl x) = ap (λ z. not (sees j k.sight) && not z) x.ended ∙ and-false (not (sees j k.sight))
lacks_not k left j (inr x) = ap (λ z. not z && not (has k.ends j)) (sees_some j k.sight x.rec [] x.seen)

pub lacks_it : (k : Known) (j : ℕ) → IsOpen k j → lacks k.sight k.ends j ≡ true
lacks_it k j x = ap (λ z. not z && not (has k.ends j)) (sees_none j k.sight x.none) ∙ ap (λ z. not z) x.going

-- what is known of an input stays, where its record in sight and its end do
pub shows_still : (k k' : Known) (left : ℕ → Records) (j : ℕ) → records_from j k'.sight ≡ records_from j k.sight → has k'.ends j ≡ has k.ends j → Shows k left j → Shows k' left j
shows_still k k' left j sight ended (inl x) = inl (record { none = sight ∙ x.none; ended = ended ∙ x.ended; all = x.all })
shows_still k k' left j sight ended (inr x) = inr (record { rec = x.rec; rest = x.rest; seen = sight ∙ x.seen; going = ended ∙ x.going; list = x.list })

pub open_still : (k k' : Known) (j : ℕ) → records_from j k'.sight ≡ records_from j k.sight → has k'.ends j ≡ has k.ends j → IsOpen k j → IsOpen k' j
open_still k k' j sight ended x = record { none = sight ∙ x.none; going = ended ∙ x.going }

-- After a look

module _ (k : Known) (left : ℕ → Records) (i : ℕ) (open_is : IsOpen k i) where
  pub saw_own : (rec : List ℕ) (rest : Records) → left i ≡ rec ∷ rest → IsSeen (hears k (Saw i rec)) left i
  saw_own rec rest list = record { rec = rec; rest = rest; seen = now_own i k.sight rec open_is.none; going = open_is.going; list = list }

  pub end_own : left i ≡ [] → IsOver (hears k (SawEnd i)) left i
  end_own list = record { none = open_is.none; ended = ap (λ b. b || has k.ends i) (test_same i); all = list }

module _ (s : Strand) (g : Given) (unlimited : IsUnlimited g) (W : List Event) (done : IsAllAlone s g W)
    (n : ℕ) (t : Rounding) (lax : t.strict ≡ false) (row_is : (form s).row.plan ≡ round_plan n t) where
  plan_is : (k : Known) → (form s).row.plan k ≡ round_plan n t k
  plan_is k = ap (λ (p : Known → Plan). p k) row_is

  -- it has put what goes to outputs that are connected of these pairs, and these lists are left
  pub record At (k : Known) (pairs : List Pair) (left : ℕ → Records) : Type 0 where
    pub taken : List Pair
    pub reaches : Reaches s g unlimited W done k (begins_plan s.ports.has_output [] (round_plan n t k)) (connected s.ports.has_output pairs) taken
    pub lists : (j : ℕ) → (past : Records) × (g.inputs j ≡ past ++ left j) × (length past ≡ length (records_from j taken))

  pub rounds_begin : (form s).row.early ≡ None → At nothing_known [] g.inputs
  rounds_begin early = record {
    taken = [];
    reaches = subst (λ (z : Plan). Reaches s g unlimited W done nothing_known (begins_plan s.ports.has_output [] z) [] []) (plan_is nothing_known) (begins s g unlimited W done early);
    lists = λ j. ([], refl, refl);
  }

  -- what it does next, by the first input that it lacks
  plan_at : (k : Known) (m : Option ℕ) → find (lacks k.sight k.ends) (all_inputs n) ≡ m → round_plan n t k ≡ read_or_act n t k m
  plan_at k m is = ap (λ b. cond (b && has_any k.ends) (ends (pos 0)) (read_or_act n t k (find (lacks k.sight k.ends) (all_inputs n)))) lax ∙ ap (read_or_act n t k) is

  module _ (k : Known) (pairs : List Pair) (left : ℕ → Records) where
    -- what it is at
    now : (m : Option ℕ) → find (lacks k.sight k.ends) (all_inputs n) ≡ m → (x : At k pairs left) → Reaches s g unlimited W done k (begins_plan s.ports.has_output [] (read_or_act n t k m)) (connected s.ports.has_output pairs) x.taken
    now m is x = subst (λ (z : Plan). Reaches s g unlimited W done k (begins_plan s.ports.has_output [] z) (connected s.ports.has_output pairs) x.taken) (plan_at k m is) x.reaches

    -- it sees the next record of an input
    pub round_saw : (i : ℕ) (rec : List ℕ) (rest : Records) → find (lacks k.sight k.ends) (all_inputs n) ≡ Some i → left i ≡ rec ∷ rest → At k pairs left → At (hears k (Saw i rec)) pairs left
    round_saw i rec rest next_is list x =
        let l = x.lists i in
        let hand : slice_get (g.inputs i) (length (records_from i x.taken)) ≡ Some rec = ap (λ z. slice_get z (length (records_from i x.taken))) (l.1 ∙ ap (λ z. l.0 ++ z) list) ∙ ap (slice_get (l.0 ++ rec ∷ rest)) (sym l.2) ∙ get_seam l.0 rec rest in
        let k' : Known = hears k (Saw i rec) in
        record {
          taken = x.taken;
          reaches = subst (λ (z : Plan). Reaches s g unlimited W done k' (begins_plan s.ports.has_output [] z) (connected s.ports.has_output pairs) x.taken) (plan_is k')
              (read_one s g unlimited W done k i rec (connected s.ports.has_output pairs) x.taken (now (Some i) next_is x) hand);
          lists = x.lists;
        }

    -- or its end
    pub round_end : (i : ℕ) → find (lacks k.sight k.ends) (all_inputs n) ≡ Some i → left i ≡ [] → At k pairs left → At (hears k (SawEnd i)) pairs left
    round_end i next_is list x =
        let l = x.lists i in
        let hand : slice_get (g.inputs i) (length (records_from i x.taken)) ≡ None = ap (λ z. slice_get z (length (records_from i x.taken))) (l.1 ∙ ap (λ z. l.0 ++ z) list ∙ append-nil l.0) ∙ ap (slice_get l.0) (sym l.2) ∙ past_end l.0 in
        let k' : Known = hears k (SawEnd i) in
        record {
          taken = x.taken;
          reaches = subst (λ (z : Plan). Reaches s g unlimited W done k' (begins_plan s.ports.has_output [] z) (connected s.ports.has_output pairs) x.taken) (plan_is k')
              (read_end s g unlimited W done k i (connected s.ports.has_output pairs) x.taken (now (Some i) next_is x) hand);
          lists = x.lists;
        }

    -- nothing is left
    pub rounds_over : find (lacks k.sight k.ends) (all_inputs n) ≡ None → k.sight ≡ [] → (x : At k pairs left) → IsDone s g unlimited W done (connected s.ports.has_output pairs) x.taken (pos 0)
    rounds_over none empty x =
        finish s g unlimited W done k (pos 0) (connected s.ports.has_output pairs) x.taken
        (subst (λ z. Reaches s g unlimited W done k (begins_plan s.ports.has_output [] (round_of n t k z)) (connected s.ports.has_output pairs) x.taken) empty (now None none x))

    -- it acts, and takes the record of one input
    pub round_acts : (p : Pair) (ps : List Pair) (i : ℕ) (rec : List ℕ) (rest : Records) → find (lacks k.sight k.ends) (all_inputs n) ≡ None → k.sight ≡ p ∷ ps → filter (λ j. sees j k.sight && t.takes k j) (all_inputs n) ≡ i ∷ [] →
        find (lacks (without i k.sight) k.ends) (all_inputs n) ≡ Some i → left i ≡ rec ∷ rest → At k pairs left → At (took i k) (pairs ++ t.outs k) (with_list i rest left)
    round_acts p ps i rec rest none some takes then_is list x = record {
      taken = x.taken ++ (i, last_on i k.seen) ∷ [];
      reaches =
          let a = subst (λ z. Reaches s g unlimited W done k (begins_plan s.ports.has_output [] (round_of n t k z)) (connected s.ports.has_output pairs) x.taken) some (now None none x) in
          let b = subst (λ z. Reaches s g unlimited W done k (begins_plan s.ports.has_output [] (act_on n t k z)) (connected s.ports.has_output pairs) x.taken) takes a in
          let c = take_one s g unlimited W done k i [] (look (find (lacks (without i k.sight) k.ends) (all_inputs n))) (connected s.ports.has_output pairs ++ connected s.ports.has_output (t.outs k)) x.taken
          (write_all s g unlimited W done k (t.outs k) (Takes i ∷ []) (look (find (lacks (without i k.sight) k.ends) (all_inputs n))) (connected s.ports.has_output pairs) x.taken b) in
          let d = subst (λ m. Reaches s g unlimited W done (took i k) (Doing [] (look m)) (connected s.ports.has_output pairs ++ connected s.ports.has_output (t.outs k)) (x.taken ++ (i, last_on i k.seen) ∷ [])) then_is c in
          let e = subst (λ z. Reaches s g unlimited W done (took i k) (Doing [] (Asks (Read i))) z (x.taken ++ (i, last_on i k.seen) ∷ [])) (sym (filter-append (λ (p : Pair). flag_at s.ports.has_output p.0) pairs (t.outs k))) d in
          subst (λ (z : Plan). Reaches s g unlimited W done (took i k) (begins_plan s.ports.has_output [] z) (connected s.ports.has_output (pairs ++ t.outs k)) (x.taken ++ (i, last_on i k.seen) ∷ [])) (sym (plan_at (took i k) (Some i) then_is)) e;
      lists = λ j. by_test j (i == j) refl;
    }
      where
        by_test : (j : ℕ) (b : Bool) → (i == j) ≡ b → (past : Records) × (g.inputs j ≡ past ++ cond b rest (left j)) × (length past ≡ length (records_from j (x.taken ++ (i, last_on i k.seen) ∷ [])))
        by_test j true is =
            let l = x.lists i in
            let it : i ≡ j = eqb-true i j is in (
              l.0 ++ rec ∷ [],
              ap g.inputs (sym it) ∙ l.1 ∙ ap (λ z. l.0 ++ z) list ∙ sym (append_assoc l.0 (rec ∷ []) rest),
              length_more l.0 rec ∙ ap suc l.2 ∙ sym (length_more (records_from i x.taken) (last_on i k.seen))
                  ∙ ap length (ap (λ z. records_from i x.taken ++ records_of (cond z ((i, last_on i k.seen) ∷ []) [])) (sym (test_same i)) ∙ sym (on_both i x.taken ((i, last_on i k.seen) ∷ [])) ∙ ap (λ z. records_from z (x.taken ++ (i, last_on i k.seen) ∷ [])) it),
            )
        by_test j false is =
            let l = x.lists j in (
              l.0,
              l.1,
              l.2 ∙ ap length (sym (on_both j x.taken ((i, last_on i k.seen) ∷ []) ∙ ap (λ z. records_from j x.taken ++ records_of (cond z ((i, last_on i k.seen) ∷ []) [])) is ∙ append-nil (records_from j x.taken))),
            )

  -- all inputs have ended or have a record in sight
  pub record Full (pairs : List Pair) (left : ℕ → Records) : Type 0 where
    pub known : Known
    pub place : At known pairs left
    pub shows : (j : ℕ) → j < n → Shows known left j
    pub beyond : (j : ℕ) → n ≤ j → IsOpen known j

  -- it looks at each input of which it knows nothing, ascending
  pub fill_from : (pairs : List Pair) (left : ℕ → Records) (m a : ℕ) → a + m ≡ n → (k : Known) → At k pairs left → ((j : ℕ) → j < a → Shows k left j) → ((j : ℕ) → a ≤ j → j < n → Shows k left j ⊎ IsOpen k j) → ((j : ℕ) → n ≤ j → IsOpen k j) → Full pairs left
  fill_from pairs left zero a sum k x below above beyond = record { known = k; place = x; shows = λ j lt. below j (omega arith); beyond = beyond }
  fill_from pairs left (suc m) a sum k x below above beyond = by_status (above a (omega arith) (omega arith)) (λ k' y b c d. fill_from pairs left m (suc a) (omega (arith, sum)) k' y b c d)
    where
      Rest : Type 0
      Rest = (k' : Known) → At k' pairs left → ((j : ℕ) → j < suc a → Shows k' left j) → ((j : ℕ) → suc a ≤ j → j < n → Shows k' left j ⊎ IsOpen k' j) → ((j : ℕ) → n ≤ j → IsOpen k' j) → Full pairs left

      apart_below : (j : ℕ) → j < a → (a == j) ≡ false
      apart_below j lt = grind (arith, nat_tests)

      apart_above : (j : ℕ) → suc a ≤ j → (a == j) ≡ false
      apart_above j le = grind (arith, nat_tests)

      places : (j : ℕ) → j < suc a → (j < a) ⊎ (a ≡ j)
      places j lt = grind (arith, nat_tests)

      next_is : IsOpen k a → find (lacks k.sight k.ends) (all_inputs n) ≡ Some a
      next_is open_is = finds_it (lacks k.sight k.ends) a n 0 (omega arith) (omega (arith, sum)) (λ j lt. lacks_not k left j (below j lt)) (lacks_it k a open_is)

      -- with one input more
      with_it : (k' : Known) → At k' pairs left → Shows k' left a → ((j : ℕ) → (a == j) ≡ false → records_from j k'.sight ≡ records_from j k.sight) → ((j : ℕ) → (a == j) ≡ false → has k'.ends j ≡ has k.ends j) → Rest → Full pairs left
      with_it k' y own sight ended rest =
          rest k' y
          (λ j lt. elim (places j lt) [
            | inl less ↦ shows_still k k' left j (sight j (apart_below j less)) (ended j (apart_below j less)) (below j less)
            | inr is ↦ subst (λ z. Shows k' left z) is own
          ])
          (λ j le lt. elim (above j (omega arith) lt) [
            | inl z ↦ inl (shows_still k k' left j (sight j (apart_above j le)) (ended j (apart_above j le)) z)
            | inr z ↦ inr (open_still k k' j (sight j (apart_above j le)) (ended j (apart_above j le)) z)
          ])
          (λ j le. let more : suc a ≤ j = omega (arith, sum) in open_still k k' j (sight j (apart_above j more)) (ended j (apart_above j more)) (beyond j le))

      by_list : IsOpen k a → (l : Records) → left a ≡ l → Rest → Full pairs left
      by_list open_is [] list rest =
          with_it (hears k (SawEnd a)) (round_end k pairs left a (next_is open_is) list x) (inl (end_own k left a open_is list)) (λ j apart. refl) (λ j apart. ap (λ b. b || has k.ends j) apart) rest
      by_list open_is (rec ∷ more) list rest =
          with_it (hears k (Saw a rec)) (round_saw k pairs left a rec more (next_is open_is) list x) (inr (saw_own k left a open_is rec more list)) (λ j apart. now_others a j k.sight rec apart) (λ j apart. refl) rest

      by_status : Shows k left a ⊎ IsOpen k a → Rest → Full pairs left
      by_status (inl own) rest =
          rest k x
          (λ j lt. elim (places j lt) [
            | inl less ↦ below j less
            | inr is ↦ subst (λ z. Shows k left z) is own
          ]) (λ j le lt. above j (omega arith) lt) beyond
      by_status (inr open_is) rest = by_list open_is (left a) refl rest

  -- at its start
  pub rounds_full : (form s).row.early ≡ None → Full [] g.inputs
  rounds_full early =
      fill_from [] g.inputs n 0 (omega arith) nothing_known (rounds_begin early) (λ j lt. absurd (omega arith)) (λ j le lt. inr (record { none = refl; going = refl })) (λ j le. record { none = refl; going = refl })

  -- a round that takes the record of one input
  module _ (k : Known) (left : ℕ → Records) (shows : (j : ℕ) → j < n → Shows k left j) (i : ℕ) (few : i < n) (own : IsSeen k left i) where
    none_lacks : find (lacks k.sight k.ends) (all_inputs n) ≡ None
    none_lacks = finds_none (lacks k.sight k.ends) n n 0 (omega arith) (λ j lt. lacks_not k left j (shows j lt))

    -- then nothing is known of it
    pub now_open : IsOpen (took i k) i
    now_open = record { none = without_own i k.sight ∙ ap rest_of own.seen; going = own.going }

    -- and the same as before of the others
    pub others_still : (j : ℕ) → (i == j) ≡ false → Shows k left j → Shows (took i k) (with_list i own.rest left) j
    others_still j apart (inl x) = inl (record { none = without_others i j k.sight apart ∙ x.none; ended = x.ended; all = ap (λ b. cond b own.rest (left j)) apart ∙ x.all })
    others_still j apart (inr x) = inr (record { rec = x.rec; rest = x.rest; seen = without_others i j k.sight apart ∙ x.seen; going = x.going; list = ap (λ b. cond b own.rest (left j)) apart ∙ x.list })

    -- so it is to read the input again
    pub reads_again : find (lacks (without i k.sight) k.ends) (all_inputs n) ≡ Some i
    reads_again =
        finds_it (lacks (without i k.sight) k.ends) i n 0 (omega arith) (omega arith)
        (λ j less. lacks_not (took i k) (with_list i own.rest left) j (others_still j (apart_less j less) (shows j (omega arith)))) (lacks_it (took i k) i now_open)
      where
        apart_less : (j : ℕ) → j < i → (i == j) ≡ false
        apart_less j less = grind (arith, nat_tests)

    pub acts : (pairs : List Pair) → At k pairs left → filter (λ j. sees j k.sight && t.takes k j) (all_inputs n) ≡ i ∷ [] → At (took i k) (pairs ++ t.outs k) (with_list i own.rest left)
    acts pairs x takes = by_sight k.sight refl
      where
        by_sight : (sight : List Pair) → k.sight ≡ sight → At (took i k) (pairs ++ t.outs k) (with_list i own.rest left)
        by_sight [] empty = (let z : [] ≡ own.rec ∷ [] = ap (records_from i) (sym empty) ∙ own.seen in cc)
        by_sight (p ∷ ps) some = round_acts k pairs left p ps i own.rec own.rest none_lacks some takes reads_again own.list x

  pub next_full : (pairs : List Pair) (left : ℕ → Records) (f : Full pairs left) (i : ℕ) → i < n → (own : IsSeen f.known left i) → filter (λ j. sees j f.known.sight && t.takes f.known j) (all_inputs n) ≡ i ∷ [] → Full (pairs ++ t.outs f.known) (with_list i own.rest left)
  next_full pairs left f i few own takes =
      fill_from (pairs ++ t.outs f.known) (with_list i own.rest left) n 0 (omega arith) (took i f.known)
      (acts f.known left f.shows i few own pairs f.place takes) (λ j less. absurd (omega arith))
      (λ j le less. elim (cases j) [
        | inl is ↦ inr (subst (λ z. IsOpen (took i f.known) z) (eqb-true i j is) (now_open f.known left f.shows i few own))
        | inr apart ↦ inl (others_still f.known left f.shows i few own j apart (f.shows j less))
      ])
      (λ j le. open_still f.known (took i f.known) j (without_others i j f.known.sight (apart_beyond j le)) refl (f.beyond j le))
    where
      cases : (j : ℕ) → ((i == j) ≡ true) ⊎ ((i == j) ≡ false)
      cases j = elim (i == j) as (λ b. (b ≡ true) ⊎ (b ≡ false)) [ true ↦ inl refl | false ↦ inr refl ]

      apart_beyond : (j : ℕ) → n ≤ j → (i == j) ≡ false
      apart_beyond j le = grind (arith, nat_tests)

  -- nothing is in sight, so all lists are read and taken
  pub full_over : (pairs : List Pair) (left : ℕ → Records) (f : Full pairs left) → f.known.sight ≡ [] → IsDone s g unlimited W done (connected s.ports.has_output pairs) f.place.taken (pos 0)
  full_over pairs left f empty = rounds_over f.known pairs left (finds_none (lacks f.known.sight f.known.ends) n n 0 (omega arith) (λ j lt. lacks_not f.known left j (f.shows j lt))) empty f.place
