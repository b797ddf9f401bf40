-- What a strand does by itself that reads one list.
use Rattle.std.proofs.Common.{◌≡◌, Bool, true, false, cond, ◌||◌, List, [], ◌∷◌, ◌++◌, length, refl, sym, ◌∙◌, ap, subst, Some, None, slice_get, ℤ, append_assoc}
use Rattle.std.specs.Prelude.{filter}
use Rattle.std.proofs.lemmas.List.Elements.{filter-append}
use Rattle.std.proofs.lemmas.List.{append-nil}
use Rattle.pipe_model.specs.declared.net.Strand.{Strand}
use Rattle.pipe_model.specs.Event.{Event}
use Rattle.pipe_model.specs.Event.Event.{Saw, SawEnd}
use Rattle.pipe_model.specs.Event.Want.{Read}
use Rattle.pipe_model.specs.Row.{Pair, Goal, Plan, Known}
use Rattle.pipe_model.specs.Row.Act.{Takes}
use Rattle.pipe_model.specs.Row.Goal.{Asks, Ends}
use Rattle.pipe_model.specs.Shape.{Records, Outs, Order, Stream, writes, records_of, acts_of, in_order, next_record, at_sight, ends, last_pairs, list_plan}
use Rattle.pipe_model.specs.Shape.Outs.{Pairs, Endless}
use Rattle.pipe_model.specs.Shape.Order.{WritesFirst, TakesFirst}
use Rattle.pipe_model.specs.Form.{are_finite}
use Rattle.pipe_model.specs.Table.{form}
use Rattle.pipe_model.specs.Members.{flag_at}
use Rattle.pipe_model.specs.Next.{is_live, begins_plan, hears, nothing_known}
use Rattle.pipe_model.specs.Next.Phase.{Doing}
use Rattle.pipe_model.specs.Alone.{Given, IsAllAlone}
use Rattle.pipe_model.specs.Inputs.{records_from}
use Rattle.pipe_model.specs.Counts.{all_on}
use Rattle.pipe_model.specs.Listed.{pairs_at, pairs_after, pairs_of, taken_after, taken_of, code_after, ending_of, IsUnlimited}
use Rattle.pipe_model.proofs.Lists.{get_seam}
use Rattle.confluence_laws.proofs.Within.{past_end}
use Rattle.stream_laws.specs.InOrder.{connected}
use Rattle.stream_laws.proofs.Streams.{on_both, records_all, output_both, last_on, last_is}
use Rattle.stream_laws.proofs.Places.{took, Reaches, take_one, write_all, write_rest, read_one, read_end, begins, IsDone, Did, finish}

-- it sees a record, or the end of an input
abbrev pub IsSight : Event → Type 0
IsSight (Saw i rec) = Unit {0}
IsSight (SawEnd i) = Unit {0}
IsSight _ = ⊥

-- the acts of a record that causes a finite list of pairs
acts_are : (o : Outs) (recs : Records) → are_finite o ≡ true → acts_of o recs ≡ writes (pairs_at o recs)
acts_are (Pairs outs) recs finite = refl
acts_are (Endless pair) recs finite = cc

module _ (s : Strand) (g : Given) (unlimited : IsUnlimited g) (W : List Event) (done : IsAllAlone s g W)
    (order : Order) (t : Stream) (finite : are_finite t.outs ≡ true)
    (plan_is : (k : Known) (e : Event) → IsSight e → (form s).row.plan (hears k e) ≡ list_plan order t (hears k e) (hears k e).told)
  where
    -- from a place on it puts and takes these, and ends with this code
    abbrev Gives : List Pair → List Pair → List Pair → Records → ℤ → Type 0
    Gives put taken pairs records code = (all : List Pair) × IsDone s g unlimited W done (put ++ connected s.ports.has_output pairs) all code × (records_from 0 all ≡ records_from 0 taken ++ records)

    -- it does nothing more
    gives_no_more : (k : Known) (code : ℤ) (put taken : List Pair) → Reaches s g unlimited W done k (Doing [] (Ends code)) put taken → Gives put taken [] [] code
    gives_no_more k code put taken r =
        let f = finish s g unlimited W done k code put taken r in
        (taken, subst (λ z. IsDone s g unlimited W done z taken code) (sym (append-nil put)) f, sym (append-nil (records_from 0 taken)))

    -- more before
    gives_before : (put taken : List Pair) (ps qs more : List Pair) (recs : Records) (code : ℤ) → records_from 0 more ≡ records_from 0 taken ++ recs →
        (rest : Records) → Gives (put ++ connected s.ports.has_output ps) more qs rest code → Gives put taken (ps ++ qs) (recs ++ rest) code
    gives_before put taken ps qs more recs code e rest (all, is, on_it) = (
      all,
      subst (λ z. IsDone s g unlimited W done z all code) (append_assoc put (connected s.ports.has_output ps) (connected s.ports.has_output qs) ∙ ap (λ z. put ++ z) (sym (filter-append (λ (p : Pair). flag_at s.ports.has_output p.0) ps qs))) is,
      on_it ∙ ap (λ z. z ++ rest) e ∙ append_assoc (records_from 0 taken) recs rest,
    )

    -- it writes the pairs of a record and takes it
    acts_done : (order' : Order) (k : Known) (ps : List Pair) (goal : Goal) (put taken : List Pair) → Reaches s g unlimited W done k (Doing (filter (is_live s.ports.has_output []) (in_order order' (writes ps) (Takes 0))) goal) put taken →
        Reaches s g unlimited W done (took 0 k) (Doing [] goal) (put ++ connected s.ports.has_output ps) (taken ++ (0, last_on 0 k.seen) ∷ [])
    acts_done WritesFirst k ps goal put taken r = take_one s g unlimited W done k 0 [] goal (put ++ connected s.ports.has_output ps) taken (write_all s g unlimited W done k ps (Takes 0 ∷ []) goal put taken r)
    acts_done TakesFirst k ps goal put taken r = write_rest s g unlimited W done (took 0 k) ps goal put (taken ++ (0, last_on 0 k.seen) ∷ []) (take_one s g unlimited W done k 0 (filter (is_live s.ports.has_output []) (writes ps)) goal put taken r)

    -- from a look at its input on
    pub reads : (recs rest : Records) (k : Known) (put taken : List Pair) → k.seen ≡ all_on 0 recs → g.inputs 0 ≡ records_from 0 taken ++ rest → Reaches s g unlimited W done k (Doing [] (Asks (Read 0))) put taken →
        Gives put taken (pairs_after t recs rest) (taken_after t recs rest) (code_after t recs rest)
    reads recs [] k put taken seen list r =
        let hand : slice_get (g.inputs 0) (length (records_from 0 taken)) ≡ None = ap (λ z. slice_get z (length (records_from 0 taken))) (list ∙ append-nil (records_from 0 taken)) ∙ past_end (records_from 0 taken) in
        let k' : Known = hears k (SawEnd 0) in
        let a = subst (λ (z : Plan). Reaches s g unlimited W done k' (begins_plan s.ports.has_output [] z) put taken) (plan_is k (SawEnd 0) tt) (read_end s g unlimited W done k 0 put taken r hand) in
        let b = subst (λ z. Reaches s g unlimited W done k' (Doing (filter (is_live s.ports.has_output []) (writes (last_pairs t.last z))) (Ends (t.code z))) put taken) (ap records_of seen ∙ records_all 0 recs) a in
        let d = finish s g unlimited W done k' (t.code recs) (put ++ connected s.ports.has_output (last_pairs t.last recs)) taken (write_rest s g unlimited W done k' (last_pairs t.last recs) (Ends (t.code recs)) put taken b) in
        (taken, d, sym (append-nil (records_from 0 taken)))
    reads recs (rec ∷ rest) k put taken seen list r =
        let hand : slice_get (g.inputs 0) (length (records_from 0 taken)) ≡ Some rec = ap (λ z. slice_get z (length (records_from 0 taken))) list ∙ get_seam (records_from 0 taken) rec rest in
        let a = subst (λ (z : Plan). Reaches s g unlimited W done seen_it (begins_plan s.ports.has_output [] z) put taken) (plan_is k (Saw 0 rec) tt) (read_one s g unlimited W done k 0 rec put taken r hand) in
        let b = subst (λ z. Reaches s g unlimited W done seen_it (begins_plan s.ports.has_output [] (at_sight order t z 0)) put taken) (ap records_of now_seen ∙ records_all 0 now) a in
        by_halts (t.halts now) b (λ k' put' taken' e l x. reads now rest k' put' taken' e l x)
      where
        now : Records
        now = recs ++ rec ∷ []

        seen_it : Known
        seen_it = hears k (Saw 0 rec)

        now_seen : seen_it.seen ≡ all_on 0 now
        now_seen = ap (λ z. z ++ (0, rec) ∷ []) seen ∙ sym (output_both 0 recs (rec ∷ []))

        Rest : Type 0
        Rest = (k' : Known) (put' taken' : List Pair) → k'.seen ≡ all_on 0 now → g.inputs 0 ≡ records_from 0 taken' ++ rest → Reaches s g unlimited W done k' (Doing [] (Asks (Read 0))) put' taken' →
            Gives put' taken' (pairs_after t now rest) (taken_after t now rest) (code_after t now rest)

        by_stops : (b : Bool) (k' : Known) (put' taken' : List Pair) → k'.seen ≡ all_on 0 now → g.inputs 0 ≡ records_from 0 taken' ++ rest → Reaches s g unlimited W done k' (Doing [] (cond b (Ends (t.code now)) (Asks (Read 0)))) put' taken' → Rest →
            Gives put' taken' (cond b [] (pairs_after t now rest)) (cond b [] (taken_after t now rest)) (cond b (t.code now) (code_after t now rest))
        by_stops true k' put' taken' e l x go = gives_no_more k' (t.code now) put' taken' x
        by_stops false k' put' taken' e l x go = go k' put' taken' e l x

        by_halts : (b : Bool) → Reaches s g unlimited W done seen_it (begins_plan s.ports.has_output [] (cond b (ends (t.code now)) (record { acts = in_order order (acts_of t.outs now) (Takes 0); goal = next_record t now }))) put taken → Rest →
            Gives put taken (cond b [] (pairs_at t.outs now ++ cond (t.stops now) [] (pairs_after t now rest))) (cond b [] (rec ∷ cond (t.stops now) [] (taken_after t now rest))) (cond (b || t.stops now) (t.code now) (code_after t now rest))
        by_halts true x go = gives_no_more seen_it (t.code now) put taken x
        by_halts false x go =
            let y = subst (λ z. Reaches s g unlimited W done seen_it (Doing (filter (is_live s.ports.has_output []) (in_order order z (Takes 0))) (next_record t now)) put taken) (acts_are t.outs now finite) x in
            let z = acts_done order seen_it (pairs_at t.outs now) (next_record t now) put taken y in
            let more : List Pair = taken ++ (0, last_on 0 seen_it.seen) ∷ [] in
            let it : records_from 0 more ≡ records_from 0 taken ++ rec ∷ [] = on_both 0 taken ((0, last_on 0 seen_it.seen) ∷ []) ∙ ap (λ z. records_from 0 taken ++ z ∷ []) (last_is 0 k.seen rec) in
            gives_before put taken (pairs_at t.outs now) (cond (t.stops now) [] (pairs_after t now rest)) more (rec ∷ []) (cond (t.stops now) (t.code now) (code_after t now rest)) it (cond (t.stops now) [] (taken_after t now rest))
            (by_stops (t.stops now) (took 0 seen_it) (put ++ connected s.ports.has_output (pairs_at t.outs now)) more now_seen (list ∙ sym (ap (λ z. z ++ rest) it ∙ append_assoc (records_from 0 taken) (rec ∷ []) rest)) z go)

    -- what a strand of one list does
    pub one_list : (form s).row.plan nothing_known ≡ list_plan order t nothing_known [] → (form s).row.early ≡ None → Did s W (pairs_of t (g.inputs 0)) (taken_of t (g.inputs 0)) (ending_of t (g.inputs 0))
    one_list start early =
        let a = subst (λ (z : Plan). Reaches s g unlimited W done nothing_known (begins_plan s.ports.has_output [] z) [] []) start (begins s g unlimited W done early) in
        let b = write_rest s g unlimited W done nothing_known t.before (next_record t []) [] [] a in
        let x = gives_before [] [] t.before (cond (t.stops []) [] (pairs_after t [] (g.inputs 0))) [] [] (ending_of t (g.inputs 0)) refl (taken_of t (g.inputs 0)) (by_stops (t.stops []) b) in
        record {
          puts = x.1.puts;
          taken = x.1.takes 0 ∙ x.2;
          ended = x.1.ended;
        }
      where
        by_stops : (b : Bool) → Reaches s g unlimited W done nothing_known (Doing [] (cond b (Ends (t.code [])) (Asks (Read 0)))) (connected s.ports.has_output t.before) [] →
            Gives (connected s.ports.has_output t.before) [] (cond b [] (pairs_after t [] (g.inputs 0))) (cond b [] (taken_after t [] (g.inputs 0))) (cond b (t.code []) (code_after t [] (g.inputs 0)))
        by_stops true x = gives_no_more nothing_known (t.code []) (connected s.ports.has_output t.before) [] x
        by_stops false x = reads [] (g.inputs 0) nothing_known (connected s.ports.has_output t.before) [] refl refl x
