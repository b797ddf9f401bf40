-- The plans of LOOKUP's row, as its value makes them.
use Rattle.std.proofs.Common.{◌≡◌, ◌⊎◌, inl, inr, ◌<◌, ℕ, true, ◌==◌, if◌then◌else◌, List, [], ◌∷◌, ◌++◌, length, refl, sym, ◌∙◌, ap, subst, arith, Some, None, Option, pos}
use Rattle.std.specs.Prelude.{find}
use Rattle.std.proofs.lemmas.Bool.{eqb-true}
use Rattle.std.proofs.lemmas.List.{append-nil, length_push}
use Rattle.pipe_model.specs.declared.range.Range.{Range}
use Rattle.pipe_model.specs.Event.{Want, answers}
use Rattle.pipe_model.specs.Event.Event.{Saw, SawEnd}
use Rattle.pipe_model.specs.Event.Want.{Read, Done}
use Rattle.pipe_model.specs.Row.{Pair, Goal, Plan, Known}
use Rattle.pipe_model.specs.Row.Act.{Takes}
use Rattle.pipe_model.specs.Row.Goal.{Asks, Ends}
use Rattle.pipe_model.specs.Shape.{asks, writes, can_read, read_next}
use Rattle.pipe_model.specs.Counts.{all_on}
use Rattle.pipe_model.specs.Inputs.{records_from}
use Rattle.pipe_model.specs.Next.{hears}
use Rattle.pipe_model.specs.Ranges.{part_of}
use Rattle.pipe_model.specs.JoiningRows.{agree, first_of_key, looked_up, looking_up, unmatched}
use Rattle.stage_steps.specs.Plans.{Plans, last_from}
use Rattle.stream_laws.proofs.Streams.{on_both, last_is}
use Rattle.stream_laws.proofs.FanIns.{hand_causes}
use Rattle.lookup_stage.specs.declared.lookup.Due.TheVariants.{Take}
use Rattle.lookup_stage.specs.declared.lookup.Lookup.{Lookup}
use Rattle.lookup_stage.specs.declared.lookup.Reading.TheVariants as At
use Rattle.lookup_stage.specs.Entry.{Entry}
use Rattle.lookup_stage.specs.Lookup.{lookup_plan, acts_due, due_for, entries_by, goal_at, IsKeeping, IsOfDetail, IsReading, LookupIs}
use Rattle.lookup_stage.specs.Masters.{kept, record_of, matched, not_matched}
use Rattle.lookup_stage.proofs.Firsts.{masters_more, record_is_found, details_more, not_matched_are}

-- what is asked for
abbrev want_of : Goal → Want
want_of (Asks want) = want
want_of (Ends code) = Done code

-- nothing is the front of nothing
front_none : {A : Type 0} (xs ys : List A) → [] ≡ xs ++ ys → xs ≡ []
front_none [] ys is = refl
front_none (x ∷ xs) ys is = cc

module _ (of_detail of_master : Range) where
  -- what a record causes
  abbrev causes : List Pair → ℕ → List ℕ → List Pair
  causes seen i rec = if i == 1 then [] else looked_up rec (find (λ master. agree of_master of_detail master rec) (records_from 1 seen))

  -- the plan at the sight of a record
  plan_at : (k : Known) (ends : List ℕ) (i j : ℕ) (rec : List ℕ) → k.ends ≡ ends → find (can_read 2 ends) (1 ∷ 0 ∷ []) ≡ Some j →
      lookup_plan of_detail of_master (hears k (Saw i rec)) ≡ record { acts = writes (causes (k.seen ++ (i, rec) ∷ []) i rec) ++ Takes i ∷ []; goal = Asks (Read j) }
  plan_at k ends i j rec ends_are next =
      let seen = k.seen ++ (i, rec) ∷ [] in
      let t = looking_up of_detail of_master in
      ap (λ m. read_next (writes (t.outs seen) ++ Takes i ∷ []) (t.last seen) m) (ap (λ e. find (can_read 2 e) (1 ∷ 0 ∷ [])) ends_are ∙ next)
      ∙ ap (λ ps. record { acts = writes ps ++ Takes i ∷ []; goal = Asks (Read j) }) (hand_causes (causes seen) k.seen i rec)

  -- and at the end of the details
  plan_over : (k : Known) → k.ends ≡ 1 ∷ [] →
      lookup_plan of_detail of_master (hears k (SawEnd 0)) ≡ record { acts = writes (all_on 2 (unmatched of_master of_detail (first_of_key of_master (records_from 1 k.seen)) (records_from 0 k.seen))); goal = Ends (pos 0) }
  plan_over k ends_are = ap (λ e. read_next [] ((looking_up of_detail of_master).last k.seen) (find (can_read 2 (0 ∷ e)) (1 ∷ 0 ∷ []))) ends_are

due_acts : (found : Option (List ℕ)) (detail : List ℕ) → writes (looked_up detail found) ++ Takes 0 ∷ [] ≡ acts_due (due_for found) detail
due_acts None detail = refl
due_acts (Some master) detail = refl

due_came : (found : Option (List ℕ)) (seen : List Pair) → 0 < length (records_from 0 seen) → IsOfDetail (due_for found) seen
due_came None seen came = came
due_came (Some master) seen came = came

module _ (x : Lookup) where
  -- a master
  module _ (masters : List Entry) (rec : List ℕ) (reading : x.reading ≡ At.Masters) (kept_is : masters ≡ kept (part_of x.of_master rec) rec x.masters) where
    abbrev with_master : Lookup
    with_master = record x { masters = masters; due = Take 1 }

    master_seen : (plan : Known → Plan) (k : Known) (left : Plan) → LookupIs x plan k left → LookupIs with_master plan (hears k (Saw 1 rec)) (plan (hears k (Saw 1 rec)))
    master_seen plan k left stands =
        let was : IsKeeping [] x k × (records_from 0 k.seen ≡ []) = subst (λ r. IsReading r x k) reading stands.reading_is in
        let k' : Known = hears k (Saw 1 rec) in
        let own : records_from 1 k'.seen ≡ records_from 1 k.seen ++ rec ∷ [] = on_both 1 k.seen ((1, rec) ∷ []) in
        let others : records_from 0 k'.seen ≡ [] = on_both 0 k.seen ((1, rec) ∷ []) ∙ append-nil (records_from 0 k.seen) ∙ was.1 in
        subst (λ p. LookupIs with_master plan k' p) (sym (ap (λ (p : Known → Plan). p k') stands.plan_is ∙ plan_at x.of_detail x.of_master k [] 1 1 rec was.0.ends_are refl)) (record {
          plan_is = stands.plan_is;
          goal_is = sym (ap goal_at reading);
          acts_are = ap (λ us. Takes 1 ∷ writes (all_on 2 us)) (sym was.0.none_left);
          came = tt;
          reading_is = subst (λ r. IsReading r with_master k') (sym reading) (
            record {
              ends_are = was.0.ends_are;
              masters_are = kept_is
                  ∙ ap (kept (part_of x.of_master rec) rec) (was.0.masters_are ∙ ap (entries_by x.of_master x.of_detail (records_from 1 k.seen)) was.1)
                  ∙ sym (masters_more x.of_master x.of_detail (records_from 1 k.seen) rec)
                  ∙ ap (λ ms. entries_by x.of_master x.of_detail ms []) (sym own)
                  ∙ ap (entries_by x.of_master x.of_detail (records_from 1 k'.seen)) (sym others);
              none_left = was.0.none_left;
            },
            others,
          );
        })

    pub sees_master : (input : ℕ) → Plans LookupIs x with_master (Saw input rec)
    sees_master input = λ plan k want stands answer few.
        let want_is : want ≡ Read 1 = ap want_of (stands.goal_is ∙ ap goal_at reading) in
        let input_is : input ≡ 1 = eqb-true input 1 (subst (λ w. answers (Some w) (Saw input rec) ≡ true) want_is answer) in
        subst (λ i. LookupIs with_master plan (hears k (Saw i rec)) (plan (hears k (Saw i rec)))) (sym input_is) (master_seen plan k (asks want) stands)

  -- it isn't asked for where it is over
  reads_details : (want : Want) → (x.reading ≡ At.Details) ⊎ (x.reading ≡ At.Over) → Asks want ≡ goal_at x.reading → x.reading ≡ At.Details
  reads_details want (inl reading) is = reading
  reads_details want (inr reading) is = (let z : Asks want ≡ Ends (pos 0) = is ∙ ap goal_at reading in cc)

  -- a detail
  module _ (masters : List Entry) (found : Option (List ℕ)) (rec : List ℕ) (found_is : found ≡ record_of (part_of x.of_detail rec) x.masters) (matched_is : masters ≡ matched (part_of x.of_detail rec) x.masters) where
    abbrev with_detail : Lookup
    with_detail = record x { masters = masters; due = due_for found }

    detail_seen : x.reading ≡ At.Details → (plan : Known → Plan) (k : Known) (left : Plan) → LookupIs x plan k left → LookupIs with_detail plan (hears k (Saw 0 rec)) (plan (hears k (Saw 0 rec)))
    detail_seen reading plan k left stands =
        let was : IsKeeping (1 ∷ []) x k = subst (λ r. IsReading r x k) reading stands.reading_is in
        let k' : Known = hears k (Saw 0 rec) in
        let own : records_from 0 k'.seen ≡ records_from 0 k.seen ++ rec ∷ [] = on_both 0 k.seen ((0, rec) ∷ []) in
        let others : records_from 1 k'.seen ≡ records_from 1 k.seen = on_both 1 k.seen ((0, rec) ∷ []) ∙ append-nil (records_from 1 k.seen) in
        let it : find (λ master. agree x.of_master x.of_detail master rec) (records_from 1 k'.seen) ≡ found =
        ap (find (λ master. agree x.of_master x.of_detail master rec)) others
        ∙ sym (found_is ∙ ap (record_of (part_of x.of_detail rec)) was.masters_are ∙ record_is_found x.of_master x.of_detail rec (records_from 1 k.seen) (records_from 0 k.seen)) in
        subst (λ p. LookupIs with_detail plan k' p)
        (sym (ap (λ (p : Known → Plan). p k') stands.plan_is ∙ plan_at x.of_detail x.of_master k (1 ∷ []) 0 0 rec was.ends_are refl ∙ ap (λ f. record { acts = writes (looked_up rec f) ++ Takes 0 ∷ []; goal = Asks (Read 0) }) it)) (record {
          plan_is = stands.plan_is;
          goal_is = sym (ap goal_at reading);
          acts_are = due_acts found rec ∙ ap (acts_due (due_for found)) (sym (last_is 0 k.seen rec)) ∙ sym (append-nil (acts_due (due_for found) (last_from k'.seen 0)))
              ∙ ap (λ us. acts_due (due_for found) (last_from k'.seen 0) ++ writes (all_on 2 us)) (sym was.none_left);
          came = due_came found k'.seen (subst (λ recs. 0 < length recs) (sym own) (omega (arith, length_push (records_from 0 k.seen) rec)));
          reading_is = subst (λ r. IsReading r with_detail k') (sym reading) (record {
            ends_are = was.ends_are;
            masters_are = matched_is
                ∙ ap (matched (part_of x.of_detail rec)) was.masters_are
                ∙ sym (details_more x.of_master x.of_detail (records_from 1 k.seen) (records_from 0 k.seen) rec)
                ∙ ap (λ ms. entries_by x.of_master x.of_detail ms (records_from 0 k.seen ++ rec ∷ [])) (sym others)
                ∙ ap (entries_by x.of_master x.of_detail (records_from 1 k'.seen)) (sym own);
            none_left = was.none_left;
          });
        })

    pub sees_detail : (x.reading ≡ At.Details) ⊎ (x.reading ≡ At.Over) → (input : ℕ) → Plans LookupIs x with_detail (Saw input rec)
    sees_detail reads input = λ plan k want stands answer few.
        let reading = reads_details want reads stands.goal_is in
        let want_is : want ≡ Read 0 = ap want_of (stands.goal_is ∙ ap goal_at reading) in
        let input_is : input ≡ 0 = eqb-true input 0 (subst (λ w. answers (Some w) (Saw input rec) ≡ true) want_is answer) in
        subst (λ i. LookupIs with_detail plan (hears k (Saw i rec)) (plan (hears k (Saw i rec)))) (sym input_is) (detail_seen reading plan k (asks want) stands)

  -- the end of the details
  module _ (masters : List Entry) (unmatched' : List (List ℕ)) (left_is : unmatched' ≡ not_matched x.masters) where
    abbrev at_end : Lookup
    at_end = record x { masters = masters; unmatched = unmatched'; reading = At.Over }

    end_seen : x.reading ≡ At.Details → (plan : Known → Plan) (k : Known) (want : Want) → LookupIs x plan k (asks want) → LookupIs at_end plan (hears k (SawEnd 0)) (plan (hears k (SawEnd 0)))
    end_seen reading plan k want stands =
        let was : IsKeeping (1 ∷ []) x k = subst (λ r. IsReading r x k) reading stands.reading_is in
        let k' : Known = hears k (SawEnd 0) in
        let left : unmatched' ≡ unmatched x.of_master x.of_detail (first_of_key x.of_master (records_from 1 k.seen)) (records_from 0 k.seen) =
        left_is ∙ ap not_matched was.masters_are ∙ not_matched_are x.of_master x.of_detail (records_from 0 k.seen) (first_of_key x.of_master (records_from 1 k.seen)) in
        subst (λ p. LookupIs at_end plan k' p) (sym (ap (λ (p : Known → Plan). p k') stands.plan_is ∙ plan_over x.of_detail x.of_master k was.ends_are)) (record {
          plan_is = stands.plan_is;
          goal_is = refl;
          acts_are = ap (λ us. writes (all_on 2 us)) (sym left) ∙ ap (λ acts. acts ++ writes (all_on 2 unmatched')) (sym (front_none (acts_due x.due (last_from k.seen 0)) (writes (all_on 2 x.unmatched)) stands.acts_are));
          came = stands.came;
          reading_is = tt;
        })

    pub sees_end : (x.reading ≡ At.Details) ⊎ (x.reading ≡ At.Over) → (input : ℕ) → Plans LookupIs x at_end (SawEnd input)
    sees_end reads input = λ plan k want stands answer few.
        let reading = reads_details want reads stands.goal_is in
        let want_is : want ≡ Read 0 = ap want_of (stands.goal_is ∙ ap goal_at reading) in
        let input_is : input ≡ 0 = eqb-true input 0 (subst (λ w. answers (Some w) (SawEnd input) ≡ true) want_is answer) in
        subst (λ i. LookupIs at_end plan (hears k (SawEnd i)) (plan (hears k (SawEnd i)))) (sym input_is) (end_seen reading plan k want stands)
