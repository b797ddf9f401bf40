-- What COLLATE puts over sorted details.
use Rattle.std.proofs.Common.{◌≡◌, inl, inr, ℕ, zero, suc, ◌+◌, ◌<◌, Bool, true, false, cond, not, ◌==◌, List, [], ◌∷◌, ◌++◌, length, refl, sym, ◌∙◌, ap, subst, arith, None, append_assoc}
use Rattle.std.specs.List.{list_all}
use Rattle.std.proofs.lemmas.Bool.Decides.{nat_tests}
use Rattle.std.proofs.lemmas.List.{append-nil}
use Rattle.pipe_model.specs.declared.net.Strand.{Strand}
use Rattle.pipe_model.specs.declared.range.Range.{Range}
use Rattle.pipe_model.specs.Event.{Event}
use Rattle.pipe_model.specs.Row.{Pair, Known}
use Rattle.pipe_model.specs.Shape.{Records, round_plan}
use Rattle.pipe_model.specs.Ranges.{part_of}
use Rattle.pipe_model.specs.Keys.{is_less}
use Rattle.pipe_model.specs.Inputs.{records_from}
use Rattle.pipe_model.specs.Counts.{all_on}
use Rattle.pipe_model.specs.JoiningRows.{beside_master, turn_of, collating}
use Rattle.pipe_model.specs.JoiningRows.Turn.{Match, Master, Detail}
use Rattle.pipe_model.specs.Table.{form}
use Rattle.pipe_model.specs.Alone.{Given, IsAllAlone}
use Rattle.pipe_model.specs.Listed.{are_sorted, are_distinct, collate_pairs, IsUnlimited, Puts}
use Rattle.pipe_model.proofs.Truths.{both as and_both}
use Rattle.stream_laws.proofs.Sights.{sees_some}
use Rattle.stream_laws.specs.InOrder.{PutsInOrder, collated_in_order}
use Rattle.stream_laws.proofs.Streams.{on_each_output}
use Rattle.stream_laws.proofs.Rounded.{with_list, IsOver, IsSeen, Shows, Full, full_over}
use Rattle.stream_laws.proofs.CollateRounds.{none_in_sight, puts_alike, one_more_is, both, count_of, count_one, turn_is, takes_is, outs_are, Stand, after_detail, after_master, start}
use Rattle.stream_laws.proofs.Collated.{fits}
use Rattle.stream_laws.proofs.CollatedOrder.{greater, left_in_order, all_left, match_goes, master_goes_on, detail_goes_on, goes_before_all, is_lesser, all_parted}

module _ (s : Strand) (g : Given) (unlimited : IsUnlimited g) (W : List Event) (done : IsAllAlone s g W)
    (of_master of_detail : Range) (row_is : (form s).row.plan ≡ round_plan 2 (collating of_master of_detail)) where
  abbrev Standing : List Pair → (ℕ → Records) → ℕ → Known → Type 0
  Standing pairs left e k = Stand s g unlimited W done of_master of_detail row_is pairs left e k

  not_zero : (e : ℕ) → (e + 1 == 0) ≡ false
  not_zero e = grind (arith, nat_tests)

  abbrev Rest : ℕ → Type 0
  Rest fuel = (pairs : List Pair) (left : ℕ → Records) (e : ℕ) (k : Known) → Standing pairs left e k → are_sorted of_detail (left 1) ≡ true → length (left 0) + length (left 1) < fuel →
      PutsInOrder s W (pairs ++ left_in_order of_master of_detail (e == 0) (left 0) (left 1))

  -- what is put later, behind what a round puts
  put_behind : (pairs outs now later all : List Pair) → outs ≡ now → now ++ later ≡ all → PutsInOrder s W ((pairs ++ outs) ++ later) → PutsInOrder s W (pairs ++ all)
  put_behind pairs outs now later all is e x = subst (λ z. PutsInOrder s W z) (append_assoc pairs outs later ∙ ap (λ z. pairs ++ (z ++ later)) is ∙ ap (λ z. pairs ++ z) e) x

  -- the details behind the first
  later_details : (d : List ℕ) (ds : Records) → are_sorted of_detail (d ∷ ds) ≡ true → are_sorted of_detail ds ≡ true
  later_details d ds ordered = (and_both (list_all (λ later. not (is_less (part_of of_detail later) (part_of of_detail d))) ds) (are_sorted of_detail ds) ordered).1

  module _ (fuel : ℕ) (rest : Rest fuel) (pairs : List Pair) (left : ℕ → Records) (e : ℕ) (k : Known) (x : Standing pairs left e k) (ordered : are_sorted of_detail (left 1) ≡ true) (more : length (left 0) + length (left 1) < suc fuel) where
    -- a master goes
    master_goes : (a : IsSeen k left 0) (details : Records) → records_from 1 k.sight ≡ details → turn_of of_master of_detail (a.rec ∷ []) details ≡ Master → count_of of_master of_detail (a.rec ∷ []) details ≡ 0 →
        list_all (greater of_master of_detail a.rec) (left 1) ≡ true → PutsInOrder s W (pairs ++ left_in_order of_master of_detail (e == 0) (left 0) (left 1))
    master_goes a details seen turn no_match all =
        let t = turn_is of_master of_detail k (a.rec ∷ []) details a.seen seen ∙ turn in
        let n : count_of of_master of_detail (a.rec ∷ []) (beside_master k.told) ≡ e =
        (let c = x.count a.rec a.seen in let d : count_of of_master of_detail (a.rec ∷ []) (records_from 1 k.sight) ≡ 0 = ap (count_of of_master of_detail (a.rec ∷ [])) seen ∙ no_match in omega (arith, c, d)) in
        let o = outs_are of_master of_detail k Master (a.rec ∷ []) details e t a.seen seen n in
        let y = after_master s g unlimited W done of_master of_detail row_is pairs left e k x a (takes_is of_master of_detail k Master t (sees_some 0 k.sight a.rec [] a.seen)) in
        let l : length (left 0) ≡ suc (length a.rest) = ap length a.list in
        let z = rest (pairs ++ (collating of_master of_detail).outs k) (with_list 0 a.rest left) 0 y.0 y.1 ordered (omega (arith, l, more)) in
        put_behind pairs ((collating of_master of_detail).outs k) (all_on 1 (cond (e == 0) (a.rec ∷ []) [])) (left_in_order of_master of_detail true a.rest (left 1)) (left_in_order of_master of_detail (e == 0) (left 0) (left 1)) o
        (master_goes_on of_master of_detail (e == 0) a.rec a.rest (left 1) all ∙ ap (λ z. left_in_order of_master of_detail (e == 0) z (left 1)) (sym a.list)) z

    -- a detail goes
    detail_goes : (b : IsSeen k left 1) (masters : Records) → records_from 0 k.sight ≡ masters → turn_of of_master of_detail masters (b.rec ∷ []) ≡ Detail →
        ((m : List ℕ) → masters ≡ m ∷ [] → count_of of_master of_detail (m ∷ []) (b.rec ∷ []) ≡ 0) →
        all_on 2 (b.rec ∷ []) ++ left_in_order of_master of_detail (e == 0) (left 0) b.rest ≡ left_in_order of_master of_detail (e == 0) (left 0) (b.rec ∷ b.rest) →
        PutsInOrder s W (pairs ++ left_in_order of_master of_detail (e == 0) (left 0) (left 1))
    detail_goes b masters seen turn no_match goes =
        let t = turn_is of_master of_detail k masters (b.rec ∷ []) seen b.seen ∙ turn in
        let o = outs_are of_master of_detail k Detail masters (b.rec ∷ []) (count_of of_master of_detail masters (beside_master k.told)) t seen b.seen refl in
        let y = after_detail s g unlimited W done of_master of_detail row_is pairs left e k x b (takes_is of_master of_detail k Detail t (sees_some 1 k.sight b.rec [] b.seen)) e
        (λ m is. let c = x.count m is in let d : count_of of_master of_detail (m ∷ []) (records_from 1 k.sight) ≡ 0 = ap (count_of of_master of_detail (m ∷ [])) b.seen ∙ no_match m (sym seen ∙ is) in omega (arith, c, d)) in
        let l : length (left 1) ≡ suc (length b.rest) = ap length b.list in
        let z = rest (pairs ++ (collating of_master of_detail).outs k) (with_list 1 b.rest left) e y.0 y.1 (later_details b.rec b.rest (ap (are_sorted of_detail) (sym b.list) ∙ ordered)) (omega (arith, l, more)) in
        put_behind pairs ((collating of_master of_detail).outs k) (all_on 2 (b.rec ∷ [])) (left_in_order of_master of_detail (e == 0) (left 0) b.rest) (left_in_order of_master of_detail (e == 0) (left 0) (left 1)) o
        (goes ∙ ap (left_in_order of_master of_detail (e == 0) (left 0)) (sym b.list)) z

    -- they match
    they_match : (a : IsSeen k left 0) (b : IsSeen k left 1) → fits of_master of_detail a.rec b.rec ≡ true → PutsInOrder s W (pairs ++ left_in_order of_master of_detail (e == 0) (left 0) (left 1))
    they_match a b fit =
        let t = turn_is of_master of_detail k (a.rec ∷ []) (b.rec ∷ []) a.seen b.seen ∙ ap (λ z. cond z Match (cond (is_less (part_of of_master a.rec) (part_of of_detail b.rec)) Master Detail)) fit in
        let n : count_of of_master of_detail (a.rec ∷ []) (beside_master k.told) ≡ e + 1 = x.count a.rec a.seen ∙ ap (λ z. e + count_of of_master of_detail (a.rec ∷ []) z) b.seen ∙ ap (λ z. e + z) (count_one of_master of_detail a.rec b.rec true fit) in
        let o = outs_are of_master of_detail k Match (a.rec ∷ []) (b.rec ∷ []) (e + 1) t a.seen b.seen n ∙ ap (λ z. all_on 0 (cond z (a.rec ∷ b.rec ∷ []) (b.rec ∷ []))) (one_more_is (e + 1) e refl) in
        let y = after_detail s g unlimited W done of_master of_detail row_is pairs left e k x b (takes_is of_master of_detail k Match t (sees_some 1 k.sight b.rec [] b.seen)) (e + 1)
        (λ m is. let it : m ≡ a.rec = head_is m (sym is ∙ a.seen) in ap (λ z. count_of of_master of_detail (z ∷ []) (beside_master k.told)) it ∙ n) in
        let l : length (left 1) ≡ suc (length b.rest) = ap length b.list in
        let z = rest (pairs ++ (collating of_master of_detail).outs k) (with_list 1 b.rest left) (e + 1) y.0 y.1 (later_details b.rec b.rest (ap (are_sorted of_detail) (sym b.list) ∙ ordered)) (omega (arith, l, more)) in
        put_behind pairs ((collating of_master of_detail).outs k) (all_on 0 (cond (e == 0) (a.rec ∷ b.rec ∷ []) (b.rec ∷ []))) (left_in_order of_master of_detail (e + 1 == 0) (left 0) b.rest) (left_in_order of_master of_detail (e == 0) (left 0) (left 1)) o
        (ap (λ z. all_on 0 (cond (e == 0) (a.rec ∷ b.rec ∷ []) (b.rec ∷ [])) ++ left_in_order of_master of_detail z (left 0) b.rest) (not_zero e)
        ∙ ap (λ z. all_on 0 (cond (e == 0) (a.rec ∷ b.rec ∷ []) (b.rec ∷ [])) ++ left_in_order of_master of_detail false z b.rest) a.list
        ∙ match_goes of_master of_detail (e == 0) a.rec b.rec a.rest b.rest fit (ap (are_sorted of_detail) (sym b.list) ∙ ordered)
        ∙ ap (λ z. left_in_order of_master of_detail (e == 0) z (b.rec ∷ b.rest)) (sym a.list) ∙ ap (left_in_order of_master of_detail (e == 0) (left 0)) (sym b.list)
        ) z
      where
        head_is : (m : List ℕ) → ◌≡◌ {A = Records} (m ∷ []) (a.rec ∷ []) → m ≡ a.rec
        head_is m e = cc

    both_seen : (a : IsSeen k left 0) (b : IsSeen k left 1) → PutsInOrder s W (pairs ++ left_in_order of_master of_detail (e == 0) (left 0) (left 1))
    both_seen a b = by_fit (fits of_master of_detail a.rec b.rec) refl (is_less (part_of of_master a.rec) (part_of of_detail b.rec)) refl
      where
        in_order : are_sorted of_detail (b.rec ∷ b.rest) ≡ true
        in_order = ap (are_sorted of_detail) (sym b.list) ∙ ordered

        by_fit : (f : Bool) → fits of_master of_detail a.rec b.rec ≡ f → (l : Bool) → is_less (part_of of_master a.rec) (part_of of_detail b.rec) ≡ l → PutsInOrder s W (pairs ++ left_in_order of_master of_detail (e == 0) (left 0) (left 1))
        by_fit true fit l less = they_match a b fit
        by_fit false fit true less =
            master_goes a (b.rec ∷ []) b.seen (ap (λ z. cond z Match (cond (is_less (part_of of_master a.rec) (part_of of_detail b.rec)) Master Detail)) fit ∙ ap (λ z. cond z Master Detail) less)
            (count_one of_master of_detail a.rec b.rec false fit)
            (ap (list_all (greater of_master of_detail a.rec)) b.list ∙ goes_before_all of_master of_detail a.rec b.rec b.rest less in_order)
        by_fit false fit false less =
            detail_goes b (a.rec ∷ []) a.seen (ap (λ z. cond z Match (cond (is_less (part_of of_master a.rec) (part_of of_detail b.rec)) Master Detail)) fit ∙ ap (λ z. cond z Master Detail) less)
            (λ m is. let it : m ≡ a.rec = head_is m is in ap (λ z. count_of of_master of_detail (z ∷ []) (b.rec ∷ [])) it ∙ count_one of_master of_detail a.rec b.rec false fit)
            (subst (λ z. all_on 2 (b.rec ∷ []) ++ left_in_order of_master of_detail (e == 0) z b.rest ≡ left_in_order of_master of_detail (e == 0) z (b.rec ∷ b.rest)) (sym a.list) (detail_goes_on of_master of_detail (e == 0) a.rec b.rec a.rest b.rest (is_lesser of_master of_detail a.rec b.rec fit less)))
          where
            head_is : (m : List ℕ) → ◌≡◌ {A = Records} (a.rec ∷ []) (m ∷ []) → m ≡ a.rec
            head_is m e = cc

    -- all is over
    all_over : IsOver k left 0 → IsOver k left 1 → PutsInOrder s W (pairs ++ left_in_order of_master of_detail (e == 0) (left 0) (left 1))
    all_over a b =
        subst (λ z. PutsInOrder s W (pairs ++ left_in_order of_master of_detail (e == 0) z (left 1))) (sym a.all)
        (subst (λ z. PutsInOrder s W (pairs ++ left_in_order of_master of_detail (e == 0) [] z)) (sym b.all) (subst (λ z. PutsInOrder s W z) (sym (append-nil pairs)) done_now))
      where
        none : (j : ℕ) → records_from j k.sight ≡ []
        none zero = a.none
        none (suc zero) = b.none
        none (suc (suc j)) = (x.beyond (suc (suc j)) (omega arith)).none

        full : Full s g unlimited W done 2 (collating of_master of_detail) refl row_is pairs left
        full = record { known = k; place = x.place; shows = both k left x.first x.second; beyond = x.beyond }

        done_now : PutsInOrder s W pairs
        done_now = (full_over s g unlimited W done 2 (collating of_master of_detail) refl row_is pairs left full (none_in_sight k.sight none)).puts

    by_both : Shows k left 0 → Shows k left 1 → PutsInOrder s W (pairs ++ left_in_order of_master of_detail (e == 0) (left 0) (left 1))
    by_both (inl a) (inl b) = all_over a b
    by_both (inr a) (inl b) = master_goes a [] b.none refl refl (ap (list_all (greater of_master of_detail a.rec)) b.all)
    by_both (inl a) (inr b) = detail_goes b [] a.none refl (λ m is. cc) (subst (λ z. all_on 2 (b.rec ∷ []) ++ left_in_order of_master of_detail (e == 0) z b.rest ≡ left_in_order of_master of_detail (e == 0) z (b.rec ∷ b.rest)) (sym a.all) refl)
    by_both (inr a) (inr b) = both_seen a b

  collate_from : (fuel : ℕ) → Rest fuel
  collate_from zero pairs left e k x ordered more = absurd (omega arith)
  collate_from (suc fuel) pairs left e k x ordered more = by_both fuel (collate_from fuel) pairs left e k x ordered more x.first x.second

  pub collate_puts : (form s).row.early ≡ None → are_sorted of_detail (g.inputs 1) ≡ true → PutsInOrder s W (collated_in_order of_master of_detail (g.inputs 0) (g.inputs 1))
  collate_puts early details =
      let x = start s g unlimited W done of_master of_detail row_is early in
      subst (λ z. PutsInOrder s W z) (all_left of_master of_detail (g.inputs 0) (g.inputs 1))
      (collate_from (suc (length (g.inputs 0) + length (g.inputs 1))) [] g.inputs 0 x.0 x.1 details (omega arith))

  -- and by outputs, where the masters are sorted too and no two have one key
  pub collate_parts : (form s).row.early ≡ None → are_sorted of_master (g.inputs 0) ≡ true → are_distinct of_master (g.inputs 0) ≡ true → are_sorted of_detail (g.inputs 1) ≡ true →
      Puts s W (collate_pairs of_master of_detail (g.inputs 0) (g.inputs 1))
  collate_parts early masters keys details =
      puts_alike of_master of_detail s W (collated_in_order of_master of_detail (g.inputs 0) (g.inputs 1)) (collate_pairs of_master of_detail (g.inputs 0) (g.inputs 1))
      (all_parted of_master of_detail (g.inputs 0) (g.inputs 1) (record { masters_sorted = masters; masters_distinct = keys; details_sorted = details }))
      (on_each_output s W (collated_in_order of_master of_detail (g.inputs 0) (g.inputs 1)) (collate_puts early details))
