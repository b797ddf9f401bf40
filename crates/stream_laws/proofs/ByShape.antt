-- What a strand does by itself, by the shape of its row.
use Rattle.std.proofs.Common.{◌≡◌, ◌==◌, ◌||◌, cond, sym, true, false, Bool, true, ℤ, List, [], ◌∷◌, ◌++◌, refl, ◌∙◌, ap, subst, None, pos}
use Rattle.pipe_model.specs.declared.net.Strand.{Strand}
use Rattle.pipe_model.specs.Event.{Event}
use Rattle.pipe_model.specs.Row.{Pair, Plan, Known, Row}
use Rattle.pipe_model.specs.Row.Goal.{Asks, Ends}
use Rattle.pipe_model.specs.Row.Act.{Writes, Takes}
use Rattle.pipe_model.specs.Event.Event.{Saw, SawEnd, Primed}
use Rattle.pipe_model.specs.Event.Want.{Read}
use Rattle.std.proofs.lemmas.List.{map-append}
use Rattle.pipe_model.specs.Shape.{Records, Order, Stream, Shape, row, row_of, listed, list_plan, records_of, at_hand_of, each_record, copied, dam_plan}
use Rattle.pipe_model.specs.Shape.Order.{WritesFirst, TakesFirst}
use Rattle.pipe_model.specs.Shape.Shape.{Absent, Sources, Lists, Sinks, Queues, Dams}
use Rattle.pipe_model.specs.Table.{form}
use Rattle.pipe_model.specs.Form.{are_finite}
use Rattle.pipe_model.specs.Next.{begins_plan, hears, nothing_known}
use Rattle.pipe_model.specs.Alone.{Given, IsAllAlone}
use Rattle.pipe_model.specs.Counts.{all_on}
use Rattle.pipe_model.specs.Listed.{pairs_after, taken_after, code_after, pairs_of, taken_of, ending_of, IsUnlimited, IsListed, Does}
use Rattle.stream_laws.specs.InOrder.{PutsInOrder, IsListedInOrder}
use Rattle.stream_laws.proofs.Streams.{at_hand_last, on_each_output}
use Rattle.stream_laws.proofs.Places.{Did, Reaches, told_primed, write_rest, begins, ends_early, finish}
use Rattle.stream_laws.proofs.OneList.{IsSight, reads, one_list}

-- A strand that copies

pairs_copied : (recs rest : Records) → pairs_after (each_record copied) recs rest ≡ all_on 0 rest
pairs_copied recs [] = refl
pairs_copied recs (rec ∷ rest) = ap (λ z. (0, z) ∷ pairs_after (each_record copied) (recs ++ rec ∷ []) rest) (at_hand_last recs rec) ∙ ap (λ z. (0, rec) ∷ z) (pairs_copied (recs ++ rec ∷ []) rest)

taken_copied : (recs rest : Records) → taken_after (each_record copied) recs rest ≡ rest
taken_copied recs [] = refl
taken_copied recs (rec ∷ rest) = ap (λ z. rec ∷ z) (taken_copied (recs ++ rec ∷ []) rest)

code_copied : (recs rest : Records) → code_after (each_record copied) recs rest ≡ pos 0
code_copied recs [] = refl
code_copied recs (rec ∷ rest) = code_copied (recs ++ rec ∷ []) rest

-- as what is put on each output
does : (s : Strand) (h : List Event) (pairs : List Pair) (records : Records) (code : ℤ) → Did s h pairs records code → Does s h pairs records code
does s h pairs records code x = record { puts = on_each_output s h pairs x.puts; taken = x.taken; ended = x.ended }

module _ (s : Strand) (g : Given) (unlimited : IsUnlimited g) (W : List Event) (done : IsAllAlone s g W) where
  ends_at_once : (form s).row ≡ row_of s Absent → Did s W [] [] (pos 28)
  ends_at_once is =
      let f = finish s g unlimited W done nothing_known (pos 28) [] [] (ends_early s g unlimited W done (pos 28) (ap (λ (w : Row). w.early) is)) in
      record { puts = f.puts; taken = f.takes 0; ended = f.ended }

  writes_all : (pairs : List Pair) → (form s).row ≡ row_of s (Sources pairs) → Did s W pairs [] (pos 0)
  writes_all pairs is =
      let a = subst (λ (w : Row). Reaches s g unlimited W done nothing_known (begins_plan s.ports.has_output [] (w.plan nothing_known)) [] []) is (begins s g unlimited W done (ap (λ (w : Row). w.early) is)) in
      let f = finish s g unlimited W done nothing_known (pos 0) _ [] (write_rest s g unlimited W done nothing_known pairs (Ends (pos 0)) [] [] a) in
      record { puts = f.puts; taken = f.takes 0; ended = f.ended }

  reads_list : (order : Order) (t : List Bool → Stream) → (form s).row ≡ row_of s (Lists order t) → are_finite (t s.ports.has_output).outs ≡ true →
      Did s W (pairs_of (t s.ports.has_output) (g.inputs 0)) (taken_of (t s.ports.has_output) (g.inputs 0)) (ending_of (t s.ports.has_output) (g.inputs 0))
  reads_list order t is finite =
      one_list s g unlimited W done order (t s.ports.has_output) finite (λ k e sight. ap (λ (w : Row). w.plan (hears k e)) is) (ap (λ (w : Row). w.plan nothing_known) is) (ap (λ (w : Row). w.early) is)

  copied_all : Did s W (pairs_of (each_record copied) (g.inputs 0)) (taken_of (each_record copied) (g.inputs 0)) (ending_of (each_record copied) (g.inputs 0)) → Did s W (all_on 0 (g.inputs 0)) (g.inputs 0) (pos 0)
  copied_all x = record {
    puts = subst (λ z. PutsInOrder s W z) (pairs_copied [] (g.inputs 0)) x.puts;
    taken = x.taken ∙ taken_copied [] (g.inputs 0);
    ended = x.ended ∙ code_copied [] (g.inputs 0);
  }

  copies : (order : Order) → (form s).row.plan ≡ (row_of s (Lists order (λ outputs. each_record copied))).plan → (form s).row.early ≡ None → Did s W (all_on 0 (g.inputs 0)) (g.inputs 0) (pos 0)
  copies order plan early = copied_all (one_list s g unlimited W done order (each_record copied) refl (λ k e sight. ap (λ (p : Known → Plan). p (hears k e)) plan) (ap (λ (p : Known → Plan). p nothing_known) plan) early)

  -- A later strand of a DAM

  module _ (is : (form s).row ≡ row (λ (k : Known). dam_plan k k.told)) where
    dam_plans : (k : Known) → (form s).row.plan k ≡ dam_plan k k.told
    dam_plans k = ap (λ (w : Row). w.plan k) is

    -- where it sees records it copies them
    as_copied : (k : Known) (e : Event) → IsSight e → (form s).row.plan (hears k e) ≡ list_plan WritesFirst (each_record copied) (hears k e) (hears k e).told
    as_copied k (Saw i rec) sight = dam_plans (hears k (Saw i rec)) ∙ ap (λ z. record { acts = Writes 0 z ∷ Takes i ∷ []; goal = Asks (Read 0) }) (sym (ap at_hand_of (map-append (λ (p : Pair). p.1) k.seen ((i, rec) ∷ [])) ∙ at_hand_last (records_of k.seen) rec))
    as_copied k (SawEnd i) sight = dam_plans (hears k (SawEnd i))
    as_copied k _ sight = absurd sight

    primed_puts : (form s).row.early ≡ None → PutsInOrder s W (cond g.primed (all_on 0 (g.inputs 0)) [])
    primed_puts early = by_first g.primed (subst (λ (z : Plan). Reaches s g unlimited W done told (begins_plan s.ports.has_output [] z) [] []) (dam_plans told) (told_primed s g unlimited W done nothing_known [] [] asked))
      where
        told : Known
        told = hears nothing_known (Primed g.primed)

        asked : Reaches s g unlimited W done nothing_known (begins_plan s.ports.has_output [] (dam_plan nothing_known [])) [] []
        asked = subst (λ (z : Plan). Reaches s g unlimited W done nothing_known (begins_plan s.ports.has_output [] z) [] []) (dam_plans nothing_known) (begins s g unlimited W done early)

        by_first : (b : Bool) → Reaches s g unlimited W done told (begins_plan s.ports.has_output [] (dam_plan told (Primed b ∷ []))) [] [] → PutsInOrder s W (cond b (all_on 0 (g.inputs 0)) [])
        by_first true x = subst (λ z. PutsInOrder s W z) (pairs_copied [] (g.inputs 0)) (reads s g unlimited W done WritesFirst (each_record copied) refl as_copied [] (g.inputs 0) told [] [] refl refl x).1.puts
        by_first false x = (finish s g unlimited W done told (pos 0) [] [] x).puts

  dam_puts : (b : Bool) → (form s).row ≡ cond b (listed WritesFirst (each_record copied)) (row (λ (k : Known). dam_plan k k.told)) → PutsInOrder s W (cond (b || g.primed) (all_on 0 (g.inputs 0)) [])
  dam_puts true is = (copies WritesFirst (ap (λ (w : Row). w.plan) is) (ap (λ (w : Row). w.early) is)).puts
  dam_puts false is = primed_puts is (ap (λ (w : Row). w.early) is)

  pub listed_by : (shape : Shape) → (form s).row ≡ row_of s shape → IsListed s shape g W
  listed_by Absent is = does s W _ _ _ (ends_at_once is)
  listed_by (Sources pairs) is = does s W _ _ _ (writes_all pairs is)
  listed_by (Lists order t) is = λ finite. does s W _ _ _ (reads_list order t is finite)
  listed_by (Sinks keeping) is = does s W _ _ _ (copies WritesFirst (ap (λ (w : Row). w.plan) is) (ap (λ (w : Row). w.early) is))
  listed_by Queues is = does s W _ _ _ (copies TakesFirst (ap (λ (w : Row). w.plan) is) (ap (λ (w : Row). w.early) is))
  listed_by _ is = tt

  pub in_order_by : (shape : Shape) → (form s).row ≡ row_of s shape → IsListedInOrder s shape g W
  in_order_by Absent is = (ends_at_once is).puts
  in_order_by (Sources pairs) is = (writes_all pairs is).puts
  in_order_by (Lists order t) is = λ finite. (reads_list order t is finite).puts
  in_order_by (Sinks keeping) is = (copies WritesFirst (ap (λ (w : Row). w.plan) is) (ap (λ (w : Row). w.early) is)).puts
  in_order_by Queues is = (copies TakesFirst (ap (λ (w : Row). w.plan) is) (ap (λ (w : Row). w.early) is)).puts
  in_order_by Dams is = dam_puts (s.part == 0) is
  in_order_by _ is = tt
