-- LOOKUP puts each detail with the first master of its key, and at the end the masters that no detail matched.
use Rattle.std.proofs.Common.{◌≡◌, ℕ, cond, ◌==◌, List, [], ◌∷◌, ◌++◌, refl, sym, ◌∙◌, ap, subst, None}
use Rattle.std.specs.Prelude.{find, flat_map}
use Rattle.std.proofs.lemmas.List.{append-nil}
use Rattle.pipe_model.specs.declared.net.Strand.{Strand}
use Rattle.pipe_model.specs.declared.range.Range.{Range}
use Rattle.pipe_model.specs.Event.{Event}
use Rattle.pipe_model.specs.Row.{Pair, Known}
use Rattle.pipe_model.specs.Shape.{Records, turn_plan}
use Rattle.pipe_model.specs.Inputs.{records_from}
use Rattle.pipe_model.specs.Counts.{all_on}
use Rattle.pipe_model.specs.JoiningRows.{agree, first_of_key, looked_up, unmatched, looking_up}
use Rattle.pipe_model.specs.Table.{form}
use Rattle.pipe_model.specs.Alone.{Given, IsAllAlone}
use Rattle.pipe_model.specs.Listed.{lookup_pairs, IsUnlimited}
use Rattle.stream_laws.specs.InOrder.{PutsInOrder}
use Rattle.stream_laws.proofs.Streams.{on_both, on_its, on_others}
use Rattle.stream_laws.proofs.Turned.{caused, turns_begin, turns_over, read_all}
use Rattle.stream_laws.proofs.FanIns.{hand_causes}

module _ (of_detail of_master : Range) where
  -- what a record causes, by its input
  causes : List Pair → ℕ → List ℕ → List Pair
  causes seen i rec = cond (i == 1) [] (looked_up rec (find (λ master. agree of_master of_detail master rec) (records_from 1 seen)))

  -- masters cause nothing
  no_pairs : (seen : List Pair) (masters : Records) → caused (looking_up of_detail of_master) seen 1 masters ≡ []
  unfolding causes
  no_pairs seen [] = refl
  no_pairs seen (rec ∷ rest) =
      ap (λ z. z ++ caused (looking_up of_detail of_master) (seen ++ (1, rec) ∷ []) 1 rest) (hand_causes (causes (seen ++ (1, rec) ∷ [])) seen 1 rec)
      ∙ no_pairs (seen ++ (1, rec) ∷ []) rest

  -- each detail is looked up among the masters
  each_looked_up : (masters : Records) (seen : List Pair) → records_from 1 seen ≡ masters → (details : Records) →
      caused (looking_up of_detail of_master) seen 0 details ≡ flat_map (λ detail. looked_up detail (find (λ master. agree of_master of_detail master detail) masters)) details
  unfolding causes
  each_looked_up masters seen are [] = refl
  each_looked_up masters seen are (rec ∷ rest) =
      let still : records_from 1 (seen ++ (0, rec) ∷ []) ≡ masters = on_both 1 seen ((0, rec) ∷ []) ∙ append-nil (records_from 1 seen) ∙ are in
      ap (λ z. z ++ caused (looking_up of_detail of_master) (seen ++ (0, rec) ∷ []) 0 rest) (
      hand_causes (causes (seen ++ (0, rec) ∷ [])) seen 0 rec
      ∙ ap (λ z. looked_up rec (find (λ master. agree of_master of_detail master rec) z)) still
      )
      ∙ ap (λ z. looked_up rec (find (λ master. agree of_master of_detail master rec) masters) ++ z) (each_looked_up masters (seen ++ (0, rec) ∷ []) still rest)

module _ (s : Strand) (g : Given) (unlimited : IsUnlimited g) (W : List Event) (done : IsAllAlone s g W)
    (of_detail of_master : Range) (row_is : (form s).row.plan ≡ (λ (k : Known). turn_plan 2 (looking_up of_detail of_master) k k.told)) where
  pub lookup_puts : (form s).row.early ≡ None → PutsInOrder s W (lookup_pairs of_detail of_master (g.inputs 0) (g.inputs 1))
  lookup_puts early =
      let a = turns_begin s g unlimited W done 2 (looking_up of_detail of_master) row_is early in
      let b = read_all s g unlimited W done 2 (looking_up of_detail of_master) row_is 1 [] (λ seen. refl) (g.inputs 1) [] [] refl a in
      let c = read_all s g unlimited W done 2 (looking_up of_detail of_master) row_is 0 (1 ∷ []) (λ seen. refl) (g.inputs 0) masters (caused (looking_up of_detail of_master) [] 1 (g.inputs 1)) (ap (λ z. z ++ g.inputs 0) (sym (on_others 1 0 (g.inputs 1) refl))) b in
      let d = turns_over s g unlimited W done 2 (looking_up of_detail of_master) row_is both (0 ∷ 1 ∷ []) (caused (looking_up of_detail of_master) [] 1 (g.inputs 1) ++ caused (looking_up of_detail of_master) masters 0 (g.inputs 0)) refl c in
      subst (λ z. PutsInOrder s W z) (
      ap (λ z. (z ++ caused (looking_up of_detail of_master) masters 0 (g.inputs 0)) ++ left (records_from 1 both) (records_from 0 both)) (no_pairs of_detail of_master [] (g.inputs 1))
      ∙ ap (λ z. z ++ left (records_from 1 both) (records_from 0 both)) (each_looked_up of_detail of_master (g.inputs 1) masters (on_its 1 (g.inputs 1)) (g.inputs 0))
      ∙ ap (λ z. found ++ left z (records_from 0 both)) (on_both 1 masters (all_on 0 (g.inputs 0)) ∙ ap (λ z. records_from 1 masters ++ z) (on_others 0 1 (g.inputs 0) refl) ∙ append-nil (records_from 1 masters) ∙ on_its 1 (g.inputs 1))
      ∙ ap (λ z. found ++ left (g.inputs 1) z) (on_both 0 masters (all_on 0 (g.inputs 0)) ∙ ap (λ z. z ++ records_from 0 (all_on 0 (g.inputs 0))) (on_others 1 0 (g.inputs 1) refl) ∙ on_its 0 (g.inputs 0))
      ) d.puts
    where
      masters : List Pair
      masters = all_on 1 (g.inputs 1)

      both : List Pair
      both = masters ++ all_on 0 (g.inputs 0)

      found : List Pair
      found = flat_map (λ detail. looked_up detail (find (λ master. agree of_master of_detail master detail) (g.inputs 1))) (g.inputs 0)

      left : Records → Records → List Pair
      left masters details = all_on 2 (unmatched of_master of_detail (first_of_key of_master masters) details)
