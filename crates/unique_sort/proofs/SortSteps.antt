-- What SORT holds, and what it gives behind the end of input.
use Rattle.std.proofs.Common.{◌≡◌, ℕ, Bool, true, false, List, [], ◌∷◌, ◌++◌, refl, sym, ◌∙◌, ap, subst, Some}
use Rattle.std.specs.Prelude.{reverse, is_some, unwrap_or}
use Rattle.std.specs.List.{All}
use Rattle.std.proofs.lemmas.List.{reverse-append, reverse-reverse, map-append}
use Rattle.std.proofs.lemmas.List.Elements.{All-push}
use Rattle.pipe_model.specs.Counts.{all_on}
use Rattle.pipe_model.specs.OrderRows.{sort, sorted}
use Rattle.pipe_model.specs.Row.{Act}
use Rattle.pipe_model.specs.Row.Act.{Writes}
use Rattle.pipe_model.specs.Shape.{Records, Stream, writes, acts_of, last_pairs}
use Rattle.stage_steps.specs.declared.group.Group.TheVariants.{New}
use Rattle.stage_steps.specs.Lists.{Sees, Finishes, GivesNext}
use Rattle.unique_sort.specs.declared.keyed.Keyed.{Keyed}
use Rattle.unique_sort.specs.declared.sort.Sorts.{Sorts}
use Rattle.unique_sort.specs.Fronts.{keyed_by, IsKeyed, recs_in}
use Rattle.unique_sort.specs.SortLists.{SortsStand}

module _ (x y : Sorts) (keys_are : y.keys ≡ x.keys) where
  -- one more record is held
  pub sees_sorted : (bytes : List ℕ) → y.is_over ≡ x.is_over → y.records.items ≡ x.records.items ++ keyed_by x.keys bytes ∷ [] → Sees SortsStand true x y bytes
  sees_sorted bytes over_is held = λ t recs rec is few came. (
    is.0 ∙ ap sort (sym keys_are),
    over_is ∙ is.1,
    (
      ap recs_in held ∙ map-append (λ (k : Keyed). k.rec) x.records.items (keyed_by x.keys bytes ∷ []) ∙ ap (λ l. l ++ bytes ∷ []) is.2.0 ∙ ap (λ b. recs ++ b ∷ []) (came refl),
      subst (λ keys. All (IsKeyed keys) y.records.items) (sym keys_are) (subst (All (IsKeyed x.keys)) (sym held) (All-push (IsKeyed x.keys) x.records.items (keyed_by x.keys bytes) is.2.1 refl)),
      ap (λ (t : Stream). acts_of t.outs (recs ++ rec ∷ [])) is.0,
    ),
  )

  -- at the end of input they are sorted, and turned round
  pub ends_sorted : (done : List Keyed) → y.is_over ≡ true → y.records.items ≡ reverse done → (All (IsKeyed x.keys) x.records.items → recs_in done ≡ sorted x.keys (recs_in x.records.items)) → Finishes SortsStand x y
  ends_sorted done over_is turned in_order = λ t recs is. (
    is.0 ∙ ap sort (sym keys_are),
    over_is,
    ap (λ (t : Stream). writes (last_pairs t.last recs)) is.0 ∙ ap (λ l. writes (all_on 0 (sorted x.keys l))) (sym is.2.0) ∙ ap (λ l. writes (all_on 0 l)) (sym (in_order is.2.1))
        ∙ ap (λ l. writes (all_on 0 (recs_in l))) (sym (ap reverse turned ∙ reverse-reverse done)),
  )

  -- the last of those that are held is given
  pub gives_sorted : (keyed : Keyed) → x.is_over ≡ true → y.is_over ≡ x.is_over → y.given ≡ Some keyed.rec → x.records.items ≡ y.records.items ++ keyed ∷ [] → GivesNext SortsStand (λ (z : Sorts). z.given) x y (Some (New 0))
  gives_sorted keyed is_over over_is given_is held = (ap is_some given_is, by)
    where
      by : (over : Bool) (t : Stream) (recs : Records) (acts : List Act) → SortsStand x over t recs acts →
          (rest : List Act) × (acts ≡ Writes 0 (unwrap_or y.given []) ∷ rest) × SortsStand y over t recs rest × Unit {0}
      by false t recs acts is = absurd cc
      by true t recs acts is = (
        writes (all_on 0 (recs_in (reverse y.records.items))),
        is.2 ∙ ap (λ l. writes (all_on 0 (recs_in (reverse l)))) held ∙ ap (λ l. writes (all_on 0 (recs_in l))) (reverse-append y.records.items (keyed ∷ []))
            ∙ ap (λ o. Writes 0 (unwrap_or o []) ∷ writes (all_on 0 (recs_in (reverse y.records.items)))) (sym given_is),
        (is.0 ∙ ap sort (sym keys_are), over_is ∙ is.1, refl),
        tt,
      )
