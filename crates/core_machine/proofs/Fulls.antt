-- A commit level that no strand's standing fills has no new answer.
use Rattle.std.proofs.Common.{◌≡◌, ◌≢◌, ◌⊎◌, inl, inr, ℕ, zero, suc, Bool, true, false, cond, ◌&&◌, ◌||◌, List, [], ◌∷◌, refl, sym, ◌∙◌, ap, Option, Some, None, is_some, slice_get, slice_set, ℤ}
use Rattle.std.specs.List.{list_all}
use Rattle.std.specs.Option.{option_map_or}
use Rattle.std.proofs.lemmas.List.{get_or-set_other}
use Rattle.pipe_model.proofs.Truths.{both, or_second}
use Rattle.pipe_model.proofs.Numbers.{equal_or_not}
use Rattle.commit_levels.specs.UnitState.{Member, IsAt, worst_early, stands_at, has_asked, progress_at, place_of, moved, reached_by}
use Rattle.commit_levels.specs.declared.member.Progress.TheVariants.{NotAsked, Asked, Reached}
use Rattle.run_desk.specs.Desk.{DeskState}
use Rattle.run_desk.specs.Telling as Telling

-- where all pass after an item was changed, and it passed before if it passes now, all passed before
all_before : {A : Type 0} (p : A → Bool) (xs : List A) (k : ℕ) (x y : A) → slice_get xs k ≡ Some x → (p y ≡ true → p x ≡ true) → list_all p (slice_set xs k y) ≡ true → list_all p xs ≡ true
all_before p [] k x y at f all = cc
all_before p (z ∷ xs) zero x y at f all =
    let r = both (p y) (list_all p xs) all in
    let it : z ≡ x = cc in
    ap (λ b. b && list_all p xs) (ap p it ∙ f r.0) ∙ r.1
all_before p (z ∷ xs) (suc k) x y at f all =
    let r = both (p z) (list_all p (slice_set xs k y)) all in
    ap (λ b. b && list_all p xs) r.0 ∙ all_before p xs k x y at f r.1

-- who has asked for a level stands there no less than who has reached it
stood : (place other : ℕ) (m : Member) → progress_at place m ≡ Asked → stands_at other (moved place Reached m) ≡ true → stands_at other m ≡ true
stood place other m asked stands = go (equal_or_not other place)
  where
    go : (other ≡ place) ⊎ (other ≢ place) → stands_at other m ≡ true
    go (inl e) = or_second (is_some m.ended) (has_asked (progress_at other m)) (ap has_asked (ap (λ z. progress_at z m) e ∙ asked))
    go (inr apart) = ap (λ z. is_some m.ended || has_asked z) (sym (get_or-set_other m.progress place other Reached NotAsked apart)) ∙ stands

-- all that stand at a level after one reached one stood there before
reached_all : (unit : List Member) (k : ℕ) (level : ℤ) (place : ℕ) → IsAt unit k level Asked → list_all (stands_at place) (reached_by unit k level) ≡ true → list_all (stands_at place) unit ≡ true
reached_all unit k level place asked all = go (slice_get unit k) refl all
  where
    go : (x : Option Member) → slice_get unit k ≡ x → list_all (stands_at place) (option_map_or (λ m. slice_set unit k (moved (place_of level) Reached m)) x unit) ≡ true → list_all (stands_at place) unit ≡ true
    go None at p = p
    go (Some m) at p = all_before (stands_at place) unit k m (moved (place_of level) Reached m) at (stood (place_of level) place m (asked m at)) p

-- where a level has an answer, it had one before, if all stood there before
code_up : (d n : DeskState) (level : ℤ) → (list_all (stands_at (place_of level)) n.unit ≡ true → list_all (stands_at (place_of level)) d.unit ≡ true) →
    is_some (Telling.level_code n level) ≡ true → is_some (Telling.level_code d level) ≡ true
code_up d n level f = by (Telling.is_level level) (list_all (stands_at (place_of level)) n.unit) (list_all (stands_at (place_of level)) d.unit) (worst_early (place_of level) n.unit) (worst_early (place_of level) d.unit) f
  where
    by : (a b c : Bool) (x y : ℤ) → (b ≡ true → c ≡ true) → is_some (cond a (cond b (Some x) None) None) ≡ true → is_some (cond a (cond c (Some y) None) None) ≡ true
    by false b c x y f p = cc
    by true b true x y f p = refl
    by true true false x y f p = let z = f refl in cc
    by true false false x y f p = cc

-- a strand that reached a level gave no level an answer
pub reached_code : (d n : DeskState) (s : ℕ) (reached level : ℤ) → IsAt d.unit s reached Asked → n.unit ≡ reached_by d.unit s reached → is_some (Telling.level_code n level) ≡ true → is_some (Telling.level_code d level) ≡ true
reached_code d n s reached level asked is =
    code_up d n level (λ all. reached_all d.unit s reached (place_of level) asked (ap (list_all (stands_at (place_of level))) (sym is) ∙ all))

-- nor did anything that left the unit as it was
pub same_code : (d n : DeskState) (level : ℤ) → n.unit ≡ d.unit → is_some (Telling.level_code n level) ≡ true → is_some (Telling.level_code d level) ≡ true
same_code d n level is = code_up d n level (λ all. ap (list_all (stands_at (place_of level))) (sym is) ∙ all)
