-- What stands behind a door, before and after a change there.
use Rattle.std.proofs.Common.{◌≡◌, ◌≢◌, ◌⊎◌, inl, inr, ℕ, ◌&&◌, ◌==◌, List, length, length-set, refl, sym, ◌∙◌, ap, subst, Option, Some, None, slice_get}
use Rattle.std.proofs.lemmas.Bool.{eqb-true}
use Rattle.pipe_model.specs.declared.net.Net.{Net}
use Rattle.pipe_model.specs.declared.net.Link.{Link}
use Rattle.pipe_model.specs.State.{Who, State, same, link_in, link_out}
use Rattle.pipe_model.specs.WellFormed.{IsWellFormed}
use Rattle.pipe_model.proofs.Truths.{both}
use Rattle.pipe_model.proofs.Numbers.{equal_or_not, test_same}
use Rattle.pipe_model.proofs.Lists.{found_at, finds, get_set_same, get_set_other, beside}
use Rattle.run_desk.specs.Desk.{DeskState}
use Rattle.run_desk.specs.Telling as Telling
use Rattle.run_desk.specs.Standing.{link_through, IsLaid}
use Rattle.run_desk.specs.Turns.{list_changed_at, list_changed_behind}

-- Lists

module _ {A : Type 0} (xs : List A) (f : A → A) where
  -- a change behind a door keeps the length
  pub as_long : (door : Option ℕ) → length (list_changed_behind xs f door) ≡ length xs
  as_long None = refl
  as_long (Some k) = go (slice_get xs k)
    where
      go : (x : Option A) → length (list_changed_at xs k f x) ≡ length xs
      go None = refl
      go (Some x) = length-set xs k (f x)

  -- what stands at a place after the change stood there before, or is what was changed
  pub now_behind : (door : Option ℕ) (j : ℕ) (y : A) → slice_get (list_changed_behind xs f door) j ≡ Some y →
      ((slice_get xs j ≡ Some y) × (door ≢ Some j)) ⊎ ((x : A) × (slice_get xs j ≡ Some x) × (y ≡ f x) × (door ≡ Some j))
  now_behind None j y at = inl (at, λ z. cc)
  now_behind (Some k) j y at = elim (equal_or_not j k) [
    | inl here ↦ inr (let r = go (slice_get xs k) refl (subst (λ z. slice_get (list_changed_behind xs f (Some k)) z ≡ Some y) here at) in
        (r.0, ap (slice_get xs) here ∙ r.1, r.2, ap Some (sym here)))
    | inr apart ↦ inl (sym (there apart (slice_get xs k)) ∙ at, λ z. apart (let e : k ≡ j = cc in sym e))
  ]
    where
      go : (x : Option A) → slice_get xs k ≡ x → slice_get (list_changed_at xs k f (slice_get xs k)) k ≡ Some y → (z : A) × (slice_get xs k ≡ Some z) × (y ≡ f z)
      go None e p = let no : None ≡ Some y = sym e ∙ sym (ap (λ z. slice_get (list_changed_at xs k f z) k) e) ∙ p in cc
      go (Some x) e p =
          let same : Some (f x) ≡ Some y = sym (get_set_same xs k (f x) x e) ∙ sym (ap (λ z. slice_get (list_changed_at xs k f z) k) e) ∙ p in
          (x, e, cc)

      there : j ≢ k → (x : Option A) → slice_get (list_changed_at xs k f x) j ≡ slice_get xs j
      there apart None = refl
      there apart (Some x) = get_set_other xs k j (f x) apart

  -- where nothing stands after the change, nothing stood
  pub none_before : (door : Option ℕ) (j : ℕ) → slice_get (list_changed_behind xs f door) j ≡ None → slice_get xs j ≡ None
  none_before door j none = go (slice_get xs j) refl
    where
      go : (x : Option A) → slice_get xs j ≡ x → slice_get xs j ≡ None
      go None e = e
      go (Some x) e =
          let r = beside xs (list_changed_behind xs f door) j x (sym (as_long door)) e in
          let no : None ≡ Some r.0 = sym none ∙ r.1 in cc

-- Links

module _ (net : Net) (st : State) (d : DeskState) (laid : IsLaid net st d) where
  -- the link behind an input's door leads to the input
  pub behind_in : (s : Who) (i j : ℕ) (link : Link) → Telling.in_door d s i ≡ Some j → slice_get net.links j ≡ Some link → (link.to ≡ s) × (link.input ≡ i)
  behind_in s i j link door at =
      let found : link_in net st s i ≡ Some link = laid.in_doors s i ∙ ap (link_through net.links) door ∙ at in
      let r = found_at (λ l. same l.to s && l.input == i) net.links found in
      let m = both (same link.to s) (link.input == i) r.0 in
      (eqb-true _ _ m.0, eqb-true _ _ m.1)

  -- and the one behind an output's door leads from the output
  pub behind_out : (s : Who) (o j : ℕ) (link : Link) → Telling.out_door d s o ≡ Some j → slice_get net.links j ≡ Some link → (link.from ≡ s) × (link.output ≡ o)
  behind_out s o j link door at =
      let found : link_out net st s o ≡ Some link = laid.out_doors s o ∙ ap (link_through net.links) door ∙ at in
      let r = found_at (λ l. same l.from s && l.output == o) net.links found in
      let m = both (same link.from s) (link.output == o) r.0 in
      (eqb-true _ _ m.0, eqb-true _ _ m.1)

  -- each link stands behind its output's door
  pub door_out : IsWellFormed net → (j : ℕ) (link : Link) → slice_get net.links j ≡ Some link → Telling.out_door d link.from link.output ≡ Some j
  door_out formed j link at = by_door (Telling.out_door d link.from link.output) refl
    where
      found : (l : Link) × (link_out net st link.from link.output ≡ Some l)
      found = finds (λ l. same l.from link.from && l.output == link.output) net.links j at (ap (λ b. b && link.output == link.output) (test_same link.from) ∙ test_same link.output)

      by_door : (x : Option ℕ) → Telling.out_door d link.from link.output ≡ x → Telling.out_door d link.from link.output ≡ Some j
      by_door None e = let no : None ≡ Some found.0 = sym (laid.out_doors link.from link.output ∙ ap (link_through net.links) e) ∙ found.1 in cc
      by_door (Some k) e =
          let there : slice_get net.links k ≡ Some found.0 = sym (laid.out_doors link.from link.output ∙ ap (link_through net.links) e) ∙ found.1 in
          let ends = behind_out link.from link.output k found.0 e there in
          e ∙ ap Some (formed.one_out k j found.0 link there at ends.0 ends.1)
