-- What changes on wires lets a strand go on only where it is next to the change.
use Rattle.std.proofs.Common.{◌≡◌, ◌≢◌, ◌⊎◌, inl, inr, ℕ, suc, true, false, ◌&&◌, ◌==◌, List, [], ◌∷◌, refl, sym, ◌∙◌, ap, subst, Option, Some, None, is_some, slice_get}
use Rattle.std.proofs.lemmas.Bool.{eqb-true}
use Rattle.std.specs.Option.{option_map}
use Rattle.pipe_model.specs.declared.net.Net.{Net}
use Rattle.pipe_model.specs.declared.net.Link.{Link}
use Rattle.pipe_model.specs.State.{State, same, link_in, link_out}
use Rattle.pipe_model.proofs.Truths.{both}
use Rattle.pipe_model.proofs.Numbers.{equal_or_not}
use Rattle.pipe_model.proofs.Lists.{found_at, beside}
use Rattle.connectors.specs.WireState.{WireState}
use Rattle.run_desk.specs.Desk.{DeskState}
use Rattle.run_desk.specs.Standing.{IsLaid, link_through}
use Rattle.run_desk.specs.Turns.{list_changed_behind, wires_changed}
use Rattle.run_desk.specs.Telling as Telling
use Rattle.run_desk.proofs.Lists.{changed_here, changed_there, map_back}

-- One place of a list changed

map_some : {A : Type 0} (f : A → A) (x : Option A) → is_some (option_map f x) ≡ is_some x
map_some f None = refl
map_some f (Some x) = refl

-- where there was something there is, and nowhere else
changed_both : {A : Type 0} (xs : List A) (f : A → A) (door : Option ℕ) (j : ℕ) → is_some (slice_get (list_changed_behind xs f door) j) ≡ is_some (slice_get xs j)
changed_both xs f None j = refl
changed_both {A} xs f (Some k) j = go (equal_or_not j k)
  where
    go : (j ≡ k) ⊎ (j ≢ k) → is_some (slice_get (list_changed_behind xs f (Some k)) j) ≡ is_some (slice_get xs j)
    go (inl e) = ap (λ z. is_some (slice_get (list_changed_behind xs f (Some k)) z)) e ∙ ap is_some (changed_here xs f k) ∙ map_some f (slice_get xs k) ∙ ap (λ z. is_some (slice_get xs z)) (sym e)
    go (inr apart) = ap is_some (changed_there xs f k j apart)

-- what holds of the item at a place holds of it after a change, if it outlasts the change there
pub changed_keeps : {A : Type 0} (P : A → Type 0) (xs : List A) (f : A → A) (door : Option ℕ) (j : ℕ) → (door ≡ Some j → (x : A) → slice_get xs j ≡ Some x → P x → P (f x)) →
    ((x : A) → slice_get xs j ≡ Some x → P x) → (y : A) → slice_get (list_changed_behind xs f door) j ≡ Some y → P y
changed_keeps P xs f None j step now y at = now y at
changed_keeps {A} P xs f (Some k) j step now y at = go (equal_or_not j k)
  where
    go : (j ≡ k) ⊎ (j ≢ k) → P y
    go (inr apart) = now y (sym (changed_there xs f k j apart) ∙ at)
    go (inl e) =
        let here : option_map f (slice_get xs j) ≡ Some y = ap (λ z. option_map f (slice_get xs z)) e ∙ sym (changed_here xs f k) ∙ ap (slice_get (list_changed_behind xs f (Some k))) (sym e) ∙ at in
        let m = map_back f (slice_get xs j) y here in
        subst P (sym m.2) (step (ap Some (sym e)) m.0 m.1 (now m.0 m.1))

-- and after the same change behind several doors
all_keeps : (P : WireState → Type 0) (f : WireState → WireState) (doors : List (Option ℕ)) (xs : List WireState) (j : ℕ) →
    ((place : ℕ) → slice_get doors place ≡ Some (Some j) → (x : WireState) → P x → P (f x)) →
    ((x : WireState) → slice_get xs j ≡ Some x → P x) → (y : WireState) → slice_get (wires_changed f doors xs) j ≡ Some y → P y
all_keeps P f [] xs j step now y at = now y at
all_keeps P f (door ∷ doors) xs j step now y at =
    all_keeps P f doors (list_changed_behind xs f door) j (λ place there. step (suc place) there)
    (changed_keeps P xs f door j (λ e x here p. step 0 (ap Some e) x p) now) y at

all_both : (f : WireState → WireState) (doors : List (Option ℕ)) (xs : List WireState) (j : ℕ) → is_some (slice_get (wires_changed f doors xs) j) ≡ is_some (slice_get xs j)
all_both f [] xs j = refl
all_both f (door ∷ doors) xs j = all_both f doors (list_changed_behind xs f door) j ∙ changed_both xs f door j

-- Wires

-- what a consumer sees on the new wire it saw on the old one
abbrev pub Reads : Option WireState → Option WireState → Type 0
Reads before after = (Telling.shows after ≡ true → Telling.shows before ≡ true) × (Telling.is_over after ≡ true → Telling.is_over before ≡ true)

-- and what a producer sees
abbrev pub Writes : Option WireState → Option WireState → Type 0
Writes before after = (Telling.can_put after ≡ true → Telling.can_put before ≡ true) × (Telling.can_refuse after ≡ true → Telling.can_refuse before ≡ true)

-- on the new wires strand u sees no more than on the old ones
pub record IsStill (links : List Link) (u : ℕ) (before after : List WireState) : Type 0 where
  pub both : (j : ℕ) → is_some (slice_get after j) ≡ is_some (slice_get before j)
  pub ins : (j : ℕ) (link : Link) (wire new : WireState) → slice_get links j ≡ Some link → link.to ≡ u → slice_get before j ≡ Some wire → slice_get after j ≡ Some new → Reads (Some wire) (Some new)
  pub outs : (j : ℕ) (link : Link) (wire new : WireState) → slice_get links j ≡ Some link → link.from ≡ u → slice_get before j ≡ Some wire → slice_get after j ≡ Some new → Writes (Some wire) (Some new)

the_same : (before : List WireState) (j : ℕ) (wire new : WireState) → slice_get before j ≡ Some wire → slice_get before j ≡ Some new → wire ≡ new
the_same before j wire new at there = let e : Some wire ≡ Some new = sym at ∙ there in (let it : wire ≡ new = cc in it)

-- where no wire changed
pub still_same : (links : List Link) (u : ℕ) (before : List WireState) → IsStill links u before before
still_same links u before = record {
  both = λ j. refl;
  ins = λ j link wire new l to at there. subst (λ z. Reads (Some wire) (Some z)) (the_same before j wire new at there) (λ p. p, λ p. p);
  outs = λ j link wire new l from at there. subst (λ z. Writes (Some wire) (Some z)) (the_same before j wire new at there) (λ p. p, λ p. p);
}

-- where one wire changed
pub still_changed : (links : List Link) (u : ℕ) (before : List WireState) (f : WireState → WireState) (door : Option ℕ) →
    ((j : ℕ) (link : Link) (wire : WireState) → door ≡ Some j → slice_get links j ≡ Some link → link.to ≡ u → slice_get before j ≡ Some wire → Reads (Some wire) (Some (f wire))) →
    ((j : ℕ) (link : Link) (wire : WireState) → door ≡ Some j → slice_get links j ≡ Some link → link.from ≡ u → slice_get before j ≡ Some wire → Writes (Some wire) (Some (f wire))) →
    IsStill links u before (list_changed_behind before f door)
still_changed links u before f door reads writes = record {
  both = changed_both before f door;
  ins = λ j link wire new l to at there.
      changed_keeps (λ z. Reads (Some wire) (Some z)) before f door j
      (λ e x here p. subst (λ z. Reads (Some wire) (Some (f z))) (the_same before j wire x at here) (reads j link wire e l to at))
      (λ x here. subst (λ z. Reads (Some wire) (Some z)) (the_same before j wire x at here) (λ p. p, λ p. p)) new there;
  outs = λ j link wire new l from at there.
      changed_keeps (λ z. Writes (Some wire) (Some z)) before f door j
      (λ e x here p. subst (λ z. Writes (Some wire) (Some (f z))) (the_same before j wire x at here) (writes j link wire e l from at))
      (λ x here. subst (λ z. Writes (Some wire) (Some z)) (the_same before j wire x at here) (λ p. p, λ p. p)) new there;
}

-- where the wires behind some doors changed so that their producers see no more, and then those behind others so that their consumers don't
pub still_closed : (links : List Link) (u : ℕ) (before : List WireState) (f g : WireState → WireState) (outputs inputs : List (Option ℕ)) →
    ((x : WireState) (wire : WireState) → Writes (Some wire) (Some x) → Writes (Some wire) (Some (f x))) →
    ((x : WireState) (wire : WireState) → Reads (Some wire) (Some x) → Reads (Some wire) (Some (g x))) →
    ((j : ℕ) (link : Link) (place : ℕ) → slice_get outputs place ≡ Some (Some j) → slice_get links j ≡ Some link → link.to ≢ u) →
    ((j : ℕ) (link : Link) (place : ℕ) → slice_get inputs place ≡ Some (Some j) → slice_get links j ≡ Some link → link.from ≢ u) →
    IsStill links u before (wires_changed g inputs (wires_changed f outputs before))
still_closed links u before f g outputs inputs writes reads no_reader no_writer = record {
  both = λ j. all_both g inputs (wires_changed f outputs before) j ∙ all_both f outputs before j;
  ins = λ j link wire new l to at there.
      all_keeps (λ z. Reads (Some wire) (Some z)) g inputs (wires_changed f outputs before) j (λ place door x p. reads x wire p)
      (all_keeps (λ z. Reads (Some wire) (Some z)) f outputs before j (λ place door x p. absurd (no_reader j link place door l to))
      (λ x here. subst (λ z. Reads (Some wire) (Some z)) (the_same before j wire x at here) (λ p. p, λ p. p))) new there;
  outs = λ j link wire new l from at there.
      all_keeps (λ z. Writes (Some wire) (Some z)) g inputs (wires_changed f outputs before) j (λ place door x p. absurd (no_writer j link place door l from))
      (all_keeps (λ z. Writes (Some wire) (Some z)) f outputs before j (λ place door x p. writes x wire p)
      (λ x here. subst (λ z. Writes (Some wire) (Some z)) (the_same before j wire x at here) (λ p. p, λ p. p))) new there;
}

-- What the strand sees through its doors

module _ (net : Net) (st : State) (d : DeskState) (laid : IsLaid net st d) (s : ℕ) where
  -- the link at an input leads to the strand
  pub leads_to : (i j : ℕ) (link : Link) → Telling.in_door d s i ≡ Some j → slice_get net.links j ≡ Some link → link.to ≡ s
  leads_to i j link door at =
      let l : link_in net st s i ≡ Some link = laid.in_doors s i ∙ ap (link_through net.links) door ∙ at in
      eqb-true _ _ (both (same link.to s) (link.input == i) (found_at (λ k. same k.to s && k.input == i) net.links l).0).0

  -- and the one at an output from it
  pub leads_from : (o j : ℕ) (link : Link) → Telling.out_door d s o ≡ Some j → slice_get net.links j ≡ Some link → link.from ≡ s
  leads_from o j link door at =
      let l : link_out net st s o ≡ Some link = laid.out_doors s o ∙ ap (link_through net.links) door ∙ at in
      eqb-true _ _ (both (same link.from s) (link.output == o) (found_at (λ k. same k.from s && k.output == o) net.links l).0).0

module _ (net : Net) (st : State) (d : DeskState) (laid : IsLaid net st d) (u : ℕ) (after : List WireState) (still : IsStill net.links u d.wires after) where
  -- it sees no more at its inputs
  pub still_in : (i : ℕ) → Reads (Telling.wire_in d u i) (Telling.through after (Telling.in_door d u i))
  still_in i = go (Telling.in_door d u i) refl
    where
      by : (j : ℕ) → Telling.in_door d u i ≡ Some j → (x y : Option WireState) → slice_get d.wires j ≡ x → slice_get after j ≡ y → Reads x y
      by j door None None e f = (λ p. p, λ p. p)
      by j door None (Some y) e f = let z : true ≡ false = sym (ap is_some f) ∙ still.both j ∙ ap is_some e in cc
      by j door (Some x) None e f = let z : false ≡ true = sym (ap is_some f) ∙ still.both j ∙ ap is_some e in cc
      by j door (Some x) (Some y) e f = let b = beside d.wires net.links j x laid.wire_count e in still.ins j b.0 x y b.1 (leads_to net st d laid u i j b.0 door b.1) e f

      go : (door : Option ℕ) → Telling.in_door d u i ≡ door → Reads (Telling.through d.wires door) (Telling.through after door)
      go None e = (λ p. p, λ p. p)
      go (Some j) e = by j e (slice_get d.wires j) (slice_get after j) refl refl

  -- nor at its outputs
  pub still_out : (o : ℕ) → Writes (Telling.wire_out d u o) (Telling.through after (Telling.out_door d u o))
  still_out o = go (Telling.out_door d u o) refl
    where
      by : (j : ℕ) → Telling.out_door d u o ≡ Some j → (x y : Option WireState) → slice_get d.wires j ≡ x → slice_get after j ≡ y → Writes x y
      by j door None None e f = (λ p. p, λ p. p)
      by j door None (Some y) e f = let z : true ≡ false = sym (ap is_some f) ∙ still.both j ∙ ap is_some e in cc
      by j door (Some x) None e f = let z : false ≡ true = sym (ap is_some f) ∙ still.both j ∙ ap is_some e in cc
      by j door (Some x) (Some y) e f = let b = beside d.wires net.links j x laid.wire_count e in still.outs j b.0 x y b.1 (leads_from net st d laid u o j b.0 door b.1) e f

      go : (door : Option ℕ) → Telling.out_door d u o ≡ door → Writes (Telling.through d.wires door) (Telling.through after door)
      go None e = (λ p. p, λ p. p)
      go (Some j) e = by j e (slice_get d.wires j) (slice_get after j) refl refl
