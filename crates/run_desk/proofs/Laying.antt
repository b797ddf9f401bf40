-- Before the first step the doors of a desk lead to the links of its net.
use Rattle.std.proofs.Common.{◌≡◌, ◌≢◌, ◌⊎◌, inl, inr, ℕ, zero, suc, ◌+◌, ◌<◌, ◌≤◌, Bool, true, false, cond, ◌&&◌, ◌==◌, List, [], ◌∷◌, length, replicate, refl, sym, ◌∙◌, ap, subst, arith, Option, Some, None, slice_get}
use Rattle.std.specs.Prelude.{find}
use Rattle.std.specs.Option.{option_map}
use Rattle.pipe_model.specs.declared.net.Link.{Link}
use Rattle.pipe_model.specs.declared.net.Strand.{Strand}
use Rattle.pipe_model.specs.declared.net.Net.{Net}
use Rattle.pipe_model.specs.State.{same, nothing_yet, link_in, link_out}
use Rattle.pipe_model.specs.Licence.{part_down, first_part}
use Rattle.pipe_model.specs.WellFormed.{IsWellFormed}
use Rattle.pipe_model.proofs.Truths.{both}
use Rattle.pipe_model.proofs.Numbers.{equal_or_not, test_same}
use Rattle.pipe_model.proofs.Lists.{at_some}
use Rattle.std.proofs.lemmas.List.{length-replicate}
use Rattle.std.proofs.lemmas.Bool.{eqb-true}
use Rattle.run_desk.specs.Desk.{DoorsState}
use Rattle.run_desk.specs.Telling.{joined, inputs_of, outputs_of, first_of, LeadsBelow, IsJoined}
use Rattle.run_desk.specs.Standing.{link_through}
use Rattle.run_desk.specs.Turns.{list_changed_behind}
use Rattle.run_desk.specs.Blank.{closed_doors, doors_from, led_in, led_out, with_link, with_links}
use Rattle.run_desk.proofs.Lists.{changed_here, changed_there, changed_at, changed_length}

-- Lists

-- what a change doesn't show stays
pub stays : {A B : Type 0} (g : Option A → B) (f : A → A) → ((x : Option A) → g (option_map f x) ≡ g x) → (xs : List A) (k s : ℕ) → g (slice_get (list_changed_behind xs f (Some k)) s) ≡ g (slice_get xs s)
stays {A} {B} g f hidden xs k s = go (equal_or_not s k)
  where
    go : (s ≡ k) ⊎ (s ≢ k) → g (slice_get (list_changed_behind xs f (Some k)) s) ≡ g (slice_get xs s)
    go (inl is) = let P : ℕ → Type 0 = λ z. g (slice_get (list_changed_behind xs f (Some k)) z) ≡ g (slice_get xs z) in subst P (sym is) (ap g (changed_here xs f k) ∙ hidden (slice_get xs k))
    go (inr apart) = ap g (changed_there xs f k s apart)

-- a door that is led to one of so many wires leads there, as the others do
changed_below : (xs : List (Option ℕ)) (wires j k i : ℕ) → j < wires → LeadsBelow wires (joined (slice_get xs i)) → LeadsBelow wires (joined (slice_get (list_changed_behind xs (λ door. Some j) (Some k)) i))
changed_below xs wires j k i few before = subst (λ x. LeadsBelow wires (joined x)) (sym (changed_at xs (λ door. Some j) (Some k) i)) (go (slice_get xs i) (k == i) before)
  where
    go : (x : Option (Option ℕ)) (b : Bool) → LeadsBelow wires (joined x) → LeadsBelow wires (joined (option_map (λ door. cond b (Some j) door) x))
    go None b was = tt
    go (Some door) true was = few
    go (Some door) false was = was

-- One link

abbrev ins : List DoorsState → ℕ → List (Option ℕ)
ins doors s = inputs_of (slice_get doors s)

abbrev outs : List DoorsState → ℕ → List (Option ℕ)
outs doors s = outputs_of (slice_get doors s)

in_led : (i j : ℕ) (x : Option DoorsState) → inputs_of (option_map (led_in i j) x) ≡ list_changed_behind (inputs_of x) (λ door. Some j) (Some i)
in_led i j None = refl
in_led i j (Some x) = refl

out_led : (o j : ℕ) (x : Option DoorsState) → outputs_of (option_map (led_out o j) x) ≡ list_changed_behind (outputs_of x) (λ door. Some j) (Some o)
out_led o j None = refl
out_led o j (Some x) = refl

in_hidden : (o j : ℕ) (x : Option DoorsState) → inputs_of (option_map (led_out o j) x) ≡ inputs_of x
in_hidden o j None = refl
in_hidden o j (Some x) = refl

out_hidden : (i j : ℕ) (x : Option DoorsState) → outputs_of (option_map (led_in i j) x) ≡ outputs_of x
out_hidden i j None = refl
out_hidden i j (Some x) = refl

module _ (doors : List DoorsState) (j : ℕ) (link : Link) where
  abbrev between : List DoorsState
  between = list_changed_behind doors (led_out link.output j) (Some link.from)

  in_here : ins (with_link doors j link) link.to ≡ list_changed_behind (ins doors link.to) (λ door. Some j) (Some link.input)
  in_here =
      ap inputs_of (changed_here between (led_in link.input j) link.to) ∙ in_led link.input j (slice_get between link.to)
      ∙ ap (λ xs. list_changed_behind xs (λ door. Some j) (Some link.input)) (stays inputs_of (led_out link.output j) (in_hidden link.output j) doors link.from link.to)

  in_there : (s : ℕ) → s ≢ link.to → ins (with_link doors j link) s ≡ ins doors s
  in_there s apart = ap inputs_of (changed_there between (led_in link.input j) link.to s apart) ∙ stays inputs_of (led_out link.output j) (in_hidden link.output j) doors link.from s

  out_here : outs (with_link doors j link) link.from ≡ list_changed_behind (outs doors link.from) (λ door. Some j) (Some link.output)
  out_here =
      stays outputs_of (led_in link.input j) (out_hidden link.input j) between link.to link.from
      ∙ ap outputs_of (changed_here doors (led_out link.output j) link.from) ∙ out_led link.output j (slice_get doors link.from)

  out_there : (s : ℕ) → s ≢ link.from → outs (with_link doors j link) s ≡ outs doors s
  out_there s apart = stays outputs_of (led_in link.input j) (out_hidden link.input j) between link.to s ∙ ap outputs_of (changed_there doors (led_out link.output j) link.from s apart)

  first_there : (s : ℕ) → first_of s (slice_get (with_link doors j link) s) ≡ first_of s (slice_get doors s)
  first_there s = stays (first_of s) (led_in link.input j) in_first between link.to s ∙ stays (first_of s) (led_out link.output j) out_first doors link.from s
    where
      in_first : (x : Option DoorsState) → first_of s (option_map (led_in link.input j) x) ≡ first_of s x
      in_first None = refl
      in_first (Some x) = refl

      out_first : (x : Option DoorsState) → first_of s (option_map (led_out link.output j) x) ≡ first_of s x
      out_first None = refl
      out_first (Some x) = refl

-- All links

-- one end of links: `lists` are the doors of strands there, `end` is the strand of a link, and `place` its place
module _ (lists : List DoorsState → ℕ → List (Option ℕ)) (end place : Link → ℕ)
    (here : (doors : List DoorsState) (j : ℕ) (link : Link) → lists (with_link doors j link) (end link) ≡ list_changed_behind (lists doors (end link)) (λ door. Some j) (Some (place link)))
    (there : (doors : List DoorsState) (j : ℕ) (link : Link) (s : ℕ) → s ≢ end link → lists (with_link doors j link) s ≡ lists doors s) where
  abbrev is_at : ℕ → ℕ → Link → Bool
  is_at s i link = same (end link) s && place link == i

  long_link : (doors : List DoorsState) (j : ℕ) (link : Link) (s : ℕ) → length (lists (with_link doors j link) s) ≡ length (lists doors s)
  long_link doors j link s = go (equal_or_not s (end link))
    where
      go : (s ≡ end link) ⊎ (s ≢ end link) → length (lists (with_link doors j link) s) ≡ length (lists doors s)
      go (inl is) =
          let P : ℕ → Type 0 = λ z. length (lists (with_link doors j link) z) ≡ length (lists doors z) in
          subst P (sym is) (ap length (here doors j link) ∙ changed_length (lists doors (end link)) (λ door. Some j) (Some (place link)))
      go (inr apart) = ap length (there doors j link s apart)

  long_links : (doors : List DoorsState) (j : ℕ) (links : List Link) (s : ℕ) → length (lists (with_links doors j links) s) ≡ length (lists doors s)
  long_links doors j [] s = refl
  long_links doors j (link ∷ links) s = long_link (with_links doors (suc j) links) j link s ∙ long_links doors (suc j) links s

  leads_here : (doors : List DoorsState) (j : ℕ) (link : Link) → place link < length (lists doors (end link)) → joined (slice_get (lists (with_link doors j link) (end link)) (place link)) ≡ Some j
  leads_here doors j link fits =
      let old = at_some (lists doors (end link)) (place link) fits in
      ap (λ xs. joined (slice_get xs (place link))) (here doors j link)
      ∙ ap joined (changed_here (lists doors (end link)) (λ door. Some j) (place link) ∙ ap (option_map (λ door. Some j)) old.1)

  leads_on : (doors : List DoorsState) (j : ℕ) (link : Link) (s i : ℕ) → is_at s i link ≡ false → joined (slice_get (lists (with_link doors j link) s) i) ≡ joined (slice_get (lists doors s) i)
  leads_on doors j link s i other = go (equal_or_not s (end link)) (equal_or_not i (place link))
    where
      go : (s ≡ end link) ⊎ (s ≢ end link) → (i ≡ place link) ⊎ (i ≢ place link) → joined (slice_get (lists (with_link doors j link) s) i) ≡ joined (slice_get (lists doors s) i)
      go (inl is) (inl too) =
          let it : is_at s i link ≡ true = ap (λ z. same z s && place link == i) (sym is) ∙ ap (λ b. b && place link == i) (test_same s) ∙ ap (λ z. z == i) (sym too) ∙ test_same i in
          absurd (let z : true ≡ false = sym it ∙ other in cc)
      go (inl is) (inr apart) =
          let P : ℕ → Type 0 = λ z. joined (slice_get (lists (with_link doors j link) z) i) ≡ joined (slice_get (lists doors z) i) in
          subst P (sym is) (ap (λ xs. joined (slice_get xs i)) (here doors j link) ∙ ap joined (changed_there (lists doors (end link)) (λ door. Some j) (place link) i apart))
      go (inr apart) which = ap (λ xs. joined (slice_get xs i)) (there doors j link s apart)

  -- a door leads to the link that is found there
  leads : (whole : List Link) (doors : List DoorsState) (s i : ℕ) → joined (slice_get (lists doors s) i) ≡ None → (links : List Link) (j : ℕ) →
      ((k : ℕ) (link : Link) → slice_get links k ≡ Some link → place link < length (lists doors (end link))) → ((k : ℕ) → slice_get whole (j + k) ≡ slice_get links k) →
      find (is_at s i) links ≡ link_through whole (joined (slice_get (lists (with_links doors j links) s) i))
  leads whole doors s i closed [] j fits beside = ap (link_through whole) (sym closed)
  leads whole doors s i closed (link ∷ links) j fits beside =
      go (is_at s i link) refl (leads whole doors s i closed links (suc j) (λ k l at. fits (suc k) l at) (λ k. ap (slice_get whole) (let e : suc j + k ≡ j + suc k = omega arith in e) ∙ beside (suc k)))
    where
      old : List DoorsState
      old = with_links doors (suc j) links

      found : is_at s i link ≡ true → joined (slice_get (lists (with_link old j link) s) i) ≡ Some j
      found is =
          let t = both (same (end link) s) (place link == i) is in
          let fit : place link < length (lists old (end link)) = omega (arith, fits 0 link refl, long_links doors (suc j) links (end link)) in
          let P : ℕ → Type 0 = λ z. joined (slice_get (lists (with_link old j link) z) i) ≡ Some j in
          let Q : ℕ → Type 0 = λ z. joined (slice_get (lists (with_link old j link) (end link)) z) ≡ Some j in
          subst P (eqb-true (end link) s t.0) (subst Q (eqb-true (place link) i t.1) (leads_here old j link fit))

      go : (b : Bool) → is_at s i link ≡ b → find (is_at s i) links ≡ link_through whole (joined (slice_get (lists old s) i)) →
          cond (is_at s i link) (Some link) (find (is_at s i) links) ≡ link_through whole (joined (slice_get (lists (with_link old j link) s) i))
      go true is rest =
          ap (λ b. cond b (Some link) (find (is_at s i) links)) is
          ∙ sym (ap (slice_get whole) (let e : j ≡ j + 0 = omega arith in e) ∙ beside 0) ∙ sym (ap (link_through whole) (found is))
      go false is rest =
          ap (λ b. cond b (Some link) (find (is_at s i) links)) is ∙ rest ∙ sym (ap (link_through whole) (leads_on old j link s i is))

  -- and it leads to one of so many links
  below_link : (doors : List DoorsState) (j : ℕ) (link : Link) (s i wires : ℕ) → j < wires → ((t : ℕ) → LeadsBelow wires (joined (slice_get (lists doors t) i))) →
      LeadsBelow wires (joined (slice_get (lists (with_link doors j link) s) i))
  below_link doors j link s i wires few before = go (equal_or_not s (end link))
    where
      go : (s ≡ end link) ⊎ (s ≢ end link) → LeadsBelow wires (joined (slice_get (lists (with_link doors j link) s) i))
      go (inl is) =
          let P : ℕ → Type 0 = λ z. LeadsBelow wires (joined (slice_get (lists (with_link doors j link) z) i)) in
          let Q : List (Option ℕ) → Type 0 = λ xs. LeadsBelow wires (joined (slice_get xs i)) in
          subst P (sym is) (subst Q (sym (here doors j link)) (changed_below (lists doors (end link)) wires j (place link) i few (before (end link))))
      go (inr apart) = let Q : List (Option ℕ) → Type 0 = λ xs. LeadsBelow wires (joined (slice_get xs i)) in subst Q (sym (there doors j link s apart)) (before s)

  below_links : (doors : List DoorsState) (i wires : ℕ) → ((t : ℕ) → joined (slice_get (lists doors t) i) ≡ None) → (links : List Link) (j : ℕ) → j + length links ≤ wires →
      (s : ℕ) → LeadsBelow wires (joined (slice_get (lists (with_links doors j links) s) i))
  below_links doors i wires closed [] j few s = subst (LeadsBelow wires) (sym (closed s)) tt
  below_links doors i wires closed (link ∷ links) j few s =
      below_link (with_links doors (suc j) links) j link s i wires (omega (arith, few)) (below_links doors i wires closed links (suc j) (omega (arith, few)))

-- Strands

-- each strand has its doors
at_from : (strands : List Strand) (s n k : ℕ) → (m : ℕ) × (slice_get (doors_from s n strands) k ≡ option_map (closed_doors (s + k) m) (slice_get strands k))
at_from [] s n k = (0, refl)
at_from (strand ∷ strands) s n zero = (n, ap (λ z. Some (closed_doors z n strand)) (let e : s ≡ s + 0 = omega arith in e))
at_from (strand ∷ strands) s n (suc k) =
    let rest = at_from strands (suc s) (n + strand.ports.inputs) k in
    (rest.0, rest.1 ∙ ap (λ z. option_map (closed_doors z rest.0) (slice_get strands k)) (let e : suc s + k ≡ s + suc k = omega arith in e))

-- doors that lead nowhere, and sights that hold nothing
pub leads_nowhere : (n i : ℕ) → joined (slice_get (replicate n None) i) ≡ None
leads_nowhere zero i = refl
leads_nowhere (suc n) zero = refl
leads_nowhere (suc n) (suc i) = leads_nowhere n i

in_closed : (m n i : ℕ) (x : Option Strand) → joined (slice_get (inputs_of (option_map (closed_doors m n) x)) i) ≡ None
in_closed m n i None = refl
in_closed m n i (Some strand) = leads_nowhere strand.ports.inputs i

out_closed : (m n o : ℕ) (x : Option Strand) → joined (slice_get (outputs_of (option_map (closed_doors m n) x)) o) ≡ None
out_closed m n o None = refl
out_closed m n o (Some strand) = leads_nowhere strand.ports.outputs o

first_closed : (s m n : ℕ) (x : Option Strand) → m ≡ s → first_of s (option_map (closed_doors m n) x) ≡ part_down s x
first_closed s m n None is = refl
first_closed s m n (Some strand) is = ap (λ z. part_down z (Some strand)) is

doors_count : (s n : ℕ) (strands : List Strand) → length (doors_from s n strands) ≡ length strands
doors_count s n [] = refl
doors_count s n (strand ∷ strands) = ap suc (doors_count (suc s) (n + strand.ports.inputs) strands)

links_count : (doors : List DoorsState) (j : ℕ) (links : List Link) → length (with_links doors j links) ≡ length doors
links_count doors j [] = refl
links_count doors j (link ∷ links) =
    let old = with_links doors (suc j) links in
    changed_length (list_changed_behind old (led_out link.output j) (Some link.from)) (led_in link.input j) (Some link.to)
    ∙ changed_length old (led_out link.output j) (Some link.from) ∙ links_count doors (suc j) links

-- each strand has doors, and they lead to the links
pub joins : (strands : List Strand) (links : List Link) → IsJoined (length strands) (length links) (with_links (doors_from 0 0 strands) 0 links)
joins strands links = record {
  count = links_count (doors_from 0 0 strands) 0 links ∙ doors_count 0 0 strands;
  ins = λ s i. below_links ins (λ link. link.to) (λ link. link.input) in_here in_there (doors_from 0 0 strands) i (length links)
      (λ t. let own = at_from strands 0 0 t in ap (λ x. joined (slice_get (inputs_of x) i)) own.1 ∙ in_closed (0 + t) own.0 i (slice_get strands t)) links 0 (omega arith) s;
  outs = λ s o. below_links outs (λ link. link.from) (λ link. link.output) out_here out_there (doors_from 0 0 strands) o (length links)
      (λ t. let own = at_from strands 0 0 t in ap (λ x. joined (slice_get (outputs_of x) o)) own.1 ∙ out_closed (0 + t) own.0 o (slice_get strands t)) links 0 (omega arith) s;
}

-- doors with no input and no output lead nowhere
abbrev pub no_doors : DoorsState
no_doors = record { inputs = []; outputs = []; first = 0; first_sight = 0 }

pub joins_nowhere : (n wires : ℕ) → IsJoined n wires (replicate n no_doors)
joins_nowhere n wires = record { count = length-replicate n no_doors; ins = go n; outs = go_out n }
  where
    go : (n s i : ℕ) → LeadsBelow wires (joined (slice_get (inputs_of (slice_get (replicate n no_doors) s)) i))
    go zero s i = tt
    go (suc n) zero i = tt
    go (suc n) (suc s) i = go n s i

    go_out : (n s o : ℕ) → LeadsBelow wires (joined (slice_get (outputs_of (slice_get (replicate n no_doors) s)) o))
    go_out zero s o = tt
    go_out (suc n) zero o = tt
    go_out (suc n) (suc s) o = go_out n s o

module _ (net : Net) (formed : IsWellFormed net) where
  abbrev first_doors : List DoorsState
  first_doors = doors_from 0 0 net.strands

  -- an input leads to its link
  pub leads_in : (s i : ℕ) → link_in net nothing_yet s i ≡ link_through net.links (joined (slice_get (inputs_of (slice_get (with_links (doors_from 0 0 net.strands) 0 net.links) s)) i))
  leads_in s i =
      let own = at_from net.strands 0 0 s in
      leads ins (λ link. link.to) (λ link. link.input) in_here in_there net.links first_doors s i
      (ap (λ x. joined (slice_get (inputs_of x) i)) own.1 ∙ in_closed (0 + s) own.0 i (slice_get net.strands s)) net.links 0
      (λ k link at. let is = formed.joined k link at in
      let there = at_from net.strands 0 0 link.to in
      let e : inputs_of (slice_get first_doors link.to) ≡ replicate is.consumer.ports.inputs None = ap inputs_of (there.1 ∙ ap (option_map (closed_doors (0 + link.to) there.0)) is.to_strand) in
      omega (arith, is.input, ap length e, length-replicate {A = Option ℕ} is.consumer.ports.inputs None))
      (λ k. ap (slice_get net.links) (let e : 0 + k ≡ k = omega arith in e))

  -- an output leads to its link
  pub leads_out : (s o : ℕ) → link_out net nothing_yet s o ≡ link_through net.links (joined (slice_get (outputs_of (slice_get (with_links (doors_from 0 0 net.strands) 0 net.links) s)) o))
  leads_out s o =
      let own = at_from net.strands 0 0 s in
      leads outs (λ link. link.from) (λ link. link.output) out_here out_there net.links first_doors s o
      (ap (λ x. joined (slice_get (outputs_of x) o)) own.1 ∙ out_closed (0 + s) own.0 o (slice_get net.strands s)) net.links 0
      (λ k link at. let is = formed.joined k link at in
      let there = at_from net.strands 0 0 link.from in
      let e : outputs_of (slice_get first_doors link.from) ≡ replicate is.producer.ports.outputs None = ap outputs_of (there.1 ∙ ap (option_map (closed_doors (0 + link.from) there.0)) is.from_strand) in
      omega (arith, is.output, ap length e, length-replicate {A = Option ℕ} is.producer.ports.outputs None))
      (λ k. ap (slice_get net.links) (let e : 0 + k ≡ k = omega arith in e))

  first_still : (links : List Link) (j s : ℕ) → first_of s (slice_get (with_links first_doors j links) s) ≡ first_of s (slice_get first_doors s)
  first_still [] j s = refl
  first_still (link ∷ links) j s = first_there (with_links first_doors (suc j) links) j link s ∙ first_still links (suc j) s

  -- and the first strand of each stage is known
  pub knows_first : (s : ℕ) → first_of s (slice_get (with_links (doors_from 0 0 net.strands) 0 net.links) s) ≡ first_part net nothing_yet s
  knows_first s = (let own = at_from net.strands 0 0 s in first_still net.links 0 s ∙ ap (first_of s) own.1 ∙ first_closed s (0 + s) own.0 (slice_get net.strands s) (omega arith))
