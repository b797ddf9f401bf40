-- How the record of a put came up: by which earlier puts, from which strand on.
use Rattle.std.proofs.Common.{◌≡◌, ◌≢◌, ℕ, zero, suc, ◌≤◌, ◌<◌, cond, List, [], ◌∷◌, ◌++◌, length, refl, sym, ◌∙◌, ap, subst, arith, Some, append_assoc}
use Rattle.std.proofs.lemmas.Bool.{ne_eqb}
use Rattle.pipe_model.specs.declared.net.Net.{Net}
use Rattle.pipe_model.specs.declared.net.Link.{Link}
use Rattle.pipe_model.specs.declared.net.Strand.{Strand}
use Rattle.pipe_model.specs.Event.{Event, tooks_on}
use Rattle.pipe_model.specs.State.{State, Who, past, same, nothing_yet, strand_at, link_in}
use Rattle.pipe_model.specs.WellFormed.{IsWellFormed}
use Rattle.pipe_model.specs.Plain.{IsAcyclic}
use Rattle.pipe_model.specs.Tags.{Tag, written, last_input, before_put, tag_on}
use Rattle.pipe_model.proofs.Numbers.{test_same}
use Rattle.pipe_model.proofs.Lists.{length_more}
use Rattle.confluence_laws.proofs.Ranks.{rises_in, lower, fewer, not_all}

-- the put of d behind g leads on to the put of t behind h, by puts of these numbers
pub data Comes (net : Net) (first : State) (d : Who) (g : List Event) : Who → List Event → Tag → Type 0 where
  stays : Comes net first d g d g []
  goes_on : {t : Who} {h : List Event} {r : Tag} (l : Link) → link_in net nothing_yet t (last_input h) ≡ Some l →
      Comes net first d g l.from (before_put l.output (tooks_on (last_input h) h) (past first l.from)) r → Comes net first d g t h (r ++ written h ∷ [])

-- nothing behind a list
nothing_more : (xs : Tag) → xs ++ [] ≡ xs
nothing_more [] = refl
nothing_more (x ∷ xs) = ap (λ z. x ∷ z) (nothing_more xs)

-- from one to a second and on to a third
pub comes_further : (net : Net) (first : State) (d : Who) (g : List Event) (m : Who) (f : List Event) (r : Tag) (t : Who) (h : List Event) (q : Tag) → Comes net first d g m f r → Comes net first m f t h q → Comes net first d g t h (r ++ q)
comes_further net first d g m f r _ _ _ up stays = subst (λ z. Comes net first d g m f z) (sym (nothing_more r)) up
comes_further net first d g m f r t h _ up (goes_on {r = q} l at rest) =
    subst (λ z. Comes net first d g t h z) (append_assoc r q (written h ∷ []))
    (goes_on l at (comes_further net first d g m f r l.from (before_put l.output (tooks_on (last_input h) h) (past first l.from)) q up rest))

-- the tag from a put on
abbrev pub tag_from : Net → State → Who → ℕ → Who → List Event → Tag → Tag
tag_from net first d n t h end = cond (same t d) (written h ∷ end) (tag_on net first d n (link_in net nothing_yet t (last_input h)) (tooks_on (last_input h) h) (written h ∷ end))

module _ (net : Net) (formed : IsWellFormed net) (acyclic : IsAcyclic net) (first : State) where
  -- it comes from no higher rank
  pub comes_down : (d : Who) (g : List Event) (t : Who) (h : List Event) (r : Tag) → Comes net first d g t h r → acyclic.rank d ≤ acyclic.rank t
  comes_down d g _ _ _ stays = omega arith
  comes_down d g t h _ (goes_on {r = r} l at rest) =
      let a = comes_down d g l.from (before_put l.output (tooks_on (last_input h) h) (past first l.from)) r rest in
      let b = rises_in net formed acyclic t (last_input h) l at in
      omega (arith, a, b)

  -- in no more steps than strands rank lower
  pub few_puts : (d : Who) (g : List Event) (t : Who) (h : List Event) (r : Tag) → Comes net first d g t h r → length r ≤ lower net formed acyclic t
  few_puts d g _ _ _ stays = omega arith
  few_puts d g t h _ (goes_on {r = r} l at rest) =
      let a = few_puts d g l.from (before_put l.output (tooks_on (last_input h) h) (past first l.from)) r rest in
      let b = fewer net formed acyclic t (last_input h) l at in
      let c = length_more r (written h) in
      omega (arith, a, b, c)

  -- and its tag is their numbers
  tags_from : (d : Who) (g : List Event) (t : Who) (h : List Event) (r : Tag) → Comes net first d g t h r → (n : ℕ) (end : Tag) → length r ≤ n → tag_from net first d n t h end ≡ written g ∷ (r ++ end)
  tags_from d g _ _ _ stays n end few = ap (λ b. cond b (written g ∷ end) (tag_on net first d n (link_in net nothing_yet d (last_input g)) (tooks_on (last_input g) g) (written g ∷ end))) (test_same d)
  tags_from d g t h _ (goes_on {r = r} l at rest) n end few =
      ap (λ b. cond b (written h ∷ end) (tag_on net first d n (link_in net nothing_yet t (last_input h)) (tooks_on (last_input h) h) (written h ∷ end))) (ne_eqb t d apart)
      ∙ ap (λ z. tag_on net first d n z (tooks_on (last_input h) h) (written h ∷ end)) at
      ∙ by_steps n (let c = length_more r (written h) in omega (arith, c, few)) (λ m le. tags_from d g l.from (before_put l.output (tooks_on (last_input h) h) (past first l.from)) r rest m (written h ∷ end) le)
      ∙ ap (λ z. written g ∷ z) (sym (append_assoc r (written h ∷ []) end))
    where
      apart : t ≢ d
      apart is =
          let a = comes_down d g l.from (before_put l.output (tooks_on (last_input h) h) (past first l.from)) r rest in
          let b = rises_in net formed acyclic t (last_input h) l at in
          let c = ap acyclic.rank is in
          omega (arith, a, b, c)

      by_steps : (n : ℕ) → length r < n → ((m : ℕ) → length r ≤ m → tag_from net first d m l.from (before_put l.output (tooks_on (last_input h) h) (past first l.from)) (written h ∷ end) ≡ written g ∷ (r ++ (written h ∷ end))) →
          tag_on net first d n (Some l) (tooks_on (last_input h) h) (written h ∷ end) ≡ written g ∷ (r ++ (written h ∷ end))
      by_steps zero few rest = absurd (omega (arith, few))
      by_steps (suc n) few rest = rest n (omega (arith, few))

  -- which there are enough steps for
  pub tag_is : (d : Who) (l : Link) (k : ℕ) (g : List Event) (r : Tag) (q : Strand) → strand_at net nothing_yet l.from ≡ Some q → Comes net first d g l.from (before_put l.output k (past first l.from)) r →
      (end : Tag) → tag_on net first d (length net.strands) (Some l) k end ≡ written g ∷ (r ++ end)
  tag_is d l k g r q here comes end = by_steps (length net.strands) (let a = few_puts d g l.from (before_put l.output k (past first l.from)) r comes in let b = not_all net formed acyclic l.from q here in omega (arith, a, b))
    where
      by_steps : (n : ℕ) → length r < n → tag_on net first d n (Some l) k end ≡ written g ∷ (r ++ end)
      by_steps zero few = absurd (omega (arith, few))
      by_steps (suc n) few = tags_from d g l.from (before_put l.output k (past first l.from)) r comes n end (omega (arith, few))

  -- with nothing behind it
  pub tag_of_put : (d : Who) (l : Link) (k : ℕ) (g : List Event) (r : Tag) (q : Strand) → strand_at net nothing_yet l.from ≡ Some q → Comes net first d g l.from (before_put l.output k (past first l.from)) r →
      tag_on net first d (length net.strands) (Some l) k [] ≡ written g ∷ r
  tag_of_put d l k g r q here comes = tag_is d l k g r q here comes [] ∙ ap (λ z. written g ∷ z) (nothing_more r)
