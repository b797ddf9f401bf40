-- A strand whose shape is made of lists has the past of these lists.
use Rattle.std.proofs.Common.{◌≡◌, ℕ, Bool, true, false, cond, ◌==◌, List, [], ◌∷◌, refl, sym, ◌∙◌, ap, subst, Some, None, ℤ, pos, negsuc}
use Rattle.std.proofs.lemmas.Option.{same_Some}
use Rattle.std.specs.Ordering.{int_eq}
use Rattle.pipe_model.specs.declared.net.Strand.{Strand}
use Rattle.pipe_model.specs.Event.{Event, taken_from}
use Rattle.pipe_model.specs.Event.Event.{Up, Took, Put, Refused}
use Rattle.pipe_model.specs.Form.{keeping_by}
use Rattle.pipe_model.specs.Records.{text}
use Rattle.pipe_model.specs.Row.{Pair, Act, Row}
use Rattle.pipe_model.specs.Row.Act.{Writes, Repeats, Takes}
use Rattle.pipe_model.specs.Row.Goal.{Asks, Ends}
use Rattle.pipe_model.specs.Shape.{Shape, source, row, listed, dam_plan, writes, list_plan, row_of, each_record, copied}
use Rattle.pipe_model.specs.Shape.Order.{WritesFirst}
use Rattle.pipe_model.specs.Shape.Keeping.{Nothing, Console, File}
use Rattle.pipe_model.specs.Shape.Shape.{Sources, Lists, Sinks, Dams, Queues}
use Rattle.pipe_model.specs.Next.{Phase, Past, past_by, begins_plan, doing, is_refused}
use Rattle.pipe_model.proofs.Pasts.{after}
use Rattle.pipe_model.specs.Next.Phase.{Starting, Doing, Lost}
use Rattle.stage_steps.specs.Coroutine.{kept_by}
use Rattle.stage_steps.specs.Listed.{Listing, lists_of, only_before, list_row}

-- it asks for nothing
abbrev Quiet : Phase → Type 0
Quiet (Doing acts (Asks want)) = ⊥
Quiet _ = Unit {0}

abbrev source_row : List Pair → Row
source_row pairs = list_row WritesFirst false (only_before pairs)

module _ (pairs : List Pair) (outputs : List Bool) where
  abbrev Same : Past → Past → Type 0
  Same p q = (p ≡ q) × (p.known.told ≡ []) × Quiet p.phase

  dropped : (p : Past) (o : ℕ) (acts : List Act) (c : ℤ) → Quiet (cond (is_refused outputs (o ∷ p.refused)) (Doing [] (Ends (pos 0))) (doing outputs (o ∷ p.refused) acts (Ends c)))
  dropped p o acts c = (elim (is_refused outputs (o ∷ p.refused)) as (λ b. Quiet (cond b (Doing [] (Ends (pos 0))) (doing outputs (o ∷ p.refused) acts (Ends c)))) [ true ↦ tt | false ↦ tt ])

  step : (p : Past) (f : Phase) (e : Event) → p.known.told ≡ [] → Quiet f → Quiet p.phase → Same (after (source pairs) outputs p f e) (after (source_row pairs) outputs p f e)
  step p (Starting (negsuc n)) (Up l c) told quiet now = (refl, told, (elim (int_eq c (pos 0)) as (λ b. Quiet (cond b (Starting (pos 0)) (Doing [] (Ends (pos 0))))) [ true ↦ tt | false ↦ tt ]))
  step p (Starting (pos n)) (Up l c) told quiet now = (
    ap (λ t. record p { phase = cond (int_eq c (pos 0)) (begins_plan outputs p.refused (list_plan WritesFirst (only_before pairs) p.known t)) (Doing [] (Ends (pos 0))) }) (sym told),
    told,
    (elim (int_eq c (pos 0)) as (λ b. Quiet (cond b (begins_plan outputs p.refused (record { acts = writes pairs; goal = Ends (pos 0) })) (Doing [] (Ends (pos 0))))) [ true ↦ tt | false ↦ tt ]),
  )
  step p (Starting (negsuc n)) _ told quiet now = (refl, told, tt)
  step p (Starting (pos n)) _ told quiet now = (refl, told, tt)
  step p (Doing [] (Ends c)) e told quiet now = (refl, told, tt)
  step p (Doing (Writes o rec ∷ acts) (Ends c)) (Put o' rec') told quiet now = (refl, told, tt)
  step p (Doing (Writes o rec ∷ acts) (Ends c)) (Refused o') told quiet now = (refl, told, dropped p o' acts c)
  step p (Doing (Writes o rec ∷ acts) (Ends c)) _ told quiet now = (refl, told, tt)
  step p (Doing (Repeats o rec ∷ acts) (Ends c)) (Put o' rec') told quiet now = (refl, told, quiet)
  step p (Doing (Repeats o rec ∷ acts) (Ends c)) (Refused o') told quiet now = (refl, told, dropped p o' acts c)
  step p (Doing (Repeats o rec ∷ acts) (Ends c)) _ told quiet now = (refl, told, tt)
  step p (Doing (Takes i ∷ acts) (Ends c)) (Took i') told quiet now = (refl, told, tt)
  step p (Doing (Takes i ∷ acts) (Ends c)) _ told quiet now = (refl, told, tt)
  step p (Doing acts (Asks want)) e told quiet now = absurd quiet
  step p Lost e told quiet now = (refl, told, tt)

  same_past : (g : List Event) → Same (past_by (source pairs) outputs g) (past_by (source_row pairs) outputs g)
  same_past [] = (refl, refl, tt)
  same_past (e ∷ g) =
      let ih = same_past g in
      let p = past_by (source pairs) outputs g in
      let next = step p p.phase e ih.1 ih.2 ih.2 in
      (next.0 ∙ ap (λ (q : Past). after (source_row pairs) outputs q q.phase e) ih.0, next.1, next.2)

-- Shapes

abbrev pub AreLists : Strand → Shape → Listing → Type 0
AreLists s shape l = (g : List Event) → past_by (row_of s shape) s.ports.has_output g ≡ past_by (list_row l.order l.keeps l.stream) s.ports.has_output g

-- what a shape keeps
abbrev pub Keeps : Shape → Listing → Type 0
Keeps shape l = (l.keeps ≡ false → (g : List Event) → kept_by (keeping_by shape) g ≡ []) × (l.keeps ≡ true → (g : List Event) → kept_by (keeping_by shape) g ≡ text (taken_from 0 g))

module _ (s : Strand) (l : Listing) where
  listed_is : (shape : Shape) (m : Listing) → Some m ≡ Some l → AreLists s shape m → AreLists s shape l
  listed_is shape m is same = subst (AreLists s shape) (same_Some m l is) same

  keeps_is : (shape : Shape) (m : Listing) → Some m ≡ Some l → Keeps shape m → Keeps shape l
  keeps_is shape m is keeps = subst (Keeps shape) (same_Some m l is) keeps

  -- the past of a strand whose shape is made of lists is that of these lists
  pub past_of_lists : (shape : Shape) → lists_of s shape ≡ Some l → AreLists s shape l
  past_of_lists (Sources pairs) is = listed_is (Sources pairs) _ is (λ g. (same_past pairs s.ports.has_output g).0)
  past_of_lists (Lists order t) is = listed_is (Lists order t) _ is (λ g. refl)
  past_of_lists (Sinks Nothing) is = cc
  past_of_lists (Sinks Console) is = listed_is (Sinks Console) _ is (λ g. refl)
  past_of_lists (Sinks (File name)) is = listed_is (Sinks (File name)) _ is (λ g. refl)
  past_of_lists Dams is =
      (elim (s.part == 0) as (λ b. s.part == 0 ≡ b → cond b (Some (record { order = WritesFirst; keeps = false; stream = each_record copied })) None ≡ Some l → AreLists s Dams l) [
        | true ↦ λ first is. listed_is Dams _ is (λ g. ap (λ b. past_by (cond b (listed WritesFirst (each_record copied)) (row (λ k. dam_plan k k.told))) s.ports.has_output g) first)
        | false ↦ λ first is. cc
      ]) refl is
  past_of_lists Queues is = listed_is Queues _ is (λ g. refl)
  past_of_lists _ is = cc

  -- what it keeps
  pub kept_of_lists : (shape : Shape) → lists_of s shape ≡ Some l → Keeps shape l
  kept_of_lists (Sources pairs) is = keeps_is (Sources pairs) _ is ((λ no g. refl), λ no. cc)
  kept_of_lists (Lists order t) is = keeps_is (Lists order t) _ is ((λ no g. refl), λ no. cc)
  kept_of_lists (Sinks Nothing) is = cc
  kept_of_lists (Sinks Console) is = keeps_is (Sinks Console) _ is ((λ no. cc), λ no g. refl)
  kept_of_lists (Sinks (File name)) is = keeps_is (Sinks (File name)) _ is ((λ no. cc), λ no g. refl)
  kept_of_lists Dams is =
      (elim (s.part == 0) as (λ b. cond b (Some (record { order = WritesFirst; keeps = false; stream = each_record copied })) None ≡ Some l → Keeps Dams l) [
        | true ↦ λ is. keeps_is Dams _ is ((λ no g. refl), λ no. cc)
        | false ↦ λ is. cc
      ]) is
  kept_of_lists Queues is = keeps_is Queues _ is ((λ no g. refl), λ no. cc)
  kept_of_lists _ is = cc
