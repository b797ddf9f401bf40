-- Acts that can be done, and the first of them.
use Rattle.std.proofs.Common.{◌≡◌, ℕ, zero, suc, ◌-◌, Bool, true, false, cond, ◌&&◌, not, ◌==◌, List, [], ◌∷◌, ◌++◌, refl, sym, ◌∙◌, ap, arith, Some, None, Option, pos}
use Rattle.std.specs.Prelude.{filter, replicate, option_map, unwrap_or}
use Rattle.std.proofs.lemmas.Bool.Decides.{nat_tests}
use Rattle.std.proofs.lemmas.List.Elements.{filter-append}
use Rattle.std.proofs.lemmas.Option.{same_Some}
use Rattle.pipe_model.specs.declared.kind.Times.{Times}
use Rattle.pipe_model.specs.declared.kind.Times.TheVariants.{Only, All}
use Rattle.pipe_model.specs.Event.{Want}
use Rattle.pipe_model.specs.Event.Event.{Put, Refused}
use Rattle.pipe_model.specs.Members.{flag_at}
use Rattle.pipe_model.specs.Row.{Pair, Act, Goal, Row}
use Rattle.pipe_model.specs.Row.Act.{Writes, Repeats, Takes}
use Rattle.pipe_model.specs.Shape.{Records, writes}
use Rattle.pipe_model.specs.Next.{Past, is_live, is_refused, want_in}
use Rattle.pipe_model.proofs.Pasts.{after, after_refusal}
use Rattle.pipe_model.proofs.Truths.{both}
use Rattle.pipe_model.specs.Next.Phase.{Doing}
use Rattle.stage_steps.specs.declared.group.Group.{Group}
use Rattle.stage_steps.specs.declared.group.Group.TheVariants.{AtHand, New}
use Rattle.stage_steps.specs.declared.group.Repeat.{Repeat}
use Rattle.stage_steps.specs.declared.place.Follow.{Follow}
use Rattle.stage_steps.specs.declared.place.Follow.TheVariants.{Take, Look, End}
use Rattle.stage_steps.specs.Group.{acts_by, group_acts, held_acts, has_more, is_due, less, less_one, IsOfRecord, IsLeftOfRecord}
use Rattle.stage_steps.specs.Outputs.{open_from, can_do, live}
use Rattle.stage_steps.specs.Listed.{first_write, when_written, and_behind}
use Rattle.stage_steps.proofs.Flags.{flag_open, fewer_open, shut}

-- Filters

filter_same : (p q : Act → Bool) → ((a : Act) → p a ≡ q a) → (acts : List Act) → filter p acts ≡ filter q acts
filter_same p q same [] = refl
filter_same p q same (a ∷ acts) = ap (λ b. cond b (a ∷ filter p acts) (filter p acts)) (same a) ∙ ap (λ l. cond (q a) (a ∷ l) l) (filter_same p q same acts)

filter_twice : (p q : Act → Bool) → ((a : Act) → q a ≡ true → p a ≡ true) → (acts : List Act) → filter q (filter p acts) ≡ filter q acts
filter_twice p q fewer [] = refl
filter_twice p q fewer (a ∷ acts) =
    let ih = filter_twice p q fewer acts in
    (elim (p a) as (λ b. p a ≡ b → filter q (cond b (a ∷ filter p acts) (filter p acts)) ≡ cond (q a) (a ∷ filter q acts) (filter q acts)) [
      | true ↦ λ e. ap (λ l. cond (q a) (a ∷ l) l) ih
      | false ↦ λ e. ih ∙ (elim (q a) as (λ b. q a ≡ b → filter q acts ≡ cond b (a ∷ filter q acts) (filter q acts)) [
        | true ↦ λ e'. let no : true ≡ false = sym (fewer a e') ∙ e in cc
        | false ↦ λ e'. refl
      ]) refl
    ]) refl

can_same : (outputs : List Bool) (refused : List ℕ) (a : Act) → is_live outputs refused a ≡ can_do (open_from 0 outputs refused) a
can_same outputs refused (Writes o rec) = sym (flag_open outputs refused o)
can_same outputs refused (Repeats o rec) = sym (flag_open outputs refused o)
can_same outputs refused (Takes i) = refl

can_fewer : (outputs : List Bool) (refused : List ℕ) (q : ℕ) (a : Act) → can_do (open_from 0 outputs (q ∷ refused)) a ≡ true → can_do (open_from 0 outputs refused) a ≡ true
can_fewer outputs refused q (Writes o rec) h = fewer_open outputs refused q o h
can_fewer outputs refused q (Repeats o rec) h = fewer_open outputs refused q o h
can_fewer outputs refused q (Takes i) h = refl

-- the acts of a plan that can be done are told by the flags
pub live_is : (outputs : List Bool) (refused : List ℕ) (acts : List Act) → filter (is_live outputs refused) acts ≡ live (open_from 0 outputs refused) acts
live_is outputs refused acts = filter_same (is_live outputs refused) (can_do (open_from 0 outputs refused)) (can_same outputs refused) acts

-- and after a refusal
pub live_refused : (outputs : List Bool) (refused : List ℕ) (q : ℕ) (acts : List Act) →
    filter (is_live outputs (q ∷ refused)) (live (open_from 0 outputs refused) acts) ≡ live (open_from 0 outputs (q ∷ refused)) acts
live_refused outputs refused q acts =
    live_is outputs (q ∷ refused) (live (open_from 0 outputs refused) acts)
    ∙ filter_twice (can_do (open_from 0 outputs refused)) (can_do (open_from 0 outputs (q ∷ refused))) (can_fewer outputs refused q) acts

-- The first act, where it writes

pub want_first : (acts : List Act) (goal : Goal) (p : Pair) → first_write acts ≡ Some p → want_in (Doing acts goal) ≡ Some (Want.Write p.0 p.1)
want_first (Writes o rec ∷ acts) goal p is = ap (λ q. Some (Want.Write q.0 q.1)) (same_Some (o, rec) p is)
want_first (Repeats o rec ∷ acts) goal p is = ap (λ q. Some (Want.Write q.0 q.1)) (same_Some (o, rec) p is)
want_first (Takes i ∷ acts) goal p is = cc
want_first [] goal p is = cc

pub after_put : (w : Row) (outputs : List Bool) (p : Past) (acts : List Act) (goal : Goal) (q : Pair) (o : ℕ) (rec : List ℕ) → first_write acts ≡ Some q → p.phase ≡ Doing acts goal →
    after w outputs p (Doing acts goal) (Put o rec) ≡ record p { phase = Doing (when_written acts) goal }
after_put w outputs p (Writes o' rec' ∷ acts) goal q o rec first is = refl
after_put w outputs p (Repeats o' rec' ∷ acts) goal q o rec first is = refl
after_put w outputs p (Takes i ∷ acts) goal q o rec first is = cc
after_put w outputs p [] goal q o rec first is = cc

pub after_refused : (w : Row) (outputs : List Bool) (p : Past) (acts : List Act) (goal : Goal) (q : Pair) (o : ℕ) → first_write acts ≡ Some q → o ≡ q.0 →
    after w outputs p (Doing acts goal) (Refused o) ≡ after_refusal w outputs p o (when_written acts) goal
after_refused w outputs p (Writes o' rec' ∷ acts) goal q o first same = refl
after_refused w outputs p (Repeats o' rec' ∷ acts) goal q o first same =
    let here : o ≡ o' = same ∙ ap (λ r. r.0) (sym (same_Some (o', rec') q first)) in
    let drops : filter (is_live outputs (o ∷ p.refused)) acts ≡ filter (is_live outputs (o ∷ p.refused)) (Repeats o' rec' ∷ acts) =
    ap (λ b. cond b (Repeats o' rec' ∷ filter (is_live outputs (o ∷ p.refused)) acts) (filter (is_live outputs (o ∷ p.refused)) acts)) (sym (shut outputs p.refused o o' here)) in
    ap (λ l. record { known = p.known; refused = o ∷ p.refused; phase = cond (w.yields && is_refused outputs (o ∷ p.refused)) (Doing [] (Goal.Ends (pos 0))) (Doing l goal) }) drops
after_refused w outputs p (Takes i ∷ acts) goal q o first same = cc
after_refused w outputs p [] goal q o first same = cc

-- What stands behind

pub live_behind : (flags : List Bool) (follow : Follow) (acts : List Act) → live flags (and_behind follow acts) ≡ and_behind follow (live flags acts)
live_behind flags Take acts = filter-append (can_do flags) acts (Takes 0 ∷ [])
live_behind flags Look acts = refl
live_behind flags End acts = refl

cons_behind : (follow : Follow) (a : Act) (acts : List Act) → and_behind follow (a ∷ acts) ≡ a ∷ and_behind follow acts
cons_behind Take a acts = refl
cons_behind Look a acts = refl
cons_behind End a acts = refl

-- Groups

-- what is left when one was written
abbrev left_by : Option Times → ℕ → List ℕ → List Act
left_by None o rec = []
left_by (Some times) o rec = acts_by times o rec

left_same : (r : Repeat) (rec : List ℕ) (times : Option Times) → held_acts rec (option_map (λ n. record r { times = n }) times) ≡ left_by times r.output rec
left_same r rec None = refl
left_same r rec (Some times) = refl

left_writes : (n o : ℕ) (rec : List ℕ) → writes (replicate n (o, rec)) ≡ left_by (less (Only (suc n))) o rec
left_writes zero o rec = refl
left_writes (suc m) o rec =
    let more : (suc (suc m) == 1) ≡ false = grind (arith, nat_tests) in
    let one_off : suc m ≡ suc (suc m) - 1 = omega arith in
    ap (λ k. writes (replicate k (o, rec))) one_off ∙ ap (λ b. left_by (cond b None (Some (Only (suc (suc m) - 1)))) o rec) (sym more)

comes_by : (times : Times) (o : ℕ) (rec : List ℕ) (flags : List Bool) (follow : Follow) (rest : List Act) → flag_at flags o ≡ true → has_more times ≡ true →
    (first_write (live flags (and_behind follow (acts_by times o rec ++ rest))) ≡ Some (o, rec))
    × (when_written (live flags (and_behind follow (acts_by times o rec ++ rest))) ≡ live flags (and_behind follow (left_by (less times) o rec ++ rest)))
comes_by (Only zero) o rec flags follow rest opened more = cc
comes_by (Only (suc n)) o rec flags follow rest opened more =
    let others = live flags (and_behind follow (writes (replicate n (o, rec)) ++ rest)) in
    let is : live flags (and_behind follow (writes (replicate (suc n) (o, rec)) ++ rest)) ≡ Writes o rec ∷ others =
    ap (live flags) (cons_behind follow (Writes o rec) (writes (replicate n (o, rec)) ++ rest)) ∙ ap (λ b. cond b (Writes o rec ∷ others) others) opened in
    (ap first_write is, ap when_written is ∙ ap (λ l. live flags (and_behind follow (l ++ rest))) (left_writes n o rec))
comes_by All o rec flags follow rest opened more =
    let others = live flags (and_behind follow rest) in
    let is : live flags (and_behind follow (Repeats o rec ∷ rest)) ≡ Repeats o rec ∷ others =
    ap (live flags) (cons_behind follow (Repeats o rec) rest) ∙ ap (λ b. cond b (Repeats o rec ∷ others) others) opened in
    (ap first_write is, ap when_written is ∙ sym is)

-- what is left of a group that was written once
abbrev pub left_of : Group → Option Repeat
left_of (AtHand r) = less_one r
left_of (New o) = None

-- of a record at hand, as the group was
pub left_seen : (recs : Records) (g : Group) → IsOfRecord recs g → IsLeftOfRecord recs (left_of g)
left_seen recs (AtHand r) some = go (less_one r)
  where
    go : (x : Option Repeat) → IsLeftOfRecord recs x
    go None = tt
    go (Some left) = some
left_seen recs (New o) some = tt

-- the pair that a group writes
abbrev pub pair_of : List ℕ → Option (List ℕ) → Group → Pair
pair_of rec made (AtHand r) = (r.output, rec)
pair_of rec made (New o) = (o, unwrap_or made [])

-- a group that is due comes first, and then what is left of it
pub comes : (g : Group) (rec : List ℕ) (made : Option (List ℕ)) (flags : List Bool) (follow : Follow) (rest : List Act) → is_due flags g ≡ true →
    (first_write (live flags (and_behind follow (group_acts rec made g ++ rest))) ≡ Some (pair_of rec made g))
    × (when_written (live flags (and_behind follow (group_acts rec made g ++ rest))) ≡ live flags (and_behind follow (held_acts rec (left_of g) ++ rest)))
comes (AtHand r) rec made flags follow rest due =
    let is = both (flag_at flags r.output) (has_more r.times) due in
    let first = comes_by r.times r.output rec flags follow rest is.0 is.1 in
    (first.0, first.1 ∙ ap (λ l. live flags (and_behind follow (l ++ rest))) (sym (left_same r rec (less r.times))))
comes (New o) rec made flags follow rest due =
    let first = comes_by (Only 1) o (unwrap_or made []) flags follow rest due refl in
    (first.0, first.1)

none_by : (n o : ℕ) (rec : List ℕ) (flags : List Bool) (rest : List Act) → flag_at flags o ≡ false → live flags (writes (replicate n (o, rec)) ++ rest) ≡ live flags rest
none_by zero o rec flags rest closed = refl
none_by (suc n) o rec flags rest closed =
    let others = live flags (writes (replicate n (o, rec)) ++ rest) in
    ap (λ b. cond b (Writes o rec ∷ others) others) closed ∙ none_by n o rec flags rest closed

not_due_by : (times : Times) (o : ℕ) (rec : List ℕ) (flags : List Bool) (rest : List Act) (opened : Bool) → flag_at flags o ≡ opened → (opened && has_more times) ≡ false → live flags (acts_by times o rec ++ rest) ≡ live flags rest
not_due_by (Only n) o rec flags rest false closed due = none_by n o rec flags rest closed
not_due_by (Only zero) o rec flags rest true closed due = refl
not_due_by (Only (suc n)) o rec flags rest true closed due =
    let some : (suc n == 0) ≡ false = grind (arith, nat_tests) in
    let no : true ≡ false = ap not (sym some) ∙ due in cc
not_due_by All o rec flags rest false closed due = ap (λ b. cond b (Repeats o rec ∷ live flags rest) (live flags rest)) closed
not_due_by All o rec flags rest true closed due = cc

-- a group that isn't due is passed over
pub not_due : (g : Group) (rec : List ℕ) (made : Option (List ℕ)) (flags : List Bool) (rest : List Act) → is_due flags g ≡ false → live flags (group_acts rec made g ++ rest) ≡ live flags rest
not_due (AtHand r) rec made flags rest due = not_due_by r.times r.output rec flags rest (flag_at flags r.output) refl due
not_due (New o) rec made flags rest due = none_by 1 o (unwrap_or made []) flags rest due
