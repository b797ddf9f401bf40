-- The last records of a list, and which one leaves them when one more comes.
use Rattle.std.proofs.Common.{◌≡◌, ℕ, suc, ◌+◌, ◌-◌, ◌≤◌, ◌<◌, true, false, List, [], ◌∷◌, ◌++◌, length, take, drop, reverse, sym, ◌∙◌, ap, arith}
use Rattle.std.proofs.lemmas.Bool.Decides.{nat_tests}
use Rattle.std.proofs.lemmas.List.{append_assoc, reverse-append, length-append, length-reverse, length-drop, length_push, drop_at, drop_all, take-append-drop}
use Rattle.pipe_model.specs.declared.kind.Times.{Times}
use Rattle.pipe_model.specs.declared.kind.Times.TheVariants.{Only, All}
use Rattle.pipe_model.specs.Counts.{of_all, is_reached, last_of}
use Rattle.pipe_model.specs.SelectionRows.{leaving}
use Rattle.pipe_model.specs.Shape.{Records}

-- behind a record stand as many as a window holds: it is the one that leaves
leaving-parted : (pre rest : Records) (first : List ℕ) (n : ℕ) → length rest ≡ n → leaving n (pre ++ first ∷ rest) ≡ first ∷ []
leaving-parted pre rest first n size =
    let turned : reverse (pre ++ first ∷ rest) ≡ reverse rest ++ first ∷ reverse pre =
    reverse-append pre (first ∷ rest) ∙ ap (λ l. l ++ reverse pre) (reverse-append (first ∷ []) rest) ∙ append_assoc (reverse rest) (first ∷ []) (reverse pre) in
    ap (λ l. take 1 (drop n l)) turned ∙ ap (take 1) (drop_at (reverse rest) (first ∷ reverse pre) n (length-reverse rest ∙ size))

-- and they are those that stay
last_of-parted : (pre rest : Records) (first : List ℕ) (n : ℕ) → length rest ≡ n → last_of n (pre ++ first ∷ rest) ≡ rest
last_of-parted pre rest first n size =
    let at : length (pre ++ first ∷ rest) - n ≡ length pre + 1 = omega (arith, length-append pre (first ∷ rest), size) in
    ap (λ k. drop k (pre ++ first ∷ rest)) at ∙ ap (drop (length pre + 1)) (sym (append_assoc pre (first ∷ []) rest)) ∙ drop_at (pre ++ first ∷ []) rest (length pre + 1) (length_push pre first)

-- a list of no more than so many is all there is of it
last_of-all : (n : ℕ) (recs : Records) → length recs ≤ n → last_of n recs ≡ recs
last_of-all n recs few = ap (λ k. drop k recs) (let e : length recs - n ≡ 0 = omega (arith, few) in e)

-- what a window of so many holds of these records, and what leaves it with the last of them
pub record Shifts (times : Times) (all held gone : Records) : Type 0 where
  pub stays : held ≡ last_of (of_all times (length all)) all
  pub leaves : leaving (of_all times (length all)) all ≡ gone

short : (n m : ℕ) (recs held : Records) (rec : List ℕ) → length recs ≤ m → length recs < n → held ≡ last_of m recs → (held ++ rec ∷ [] ≡ last_of n (recs ++ rec ∷ [])) × (leaving n (recs ++ rec ∷ []) ≡ [])
short n m recs held rec low high is =
    let all = recs ++ rec ∷ [] in
    let more : length all ≡ length recs + 1 = length_push recs rec in
    let few : length all ≤ n = omega (arith, more, high) in (
      ap (λ l. l ++ rec ∷ []) (is ∙ last_of-all m recs low) ∙ sym (last_of-all n all few),
      ap (take 1) (drop_all n (reverse all) (omega (arith, length-reverse all, few))),
    )

-- a window that isn't full holds one more
pub adds : (times : Times) (recs held : Records) (rec : List ℕ) → held ≡ last_of (of_all times (length recs)) recs → is_reached times (length held) ≡ false → Shifts times (recs ++ rec ∷ []) (held ++ rec ∷ []) []
adds (Only n) recs held rec is room =
    let size : length held ≡ length recs - (length recs - n) = ap length is ∙ length-drop (length recs - n) recs in
    let low : length held < n = grind (arith, nat_tests) in
    let r = short n n recs held rec (omega (arith, size, low)) (omega (arith, size, low)) is in
    record { stays = r.0; leaves = r.1 }
adds All recs held rec is room =
    let r = short (length (recs ++ rec ∷ [])) (length recs) recs held rec (omega arith) (omega (arith, length_push recs rec)) is in
    record { stays = r.0; leaves = r.1 }

-- a full window lets its oldest record go
pub moves : (times : Times) (recs held rest : Records) (rec first : List ℕ) → held ≡ last_of (of_all times (length recs)) recs → is_reached times (length held) ≡ true → held ≡ first ∷ rest →
    Shifts times (recs ++ rec ∷ []) (rest ++ rec ∷ []) (first ∷ [])
moves (Only n) recs held rest rec first is full starts =
    let pre = take (length recs - n) recs in
    let whole : recs ++ rec ∷ [] ≡ pre ++ first ∷ (rest ++ rec ∷ []) =
    ap (λ l. l ++ rec ∷ []) (sym (take-append-drop (length recs - n) recs) ∙ ap (λ l. pre ++ l) (sym is ∙ starts)) ∙ append_assoc pre (first ∷ rest) (rec ∷ []) in
    let held_size : length held ≡ length recs - (length recs - n) = ap length is ∙ length-drop (length recs - n) recs in
    let high : n ≤ length held = grind (arith, nat_tests) in
    let rest_size : length held ≡ suc (length rest) = ap length starts in
    let size : length (rest ++ rec ∷ []) ≡ n = omega (arith, length_push rest rec, held_size, high, rest_size) in
    record {
      stays = sym (ap (last_of n) whole ∙ last_of-parted pre (rest ++ rec ∷ []) first n size);
      leaves = ap (leaving n) whole ∙ leaving-parted pre (rest ++ rec ∷ []) first n size;
    }
moves All recs held rest rec first is full starts = cc

-- a full window of no record lets the record at hand pass
pub passes : (times : Times) (recs held : Records) (rec : List ℕ) → is_reached times (length held) ≡ true → held ≡ [] → Shifts times (recs ++ rec ∷ []) [] (rec ∷ [])
passes (Only n) recs held rec full none =
    let high : n ≤ length held = grind (arith, nat_tests) in
    let size : length held ≡ 0 = ap length none in
    let zero_is : 0 ≡ n = omega (arith, high, size) in
    record { stays = sym (last_of-parted recs [] rec n zero_is); leaves = leaving-parted recs [] rec n zero_is }
passes All recs held rec full none = cc
