-- The entries of rounds in which one strand's record is put, and the other sees and takes the next one: where they are added to a journal.
use Rattle.std.proofs.Common.{◌≡◌, ◌<◌, ◌≤◌, ◌-◌, ◌*◌, ◌/◌, ℕ, zero, suc, ◌+◌, List, [], ◌∷◌, ◌++◌, length, length-append, refl, sym, ◌∙◌, ap, arith}
use Rattle.std.proofs.Math.Numerals.{add-one}
use Rattle.pipe_model.specs.declared.step.Entry.{Entry}
use Rattle.pipe_model.proofs.Lists.{length_more}
use Rattle.step_journal.specs.Words.{rounds_of}
use Rattle.core_machine.specs.declared.showing.Pair.{Pair}
use Rattle.core_machine.specs.Pairs.{put_of, rounds, took_of}
use Rattle.core_machine.proofs.Steps.{append_three}

-- there are three in each round
rounds_length : (a b c : Entry) (n : ℕ) → length (rounds_of a b c n) ≡ 3 * n
rounds_length a b c zero = refl
rounds_length a b c (suc n) = let before = rounds_length a b c n in omega (arith, before)

-- a round more adds the three at the end
rounds_suc : (a b c : Entry) (n : ℕ) → rounds_of a b c (suc n) ≡ rounds_of a b c n ++ a ∷ b ∷ c ∷ []
rounds_suc a b c zero = refl
rounds_suc a b c (suc n) = ap (λ l. a ∷ b ∷ c ∷ l) (rounds_suc a b c n)

-- so it does behind a journal, entry by entry
pub round_more : (p : Pair) (journal : List Entry) (n : ℕ) →
    journal ++ rounds p (n + 1) ≡ (((journal ++ rounds p n) ++ put_of p ∷ []) ++ took_of p ∷ []) ++ took_of p ∷ []
round_more p journal n =
    ap (λ m. journal ++ rounds p m) (add-one n) ∙ ap (λ l. journal ++ l) (rounds_suc (put_of p) (took_of p) (took_of p) n)
    ∙ sym (append_three journal (rounds p n) (put_of p ∷ took_of p ∷ took_of p ∷ [])) ∙ sym (append_three (journal ++ rounds p n) (put_of p ∷ []) (took_of p ∷ took_of p ∷ []))
    ∙ sym (append_three ((journal ++ rounds p n) ++ put_of p ∷ []) (took_of p ∷ []) (took_of p ∷ []))

-- the length of a journal behind which there are rounds
rounds_behind : (p : Pair) (journal : List Entry) (n : ℕ) → length (journal ++ rounds p n) ≡ length journal + 3 * n
rounds_behind p journal n =
    let long = length-append journal (rounds p n) in
    let three = rounds_length (put_of p) (took_of p) (took_of p) n in
    omega (arith, long, three)

-- where a round more has room below the limit, its first two entries leave some for the third
pub round_space : (p : Pair) (journal : List Entry) (limit most n : ℕ) → length journal + 3 * most ≤ limit → n < most → length (journal ++ rounds p n) + 2 < limit
round_space p journal limit most n fits few = let long = rounds_behind p journal n in omega (arith, long, fits, few)

-- so many rounds have room as a third of what is left below the limit
pub rounds_fit : (journal : List Entry) (limit count : ℕ) → count ≡ length journal → length journal ≤ limit → length journal + 3 * ((limit - count) / 3) ≤ limit
rounds_fit journal limit count counted within = omega (arith, counted, within)

-- Two entries behind the rounds

-- the journal is longer
pub two_longer_by : (p : Pair) (journal : List Entry) (n : ℕ) (longer : List Entry) → longer ≡ ((journal ++ rounds p n) ++ put_of p ∷ []) ++ took_of p ∷ [] → length journal < length longer
two_longer_by p journal n longer is =
    let long : length longer ≡ length (((journal ++ rounds p n) ++ put_of p ∷ []) ++ took_of p ∷ []) = ap (λ (l : List Entry). length l) is in
    let last = length_more ((journal ++ rounds p n) ++ put_of p ∷ []) (took_of p) in
    let before = length_more (journal ++ rounds p n) (put_of p) in
    let front = rounds_behind p journal n in
    omega (arith, long, last, before, front)

-- both fit the room
pub first_fits : (all now : List Entry) (limit room room_now : ℕ) → now ≡ all → length all + 2 < limit → limit ≤ room → room_now ≡ room → length now < room_now
first_fits all now limit room room_now is space fits same =
    let long : length now ≡ length all = ap (λ (l : List Entry). length l) is in
    omega (arith, long, space, fits, same)

pub second_fits : (all now next : List Entry) (e : Entry) (limit room room_now room_next : ℕ) → now ≡ all → next ≡ now ++ e ∷ [] → length all + 2 < limit → limit ≤ room → room_now ≡ room → room_next ≡ room_now →
    length next < room_next
second_fits all now next e limit room room_now room_next is more space fits same still =
    let long : length now ≡ length all = ap (λ (l : List Entry). length l) is in
    let longer : length next ≡ length (now ++ e ∷ []) = ap (λ (l : List Entry). length l) more in
    let last = length_more now e in
    omega (arith, long, longer, last, space, fits, same, still)
