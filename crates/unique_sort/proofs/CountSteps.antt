-- What the tallies of COUNT are, record by record.
use Rattle.std.proofs.Common.{◌≡◌, ℕ, zero, suc, ◌+◌, ◌-◌, ◌<◌, ◌≤◌, ◌^◌, min, List, [], ◌∷◌, ◌++◌, length, take, drop, get_or, slice_set, map, decimal, refl, sym, ◌∙◌, ap, subst, arith, true}
use Rattle.std.specs.List.{All, join_with_byte}
use Rattle.std.proofs.Math.Nat.{min-eq_left}
use Rattle.std.proofs.lemmas.List.{length_push, append_assoc, take_more, map-append}
use Rattle.std.proofs.lemmas.List.Elements.{All-cons, All-tail, All-map}
use Rattle.std.proofs.lemmas.List.Sums.{sum_by-append}
use Rattle.pipe_model.specs.declared.keys.Total.{Total}
use Rattle.pipe_model.specs.declared.keys.Total.TheVariants.{Lines, Words, Bytes}
use Rattle.pipe_model.specs.OrderRows.{total_of, count}
use Rattle.pipe_model.specs.Ranges.{words_from}
use Rattle.pipe_model.specs.Row.Act.{Writes}
use Rattle.pipe_model.specs.Shape.{Records, Stream, writes, acts_of, last_pairs}
use Rattle.stage_steps.specs.Lists.{Sees, Finishes}
use Rattle.unique_sort.specs.declared.count.Counts.{Counts}
use Rattle.unique_sort.specs.declared.count.Tally.{Tally}
use Rattle.unique_sort.specs.Counting.{added_by, tally_with, fresh_tally, sums_line, IsTally, due_act, CountsStand}
use Rattle.unique_sort.proofs.Begun.{words_are_begun, few_begun}

abbrev totals_in : List Tally → List Total
totals_in tallies = map (λ tally. tally.total) tallies

-- Before the first record

pub fresh_totals : (totals : List Total) → totals_in (map fresh_tally totals) ≡ totals
fresh_totals [] = refl
fresh_totals (total ∷ totals) = ap (λ l. total ∷ l) (fresh_totals totals)

none_yet : (total : Total) → IsTally [] (fresh_tally total)
none_yet Lines = (refl, omega arith)
none_yet Words = (refl, omega arith)
none_yet Bytes = (refl, omega arith)

pub fresh_count : (totals : List Total) → All (IsTally []) (map fresh_tally totals)
fresh_count [] = λ k d low. absurd (omega (arith, low))
fresh_count (total ∷ totals) = All-cons (IsTally []) (fresh_tally total) (map fresh_tally totals) (none_yet total) (fresh_count totals)

-- The tallies one by one

-- so many have what the record adds to them
abbrev pub added_to : List ℕ → ℕ → List Tally → List Tally
added_to rec k tallies = map (tally_with rec) (take k tallies) ++ drop k tallies

pub next_added : (rec : List ℕ) (k : ℕ) (tallies : List Tally) (v : Tally) (d : Tally) → k < length tallies → v ≡ tally_with rec (get_or (added_to rec k tallies) k d) → slice_set (added_to rec k tallies) k v ≡ added_to rec (k + 1) tallies
next_added rec zero (tally ∷ tallies) v d low is = ap (λ t. t ∷ tallies) is
next_added rec (suc k) (tally ∷ tallies) v d low is =
    let more : suc k + 1 ≡ suc (k + 1) = omega arith in
    ap (λ l. tally_with rec tally ∷ l) (next_added rec k tallies v d (omega (arith, low)) is) ∙ ap (λ n. added_to rec n (tally ∷ tallies)) (sym more)
next_added rec k [] v d low is = absurd (omega (arith, low))

-- One record more

total_push : (recs : Records) (rec : List ℕ) (total : Total) → total_of (recs ++ rec ∷ []) total ≡ total_of recs total + added_by rec total
total_push recs rec Lines = length_push recs rec
total_push recs rec Words = omega (arith, sum_by-append (λ r. length (words_from 0 r)) recs (rec ∷ []))
total_push recs rec Bytes = omega (arith, sum_by-append length recs (rec ∷ []))

few_added : (rec : List ℕ) (total : Total) → length rec < 2 ^ 64 → added_by rec total ≤ 2 ^ 64
few_added rec Lines short = omega arith
few_added rec Words short = omega (arith, short, words_are_begun 0 rec, few_begun true rec)
few_added rec Bytes short = omega (arith, short)

tally_push : (recs : Records) (rec : List ℕ) (tally : Tally) → length recs < 50000000 → length rec < 2 ^ 64 → IsTally recs tally → IsTally (recs ++ rec ∷ []) (tally_with rec tally)
tally_push recs rec tally room short is =
    let sum = tally.sum + added_by rec tally.total in
    let added = few_added rec tally.total short in
    let fits : sum ≤ 2 ^ 128 - 1 = omega (arith, is.1, room, added) in
    let kept : min sum (2 ^ 128 - 1) ≡ sum = min-eq_left fits in
    let more = length_push recs rec in (
      kept ∙ ap (λ n. n + added_by rec tally.total) is.0 ∙ sym (total_push recs rec tally.total),
      omega (arith, kept, is.1, added, more),
    )

same_totals : (rec : List ℕ) (tallies : List Tally) → totals_in (map (tally_with rec) tallies) ≡ totals_in tallies
same_totals rec [] = refl
same_totals rec (tally ∷ tallies) = ap (λ l. tally.total ∷ l) (same_totals rec tallies)

all_push : (recs : Records) (rec : List ℕ) (tallies : List Tally) → length recs < 50000000 → length rec < 2 ^ 64 → All (IsTally recs) tallies → All (IsTally (recs ++ rec ∷ [])) (map (tally_with rec) tallies)
all_push recs rec tallies room short all = All-map (IsTally (recs ++ rec ∷ [])) (tally_with rec) tallies (λ k d low. tally_push recs rec (get_or tallies k d) room short (all k d low))

pub sees_counted : (x y : Counts) (bytes : List ℕ) → length bytes < 2 ^ 64 → y.tallies.items ≡ map (tally_with bytes) x.tallies.items → y.new ≡ x.new → y.due ≡ x.due → Sees CountsStand true x y bytes
sees_counted x y bytes short counted new_is due_is = λ t recs rec is room came.
    let all = recs ++ rec ∷ [] in
    let bytes_are = came refl in
    let now : y.tallies.items ≡ map (tally_with rec) x.tallies.items = counted ∙ ap (λ r. map (tally_with r) x.tallies.items) bytes_are in
    let small : length rec < 2 ^ 64 = subst (λ r. length r < 2 ^ 64) bytes_are short in (
      is.0 ∙ ap count (sym (same_totals rec x.tallies.items)) ∙ ap (λ l. count (totals_in l)) (sym now),
      subst (All (IsTally all)) (sym now) (all_push recs rec x.tallies.items room small is.1),
      ap (λ (t : Stream). acts_of t.outs all) is.0 ∙ is.2 ∙ ap (λ d. due_act d x.new) (sym due_is) ∙ ap (due_act y.due) (sym new_is),
    )

-- At the end of input

same_line : (recs : Records) (tallies : List Tally) → All (IsTally recs) tallies → map (λ tally. decimal tally.sum) tallies ≡ map (λ total. decimal (total_of recs total)) (totals_in tallies)
same_line recs [] all = refl
same_line recs (tally ∷ tallies) all =
    let first : IsTally recs tally = all 0 tally (omega arith) in
    ap (λ n. decimal n ∷ map (λ t. decimal t.sum) tallies) first.0 ∙ ap (λ l. decimal (total_of recs tally.total) ∷ l) (same_line recs tallies (All-tail (IsTally recs) tally tallies all))

pub ends_counted : (x y : Counts) → y.tallies.items ≡ x.tallies.items → y.new ≡ sums_line x.tallies.items → y.due ≡ true → Finishes CountsStand x y
ends_counted x y tallies_are new_is due_is = λ t recs is. (
  is.0 ∙ ap (λ l. count (totals_in l)) (sym tallies_are),
  tt,
  ap (λ (t : Stream). writes (last_pairs t.last recs)) is.0 ∙ ap (λ l. Writes 0 (join_with_byte 32 l) ∷ []) (sym (same_line recs x.tallies.items is.1)) ∙ ap (λ l. Writes 0 l ∷ []) (sym new_is) ∙ ap (λ d. due_act d y.new) (sym due_is),
)

-- The line of the totals, number by number

abbrev numbers : List Tally → List (List ℕ)
numbers tallies = map (λ tally. decimal tally.sum) tallies

one_more : (x : List ℕ) (xs : List (List ℕ)) (y : List ℕ) → join_with_byte 32 ((x ∷ xs) ++ y ∷ []) ≡ (join_with_byte 32 (x ∷ xs) ++ 32 ∷ []) ++ y
one_more x [] y = sym (append_assoc x (32 ∷ []) y)
one_more x (z ∷ xs) y = ap (λ l. x ++ 32 ∷ l) (one_more z xs y) ∙ sym (append_assoc x (32 ∷ (join_with_byte 32 (z ∷ xs) ++ 32 ∷ [])) y) ∙ ap (λ l. l ++ y) (sym (append_assoc x (32 ∷ join_with_byte 32 (z ∷ xs)) (32 ∷ [])))

-- one number more
pub line_more : (k : ℕ) (tallies : List Tally) (d : Tally) → 0 < k → k < length tallies → sums_line (take (k + 1) tallies) ≡ (sums_line (take k tallies) ++ 32 ∷ []) ++ decimal (get_or tallies k d).sum
line_more zero tallies d some low = absurd (omega (arith, some))
line_more (suc k) [] d some low = absurd (omega (arith, low))
line_more (suc k) (tally ∷ tallies) d some low =
    ap sums_line (take_more (tally ∷ tallies) (suc k) d low)
    ∙ ap (join_with_byte 32) (map-append (λ (t : Tally). decimal t.sum) (take (suc k) (tally ∷ tallies)) (get_or tallies k d ∷ []))
    ∙ one_more (decimal tally.sum) (numbers (take k tallies)) (decimal (get_or tallies k d).sum)

pub line_first : (tallies : List Tally) (d : Tally) → 0 < length tallies → sums_line (take 1 tallies) ≡ decimal (get_or tallies 0 d).sum
line_first [] d some = absurd (omega (arith, some))
line_first (tally ∷ tallies) d some = refl
