-- Where the fronts of two keys differ, they go as the keys do, and where they are the same and whole, the keys are the same.
use Rattle.std.proofs.Common.{◌≡◌, ℕ, zero, suc, ◌+◌, ◌-◌, ◌*◌, ◌^◌, ◌<◌, ◌≤◌, Bool, true, false, List, [], ◌∷◌, refl, sym, ◌∙◌, ap, subst, arith, ⊎_elim}
use Rattle.std.specs.Prelude.{◌%◌, ◌==◌, nat_lt, not, ◌&&◌, if◌then◌else◌}
use Rattle.std.proofs.lemmas.Bool.{cases_lt, ne_eqb, eq-eqb, lt-ltb, le-ltb, ltb-true}
use Rattle.pipe_model.specs.declared.keys.SortKey.{SortKey}
use Rattle.pipe_model.specs.Keys.{is_less, is_same}
use Rattle.pipe_model.specs.OrderRows.{goes_before}
use Rattle.pipe_model.specs.Ranges.{part_of}
use Rattle.unique_sort.specs.Fronts.{digit, behind_digit, front_on, reach, front, front_of, is_whole, keys_left}

-- the first key is less, and they are parted
record IsBefore (key bytes : List ℕ) : Type 0 where
  less : is_less key bytes ≡ true
  apart : is_same key bytes ≡ false
  back : is_same bytes key ≡ false

pub small_digit : (key : List ℕ) → digit key ≤ 255
small_digit [] = omega arith
small_digit (b ∷ key) = (elim (nat_lt b 255) as (λ c. nat_lt b 255 ≡ c → (if c then b else 255) ≤ 255) [ true ↦ λ e. omega (arith, ltb-true b 255 e) | false ↦ λ e. omega arith ]) refl

-- a byte below FF is its digit, and another is FF
digit_below : (b : ℕ) (key : List ℕ) → b < 255 → (digit (b ∷ key) ≡ b) × (behind_digit (b ∷ key) ≡ key)
digit_below b key low = (ap (λ c. if c then b else 255) (lt-ltb b 255 low), ap (λ c. if c then key else []) (lt-ltb b 255 low))

digit_above : (b : ℕ) (key : List ℕ) → 255 ≤ b → (digit (b ∷ key) ≡ 255) × (behind_digit (b ∷ key) ≡ [])
digit_above b key high = (ap (λ c. if c then b else 255) (le-ltb b 255 high), ap (λ c. if c then key else []) (le-ltb b 255 high))

before_by_byte : (x y : ℕ) (key bytes : List ℕ) → x < y → IsBefore (x ∷ key) (y ∷ bytes)
before_by_byte x y key bytes low =
    let apart : (x == y) ≡ false = ne_eqb x y (λ is. omega (arith, is, low)) in
    let back : (y == x) ≡ false = ne_eqb y x (λ is. omega (arith, is, low)) in record {
      less = ap (λ c. if c then is_less key bytes else nat_lt x y) apart ∙ lt-ltb x y low;
      apart = ap (λ c. c && is_same key bytes) apart;
      back = ap (λ c. c && is_same bytes key) back;
    }

before_by_digit : (key bytes : List ℕ) → digit key < digit bytes → IsBefore key bytes
before_by_digit [] [] low = absurd (omega (arith, low))
before_by_digit [] (y ∷ bytes) low = record { less = refl; apart = refl; back = refl }
before_by_digit (x ∷ key) [] low = absurd (omega (arith, low))
before_by_digit (x ∷ key) (y ∷ bytes) low =
    ⊎_elim
    (λ x_low. let dx = (digit_below x key x_low).0 in
    before_by_byte x y key bytes (⊎_elim (λ y_low. omega (arith, low, dx, (digit_below y bytes y_low).0)) (λ y_high. omega (arith, x_low, y_high)) (cases_lt y 255)))
    (λ x_high. absurd (omega (arith, low, (digit_above x key x_high).0, small_digit (y ∷ bytes))))
    (cases_lt x 255)

-- behind the same digit
before_behind : (key bytes : List ℕ) → digit key ≡ digit bytes → IsBefore (behind_digit key) (behind_digit bytes) → IsBefore key bytes
before_behind [] [] same is = absurd (let e : false ≡ true = is.less in cc)
before_behind [] (y ∷ bytes) same is = record { less = refl; apart = refl; back = refl }
before_behind (x ∷ key) [] same is = absurd (let e : false ≡ true = is.less in cc)
before_behind (x ∷ key) (y ∷ bytes) same is = ⊎_elim by_low by_high (cases_lt x 255)
  where
    by_low : x < 255 → IsBefore (x ∷ key) (y ∷ bytes)
    by_low x_low = ⊎_elim
        (λ y_low.
        let dx = digit_below x key x_low in
        let dy = digit_below y bytes y_low in
        let one : x ≡ y = omega (arith, same, dx.0, dy.0) in
        let rest : IsBefore key bytes = subst (λ k. IsBefore k bytes) dx.1 (subst (IsBefore (behind_digit (x ∷ key))) dy.1 is) in
        let eq : (x == y) ≡ true = eq-eqb x y one in
        let back : (y == x) ≡ true = eq-eqb y x (sym one) in record {
          less = ap (λ c. if c then is_less key bytes else nat_lt x y) eq ∙ rest.less;
          apart = ap (λ c. c && is_same key bytes) eq ∙ rest.apart;
          back = ap (λ c. c && is_same bytes key) back ∙ rest.back;
        })
        (λ y_high. absurd (omega (arith, same, x_low, (digit_below x key x_low).0, (digit_above y bytes y_high).0)))
        (cases_lt y 255)

    by_high : 255 ≤ x → IsBefore (x ∷ key) (y ∷ bytes)
    by_high x_high = ⊎_elim
        (λ y_low. absurd (omega (arith, same, y_low, (digit_below y bytes y_low).0, (digit_above x key x_high).0)))
        (λ y_high.
        let none : IsBefore [] [] = subst (λ k. IsBefore k []) (digit_above x key x_high).1 (subst (IsBefore (behind_digit (x ∷ key))) (digit_above y bytes y_high).1 is) in
        absurd (let e : false ≡ true = none.less in cc))
        (cases_lt y 255)

-- numbers stay apart
stay_apart : (k n m : ℕ) (key bytes : List ℕ) → n < m → front_on k n key < front_on k m bytes
stay_apart zero n m key bytes low = low
stay_apart (suc k) n m key bytes low = stay_apart k (n * 256 + digit key) (m * 256 + digit bytes) (behind_digit key) (behind_digit bytes) (omega (arith, low, small_digit key))

front_tells : (k n : ℕ) (key bytes : List ℕ) → front_on k n key < front_on k n bytes → IsBefore key bytes
front_tells zero n key bytes low = absurd (omega (arith, low))
front_tells (suc k) n key bytes low = ⊎_elim
    (λ less. before_by_digit key bytes less)
    (λ more. ⊎_elim
    (λ greater. absurd (
    let back = stay_apart k (n * 256 + digit bytes) (n * 256 + digit key) (behind_digit bytes) (behind_digit key) (omega (arith, greater)) in
    omega (arith, back, low)))
    (λ not_greater.
    let same : digit key ≡ digit bytes = omega (arith, more, not_greater) in
    before_behind key bytes same (front_tells k (n * 256 + digit bytes) (behind_digit key) (behind_digit bytes) (subst (λ d. front_on k (n * 256 + d) (behind_digit key) < front_on k (n * 256 + digit bytes) (behind_digit bytes)) same low)))
    (cases_lt (digit bytes) (digit key)))
    (cases_lt (digit key) (digit bytes))

-- the same numbers have the same digits before them
same_before : (k n m : ℕ) (key bytes : List ℕ) → front_on k n key ≡ front_on k m bytes → n ≡ m
same_before k n m key bytes same = ⊎_elim
    (λ low. absurd (omega (arith, same, stay_apart k n m key bytes low)))
    (λ high. ⊎_elim
    (λ above. absurd (omega (arith, same, stay_apart k m n bytes key above)))
    (λ not_above. omega (arith, high, not_above))
    (cases_lt m n))
    (cases_lt n m)

-- and the same first digit
same_digit : (k n : ℕ) (key bytes : List ℕ) → front_on (suc k) n key ≡ front_on (suc k) n bytes → digit key ≡ digit bytes
same_digit k n key bytes same = let is = same_before k (n * 256 + digit key) (n * 256 + digit bytes) (behind_digit key) (behind_digit bytes) same in omega (arith, is)

-- behind bytes below FF the rests have the same digits too
same_rest : (k n x y : ℕ) (key bytes : List ℕ) → x < 255 → y < 255 → front_on (suc k) n (x ∷ key) ≡ front_on (suc k) n (y ∷ bytes) →
    front_on k (n * 256 + digit (y ∷ bytes)) key ≡ front_on k (n * 256 + digit (y ∷ bytes)) bytes
same_rest k n x y key bytes x_low y_low same =
    ap (front_on k (n * 256 + digit (y ∷ bytes))) (sym (digit_below x key x_low).1)
    ∙ ap (λ d. front_on k (n * 256 + d) (behind_digit (x ∷ key))) (sym (same_digit k n (x ∷ key) (y ∷ bytes) same))
    ∙ same
    ∙ ap (front_on k (n * 256 + digit (y ∷ bytes))) (digit_below y bytes y_low).1

-- How far digits reach

-- a byte below FF is one more, and with an FF a key reaches one more than the digits
pub reach_below : (k b : ℕ) (key : List ℕ) → b < 255 → reach (suc k) (b ∷ key) ≡ suc (reach k key)
reach_below k b key low = ap (λ c. if c then suc (reach k key) else suc (suc k)) (lt-ltb b 255 low)

pub reach_above : (k b : ℕ) (key : List ℕ) → 255 ≤ b → reach (suc k) (b ∷ key) ≡ suc (suc k)
reach_above k b key high = ap (λ c. if c then suc (reach k key) else suc (suc k)) (le-ltb b 255 high)

-- none reaches farther
reach_within : (k : ℕ) (key : List ℕ) → reach k key ≤ k + 1
reach_within k [] = omega arith
reach_within zero (b ∷ key) = omega arith
reach_within (suc k) (b ∷ key) = ⊎_elim
    (λ low. omega (arith, reach_below k b key low, reach_within k key))
    (λ high. omega (arith, reach_above k b key high))
    (cases_lt b 255)

-- a key of some bytes reaches somewhere
reach_some : (k b : ℕ) (key : List ℕ) → 0 < reach k (b ∷ key)
reach_some zero b key = omega arith
reach_some (suc k) b key = ⊎_elim
    (λ low. omega (arith, reach_below k b key low))
    (λ high. omega (arith, reach_above k b key high))
    (cases_lt b 255)

-- of two keys with the same digits the one that ends first goes before the other
shorter_before : (k n : ℕ) (key bytes : List ℕ) → front_on k n key ≡ front_on k n bytes → reach k key < reach k bytes → IsBefore key bytes
shorter_before k n [] [] same short = absurd (omega (arith, short))
shorter_before k n [] (y ∷ bytes) same short = record { less = refl; apart = refl; back = refl }
shorter_before k n (x ∷ key) [] same short = absurd (omega (arith, short))
shorter_before zero n (x ∷ key) (y ∷ bytes) same short = absurd (omega (arith, short))
shorter_before (suc k) n (x ∷ key) (y ∷ bytes) same short = ⊎_elim
    (λ x_low. ⊎_elim
    (λ y_low.
    let dx = digit_below x key x_low in
    let dy = digit_below y bytes y_low in
    let is = shorter_before k (n * 256 + digit (y ∷ bytes)) key bytes (same_rest k n x y key bytes x_low y_low same) (omega (arith, short, reach_below k x key x_low, reach_below k y bytes y_low)) in
    before_behind (x ∷ key) (y ∷ bytes) (same_digit k n (x ∷ key) (y ∷ bytes) same) (subst (λ l. IsBefore l (behind_digit (y ∷ bytes))) (sym dx.1) (subst (IsBefore key) (sym dy.1) is)))
    (λ y_high. absurd (omega (arith, same_digit k n (x ∷ key) (y ∷ bytes) same, x_low, (digit_below x key x_low).0, (digit_above y bytes y_high).0)))
    (cases_lt y 255))
    (λ x_high. absurd (omega (arith, short, reach_above k x key x_high, reach_within (suc k) (y ∷ bytes))))
    (cases_lt x 255)

-- two keys with the same digits that end where these do are the same
ends_same : (k n : ℕ) (key bytes : List ℕ) → front_on k n key ≡ front_on k n bytes → reach k key ≡ reach k bytes → reach k key ≤ k → is_same key bytes ≡ true
ends_same k n [] [] same ends within = refl
ends_same k n [] (y ∷ bytes) same ends within = absurd (omega (arith, ends, reach_some k y bytes))
ends_same k n (x ∷ key) [] same ends within = absurd (omega (arith, ends, reach_some k x key))
ends_same zero n (x ∷ key) (y ∷ bytes) same ends within = absurd (omega (arith, within))
ends_same (suc k) n (x ∷ key) (y ∷ bytes) same ends within = ⊎_elim
    (λ x_low. ⊎_elim
    (λ y_low.
    let rx = reach_below k x key x_low in
    let one : x ≡ y = omega (arith, same_digit k n (x ∷ key) (y ∷ bytes) same, (digit_below x key x_low).0, (digit_below y bytes y_low).0) in
    ap (λ c. c && is_same key bytes) (eq-eqb x y one)
    ∙ ends_same k (n * 256 + digit (y ∷ bytes)) key bytes (same_rest k n x y key bytes x_low y_low same) (omega (arith, ends, rx, reach_below k y bytes y_low)) (omega (arith, within, rx)))
    (λ y_high. absurd (omega (arith, same_digit k n (x ∷ key) (y ∷ bytes) same, x_low, (digit_below x key x_low).0, (digit_above y bytes y_high).0)))
    (cases_lt y 255))
    (λ x_high. absurd (omega (arith, within, reach_above k x key x_high)))
    (cases_lt x 255)

-- Fronts of so many digits, with how far they reach

-- where they differ, they go as the keys do
goes_at : (k : ℕ) (key bytes : List ℕ) → k < 255 → front_on k 0 key * 256 + reach k key < front_on k 0 bytes * 256 + reach k bytes → IsBefore key bytes
goes_at k key bytes few low = ⊎_elim
    (λ less. front_tells k 0 key bytes less)
    (λ more. ⊎_elim
    (λ greater. absurd (omega (arith, low, few, greater, reach_within k bytes)))
    (λ not_greater.
    let same : front_on k 0 key ≡ front_on k 0 bytes = omega (arith, more, not_greater) in
    shorter_before k 0 key bytes same (omega (arith, low, same)))
    (cases_lt (front_on k 0 bytes) (front_on k 0 key)))
    (cases_lt (front_on k 0 key) (front_on k 0 bytes))

-- where they are the same and have the whole keys, the keys are the same
same_at : (k : ℕ) (key bytes : List ℕ) → k < 255 → front_on k 0 key * 256 + reach k key ≡ front_on k 0 bytes * 256 + reach k bytes → reach k key ≤ k → is_same key bytes ≡ true
same_at k key bytes few same within =
    let ends : reach k key ≡ reach k bytes = omega (arith, same, few, reach_within k key, reach_within k bytes) in
    ends_same k 0 key bytes (omega (arith, same, ends)) ends within

-- the digits fit 56 bits, and a front 64
digits_fit : (key : List ℕ) → front_on 7 0 key < 256 ^ 7
digits_fit key = stay_apart 7 0 1 key [] (omega arith)

pub front_fits : (key : List ℕ) → front key < 2 ^ 64
front_fits key = fits (front_on 7 0 key) (reach 7 key) (digits_fit key) (reach_within 7 key)
  where
    fits : (n r : ℕ) → n < 256 ^ 7 → r ≤ 8 → n * 256 + r < 2 ^ 64
    fits n r low within = omega (arith, low, within)

-- the other way round where the key descends
abbrev turned : Bool → ℕ → ℕ
turned descending n = if descending then 2 ^ 64 - 1 - n else n

-- this parts what differs
turned_same : (descending : Bool) (n m : ℕ) → n < 2 ^ 64 → m < 2 ^ 64 → turned descending n ≡ turned descending m → n ≡ m
turned_same false n m fits also same = same
turned_same true n m fits also same = omega (arith, fits, also, same)

-- where fronts differ, they go as the keys do
pub front_goes : (keys : List SortKey) (rec other : List ℕ) → front_of keys rec < front_of keys other → goes_before keys rec other ≡ true
front_goes [] rec other low = absurd (omega (arith, low))
front_goes (key ∷ keys) rec other low = by key.descending low
  where
    a : List ℕ
    a = part_of key.range rec

    b : List ℕ
    b = part_of key.range other

    over : (n m : ℕ) → 2 ^ 64 - 1 - n < 2 ^ 64 - 1 - m → m < n
    over n m low = omega (arith, low)

    by : (descending : Bool) → turned descending (front a) < turned descending (front b) → (if is_same a b then goes_before keys rec other else if descending then is_less b a else is_less a b) ≡ true
    by false low =
        let is = goes_at 7 a b (omega arith) low in
        ap (λ c. if c then goes_before keys rec other else is_less a b) is.apart ∙ is.less
    by true low =
        let is = goes_at 7 b a (omega arith) (over (front a) (front b) low) in
        ap (λ c. if c then goes_before keys rec other else is_less b a) is.back ∙ is.less

-- a whole front ends neither in 8 nor, the other way round, in 247
whole_ends : (n : ℕ) → is_whole n ≡ true → (n % 256 ≡ 8 → ⊥) × (n % 256 ≡ 247 → ⊥)
whole_ends n whole = (
  λ is. let e : false ≡ true = ap (λ t. not t && not (n % 256 == 247)) (sym (eq-eqb (n % 256) 8 is)) ∙ whole in cc,
  λ is. let e : false ≡ true = sym (neither (not (n % 256 == 8))) ∙ ap (λ t. not (n % 256 == 8) && not t) (sym (eq-eqb (n % 256) 247 is)) ∙ whole in cc,
)
  where
    neither : (t : Bool) → (t && false) ≡ false
    neither true = refl
    neither false = refl

-- so its digits have the whole key
whole_within : (descending : Bool) (n r : ℕ) → n < 256 ^ 7 → r ≤ 8 → is_whole (turned descending (n * 256 + r)) ≡ true → r ≤ 7
whole_within false n r small within whole =
    let ends = (whole_ends (n * 256 + r) whole).0 in
    let last : (n * 256 + r) % 256 ≡ r = omega (arith, within) in
    ⊎_elim (λ low. omega (arith, low)) (λ high. absurd (ends (omega (arith, last, high, within)))) (cases_lt r 8)
whole_within true n r small within whole =
    let ends = (whole_ends (2 ^ 64 - 1 - (n * 256 + r)) whole).1 in
    let last : (2 ^ 64 - 1 - (n * 256 + r)) % 256 ≡ 255 - r = omega (arith, within, small) in
    ⊎_elim (λ low. omega (arith, low)) (λ high. absurd (ends (omega (arith, last, high, within)))) (cases_lt r 8)

-- two keys whose fronts are the same and whole are the same
whole_same : (descending : Bool) (key bytes : List ℕ) → turned descending (front key) ≡ turned descending (front bytes) → is_whole (turned descending (front key)) ≡ true → is_same key bytes ≡ true
whole_same descending key bytes same whole =
    same_at 7 key bytes (omega arith) (turned_same descending (front key) (front bytes) (front_fits key) (front_fits bytes) same)
    (whole_within descending (front_on 7 0 key) (reach 7 key) (digits_fit key) (reach_within 7 key) whole)

-- where they are the same, the keys that are left tell
pub front_left : (keys : List SortKey) (rec other : List ℕ) → front_of keys rec ≡ front_of keys other → goes_before keys rec other ≡ goes_before (keys_left keys (front_of keys rec)) rec other
front_left [] rec other same = refl
front_left (key ∷ keys) rec other same = by (is_whole (front_of (key ∷ keys) rec)) refl
  where
    a : List ℕ
    a = part_of key.range rec

    b : List ℕ
    b = part_of key.range other

    by : (whole : Bool) → is_whole (front_of (key ∷ keys) rec) ≡ whole → goes_before (key ∷ keys) rec other ≡ goes_before (if whole then keys else key ∷ keys) rec other
    by false is = refl
    by true is = ap (λ c. if c then goes_before keys rec other else if key.descending then is_less b a else is_less a b) (whole_same key.descending a b same is)
