-- Nets whose stages are fed, one after another.
use Rattle.std.proofs.Common.{◌≡◌, ℕ, zero, suc, ◌||◌, Bool, true, false, List, [], ◌∷◌, length, map, refl, sym, ◌∙◌, ap, ap₂, subst, Some, slice_get, slice_set}
use Rattle.std.specs.List.{list_any}
use Rattle.std.specs.Option.{option_map_or}
use Rattle.pipe_model.specs.declared.net.Net.{Net}
use Rattle.pipe_model.specs.declared.net.Strand.{Strand}
use Rattle.pipe_model.specs.declared.kind.Kind.{Kind}
use Rattle.pipe_model.specs.declared.kind.Kind.TheVariants.{ConsoleIn, FileIn}
use Rattle.net_graph.specs.Fed.{input_kind, reads_any, reads_input, with_bytes, with_input, with_kind}

-- Lists of which the first elements are changed

abbrev pub front_with : {A : Type 0} → (A → A) → ℕ → List A → List A
front_with change zero xs = xs
front_with change (suc k) [] = []
front_with change (suc k) (x ∷ xs) = change x ∷ front_with change k xs

module _ {A : Type 0} (change : A → A) where
  -- the next one is as it was
  pub front_at : (k : ℕ) (xs : List A) → slice_get (front_with change k xs) k ≡ slice_get xs k
  front_at zero xs = refl
  front_at (suc k) [] = refl
  front_at (suc k) (x ∷ xs) = front_at k xs

  -- it is changed, too
  pub front_set : (k : ℕ) (xs : List A) (x : A) → slice_get xs k ≡ Some x → slice_set (front_with change k xs) k (change x) ≡ front_with change (suc k) xs
  front_set zero [] x at = cc
  front_set zero (y ∷ xs) x at = (let same : y ≡ x = cc in ap (λ z. change z ∷ xs) (sym same))
  front_set (suc k) [] x at = cc
  front_set (suc k) (y ∷ xs) x at = ap (λ z. change y ∷ z) (front_set k xs x at)

  -- a change leaves it the same
  front_same : (k : ℕ) (xs : List A) (x : A) → slice_get xs k ≡ Some x → change x ≡ x → front_with change k xs ≡ front_with change (suc k) xs
  front_same zero [] x at same = cc
  front_same zero (y ∷ xs) x at same = (let is : y ≡ x = cc in ap (λ z. z ∷ xs) (is ∙ sym same ∙ ap change (sym is)))
  front_same (suc k) [] x at same = cc
  front_same (suc k) (y ∷ xs) x at same = ap (λ z. change y ∷ z) (front_same k xs x at same)

  -- all are changed
  pub front_all : (xs : List A) → front_with change (length xs) xs ≡ map change xs
  front_all [] = refl
  front_all (x ∷ xs) = ap (λ z. change x ∷ z) (front_all xs)

  pub front_length : (k : ℕ) (xs : List A) → length (front_with change k xs) ≡ length xs
  front_length zero xs = refl
  front_length (suc k) [] = refl
  front_length (suc k) (x ∷ xs) = ap suc (front_length k xs)

  front_none : (xs : List A) → ((k : ℕ) (x : A) → slice_get xs k ≡ Some x → change x ≡ x) → map change xs ≡ xs
  front_none [] same = refl
  front_none (x ∷ xs) same = ap₂ (λ y ys. y ∷ ys) (same 0 x refl) (front_none xs (λ k y at. same (suc k) y at))

-- One kind

-- what reads the input is given it, and nothing else is
pub kind_read : (input : List ℕ) (kind : Kind) → reads_input kind ≡ true → with_bytes input kind ≡ input_kind input kind
kind_read input (ConsoleIn bytes) reads = refl
kind_read input (FileIn name bytes) reads = cc
kind_read input _ reads = refl

pub kind_unread : (input : List ℕ) (kind : Kind) → reads_input kind ≡ false → input_kind input kind ≡ kind
kind_unread input (ConsoleIn bytes) reads = cc
kind_unread input _ reads = refl

-- Nets whose kinds are changed

abbrev pub strand_with : (Kind → Kind) → Strand → Strand
strand_with change p = record p { kind = change p.kind }

abbrev pub net_with : (Kind → Kind) → ℕ → Net → Net
net_with change k net = record net { strands = front_with (strand_with change) k net.strands }

module _ (change : Kind → Kind) where
  -- there are as many strands
  pub with_length : (k : ℕ) (net now : Net) → now ≡ net_with change k net → length now.strands ≡ length net.strands
  with_length k net now is = ap (λ (z : Net). length z.strands) is ∙ front_length (strand_with change) k net.strands

  -- and those behind are as they were
  pub with_at : (k : ℕ) (net now : Net) (p : Strand) → now ≡ net_with change k net → slice_get now.strands k ≡ Some p → slice_get net.strands k ≡ Some p
  with_at k net now p is at = sym (front_at (strand_with change) k net.strands) ∙ ap (λ (z : Net). slice_get z.strands k) (sym is) ∙ at

  pub with_all : (net : Net) → net_with change (length net.strands) net ≡ record net { strands = map (strand_with change) net.strands }
  with_all net = ap (λ strands. record net { strands = strands }) (front_all (strand_with change) net.strands)

  module _ (k : ℕ) (net now : Net) (p : Strand) (is : now ≡ net_with change k net) (at : slice_get now.strands k ≡ Some p) where
    -- one strand more of which the kind stays
    pub with_same : change p.kind ≡ p.kind → now ≡ net_with change (suc k) net
    with_same same = is ∙ ap (λ strands. record net { strands = strands }) (front_same (strand_with change) k net.strands p (with_at k net now p is at) (ap (λ kind. record p { kind = kind }) same))

    -- and one of which it is changed
    pub with_more : (kind : Kind) → kind ≡ change p.kind → with_kind now k kind ≡ net_with change (suc k) net
    with_more kind same =
        ap (λ found. record now { strands = option_map_or (λ (q : Strand). slice_set now.strands k (record q { kind = kind })) found now.strands }) at
        ∙ ap (λ (z : Net). record z { strands = slice_set z.strands k (record p { kind = kind }) }) is
        ∙ ap (λ kind. record net { strands = slice_set (front_with (strand_with change) k net.strands) k (record p { kind = kind }) }) same
        ∙ ap (λ strands. record net { strands = strands }) (front_set (strand_with change) k net.strands p (with_at k net now p is at))

-- a net that reads nothing is given nothing
none_read : (ps : List Strand) → list_any (λ (p : Strand). reads_input p.kind) ps ≡ false → (k : ℕ) (p : Strand) → slice_get ps k ≡ Some p → reads_input p.kind ≡ false
none_read [] none k p at = cc
none_read (q ∷ ps) none zero p at = (let same : q ≡ p = cc in subst (λ (x : Strand). reads_input x.kind ≡ false) same (first (reads_input q.kind) (list_any (λ (p : Strand). reads_input p.kind) ps) none))
  where
    first : (a b : Bool) → (a || b) ≡ false → a ≡ false
    first false b is = refl
    first true b is = cc
none_read (q ∷ ps) none (suc k) p at = none_read ps (rest (reads_input q.kind) (list_any (λ (p : Strand). reads_input p.kind) ps) none) k p at
  where
    rest : (a b : Bool) → (a || b) ≡ false → b ≡ false
    rest false b is = is
    rest true b is = cc

pub input_none : (input : List ℕ) (net : Net) → reads_any net ≡ false → net ≡ with_input input net
input_none input net none = ap (λ strands. record net { strands = strands }) (sym (front_none (strand_with (input_kind input)) net.strands
    (λ k p at. ap (λ kind. record p { kind = kind }) (kind_unread input p.kind (none_read net.strands none k p at)))))
