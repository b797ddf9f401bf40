-- Lists that grow at their end, and the parts that they are cut into.
use Rattle.std.specs.Prelude.{ℕ, ◌-◌, ◌==◌, Bool, true, false, if◌then◌else◌, List, [], ◌∷◌, length, drop}
use Rattle.std.specs.List.{onto_first}
use Rattle.std.specs.declared.option.Option.TheVariants.{Some}
use Rattle.pipe_model.specs.Counts.{earlier, all_on}
use Rattle.pipe_model.specs.Row.{Pair}
use Rattle.pipe_model.specs.Shape.{Records, Stream, each_record}

-- all members but the last
abbrev pub without_last : {X : Type 0} → List X → List X
without_last [] = []
without_last (x ∷ []) = []
without_last (x ∷ y ∷ xs) = x ∷ without_last (y ∷ xs)

-- the last member, if there is one
abbrev pub last_alone : {X : Type 0} → List X → List X
last_alone [] = []
last_alone (x ∷ []) = x ∷ []
last_alone (x ∷ y ∷ xs) = last_alone (y ∷ xs)

-- the last of some parts
abbrev pub last_part : {X : Type 0} → List (List X) → List X
last_part [] = []
last_part (part ∷ []) = part
last_part (part ∷ next ∷ parts) = last_part (next ∷ parts)

-- what the record at hand adds to a list that is made of all records so far, and only grows at its end
abbrev pub grown : {X : Type 0} → (Records → List X) → Records → List X
grown made recs = drop (length (made (earlier recs))) (made recs)

-- no pairs before the end of input, and these then
abbrev pub only_last : (Records → List Pair) → Stream
only_last last = record (each_record (λ recs. [])) { last = Some last }

-- all records so far in parts, of which only the last isn't complete: each part is written with the record that completes it,
-- and at the end what is made of the last one
abbrev pub by_parts : (Records → Records) → (List ℕ → Records) → Stream
by_parts parts end = record (each_record (λ recs. all_on 0 (grown (λ so_far. without_last (parts so_far)) recs))) { last = Some (λ recs. all_on 0 (end (last_part (parts recs)))) }

-- a member before the first part, or as a part of its own
abbrev pub onto_part : {X : Type 0} → Bool → X → List (List X) → List (List X)
onto_part true x parts = (x ∷ []) ∷ parts
onto_part false x parts = onto_first x parts

-- a list, cut after its first `left` members and then after each n; the last part, which may be empty, lacks a member at least
abbrev pub cut_after : {X : Type 0} → ℕ → ℕ → List X → List (List X)
cut_after n left [] = [] ∷ []
cut_after n left (x ∷ xs) = onto_part (left == 1) x (cut_after n (if left == 1 then n else left - 1) xs)

abbrev pub cut_every : {X : Type 0} → ℕ → List X → List (List X)
cut_every n xs = cut_after n n xs
