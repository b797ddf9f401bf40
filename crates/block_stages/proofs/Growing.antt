-- A text that grows at its end, cut by its first parts: the parts that are complete stay, and the last is cut on with what comes.
use Rattle.std.proofs.Common.{◌≡◌, ℕ, zero, suc, ◌<◌, ◌≤◌, List, [], ◌∷◌, ◌++◌, length, take, drop, refl, sym, ◌∙◌, ap, arith, Option, Some, None}
use Rattle.std.proofs.lemmas.List.{append-nil, length-drop}
use Rattle.pipe_model.specs.Parts.{without_last, last_part}
use Rattle.pipe_model.specs.Shape.{Records}
use Rattle.block_stages.specs.declared.cuts.Cut.{Cut}
use Rattle.block_stages.specs.Cutting.{IsFirst}
use Rattle.block_stages.proofs.Firsts.{First}

-- Parts with one more before them

abbrev IsSome : Records → Type 0
IsSome parts = (p : List ℕ) × (ps : Records) × (parts ≡ p ∷ ps)

without_more : (p : List ℕ) (parts : Records) → IsSome parts → without_last (p ∷ parts) ≡ p ∷ without_last parts
without_more p [] some = absurd (let no = some.2 in cc no)
without_more p (q ∷ parts) some = refl

last_more : (p : List ℕ) (parts : Records) → IsSome parts → last_part (p ∷ parts) ≡ last_part parts
last_more p [] some = absurd (let no = some.2 in cc no)
last_more p (q ∷ parts) some = refl

-- with some before them
pub without_behind : (given parts : Records) → IsSome parts → without_last (given ++ parts) ≡ given ++ without_last parts
without_behind [] parts some = refl
without_behind (p ∷ []) parts some = without_more p parts some
without_behind (p ∷ q ∷ given) parts some = ap (λ ps. p ∷ ps) (without_behind (q ∷ given) parts some)

pub last_behind : (given parts : Records) → IsSome parts → last_part (given ++ parts) ≡ last_part parts
last_behind [] parts some = refl
last_behind (p ∷ []) parts some = last_more p parts some
last_behind (p ∷ q ∷ given) parts some = last_behind (q ∷ given) parts some

module _ (parts : List ℕ → Records) (first : (text : List ℕ) → First parts text) where
  -- the first, and the others
  pub first_part : (text : List ℕ) (c : Cut) → IsFirst parts text (Some c) → parts text ≡ take c.size (drop c.from text) ∷ parts (drop c.next text)
  first_part text c is = ap parts (sym (append-nil text)) ∙ is.1 [] ∙ ap (λ rest. take c.size (drop c.from text) ∷ parts rest) (append-nil (drop c.next text))

  -- there is a part
  some_by : (text : List ℕ) (cut : Option Cut) → IsFirst parts text cut → IsSome (parts text)
  some_by text None is = (text, [], is)
  some_by text (Some c) is = (take c.size (drop c.from text), parts (drop c.next text), first_part text c is)

  pub some_parts : (text : List ℕ) → IsSome (parts text)
  some_parts text = some_by text (first text).0 (first text).1

  -- where none is complete, the text is the last
  lone_by : (text : List ℕ) (cut : Option Cut) → IsFirst parts text cut → without_last (parts text) ≡ [] → parts text ≡ text ∷ []
  lone_by text None is none = is
  lone_by text (Some c) is none =
      let two = ap without_last (first_part text c is) ∙ without_more (take c.size (drop c.from text)) (parts (drop c.next text)) (some_parts (drop c.next text)) in
      absurd (let no = sym none ∙ two in cc no)

  pub lone_part : (text : List ℕ) → without_last (parts text) ≡ [] → parts text ≡ text ∷ []
  lone_part text none = lone_by text (first text).0 (first text).1 none

  abbrev GrowsOn : List ℕ → List ℕ → Type 0
  GrowsOn text more = parts (text ++ more) ≡ without_last (parts text) ++ parts (last_part (parts text) ++ more)

  grows_by : (text more : List ℕ) (cut : Option Cut) → IsFirst parts text cut → ((rest : List ℕ) → length rest < length text → GrowsOn rest more) → GrowsOn text more
  grows_by text more None is others = ap (λ ps. parts (text ++ more)) is ∙ ap (λ ps. without_last ps ++ parts (last_part ps ++ more)) (sym is)
  grows_by text more (Some c) is others =
      let rest = drop c.next text in
      let p = take c.size (drop c.from text) in
      let filled = is.0.filled in
      let within = is.0.within in
      let some = some_parts rest in
      is.1 more ∙ ap (λ ps. p ∷ ps) (others rest (omega (arith, filled, within, length-drop c.next text)))
      ∙ ap (λ ps. ps ++ parts (last_part (parts rest) ++ more)) (sym (without_more p (parts rest) some))
      ∙ ap (λ last. without_last (p ∷ parts rest) ++ parts (last ++ more)) (sym (last_more p (parts rest) some))
      ∙ ap (λ ps. without_last ps ++ parts (last_part ps ++ more)) (sym (first_part text c is))

  grows : (fuel : ℕ) (text more : List ℕ) → length text ≤ fuel → GrowsOn text more
  grows zero text more few = grows_by text more (first text).0 (first text).1 (λ rest shorter. absurd (omega (arith, few, shorter)))
  grows (suc fuel) text more few = grows_by text more (first text).0 (first text).1 (λ rest shorter. grows fuel rest more (omega (arith, few, shorter)))

  -- the complete parts stay, and the last is cut on
  pub grows_on : (text more : List ℕ) → GrowsOn text more
  grows_on text more = grows (length text) text more (omega arith)
