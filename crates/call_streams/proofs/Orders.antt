-- What the replacement of files, one after the other, leaves.
use Rattle.std.proofs.Common.{◌≡◌, ℕ, cond, List, [], ◌∷◌, ◌++◌, refl, ap, Some}
use Rattle.std.specs.Str.{bytes_eq}
use Rattle.outside.specs.Files.{Files}
use Rattle.pipe_model.specs.Reply.{FileText}
use Rattle.call_meaning.specs.Effects.{files_after, in_order_after, inserted}

-- only what stood at the name counts there
pub after_at : (files : List FileText) (old other : Files) (name : List ℕ) → old name ≡ other name → files_after files old name ≡ files_after files other name
after_at [] old other name same = same
after_at (file ∷ files) old other name same =
    after_at files (λ n. cond (bytes_eq n file.0) (Some file.1) (old n)) (λ n. cond (bytes_eq n file.0) (Some file.1) (other n)) name
    (ap (λ z. cond (bytes_eq name file.0) (Some file.1) z) same)

-- first the one and then the other files
pub after_append : (files later : List FileText) (old : Files) → files_after (files ++ later) old ≡ files_after later (files_after files old)
after_append [] later old = refl
after_append (file ∷ files) later old = after_append files later (λ n. cond (bytes_eq n file.0) (Some file.1) (old n))

-- in order, one part after the other
pub order_append : (sorted files later : List FileText) → in_order_after sorted (files ++ later) ≡ in_order_after (in_order_after sorted files) later
order_append sorted [] later = refl
order_append sorted (file ∷ files) later = order_append (inserted file sorted) files later
