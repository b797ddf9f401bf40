use Rattle.std.proofs.Common.{◌≡◌, ℕ, ◌==◌, nat_eq, ◌&&◌, List, [], ◌∷◌, refl, ◌∙◌, ap}
use Rattle.std.specs.List.{starts_with}
use Rattle.pipe_model.specs.Search.{begins}
use Rattle.select_stages.proofs.prefix.begins.Goals as goal

starts-begins : (string rec : List ℕ) → starts_with nat_eq rec string ≡ begins string rec
starts-begins [] rec = refl
starts-begins (s ∷ string) [] = refl
starts-begins (s ∷ string) (r ∷ rec) = ap (λ b. s == r && b) (starts-begins string rec)

pub returns : goal.returns
returns c = c.starts_with.ensures.value ∙ starts-begins c.args.string.now c.args.rec.now
