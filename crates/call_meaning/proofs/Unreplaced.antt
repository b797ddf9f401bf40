-- An effect that replaces no file.
use Rattle.std.proofs.Common.{◌≡◌, ℕ, List, [], ◌∷◌, ◌++◌, sym, ◌∙◌}
use Rattle.pipe_model.specs.Reply.{FileText}
use Rattle.call_meaning.specs.Devices.{IsPartDone, Outside}
use Rattle.call_meaning.specs.Effects.{Effect, replaced_by}

none_between : (before behind : List FileText) (file : FileText) → before ++ file ∷ behind ≡ [] → ⊥
none_between [] behind file is = cc
none_between (first ∷ before) behind file is = cc

-- none is the last that it replaces
pub none_last : (effect : Effect) (old new : Outside) (name : List ℕ) → replaced_by effect ≡ [] → IsPartDone name effect old new → ⊥
none_last effect old new name none part = (let files = part.files in none_between files.before files.behind (name, files.text) (sym files.order ∙ none))
