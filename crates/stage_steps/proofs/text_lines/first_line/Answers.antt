use Rattle.std.proofs.Common.{◌∙◌, sym, Option, Some, None, MatchOption}
use Rattle.stage_steps.proofs.Cuts.{first_line}
use Rattle.stage_steps.proofs.text_lines.first_line.Goals as goal

MatchOption-weaker : {A : Type 0} (r : Option A) (N N' : Type 0) (S S' : A → Type 0) → (N → N') → ((x : A) → S x → S' x) → MatchOption r N S → MatchOption r N' S'
MatchOption-weaker None N N' S S' f g m = f m
MatchOption-weaker (Some x) N N' S S' f g m = g x m

pub returns : goal.returns
returns c = MatchOption-weaker c.next.result _ _ _ _ (λ n. sym c.new.ensures ∙ n.0) (λ line is. first_line c.args.text.now line.now _ (sym c.new.ensures ∙ is)) c.next.ensures.steps
