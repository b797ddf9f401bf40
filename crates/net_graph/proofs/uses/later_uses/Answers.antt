use Rattle.std.proofs.Common.{◌≡◌, ◌∙◌, ℕ, List, IfOk, ap, subst}
use Rattle.net_graph.specs.Numbered.{pieces_of}
use Rattle.net_graph.specs.Uses.{later_by}
use Rattle.net_graph.proofs.Assembled.{later_is}
use Rattle.net_graph.proofs.uses.later_uses.Goals as goal

pub returns : goal.returns
returns c =
    let uses = c.deref.ensures.value ∙ c.in_ok-uses.ensures in
    let same = ap (λ (u : List ℕ). later_by u (pieces_of c.args.pipelines.now)) uses ∙ later_is c.args.pipelines.now c.requires in
    subst (λ (later : List ℕ). IfOk c.later_of.result (λ found. found.items ≡ later)) same c.later_of.ensures
