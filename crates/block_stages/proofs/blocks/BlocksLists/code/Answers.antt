use Rattle.std.proofs.Common.{◌≡◌, pos, cond, ◌∙◌, sym, ap, drop, to_z, of_z, w32, arith}
use Rattle.std.proofs.lemmas.Int.{to_z-of_z}
use Rattle.pipe_model.specs.Parts.{last_part}
use Rattle.block_stages.specs.Cutting.{parts_by, code_by}
use Rattle.block_stages.proofs.Ending.{code_as}
use Rattle.block_stages.proofs.blocks.BlocksLists.code.Goals as goal

pub returns-else-self : goal.returns-else-self
returns-else-self c = λ over t recs acts is ends.
    let x = c.args.self.now in
    let whole : to_z w32 (of_z w32 c.code_at.result) ≡ c.code_at.result = grind (arith, to_z-of_z, c.code_at.type_inv) in
    whole ∙ c.code_at.ensures ∙ ap (λ text. code_by x.cuts (last_part (parts_by x.cuts text))) (c.behind.ensures ∙ ap (drop x.at) c.deref.ensures.value)
    ∙ ap (λ b. cond b (pos 8) (code_by x.cuts (last_part (parts_by x.cuts (drop x.at x.text.items))))) (sym c.if-self.false)
    ∙ code_as x t recs acts over is
