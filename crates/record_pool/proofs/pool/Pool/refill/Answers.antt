use Rattle.std.proofs.Common.{ℕ, List, length, sym, ◌∙◌, ap}
use Rattle.std.specs.Prelude.{Option, Some}
use Rattle.record_pool.specs.PoolState.{Held}
use Rattle.record_pool.specs.Places.{holders_of, refilled}
use Rattle.record_pool.specs.Blocks.{blocks_of}
use Rattle.record_pool.proofs.Records.{written_held}
use Rattle.record_pool.proofs.Keeps.{keeps_refilled}
use Rattle.record_pool.proofs.pool.Pool.refill.Goals.{in-Own-1, in-Shared-1}
use Rattle.record_pool.proofs.pool.Pool.refill.Goals as goal

pub invariant_of-self : goal.invariant_of-self
invariant_of-self c =
    let counts = c.count_blocks.ensures ∙ ap (λ (bytes : List ℕ). blocks_of (length bytes)) (c.bytes.ensures ∙ ap (λ (held : Held). held.bytes) c.held.view_is) in
    keeps_refilled _ _ _ _ _ _ _ _ _ _ _ _ c.args.rec c.self.invariant c.self.view_is c.grip.view_is c.requires.held c.index_mut.ensures.value c.in-Some.is counts c.requires.short
    (ap (λ (held : Held). Some (refilled c.args.rec held.holders)) c.held.view_is)

pub invariant_of-self-in-Some-2 : goal.invariant_of-self-in-Some-2
invariant_of-self-in-Some-2 c =
    let counts = c.count_blocks.ensures ∙ ap (λ (bytes : List ℕ). blocks_of (length bytes)) (c.bytes.ensures ∙ ap (λ (held : Held). held.bytes) c.held.view_is) in
    keeps_refilled _ _ _ _ _ _ _ _ _ _ _ _ c.args.rec c.self.invariant c.self.view_is c.grip.view_is c.requires.held c.index_mut.ensures.value c.in-Some.is counts c.requires.short
    (ap (λ (held : Held). Some (refilled c.args.rec held.holders)) c.held.view_is)

pub returns-in-Some : goal.returns-in-Some
returns-in-Some c =
    let fill : Option Held → Option Held = λ place. Some (refilled c.args.rec (holders_of place)) in
    let filled = ap (λ (held : Held). Some (refilled c.args.rec held.holders)) c.held.view_is ∙ sym (ap fill c.in-Some.is) in
    let written = written_held fill _ _ _ _ _ _ _ c.self.view_is c.grip.view_is c.requires.held c.index_mut.ensures.value filled in
    elim c.match-held-rec.branch [ in-Own-1 w ↦ w.self-is ∙ written | in-Shared-1 w ↦ w.self-is ∙ written ]
