-- What a share does to the other holds.
use Rattle.std.proofs.Common.{inl, inr, ℕ, sym, subst, Option}
use Rattle.std.specs.Prelude.{IsSome}
use Rattle.pipe_model.proofs.Numbers.{equal_or_not}
use Rattle.record_pool.specs.PoolState.{Held, PoolState}
use Rattle.record_pool.specs.Places.{record_at, IsHeld, one_more, shared}
use Rattle.record_pool.proofs.Records.{record_at-same, record_at-other}
use Rattle.record_pool.proofs.Keeps.{one_more-held}

-- what is held stays held when one more hold is taken
pub held_still : (pool : PoolState) (grip other : ℕ) → IsHeld pool other → IsHeld (shared pool grip) other
held_still pool grip other held = elim (equal_or_not other grip) [
  | inl e ↦
      let P : Option Held → Type 0 = λ x. IsSome x in
      let here : IsSome (record_at (shared pool grip) grip) = subst P (sym (record_at-same pool grip (one_more (record_at pool grip)))) (one_more-held (record_at pool grip) (subst (λ z. IsSome (record_at pool z)) e held)) in
      subst (λ z. IsSome (record_at (shared pool grip) z)) (sym e) here
  | inr e ↦ subst IsSome (sym (record_at-other pool grip other (one_more (record_at pool grip)) e)) held
]
