-- One more level is closed.
use Rattle.std.proofs.Common.{arith, rules, ◌≡◌, ◌<◌, ◌≤◌, ◌⊎◌, inl, inr, ℕ, sym, ◌∙◌, ap, pos, slice_get, w32, to_z, of_z}
use Rattle.std.specs.Option.{option_map}
use Rattle.std.proofs.lemmas.Grind.{common_steps}
use Rattle.std.proofs.lemmas.Int.{to_z-of_z}
use Rattle.std.proofs.lemmas.Option.{slice_get-get_or, slice_get_past}
use Rattle.commit_levels.specs.UnitState.{progress_at}
use Rattle.commit_levels.specs.Kept.{closed_level}
use Rattle.commit_levels.proofs.Calls.{changed_more}
use Rattle.commit_levels.proofs.unit.close.Goals as goal

pub loop-place-preserved : goal.loop-place-preserved
loop-place-preserved c =
    let here : slice_get c.loop-place.levels c.loop-place.place ≡ _ =
    slice_get-get_or c.loop-place.levels c.loop-place.place (record { standing = 0; worst = pos 0 }) (grind (arith, common_steps)) in
    rw (c.closed.ensures, c.progress.ensures)
    (changed_more (λ k. closed_level (progress_at k c.args.member.now) (to_z w32 (of_z w32 c.args.code))) c.loop-place.levels c.args.levels.now c.loop-place.place _ c.loop-place.invariant.0 c.loop-place.invariant.1 here)

pub returns : goal.returns
returns c = λ place. by place (before_or_not place)
  where
    wrap : to_z w32 (of_z w32 c.args.code) ≡ c.args.code
    wrap = to_z-of_z w32 c.args.code c.ranges.code

    before_or_not : (place : ℕ) → (place < c.loop-place.place) ⊎ (c.loop-place.place ≤ place)
    before_or_not place = search rules

    by : (place : ℕ) → (place < c.loop-place.place) ⊎ (c.loop-place.place ≤ place) →
        slice_get c.loop-place.levels place ≡ option_map (closed_level (progress_at place c.args.member.now) c.args.code) (slice_get c.args.levels.now place)
    by place (inl m) = rw (sym wrap) (c.loop-place.invariant.0 place m)
    by place (inr m) =
        let now = slice_get_past c.loop-place.levels place (omega (arith, m, c.loop-place.auto.levels, c.loop-place-test.false)) in
        let old = slice_get_past c.args.levels.now place (omega (arith, m, c.loop-place-test.false)) in
        now ∙ sym (ap (option_map (closed_level (progress_at place c.args.member.now) c.args.code)) old)
