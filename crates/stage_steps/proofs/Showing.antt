-- What a driver of lists shows.
use Rattle.std.proofs.Common.{◌≡◌, ℕ, Bool, true, false, ◌&&◌, List, [], refl, sym, ap, subst, Some, None, Option, option_map, is_none}
use Rattle.std.specs.Prelude.{unwrap_or}
use Rattle.pipe_model.specs.declared.step.Out.TheVariants.{Fresh}
use Rattle.pipe_model.specs.declared.step.Seen.TheVariants.{Put}
use Rattle.pipe_model.specs.declared.step.Want.TheVariants.{Write}
use Rattle.pipe_model.specs.Row.{Act}
use Rattle.pipe_model.specs.Shape.{Records, Stream}
use Rattle.stage_steps.specs.declared.group.Group.TheVariants.{New}
use Rattle.stage_steps.specs.declared.listed.Listed.{Listed}
use Rattle.stage_steps.specs.declared.place.Place.TheVariants.{Writing}
use Rattle.stage_steps.specs.declared.walk.Walk.{Walk}
use Rattle.stage_steps.specs.Drivers.{ListedStands}
use Rattle.stage_steps.specs.Kept.{kept_after}
use Rattle.stage_steps.specs.Lists.{GivesNext}
use Rattle.stage_steps.specs.Outputs.{none_left}
use Rattle.stage_steps.specs.Showings.{IsGiving, GivesShown}
use Rattle.stage_steps.specs.Walk.{Hears, Fetches, Asks, WritesPlainly}
use Rattle.stage_steps.proofs.Drives.{steps}
use Rattle.stage_steps.proofs.Groups.{passes_none, fetches_one}

module _ {L : Type 0} (stands : L → Bool → Stream → Records → List Act → Type 0) (is_looking : L → Bool) (made : L → Option (List ℕ)) (showing : L → List ℕ) where
  -- a new record for output 0 is asked for, where nothing is in hand and that output is open
  asks_new : (x y : L) (w : Walk) (plain : WritesPlainly w) → GivesNext stands made x y (Some (New 0)) → made y ≡ Some (showing y) → Asks stands made w.outputs.flags.items x w.hand (Writing plain.0.0) y w.hand w.place (Write 0 (Fresh (showing y)))
  asks_new x y w plain gives made_is =
      let flags = w.outputs.flags.items in (
        y,
        Some (New 0),
        subst (λ hand. Fetches stands made flags x hand y (Some (New 0))) (sym plain.1) (fetches_one stands made flags x x y None (New 0) (passes_none stands made flags x) gives plain.3),
        ((λ over t recs acts is. is, plain.1, ap (λ m. Write 0 (Fresh (unwrap_or m []))) (sym made_is)), plain.0.1),
      )

  -- where the lists gave a new record that they show, of at most so many bytes, the driver writes it, once the record was put that it wrote; where they gave none nothing has changed
  pub shows : (most : ℕ) (source : Listed L) (y : L) → is_looking y ≡ is_looking source.lists → WritesPlainly source.walk → (given : Bool) → GivesShown most stands made showing source.lists y given
      → IsGiving most (ListedStands stands is_looking) (λ (x : Listed L). showing x.lists) source (record { lists = y; walk = source.walk }) 0 given
  shows most source y looks_same plain true gives =
      let x = source.lists in
      let w = source.walk in (
        λ s h e t.
            steps stands made (is_looking x) x x y (Put 0) [] w w.kept w.outputs (Writing plain.0.0) w (is_looking y) (Write 0 (Fresh (showing y))) s h e looks_same refl
            (record { stood = t.stood; answer = t.answer; seen_is = t.seen_is; bytes_are = t.bytes_are; room = t.room })
            (subst (λ kept. kept ≡ option_map (kept_after (Put 0) []) kept) (sym plain.2) refl) refl refl
            (subst (λ place. Hears stands (is_looking x) w.order (is_none w.kept && none_left w.outputs.connected w.outputs.flags.items) x place (Put 0) [] x (Writing plain.0.0)) (sym plain.0.1) (refl, refl))
            (asks_new x y w plain gives.0 gives.1),
        gives.2,
      )
  shows most source y looks_same plain false gives = ap (λ (l : L). record { lists = l; walk = source.walk }) gives
