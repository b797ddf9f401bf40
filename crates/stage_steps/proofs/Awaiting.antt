-- What a driver of lists takes as it sees it.
use Rattle.std.proofs.Common.{◌≡◌, ℕ, Bool, List, [], refl, sym, ◌∙◌, ap, None, Option, option_map, inl}
use Rattle.pipe_model.specs.declared.step.Seen.TheVariants.{Saw, Took}
use Rattle.pipe_model.specs.declared.step.Want.TheVariants.{Read}
use Rattle.pipe_model.specs.Row.{Act}
use Rattle.pipe_model.specs.Shape.{Records, Stream}
use Rattle.stage_steps.specs.declared.listed.Listed.{Listed}
use Rattle.stage_steps.specs.declared.place.Place.{Place}
use Rattle.stage_steps.specs.declared.place.Place.TheVariants.{Looking}
use Rattle.stage_steps.specs.declared.reply.Reply.TheVariants.{Takes}
use Rattle.stage_steps.specs.declared.walk.Walk.{Walk}
use Rattle.stage_steps.specs.Awaits.{PassesWithout, TakesWithout, TakesPlainly}
use Rattle.stage_steps.specs.Drivers.{ListedStands}
use Rattle.stage_steps.specs.KeptText.{KeptText}
use Rattle.stage_steps.specs.Kept.{kept_after}
use Rattle.stage_steps.proofs.Replying.{sifted}
use Rattle.stage_steps.proofs.Sifting.{closed}

-- a walk that looks and keeps nothing is the same when a record was seen and taken
looks_again : (w : Walk) (bytes : List ℕ) → w.place ≡ Looking → w.kept ≡ None → w ≡ record w { place = Looking; kept = option_map (kept_after (Took 0) []) (option_map (kept_after (Saw 0) bytes) w.kept) }
looks_again w bytes at keeps =
    let kept_is : w.kept ≡ option_map (kept_after (Took 0) []) (option_map (kept_after (Saw 0) bytes) w.kept) = keeps ∙ ap (λ kept. option_map (kept_after (Took 0) []) (option_map (kept_after (Saw 0) bytes) kept)) (sym keeps) in
    ap (λ (place : Place). record w { place = place }) at ∙ ap (λ (kept : Option KeptText). record w { place = Looking; kept = kept }) kept_is

-- where the lists give a record without the string itself, and its output isn't open, the driver takes it, and is then as before
pub takes_without : {L : Type 0} (stands : L → Bool → Stream → Records → List Act → Type 0) (is_looking : L → Bool) (made : L → Option (List ℕ)) (x : Listed L) (string : List ℕ)
    → TakesPlainly x.walk 1 → PassesWithout stands made (is_looking x.lists) x.lists string → TakesWithout (ListedStands stands is_looking) x string
takes_without stands is_looking made x string plain passes = λ bytes without.
    let lists = x.lists in
    let w = x.walk in
    let kept = option_map (kept_after (Saw 0) bytes) w.kept in
    let sifts = passes bytes without in
    sifted stands is_looking made lists w kept bytes refl plain.0 lists w (Read 0) Takes refl
    (inl (closed stands made (is_looking lists) lists (record w { kept = kept }) plain.0 plain.1 bytes sifts.0 lists sifts.1 sifts.3 1 sifts.2 plain.4 w (Read 0) (looks_again w bytes plain.2 plain.3) Takes refl))
