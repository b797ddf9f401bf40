-- What a driver of lists answers to the sight of a record.
use Rattle.std.proofs.Common.{◌≡◌, ℕ, Bool, true, cond, List, [], ◌∷◌, refl, sym, ◌∙◌, ap, subst, Option, option_map, ◌⊎◌, inl, inr}
use Rattle.pipe_model.specs.declared.step.Seen.TheVariants.{Saw, Took}
use Rattle.pipe_model.specs.declared.step.Want.{Want}
use Rattle.pipe_model.specs.declared.step.Want.TheVariants.{Read, Take}
use Rattle.pipe_model.specs.declared.net.Strand.{Strand}
use Rattle.pipe_model.specs.Event.{Event}
use Rattle.pipe_model.specs.Row.{Act}
use Rattle.pipe_model.specs.Shape.{Records, Stream}
use Rattle.stage_steps.specs.declared.listed.Listed.{Listed}
use Rattle.stage_steps.specs.declared.place.Place.{Place}
use Rattle.stage_steps.specs.declared.place.Place.TheVariants.{Looking, Taking, Passing, Ending}
use Rattle.stage_steps.specs.declared.reply.Reply.{Reply}
use Rattle.stage_steps.specs.declared.walk.Walk.{Walk}
use Rattle.stage_steps.specs.Coroutine.{Resumes}
use Rattle.stage_steps.specs.Drivers.{ListedStands}
use Rattle.stage_steps.specs.KeptText.{KeptText}
use Rattle.stage_steps.specs.Kept.{kept_after}
use Rattle.stage_steps.specs.Lists.{Sees, Tells}
use Rattle.stage_steps.specs.Places.{sight_place, place_with}
use Rattle.stage_steps.specs.Replies.{Replies}
use Rattle.stage_steps.specs.Walk.{Hears, IsReply, LooksPlainly, AsksOn, TakesOn, SiftsOn}
use Rattle.stage_steps.proofs.Drives.{steps}
use Rattle.stage_steps.proofs.GoingOn.{goes, unwritten}
use Rattle.stage_steps.proofs.PassingOn.{stays, told_so}

module _ {L : Type 0} (stands : L → Bool → Stream → Records → List Act → Type 0) (is_looking : L → Bool) where
  abbrev Stood : Listed L → Strand → List Event → Type 0
  Stood = ListedStands stands is_looking

  abbrev with_walk : L → Walk → Listed L
  with_walk x w = record { lists = x; walk = w }

  abbrev Saws : Listed L → Listed L → List ℕ → Want → Type 0
  Saws before after bytes want = Resumes Stood before after (Saw 0) bytes want

  -- it may pass the record on, when it was told of the sight
  passed : (before : Listed L) (y : L) (w v : Walk) (want : Want) (bytes : List ℕ) → Saws before (with_walk y w) bytes want → ((s : Strand) (h : List Event) → Stood (with_walk y w) s h → Stood (with_walk y v) s h) → Saws before (with_walk y v) bytes want
  passed before y w v want bytes resumes same = λ s h e told. let done = resumes s h e told in (same s (e ∷ h) done.0, done.1, done.2)

  -- what it wants then makes the answer
  pub replied : (before : Listed L) (y : L) (w v : Walk) (want asked : Want) (bytes : List ℕ) (reply : Reply) → Saws before (with_walk y w) bytes want → IsReply stands y w want v asked reply → Replies Stood before (with_walk y v) bytes asked reply
  replied before y w v want asked bytes Reply.Takes resumes is = (with_walk y w, subst (Saws before (with_walk y w) bytes) is.0 resumes, goes stands is_looking y w v is.1)
  replied before y w v want asked bytes Reply.Passes resumes is =
      (subst (Saws before (with_walk y v) bytes) (sym is.0) (passed before y w v want bytes resumes (stays stands is_looking y w v true is.1)), told_so stands is_looking y w v is.1)
  replied before y w v want asked bytes Reply.Asks resumes is = subst (λ u. Saws before (with_walk y u) bytes asked) (sym is.1) (subst (Saws before (with_walk y w) bytes) (sym is.0) resumes)

  module _ (made : L → Option (List ℕ)) (x : L) (w : Walk) (kept : Option KeptText) (bytes : List ℕ) (kept_is : kept ≡ option_map (kept_after (Saw 0) bytes) w.kept) where
    abbrev seen : Walk
    seen = record w { kept = kept }

    -- it hears of the sight in either of the two places
    heard : (gives_up : Bool) (between : L) (from : Place) → Sees stands (is_looking x) x between bytes → Tells stands between from (sight_place w.order) → ((w.place ≡ Looking) ⊎ (w.place ≡ Passing)) → Hears stands (is_looking x) w.order gives_up x w.place (Saw 0) bytes between from
    heard gives_up between from sees tells (inl at) = subst (λ place. Hears stands (is_looking x) w.order gives_up x place (Saw 0) bytes between from) (sym at) (sees, tells)
    heard gives_up between from sees tells (inr at) = subst (λ place. Hears stands (is_looking x) w.order gives_up x place (Saw 0) bytes between from) (sym at) (sees, tells)

    -- so do the lists, where they ask for what comes next
    asked_on : LooksPlainly w → (y : L) (v : Walk) (asked : Want) (reply : Reply) → is_looking y ≡ is_looking x → AsksOn stands made (is_looking x) x seen bytes y v asked reply → Replies Stood (with_walk x w) (with_walk y v) bytes asked reply
    asked_on plain y v asked reply looks_same sifts =
        let between = sifts.0 in
        let from = sifts.1 in
        let walk = record seen { place = sifts.3; hand = sifts.2 } in
        replied (with_walk x w) y walk v sifts.4 asked bytes reply (λ s h e t.
        steps stands made (is_looking x) x between y (Saw 0) bytes w kept w.outputs from walk (is_looking y) sifts.4 s h e looks_same refl
        (record { stood = t.stood; answer = t.answer; seen_is = t.seen_is; bytes_are = t.bytes_are; room = t.room })
        kept_is refl refl (heard _ between from sifts.5 sifts.6 plain.0) sifts.7) sifts.8

    -- and where the record is taken at once
    taken_on : LooksPlainly w → (y : L) (v : Walk) (asked : Want) (reply : Reply) → is_looking y ≡ is_looking x → TakesOn stands is_looking x seen bytes y v reply → Replies Stood (with_walk x w) (with_walk y v) bytes asked reply
    taken_on plain y v asked reply looks_same takes =
        let between = takes.0 in
        let before = takes.3 in
        let walk : Walk = record seen { place = Taking } in
        let tells : Tells stands between Taking (sight_place w.order) =
        λ over t recs acts is. sym (ap (λ halts. cond halts (Ending (t.code recs)) (place_with w.order)) (sym (before.1 over t recs acts is)) ∙ ap place_with before.0) in
        let saw : Saws (with_walk x w) (with_walk between walk) bytes (Take 0) =
        λ s h e t. steps stands made (is_looking x) x between between (Saw 0) bytes w kept w.outputs Taking walk (is_looking between) (Take 0) s h e takes.1 refl
        (record { stood = t.stood; answer = t.answer; seen_is = t.seen_is; bytes_are = t.bytes_are; room = t.room })
        kept_is refl refl (heard _ between Taking takes.2 tells plain.0) (refl, refl, refl, refl) in
        let took = unwritten stands is_looking between walk refl plain.1 before.0 before.2 y takes.4 (looks_same ∙ sym takes.1) in
        subst (Replies Stood (with_walk x w) (with_walk y v) bytes asked) (sym takes.6)
        (with_walk between walk, saw, subst (λ u. Resumes Stood (with_walk between walk) (with_walk y u) (Took 0) [] (Read 0)) (sym takes.5) took)

    -- so they sift the record
    pub sifted : LooksPlainly w → (y : L) (v : Walk) (asked : Want) (reply : Reply) → is_looking y ≡ is_looking x → SiftsOn stands made is_looking x seen bytes y v asked reply → Replies Stood (with_walk x w) (with_walk y v) bytes asked reply
    sifted plain y v asked reply looks_same (inl asks) = asked_on plain y v asked reply looks_same asks
    sifted plain y v asked reply looks_same (inr takes) = taken_on plain y v asked reply looks_same takes
