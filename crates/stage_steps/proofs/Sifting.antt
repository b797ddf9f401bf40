-- The walk of pairs where the lists say at once what they give for a record.
use Rattle.std.proofs.Common.{◌≡◌, ℕ, Bool, true, false, cond, ◌&&◌, List, [], refl, sym, ◌∙◌, ap, subst, Some, None, Option, option_map, inl, is_some}
use Rattle.pipe_model.specs.declared.step.Out.TheVariants.{Same}
use Rattle.pipe_model.specs.declared.step.Seen.TheVariants.{Took}
use Rattle.pipe_model.specs.declared.step.Want.{Want}
use Rattle.pipe_model.specs.declared.step.Want.TheVariants as Asked
use Rattle.pipe_model.specs.Members.{flag_at}
use Rattle.pipe_model.specs.Row.{Act}
use Rattle.pipe_model.specs.Shape.{Records, Stream, at_hand_of}
use Rattle.stage_steps.specs.declared.group.Group.{Group}
use Rattle.stage_steps.specs.declared.order.Order.TheVariants.{WritesFirst}
use Rattle.stage_steps.specs.declared.place.Follow.TheVariants.{Take}
use Rattle.stage_steps.specs.declared.place.Place.TheVariants.{Looking, Writing, Taking, Passing, Ending}
use Rattle.stage_steps.specs.declared.reply.Reply.{Reply}
use Rattle.stage_steps.specs.declared.walk.Walk.{Walk}
use Rattle.stage_steps.specs.KeptText.{KeptText}
use Rattle.stage_steps.specs.Kept.{kept_after}
use Rattle.stage_steps.specs.Lists.{Sees, GivesNext, GoesOn, Tells, once}
use Rattle.stage_steps.specs.Outputs.{live}
use Rattle.stage_steps.specs.Places.{sight_place, place_with}
use Rattle.stage_steps.specs.Walk.{Fetches, Asks, LooksPlainly, IsReply, AsksOn}
use Rattle.stage_steps.proofs.Acts.{not_due}
use Rattle.stage_steps.proofs.Groups.{passes_none, fetches_one, fetches_none}

none_kept : (kept : Option KeptText) → is_some kept ≡ false → kept ≡ None
none_kept None is = refl
none_kept (Some k) is = let no : true ≡ false = is in cc

module _ {L : Type 0} (stands : L → Bool → Stream → Records → List Act → Type 0) (made : L → Option (List ℕ)) (looks : Bool) (x : L) (w : Walk) (plain : LooksPlainly w) (first : w.order ≡ WritesFirst) (bytes : List ℕ) (between y : L) (sees : Sees stands looks x between bytes) (on : GoesOn stands y) where
  abbrev flags : List Bool
  flags = w.outputs.flags.items

  abbrev FetchesOne : Option Group → Type 0
  FetchesOne given = Fetches stands made flags between w.hand y given

  -- the walk when the record at hand was taken
  abbrev looking_on : Walk
  looking_on = record w { place = Looking; kept = option_map (kept_after (Took 0) []) w.kept }

  abbrev at_writing : Walk
  at_writing = record w { place = Writing Take }

  -- what is left of the list stands for the records with that one
  abbrev Leaves : Type 0
  Leaves = (over : Bool) (t : Stream) (recs : Records) (acts : List Act) → stands between over t recs acts → (rest : List Act) × stands y over t recs rest

  -- it writes the pairs of the record, and then takes it
  tells : Leaves → Tells stands between (Writing Take) (sight_place w.order)
  tells leaves over t recs acts is =
      let left = leaves over t recs acts is in
      sym (ap (λ halts. cond halts (Ending (t.code recs)) (place_with w.order)) (sym (on.1 over t recs left.0 left.1)) ∙ ap place_with first)

  fetches : (given : Option Group) → Fetches stands made flags between None y given → FetchesOne given
  fetches given = subst (λ hand. Fetches stands made flags between hand y given) (sym plain.1)

  -- nothing of it is to be written, and it is taken
  takes : Leaves → Fetches stands made flags between None y None → (v : Walk) (asked : Want) → v ≡ looking_on → (reply : Reply) → reply ≡ Reply.Takes → AsksOn stands made looks x w bytes y v asked reply
  takes leaves fetched v asked is reply says = subst (AsksOn stands made looks x w bytes y v asked) (sym says) (
    between,
    Writing Take,
    w.hand,
    Taking,
    Asked.Take 0,
    sees,
    tells leaves,
    (y, None, fetches None fetched, (refl, plain.1, λ t recs acts rest was is. refl, refl)),
    (refl, (inl (inl refl, first, λ over t recs acts is. sym (on.0 over t recs acts is).1), is)),
  )

  -- the lists give nothing
  pub drops : GivesNext stands made between y None → (v : Walk) (asked : Want) → v ≡ looking_on → (reply : Reply) → reply ≡ Reply.Takes → AsksOn stands made looks x w bytes y v asked reply
  drops gives = takes (λ over t recs acts is. ([], (gives over t recs acts is).1)) (fetches_none stands made flags between between y None (passes_none stands made flags between) gives)

  module _ (output : ℕ) (gives : GivesNext stands made between y (Some (once output))) where
    leaves_rest : Leaves
    leaves_rest over t recs acts is = let n = gives.1 over t recs acts is in (n.0, n.2)

    -- nor do they on an open output
    passed_over : flag_at flags output ≡ false → Fetches stands made flags between None y None
    passed_over closed over t recs acts is =
        let n = gives.1 over t recs acts is in
        let none_left : n.0 ≡ [] = (on.0 over t recs n.0 n.2).0 in (
          ap (live flags) n.1 ∙ not_due (once output) (at_hand_of recs) (made y) flags n.0 (ap (λ b. b && true) closed) ∙ ap (live flags) none_left,
          subst (λ l. stands y over t recs l) none_left n.2,
        )

    pub closed : flag_at flags output ≡ false → (v : Walk) (asked : Want) → v ≡ looking_on → (reply : Reply) → reply ≡ Reply.Takes → AsksOn stands made looks x w bytes y v asked reply
    closed is = takes leaves_rest (passed_over is)

    module _ (opened : flag_at flags output ≡ true) where
      -- the record itself is to be written
      asks : Asks stands made flags between w.hand (Writing Take) y w.hand (Writing Take) (Asked.Write output (Same 0))
      asks = (y, Some (once output), fetches (Some (once output)) (fetches_one stands made flags between between y None (once output) (passes_none stands made flags between) gives (ap (λ b. b && true) opened)), ((refl, plain.1, refl), refl))

      writes : (v : Walk) (asked : Want) (reply : Reply) → IsReply stands y at_writing (Asked.Write output (Same 0)) v asked reply → AsksOn stands made looks x w bytes y v asked reply
      writes v asked reply replied = (between, Writing Take, w.hand, Writing Take, Asked.Write output (Same 0), sees, tells leaves_rest, asks, replied)

      -- and is passed on, where nothing is kept
      pub passes_on : is_some w.kept ≡ false → (v : Walk) (asked : Want) → v ≡ record w { place = Passing } → asked ≡ Asked.Write output (Same 0) → AsksOn stands made looks x w bytes y v asked Reply.Passes
      passes_on keeps v asked is asked_is = writes v asked Reply.Passes (asked_is, ((inl refl, none_kept w.kept keeps, plain.1, first, on.0), is))

      pub asks_on : (v : Walk) (asked : Want) → v ≡ at_writing → asked ≡ Asked.Write output (Same 0) → AsksOn stands made looks x w bytes y v asked Reply.Asks
      asks_on v asked is asked_is = writes v asked Reply.Asks (asked_is, is)
