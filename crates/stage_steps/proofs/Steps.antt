-- The driver of plans, at its start and one step on.
use Rattle.std.proofs.Common.{◌≡◌, ◌<◌, ℕ, Bool, true, cond, List, [], ◌∷◌, length, refl, sym, ◌∙◌, ap, subst, arith, Some, None, false, pos, negsuc, ℤ}
use Rattle.std.specs.List.{list_any}
use Rattle.std.proofs.lemmas.Bool.Decides.{Decides-int_eq}
use Rattle.pipe_model.specs.declared.net.Strand.{Strand}
use Rattle.pipe_model.specs.declared.step.Seen.{Seen}
use Rattle.pipe_model.specs.declared.step.Want.{Want as Asked}
use Rattle.pipe_model.specs.Event.{Event, Want, answers, has_ended}
use Rattle.pipe_model.specs.Event.Event.{Ended}
use Rattle.pipe_model.specs.Next.{Past, past_by, want_in, wanted_by, next}
use Rattle.pipe_model.specs.Next.Phase.{Starting as Reaching}
use Rattle.pipe_model.specs.Row.{Plan, Known, Row}
use Rattle.pipe_model.specs.Shape.{row}
use Rattle.pipe_model.specs.Table.{form}
use Rattle.stage_steps.specs.declared.outputs.Outputs.{Outputs}
use Rattle.stage_steps.specs.declared.plans.Act.TheVariants.{Write, Take}
use Rattle.stage_steps.specs.declared.planned.At.{At as Place}
use Rattle.stage_steps.specs.declared.planned.At.TheVariants as At
use Rattle.stage_steps.specs.Coroutine.{meaning, told, bytes_with, last_seen, owed, IsSeenBefore, IsTold}
use Rattle.stage_steps.specs.Outputs.{open_after, open_from, none_left}
use Rattle.stage_steps.specs.Planned.{IsLook, AtIs, PlannedIs, FitsPlan}
use Rattle.stage_steps.specs.Planning.{HearsPlan, AsksPlan}
use Rattle.stage_steps.proofs.Drives.{going}
use Rattle.stage_steps.proofs.Planning.{Heard, HasAsked, behind_event, asks_then}
use Rattle.stage_steps.proofs.Starts.{all_open}

-- Before the first event

module _ {P : Type 0} (stands : P → (Known → Plan) → Known → Plan → Type 0) (looks : Bool) (plans : P) (flags : List Bool) (outputs : Outputs) (s : Strand) (plan : Known → Plan)
    (fits : FitsPlan stands looks plans flags s plan) (connected_is : outputs.connected ≡ list_any (λ flag. flag) flags) (flags_are : outputs.flags.items ≡ flags) where
  -- the driver stands for the strand
  pub fresh_plan : PlannedIs stands looks plans At.Starting outputs s []
  fresh_plan = record {
    plan = plan;
    row_is = fits.row_is;
    keeps_nothing = fits.keeps_nothing;
    looks_are = fits.looks_are;
    connected_is = connected_is ∙ ap (list_any (λ flag. flag)) fits.outputs_are;
    flags_are = flags_are ∙ fits.outputs_are ∙ all_open 0 s.ports.has_output;
    sight_is = λ i. refl;
    seen_is = λ i some. absurd (omega (arith, some));
    few = omega arith;
    place_is = λ on. (fits.begins, refl, refl);
  }

-- One step

-- who looks or waits isn't told of an end
no_end : (want : Want) (code : ℤ) → IsLook want → answers (Some want) (Ended code) ≡ true → ⊥
no_end (Want.Read i) code look fits = cc
no_end Want.Any code look fits = cc
no_end Want.Gate code look fits = cc
no_end Want.Prime code look fits = cc
no_end _ code look fits = absurd look

-- where it ends with a code, it is in the place where it is to end with it
ends_in : {P : Type 0} (stands : P → (Known → Plan) → Known → Plan → Type 0) (plan : Known → Plan) (x : P) (f : Place) (flags : List Bool) (p : Past) (code : ℤ) →
    AtIs stands plan x f flags p → answers (want_in p.phase) (Ended code) ≡ true → f ≡ At.Ending code
ends_in stands plan x At.Starting flags p code is fits = let z : answers (want_in (Reaching (negsuc 0))) (Ended code) ≡ true = subst (λ f. answers (want_in f) (Ended code) ≡ true) is.2 fits in cc
ends_in stands plan x At.Committing flags p code is fits = let z : answers (want_in (Reaching (pos 0))) (Ended code) ≡ true = subst (λ f. answers (want_in f) (Ended code) ≡ true) is.2 fits in cc
ends_in stands plan x At.Doing flags p code (Write o out, rest, goal, phase, stood) fits = let z : false ≡ true = subst (λ f. answers (want_in f) (Ended code) ≡ true) phase fits in cc
ends_in stands plan x At.Doing flags p code (Take i, rest, goal, phase, stood) fits = let z : false ≡ true = subst (λ f. answers (want_in f) (Ended code) ≡ true) phase fits in cc
ends_in stands plan x At.Asking flags p code is fits = absurd (no_end is.0 code is.1 (subst (λ f. answers (want_in f) (Ended code) ≡ true) is.2 fits))
ends_in stands plan x (At.Ending code') flags p code is fits = ap At.Ending (sym ((Decides-int_eq code code').0 (subst (λ f. answers (want_in f) (Ended code) ≡ true) is fits)))

module _ {P : Type 0} (stands : P → (Known → Plan) → Known → Plan → Type 0) (looks looks' : Bool) (x y z : P) (seen : Seen) (bytes : List ℕ) (outputs outputs' : Outputs) (place place1 place2 : Place) (asked : Asked) (s : Strand) (h : List Event)
    (same : looks' ≡ looks) (flags_is : outputs'.flags.items ≡ open_after seen outputs.flags.items) (connected_is : outputs'.connected ≡ outputs.connected)
    (hears : HearsPlan stands looks (none_left outputs'.connected outputs'.flags.items) x place seen bytes y place1)
    (asks : AsksPlan stands outputs'.flags.items y place1 z place2 asked) where
  abbrev Stepped : Event → Type 0
  Stepped e = PlannedIs stands looks' z place2 outputs' s (e ∷ h) × (Some (meaning asked (last_seen (e ∷ h))) ≡ owed s (e ∷ h)) × IsSeenBefore asked (e ∷ h)

  module _ (e : Event) (is : PlannedIs stands looks x place outputs s h) (answer : answers (next s h) e ≡ true) (seen_is : told e ≡ seen) (came : bytes_with (form s).looks e ≡ bytes) (room : length h < 50000000) where
    abbrev ports : List Bool
    ports = s.ports.has_output

    abbrev before : Past
    before = past_by (row is.plan) ports h

    abbrev behind : Past
    behind = past_by (row is.plan) ports (e ∷ h)

    abbrev flags : List Bool
    flags = open_after (told e) (open_from 0 ports before.refused)

    fits : answers (want_in before.phase) e ≡ true
    fits = subst (λ (w : Row). answers (wanted_by w ports h) e ≡ true) is.row_is (going s h e answer).1

    was : AtIs stands is.plan x place (open_from 0 ports before.refused) before
    was = subst (λ l. AtIs stands is.plan x place l before) is.flags_are (is.place_is (going s h e answer).0)

    flags_are : outputs'.flags.items ≡ flags
    flags_are = flags_is ∙ ap (λ k. open_after k outputs.flags.items) (sym seen_is) ∙ ap (open_after (told e)) is.flags_are

    ends_is : none_left outputs'.connected outputs'.flags.items ≡ none_left (list_any (λ flag. flag) ports) flags
    ends_is = ap (λ b. none_left b outputs'.flags.items) (connected_is ∙ is.connected_is) ∙ ap (none_left (list_any (λ flag. flag) ports)) flags_are

    heard_it : HearsPlan stands looks (none_left outputs'.connected outputs'.flags.items) x place (told e) bytes y place1
    heard_it = subst (λ k. HearsPlan stands looks (none_left outputs'.connected outputs'.flags.items) x place k bytes y place1) (sym seen_is) hears

    heard : Heard stands is.plan flags ports h y place1 e behind
    heard = behind_event stands looks is.plan ports h bytes (none_left outputs'.connected outputs'.flags.items) x y place1 before is.sight_is is.seen_is is.few place e was room ends_is fits (ap (λ b. bytes_with b e) is.looks_are ∙ came) heard_it

    asked_it : AsksPlan stands flags y place1 z place2 asked
    asked_it = subst (λ l. AsksPlan stands l y place1 z place2 asked) flags_are asks

    wants : has_ended (e ∷ h) ≡ false → HasAsked stands is.plan flags (e ∷ h) z place2 asked behind
    wants on = asks_then stands is.plan flags (e ∷ h) y z place2 asked behind heard.sight_is heard.seen_is place1 (heard.place_is on) asked_it

    -- at its end it is where it ends, and stays there
    stays : (code : ℤ) → e ≡ Ended code → asked ≡ Asked.Done code
    stays code it =
        let at : place ≡ At.Ending code = ends_in stands is.plan x place (open_from 0 ports before.refused) before code was (subst (λ v. answers (want_in before.phase) v ≡ true) it fits) in
        let here : HearsPlan stands looks (none_left outputs'.connected outputs'.flags.items) x (At.Ending code) (told (Ended code)) bytes y place1 =
        subst (λ f. HearsPlan stands looks (none_left outputs'.connected outputs'.flags.items) x f (told (Ended code)) bytes y place1) at
        (subst (λ v. HearsPlan stands looks (none_left outputs'.connected outputs'.flags.items) x place (told v) bytes y place1) it heard_it) in
        let over : AsksPlan stands flags y (At.Ending code) z place2 asked = subst (λ f. AsksPlan stands flags y f z place2 asked) here.1 asked_it in
        over.2

    now : (has_ended (e ∷ h) ≡ false → AtIs stands is.plan z place2 flags behind) → PlannedIs stands looks' z place2 outputs' s (e ∷ h)
    now place_is = record {
      plan = is.plan;
      row_is = is.row_is;
      keeps_nothing = is.keeps_nothing;
      looks_are = same ∙ is.looks_are;
      connected_is = connected_is ∙ is.connected_is;
      flags_are = flags_are ∙ heard.flags_are;
      sight_is = heard.sight_is;
      seen_is = heard.seen_is;
      few = heard.few;
      place_is = λ on. subst (λ l. AtIs stands is.plan z place2 l behind) (sym flags_are) (place_is on);
    }

    goes_on : has_ended (e ∷ h) ≡ false → PlannedIs stands looks' z place2 outputs' s (e ∷ h) × (Some (meaning asked (last_seen (e ∷ h))) ≡ next s (e ∷ h)) × IsSeenBefore asked (e ∷ h)
    goes_on on = (
      now (λ on. (wants on).0),
      (wants on).1 ∙ ap (λ (w : Row). wanted_by w ports (e ∷ h)) (sym is.row_is) ∙ ap (λ b. cond b None (wanted_by (form s).row ports (e ∷ h))) (sym on),
      (wants on).2,
    )

    ends_here : (code : ℤ) → e ≡ Ended code → PlannedIs stands looks' z place2 outputs' s (e ∷ h) × (Some (meaning asked (last_seen (e ∷ h))) ≡ Some (Want.Done code)) × IsSeenBefore asked (e ∷ h)
    ends_here code it = (
      now (λ on. let no : true ≡ false = ap (λ v. has_ended (v ∷ h)) (sym it) ∙ on in cc),
      ap (λ a. Some (meaning a (last_seen (e ∷ h)))) (stays code it),
      subst (λ a. IsSeenBefore a (e ∷ h)) (sym (stays code it)) tt,
    )

  -- the driver's one step, from what its parts do
  pub plan_steps : (e : Event) → IsTold (λ (w : P) s h. PlannedIs stands looks w place outputs s h) x seen bytes s h e → Stepped e
  plan_steps (Ended code) t = ends_here (Ended code) t.stood t.answer t.seen_is t.bytes_are t.room code refl
  plan_steps e t = goes_on e t.stood t.answer t.seen_is t.bytes_are t.room (going s h e t.answer).0
