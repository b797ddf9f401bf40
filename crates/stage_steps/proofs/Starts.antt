-- A driver before the first event.
use Rattle.std.proofs.Common.{◌≡◌, ℕ, suc, Bool, true, false, cond, ◌&&◌, List, [], ◌∷◌, refl, sym, ◌∙◌, ap, subst, arith, Some, None, Option, is_some}
use Rattle.std.proofs.Math.Bool.{and-true}
use Rattle.std.specs.List.{list_any}
use Rattle.pipe_model.specs.declared.net.Strand.{Strand}
use Rattle.pipe_model.specs.Row.{Act}
use Rattle.pipe_model.specs.Shape.{Records, Stream}
use Rattle.pipe_model.specs.Table.{line_of, form}
use Rattle.stage_steps.specs.declared.order.Order.{Order}
use Rattle.stage_steps.specs.declared.outputs.Outputs.{Outputs}
use Rattle.stage_steps.specs.declared.place.Place.TheVariants.{Starting}
use Rattle.stage_steps.specs.KeptText.{KeptText}
use Rattle.stage_steps.specs.Kept.{nothing_kept}
use Rattle.stage_steps.specs.Outputs.{open_from}
use Rattle.stage_steps.specs.Places.{order_of}
use Rattle.stage_steps.specs.Listed.{KeptIs, ListedIs}
use Rattle.stage_steps.specs.Drivers.{Fits}
use Rattle.stage_steps.proofs.Sources.{Keeps, past_of_lists, kept_of_lists}

-- all outputs are open at first
pub all_open : (k : ℕ) (flags : List Bool) → flags ≡ open_from k flags []
all_open k [] = refl
all_open k (flag ∷ flags) = ap (λ b. b ∷ flags) (sym (and-true flag)) ∙ ap (λ l. (flag && true) ∷ l) (all_open (suc k) flags)

module _ {L : Type 0} (stands : L → Bool → Stream → Records → List Act → Type 0) (looks : Bool) (lists : L) (order : Order) (flags : List Bool) (keeps : Bool) (outputs : Outputs) (kept : Option KeptText) (s : Strand) (t : Stream)
    (fits : Fits stands looks lists order flags keeps s t) (connected_is : outputs.connected ≡ list_any (λ flag. flag) flags) (flags_are : outputs.flags.items ≡ flags) (kept_is : kept ≡ cond keeps (Some nothing_kept) None) where
  some_is : (b : Bool) → is_some (cond b (Some nothing_kept) None) ≡ b
  some_is true = refl
  some_is false = refl

  kept_by : (b : Bool) → Keeps (line_of s.kind).shape (record { order = order_of order; keeps = b; stream = t }) → KeptIs Starting (cond b (Some nothing_kept) None) (form s).keeping []
  kept_by true is = (is.1 refl, refl, refl)
  kept_by false is = is.0 refl

  -- the driver stands for the strand
  pub fresh : ListedIs stands looks lists (record { order = order; place = Starting; hand = None; outputs = outputs; kept = kept }) s []
  fresh = record {
    keeps = keeps;
    keeps_is = ap is_some kept_is ∙ some_is keeps;
    stream = t;
    past_is = past_of_lists s (record { order = order_of order; keeps = keeps; stream = t }) (line_of s.kind).shape fits.lists_are;
    connected_is = connected_is ∙ ap (list_any (λ flag. flag)) fits.outputs_are;
    walk_is = record {
      flags_are = flags_are ∙ fits.outputs_are ∙ all_open 0 s.ports.has_output;
      sight_is = refl;
      seen_is = λ some. absurd (omega (arith, some));
      few = omega arith;
      place_is = λ on. (fits.begins, refl, refl, refl);
    };
    looks_are = fits.looks_are;
    looking = fits.looking;
    kept_is = subst (λ k. KeptIs Starting k (form s).keeping []) (sym kept_is) (kept_by keeps (kept_of_lists s (record { order = order_of order; keeps = keeps; stream = t }) (line_of s.kind).shape fits.lists_are));
  }
