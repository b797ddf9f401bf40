-- A strand that nothing concerns may go on only where it might before.
use Rattle.std.proofs.Common.{◌≡◌, ℕ, Bool, true, false, cond, ◌&&◌, ◌==◌, List, refl, sym, ◌∙◌, ap, subst, Option, Some, None, is_some, slice_get, ℤ}
use Rattle.std.specs.List.{list_all}
use Rattle.pipe_model.proofs.Lists.{all_at, all_from}
use Rattle.run_desk.specs.declared.seat.Ask.{Ask}
use Rattle.run_desk.specs.declared.seat.Ask.TheVariants as Now
use Rattle.run_desk.specs.Desk.{DeskState}
use Rattle.run_desk.specs.Telling as Telling

-- what holds of the new desk for strand u held of the old one
pub record IsQuiet (d n : DeskState) (u : ℕ) : Type 0 where
  pub ask : Telling.ask_at n u ≡ Telling.ask_at d u
  pub doors : n.doors ≡ d.doors
  pub hand : (i : ℕ) → Telling.shows (Telling.wire_in n u i) ≡ true → Telling.shows (Telling.wire_in d u i) ≡ true
  pub over : (i : ℕ) → Telling.is_over (Telling.wire_in n u i) ≡ true → Telling.is_over (Telling.wire_in d u i) ≡ true
  pub put : (o : ℕ) → Telling.can_put (Telling.wire_out n u o) ≡ true → Telling.can_put (Telling.wire_out d u o) ≡ true
  pub refuse : (o : ℕ) → Telling.can_refuse (Telling.wire_out n u o) ≡ true → Telling.can_refuse (Telling.wire_out d u o) ≡ true
  pub level : (level : ℤ) → Telling.ask_at d u ≡ Now.Commit level → is_some (Telling.level_code n level) ≡ true → is_some (Telling.level_code d level) ≡ true
  pub primed : is_some (Telling.primed_at n u) ≡ true → is_some (Telling.primed_at d u) ≡ true

-- Tests

cond_up : {A : Type 0} (b : Bool) (x y : Option A) → (is_some x ≡ true → is_some y ≡ true) → is_some (cond b x None) ≡ true → is_some (cond b y None) ≡ true
cond_up true x y f p = f p
cond_up false x y f p = cc

and_up : (b x y : Bool) → (x ≡ true → y ≡ true) → (b && x) ≡ true → (b && y) ≡ true
and_up true x y f p = f p
and_up false x y f p = cc

read_up : (i : ℕ) (h o h' o' : Bool) → (h' ≡ true → h ≡ true) → (o' ≡ true → o ≡ true) → is_some (Telling.read_seen i h' o') ≡ true → is_some (Telling.read_seen i h o) ≡ true
read_up i true o h' o' f g p = refl
read_up i false true h' o' f g p = refl
read_up i false false true o' f g p = let z = f refl in cc
read_up i false false false true f g p = let z = g refl in cc
read_up i false false false false f g p = cc

any_up : (i : ℕ) (h o h' o' : Bool) → (h' ≡ true → h ≡ true) → (o' ≡ true → o ≡ true) → is_some (Telling.any_seen i h' o') ≡ true → is_some (Telling.any_seen i h o) ≡ true
any_up i true o h' o' f g p = refl
any_up i false true h' o' f g p = refl
any_up i false false true o' f g p = let z = f refl in cc
any_up i false false false true f g p = let z = g refl in cc
any_up i false false false false f g p = cc

write_up : (i : ℕ) (h o h' o' : Bool) → (h' ≡ true → h ≡ true) → (o' ≡ true → o ≡ true) → is_some (Telling.write_seen i h' o') ≡ true → is_some (Telling.write_seen i h o) ≡ true
write_up i true o h' o' f g p = refl
write_up i false true h' o' f g p = refl
write_up i false false true o' f g p = let z = f refl in cc
write_up i false false false true f g p = let z = g refl in cc
write_up i false false false false f g p = cc

up_up : (level : ℤ) (x y : Option ℤ) → (is_some y ≡ true → is_some x ≡ true) → is_some (Telling.up_seen level y) ≡ true → is_some (Telling.up_seen level x) ≡ true
up_up level (Some c) y f p = refl
up_up level None (Some c) f p = let z = f refl in cc
up_up level None None f p = cc

primed_up : (x y : Option Bool) → (is_some y ≡ true → is_some x ≡ true) → is_some (Telling.primed_seen y) ≡ true → is_some (Telling.primed_seen x) ≡ true
primed_up (Some c) y f p = refl
primed_up None (Some c) f p = let z = f refl in cc
primed_up None None f p = cc

-- The strand

module _ (d n : DeskState) (u : ℕ) (quiet : IsQuiet d n u) where
  all_quiet : Telling.all_over n u ≡ true → Telling.all_over d u ≡ true
  all_quiet all = all_from (λ door. Telling.is_over (Telling.through d.wires door)) ins each
    where
      ins : List (Option ℕ)
      ins = Telling.inputs_of (slice_get d.doors u)

      all_here : list_all (λ door. Telling.is_over (Telling.through n.wires door)) ins ≡ true
      all_here = subst (λ z. list_all (λ door. Telling.is_over (Telling.through n.wires door)) (Telling.inputs_of (slice_get z u)) ≡ true) quiet.doors all

      each : (j : ℕ) (door : Option ℕ) → slice_get ins j ≡ Some door → Telling.is_over (Telling.through d.wires door) ≡ true
      each j door at =
          let now : Telling.wire_in n u j ≡ Telling.through n.wires door =
          ap (λ z. Telling.through n.wires (Telling.joined (slice_get (Telling.inputs_of (slice_get z u)) j))) quiet.doors ∙ ap (λ z. Telling.through n.wires (Telling.joined z)) at in
          let before : Telling.wire_in d u j ≡ Telling.through d.wires door = ap (λ z. Telling.through d.wires (Telling.joined z)) at in
          let over : Telling.is_over (Telling.through n.wires door) ≡ true = all_at (λ z. Telling.is_over (Telling.through n.wires z)) ins j all_here at in
          ap Telling.is_over (sym before) ∙ quiet.over j (ap Telling.is_over now ∙ over)

  by_ask : (k : ℕ) (a : Ask) → Telling.ask_at d u ≡ a → is_some (Telling.seen_by n u k a) ≡ true → is_some (Telling.seen_by d u k a) ≡ true
  by_ask k Now.Nothing is p = p
  by_ask k (Now.Commit l) is p = cond_up (k == 0) (Telling.up_seen l (Telling.level_code n l)) (Telling.up_seen l (Telling.level_code d l)) (up_up l (Telling.level_code d l) (Telling.level_code n l) (quiet.level l is)) p
  by_ask k (Now.Read i) is p =
      cond_up (k == i) (Telling.read_seen i (Telling.shows (Telling.wire_in n u i)) (Telling.is_over (Telling.wire_in n u i))) (Telling.read_seen i (Telling.shows (Telling.wire_in d u i)) (Telling.is_over (Telling.wire_in d u i)))
      (read_up i (Telling.shows (Telling.wire_in d u i)) (Telling.is_over (Telling.wire_in d u i)) (Telling.shows (Telling.wire_in n u i)) (Telling.is_over (Telling.wire_in n u i)) (quiet.hand i) (quiet.over i)) p
  by_ask k Now.Any is p =
      any_up k (Telling.shows (Telling.wire_in d u k)) ((k == 0) && Telling.all_over d u) (Telling.shows (Telling.wire_in n u k)) ((k == 0) && Telling.all_over n u) (quiet.hand k)
      (and_up (k == 0) (Telling.all_over n u) (Telling.all_over d u) all_quiet) p
  by_ask k Now.Gate is p =
      read_up k (Telling.shows (Telling.wire_in d u k)) ((k == 0) && Telling.is_over (Telling.wire_in d u k)) (Telling.shows (Telling.wire_in n u k)) ((k == 0) && Telling.is_over (Telling.wire_in n u k)) (quiet.hand k)
      (and_up (k == 0) (Telling.is_over (Telling.wire_in n u k)) (Telling.is_over (Telling.wire_in d u k)) (quiet.over k)) p
  by_ask k (Now.Take i) is p = p
  by_ask k (Now.Write o) is p =
      cond_up (k == o) (Telling.write_seen o (Telling.can_put (Telling.wire_out n u o)) (Telling.can_refuse (Telling.wire_out n u o))) (Telling.write_seen o (Telling.can_put (Telling.wire_out d u o)) (Telling.can_refuse (Telling.wire_out d u o)))
      (write_up o (Telling.can_put (Telling.wire_out d u o)) (Telling.can_refuse (Telling.wire_out d u o)) (Telling.can_put (Telling.wire_out n u o)) (Telling.can_refuse (Telling.wire_out n u o)) (quiet.put o) (quiet.refuse o)) p
  by_ask k Now.Primed is p = cond_up (k == 0) (Telling.primed_seen (Telling.primed_at n u)) (Telling.primed_seen (Telling.primed_at d u)) (primed_up (Telling.primed_at d u) (Telling.primed_at n u) quiet.primed) p
  by_ask k Now.Issue is p = p
  by_ask k (Now.Join unit) is p = p
  by_ask k (Now.Cut i) is p = p
  by_ask k (Now.Done c) is p = p

  -- it may go on only where it might before
  pub quiet_seen : (k : ℕ) → is_some (Telling.seen_at n u k) ≡ true → is_some (Telling.seen_at d u k) ≡ true
  quiet_seen k p = by_ask k (Telling.ask_at d u) refl (subst (λ a. is_some (Telling.seen_by n u k a) ≡ true) quiet.ask p)
