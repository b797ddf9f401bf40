-- A desk tells what the licence's event does.
use Rattle.std.proofs.Common.{◌≡◌, inl, inr, ℕ, zero, suc, Bool, true, false, cond, ◌&&◌, ◌||◌, not, ◌==◌, List, [], ◌∷◌, length, refl, sym, ◌∙◌, ap, subst, arith, Option, Some, None, is_some, slice_get, ℤ, nat_lt}
use Rattle.std.specs.Option.{option_map}
use Rattle.std.specs.List.{list_all}
use Rattle.std.specs.Cmp.{both_ways}
use Rattle.std.proofs.lemmas.Grind.{common_steps}
use Rattle.std.proofs.lemmas.Bool.{eqb-true}
use Rattle.pipe_model.specs.declared.net.Net.{Net}
use Rattle.pipe_model.specs.declared.net.Link.{Link}
use Rattle.pipe_model.specs.declared.step.Seen.{Seen}
use Rattle.pipe_model.specs.declared.step.Seen.TheVariants as Told
use Rattle.pipe_model.specs.Event.{Event, Want, has_seen, records_on}
use Rattle.pipe_model.specs.Event.Event.{Took, Severed, Ended}
use Rattle.pipe_model.specs.Event.Want.{Commit, Read, Any, Gate, Take, Write, Prime, Issue, Join, Sever, Done}
use Rattle.pipe_model.specs.State.{Who, State, past, same, link_in, link_out}
use Rattle.pipe_model.specs.Licence.{Left, want_after, want_at, puts, tooks, is_level, out_closed, in_closed, offered, at_hand, is_over, all_over, may_put, may_refuse, level_of, first_part, primed_by, up_answer, read_answer, any_answer, write_answer, primed_answer, answer, sight_of, licence}
use Rattle.pipe_model.specs.WellFormed.{IsWellFormed}
use Rattle.pipe_model.proofs.Truths.{both}
use Rattle.pipe_model.proofs.Numbers.{test_same}
use Rattle.pipe_model.proofs.Lists.{found_at, finds, all_at, beside, all_from}
use Rattle.commit_levels.specs.UnitState.{IsLevel}
use Rattle.commit_levels.specs.UnitState as levels
use Rattle.commit_levels.proofs.Agreement.{answers_as}
use Rattle.connectors.specs.WireState.{WireState}
use Rattle.connectors.specs.WireState as wires
use Rattle.run_desk.specs.declared.seat.Seat.{Seat}
use Rattle.run_desk.specs.Desk.{DeskState}
use Rattle.run_desk.specs.Telling as Telling
use Rattle.stage_steps.specs.Coroutine.{told}
use Rattle.run_desk.specs.Standing.{asked, IsWire, link_through, DeskStands}
use Rattle.run_desk.proofs.Queues.{kind_of, queues_as, oldest_is}

-- Lists

-- two lists of one length end together
ends_too : {A B : Type 0} (xs : List A) (ys : List B) (k : ℕ) → length xs ≡ length ys → slice_get xs k ≡ None → slice_get ys k ≡ None
ends_too [] [] k n e = refl
ends_too [] (y ∷ ys) k n e = absurd (omega (arith, n))
ends_too (x ∷ xs) [] k n e = absurd (omega (arith, n))
ends_too (x ∷ xs) (y ∷ ys) zero n e = cc
ends_too (x ∷ xs) (y ∷ ys) (suc k) n e = ends_too xs ys k (omega (arith, n)) e

joined_some : (x : Option (Option ℕ)) (j : ℕ) → Telling.joined x ≡ Some j → x ≡ Some (Some j)
joined_some None j e = cc
joined_some (Some y) j e = ap Some e

-- the test of a level holds of a level
level_test : (l : ℤ) → IsLevel l → Telling.is_level l ≡ true
level_test l is = grind (arith, common_steps, is.0, is.1)

-- The answers

told_read : (i : ℕ) (x : Option (List ℕ)) (b : Bool) → Telling.read_seen i (is_some x) b ≡ option_map told (read_answer i x b)
told_read i None true = refl
told_read i None false = refl
told_read i (Some r) b = refl

told_any : (i : ℕ) (x : Option (List ℕ)) (b : Bool) → Telling.any_seen i (is_some x) b ≡ option_map told (any_answer i x b)
told_any i None true = refl
told_any i None false = refl
told_any i (Some r) b = refl

told_write : (o : ℕ) (r : List ℕ) (a b : Bool) → Telling.write_seen o a b ≡ option_map told (write_answer o r a b)
told_write o r true b = refl
told_write o r false true = refl
told_write o r false false = refl

told_primed : (x : Option Bool) → Telling.primed_seen x ≡ option_map told (primed_answer x)
told_primed None = refl
told_primed (Some b) = refl

told_up : (l : ℤ) (x : Option ℤ) → Telling.up_seen l x ≡ option_map told (up_answer l x)
told_up l None = refl
told_up l (Some c) = refl

told_if : (b : Bool) (x : Option Seen) (y : Option Event) → x ≡ option_map told y → cond b x None ≡ option_map told (cond b y None)
told_if true x y e = e
told_if false x y e = refl

-- so far nothing is issued
told_none : (b : Bool) → None ≡ option_map told (cond b None None)
told_none true = refl
told_none false = refl

module _ (net : Net) (texts : ℕ → List ℕ) (st : State) (left : Left) (d : DeskState) (formed : IsWellFormed net) (kept : DeskStands net texts st left d) where
  pub ask_is : (s : Who) → Telling.ask_at d s ≡ asked (want_at net st left s)
  ask_is s = go (slice_get d.seats s) refl
    where
      none : (b : Bool) → cond b None (want_after (slice_get net.strands s) (past st s)) ≡ cond b None (want_after None (past st s)) → asked (cond b None (want_after (slice_get net.strands s) (past st s))) ≡ asked None
      none true e = refl
      none false e = ap asked e

      go : (a : Option Seat) → slice_get d.seats s ≡ a → Telling.ask_of a ≡ asked (want_at net st left s)
      go None e = sym (none (left s) (ap (λ z. cond (left s) None (want_after z (past st s))) (ends_too d.seats net.strands s kept.laid.seat_count e)))
      go (Some a) e = (kept.seats s a e).ask

  -- A wire and its link

  record AreSame (w : Option WireState) (l : Option Link) : Type 0 where
    none : w ≡ None → l ≡ None
    some : (x : WireState) → w ≡ Some x → (k : Link) × (l ≡ Some k) × IsWire net texts st left k x

  through_is : (j : Option ℕ) → AreSame (Telling.through d.wires j) (link_through net.links j)
  through_is None = record { none = λ e. refl; some = λ x e. cc }
  through_is (Some j) = record {
    none = λ e. ends_too d.wires net.links j kept.laid.wire_count e;
    some = λ x e. let l = beside d.wires net.links j x kept.laid.wire_count e in (l.0, l.1, kept.wires j l.0 x l.1 e);
  }

  even_is : (l : Link) (w : WireState) → IsWire net texts st left l w → Telling.is_even w ≡ is_level st l
  even_is l w is = ap (λ z. z == w.tooks) is.puts ∙ ap (λ z. puts st l == z) is.tooks

  map_some : (x : Option ℕ) → is_some x ≡ is_some (option_map texts x)
  map_some None = refl
  map_some (Some g) = refl

  shows_is : (w : Option WireState) (l : Option Link) → AreSame w l → Telling.shows w ≡ is_some (at_hand net st left l)
  shows_is None l both_are = ap (λ z. is_some (at_hand net st left z)) (sym (both_are.none refl))
  shows_is (Some w) l both_are = let s = both_are.some w refl in hand_is s.0 w s.2 ∙ ap (λ z. is_some (at_hand net st left z)) (sym s.1)
    where
      if_some : {A : Type 0} (b : Bool) (x : Option A) → is_some (cond b x None) ≡ (b && is_some x)
      if_some true x = refl
      if_some false x = refl

      hand_is : (k : Link) (w : WireState) → IsWire net texts st left k w → is_some (wires.at_hand w) ≡ is_some (at_hand net st left (Some k))
      hand_is k w is =
          let there = slice_get (records_on k.output (past st k.from)) (tooks st k) in
          let offer = offered k.output (want_at net st left k.from) in
          elim (kind_of net texts st left k w is) [
            | inl m ↦
                ap (λ q. is_some (wires.hand_of w q)) m.0 ∙ if_some (Telling.is_even w) w.offer
                ∙ ap (λ z. Telling.is_even w && z) (map_some w.offer ∙ ap is_some is.offer) ∙ ap (λ z. z && is_some offer) (even_is k w is)
                ∙ sym (if_some (is_level st k) offer) ∙ ap (λ b. is_some (cond b there (cond (is_level st k) offer None))) (sym m.1)
            | inr q ↦
                ap (λ z. is_some (wires.hand_of w z)) q.wire_is ∙ map_some (slice_get q.waiting 0) ∙ ap is_some (oldest_is texts st k w q)
                ∙ ap (λ b. is_some (cond b there (cond (is_level st k) offer None))) (sym q.link_is)
          ]

  over_is : (w : Option WireState) (l : Option Link) → AreSame w l → Telling.is_over w ≡ is_over st l
  over_is None l both_are = ap (is_over st) (sym (both_are.none refl))
  over_is (Some w) l both_are =
      let s = both_are.some w refl in
      ap (λ z. z && Telling.is_even w) s.2.out_closed ∙ ap (λ z. out_closed st s.0 && z) (even_is s.0 w s.2) ∙ ap (is_over st) (sym s.1)

  put_is : (w : Option WireState) (l : Option Link) → AreSame w l → Telling.can_put w ≡ may_put st l
  put_is None l both_are = ap (may_put st) (sym (both_are.none refl))
  put_is (Some w) l both_are =
      let s = both_are.some w refl in
      ap (λ b. b || nat_lt w.puts w.tooks) (queues_as net texts st left s.0 w s.2) ∙ ap (λ z. s.0.queue || nat_lt z w.tooks) s.2.puts
      ∙ ap (λ z. s.0.queue || nat_lt (puts st s.0) z) s.2.tooks ∙ ap (may_put st) (sym s.1)

  refuse_is : (w : Option WireState) (l : Option Link) → AreSame w l → Telling.can_refuse w ≡ may_refuse st l
  refuse_is None l both_are = ap (may_refuse st) (sym (both_are.none refl))
  refuse_is (Some w) l both_are =
      let s = both_are.some w refl in
      ap (λ b. not b && (w.in_closed && Telling.is_even w)) (queues_as net texts st left s.0 w s.2) ∙ ap (λ z. not s.0.queue && (z && Telling.is_even w)) s.2.in_closed
      ∙ ap (λ z. not s.0.queue && (in_closed st s.0 && z)) (even_is s.0 w s.2) ∙ ap (may_refuse st) (sym s.1)

  in_same : (s : Who) (i : ℕ) → AreSame (Telling.wire_in d s i) (link_in net st s i)
  in_same s i = subst (AreSame (Telling.wire_in d s i)) (sym (kept.laid.in_doors s i)) (through_is (Telling.in_door d s i))

  out_same : (s : Who) (o : ℕ) → AreSame (Telling.wire_out d s o) (link_out net st s o)
  out_same s o = subst (AreSame (Telling.wire_out d s o)) (sym (kept.laid.out_doors s o)) (through_is (Telling.out_door d s o))

  -- Commit levels and DAM

  code_is : (s : Who) (l : ℤ) → IsLevel l → Telling.level_code d l ≡ level_of net st left s l
  code_is s l is = ap (λ b. cond b (levels.answer d.unit l) None) (level_test l is) ∙ answers_as net st left s d.unit l is (record { count = kept.member_count; each = kept.members })

  primed_is : (s : Who) → Telling.primed_at d s ≡ primed_by (past st (first_part net st s))
  primed_is s = ap (λ z. Telling.primed_of (slice_get d.seats z)) (kept.laid.firsts s) ∙ go (first_part net st s) (slice_get d.seats (first_part net st s)) refl
    where
      go : (t : Who) (a : Option Seat) → slice_get d.seats t ≡ a → Telling.primed_of a ≡ primed_by (past st t)
      go t None e = ap primed_by (sym (kept.nobody t e))
      go t (Some a) e =
          ap (λ z. cond z (Some true) (cond a.has_ended (Some false) None)) (kept.seats t a e).seen
          ∙ ap (λ z. cond (has_seen (past st t)) (Some true) (cond z (Some false) None)) (kept.seats t a e).ended

  -- All inputs

  all_over_is : (s : Who) → Telling.all_over d s ≡ all_over net st s
  all_over_is s = both_ways (Telling.all_over d s) (all_over net st s) there back
    where
      doors : List (Option ℕ)
      doors = Telling.inputs_of (slice_get d.doors s)

      over_door : Option ℕ → Bool
      over_door x = Telling.is_over (Telling.through d.wires x)

      over_link : Link → Bool
      over_link l = not (same l.to s) || is_over st (Some l)

      there : list_all over_door doors ≡ true → list_all over_link net.links ≡ true
      there all = all_from over_link net.links each
        where
          by_test : (j : ℕ) (l : Link) → slice_get net.links j ≡ Some l → (b : Bool) → same l.to s ≡ b → (not b || is_over st (Some l)) ≡ true
          by_test j l at false e = refl
          by_test j l at true e =
              let own : (same l.to s && (l.input == l.input)) ≡ true = ap (λ b. b && (l.input == l.input)) e ∙ test_same l.input in
              let m = finds (λ k. same k.to s && (k.input == l.input)) net.links j at own in
              let n = found_at (λ k. same k.to s && (k.input == l.input)) net.links m.1 in
              let u = both (same m.0.to s) (m.0.input == l.input) n.0 in
              let place : n.1.0 ≡ j = formed.one_in n.1.0 j m.0 l n.1.1 at (eqb-true _ _ u.0 ∙ sym (eqb-true _ _ e)) (eqb-true _ _ u.1) in
              let one : Some m.0 ≡ Some l = sym n.1.1 ∙ ap (slice_get net.links) place ∙ at in
              let found : link_in net st s l.input ≡ Some l = m.1 ∙ one in
              by_door (Telling.in_door d s l.input) refl found
            where
              by_door : (x : Option ℕ) → Telling.in_door d s l.input ≡ x → link_in net st s l.input ≡ Some l → is_over st (Some l) ≡ true
              by_door None is found = let none : None ≡ Some l = sym (kept.laid.in_doors s l.input ∙ ap (link_through net.links) is) ∙ found in cc
              by_door (Some k) is found =
                  let over : over_door (Some k) ≡ true = all_at over_door doors l.input all (joined_some (slice_get doors l.input) k is) in
                  let link : link_through net.links (Some k) ≡ Some l = sym (kept.laid.in_doors s l.input ∙ ap (link_through net.links) is) ∙ found in
                  ap (is_over st) (sym link) ∙ sym (over_is (Telling.through d.wires (Some k)) (link_through net.links (Some k)) (through_is (Some k))) ∙ over

          each : (j : ℕ) (l : Link) → slice_get net.links j ≡ Some l → over_link l ≡ true
          each j l at = by_test j l at (same l.to s) refl

      back : list_all over_link net.links ≡ true → list_all over_door doors ≡ true
      back all = all_from over_door doors each
        where
          by_link : (i : ℕ) (l : Option Link) → link_in net st s i ≡ l → is_over st l ≡ true
          by_link i None e = refl
          by_link i (Some l) e =
              let r = found_at (λ l. same l.to s && (l.input == i)) net.links e in
              let m = both (same l.to s) (l.input == i) r.0 in
              let q = all_at over_link net.links r.1.0 all r.1.1 in
              ap (λ b. not b || is_over st (Some l)) (sym m.0) ∙ q

          each : (i : ℕ) (x : Option ℕ) → slice_get doors i ≡ Some x → over_door x ≡ true
          each i None at = refl
          each i (Some k) at =
              let door : Telling.in_door d s i ≡ Some k = ap Telling.joined at in
              let is : link_in net st s i ≡ link_through net.links (Some k) = kept.laid.in_doors s i ∙ ap (link_through net.links) door in
              over_is (Telling.through d.wires (Some k)) (link_through net.links (Some k)) (through_is (Some k)) ∙ ap (is_over st) (sym is) ∙ by_link i (link_in net st s i) refl

  -- What the want's answer tells

  by_want : (s : Who) (k : ℕ) (w : Option Want) → ((l : ℤ) → w ≡ Some (Commit l) → IsLevel l) →
      Telling.seen_by d s k (asked w) ≡ option_map told (answer (sight_of net st left s) k w)
  by_want s k None levels = refl
  by_want s k (Some (Commit l)) levels = told_if (k == 0) (Telling.up_seen l (Telling.level_code d l)) (up_answer l (level_of net st left s l)) (ap (Telling.up_seen l) (code_is s l (levels l refl)) ∙ told_up l (level_of net st left s l))
  by_want s k (Some (Read i)) levels =
      let hand = at_hand net st left (link_in net st s i) in
      let over = is_over st (link_in net st s i) in
      told_if (k == i) (Telling.read_seen i (Telling.shows (Telling.wire_in d s i)) (Telling.is_over (Telling.wire_in d s i))) (read_answer i hand over)
      (ap (λ z. Telling.read_seen i z (Telling.is_over (Telling.wire_in d s i))) (shows_is (Telling.wire_in d s i) (link_in net st s i) (in_same s i))
      ∙ ap (λ z. Telling.read_seen i (is_some hand) z) (over_is (Telling.wire_in d s i) (link_in net st s i) (in_same s i)) ∙ told_read i hand over)
  by_want s k (Some Any) levels =
      let hand = at_hand net st left (link_in net st s k) in
      ap (λ z. Telling.any_seen k z ((k == 0) && Telling.all_over d s)) (shows_is (Telling.wire_in d s k) (link_in net st s k) (in_same s k))
      ∙ ap (λ z. Telling.any_seen k (is_some hand) ((k == 0) && z)) (all_over_is s) ∙ told_any k hand ((k == 0) && all_over net st s)
  by_want s k (Some Gate) levels =
      let hand = at_hand net st left (link_in net st s k) in
      ap (λ z. Telling.read_seen k z ((k == 0) && Telling.is_over (Telling.wire_in d s k))) (shows_is (Telling.wire_in d s k) (link_in net st s k) (in_same s k))
      ∙ ap (λ z. Telling.read_seen k (is_some hand) ((k == 0) && z)) (over_is (Telling.wire_in d s k) (link_in net st s k) (in_same s k)) ∙ told_read k hand ((k == 0) && is_over st (link_in net st s k))
  by_want s k (Some (Take i)) levels = told_if (k == i) (Some (Told.Took i)) (Some (Took i)) refl
  by_want s k (Some (Write o r)) levels =
      let put = may_put st (link_out net st s o) in
      let refuse = may_refuse st (link_out net st s o) in
      told_if (k == o) (Telling.write_seen o (Telling.can_put (Telling.wire_out d s o)) (Telling.can_refuse (Telling.wire_out d s o))) (write_answer o r put refuse)
      (ap (λ z. Telling.write_seen o z (Telling.can_refuse (Telling.wire_out d s o))) (put_is (Telling.wire_out d s o) (link_out net st s o) (out_same s o))
      ∙ ap (λ z. Telling.write_seen o put z) (refuse_is (Telling.wire_out d s o) (link_out net st s o) (out_same s o)) ∙ told_write o r put refuse)
  by_want s k (Some Prime) levels =
      let primed = primed_by (past st (first_part net st s)) in
      told_if (k == 0) (Telling.primed_seen (Telling.primed_at d s)) (primed_answer primed) (ap Telling.primed_seen (primed_is s) ∙ told_primed primed)
  by_want s k (Some (Issue text)) levels = told_none (k == 0)
  by_want s k (Some (Join u)) levels = told_none (k == 0)
  by_want s k (Some (Sever i)) levels = told_if (k == i) (Some (Told.Cut i)) (Some (Severed i)) refl
  by_want s k (Some (Done c)) levels = told_if (k == 0) (Some (Told.Ended c)) (Some (Ended c)) refl

  pub seen_is : (s : Who) (k : ℕ) → Telling.seen_at d s k ≡ option_map told (licence net st left s k)
  seen_is s k = ap (Telling.seen_by d s k) (ask_is s) ∙ by_want s k (want_at net st left s) (kept.early s)
