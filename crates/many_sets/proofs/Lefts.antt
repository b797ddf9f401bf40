-- What turns leave of the passes of a worker.
use Rattle.std.proofs.Common.{◌≡◌, ℕ, ◌<◌, Bool, List, [], ◌∷◌, ◌++◌, length, get_or, set, take, drop, refl, sym, ◌∙◌, subst, ◌⊎◌, inl, inr, arith}
use Rattle.std.proofs.lemmas.Bool.{cases_eq}
use Rattle.std.proofs.lemmas.List.{get_or_default, get_or-set_same, get_or-set_other, length-set, take_at}
use Rattle.board.specs.Names.{view}
use Rattle.board.specs.declared.board.Board.{Board}
use Rattle.board.specs.declared.pass.Pass.{Pass}
use Rattle.workers.specs.Hands.{LeftTo}
use Rattle.workers.proofs.AfterTurns.{worked_none, worked_more}
use Rattle.workers.specs.Work.{TurnsSo}
use Rattle.workers.specs.declared.turns.AfterTurn.TheVariants.{Done}
use Rattle.many_sets.specs.Hands.{AreLeftTo, HasTurnedOn, MayWorkOn}

left_more : (p q r : Pass) → LeftTo p q → LeftTo q r → LeftTo p r
left_more p q r a b = record {
  board = b.board ∙ a.board;
  tries = b.tries;
  settled = b.settled;
  worked = worked_more (view p) (view q) (view r) a.worked b.worked;
}

pub all_left_more : (old mid new : List Pass) → AreLeftTo old mid → AreLeftTo mid new → AreLeftTo old new
all_left_more old mid new a b = record {
  len = b.len ∙ a.len;
  each = λ j d below.
      let len = a.len in
      left_more (get_or old j d) (get_or mid j d) (get_or new j d) (a.each j d below) (b.each j d (omega arith));
}

module _ {S : Type 0} (boards : List (Board S)) where
  -- a pass that wasn't used
  same_left : (old : List Pass) (j : ℕ) (b : Board S) (d : Pass) → MayWorkOn boards old → j < length boards → LeftTo (get_or old j d) (get_or old j d)
  same_left old j b d may below = let m = may.each j b d below in record { board = refl; tries = m.tries; settled = m.settled; worked = worked_none (view (get_or old j d)) }

  some_board : (j : ℕ) → j < length boards → Board S
  some_board j below = first boards below
    where
      first : (l : List (Board S)) → j < length l → Board S
      first [] h = absurd (omega arith)
      first (b ∷ l) h = b

  pub none_left : (old : List Pass) → MayWorkOn boards old → AreLeftTo old old
  none_left old may = record {
    len = refl;
    each = λ j d below.
        let long = may.long in let in_boards : j < length boards = omega arith in
        same_left old j (some_board j in_boards) d may in_boards;
  }

  -- one pass made a turn
  pub one_left : (old : List Pass) (at : ℕ) (d new : Pass) → MayWorkOn boards old → at < length boards → LeftTo (get_or old at d) new → AreLeftTo old (set old at new)
  one_left old at d new may here turn = record {
    len = length-set old at new;
    each = λ j e below. let long = may.long in by j e (omega arith) (cases_eq j at);
  }
    where
      by : (j : ℕ) (e : Pass) → j < length boards → (j ≡ at) ⊎ (j ≡ at → ⊥) → LeftTo (get_or old j e) (get_or (set old at new) j e)
      by j e below (inl is) = subst (λ (k : ℕ). LeftTo (get_or old k e) (get_or (set old at new) k e)) (sym is)
          (let long = may.long in let there : at < length old = omega arith in
          subst (λ (p : Pass). LeftTo p (get_or (set old at new) at e)) (get_or_default old at d e there) (subst (LeftTo (get_or old at d)) (sym (get_or-set_same old at new e there)) turn))
      by j e below (inr other) = subst (LeftTo (get_or old j e)) (sym (get_or-set_other old at j new e other)) (same_left old j (some_board j below) e may below)

  -- and it is done
  pub turned_on : (sights : Bool) (old : List Pass) (at : ℕ) (d new : Pass) (before after : ℕ) → MayWorkOn boards old → at < length boards
      → TurnsSo sights Done (view (get_or old at d)) before (view new) after → HasTurnedOn sights at old before (set old at new) after
  turned_on sights old at d new before after may here turn =
      let long = may.long in let there : at < length old = omega arith in (
        there,
        λ e. subst (λ (p : Pass). TurnsSo sights Done (view (get_or old at e)) before (view p) after) (sym (get_or-set_same old at new e there))
            (subst (λ (p : Pass). TurnsSo sights Done (view p) before (view new) after) (get_or_default old at d e there) turn),
      )

  pub may_on : (old new : List Pass) → MayWorkOn boards old → AreLeftTo old new → MayWorkOn boards new
  may_on old new may left = record {
    long = left.len ∙ may.long;
    each = λ j b d below.
        let long = may.long in let m = may.each j b d below in let l = left.each j d (omega arith) in
        record { board = l.board ∙ m.board; tries = l.tries; settled = l.settled };
  }

  -- the passes were lent for a turn
  pub lent_left : (first items lent new : List Pass) (n : ℕ) → lent ≡ items → length lent ≡ n → MayWorkOn boards items → AreLeftTo first items → AreLeftTo lent new
      → MayWorkOn boards (take n (new ++ drop (length new) items)) × AreLeftTo first (take n (new ++ drop (length new) items))
  lent_left first items lent new n is len may left turn =
      let back : take n (new ++ drop (length new) items) ≡ new = take_at new (drop (length new) items) n (turn.len ∙ len) in
      let made : AreLeftTo items new = subst (λ (l : List Pass). AreLeftTo l new) is turn in
      (subst (MayWorkOn boards) (sym back) (may_on items new may made), subst (AreLeftTo first) (sym back) (all_left_more first items new left made))
