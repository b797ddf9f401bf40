-- What a raise of the length word adds to the view of the holder.
use Rattle.std.proofs.Common.{◌≡◌, ℕ, ◌+◌, ◌++◌, List, length, ap, ◌∙◌, arith}
use Rattle.board.specs.Counts.{times, places, places_after}
use Rattle.board.specs.Rule.{Kept, Slot, made_since, HasMade}
use Rattle.board.specs.Plays.{held_length, new_places, after_raise}
use Rattle.board.specs.Pass.{HasParts}
use Rattle.board.specs.declared.view.View.{View}
use Rattle.board.proofs.Sums.{times-append, places-parts}
use Rattle.board.proofs.Prefixes.{prefix_length}

module _ (v : View) (h k : Kept) (home lost : List ℕ) (t : HasMade v h k home lost) where
  -- the new places are those of the entries that the holder made
  pub new_is : new_places v k ≡ made_since h k
  new_is = ap (λ (z : Slot). places_after (held_length z) (length k.0.journal)) t.held

  pub mine_more : (p : ℕ) → times p (v.mine ++ new_places v k) ≡ times p v.mine + times p (made_since h k)
  mine_more p = times-append p v.mine (new_places v k) ∙ ap (λ (l : List ℕ). times p v.mine + times p l) new_is

  pub places_more : (p : ℕ) → times p (places (length k.0.journal)) ≡ times p (places (length h.0.journal)) + times p (made_since h k)
  places_more p = places-parts p (length h.0.journal) (length k.0.journal) (prefix_length h.0.journal k.0.journal t.journal)

  -- the places that are home and those that are lost are still among those made
  pub raised_parts : HasParts (after_raise home lost v k)
  raised_parts p = let all = t.parts p in let a = times-append p v.home home in let b = times-append p v.lost lost in let c = mine_more p in omega arith
