-- The passes of many workers, which are parts of one. It serves the inside.
use Rattle.std.specs.Prelude.{◌≡◌, ℕ, ◌<◌, List, sum_by}
use mathlib.Core.List.{IsPrefix}
use Rattle.atomic_table.specs.Seated.{TableId}
use Rattle.board.specs.Names.{view, board_of}
use Rattle.board.specs.declared.view.View.{View}
use Rattle.board.specs.declared.pass.Pass.{Pass}
use Rattle.workers.specs.declared.hands.Hand.{Hand}
use Rattle.workers.specs.Work.{IsSettled, HasWorked}

-- the pass may work on the board z
pub record MayWork (z : TableId) (p : Pass) : Type 0 where
  pub board : board_of p ≡ z
  pub tries : 0 < (view p).tries
  pub settled : IsSettled (view p)

-- the one pass is what the other one was before it worked
pub record LeftTo (old new : Pass) : Type 0 where
  pub board : board_of new ≡ board_of old
  pub tries : 0 < (view new).tries
  pub settled : IsSettled (view new)
  pub worked : HasWorked (view old) (view new)

-- the pass may work on the board z, and knows what the pass of the view v knew
pub record IsWorker (z : TableId) (v : View) (p : Pass) : Type 0 where
  pub may : MayWork z p
  pub net : ((view p).net ≡ v.net) × ((view p).budget ≡ v.budget)
  pub seen : IsPrefix v.seen (view p).seen

-- the shares of all
abbrev pub shares_of : List Hand → ℕ
shares_of hands = sum_by (λ (h : Hand). (view h.pass).shares) hands

-- the tries of all
abbrev pub tries_of : List Hand → ℕ
tries_of hands = sum_by (λ (h : Hand). (view h.pass).tries) hands

-- the fewest tries that a worker begins with: a 64th of all that there are
abbrev pub worker_tries : ℕ
worker_tries = 144115188075855872
