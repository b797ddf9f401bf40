-- What a clause says of a pass and of a board.
use Rattle.atomic_table.specs.Seated.{TableId}
use Rattle.board.specs.declared.view.View.{View}
use Rattle.board.specs.declared.pass.Pass.{Pass}
use Rattle.board.specs.declared.board.Board.{Board}
use Rattle.board.specs.Pass.{the_view}

-- what the pass knows
abbrev pub view : Pass → View
view p = the_view p.badge.views

-- the board whose pass it is
abbrev pub board_of : Pass → TableId
board_of p = p.badge.table_id

-- the name of a board
abbrev pub board_id : {S : Type 0} → Board S → TableId
board_id b = b.table.shared.table_id
