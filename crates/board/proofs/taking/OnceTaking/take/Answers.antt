use Rattle.std.proofs.Common.{rules}
use Rattle.board.proofs.Keeps.{tries}
use Rattle.board.proofs.taking.OnceTaking.take.Goals as goal

pub fetch_add-requires : goal.fetch_add-requires
fetch_add-requires g c = let i = c.requires.rest in (c.requires.id, search rules, tries _ _ c.args.seat.now.me i.tries i.held)
