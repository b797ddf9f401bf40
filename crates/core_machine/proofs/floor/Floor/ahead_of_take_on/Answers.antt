-- The producer of the record that was taken may put it, and nobody below it may go on.
use Rattle.std.proofs.Common.{false, refl}
use Rattle.pipe_model.specs.declared.step.Seen.TheVariants.{Put}
use Rattle.core_machine.specs.declared.floor.Ahead.TheVariants as Known
use Rattle.core_machine.proofs.Aheads.{known_of, put_next}
use Rattle.core_machine.proofs.floor.Floor.ahead_of_take_on.Goals as goal

pub returns : goal.returns
returns c = λ d pool k i j asked gone door its_is plain silent.
    let f = c.args.self.now in
    let link = c.args.its in
    known_of f.desk (Known.Put link.from link.output false) (link.from, link.output, Put link.output) refl
    (put_next f.net d pool c.args.strand k i asked f.desk f.pool gone plain silent j link door its_is c.if-its.false c.if-its-strand.false)
