use Rattle.std.proofs.Common.{◌∙◌, ◌++◌, ◌<◌, take, length, arith, length-append}
use Rattle.std.proofs.KnownBytes.{Consumes-trans}
use Rattle.std.proofs.lemmas.List.{length-take}
use Rattle.call_streams.proofs.read.read_all.Goals as goal

pub returns-then-count-limit : goal.returns-then-count-limit
returns-then-count-limit g c =
    let read = c.in-Bytes.ensures.bytes in
    let past : c.args.limit < length (c.loop-bytes.bytes.items ++ take c.in-Bytes.count c.read.new.room) =
    omega (arith, read.1, length-append c.loop-bytes.bytes.items (take c.in-Bytes.count c.read.new.room), length-take c.in-Bytes.count c.read.new.room) in
    record {
      given = _;
      gave = Consumes-trans (g.I.Source.left c.args.input.now) (g.I.Source.left c.loop-bytes.input) (g.I.Source.left c.read.new.self) _ _ c.loop-bytes.invariant.gave read.2;
      stops = (past, c.in-Bytes.ensures.count ∙ c.loop-bytes.invariant.steady);
    }

pub returns-then-is_err : goal.returns-then-is_err
returns-then-is_err g c =
    let read = c.in-Bytes.ensures.bytes in
    record {
      given = _;
      gave = Consumes-trans (g.I.Source.left c.args.input.now) (g.I.Source.left c.loop-bytes.input) (g.I.Source.left c.read.new.self) _ _ c.loop-bytes.invariant.gave read.2;
      stops = c.in-Bytes.ensures.count ∙ c.loop-bytes.invariant.steady;
    }
