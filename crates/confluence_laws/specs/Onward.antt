-- Nets that never stall, whatever their strands read.
use Rattle.std.specs.Prelude.{Bool, true, false, ◌&&◌, not, nat_lt}
use Rattle.std.specs.List.{list_all}
use Rattle.pipe_model.specs.declared.net.Net.{Net}
use Rattle.pipe_model.specs.declared.net.Strand.{Strand}
use Rattle.pipe_model.specs.Plain.{is_acyclic}
use Rattle.pipe_model.specs.Shape.{Shape}
use Rattle.pipe_model.specs.Shape.Shape.{Absent, Sources, Lists, Sinks, Firsts, Turns, Rounds, Gates, Dams, Queues}
use Rattle.pipe_model.specs.Table.{line_of}

-- a strand of the shape never waits for a record of one input while it leaves another one standing
abbrev pub takes_any_of : Strand → Shape → Bool
takes_any_of p Absent = true
takes_any_of p (Sources pairs) = true
takes_any_of p (Lists order t) = nat_lt p.ports.inputs 2
takes_any_of p (Sinks keeping) = nat_lt p.ports.inputs 2
takes_any_of p (Firsts width outs) = true
takes_any_of p (Turns width t) = false
takes_any_of p (Rounds width t) = false
takes_any_of p Gates = false
takes_any_of p Dams = false
takes_any_of p Queues = nat_lt p.ports.inputs 2

abbrev pub takes_any : Strand → Bool
takes_any p = takes_any_of p (line_of p.kind).shape

-- so do all strands, and nothing leads back to a strand or through a queue
abbrev pub is_onward : Net → Bool
is_onward net = is_acyclic net && (list_all (λ link. not link.queue) net.links && list_all takes_any net.strands)
