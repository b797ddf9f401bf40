-- Which strands wait at the end of a run, and for what.
use Rattle.std.specs.Prelude.{List, option_map, option_and_then}
use Rattle.std.specs.List.{filter_map}
use Rattle.std.specs.declared.option.Option.{Option}
use Rattle.std.specs.declared.option.Option.TheVariants.{Some, None}
use Rattle.pipe_model.specs.Event.{Want}
use Rattle.pipe_model.specs.Event.Want.{Commit, Read, Any, Gate, Take, Write, Prime, Issue, Join, Sever, Done}
use Rattle.pipe_model.specs.Reply.{WaitLine as Waiter}
use Rattle.stall_report.specs.declared.lines.WaitLine.{WaitLine}
use Rattle.stall_report.specs.declared.lines.WaitWant.{WaitWant}
use Rattle.stall_report.specs.declared.lines.WaitWant.TheVariants as For

-- what a strand waits for that wants this: nobody keeps it from taking, issuing, severing or ending
abbrev pub waited : Want → Option WaitWant
waited (Commit level) = Some (For.Commit level)
waited (Read i) = Some (For.Read i)
waited Any = Some For.Any
waited Gate = Some For.Gate
waited (Write o rec) = Some (For.Write o)
waited Prime = Some For.Primed
waited (Join k) = Some (For.Join k)
waited (Take i) = None
waited (Issue text) = None
waited (Sever s) = None
waited (Done code) = None

-- the line of a strand, by its number and what it wants
abbrev pub wait_line : Waiter → Option WaitLine
wait_line waiter = option_map (λ want. record { strand = waiter.0; want = want }) (option_and_then waited waiter.1)

-- the lines of strands that haven't ended, as a reply tells them
abbrev pub wait_lines : List Waiter → List WaitLine
wait_lines waiters = filter_map wait_line waiters
