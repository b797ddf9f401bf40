-- The strands that wait.
use Rattle.std.specs.Prelude.{not, List, length, map, filter}
use Rattle.std.specs.List.{range_with_len}
use Rattle.pipe_model.specs.declared.net.Net.{Net}
use Rattle.pipe_model.specs.Event.{has_ended}
use Rattle.pipe_model.specs.Licence.{none_left, want_at}
use Rattle.pipe_model.specs.Reply.{WaitLine}
use Rattle.pipe_model.specs.State.{State, Who, past}

-- the strands that haven't ended, by their numbers
abbrev pub waiting : Net → State → List Who
waiting net st = filter (λ s. not (has_ended (past st s))) (range_with_len 0 (length net.strands))

-- a line for each of them, with what it wants
abbrev pub waiters : Net → State → List WaitLine
waiters net st = map (λ s. (s, want_at net st none_left s)) (waiting net st)
