-- What a queue of records stands for.
use Rattle.std.specs.Prelude.{ℕ, ◌+◌, ◌-◌, List, [], ◌∷◌, ◌++◌, drop}

-- the grips of the records that wait, the oldest first, and how many further places are reserved
pub record QueueState : Type 0 where
  pub waiting : List ℕ
  pub reserved : ℕ

-- a queue in which nothing waits
abbrev pub empty_queue : QueueState
empty_queue = record { waiting = []; reserved = 0 }

-- with one reserved place more, and with one less
abbrev pub with_place : QueueState → QueueState
with_place queue = record queue { reserved = queue.reserved + 1 }

abbrev pub without_place : QueueState → QueueState
without_place queue = record queue { reserved = queue.reserved - 1 }

-- after a record was put behind the others, at a reserved place
abbrev pub pushed : QueueState → ℕ → QueueState
pushed queue grip = record { waiting = queue.waiting ++ grip ∷ []; reserved = queue.reserved - 1 }

-- after the oldest record left it, whose place is reserved again
abbrev pub popped : QueueState → QueueState
popped queue = record { waiting = drop 1 queue.waiting; reserved = queue.reserved + 1 }
