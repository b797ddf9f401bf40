-- The place that is reserved in the queue of a connector.
use Rattle.std.specs.Prelude.{◌≡◌, Option, Some, None, Bool, false, if◌then◌else◌}
use Rattle.record_pool.specs.Queues.{QueueState}

-- of a rendezvous none; of a queue one or none, and no other
abbrev pub HasRoom : Option QueueState → Bool → Type 0
HasRoom None reserved = reserved ≡ false
HasRoom (Some queue) reserved = queue.reserved ≡ (if reserved then 1 else 0)
