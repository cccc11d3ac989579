-- The ten queues by number.
use Rattle.std.specs.Prelude.{ℕ, ◌+◌}
use Rattle.zio_types.specs.declared.request.Kind.{Kind}
use Rattle.zio_types.specs.declared.request.Kind.TheVariants.{Null, Read, Write, Free, Claim}
use Rattle.zio_tasks.specs.declared.queue.QueueId.{QueueId}
use Rattle.zio_tasks.specs.declared.queue.QueueId.TheVariants.{Issue, Interrupt}

-- the kinds in their order
abbrev pub kind_place : Kind → ℕ
kind_place Null = 0
kind_place Read = 1
kind_place Write = 2
kind_place Free = 3
kind_place Claim = 4

-- a queue's number: the issue queues by kind, and then the interrupt queues
abbrev pub place_of : QueueId → ℕ
place_of (Issue k) = kind_place k
place_of (Interrupt k) = 5 + kind_place k
