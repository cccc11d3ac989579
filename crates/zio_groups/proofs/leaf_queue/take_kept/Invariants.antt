use Rattle.std.proofs.Common.{◌≡◌, ℕ, ◌≤◌, [], false, length, map, nat_eq, take, unwrap_or}
use Rattle.std.specs.HashMap.{get}
use Rattle.zio_vqueue.specs.Queues.{is_queued}
use Rattle.zio_groups.specs.LeafQueues.{kept_with}
use Rattle.zio_groups.proofs.leaf_queue.take_kept.Given as goal

abbrev pub invariant-loop-op : goal.invariant-loop-op
invariant-loop-op l =
    (l.members ≡ map (kept_with (get nat_eq l.fn.kept)) (take l.op-index l.ops))
    × ((ticket : ℕ) → is_queued ticket (take l.op-index l.ops) ≡ false → get nat_eq l.kept ticket ≡ get nat_eq l.fn.kept ticket)
    × ((ticket : ℕ) → length (unwrap_or (get nat_eq l.kept ticket) []) ≤ length (unwrap_or (get nat_eq l.fn.kept ticket) []))
